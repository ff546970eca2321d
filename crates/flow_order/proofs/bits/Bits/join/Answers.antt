use Rattle.flow_order.proofs.BitSteps.{filled_joined}
use Rattle.flow_order.proofs.bits.Bits.join.Goals as goal

pub returns-clause-bits : goal.returns-clause-bits
returns-clause-bits c = filled_joined c.args.self.now c.args.row.now c.parts-full.result.1.now c.fill.new.self c.join_words.new.self c.parts-full.result.0 c.parts-full.ensures.full c.parts-full.ensures.words c.fill.ensures.bits c.join_words.ensures.bits
