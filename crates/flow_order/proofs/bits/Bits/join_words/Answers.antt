use Rattle.std.proofs.Common.{◌+◌, max, refl, arith}
use Rattle.flow_order.proofs.BitSteps.{joined_words}
use Rattle.flow_order.proofs.bits.Bits.join_words.Goals as goal

pub returns-clause-bits : goal.returns-clause-bits
returns-clause-bits c = joined_words c.args.self.now c.args.words.now c.self.inside.words.items c.loop-i.self-inside.words.items c.args.place c.self.inside.full (max c.args.place c.self.inside.full) (c.args.place + c.loop-i.i) c.self.view_is c.self.invariant.all
    refl (let t = c.loop-i-test.false in omega (arith, t)) c.loop-i.invariant.words
