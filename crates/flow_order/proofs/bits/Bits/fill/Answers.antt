use Rattle.std.proofs.Common.{◌∙◌, ap, max, arith}
use Rattle.flow_order.proofs.BitSteps.{filled_rows, full_more}
use Rattle.flow_order.proofs.bits.Bits.fill.Goals as goal

pub invariant_of-self : goal.invariant_of-self
invariant_of-self c = record {
  none = λ j h. absurd (omega (arith, h));
  all = full_more c.self.inside.words.items c.loop-w.self-inside.words.items c.self.inside.full c.args.full c.loop-w.w c.max-more.result c.self.invariant.all (c.max-more.ensures ∙ ap (λ n. max n c.args.full) c.loop-w.invariant.full) c.loop-w-test.false c.loop-w.invariant.words;
}

pub returns-clause-bits : goal.returns-clause-bits
returns-clause-bits c = filled_rows c.args.self.now c.self.inside.words.items c.loop-w.self-inside.words.items c.self.inside.full c.args.full c.loop-w.w c.self.view_is c.self.invariant.all c.loop-w.invariant.most c.loop-w-test.false c.loop-w.invariant.words
