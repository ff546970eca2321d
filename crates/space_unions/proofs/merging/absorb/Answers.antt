use Rattle.std.proofs.Common.{ℕ, ◌∙◌, ap, refl, ◌||◌, List, arith}
use Rattle.index_spaces.specs.Space.{has_point, interval_has}
use Rattle.space_unions.proofs.Merged.{ascend_push, after_push, after_joined}
use Rattle.space_unions.proofs.merging.absorb.Goals as goal

pub returns-then-next-last-gt1 : goal.returns-then-next-last-gt1
returns-then-next-last-gt1 c = record {
  points = λ p. ap (λ (xs : List (ℕ × ℕ)). has_point xs p || interval_has c.args.next p) c.in_ok-push.ensures.items ∙ after_push c.args.merged.now.items c.args.last c.args.next p;
  ascending = rw c.in_ok-push.ensures.items (ascend_push 0 c.args.merged.now.items 0 c.args.last c.args.next.0 c.requires.ascending c.requires.last (omega arith) (omega (arith, c.if-next-last.true, c.if-next-last-gt1.true)));
  low = c.requires.next.1;
  begins = omega arith;
}
