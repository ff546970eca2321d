use Rattle.std.proofs.Common.{◌↔◌, ◌+◌, ◌-◌, ◌≤◌, length, drop}
use Rattle.index_spaces.specs.Space.{IsWithin}
use Rattle.index_spaces.proofs.space.merges.covers.Given as goal

abbrev pub invariant-loop-a : goal.invariant-loop-a
invariant-loop-a l = record {
  rest : IsWithin l.inner l.outer ↔ IsWithin (drop l.a l.inner) (drop l.b l.outer);
  within : l.a ≤ length l.inner;
}

abbrev pub decreases-loop-a : goal.decreases-loop-a
decreases-loop-a l = length l.inner - l.a + (length l.outer - l.b)
