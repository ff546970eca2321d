use Rattle.std.proofs.Common.{◌≡◌, ℕ, [], length}
use Rattle.std.specs.Prelude.{Some, Vec, slice_get}
use Rattle.std.specs.Global.{Global}
use Rattle.sweep_base.specs.declared.line_sections.Kept.{Kept}
use Rattle.sweep_base.proofs.line_sections.Held.new.Given as goal

abbrev pub invariant-loop-line : goal.invariant-loop-line
invariant-loop-line l = record { size : length l.lists.items ≡ l._line; none : (i : ℕ) (v : Vec Kept Global) → slice_get l.lists.items i ≡ Some v → v.items ≡ [] }
