use Rattle.std.proofs.Common.{◌≡◌, ℕ, take}
use Rattle.std.specs.Prelude.{Contains}
use Rattle.space_classes.specs.Classes.{label}
use Rattle.space_classes.proofs.classes.has_class.Given as goal

abbrev pub invariant-loop-first : goal.invariant-loop-first
invariant-loop-first l = (a : ℕ) → Contains (take l.first-index l.firsts) a → label l.labels a ≡ l.wanted → ⊥
