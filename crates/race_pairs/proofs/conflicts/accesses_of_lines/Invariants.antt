use Rattle.std.proofs.Common.{◌≡◌, ℕ, length}
use Rattle.std.specs.Prelude.{Vec, Some, slice_get}
use Rattle.std.specs.Global.{Global}
use Rattle.graph_terms.specs.declared.verb.Access.{Access}
use Rattle.graph_terms.specs.Access.{all_accesses}
use Rattle.race_pairs.proofs.conflicts.accesses_of_lines.Given as goal

abbrev pub invariant-loop-line : goal.invariant-loop-line
invariant-loop-line l = record { count : length l.lists.items ≡ l.line; each : (k : ℕ) (list : Vec Access Global) → slice_get l.lists.items k ≡ Some list → list.items ≡ all_accesses l.graph k }
