use Rattle.std.proofs.Common.{◌≡◌, ◌<◌, ℕ, false}
use Rattle.graph_terms.specs.Graph.{never_comes}
use Rattle.slot_need.proofs.need.all_come.Given as goal

abbrev pub invariant-loop-line : goal.invariant-loop-line
invariant-loop-line l = (i : ℕ) → i < l.line → never_comes l.graph i ≡ false
