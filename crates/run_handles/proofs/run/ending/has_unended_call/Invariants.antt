use Rattle.std.proofs.Common.{◌≡◌, ℕ, ◌<◌, true}
use Rattle.std.specs.Prelude.{◌⊎◌}
use Rattle.graph_meaning.specs.Path.{Reached}
use Rattle.run_state.specs.Run.{ended}
use Rattle.run_handles.specs.Ends.{IsCall}
use Rattle.run_handles.proofs.run.ending.has_unended_call.Given as goal

abbrev pub invariant-loop-line : goal.invariant-loop-line
invariant-loop-line l = (k : ℕ) → k < l.line → IsCall l.core.graph k → (ended l.core.run.stages k ≡ true) ⊎ Reached l.core.graph k
