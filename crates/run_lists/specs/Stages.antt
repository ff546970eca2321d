-- How far the lines have come, by what is kept of them.
use Rattle.std.specs.Prelude.{ℕ, List}
use Rattle.graph_terms.specs.declared.outcome.End.{End}
use Rattle.run_state.specs.Run.{LineStage, Unissued, Issued, Out, Ended, stage_at, end_so_far}
use Rattle.run_parts.specs.declared.progress.Progress.{Progress}
use Rattle.run_parts.specs.declared.progress.Progress.TheVariants as progress

-- how far a line has come
abbrev pub shown_stage : Progress → LineStage
shown_stage progress.Unissued = Unissued
shown_stage progress.Issued = Issued
shown_stage progress.Out = Out
shown_stage (progress.Ended x) = Ended x

-- the ends that the run keeps
abbrev pub ends_so_far : List LineStage → ℕ → End
ends_so_far stages i = end_so_far (stage_at stages i)
