-- How many lines of a core have come how far.
use Rattle.std.specs.Prelude.{ℕ, Bool, not, ◌&&◌, length}
use Rattle.basics.specs.Lists.{count_below}
use Rattle.graph_terms.specs.Graph.{never_comes}
use Rattle.run_state.specs.Run.{LineStage, stage_at, stage_issued, stage_started, stage_out, stage_ended, ended}
use Rattle.run_core.specs.Core.{CoreValue}
use Rattle.run_parts.specs.declared.answers.Stage.{Stage}
use Rattle.run_parts.specs.declared.answers.Stage.TheVariants.{Unissued, Issued, Out, Ended}

-- whether a line that has come so far is at this stage
abbrev pub has_stage : Stage → LineStage → Bool
has_stage Unissued s = not (stage_issued s)
has_stage Issued s = stage_issued s && not (stage_started s)
has_stage Out s = stage_out s
has_stage Ended s = stage_ended s

-- how many lines are at this stage
abbrev pub lines_at : CoreValue → Stage → ℕ
lines_at c stage = count_below (λ i. has_stage stage (stage_at c.run.stages i)) (length c.graph.lines)

-- how many lines come and have not ended
abbrev pub lines_left : CoreValue → ℕ
lines_left c = count_below (λ i. not (ended c.run.stages i) && not (never_comes c.graph i)) (length c.graph.lines)
