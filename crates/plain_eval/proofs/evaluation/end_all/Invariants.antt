use Rattle.graph_meaning.specs.Evaluation.{steps_after}
use Rattle.plain_eval.specs.State.{IsState}
use Rattle.plain_eval.proofs.evaluation.end_all.Given as goal

abbrev pub invariant-loop-step : goal.invariant-loop-step
invariant-loop-step l = record { so_far : IsState l.graph (steps_after l.graph l._step) l.state }
