use Rattle.std.proofs.Common.{◌≡◌, map, take}
use Rattle.graph_meaning.specs.Evaluation.{answer_of}
use Rattle.plain_eval.proofs.evaluation.answers_of.Given as goal

abbrev pub invariant-loop-end : goal.invariant-loop-end
invariant-loop-end l = record { so_far : l.answers.items ≡ map answer_of (take l.end-index l.ends) }
