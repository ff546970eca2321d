use Rattle.std.proofs.Common.{◌≡◌, map}
use Rattle.basics.specs.Lists.{numbers_below}
use Rattle.plain_eval.specs.Phases.{first_reduction}
use Rattle.plain_eval.proofs.phases.first_reductions.Given as goal

abbrev pub invariant-loop-line : goal.invariant-loop-line
invariant-loop-line l = record { so_far : l.reductions.items ≡ map (first_reduction l.graph) (numbers_below l.line) }
