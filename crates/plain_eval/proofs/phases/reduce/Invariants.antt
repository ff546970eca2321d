use Rattle.std.proofs.Common.{◌≡◌, length, map}
use Rattle.basics.specs.Lists.{numbers_below}
use Rattle.plain_eval.specs.Phases.{reduction_after}
use Rattle.plain_eval.proofs.phases.reduce.Given as goal

abbrev pub invariant-loop-line : goal.invariant-loop-line
invariant-loop-line l = record { so_far : l.reductions.items ≡ map (reduction_after l.graph l.line) (numbers_below (length l.graph.lines)) }
