use Rattle.graph_meaning.specs.Rules.{DescendsAt}
use Rattle.sweep_base.specs.BlockRules.{IsLeast}
use Rattle.race_check.proofs.descends.first_climbing_in.Given as goal

abbrev pub invariant-loop-line : goal.invariant-loop-line
invariant-loop-line l = record { least : IsLeast (DescendsAt l.graph) l.first l.limit l.found l.line }
