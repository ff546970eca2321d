use Rattle.graph_meaning.specs.Rules.{RaceAt}
use Rattle.sweep_base.specs.BlockRules.{IsLeast}
use Rattle.race_pairs.proofs.races.first_of_block.Given as goal

abbrev pub invariant-loop-line : goal.invariant-loop-line
invariant-loop-line l = record { least : IsLeast (RaceAt l.graph) l.first l.limit l.found l.line }
