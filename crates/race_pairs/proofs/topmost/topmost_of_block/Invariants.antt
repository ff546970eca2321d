use Rattle.sweep_base.specs.BlockRules.{IsLeast}
use Rattle.race_pairs.specs.Topmost.{races_with}
use Rattle.race_pairs.proofs.topmost.topmost_of_block.Given as goal

abbrev pub invariant-loop-line : goal.invariant-loop-line
invariant-loop-line l = record { least : IsLeast (races_with l.graph) l.start l.limit l.found l.line }
