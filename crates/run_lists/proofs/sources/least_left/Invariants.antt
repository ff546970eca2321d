use Rattle.std.proofs.Common.{map, take}
use Rattle.run_lists.specs.Stages.{shown_stage}
use Rattle.run_lists.proofs.SourceFacts.{LeastOf}
use Rattle.run_lists.proofs.sources.least_left.Given as goal

abbrev pub invariant-loop-edge : goal.invariant-loop-edge
invariant-loop-edge l = record { so_far : LeastOf (map shown_stage l.stages) (take l.edge-index l.edge-items) l.least }
