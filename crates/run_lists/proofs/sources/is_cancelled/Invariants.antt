use Rattle.std.proofs.Common.{◌≡◌, false, map, take}
use Rattle.std.specs.List.{list_any}
use Rattle.run_lists.specs.Stages.{shown_stage}
use Rattle.run_lists.proofs.SourceFacts.{cancels_by}
use Rattle.run_lists.proofs.sources.is_cancelled.Given as goal

abbrev pub invariant-loop-edge : goal.invariant-loop-edge
invariant-loop-edge l = record { none : list_any (cancels_by (map shown_stage l.stages)) (take l.edge-index l.edge-items) ≡ false }
