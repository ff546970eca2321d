use Rattle.std.proofs.Common.{◌≡◌, true, take}
use Rattle.std.specs.List.{list_all}
use Rattle.graph_terms.specs.Graph.{is_merge_ignore, line_passes}
use Rattle.race_check.proofs.release_faults.stands_on_merges.Given as goal

abbrev pub invariant-loop-source : goal.invariant-loop-source
invariant-loop-source l = list_all (line_passes is_merge_ignore l.graph) (take l.source-index l.on) ≡ true
