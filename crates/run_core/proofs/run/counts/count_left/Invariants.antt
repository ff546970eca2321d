use Rattle.std.proofs.Common.{◌≡◌, ◌≤◌, map}
use Rattle.std.specs.Prelude.{not, ◌&&◌}
use Rattle.basics.specs.Lists.{count_below}
use Rattle.graph_terms.specs.Graph.{never_comes}
use Rattle.run_state.specs.Run.{ended}
use Rattle.run_lists.specs.Stages.{shown_stage}
use Rattle.run_core.proofs.run.counts.count_left.Given as goal

abbrev pub invariant-loop-line : goal.invariant-loop-line
invariant-loop-line l = record {
  so_far : l.count ≡ count_below (λ i. not (ended (map shown_stage l.stages) i) && not (never_comes l.graph i)) l.line;
  few : l.count ≤ l.line;
}
