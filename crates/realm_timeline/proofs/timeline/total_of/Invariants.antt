use Rattle.std.proofs.Common.{◌≡◌, ◌*◌, ◌≤◌}
use Rattle.std.specs.Prelude.{sum_by}
use Rattle.basics.specs.Lists.{numbers_below}
use Rattle.realm_timeline.specs.Plan.{planned_cost}
use Rattle.realm_timeline.proofs.timeline.total_of.Given as goal

abbrev pub invariant-loop-line : goal.invariant-loop-line
invariant-loop-line l = record {
  total : l.total ≡ sum_by (planned_cost l.graph l.slots) (numbers_below l.line);
  few : l.total ≤ 68719476736 * l.line;
}
