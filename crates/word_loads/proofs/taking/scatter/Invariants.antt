use Rattle.std.proofs.Common.{List, ◌<◌, ◌≤◌}
use Rattle.std.specs.Prelude.{Some}
use Rattle.word_steps.specs.Claims.{TakenShare}
use Rattle.word_steps.specs.Plays.{Sat}
use Rattle.word_loads.specs.Gathering.{IsGathered}
use Rattle.word_steps.specs.Table.{graph_of, IsSeatOf}
use Rattle.word_loads.proofs.taking.scatter.Given as goal

abbrev pub invariant-loop-j : goal.invariant-loop-j
invariant-loop-j l = record {
  at : IsSeatOf l.table l.seat;
  up : 0 < l.j;
  few : l.j ≤ l.count;
  each : (m : Sat) (ss : List TakenShare) → IsGathered (graph_of l.table) l.c l.count ss l.fn.all m l.fn.seat.me → (ts : List TakenShare) × IsGathered (graph_of l.table) l.c l.j ts (Some l.rest) m l.seat.me;
}

abbrev pub decreases-loop-j : goal.decreases-loop-j
decreases-loop-j l = l.j
