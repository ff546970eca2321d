use Rattle.std.proofs.Common.{ℕ, List, ◌<◌, ◌≤◌, ◌-◌}
use Rattle.std.specs.Prelude.{Contains}
use Rattle.word_steps.specs.Claims.{TakenShare}
use Rattle.word_steps.specs.Layout.{size_of, share_word}
use Rattle.word_loads.specs.Gathering.{after, IsGathered}
use Rattle.word_steps.specs.Table.{graph_of, IsSeatOf}
use Rattle.word_loads.proofs.taking.gather.Given as goal

abbrev pub invariant-loop-j : goal.invariant-loop-j
invariant-loop-j l = record {
  at : IsSeatOf l.table l.seat;
  few : l.j ≤ l.count;
  gathered : (found : List (ℕ × ℕ)) × (ss : List TakenShare) × IsGathered (graph_of l.table) l.c l.j ss l.all (after found l.fn.seat.me) l.seat.me
      × ((i : ℕ) → i < l.j → Contains found (share_word (size_of (graph_of l.table)) l.c i, 0));
}

abbrev pub decreases-loop-j : goal.decreases-loop-j
decreases-loop-j l = l.count - l.j
