use Rattle.std.proofs.Common.{◌≡◌, ℕ, List, ◌+◌, ◌<◌, ◌≤◌, ◌-◌}
use Rattle.word_loads.specs.Laden.{FoundOther}
use Rattle.share_words.specs.Shares.{share_count}
use Rattle.word_steps.specs.Layout.{size_of, share_word}
use Rattle.word_loads.specs.Gathering.{after, tried_share}
use Rattle.word_steps.specs.Table.{graph_of, IsSeatOf}
use Rattle.word_loads.proofs.taking.take_some_share.Given as goal

abbrev pub invariant-loop-tried : goal.invariant-loop-tried
invariant-loop-tried l = record {
  at : IsSeatOf l.table l.seat;
  few : l.tried ≤ l.readers;
  start : l.first < l.readers;
  count : share_count (graph_of l.table) l.c ≡ l.readers + 1;
  same : l.load ≡ l.fn.load;
  found : (found : List (ℕ × ℕ)) × (l.seat.me ≡ after found l.fn.seat.me) × ((i : ℕ) → i < l.tried → FoundOther l.line (share_word (size_of (graph_of l.table)) l.c (tried_share l.first i l.readers)) found);
}

abbrev pub decreases-loop-tried : goal.decreases-loop-tried
decreases-loop-tried l = l.readers - l.tried
