use Rattle.std.proofs.Common.{◌≡◌, ◌<◌, ◌≤◌, ◌-◌, ℕ}
use Rattle.std.specs.Prelude.{slice_index}
use Rattle.flow_order.proofs.row.full_words.Given as goal

abbrev pub invariant-loop-full : goal.invariant-loop-full
invariant-loop-full l = record {
  within : l.full ≤ l.used;
  all : (w : ℕ) → w < l.full → slice_index l.words w ≡ 18446744073709551615;
}

abbrev pub decreases-loop-full : goal.decreases-loop-full
decreases-loop-full l = l.used - l.full
