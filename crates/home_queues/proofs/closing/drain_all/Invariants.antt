use Rattle.std.proofs.Common.{◌≡◌, ℕ, ◌+◌, ◌*◌, ◌<◌, ◌≤◌, All, length}
use Rattle.std.specs.Prelude.{slice_index}
use Rattle.basics.specs.Sums.{total, only}
use Rattle.home_queues.specs.Closing.{IsOwner, put_by, taken_by, AllHave}
use Rattle.home_queues.proofs.closing.drain_all.Given as goal

abbrev pub invariant-loop-owner : goal.invariant-loop-owner
invariant-loop-owner l = record {
  owners : All (IsOwner l.lines) l.owners.items;
  shares : AllHave 9 l.owners.items;
  within : length l.owners.items ≤ 8;
  len : length l.left.each ≡ l.lines;
  all : l.left.all + 1152921504606846976 * length l.owners.items ≤ 9223372036854775808;
  counted : (x : ℕ) → x < l.lines → (slice_index l.left.each x + total (put_by (only x)) l.owners.items) + total (taken_by (only x)) l.initial.owners.items ≡ total (taken_by (only x)) l.owners.items + total (put_by (only x)) l.initial.owners.items;
}

abbrev pub decreases-loop-owner : goal.decreases-loop-owner
decreases-loop-owner l = length l.owners.items
