use Rattle.std.proofs.Common.{◌≡◌, ℕ, ◌+◌, ◌-◌, ◌≤◌, All, length}
use Rattle.basics.specs.Sums.{total}
use Rattle.home_queues.specs.Closing.{IsOwner, put_by, taken_by, row_taken, AllHave, AllMeet}
use Rattle.home_queues.proofs.closing.gather_all.Given as goal

abbrev pub invariant-loop-row : goal.invariant-loop-row
invariant-loop-row l = record {
  owners : All (IsOwner l.lines) l.owners.items;
  shares : AllHave (9 - length l.rows.items) l.owners.items;
  meet : AllMeet l.lines l.rows.items l.owners.items;
  within : length l.rows.items ≤ 8;
  len : length l.owners.items ≡ length l.initial.owners.items;
  put : (h : ℕ → ℕ) → total (put_by h) l.owners.items ≡ total (put_by h) l.initial.owners.items;
  taken : (h : ℕ → ℕ) → total (taken_by h) l.owners.items + total (row_taken h) l.rows.items ≡ total (taken_by h) l.initial.owners.items + total (row_taken h) l.initial.rows.items;
}

abbrev pub decreases-loop-row : goal.decreases-loop-row
decreases-loop-row l = length l.rows.items
