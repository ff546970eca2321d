use Rattle.std.proofs.Common.{◌≡◌, ◌-◌, All, length}
use Rattle.home_queues.specs.Opening.{IsFresh, IsRow, owner_deques}
use Rattle.home_queues.proofs.opening.new_rows.Given as goal

abbrev pub invariant-loop-row : goal.invariant-loop-row
invariant-loop-row l = record {
  deques : owner_deques l.owners.items ≡ owner_deques l.initial.owners.items;
  fresh : All (IsFresh l.lines (9 - l._row)) l.owners.items;
  rows : length l.rows.items ≡ l._row;
  each : All (IsRow l.lines (owner_deques l.initial.owners.items)) l.rows.items;
}
