use Rattle.std.proofs.Common.{◌≡◌, ◌≤◌, length, drop, vec_capacity}
use Rattle.home_queues.specs.Spreading.{Spread}
use Rattle.home_queues.proofs.closing.spread.Given as goal

abbrev pub invariant-loop-part : goal.invariant-loop-part
invariant-loop-part l = record {
  spread : Spread l.lines l.fn.parts.items l.part-iterator.rest.items l.owners.items l.rows.items l.counts.items;
  last : l.part-iterator.rest.items ≡ drop (length l.owners.items) l.fn.parts.items;
  owners_room : 8 ≤ vec_capacity l.owners;
  rows_room : 8 ≤ vec_capacity l.rows;
  counts_room : 8 ≤ vec_capacity l.counts;
}
