use Rattle.std.proofs.Common.{sym, arith}
use Rattle.run_lists.proofs.HandleFacts.{marked_free}
use Rattle.run_lists.proofs.events.LineEvents.of_free.Goals as goal

pub invariant_of-result : goal.invariant_of-result
invariant_of-result c = record {
  marked = marked_free c.args.table c.filled_within.result.items c.args.lines c.filled_within.ensures.items (sym c.requires.lines.0) c.requires.free;
  room = omega (arith, c.requires.lines.0, c.requires.room.0);
  each = omega (arith, c.requires.lines.0, c.requires.each);
  waiters = omega (arith, c.requires.lines.0, c.requires.lines.1);
  slots = c.requires.slots;
}
