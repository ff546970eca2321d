use Rattle.std.proofs.Common.{◌≡◌, ℕ, ◌+◌, ◌<◌, true, length}
use Rattle.std.specs.Prelude.{slice_index}
use Rattle.sweep_base.specs.Bits.{bit_in}
use Rattle.sweep_base.specs.Noted.{AreStillNoted}
use Rattle.race_sweeps.specs.Enough.{IsSettledOrNoted}
use Rattle.race_sweeps.proofs.walk.note_all.Given as goal

abbrev pub invariant-loop-bit : goal.invariant-loop-bit
invariant-loop-bit l = record {
  size : length l.racing.items ≡ length l.graph.lines;
  noted : AreStillNoted l.fn.racing.items l.racing.items;
  settled : (b : ℕ) → b < l.bit → l.first + b < length l.table.lines.items → bit_in l.left b ≡ true → IsSettledOrNoted l.graph l.racing.items (slice_index l.table.lines.items l.place) (slice_index l.table.lines.items (l.first + b));
}
