use Rattle.std.proofs.Common.{◌≡◌, ℕ, length, take}
use Rattle.std.specs.Prelude.{Contains}
use Rattle.race_sweeps.specs.Marks.{IsMarked, AreMarksBelow}
use Rattle.race_sweeps.specs.Scan.{IsAsked}
use Rattle.race_sweeps.specs.ScanState.{AreListed}
use Rattle.race_sweeps.proofs.asked_classes.ask_group.Given as goal

abbrev pub invariant-loop-other : goal.invariant-loop-other
invariant-loop-other l = record {
  slots : length l.asks.slots.items ≡ length l.table.keys.items;
  below : AreMarksBelow l.asks.marks.items (length l.table.keys.items);
  kept : (c b x : ℕ) → IsMarked l.initial.asks.marks.items c b x → IsMarked l.asks.marks.items c b x;
  asked : (d m : ℕ) → AreListed l.table l.members m → Contains (take l.other-index l.near) d → IsAsked l.table l.hard l.asks.marks.items m l.group d;
}
