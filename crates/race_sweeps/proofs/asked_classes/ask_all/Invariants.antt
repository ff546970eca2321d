use Rattle.std.proofs.Common.{◌≡◌, ℕ, length, take}
use Rattle.std.specs.Prelude.{Contains}
use Rattle.race_sweeps.specs.declared.marks.Mark.{Mark}
use Rattle.race_sweeps.specs.Marks.{AreMarksBelow}
use Rattle.race_sweeps.specs.Scan.{IsMarkAsked}
use Rattle.race_sweeps.specs.ScanState.{AreListed}
use Rattle.race_sweeps.proofs.asked_classes.ask_all.Given as goal

abbrev pub invariant-loop-group : goal.invariant-loop-group
invariant-loop-group l = record {
  slots : length l.asks.slots.items ≡ length l.table.keys.items;
  below : AreMarksBelow l.asks.marks.items (length l.table.keys.items);
  asked : (m : ℕ) → AreListed l.table l.members m → (g : Mark) → Contains (take l.group-index l.groups) g → IsMarkAsked l.table l.hard l.asks.marks.items m g;
}
