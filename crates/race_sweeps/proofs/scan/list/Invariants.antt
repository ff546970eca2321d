use Rattle.std.proofs.Common.{◌≡◌, ◌≤◌, length}
use Rattle.std.specs.Prelude.{slice_index}
use Rattle.race_sweeps.specs.Marks.{AreMarksBelow}
use Rattle.race_sweeps.specs.ScanState.{AreListed, AreGrouped}
use Rattle.race_sweeps.proofs.scan.list.Given as goal

abbrev pub invariant-loop-number : goal.invariant-loop-number
invariant-loop-number l = record {
  within : l.number ≤ slice_index l.table.begins.items l.end;
  listed : AreListed l.table l.members l.number;
  slots : length l.groups.slots.items ≡ length l.table.keys.items;
  below : AreMarksBelow l.groups.marks.items (length l.table.keys.items);
  grouped : AreGrouped l.table l.groups.marks.items l.first l.number;
}
