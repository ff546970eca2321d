use Rattle.std.proofs.Common.{◌≡◌, ℕ, length, take}
use Rattle.std.specs.Prelude.{Contains}
use Rattle.race_sweeps.specs.declared.marks.Mark.{Mark}
use Rattle.race_sweeps.specs.Scan.{IsWalked}
use Rattle.race_sweeps.specs.ScanState.{AreListed}
use Rattle.sweep_base.specs.Noted.{AreStillNoted}
use Rattle.race_sweeps.proofs.scan.Scan.walk_all.Given as goal

abbrev pub invariant-loop-ask : goal.invariant-loop-ask
invariant-loop-ask l = record {
  size : length l.racing.items ≡ length l.graph.lines;
  noted : AreStillNoted l.fn.racing.items l.racing.items;
  walked : (m : ℕ) → AreListed l.table l.self.members m → (ask : Mark) → Contains (take l.ask-index l.asks) ask → IsWalked l.graph l.table l.racing.items l.first m ask;
}
