use Rattle.std.proofs.Common.{◌≡◌, ℕ, ◌<◌, true, length}
use Rattle.std.specs.Prelude.{slice_index}
use Rattle.sweep_base.specs.Noted.{AreStillNoted, is_noted}
use Rattle.section_sweeps.proofs.found_sections.Found.doubt.Given as goal

abbrev pub invariant-loop-bit : goal.invariant-loop-bit
invariant-loop-bit l = record {
  held : l.self.held ≡ l.fn.self.held;
  size : length l.self.doubted.items ≡ length l.fn.self.doubted.items;
  any : l.self.is_doubted ≡ true;
  still : AreStillNoted l.fn.self.doubted.items l.self.doubted.items;
  doubted : (b : ℕ) → b < l.bit → is_noted l.self.doubted.items (slice_index l.acquires b) ≡ true;
}
