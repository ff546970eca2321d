use Rattle.std.proofs.Common.{◌≡◌, ℕ, ◌<◌, true}
use Rattle.std.specs.Prelude.{slice_index}
use Rattle.graph_terms.specs.Reservations.{Acquires}
use Rattle.sweep_base.specs.Bits.{bit_in}
use Rattle.section_sweeps.specs.Sections.{AreHeldSoFar, IsGrown, IsKept}
use Rattle.section_sweeps.proofs.kept_acquires.keep_all.Given as goal

abbrev pub invariant-loop-bit : goal.invariant-loop-bit
invariant-loop-bit l = record {
  held : AreHeldSoFar l.graph l.held;
  grown : IsGrown l.initial.held l.held;
  kept : (b k : ℕ) → b < l.bit → bit_in l.inside b ≡ true → Acquires l.graph (slice_index l.acquires b) k → IsKept l.held k l.line;
}
