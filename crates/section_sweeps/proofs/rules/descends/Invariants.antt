use Rattle.std.proofs.Common.{◌≡◌, ℕ, ◌<◌, true}
use Rattle.std.specs.Prelude.{slice_index}
use Rattle.graph_terms.specs.Reservations.{Acquires}
use Rattle.sweep_base.specs.Bits.{bit_in}
use Rattle.section_sweeps.proofs.rules.descends.Given as goal

abbrev pub invariant-loop-bit : goal.invariant-loop-bit
invariant-loop-bit l = (b k : ℕ) → b < l.bit → bit_in l.inside b ≡ true → Acquires l.graph (slice_index l.acquires b) k → k < l.lock
