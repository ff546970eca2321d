use Rattle.std.proofs.Common.{◌≡◌, ℕ, ◌<◌, false}
use Rattle.sweep_base.specs.Bits.{bit_in}
use Rattle.sweep_base.proofs.bits.lowest.Given as goal

abbrev pub invariant-loop-bit : goal.invariant-loop-bit
invariant-loop-bit l = record { none : (k : ℕ) → k < l.bit → bit_in l.word k ≡ false }
