-- The bits of a slice.
use Rattle.std.proofs.Common.{◌≡◌, ℕ, ◌-◌, ◌*◌, ◌%◌, ◌^◌, ◌<◌, true, sym, ◌∙◌, ap, arith}
use Rattle.std.specs.Int.{bit_at, bit_not}
use lib.Bits.{bit_and}
use mir.Syntax.{w64}
use Rattle.std.proofs.lemmas.Bool.{eq-eqb, and_parts}
use Rattle.std.proofs.lemmas.Nat.Bits.{bit_at_clear_other, bit_at_ones, bit_at_mask_inside, ones_shl}
use Rattle.sweep_base.specs.Bits.{bit_in}
use Rattle.sweep_base.proofs.Public.{bit_in-and, shifted_is}

-- the bits of one number in a word
pub own_is : (targets s b : ℕ) → s < 64 → bit_in (bit_and targets (1 * 2 ^ s % 2 ^ 64)) b ≡ true → b ≡ s
own_is targets s b h set = shifted_is s b h (and_parts (bit_in targets b) (bit_in (1 * 2 ^ s % 2 ^ 64) b) (sym (bit_in-and targets (1 * 2 ^ s % 2 ^ 64) b) ∙ set)).1

-- the bits above one
pub later_bit : (s b : ℕ) → s < 64 → b < 64 → s < b → bit_in (bit_and ((2 ^ 64 - 1) * 2 ^ s % 2 ^ 64) (bit_not w64 (1 * 2 ^ s % 2 ^ 64))) b ≡ true
later_bit s b l h up = eq-eqb _ 1 (bit_at_clear_other w64 ((2 ^ 64 - 1) * 2 ^ s % 2 ^ 64) s l b h (λ e. absurd (omega arith)) ∙ (ap (λ z. bit_at z b) (ones_shl 64 s (omega arith)) ∙ bit_at_mask_inside s 64 b (omega arith) h))

pub all_bits : (b : ℕ) → b < 64 → bit_in (2 ^ 64 - 1) b ≡ true
all_bits b h = eq-eqb _ 1 (bit_at_ones 64 b h)
