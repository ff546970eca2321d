-- Bits of words.
use Rattle.std.proofs.Common.{◌≡◌, ℕ, zero, suc, ◌-◌, ◌*◌, ◌%◌, ◌^◌, ◌<◌, min, max, true, not, ◌&&◌, ◌||◌, inl, inr, refl, sym, ◌∙◌, ap, arith}
use Rattle.std.specs.Prelude.{◌==◌}
use Rattle.std.specs.Int.{bit_at, bit_not}
use Rattle.std.specs.Int.RustNames.{bit_or}
use lib.Bits.{bit_and}
use mir.Syntax.{w64}
use Rattle.std.proofs.lemmas.Bool.{cases_eq, eq-eqb, eqb-true, or_left, or_right, true≢false, ne_eqb}
use Rattle.std.proofs.lemmas.Nat.Bits.{bit_at_or, bit_at_and, bit_at_not, bit_at-lt, bit_at-zero, bit_at_set_same, bit_at_set_other}
use Rattle.sweep_base.specs.Bits.{bit_in}

min_bit : (x y : ℕ) → x < 2 → y < 2 → (min x y == 1) ≡ ((x == 1) && (y == 1))
min_bit zero y a b = refl_zero y b
  where
    refl_zero : (y : ℕ) → y < 2 → (min 0 y == 1) ≡ ((0 == 1) && (y == 1))
    refl_zero y b = ap (λ z. z == 1) (let e : min 0 y ≡ 0 = omega arith in e)
min_bit (suc zero) zero a b = refl
min_bit (suc zero) (suc zero) a b = refl
min_bit (suc zero) (suc (suc y)) a b = absurd (omega arith)
min_bit (suc (suc x)) y a b = absurd (omega arith)

max_bit : (x y : ℕ) → x < 2 → y < 2 → (max x y == 1) ≡ ((x == 1) || (y == 1))
max_bit zero zero a b = refl
max_bit zero (suc zero) a b = refl
max_bit zero (suc (suc y)) a b = absurd (omega arith)
max_bit (suc zero) zero a b = refl
max_bit (suc zero) (suc zero) a b = refl
max_bit (suc zero) (suc (suc y)) a b = absurd (omega arith)
max_bit (suc (suc x)) y a b = absurd (omega arith)

not_bit : (x : ℕ) → x < 2 → (1 - x == 1) ≡ not (x == 1)
not_bit zero a = refl
not_bit (suc zero) a = refl
not_bit (suc (suc x)) a = absurd (omega arith)

-- words joined by `&`, `|` and `!` have the bits joined so
pub bit_in-and : (x y b : ℕ) → bit_in (bit_and x y) b ≡ (bit_in x b && bit_in y b)
bit_in-and x y b = ap (λ z. z == 1) (bit_at_and x y b) ∙ min_bit (bit_at x b) (bit_at y b) (bit_at-lt x b) (bit_at-lt y b)

pub bit_in-or : (x y b : ℕ) → bit_in (bit_or x y) b ≡ (bit_in x b || bit_in y b)
bit_in-or x y b = ap (λ z. z == 1) (bit_at_or x y b) ∙ max_bit (bit_at x b) (bit_at y b) (bit_at-lt x b) (bit_at-lt y b)

pub bit_in-not : (x b : ℕ) → x < 2 ^ 64 → b < 64 → bit_in (bit_not w64 x) b ≡ not (bit_in x b)
bit_in-not x b fits below = ap (λ z. z == 1) (bit_at_not w64 x b fits below) ∙ not_bit (bit_at x b) (bit_at-lt x b)

-- a bit that is shifted to its place
one_bit : (k b : ℕ) → bit_at (1 * 2 ^ k % 2 ^ 64) b ≡ bit_at (bit_or 0 (1 * 2 ^ k % 2 ^ 64)) b
one_bit k b =
    let zero_bit : bit_at 0 b ≡ 0 = bit_at-zero b in
    let joined : bit_at (bit_or 0 (1 * 2 ^ k % 2 ^ 64)) b ≡ max (bit_at 0 b) (bit_at (1 * 2 ^ k % 2 ^ 64) b) = bit_at_or 0 (1 * 2 ^ k % 2 ^ 64) b in omega arith

pub shifted_same : (s : ℕ) → s < 64 → bit_in (1 * 2 ^ s % 2 ^ 64) s ≡ true
shifted_same s h = eq-eqb _ 1 (one_bit s s ∙ bit_at_set_same w64 0 s h)

pub shifted_is : (s b : ℕ) → s < 64 → bit_in (1 * 2 ^ s % 2 ^ 64) b ≡ true → b ≡ s
shifted_is s b h set = elim (cases_eq b s) [
  | inl same ↦ same
  | inr apart ↦ (let none : bit_at (1 * 2 ^ s % 2 ^ 64) b ≡ 0 = one_bit s b ∙ (bit_at_set_other w64 0 s h b apart ∙ bit_at-zero b) in let one : bit_at (1 * 2 ^ s % 2 ^ 64) b ≡ 1 = eqb-true _ 1 set in absurd (omega arith))
]

-- a bit of words joined
pub or_old : (x y b : ℕ) → bit_in x b ≡ true → bit_in (bit_or x y) b ≡ true
or_old x y b h = bit_in-or x y b ∙ or_left (bit_in x b) (bit_in y b) h

pub or_new : (x y b : ℕ) → bit_in y b ≡ true → bit_in (bit_or x y) b ≡ true
or_new x y b h = bit_in-or x y b ∙ or_right (bit_in x b) (bit_in y b) h

-- a word without bits
pub none_left : (left b : ℕ) → left ≡ 0 → bit_in left b ≡ true → ⊥
none_left left b none set = true≢false (sym set ∙ (ap (λ z. bit_in z b) none ∙ ne_eqb _ 1 (λ one. (let z = bit_at-zero b in absurd (omega (arith, z, one))))))
