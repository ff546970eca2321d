-- A word of the bits that are set in one row and not in another, up to a place.
use Rattle.std.proofs.Common.{◌≡◌, ℕ, zero, suc, ◌+◌, ◌-◌, ◌*◌, ◌/◌, ◌%◌, ◌^◌, ◌<◌, ◌≤◌, min, true, false, not, ◌&&◌, inl, inr, List, refl, sym, ◌∙◌, ap, subst, arith}
use Rattle.std.specs.Prelude.{◌==◌, nat_le, slice_index}
use Rattle.std.specs.Int.{bit_at, bit_not}
use Rattle.std.specs.Int.RustNames.{bit_and}
use mir.Syntax.{w64}
use Rattle.std.proofs.Math.Nat.{pow-succ'}
use Rattle.std.proofs.lemmas.Nat.{div_below, le-div, pow_pos}
use Rattle.std.proofs.lemmas.Bool.{cases_lt, and_parts, eq-eqb, le-leb, leb-true, false_from_ne_true}
use Rattle.std.proofs.lemmas.Nat.Bits.{bit_at_and, bit_at_not, bit_at-lt, bit_at-zero, bit_at_above, bit_at_ones, bit_at_ones_above, ones_shr}
use Rattle.flow_order.specs.Bits.{is_shown, IsShownWord}

-- the least of three bits
both_bits : (x y m : ℕ) → x < 2 → y < 2 → (min (min x (1 - y)) 1 == 1) ≡ ((x == 1) && not (y == 1))
both_bits zero zero m a b = refl
both_bits zero (suc zero) m a b = refl
both_bits (suc zero) zero m a b = refl
both_bits (suc zero) (suc zero) m a b = refl
both_bits (suc (suc x)) y m a b = absurd (omega arith)
both_bits zero (suc (suc y)) m a b = absurd (omega arith)
both_bits (suc zero) (suc (suc y)) m a b = absurd (omega arith)

no_bit : (x : ℕ) → (min x 0 == 1) ≡ false
no_bit x = ap (λ z. z == 1) (let e : min x 0 ≡ 0 = omega arith in e)

-- the place of a number that has a bit in the same word
place : (last i : ℕ) → i < 64 → ((last - last % 64 + i) / 64 ≡ last / 64) × ((last - last % 64 + i) % 64 ≡ i)
place last i h = (omega arith, omega arith)

shown_here : (words hidden : List ℕ) (last i : ℕ) → i < 64 → is_shown words hidden (last - last % 64 + i) ≡ ((bit_at (slice_index words (last / 64)) i == 1) && not (bit_at (slice_index hidden (last / 64)) i == 1))
shown_here words hidden last i h =
    let p = place last i h in
    ap (λ w. (bit_at (slice_index words w) ((last - last % 64 + i) % 64) == 1) && not (bit_at (slice_index hidden w) ((last - last % 64 + i) % 64) == 1)) p.0
    ∙ ap (λ k. (bit_at (slice_index words (last / 64)) k == 1) && not (bit_at (slice_index hidden (last / 64)) k == 1)) p.1

low_ones : (m : ℕ) → m < 64 → (2 ^ 64 - 1) / 2 ^ (63 - m) ≡ 2 ^ (m + 1) - 1
low_ones m h = ones_shr 64 (63 - m) (omega arith) ∙ ap (λ k. 2 ^ k - 1) (let e : 64 - (63 - m) ≡ m + 1 = omega arith in e)

-- the bits of a word by those of the two words and the ones up to the place
pub bits_shown : (a b place : ℕ) → place < 64 → b < 2 ^ 64 → (i : ℕ) → i < 64 → (bit_at (bit_and (bit_and a (bit_not w64 b)) ((2 ^ 64 - 1) / 2 ^ (63 - place))) i == 1) ≡ (nat_le i place && ((bit_at a i == 1) && not (bit_at b i == 1)))
bits_shown a b place within fits i h =
    let x : bit_at a i < 2 = bit_at-lt a i in
    let y : bit_at b i < 2 = bit_at-lt b i in
    let bit : bit_at (bit_and (bit_and a (bit_not w64 b)) ((2 ^ 64 - 1) / 2 ^ (63 - place))) i ≡ min (min (bit_at a i) (1 - bit_at b i)) (bit_at (2 ^ (place + 1) - 1) i) =
    bit_at_and (bit_and a (bit_not w64 b)) ((2 ^ 64 - 1) / 2 ^ (63 - place)) i
    ∙ (ap (λ z. min z (bit_at ((2 ^ 64 - 1) / 2 ^ (63 - place)) i)) (bit_at_and a (bit_not w64 b) i ∙ ap (min (bit_at a i)) (bit_at_not w64 b i fits h))
    ∙ ap (λ z. min (min (bit_at a i) (1 - bit_at b i)) (bit_at z i)) (low_ones place within)) in
    elim (cases_lt place i) [
      | inl past ↦ ap (λ z. z == 1) (bit ∙ ap (min (min (bit_at a i) (1 - bit_at b i))) (bit_at_ones_above (place + 1) i (omega arith))) ∙ (no_bit (min (bit_at a i) (1 - bit_at b i))
          ∙ sym (ap (λ z. z && ((bit_at a i == 1) && not (bit_at b i == 1))) (false_from_ne_true (nat_le i place) (λ e. (let l : i ≤ place = leb-true i place e in absurd (omega arith))))))
      | inr low ↦ ap (λ z. z == 1) (bit ∙ ap (min (min (bit_at a i) (1 - bit_at b i))) (bit_at_ones (place + 1) i (omega arith))) ∙ (both_bits (bit_at a i) (bit_at b i) 0 x y
          ∙ sym (ap (λ z. z && ((bit_at a i == 1) && not (bit_at b i == 1))) (le-leb i place low)))
    ]

-- the word of two rows
pub is_shown_word : (words hidden : List ℕ) (last a b word : ℕ) → a ≡ slice_index words (last / 64) → b ≡ slice_index hidden (last / 64) → ((i : ℕ) → i < 64 → (bit_at word i == 1) ≡ (nat_le i (last % 64) && ((bit_at a i == 1) && not (bit_at b i == 1)))) → IsShownWord words hidden last word
is_shown_word words hidden last a b word ea eb is i h =
    let here : is_shown words hidden (last - last % 64 + i) ≡ ((bit_at a i == 1) && not (bit_at b i == 1)) =
    shown_here words hidden last i h ∙ (ap (λ z. (bit_at z i == 1) && not (bit_at (slice_index hidden (last / 64)) i == 1)) (sym ea) ∙ ap (λ z. (bit_at a i == 1) && not (bit_at z i == 1)) (sym eb)) in
    is i h ∙ ap (λ z. nat_le i (last % 64) && z) (sym here)

-- a number above its word's first, by its place
apart : (last j : ℕ) → last - last % 64 ≤ j → j ≤ last → (j ≡ last - last % 64 + j % 64) × (j % 64 ≤ last % 64)
apart last j a b = (omega arith, omega arith)

not_shown : (words hidden : List ℕ) (last word j : ℕ) → IsShownWord words hidden last word → last - last % 64 ≤ j → j ≤ last → bit_at word (j % 64) ≡ 0 → is_shown words hidden j ≡ false
not_shown words hidden last word j is a b none =
    let p = apart last j a b in
    let within : j % 64 < 64 = omega arith in
    let e : (nat_le (j % 64) (last % 64) && is_shown words hidden (last - last % 64 + j % 64)) ≡ false = sym (is (j % 64) within) ∙ ap (λ z. z == 1) none in
    ap (is_shown words hidden) p.0 ∙ (sym (ap (λ z. z && is_shown words hidden (last - last % 64 + j % 64)) (le-leb (j % 64) (last % 64) p.1)) ∙ e)

-- a word of none
pub none_shown : (words hidden : List ℕ) (last word : ℕ) → IsShownWord words hidden last word → word ≡ 0 → (j : ℕ) → last - last % 64 ≤ j → j ≤ last → is_shown words hidden j ≡ false
none_shown words hidden last word is zeroed j a b = not_shown words hidden last word j is a b (ap (λ w. bit_at w (j % 64)) zeroed ∙ bit_at-zero (j % 64))

twice : (k : ℕ) → 2 ^ (k + 1) ≡ 2 * 2 ^ k
twice k = ap (λ n. 2 ^ n) (let e : k + 1 ≡ suc k = omega arith in e) ∙ pow-succ' 2 k

-- the greatest that is shown
pub record IsTop (words hidden : List ℕ) (last line : ℕ) : Type 0 where
  pub within : line ≤ last
  pub shown : is_shown words hidden line ≡ true
  pub above : (j : ℕ) → line < j → j ≤ last → is_shown words hidden j ≡ false

pub top_shown : (words hidden : List ℕ) (last word r : ℕ) → IsShownWord words hidden last word → r < 64 → 2 ^ r ≤ word → word < 2 * 2 ^ r → IsTop words hidden last (last - last % 64 + r)
top_shown words hidden last word r is small low high =
    let some : 0 < 2 ^ r = pow_pos r in
    let one : word / 2 ^ r ≡ 1 = (let a : 1 ≤ word / 2 ^ r = le-div 1 word (2 ^ r) some (let z : 1 * 2 ^ r ≤ word = omega (arith, low) in z) in let b : word / 2 ^ r < 2 = div_below word (2 ^ r) 2 some high in omega (arith, a, b)) in
    let bit : bit_at word r ≡ 1 = ap (λ z. z % 2) one in
    let both = and_parts (nat_le r (last % 64)) (is_shown words hidden (last - last % 64 + r)) (sym (is r small) ∙ eq-eqb (bit_at word r) 1 bit) in
    let place : r ≤ last % 64 = leb-true r (last % 64) both.0 in
    record {
      within = omega (arith, place);
      shown = both.1;
      above = λ j a b. (
          let p = apart last j (omega (arith, a)) b in
          let q : r < j % 64 = (let e = p.0 in omega (arith, e, a)) in
          not_shown words hidden last word j is (omega (arith, a)) b (bit_at_above word (r + 1) (j % 64) (let t : 2 ^ (r + 1) ≡ 2 * 2 ^ r = twice r in subst (λ z. word < z) (sym t) high) (omega (arith, q))));
    }
