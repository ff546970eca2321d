-- Rows of bits: a bit that is set, and a row that is joined word by word.
use Rattle.std.proofs.Common.{◌≡◌, ℕ, zero, suc, ◌+◌, ◌-◌, ◌*◌, ◌/◌, ◌%◌, ◌^◌, ◌<◌, ◌≤◌, min, max, Bool, true, false, ◌||◌, ◌&&◌, ◌⊎◌, refl, inl, inr, List, length, sym, ◌∙◌, ap, subst, arith}
use Rattle.std.specs.Prelude.{◌==◌, nat_lt, nat_le, slice_index, slice_set}
use Rattle.std.specs.List.{slice_index_or}
use Rattle.std.specs.Int.{bit_at}
use Rattle.std.specs.Int.RustNames.{bit_or}
use Rattle.std.specs.Int.Bits.{or_zero_r}
use mir.Syntax.{w64}
use Rattle.std.proofs.lemmas.Bool.{true≢false, cases_eq, cases_lt, cases_Bool, eq-eqb, eqb-true, or_left, or_right, or_cases, lt-ltb, le-ltb, le-leb, leb-true, false_from_ne_true}
use Rattle.std.proofs.lemmas.Nat.Bits.{bit_at_or, bit_at-lt, bit_at_ones, bit_at_set_same, bit_at_set_other}
use Rattle.std.proofs.lemmas.List.{get_or-set_same, get_or-set_other, get_or_read, get_or_past}
use Rattle.flow_order.specs.Bits.{word_bit, AreNoneBelow, AreFull}

-- a test that passes where one of two does
by_cases : (x a b : Bool) → (x ≡ true → (a ≡ true) ⊎ (b ≡ true)) → ((a ≡ true) ⊎ (b ≡ true) → x ≡ true) → x ≡ (a || b)
by_cases x a b f g = elim (cases_Bool (a || b)) [
  | inl yes' ↦ g (or_cases a b yes') ∙ sym yes'
  | inr no' ↦ false_from_ne_true x (λ h. elim (f h) [ inl l ↦ true≢false (sym (or_left a b l) ∙ no') | inr r ↦ true≢false (sym (or_right a b r) ∙ no') ]) ∙ sym no'
]

one_or : (x y : ℕ) → x < 2 → y < 2 → ((max x y ≡ 1) → ((x ≡ 1) ⊎ (y ≡ 1))) × (((x ≡ 1) ⊎ (y ≡ 1)) → (max x y ≡ 1))
one_or x y a b = ((λ h. by x a h), (λ h. elim h [ inl e ↦ omega arith | inr e ↦ omega arith ]))
  where
    by : (z : ℕ) → z < 2 → max z y ≡ 1 → (z ≡ 1) ⊎ (y ≡ 1)
    by zero c h = inr (omega arith)
    by (suc z) c h = inl (omega arith)

joined_bit : (old new : List ℕ) (add j : ℕ) → slice_index new (j / 64) ≡ bit_or (slice_index old (j / 64)) add → word_bit new j ≡ (word_bit old j || (bit_at add (j % 64) == 1))
joined_bit old new add j same =
    let a : bit_at (slice_index old (j / 64)) (j % 64) < 2 = bit_at-lt (slice_index old (j / 64)) (j % 64) in
    let b : bit_at add (j % 64) < 2 = bit_at-lt add (j % 64) in
    let iff = one_or (bit_at (slice_index old (j / 64)) (j % 64)) (bit_at add (j % 64)) a b in
    let is : bit_at (slice_index new (j / 64)) (j % 64) ≡ max (bit_at (slice_index old (j / 64)) (j % 64)) (bit_at add (j % 64)) =
    ap (λ w. bit_at w (j % 64)) same ∙ bit_at_or (slice_index old (j / 64)) add (j % 64) in
    by_cases (word_bit new j) (word_bit old j) (bit_at add (j % 64) == 1)
    (λ h. elim (iff.0 (sym is ∙ eqb-true _ _ h)) [ inl e ↦ inl (eq-eqb _ _ e) | inr e ↦ inr (eq-eqb _ _ e) ])
    (λ h. elim h [ inl e ↦ eq-eqb _ _ (is ∙ iff.1 (inl (eqb-true _ _ e))) | inr e ↦ eq-eqb _ _ (is ∙ iff.1 (inr (eqb-true _ _ e))) ])

set_bit : (words : List ℕ) (j : ℕ) → j / 64 < length words → (k : ℕ) →
    ((word_bit (slice_set words (j / 64) (bit_or (slice_index words (j / 64)) (1 * 2 ^ (j % 64) % 2 ^ 64))) k ≡ true) → ((word_bit words k ≡ true) ⊎ (j ≡ k)))
    × (((word_bit words k ≡ true) ⊎ (j ≡ k)) → (word_bit (slice_set words (j / 64) (bit_or (slice_index words (j / 64)) (1 * 2 ^ (j % 64) % 2 ^ 64))) k ≡ true))
set_bit words j room k = elim (cases_eq (k / 64) (j / 64)) [
  | inr apart ↦ (
      let same : slice_index (slice_set words (j / 64) (bit_or (slice_index words (j / 64)) (1 * 2 ^ (j % 64) % 2 ^ 64))) (k / 64) ≡ slice_index words (k / 64) = get_or-set_other words (j / 64) (k / 64) _ 0 apart in
      let bits : word_bit (slice_set words (j / 64) (bit_or (slice_index words (j / 64)) (1 * 2 ^ (j % 64) % 2 ^ 64))) k ≡ word_bit words k = ap (λ w. bit_at w (k % 64) == 1) same in
      ((λ h. inl (sym bits ∙ h)), (λ h. elim h [ inl o ↦ bits ∙ o | inr e ↦ absurd (apart (ap (λ x. x / 64) (sym e))) ])))
  | inl at ↦ (
      let here : slice_index (slice_set words (j / 64) (bit_or (slice_index words (j / 64)) (1 * 2 ^ (j % 64) % 2 ^ 64))) (k / 64) ≡ bit_or (slice_index words (j / 64)) (1 * 2 ^ (j % 64) % 2 ^ 64) =
      ap (slice_index (slice_set words (j / 64) (bit_or (slice_index words (j / 64)) (1 * 2 ^ (j % 64) % 2 ^ 64)))) at ∙ get_or-set_same words (j / 64) _ 0 room in
      let within : j % 64 < 64 = omega arith in
      elim (cases_eq (k % 64) (j % 64)) [
        | inl low ↦ (
          (λ h. inr (let e : j ≡ k = omega arith in e)),
          (λ h. eq-eqb _ _ (ap (λ w. bit_at w (k % 64)) here ∙ (ap (bit_at (bit_or (slice_index words (j / 64)) (1 * 2 ^ (j % 64) % 2 ^ 64))) low ∙ bit_at_set_same w64 (slice_index words (j / 64)) (j % 64) within))),
        )
        | inr apart ↦ (
            let bits : word_bit (slice_set words (j / 64) (bit_or (slice_index words (j / 64)) (1 * 2 ^ (j % 64) % 2 ^ 64))) k ≡ word_bit words k =
            ap (λ w. bit_at w (k % 64) == 1) here ∙ (ap (λ b. b == 1) (bit_at_set_other w64 (slice_index words (j / 64)) (j % 64) within (k % 64) apart) ∙ ap (λ w. bit_at (slice_index words w) (k % 64) == 1) (sym at)) in
            ((λ h. inl (sym bits ∙ h)), (λ h. elim h [ inl o ↦ bits ∙ o | inr e ↦ absurd (apart (ap (λ x. x % 64) (sym e))) ])))
      ])
]

bit_added : (words : List ℕ) (j : ℕ) → j / 64 < length words → (k : ℕ) → word_bit (slice_set words (j / 64) (bit_or (slice_index words (j / 64)) (1 * 2 ^ (j % 64) % 2 ^ 64))) k ≡ (word_bit words k || (j == k))
bit_added words j room k =
    let s = set_bit words j room k in
    by_cases _ (word_bit words k) (j == k) (λ h. elim (s.0 h) [ inl a ↦ inl a | inr e ↦ inr (eq-eqb j k e) ]) (λ h. s.1 (elim h [ inl a ↦ inl a | inr e ↦ inr (eqb-true j k e) ]))

set_at : (words : List ℕ) (j cell : ℕ) → j / 64 < length words → cell ≡ slice_index_or words (j / 64) cell → (k : ℕ) →
    word_bit (slice_set words (j / 64) (bit_or cell (1 * 2 ^ (j % 64) % 2 ^ 64))) k ≡ (word_bit words k || (j == k))
set_at words j cell h is k =
    subst (λ z. word_bit (slice_set words (j / 64) (bit_or z (1 * 2 ^ (j % 64) % 2 ^ 64))) k ≡ (word_bit words k || (j == k))) (sym (get_or_read words (j / 64) cell h is 0)) (bit_added words j h k)

-- a bit set in the words of a row
pub set_in_row : (words row : List ℕ) (j cell : ℕ) → words ≡ row → j / 64 < length row → cell ≡ slice_index_or words (j / 64) cell → (k : ℕ) →
    word_bit (slice_set words (j / 64) (bit_or cell (1 * 2 ^ (j % 64) % 2 ^ 64))) k ≡ (word_bit row k || (j == k))
set_in_row words row j cell same h is k =
    subst (λ r. word_bit (slice_set words (j / 64) (bit_or cell (1 * 2 ^ (j % 64) % 2 ^ 64))) k ≡ (word_bit r k || (j == k))) same
    (set_at words j cell (let l : length words ≡ length row = ap length same in omega arith) is k)

-- a word with all bits
pub word_full : (words : List ℕ) (j : ℕ) → slice_index words (j / 64) ≡ 18446744073709551615 → word_bit words j ≡ true
word_full words j is = eq-eqb _ _ (ap (λ w. bit_at w (j % 64)) is ∙ bit_at_ones 64 (j % 64) (let h : j % 64 < 64 = omega arith in h))

-- the words from one on below w are joined with those that stand from a place on
pub record IsJoined (old add row : List ℕ) (place start w : ℕ) : Type 0 where
  pub size : length row ≡ length old
  pub joined : (v : ℕ) → start ≤ v → v < w → slice_index row v ≡ bit_or (slice_index old v) (slice_index add (v - place))
  pub before : (v : ℕ) → v < start → slice_index row v ≡ slice_index old v
  pub left : (v : ℕ) → w ≤ v → slice_index row v ≡ slice_index old v

none_or : (b : Bool) → b ≡ (b || false)
none_or true = refl
none_or false = refl

-- the bit of a number among words that stand from a place on
abbrev pub placed_bit : ℕ → List ℕ → ℕ → Bool
placed_bit place words j = nat_le place (j / 64) && (bit_at (slice_index words (j / 64 - place)) (j % 64) == 1)

before_place : (place : ℕ) (words : List ℕ) (j : ℕ) → j / 64 < place → placed_bit place words j ≡ false
before_place place words j low = ap (λ b. b && (bit_at (slice_index words (j / 64 - place)) (j % 64) == 1)) (false_from_ne_true (nat_le place (j / 64)) (λ e. (let l : place ≤ j / 64 = leb-true place (j / 64) e in absurd (omega (arith, l, low)))))

behind_place : (place : ℕ) (words : List ℕ) (j : ℕ) → place ≤ j / 64 → placed_bit place words j ≡ (bit_at (slice_index words (j / 64 - place)) (j % 64) == 1)
behind_place place words j high = ap (λ b. b && (bit_at (slice_index words (j / 64 - place)) (j % 64) == 1)) (le-leb place (j / 64) high)

-- all words are joined, where those before have all bits
pub joined_words : (old add words row : List ℕ) (place full start w : ℕ) → words ≡ old → AreFull words full → start ≡ max place full → place + length add ≤ w → IsJoined words add row place start w → (j : ℕ) → word_bit row j ≡ (word_bit old j || placed_bit place add j)
joined_words old add words row place full start w same all from end is j = by_words (elim (cases_lt (j / 64) place) [
  | inl low ↦ ap (λ x. bit_at x (j % 64) == 1) (is.before (j / 64) (let s = from in omega (arith, low, s))) ∙ (none_or (word_bit words j) ∙ ap (λ b. word_bit words j || b) (sym (before_place place add j low)))
  | inr high ↦ elim (cases_lt (j / 64) full) [
    | inl l ↦ word_full row j (is.before (j / 64) (let s = from in omega (arith, l, s)) ∙ all (j / 64) l) ∙ sym (or_left (word_bit words j) (placed_bit place add j) (word_full words j (all (j / 64) l)))
    | inr h ↦ joined_bit words row (slice_index add (j / 64 - place)) j (joined_word (let s = from in omega (arith, high, h, s))) ∙ ap (λ b. word_bit words j || b) (sym (behind_place place add j high))
  ]
])
  where
    by_words : word_bit row j ≡ (word_bit words j || placed_bit place add j) → word_bit row j ≡ (word_bit old j || placed_bit place add j)
    by_words e = subst (λ o. word_bit row j ≡ (word_bit o j || placed_bit place add j)) same e

    joined_word : start ≤ j / 64 → slice_index row (j / 64) ≡ bit_or (slice_index words (j / 64)) (slice_index add (j / 64 - place))
    joined_word h = elim (cases_lt (j / 64) w) [
      | inl l ↦ is.joined (j / 64) h l
      | inr past ↦ is.left (j / 64) past ∙ (sym (or_zero_r (slice_index words (j / 64))) ∙ ap (bit_or (slice_index words (j / 64))) (sym (get_or_past add (j / 64 - place) 0 (omega (arith, past, end)))))
    ]

-- the words from one on below w have all bits
pub record IsFilled (old row : List ℕ) (start w : ℕ) : Type 0 where
  pub size : length row ≡ length old
  pub filled : (v : ℕ) → start ≤ v → v < w → slice_index row v ≡ 18446744073709551615
  pub before : (v : ℕ) → v < start → slice_index row v ≡ slice_index old v
  pub left : (v : ℕ) → w ≤ v → slice_index row v ≡ slice_index old v

pub filled_rows : (old words row : List ℕ) (start full w : ℕ) → words ≡ old → AreFull words start → w ≤ max start full → full ≤ w → IsFilled words row start w → (j : ℕ) → word_bit row j ≡ (word_bit old j || nat_lt (j / 64) full)
filled_rows old words row start full w same all most end is j = by_words (elim (cases_lt (j / 64) start) [
  | inl l ↦ word_full row j (is.before (j / 64) l ∙ all (j / 64) l) ∙ sym (or_left (word_bit words j) (nat_lt (j / 64) full) (word_full words j (all (j / 64) l)))
  | inr h ↦ elim (cases_lt (j / 64) w) [
    | inl l ↦ word_full row j (is.filled (j / 64) h l) ∙ sym (or_right (word_bit words j) (nat_lt (j / 64) full) (lt-ltb (j / 64) full (below (j / 64) h l)))
    | inr past ↦ ap (λ x. bit_at x (j % 64) == 1) (is.left (j / 64) past) ∙ (none_or (word_bit words j) ∙ ap (λ z. word_bit words j || z) (sym (le-ltb (j / 64) full (omega (arith, end, past)))))
  ]
])
  where
    by_words : word_bit row j ≡ (word_bit words j || nat_lt (j / 64) full) → word_bit row j ≡ (word_bit old j || nat_lt (j / 64) full)
    by_words e = subst (λ o. word_bit row j ≡ (word_bit o j || nat_lt (j / 64) full)) same e

    below : (v : ℕ) → start ≤ v → v < w → v < full
    below v h l = omega (arith, most, h, l)

-- and then more words at the front have all bits
pub full_more : (words row : List ℕ) (start full w most : ℕ) → AreFull words start → most ≡ max start full → full ≤ w → IsFilled words row start w → AreFull row most
full_more words row start full w most all is end filled v h = elim (cases_lt v start) [
  | inl l ↦ filled.before v l ∙ all v l
  | inr g ↦ filled.filled v g (let b : v < max start full = subst (λ z. v < z) is h in omega (arith, b, g, end))
]

-- fewer do where one is set
pub full_set : (words : List ℕ) (v x full less : ℕ) → AreFull words full → less ≡ min full v → AreFull (slice_set words v x) less
full_set words v x full less all is w h =
    let b : w < min full v = subst (λ z. w < z) is h in
    get_or-set_other words v w x 0 (λ e. (let d : w ≡ v = e in absurd (omega (arith, b, d)))) ∙ all w (omega (arith, b))

either_false : (a b : Bool) → a ≡ false → b ≡ false → (a || b) ≡ false
either_false false b ea eb = eb
either_false true b ea eb = ea

-- no bit below the lesser of two numbers, where one more is set
pub none_set : (row words new : List ℕ) (n low less : ℕ) → words ≡ row → AreNoneBelow words low → less ≡ min low n → ((k : ℕ) → word_bit new k ≡ (word_bit row k || (n == k))) → AreNoneBelow new less
none_set row words new n low less same none is set j h =
    set j
    ∙ either_false (word_bit row j) (n == j) (ap (λ ws. word_bit ws j) (sym same) ∙ none j (let b : j < min low n = subst (λ z. j < z) is h in omega arith))
    (false_from_ne_true (n == j) (λ e. (let b : j < min low n = subst (λ z. j < z) is h in let g : n ≡ j = eqb-true n j e in absurd (omega arith))))

-- a row whose first words were filled, since another has all bits there, and that was joined with the other's words behind them then
pub filled_joined : (old add words mid new : List ℕ) (full : ℕ) → ((j : ℕ) → j / 64 < full → word_bit add j ≡ true) → ((w : ℕ) → full ≤ w → slice_index add w ≡ slice_index words (w - full)) →
    ((j : ℕ) → word_bit mid j ≡ (word_bit old j || nat_lt (j / 64) full)) → ((j : ℕ) → word_bit new j ≡ (word_bit mid j || placed_bit full words j)) → (j : ℕ) → word_bit new j ≡ (word_bit old j || word_bit add j)
filled_joined old add words mid new full all behind filled joined j = joined j ∙ (ap (λ b. b || placed_bit full words j) (filled j) ∙ elim (cases_lt (j / 64) full) [
  | inl l ↦ by_all (word_bit old j) (nat_lt (j / 64) full) (placed_bit full words j) (word_bit add j) (lt-ltb (j / 64) full l) (all j l)
  | inr past ↦ ap (λ b. (word_bit old j || b) || placed_bit full words j) (le-ltb (j / 64) full past) ∙ (ap (λ b. b || placed_bit full words j) (sym (none_or (word_bit old j)))
      ∙ ap (λ b. word_bit old j || b) (behind_place full words j past ∙ ap (λ x. bit_at x (j % 64) == 1) (sym (behind (j / 64) past))))
])
  where
    by_all : (a b c d : Bool) → b ≡ true → d ≡ true → ((a || b) || c) ≡ (a || d)
    by_all true b c d e f = refl
    by_all false true c d e f = sym f
    by_all false false c d e f = absurd (true≢false (sym e))
