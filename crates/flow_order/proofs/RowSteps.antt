-- Rows that are kept without the words at their ends that have all bits or none.
use Rattle.std.proofs.Common.{◌≡◌, ℕ, zero, suc, ◌+◌, ◌-◌, ◌<◌, ◌≤◌, inl, inr, List, [], ◌∷◌, ◌++◌, length, take, drop, refl, sym, ◌∙◌, ap, arith}
use Rattle.std.specs.Prelude.{replicate, slice_index, slice_range}
use Rattle.std.proofs.lemmas.Bool.{cases_lt}
use Rattle.std.proofs.lemmas.List.{get_or_append_left, get_or-append_right, get_or-replicate, get_or_past, get_or-drop, get_or-take, length-replicate}

-- the words of a row that is kept
abbrev pub kept_row : ℕ → List ℕ → ℕ → List ℕ
kept_row full words size = replicate full 18446744073709551615 ++ (words ++ replicate (size - (full + length words)) 0)

zeros : (n v : ℕ) → slice_index (replicate n 0) v ≡ 0
zeros n v = elim (cases_lt v n) [
  | inl low ↦ get_or-replicate n v 0 0 low
  | inr past ↦ get_or_past (replicate n 0) v 0 (let l : length {A = ℕ} (replicate n 0) ≡ n = length-replicate n 0 in omega (arith, l, past))
]

words_zeros : (words : List ℕ) (n v : ℕ) → slice_index (words ++ replicate n 0) v ≡ slice_index words v
words_zeros words n v = elim (cases_lt v (length words)) [
  | inl low ↦ get_or_append_left words (replicate n 0) 0 v low
  | inr past ↦ get_or-append_right words (replicate n 0) (length words) v 0 refl past ∙ (zeros n (v - length words) ∙ sym (get_or_past words v 0 past))
]

pub kept_full : (full : ℕ) (words : List ℕ) (size w : ℕ) → w < full → slice_index (kept_row full words size) w ≡ 18446744073709551615
kept_full full words size w low =
    get_or_append_left (replicate full 18446744073709551615) (words ++ replicate (size - (full + length words)) 0) 0 w (let l : length {A = ℕ} (replicate full 18446744073709551615) ≡ full = length-replicate full 18446744073709551615 in omega (arith, l, low))
    ∙ get_or-replicate full w 18446744073709551615 0 low

pub kept_word : (full : ℕ) (words : List ℕ) (size w : ℕ) → full ≤ w → slice_index (kept_row full words size) w ≡ slice_index words (w - full)
kept_word full words size w past =
    get_or-append_right (replicate full 18446744073709551615) (words ++ replicate (size - (full + length words)) 0) full w 0 (length-replicate full 18446744073709551615) past
    ∙ words_zeros words (size - (full + length words)) (w - full)

past_take : (n : ℕ) (xs : List ℕ) (i : ℕ) → n ≤ i → slice_index (take n xs) i ≡ 0
past_take zero xs i h = refl
past_take (suc n) [] i h = refl
past_take (suc n) (x ∷ xs) zero h = absurd (omega arith)
past_take (suc n) (x ∷ xs) (suc i) h = past_take n xs i (omega arith)

-- a row that is kept has the words of which it is a copy
pub kept_copy : (all words : List ℕ) (full used size : ℕ) → full ≤ used → words ≡ slice_range all full used → ((w : ℕ) → w < full → slice_index all w ≡ 18446744073709551615) → ((w : ℕ) → used ≤ w → slice_index all w ≡ 0) →
    (w : ℕ) → slice_index (kept_row full words size) w ≡ slice_index all w
kept_copy all words full used size h is ones none w = elim (cases_lt w full) [
  | inl low ↦ kept_full full words size w low ∙ sym (ones w low)
  | inr past ↦ kept_word full words size w past ∙ (ap (λ ws. slice_index ws (w - full)) is ∙ elim (cases_lt w used) [
    | inl within ↦ (get_or-take (used - full) (drop full all) (w - full) 0 (omega arith) ∙ (get_or-drop full all (w - full) 0 ∙ ap (slice_index all) (let e : full + (w - full) ≡ w = omega arith in e)))
    | inr beyond ↦ past_take (used - full) (drop full all) (w - full) (omega arith) ∙ sym (none w beyond)
  ])
]
