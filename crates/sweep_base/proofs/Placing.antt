-- The places of lines.
use Rattle.std.proofs.Common.{◌≡◌, ℕ, ◌+◌, ◌<◌, ◌≤◌, inl, inr, List, length, sym, ◌∙◌, ap, subst, arith}
use Rattle.std.specs.Prelude.{slice_index, slice_set}
use Rattle.std.proofs.lemmas.Bool.{cases_eq, cases_lt}
use Rattle.std.proofs.lemmas.List.{get_or-set_same, get_or-set_other}
use Rattle.graph_terms.specs.Graph.{GraphValue}
use Rattle.sweep_base.specs.Placed.{IsPlaced, ArePlaces}

-- the lines at the first places have theirs
abbrev pub ArePlacedTo : List ℕ → List ℕ → ℕ → Type 0
ArePlacedTo lines places n = (q : ℕ) → q < n → (slice_index places (slice_index lines q) < length lines) × (slice_index lines (slice_index places (slice_index lines q)) ≡ slice_index lines q)

pub placed_more : (lines places : List ℕ) (p : ℕ) → p < length lines → slice_index lines p < length places → ArePlacedTo lines places p → ArePlacedTo lines (slice_set places (slice_index lines p) p) (p + 1)
placed_more lines places p small known before q h = elim (cases_eq (slice_index lines q) (slice_index lines p)) [
  | inl same ↦ (
      let at : slice_index (slice_set places (slice_index lines p) p) (slice_index lines q) ≡ p = ap (slice_index (slice_set places (slice_index lines p) p)) same ∙ get_or-set_same places (slice_index lines p) p 0 known in
      (omega arith, ap (slice_index lines) at ∙ sym same))
  | inr apart ↦ (
      let at : slice_index (slice_set places (slice_index lines p) p) (slice_index lines q) ≡ slice_index places (slice_index lines q) = get_or-set_other places (slice_index lines p) (slice_index lines q) p 0 apart in
      let low : q < p = elim (cases_lt q p) [ inl l ↦ l | inr up ↦ absurd (apart (ap (slice_index lines) (let e : q ≡ p = omega arith in e))) ] in
      let was = before q low in
      (subst (λ z. z < length lines) (sym at) was.0, ap (slice_index lines) at ∙ was.1))
]

pub placed_all : (g : GraphValue) (lines places : List ℕ) (n : ℕ) → IsPlaced g lines → length places ≡ length lines → length lines ≤ n → ArePlacedTo lines places n → ArePlaces lines places
placed_all g lines places n placed size all before = record {
  size = size;
  place = λ i h. (
      let count : length lines ≡ length g.lines = placed.count in
      let at = placed.each i (omega arith) in
      let low : at.0 < length lines = at.1 in
      let was = before at.0 (omega arith) in
      (subst (λ z. slice_index places z < length lines) at.2 was.0, ap (λ z. slice_index lines (slice_index places z)) (sym at.2) ∙ (was.1 ∙ at.2)));
}
