-- The intervals of spaces.
use Rattle.std.proofs.Common.{◌≡◌, ℕ, ◌+◌, ◌<◌, ◌≤◌, Bool, true, ◌⊎◌, inl, inr, List, [], ◌∷◌, ◌++◌, length, get_or, map, refl, sym, ◌∙◌, ap, subst, arith}
use Rattle.std.specs.Prelude.{Contains, nat_le}
use Rattle.std.specs.Borrow.{Bor}
use Rattle.std.specs.List.Sorted.{IsPermutation}
use Rattle.std.proofs.lemmas.Bool.{and_parts, and_from, leb-true, le-leb, cases_lt}
use Rattle.std.proofs.lemmas.List.{get_or-map, length-map}
use Rattle.std.proofs.lemmas.List.Elements.{Contains-append_left, Contains-append_right, Contains-append_cases}
use Rattle.std.proofs.lemmas.List.Sorted.{Contains-permutation, IsPermutation-sym}
use Rattle.basics.proofs.ListFacts.{contains_none, contains_cases, contains_map, map_contains, some_passes, passes_some}
use Rattle.index_spaces.specs.Space.{interval_has, has_point, AscendAbove, IsSpace}
use Rattle.space_classes.specs.declared.classes.Span.{Span}
use Rattle.space_classes.specs.Classes.{Spaces, space_of, values}
use Rattle.space_classes.specs.Spans.{span_of, IsIn, IsSpan, AreSpans}

-- those of the first spaces
pub record AreSpansTo (spaces : Spaces) (k : ℕ) (spans : List Span) : Type 0 where
  pub each : (x : Span) → Contains spans x → IsSpan spaces x
  pub all : (j p : ℕ) → j < k → has_point (space_of spaces j) p ≡ true → (x : Span) × Contains spans x × (x.owner ≡ j) × IsIn p x

pub no_spans : (spaces : Spaces) → AreSpansTo spaces 0 []
no_spans spaces = record {
  each = λ x k. absurd (contains_none x k);
  all = λ j p below. absurd (omega (arith, below));
}

pub runs_up : (low : ℕ) (s : List (ℕ × ℕ)) (i : ℕ × ℕ) → AscendAbove low s → Contains s i → i.0 ≤ i.1
runs_up low [] i a k = absurd (contains_none i k)
runs_up low (j ∷ s) i a k = elim (contains_cases j s i k) [
  | inl first ↦ subst (λ (x : ℕ × ℕ). x.0 ≤ x.1) first a.1
  | inr later ↦ runs_up (j.1 + 2) s i a.3 later
]

pub in_interval : (i : ℕ × ℕ) (p : ℕ) → interval_has i p ≡ true → (i.0 ≤ p) × (p ≤ i.1)
in_interval i p h = let both = and_parts (nat_le i.0 p) (nat_le p i.1) h in (leb-true i.0 p both.0, leb-true p i.1 both.1)

pub interval_in : (i : ℕ × ℕ) (p : ℕ) → i.0 ≤ p → p ≤ i.1 → interval_has i p ≡ true
interval_in i p low up = and_from (nat_le i.0 p) (nat_le p i.1) (le-leb i.0 p low) (le-leb p i.1 up)

pub one_spanned : (spaces : Spaces) (k : ℕ) (old new : List Span) → k < length spaces → IsSpace (space_of spaces k) → AreSpansTo spaces k old → new ≡ old ++ map (span_of k) (space_of spaces k) → AreSpansTo spaces (k + 1) new
one_spanned spaces k old new known is are put = record {
  each = λ x c. elim (Contains-append_cases old (map (span_of k) (space_of spaces k)) x (subst (λ xs. Contains xs x) put c)) [
    | inl early ↦ are.each x early
    | inr own ↦ (let i = map_contains (span_of k) (space_of spaces k) x own in subst (IsSpan spaces) i.2 (record {
      owner = known;
      runs_up = runs_up 0 (space_of spaces k) i.0 is.1 i.1;
      points = λ p h. passes_some (λ j. interval_has j p) (space_of spaces k) i.0 i.1 (interval_in i.0 p h.0 h.1);
    }))
  ];
  all = λ j p below h. subst (λ xs. (x : Span) × Contains xs x × (x.owner ≡ j) × IsIn p x) (sym put) (by_place j p below h (cases_lt j k));
}
  where
    by_place : (j p : ℕ) → j < k + 1 → has_point (space_of spaces j) p ≡ true → (j < k) ⊎ (k ≤ j) → (x : Span) × Contains (old ++ map (span_of k) (space_of spaces k)) x × (x.owner ≡ j) × IsIn p x
    by_place j p below h (inl early) = let x = are.all j p early h in (x.0, Contains-append_left old (map (span_of k) (space_of spaces k)) x.0 x.1, x.2, x.3)
    by_place j p below h (inr late) =
        let e : j ≡ k = omega (arith, below, late) in
        let i = some_passes (λ j. interval_has j p) (space_of spaces k) (subst (λ n. has_point (space_of spaces n) p ≡ true) e h) in
        (span_of k i.0, Contains-append_right old (map (span_of k) (space_of spaces k)) (span_of k i.0) (contains_map (span_of k) (space_of spaces k) i.0 i.1), sym e, in_interval i.0 p i.2)

pub all_spanned : (spaces : Spaces) (k : ℕ) (spans : List Span) → length spaces ≤ k → AreSpansTo spaces k spans → AreSpans spaces spans
all_spanned spaces k spans past are = record {
  each = are.each;
  all = λ j p known h. are.all j p (omega (arith, known, past)) h;
}

-- in another order
pub spans_moved : (spaces : Spaces) (xs ys : List Span) → IsPermutation xs ys → AreSpans spaces xs → AreSpans spaces ys
spans_moved spaces xs ys moves are = record {
  each = λ x c. are.each x (Contains-permutation ys xs x (IsPermutation-sym xs ys moves) c);
  all = λ j p known h. (let x = are.all j p known h in (x.0, Contains-permutation xs ys x.0 moves x.1, x.2, x.3));
}

-- BORROWED SPACES
pub values_count : (spaces : List (Bor (List (ℕ × ℕ)))) → length (values spaces) ≡ length spaces
values_count spaces = length-map spaces (λ (s : Bor (List (ℕ × ℕ))). s.now)

pub value_at : (spaces : List (Bor (List (ℕ × ℕ)))) (k : ℕ) (d : Bor (List (ℕ × ℕ))) → k < length spaces → space_of (values spaces) k ≡ (get_or spaces k d).now
value_at spaces k d below = get_or-map (λ (s : Bor (List (ℕ × ℕ))). s.now) spaces k d [] below
