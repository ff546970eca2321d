-- Lines that a search finds, one by one.
use Rattle.std.proofs.Common.{◌≡◌, ℕ, ◌+◌, ◌<◌, true, false, ◌⊎◌, inl, inr, List, [], ◌∷◌, ◌++◌, length, refl, sym, ◌∙◌, ap, subst, arith, take}
use Rattle.std.specs.Prelude.{Contains, slice_index}
use Rattle.std.specs.List.{slice_index_or}
use Rattle.std.proofs.lemmas.Bool.{cases_lt, true≢false}
use Rattle.std.proofs.lemmas.List.{get_or_past, take_more}
use Rattle.std.proofs.lemmas.List.Elements.{Contains-append_left, Contains-push, Contains-push_cases}
use Rattle.graph_terms.specs.declared.verb.Edge.{Edge}
use Rattle.graph_terms.specs.declared.verb.EdgeKind.TheVariants.{Passes}
use Rattle.graph_terms.specs.declared.outcome.End.{End}
use Rattle.basics.proofs.ListFacts.{filter_contains, contains_filter}
use Rattle.explanations.specs.declared.search.Way.{Way}
use Rattle.explanations.specs.declared.search.Way.TheVariants.{Onward, Back, Faults}
use Rattle.explanations.specs.Reaches.{carries}
use Rattle.line_marks.specs.Marking.{IsMarking}
use Rattle.line_marks.proofs.Public.{marks_more, marks_as}
use Rattle.explanations.specs.Search.{follows, way_edges, IsFarEnd}

-- what is read past the end of a list of edges
abbrev pub no_edge : Edge
no_edge = record { «from» = 0; «to» = 0; «kind» = Passes }

pub some_or : (n : ℕ) → (0 < n) ⊎ (n ≡ 0)
some_or n = elim (cases_lt 0 n) [ inl h ↦ inl h | inr h ↦ inr (omega arith) ]

-- a line that counts is among the lines
pub counted_below : (xs : List ℕ) (i : ℕ) → 0 < slice_index xs i → i < length xs
counted_below xs i h = elim (cases_lt i (length xs)) [ inl l ↦ l | inr past ↦ absurd (let z : slice_index xs i ≡ 0 = get_or_past xs i 0 past in omega arith) ]

-- one more line of a list
pub lines_more : (count : ℕ) (old before mid between new after lines : List ℕ) (k : ℕ) → k < length lines → IsMarking (Contains (take k lines)) count old before mid between →
    IsMarking (λ i. i ≡ slice_index lines k) count mid between new after → IsMarking (Contains (take (k + 1) lines)) count old before new after
lines_more count old before mid between new after lines k below a b = marks_more (Contains (take k lines)) (λ i. i ≡ slice_index lines k) (Contains (take (k + 1) lines)) count old before mid between new after a b
    (λ i c. subst (λ xs. Contains xs i) (sym more) (Contains-append_left (take k lines) (slice_index lines k ∷ []) i c))
    (λ i e. subst (λ xs. Contains xs i) (sym more) (subst (λ x. Contains (take k lines ++ slice_index lines k ∷ []) x) (sym e) (Contains-push (take k lines) (slice_index lines k))))
    (λ i c. elim (Contains-push_cases (take k lines) (slice_index lines k) i (subst (λ xs. Contains xs i) more c)) [ inl l ↦ inl l | inr e ↦ inr (sym e) ])
  where
    more : take (k + 1) lines ≡ take k lines ++ slice_index lines k ∷ []
    more = take_more lines k 0 below

-- the edges that a search follows
pub follow_in : (way : Way) (ends : List End) (es : List Edge) (e : Edge) → Contains (way_edges way ends es) e → Contains es e × (follows way ends e ≡ true)
follow_in Onward ends es e c = (c, refl)
follow_in Back ends es e c = (c, refl)
follow_in Faults ends es e c = filter_contains (carries ends) es e c

pub in_follow : (way : Way) (ends : List End) (es : List Edge) (e : Edge) → Contains es e → follows way ends e ≡ true → Contains (way_edges way ends es) e
in_follow Onward ends es e c f = c
in_follow Back ends es e c f = c
in_follow Faults ends es e c f = contains_filter (carries ends) es e c f

-- one more edge of a list
module _ (way : Way) (ends : List End) (far : Edge → ℕ) (count : ℕ) (es : List Edge) (k : ℕ) (below : k < length es) where
  more : take (k + 1) es ≡ take k es ++ slice_index_or es k no_edge ∷ []
  more = take_more es k no_edge below

  longer : (i : ℕ) → IsFarEnd (way_edges way ends (take k es)) far i → IsFarEnd (way_edges way ends (take (k + 1) es)) far i
  longer i t = let f = follow_in way ends (take k es) t.0 t.1 in
      (t.0, in_follow way ends (take (k + 1) es) t.0 (subst (λ xs. Contains xs t.0) (sym more) (Contains-append_left (take k es) (slice_index_or es k no_edge ∷ []) t.0 f.0)) f.1, t.2)

  shorter : (i : ℕ) → IsFarEnd (way_edges way ends (take (k + 1) es)) far i → IsFarEnd (way_edges way ends (take k es)) far i ⊎ ((i ≡ far (slice_index_or es k no_edge)) × (follows way ends (slice_index_or es k no_edge) ≡ true))
  shorter i t = let f = follow_in way ends (take (k + 1) es) t.0 t.1 in
      elim (Contains-push_cases (take k es) (slice_index_or es k no_edge) t.0 (subst (λ xs. Contains xs t.0) more f.0)) [
        | inl c ↦ inl (t.0, in_follow way ends (take k es) t.0 c f.1, t.2)
        | inr e ↦ inr (sym t.2 ∙ ap far (sym e), ap (follows way ends) e ∙ f.1)
      ]

  pub ends_more : (old before mid between new after : List ℕ) → follows way ends (slice_index_or es k no_edge) ≡ true → IsMarking (IsFarEnd (way_edges way ends (take k es)) far) count old before mid between →
      IsMarking (λ i. i ≡ far (slice_index_or es k no_edge)) count mid between new after → IsMarking (IsFarEnd (way_edges way ends (take (k + 1) es)) far) count old before new after
  ends_more old before mid between new after follow a b = marks_more (IsFarEnd (way_edges way ends (take k es)) far) (λ i. i ≡ far (slice_index_or es k no_edge)) (IsFarEnd (way_edges way ends (take (k + 1) es)) far) count old before mid between new after a b
      longer
      (λ i e. (slice_index_or es k no_edge, in_follow way ends (take (k + 1) es) (slice_index_or es k no_edge) (subst (λ xs. Contains xs (slice_index_or es k no_edge)) (sym more) (Contains-push (take k es) (slice_index_or es k no_edge))) follow, sym e))
      (λ i t. elim (shorter i t) [ inl s ↦ inl s | inr e ↦ inr e.0 ])

  -- that it does not follow
  pub ends_skip : (old before new after : List ℕ) → follows way ends (slice_index_or es k no_edge) ≡ false → IsMarking (IsFarEnd (way_edges way ends (take k es)) far) count old before new after →
      IsMarking (IsFarEnd (way_edges way ends (take (k + 1) es)) far) count old before new after
  ends_skip old before new after not m = marks_as (IsFarEnd (way_edges way ends (take k es)) far) (IsFarEnd (way_edges way ends (take (k + 1) es)) far) count old before new after
      longer
      (λ i t. elim (shorter i t) [ inl s ↦ s | inr e ↦ absurd (true≢false (sym e.1 ∙ not)) ])
      m
