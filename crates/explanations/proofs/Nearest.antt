-- The nearest of some edges, one by one.
use Rattle.std.proofs.Common.{◌≡◌, ℕ, ◌+◌, ◌<◌, ◌≤◌, inl, inr, List, [], ◌∷◌, ◌++◌, length, sym, subst, arith, take}
use Rattle.std.specs.Prelude.{Option, Some, None}
use Rattle.std.specs.List.{slice_index_or}
use Rattle.std.proofs.lemmas.List.{take_more, take_all}
use Rattle.std.proofs.lemmas.List.Elements.{Contains-append_left, Contains-push, Contains-push_cases}
use Rattle.basics.proofs.ListFacts.{contains_none}
use Rattle.graph_terms.specs.declared.verb.Edge.{Edge}
use Rattle.explanations.specs.Search.{IsNearest}
use Rattle.explanations.proofs.Marking.{no_edge}

module _ (near : Edge → ℕ) (counts : ℕ → ℕ) where
  pub nearest_none : IsNearest near counts [] None
  nearest_none e c = absurd (contains_none e c)

  module _ (es : List Edge) (x : Edge) where
    -- an edge that does not count
    pub nearest_skip : (best : Option Edge) → counts (near x) ≡ 0 → IsNearest near counts es best → IsNearest near counts (es ++ x ∷ []) best
    nearest_skip None z n = λ e c. elim (Contains-push_cases es x e c) [ inl b ↦ n e b | inr is ↦ subst (λ y. counts (near y) ≡ 0) is z ]
    nearest_skip (Some b) z n = (
      Contains-append_left es (x ∷ []) b n.0,
      n.1,
      λ e c h. elim (Contains-push_cases es x e c) [ inl l ↦ n.2 e l h | inr is ↦ absurd (let y : counts (near e) ≡ 0 = subst (λ y. counts (near y) ≡ 0) is z in omega arith) ],
    )

    -- one that counts no less
    pub nearest_keep : (b : Edge) → counts (near b) ≤ counts (near x) → IsNearest near counts es (Some b) → IsNearest near counts (es ++ x ∷ []) (Some b)
    nearest_keep b less n = (Contains-append_left es (x ∷ []) b n.0, n.1, λ e c h. elim (Contains-push_cases es x e c) [ inl l ↦ n.2 e l h | inr is ↦ subst (λ y. counts (near b) ≤ counts (near y)) is less ])

    -- one that counts less, or is the first that counts
    pub nearest_first : 0 < counts (near x) → IsNearest near counts es None → IsNearest near counts (es ++ x ∷ []) (Some x)
    nearest_first some n = (
      Contains-push es x,
      some,
      λ e c h. elim (Contains-push_cases es x e c) [ inl l ↦ absurd (let z : counts (near e) ≡ 0 = n e l in omega arith) | inr is ↦ subst (λ y. counts (near x) ≤ counts (near y)) is (omega arith) ],
    )

    pub nearest_take : (b : Edge) → 0 < counts (near x) → counts (near x) < counts (near b) → IsNearest near counts es (Some b) → IsNearest near counts (es ++ x ∷ []) (Some x)
    nearest_take b some less n = (
      Contains-push es x,
      some,
      λ e c h. elim (Contains-push_cases es x e c) [ inl l ↦ (let k : counts (near b) ≤ counts (near e) = n.2 e l h in omega arith) | inr is ↦ subst (λ y. counts (near x) ≤ counts (near y)) is (omega arith) ],
    )

  pub nearest_step : (es : List Edge) (k : ℕ) (best : Option Edge) → k < length es → IsNearest near counts (take k es ++ slice_index_or es k no_edge ∷ []) best → IsNearest near counts (take (k + 1) es) best
  nearest_step es k best below n = subst (λ xs. IsNearest near counts xs best) (sym (take_more es k no_edge below)) n

  pub nearest_ends : (es : List Edge) (k : ℕ) (best : Option Edge) → length es ≤ k → IsNearest near counts (take k es) best → IsNearest near counts es best
  nearest_ends es k best past n = subst (λ xs. IsNearest near counts xs best) (take_all k es past) n
