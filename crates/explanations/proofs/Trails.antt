-- Edges that lead back to a start, one by one.
use Rattle.std.proofs.Common.{◌≡◌, ℕ, ◌+◌, ◌<◌, ◌≤◌, inl, inr, List, [], ◌∷◌, ◌++◌, length, refl, sym, ◌∙◌, ap, subst, arith}
use Rattle.std.specs.Prelude.{Contains, ◌==◌, filter, Some, None}
use Rattle.std.proofs.lemmas.Bool.{eq-eqb, eqb-true}
use Rattle.std.proofs.lemmas.List.{length_push}
use Rattle.basics.proofs.ListFacts.{filter_contains, contains_filter}
use Rattle.graph_terms.specs.declared.verb.Edge.{Edge}
use Rattle.explanations.specs.Search.{AreCounts, IsNearest, LeadsBack, IsTrail}

-- a trail under way: edges back as far as line `at`
pub record IsTrailing (all : List Edge) (near far : Edge → ℕ) (counts : ℕ → ℕ) (i at : ℕ) (p : List Edge) : Type 0 where
  pub found : 0 < counts at
  pub some : 0 < length p
  pub leads : LeadsBack all near far i at p
  pub least : (e : Edge) → Contains all e → far e ≡ i → 0 < counts (near e) → length p + counts at ≤ counts (near e) + 1

module _ (all : List Edge) (near far : Edge → ℕ) where
  pub leads_more : (i s : ℕ) (p : List Edge) (e : Edge) → LeadsBack all near far i s p → Contains all e → far e ≡ s → LeadsBack all near far i (near e) (p ++ e ∷ [])
  leads_more i s [] e l c f = (c, f ∙ sym l, refl)
  leads_more i s (x ∷ p) e l c f = (l.0, l.1, leads_more (near x) s p e l.2 c f)

  module _ (counts : ℕ → ℕ) (i : ℕ) where
    -- of the edges that lead back from a line none counts
    pub nearest_is_none : IsNearest near counts (filter (λ e. far e == i) all) None → (e : Edge) → Contains all e → far e ≡ i → counts (near e) ≡ 0
    nearest_is_none n e c f = n e (contains_filter (λ (x : Edge). far x == i) all e c (eq-eqb (far e) i f))

    module _ (b : Edge) (n : IsNearest near counts (filter (λ e. far e == i) all) (Some b)) where
      pub nearest_in : Contains all b
      nearest_in = (filter_contains (λ (x : Edge). far x == i) all b n.0).0

      pub nearest_far : far b ≡ i
      nearest_far = eqb-true (far b) i (filter_contains (λ (x : Edge). far x == i) all b n.0).1

      pub nearest_some : 0 < counts (near b)
      nearest_some = n.1

      pub nearest_least : (e : Edge) → Contains all e → far e ≡ i → 0 < counts (near e) → counts (near b) ≤ counts (near e)
      nearest_least e c f h = n.2 e (contains_filter (λ (x : Edge). far x == i) all e c (eq-eqb (far e) i f)) h

    -- a line that counts more than 1 was found by an edge
    module _ (start : ℕ → Type 0) (a : AreCounts all near far start counts) (many : 1 < counts i) where
      pub found_by_edge : (e : Edge) × Contains all e × (far e ≡ i) × (0 < counts (near e)) × (counts i ≡ counts (near e) + 1)
      found_by_edge = elim (a.found i (omega arith)) [ inl b ↦ absurd (let one : counts i ≡ 1 = b.1 in omega arith) | inr f ↦ f ]

      pub found_by_some : IsNearest near counts (filter (λ e. far e == i) all) None → ⊥
      found_by_some n = let f = found_by_edge in let z : counts (near f.0) ≡ 0 = nearest_is_none n f.0 f.1 f.2 in let s : 0 < counts (near f.0) = f.3 in absurd (omega arith)

      pub one_less : (b : Edge) → IsNearest near counts (filter (λ e. far e == i) all) (Some b) → counts i ≡ counts (near b) + 1
      one_less b n =
          let f = found_by_edge in
          let least : counts (near b) ≤ counts (near f.0) = nearest_least b n f.0 f.1 f.2 f.3 in
          let is : counts i ≡ counts (near f.0) + 1 = f.4 in
          let k : counts (far b) ≤ counts (near b) + 1 = (a.closed b (nearest_in b n) (nearest_some b n)).1 in
          let same : counts (far b) ≡ counts i = ap counts (nearest_far b n) in omega arith

    -- the first edge back, one more, and the last
    pub trailing_begins : (b : Edge) → IsNearest near counts (filter (λ e. far e == i) all) (Some b) → (at : ℕ) → at ≡ near b → (p : List Edge) → p ≡ b ∷ [] → IsTrailing all near far counts i at p
    trailing_begins b n at is p one = subst (λ x. IsTrailing all near far counts i x p) (sym is) (subst (λ q. IsTrailing all near far counts i (near b) q) (sym one) begun)
      where
        begun : IsTrailing all near far counts i (near b) (b ∷ [])
        begun = record {
          found = nearest_some b n;
          some = omega arith;
          leads = (nearest_in b n, nearest_far b n, refl);
          least = λ e c f h. (let k : counts (near b) ≤ counts (near e) = nearest_least b n e c f h in omega arith);
        }

    pub trailing_more : (at : ℕ) (p : List Edge) → IsTrailing all near far counts i at p → (e : Edge) → Contains all e → far e ≡ at → 0 < counts (near e) → counts at ≡ counts (near e) + 1 →
        (next : ℕ) → next ≡ near e → (q : List Edge) → q ≡ p ++ e ∷ [] → IsTrailing all near far counts i next q
    trailing_more at p t e c f some less next is q more = subst (λ x. IsTrailing all near far counts i x q) (sym is) (subst (λ r. IsTrailing all near far counts i (near e) r) (sym more) longer)
      where
        one_more : length (p ++ e ∷ []) ≡ length p + 1
        one_more = length_push p e

        longer : IsTrailing all near far counts i (near e) (p ++ e ∷ [])
        longer = record {
          found = some;
          some = (let l : length (p ++ e ∷ []) ≡ length p + 1 = one_more in omega arith);
          leads = leads_more i at p e t.leads c f;
          least = λ x m g h. (let l : length (p ++ e ∷ []) ≡ length p + 1 = one_more in let k : length p + counts at ≤ counts (near x) + 1 = t.least x m g h in omega arith);
        }

    pub trailing_ends : (at : ℕ) (p : List Edge) → IsTrailing all near far counts i at p → counts at ≤ 1 → IsTrail all near far counts i p
    trailing_ends at p t last = record {
      some = t.some;
      start = at;
      first = (let s : 0 < counts at = t.found in omega arith);
      leads = t.leads;
      least = λ e c f h. (let s : 0 < counts at = t.found in let k : length p + counts at ≤ counts (near e) + 1 = t.least e c f h in omega arith);
    }
