-- What the counts of two searches say of lines with paths to both starts.
use Rattle.std.proofs.Common.{◌≡◌, ℕ, zero, suc, ◌+◌, ◌<◌, ◌≤◌, ◌≢◌, inl, inr, List, [], ◌∷◌, length, sym, subst, arith}
use Rattle.std.specs.Prelude.{Contains, Some, None, Option}
use Rattle.std.proofs.lemmas.Bool.{cases_lt}
use Rattle.basics.proofs.ListFacts.{contains_here, contains_cases, contains_none}
use Rattle.graph_terms.specs.declared.verb.Edge.{Edge}
use Rattle.graph_terms.specs.Graph.{GraphValue}
use Rattle.graph_terms.specs.Edges.{edges}
use Rattle.graph_meaning.specs.Path.{HasPath}
use Rattle.explanations.specs.Paths.{Leads, IsPath, IsShortest, path_edges}
use Rattle.explanations.specs.Meetings.{IsLeastBelow}
use Rattle.explanations.specs.declared.search.Way.TheVariants.{Back}
use Rattle.explanations.specs.Search.{near_end, far_end, AreCounts}
use Rattle.explanations.proofs.PathFacts.{is_path, paths_listed, counts_to}

-- the lines that count reach the start, by as many edges as they count, less one
module _ (g : GraphValue) (j : ℕ) (counts : ℕ → ℕ) (a : AreCounts (edges g) (near_end Back) (far_end Back) (Contains (j ∷ [])) counts) where
  start_is : (i : ℕ) → Contains (j ∷ []) i → i ≡ j
  start_is i c = elim (contains_cases j [] i c) [ inl e ↦ sym e | inr n ↦ absurd (contains_none i n) ]

  reaches : (n i : ℕ) → counts i ≤ n → 0 < counts i → (q : List Edge) × Leads (edges g) i j q × (length q + 1 ≡ counts i)
  reaches zero i few h = absurd (omega arith)
  reaches (suc n) i few h = elim (a.found i h) [
    | inl s ↦ ([], start_is i s.0, (let one : counts i ≡ 1 = s.1 in let r : length {A = Edge} [] + 1 ≡ counts i = omega arith in r))
    | inr f ↦ (
        let more : counts i ≡ counts f.0.to + 1 = f.4 in
        let r = reaches n f.0.to (omega arith) f.3 in
        let rest : length r.0 + 1 ≡ counts f.0.to = r.2 in
        let t : length (f.0 ∷ r.0) + 1 ≡ counts i = omega arith in
        (f.0 ∷ r.0, (f.1, f.2, r.1), t))
  ]

  -- from a line other than the start by a path
  pub path_of_count : (i : ℕ) → (i ≡ j → ⊥) → 0 < counts i → (q : List Edge) × IsPath g i j q × (length q + 1 ≡ counts i)
  path_of_count i apart h = let r = reaches (counts i) i (omega arith) h in by_list r.0 r.1 r.2
    where
      by_list : (q : List Edge) → Leads (edges g) i j q → length q + 1 ≡ counts i → (q : List Edge) × IsPath g i j q × (length q + 1 ≡ counts i)
      by_list [] l e = absurd (apart l)
      by_list (x ∷ q) l e = (x ∷ q, record { some = omega arith; leads = l }, e)

  pub path_there : (i : ℕ) → (i ≡ j → ⊥) → 0 < counts i → HasPath g i j
  path_there i apart h = let q = path_of_count i apart h in (paths_listed.each g i j q.0 q.1).0

  pub count_of_path : (i : ℕ) (p : List Edge) → IsPath g i j p → (0 < counts i) × (counts i ≤ length p + 1)
  count_of_path i p h = counts_to (edges g) (Contains (j ∷ [])) counts a i j p (contains_here j []) h.leads

-- one more line of two lists of counts
module _ (ones others : ℕ → ℕ) (n : ℕ) where
  pub least_skip : (best : Option ℕ) → (0 < ones n → 0 < others n → ⊥) → IsLeastBelow ones others n best → IsLeastBelow ones others (n + 1) best
  least_skip None not l = λ k b h m. elim (cases_lt k n) [ inl lt ↦ l k lt h m | inr up ↦ (let e : k ≡ n = omega arith in not (subst (λ x. 0 < ones x) e h) (subst (λ x. 0 < others x) e m)) ]
  least_skip (Some s) not l = (
    (let b : s < n = l.0 in omega arith),
    l.1,
    l.2,
    λ k b h m. elim (cases_lt k n) [ inl lt ↦ l.3 k lt h m | inr up ↦ absurd (let e : k ≡ n = omega arith in not (subst (λ x. 0 < ones x) e h) (subst (λ x. 0 < others x) e m)) ],
  )

  pub least_keep : (s : ℕ) → ones s + others s ≤ ones n + others n → IsLeastBelow ones others n (Some s) → IsLeastBelow ones others (n + 1) (Some s)
  least_keep s less l = (
    (let b : s < n = l.0 in omega arith),
    l.1,
    l.2,
    λ k b h m. elim (cases_lt k n) [ inl lt ↦ l.3 k lt h m | inr up ↦ (let e : n ≡ k = omega arith in subst (λ x. ones s + others s ≤ ones x + others x) e less) ],
  )

  pub least_first : 0 < ones n → 0 < others n → IsLeastBelow ones others n None → IsLeastBelow ones others (n + 1) (Some n)
  least_first h m l = (
    omega arith,
    h,
    m,
    λ k b p q. elim (cases_lt k n) [ inl lt ↦ absurd (l k lt p q) | inr up ↦ (let e : n ≡ k = omega arith in subst (λ x. ones n + others n ≤ ones x + others x) e (omega arith)) ],
  )

  pub least_take : (s : ℕ) → 0 < ones n → 0 < others n → ones n + others n < ones s + others s → IsLeastBelow ones others n (Some s) → IsLeastBelow ones others (n + 1) (Some n)
  least_take s h m less l = (
    omega arith,
    h,
    m,
    λ k b p q. elim (cases_lt k n) [ inl lt ↦ (let x : ones s + others s ≤ ones k + others k = l.3 k lt p q in omega arith) | inr up ↦ (let e : n ≡ k = omega arith in subst (λ x. ones n + others n ≤ ones x + others x) e (omega arith)) ],
  )

-- the line of least sum is the nearest
module _ (g : GraphValue) (i j : ℕ) (ones others : ℕ → ℕ) (a : AreCounts (edges g) (near_end Back) (far_end Back) (Contains (i ∷ [])) ones) (b : AreCounts (edges g) (near_end Back) (far_end Back) (Contains (j ∷ [])) others)
    (different : i ≢ j) (forward : HasPath g i j → ⊥) (backward : HasPath g j i → ⊥) where
  pub not_first : (k : ℕ) → 0 < others k → k ≡ i → ⊥
  not_first k h e = forward (path_there g j others b i different (subst (λ x. 0 < others x) e h))

  pub not_second : (k : ℕ) → 0 < ones k → k ≡ j → ⊥
  not_second k h e = backward (path_there g i ones a j (λ s. different (sym s)) (subst (λ x. 0 < ones x) e h))

  pub first_there : (k : ℕ) → 0 < ones k → 0 < others k → HasPath g k i
  first_there k h m = path_there g i ones a k (not_first k m) h

  pub second_there : (k : ℕ) → 0 < ones k → 0 < others k → HasPath g k j
  second_there k h m = path_there g j others b k (not_second k h) m

  module _ (n : ℕ) (below : (k : ℕ) → 0 < ones k → k < n) where
    pub none_common : IsLeastBelow ones others n None → (k : ℕ) → HasPath g k i → HasPath g k j → ⊥
    none_common l k p q =
        let h = (count_of_path g i ones a k (path_edges p) (is_path g k i p)).0 in
        let m = (count_of_path g j others b k (path_edges q) (is_path g k j q)).0 in l k (below k h) h m

    pub nearest : (k : ℕ) → IsLeastBelow ones others n (Some k) → (p q : List Edge) → IsShortest g k i p → IsShortest g k j q →
        (m : ℕ) (x y : List Edge) → IsPath g m i x → IsPath g m j y → length p + length q ≤ length x + length y
    nearest k l p q s t m x y u v =
        let c = path_of_count g i ones a k (not_first k l.2) l.1 in
        let d = path_of_count g j others b k (not_second k l.1) l.2 in
        let one : length p ≤ length c.0 = s.shortest c.0 c.1 in
        let other : length q ≤ length d.0 = t.shortest d.0 d.1 in
        let ce : length c.0 + 1 ≡ ones k = c.2 in
        let de : length d.0 + 1 ≡ others k = d.2 in
        let f = count_of_path g i ones a m x u in
        let h = count_of_path g j others b m y v in
        let least : ones k + others k ≤ ones m + others m = l.3 m (below m f.0) f.0 h.0 in
        let fx : ones m ≤ length x + 1 = f.1 in
        let hy : others m ≤ length y + 1 = h.1 in omega arith
