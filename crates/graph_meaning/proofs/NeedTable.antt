-- The need of a graph, by computing.
use Rattle.std.proofs.Common.{◌≡◌, ℕ, zero, suc, ◌+◌, ◌<◌, ◌≤◌, max, Bool, true, false, cond, ◌||◌, ◌⊎◌, inl, inr, List, [], ◌∷◌, length, map, refl, sym, ◌∙◌, ap, subst, arith}
use Rattle.std.specs.Prelude.{Contains, ◌==◌, slice_index, IsTrue}
use Rattle.std.specs.List.{range_with_len}
use Rattle.std.proofs.lemmas.Bool.{eq-eqb, eqb-true, or_cases, or_left, or_right, cond-true, cases_lt}
use Rattle.graph_terms.specs.declared.verb.Edge.{Edge}
use Rattle.graph_terms.specs.Graph.{GraphValue, never_comes}
use Rattle.graph_meaning.specs.Need.{need_edges, Precedes, IsHigh, IsNeed, largest, open_at}
use Rattle.basics.proofs.ListFacts.{contains_none, contains_cases, contains_here, contains_there, contains_map, map_contains, contains_below, below_contains}
use Rattle.graph_meaning.proofs.PathTable.{has_path, edges_below, range_by, path_is_bit, path_by_table, path_below}
use Rattle.basics.specs.Lists.{numbers_below}

-- whether m is i or has a path to it
abbrev pub precedes : List Edge → ℕ → ℕ → ℕ → Bool
precedes es n i m = (m == i) || has_path es n m i

-- what a line counts for as one before i
abbrev pub weight : GraphValue → List Edge → ℕ → ℕ → ℕ → ℕ
weight g es n i m = cond (precedes es n i m) (cond (never_comes g m) (n + 1) (m + 1)) 0

abbrev pub high_of : GraphValue → List Edge → ℕ → ℕ → ℕ
high_of g es n i = largest (map (weight g es n i) (numbers_below n))

abbrev pub highs_of : GraphValue → List ℕ
highs_of g = map (high_of g (need_edges g) (length g.lines)) (numbers_below (length g.lines))

-- the need, by computing
abbrev pub need_of : GraphValue → ℕ
need_of g = 1 + largest (map (open_at (highs_of g)) (numbers_below (length g.lines)))

pub largest_above : (xs : List ℕ) (x : ℕ) → Contains xs x → x ≤ largest xs
largest_above [] x c = absurd (contains_none x c)
largest_above (y ∷ ys) x c = elim (contains_cases y ys x c) [
  | inl e ↦ omega arith
  | inr r ↦ (let h : x ≤ largest ys = largest_above ys x r in omega arith)
]

max_cases : (a b : ℕ) → (max a b ≡ a) ⊎ (max a b ≡ b)
max_cases a b = elim (cases_lt a b) [ inl l ↦ inr (omega arith) | inr l ↦ inl (omega arith) ]

pub largest_is : (x : ℕ) (xs : List ℕ) → Contains (x ∷ xs) (largest (x ∷ xs))
largest_is x [] = subst (λ z. Contains (x ∷ []) z) (let e : x ≡ max x 0 = omega arith in e) (contains_here x [])
largest_is x (y ∷ ys) = elim (max_cases x (largest (y ∷ ys))) [
  | inl e ↦ subst (λ z. Contains (x ∷ y ∷ ys) z) (sym e) (contains_here x (y ∷ ys))
  | inr e ↦ subst (λ z. Contains (x ∷ y ∷ ys) z) (sym e) (contains_there x (y ∷ ys) (largest (y ∷ ys)) (largest_is y ys))
]

largest_of : (xs : List ℕ) (x : ℕ) → Contains xs x → Contains xs (largest xs)
largest_of [] x c = absurd (contains_none x c)
largest_of (y ∷ ys) x c = largest_is y ys

length-range_with_len : (lo n : ℕ) → length (range_with_len lo n) ≡ n
length-range_with_len lo zero = refl
length-range_with_len lo (suc n) = ap suc (length-range_with_len (lo + 1) n)

get-range_with_len : (f : ℕ → ℕ) (lo n i : ℕ) → i < n → slice_index (map f (range_with_len lo n)) i ≡ f (lo + i)
get-range_with_len f lo zero i h = absurd (omega arith)
get-range_with_len f lo (suc n) zero h = ap f (let s : lo ≡ lo + 0 = omega arith in s)
get-range_with_len f lo (suc n) (suc i) h = get-range_with_len f (lo + 1) n i (omega arith) ∙ ap f (let s : (lo + 1) + i ≡ lo + suc i = omega arith in s)

length_map : (f : ℕ → ℕ) (xs : List ℕ) → length (map f xs) ≡ length xs
length_map f [] = refl
length_map f (x ∷ xs) = ap suc (length_map f xs)

module _ (g : GraphValue) (range : edges_below (length g.lines) (need_edges g) ≡ true) (i : ℕ) (below : i < length g.lines) where
  precedes_from : (m : ℕ) → Precedes (need_edges g) m i → (m < length g.lines) × (precedes (need_edges g) (length g.lines) i m ≡ true)
  precedes_from m (inl e) = (subst (λ x. x < length g.lines) (sym e) below, or_left (m == i) (has_path (need_edges g) (length g.lines) m i) (eq-eqb m i e))
  precedes_from m (inr p) = (
    (path_below (need_edges g) (length g.lines) (range_by (length g.lines) (need_edges g) range) p).0,
    or_right (m == i) (has_path (need_edges g) (length g.lines) m i) (path_is_bit (need_edges g) (length g.lines) (range_by (length g.lines) (need_edges g) range) p),
  )

  from_precedes : (m : ℕ) → precedes (need_edges g) (length g.lines) i m ≡ true → Precedes (need_edges g) m i
  from_precedes m h = elim (or_cases (m == i) (has_path (need_edges g) (length g.lines) m i) h) [
    | inl e ↦ inl (eqb-true m i e)
    | inr p ↦ inr (path_by_table (need_edges g) (length g.lines) m i p)
  ]

  weight_in : (m : ℕ) → Precedes (need_edges g) m i → Contains (map (weight g (need_edges g) (length g.lines) i) (numbers_below (length g.lines))) (cond (never_comes g m) (length g.lines + 1) (m + 1))
  weight_in m p =
      let f = precedes_from m p in
      subst (λ z. Contains (map (weight g (need_edges g) (length g.lines) i) (numbers_below (length g.lines))) z)
      (cond-true (precedes (need_edges g) (length g.lines) i m) (cond (never_comes g m) (length g.lines + 1) (m + 1)) 0 f.1)
      (contains_map (weight g (need_edges g) (length g.lines) i) (numbers_below (length g.lines)) m (contains_below (length g.lines) m f.0))

  weight_most : (m : ℕ) (b : Bool) → m < length g.lines → cond b (length g.lines + 1) (m + 1) ≤ length g.lines + 1
  weight_most m true h = omega arith
  weight_most m false h = omega arith

  weight_least : (m : ℕ) (b : Bool) → m < length g.lines → m + 1 ≤ cond b (length g.lines + 1) (m + 1)
  weight_least m true h = omega arith
  weight_least m false h = omega arith

  attained_by : (m : ℕ) (p c : Bool) → precedes (need_edges g) (length g.lines) i m ≡ p → never_comes g m ≡ c → m < length g.lines →
      (h : ℕ) → cond p (cond c (length g.lines + 1) (m + 1)) 0 ≡ h → 1 ≤ h →
      (k : ℕ) × Precedes (need_edges g) k i × ((h ≡ k + 1) ⊎ (IsTrue (never_comes g k) × (h ≡ length g.lines + 1))) × (h ≤ length g.lines + 1)
  attained_by m true true e f l h s one = (m, from_precedes m e, inr (f, sym s), omega arith)
  attained_by m true false e f l h s one = (m, from_precedes m e, inl (sym s), omega arith)
  attained_by m false c e f l h s one = absurd (omega arith)

  is_high : IsHigh g i (high_of g (need_edges g) (length g.lines) i)
  is_high =
      let high : ℕ = high_of g (need_edges g) (length g.lines) i in
      let own = weight_in i (inl refl) in
      let own_le : cond (never_comes g i) (length g.lines + 1) (i + 1) ≤ high = largest_above _ _ own in
      let least : i + 1 ≤ cond (never_comes g i) (length g.lines + 1) (i + 1) = weight_least i (never_comes g i) below in
      let one : 1 ≤ high = omega arith in
      let m = map_contains (weight g (need_edges g) (length g.lines) i) (numbers_below (length g.lines)) high (largest_of _ _ own) in
      let a = attained_by m.0 (precedes (need_edges g) (length g.lines) i m.0) (never_comes g m.0) refl refl (below_contains (length g.lines) m.0 m.1) high m.2 one in
      record {
        above = λ k p. (let le : cond (never_comes g k) (length g.lines + 1) (k + 1) ≤ high = largest_above _ _ (weight_in k p) in
            let l : k + 1 ≤ cond (never_comes g k) (length g.lines + 1) (k + 1) = weight_least k (never_comes g k) (precedes_from k p).0 in omega arith);
        above_all = λ k p never. (let le : cond (never_comes g k) (length g.lines + 1) (k + 1) ≤ high = largest_above _ _ (weight_in k p) in
            let all : cond (never_comes g k) (length g.lines + 1) (k + 1) ≡ length g.lines + 1 = cond-true (never_comes g k) (length g.lines + 1) (k + 1) never in
            let most : high ≤ length g.lines + 1 = a.3 in omega arith);
        attained = (a.0, a.1, a.2);
      }

-- the computed number is the need
pub need_is : (g : GraphValue) → edges_below (length g.lines) (need_edges g) ≡ true → IsNeed g (need_of g)
need_is g range = record {
  highs = highs_of g;
  each_line = length_map (high_of g (need_edges g) (length g.lines)) (numbers_below (length g.lines)) ∙ length-range_with_len 0 (length g.lines);
  high = λ i below. subst (λ h. IsHigh g i h)
      (sym (get-range_with_len (high_of g (need_edges g) (length g.lines)) 0 (length g.lines) i below ∙ ap (high_of g (need_edges g) (length g.lines)) (let e : 0 + i ≡ i = omega arith in e)))
      (is_high g range i below);
  most = refl;
}
