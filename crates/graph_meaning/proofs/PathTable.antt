-- A table that tells for each two lines whether a path leads from the one to the other.
use Rattle.std.proofs.Common.{◌≡◌, ℕ, zero, suc, ◌+◌, ◌<◌, Bool, true, false, not, cond, ◌&&◌, ◌||◌, ◌⊎◌, inl, inr, List, [], ◌∷◌, map, refl, sym, ◌∙◌, ap, subst, arith}
use Rattle.std.specs.Prelude.{Contains, ◌==◌, nat_lt}
use Rattle.std.specs.List.{list_any, list_all, slice_index_or, range_with_len}
use Rattle.std.proofs.lemmas.Bool.{true≢false, eq-eqb, eqb-true, or_cases, or_left, or_right, and_parts, and_from, cases_order, ltb-true, not-true}
use Rattle.graph_terms.specs.declared.verb.Edge.{Edge}
use Rattle.graph_meaning.specs.Path.{Path, last, first}
use Rattle.graph_meaning.proofs.PathLaws.{path_append}
use Rattle.basics.proofs.ListFacts.{some_passes, passes_some, passes_each, contains_below}
use Rattle.basics.specs.Lists.{numbers_below}
use Rattle.graph_meaning.specs.Laws.{PathsStayBelow}

-- whether an edge leads from i to j
abbrev pub is_edge : List Edge → ℕ → ℕ → Bool
is_edge es i j = list_any (λ (e : Edge). (e.from == i) && (e.to == j)) es

abbrev pub bit : List Bool → ℕ → Bool
bit row j = slice_index_or row j false

abbrev pub row_at : List (List Bool) → ℕ → List Bool
row_at rows i = slice_index_or rows i []

-- the bits of either row
abbrev pub either : List Bool → List Bool → List Bool
either [] bs = bs
either (a ∷ as') [] = a ∷ as'
either (a ∷ as') (b ∷ bs) = (a || b) ∷ either as' bs

-- a row with what can be reached through line k
abbrev pub through : ℕ → List Bool → List Bool → List Bool
through k via row = cond (bit row k) (either row via) row

-- the table after lines below k may stand on a path between its ends
abbrev pub table : List Edge → ℕ → ℕ → List (List Bool)
table es n zero = map (λ i. map (is_edge es i) (numbers_below n)) (numbers_below n)
table es n (suc k) = map (through k (row_at (table es n k) k)) (table es n k)

-- whether a path leads from i to j, by the table
abbrev pub has_path : List Edge → ℕ → ℕ → ℕ → Bool
has_path es n i j = bit (row_at (table es n n) i) j

-- whether all edges are between lines below n
abbrev pub edges_below : ℕ → List Edge → Bool
edges_below n es = list_all (λ (e : Edge). nat_lt e.from n && nat_lt e.to n) es

pub bit-either : (a b : List Bool) (j : ℕ) → bit (either a b) j ≡ (bit a j || bit b j)
bit-either [] b j = refl
bit-either (x ∷ a) [] j = or_false (bit (x ∷ a) j)
  where
    or_false : (t : Bool) → t ≡ (t || false)
    or_false true = refl
    or_false false = refl
bit-either (x ∷ a) (y ∷ b) zero = refl
bit-either (x ∷ a) (y ∷ b) (suc j) = bit-either a b j

row_at-map : (f : List Bool → List Bool) → f [] ≡ [] → (rows : List (List Bool)) (i : ℕ) → row_at (map f rows) i ≡ f (row_at rows i)
row_at-map f e [] i = sym e
row_at-map f e (r ∷ rows) zero = refl
row_at-map f e (r ∷ rows) (suc i) = row_at-map f e rows i

bit_through_by : (k : ℕ) (via row : List Bool) (j : ℕ) (b : Bool) → bit row k ≡ b → bit (cond b (either row via) row) j ≡ (bit row j || (b && bit via j))
bit_through_by k via row j true e = bit-either row via j
bit_through_by k via row j false e = or_false (bit row j)
  where
    or_false : (t : Bool) → t ≡ (t || false)
    or_false true = refl
    or_false false = refl

-- a path after one more line may stand between: as before, or through that line
pub bit-suc : (es : List Edge) (n k i j : ℕ) →
    bit (row_at (table es n (suc k)) i) j ≡ (bit (row_at (table es n k) i) j || (bit (row_at (table es n k) i) k && bit (row_at (table es n k) k) j))
bit-suc es n k i j = ap (λ row. bit row j) (row_at-map (through k (row_at (table es n k) k)) refl (table es n k) i)
    ∙ bit_through_by k (row_at (table es n k) k) (row_at (table es n k) i) j (bit (row_at (table es n k) i) k) refl

-- the table of edges
bit_from : (f : ℕ → Bool) (lo n j : ℕ) → bit (map f (range_with_len lo n)) j ≡ true → f (lo + j) ≡ true
bit_from f lo zero j h = absurd (true≢false (sym h))
bit_from f lo (suc n) zero h = ap f (let e : lo + 0 ≡ lo = omega arith in e) ∙ h
bit_from f lo (suc n) (suc j) h = ap f (let e : lo + suc j ≡ (lo + 1) + j = omega arith in e) ∙ bit_from f (lo + 1) n j h

from_bit : (f : ℕ → Bool) (lo n j : ℕ) → j < n → f (lo + j) ≡ true → bit (map f (range_with_len lo n)) j ≡ true
from_bit f lo zero j h e = absurd (omega arith)
from_bit f lo (suc n) zero h e = ap f (let s : lo ≡ lo + 0 = omega arith in s) ∙ e
from_bit f lo (suc n) (suc j) h e = from_bit f (lo + 1) n j (omega arith) (ap f (let s : (lo + 1) + j ≡ lo + suc j = omega arith in s) ∙ e)

row_from : (f : ℕ → List Bool) (lo n i j : ℕ) → bit (row_at (map f (range_with_len lo n)) i) j ≡ true → bit (f (lo + i)) j ≡ true
row_from f lo zero i j h = absurd (true≢false (sym h))
row_from f lo (suc n) zero j h = ap (λ x. bit (f x) j) (let e : lo + 0 ≡ lo = omega arith in e) ∙ h
row_from f lo (suc n) (suc i) j h = ap (λ x. bit (f x) j) (let e : lo + suc i ≡ (lo + 1) + i = omega arith in e) ∙ row_from f (lo + 1) n i j h

from_row : (f : ℕ → List Bool) (lo n i j : ℕ) → i < n → bit (f (lo + i)) j ≡ true → bit (row_at (map f (range_with_len lo n)) i) j ≡ true
from_row f lo zero i j h e = absurd (omega arith)
from_row f lo (suc n) zero j h e = ap (λ x. bit (f x) j) (let s : lo ≡ lo + 0 = omega arith in s) ∙ e
from_row f lo (suc n) (suc i) j h e = from_row f (lo + 1) n i j (omega arith) (ap (λ x. bit (f x) j) (let s : (lo + 1) + i ≡ lo + suc i = omega arith in s) ∙ e)

pub is_edge_path : (es : List Edge) (i j : ℕ) → is_edge es i j ≡ true → Path es i j
is_edge_path es i j h =
    let s = some_passes (λ (e : Edge). (e.from == i) && (e.to == j)) es h in
    let p = and_parts (s.0.from == i) (s.0.to == j) s.2 in
    last s.0 s.1 (eqb-true s.0.from i p.0) (eqb-true s.0.to j p.1)

-- each bit of the table is a path
pub bit_is_path : (es : List Edge) (n k i j : ℕ) → bit (row_at (table es n k) i) j ≡ true → Path es i j
bit_is_path es n zero i j h =
    let row : bit (map (is_edge es (0 + i)) (numbers_below n)) j ≡ true = row_from (λ x. map (is_edge es x) (numbers_below n)) 0 n i j h in
    let both : is_edge es (0 + i) (0 + j) ≡ true = bit_from (is_edge es (0 + i)) 0 n j row in
    let ei : 0 + i ≡ i = omega arith in
    let ej : 0 + j ≡ j = omega arith in
    is_edge_path es i j (ap (λ x. is_edge es x j) (sym ei) ∙ (ap (λ x. is_edge es (0 + i) x) (sym ej) ∙ both))
bit_is_path es n (suc k) i j h = elim (or_cases (bit (row_at (table es n k) i) j) (bit (row_at (table es n k) i) k && bit (row_at (table es n k) k) j) (sym (bit-suc es n k i j) ∙ h)) [
  | inl a ↦ bit_is_path es n k i j a
  | inr b ↦ (let p = and_parts (bit (row_at (table es n k) i) k) (bit (row_at (table es n k) k) j) b in path_append (bit_is_path es n k i k p.0) (bit_is_path es n k k j p.1))
]

-- what stands in the table stays
pub bit_stays : (es : List Edge) (n k i j : ℕ) → bit (row_at (table es n k) i) j ≡ true → bit (row_at (table es n (suc k)) i) j ≡ true
bit_stays es n k i j h = bit-suc es n k i j ∙ or_left (bit (row_at (table es n k) i) j) (bit (row_at (table es n k) i) k && bit (row_at (table es n k) k) j) h

-- a path through line k
bit_through : (es : List Edge) (n k i j : ℕ) → bit (row_at (table es n k) i) k ≡ true → bit (row_at (table es n k) k) j ≡ true → bit (row_at (table es n (suc k)) i) j ≡ true
bit_through es n k i j a b = bit-suc es n k i j ∙ or_right (bit (row_at (table es n k) i) j) (bit (row_at (table es n k) i) k && bit (row_at (table es n k) k) j) (and_from (bit (row_at (table es n k) i) k) (bit (row_at (table es n k) k) j) a b)

-- a bit of the next table: as before, or both ways through line k
bit_cases : (es : List Edge) (n k i j : ℕ) → bit (row_at (table es n (suc k)) i) j ≡ true →
    (bit (row_at (table es n k) i) j ≡ true) ⊎ ((bit (row_at (table es n k) i) k ≡ true) × (bit (row_at (table es n k) k) j ≡ true))
bit_cases es n k i j h = elim (or_cases (bit (row_at (table es n k) i) j) (bit (row_at (table es n k) i) k && bit (row_at (table es n k) k) j) (sym (bit-suc es n k i j) ∙ h)) [
  | inl a ↦ inl a
  | inr b ↦ inr (let p = and_parts (bit (row_at (table es n k) i) k) (bit (row_at (table es n k) k) j) b in (p.0, p.1))
]

to_pivot : (es : List Edge) (n k i : ℕ) → bit (row_at (table es n (suc k)) i) k ≡ true → bit (row_at (table es n k) i) k ≡ true
to_pivot es n k i h = elim (bit_cases es n k i k h) [ inl a ↦ a | inr p ↦ p.0 ]

from_pivot : (es : List Edge) (n k j : ℕ) → bit (row_at (table es n (suc k)) k) j ≡ true → bit (row_at (table es n k) k) j ≡ true
from_pivot es n k j h = elim (bit_cases es n k k j h) [ inl a ↦ a | inr p ↦ p.1 ]

-- two bits that meet at a line below k make a third
pub bit_joined : (es : List Edge) (n k m i j : ℕ) → m < k → bit (row_at (table es n k) i) m ≡ true → bit (row_at (table es n k) m) j ≡ true → bit (row_at (table es n k) i) j ≡ true
bit_joined es n zero m i j h a b = absurd (omega arith)
bit_joined es n (suc k) m i j h a b = elim (cases_order m k) [
  | inl at ↦ (let a' : bit (row_at (table es n k) i) k ≡ true = to_pivot es n k i (ap (λ x. bit (row_at (table es n (suc k)) i) x) (sym at) ∙ a) in
      let b' : bit (row_at (table es n k) k) j ≡ true = from_pivot es n k j (ap (λ x. bit (row_at (table es n (suc k)) x) j) (sym at) ∙ b) in
      bit_through es n k i j a' b')
  | inr (inr above) ↦ absurd (omega arith)
  | inr (inl below) ↦ elim (bit_cases es n k i m a) [
    | inl a1 ↦ elim (bit_cases es n k m j b) [
      | inl b1 ↦ bit_stays es n k i j (bit_joined es n k m i j below a1 b1)
      | inr b2 ↦ bit_through es n k i j (bit_joined es n k m i k below a1 b2.0) b2.1
    ]
    | inr a2 ↦ elim (bit_cases es n k m j b) [
      | inl b1 ↦ bit_through es n k i j a2.0 (bit_joined es n k m k j below a2.1 b1)
      | inr b2 ↦ bit_through es n k i j a2.0 b2.1
    ]
  ]
]

bit_edge : (es : List Edge) (n k : ℕ) (e : Edge) → Contains es e → e.from < n → e.to < n → bit (row_at (table es n k) e.from) e.to ≡ true
bit_edge es n zero e c hf ht =
    let ef : 0 + e.from ≡ e.from = omega arith in
    let et : 0 + e.to ≡ e.to = omega arith in
    let edge : is_edge es e.from e.to ≡ true = passes_some (λ (x : Edge). (x.from == e.from) && (x.to == e.to)) es e c (and_from (e.from == e.from) (e.to == e.to) (eq-eqb e.from e.from refl) (eq-eqb e.to e.to refl)) in
    let row : bit (map (is_edge es (0 + e.from)) (numbers_below n)) e.to ≡ true = from_bit (is_edge es (0 + e.from)) 0 n e.to ht (ap (λ x. is_edge es x (0 + e.to)) ef ∙ (ap (is_edge es e.from) et ∙ edge)) in
    from_row (λ x. map (is_edge es x) (numbers_below n)) 0 n e.from e.to hf row
bit_edge es n (suc k) e c hf ht = bit_stays es n k e.from e.to (bit_edge es n k e c hf ht)

-- each path stands in the table
pub path_is_bit : (es : List Edge) (n : ℕ) → ((e : Edge) → Contains es e → (e.from < n) × (e.to < n)) → {i j : ℕ} → Path es i j → has_path es n i j ≡ true
path_is_bit es n range {j = j} (last e c p q) = subst (λ x. has_path es n x j ≡ true) p (subst (λ y. has_path es n e.from y ≡ true) q (bit_edge es n n e c (range e c).0 (range e c).1))
path_is_bit es n range {j = j} (first e c p r) = subst (λ x. has_path es n x j ≡ true) p (bit_joined es n n e.to e.from j (range e c).1 (bit_edge es n n e c (range e c).0 (range e c).1) (path_is_bit es n range r))

pub range_by : (n : ℕ) (es : List Edge) → edges_below n es ≡ true → (e : Edge) → Contains es e → (e.from < n) × (e.to < n)
range_by n es h e c = let p = and_parts (nat_lt e.from n) (nat_lt e.to n) (passes_each (λ (x : Edge). nat_lt x.from n && nat_lt x.to n) es h e c) in (ltb-true e.from n p.0, ltb-true e.to n p.1)

-- a path, or none, by computing
pub path_by_table : (es : List Edge) (n i j : ℕ) → has_path es n i j ≡ true → Path es i j
path_by_table es n i j h = bit_is_path es n n i j h

pub no_path_by_table : (es : List Edge) (n i j : ℕ) → edges_below n es ≡ true → has_path es n i j ≡ false → Path es i j → ⊥
no_path_by_table es n i j range h p = true≢false (sym (path_is_bit es n (range_by n es range) p) ∙ h)

-- both ends of a path are below n
pub path_below : (es : List Edge) (n : ℕ) {i j : ℕ} → PathsStayBelow es n i j
path_below es n range (last e c p q) = (subst (λ x. x < n) p (range e c).0, subst (λ x. x < n) q (range e c).1)
path_below es n range (first e c p r) = (subst (λ x. x < n) p (range e c).0, (path_below es n range r).1)

-- no cycle, by computing
pub acyclic_by_table : (es : List Edge) (n : ℕ) → edges_below n es ≡ true → list_all (λ i. not (has_path es n i i)) (numbers_below n) ≡ true → (i : ℕ) → Path es i i → ⊥
acyclic_by_table es n range h i p =
    let below : i < n = (path_below es n (range_by n es range) p).0 in
    no_path_by_table es n i i range (not-true (has_path es n i i) (passes_each (λ k. not (has_path es n k k)) (numbers_below n) h i (contains_below n i below))) p
