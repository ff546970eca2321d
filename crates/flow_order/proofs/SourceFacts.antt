-- The sources of a line: it depends on each of them, and each line that it depends on is one of them or has a chain to one.
use Rattle.std.proofs.Common.{◌≡◌, ℕ, zero, suc, ◌+◌, ◌<◌, Bool, true, false, not, cond, ◌||◌, ◌⊎◌, inl, inr, List, [], ◌∷◌, ◌++◌, length, map, refl, sym, ◌∙◌, ap, subst, length-append, append_assoc, arith}
use Rattle.std.specs.Prelude.{Contains, filter, flat_map, nat_lt, slice_index_or, ◌==◌}
use Rattle.std.specs.List.{list_any}
use Rattle.std.proofs.lemmas.Bool.{true≢false, cases_Bool, cases_order, and_parts, and_from, or_cases, eq-eqb, eqb-true, lt-ltb, not_from_false}
use Rattle.std.proofs.lemmas.List.Elements.{Contains-append_cases, Contains-append_left, Contains-append_right}
use Rattle.graph_terms.specs.declared.verb.Access.{Access}
use Rattle.graph_terms.specs.Graph.{GraphValue}
use Rattle.graph_terms.specs.Access.{accesses}
use Rattle.basics.proofs.ListFacts.{contains_cases, contains_none, contains_here, contains_there, some_passes, passes_some, filter_contains, contains_filter, contains_map, map_contains}
use Rattle.flow_order.specs.Meaning.{accesses_tie, depends, Chain, last, first}
use Rattle.flow_order.specs.SourceParts.{down_from, tied_by, reaches, is_reached, least, has, is_large, parts_of, all_of, sources_after}
use Rattle.flow_order.proofs.FlowSide.{depends_below, chain_push}

down_below : (n i : ℕ) → Contains (down_from n) i → i < n
down_below zero i c = absurd (contains_none i c)
down_below (suc n) i c = elim (contains_cases n (down_from n) i c) [
  | inl same ↦ omega arith
  | inr rest ↦ (let b : i < n = down_below n i rest in omega arith)
]

pub below_down : (n i : ℕ) → i < n → Contains (down_from n) i
below_down zero i h = absurd (omega arith)
below_down (suc n) i h = elim (cases_order i n) [
  | inl same ↦ subst (λ x. Contains (n ∷ down_from n) x) (sym same) (contains_here n (down_from n))
  | inr (inl below) ↦ contains_there n (down_from n) i (below_down n i below)
  | inr (inr above) ↦ absurd (omega arith)
]

pub has_contains : (ks : List ℕ) (i : ℕ) → has ks i ≡ true → Contains ks i
has_contains ks i h = let s = some_passes (λ k. k == i) ks h in subst (λ x. Contains ks x) (eqb-true s.0 i s.2) s.1

pub contains_has : (ks : List ℕ) (i : ℕ) → Contains ks i → has ks i ≡ true
contains_has ks i c = passes_some (λ k. k == i) ks i c (eq-eqb i i refl)

flat_in : (ps : List (List ℕ)) (i : ℕ) → Contains (flat_map (λ p. p) ps) i → (p : List ℕ) × Contains ps p × Contains p i
flat_in [] i c = absurd (contains_none i c)
flat_in (p ∷ ps) i c = elim (Contains-append_cases p (flat_map (λ p. p) ps) i c) [
  | inl own ↦ (p, contains_here p ps, own)
  | inr rest ↦ (let r = flat_in ps i rest in (r.0, contains_there p ps r.0 r.1, r.2))
]

pub in_flat : (ps : List (List ℕ)) (p : List ℕ) (i : ℕ) → Contains ps p → Contains p i → Contains (flat_map (λ p. p) ps) i
in_flat [] p i c d = absurd (contains_none p c)
in_flat (q ∷ ps) p i c d = elim (contains_cases q ps p c) [
  | inl same ↦ Contains-append_left q (flat_map (λ p. p) ps) i (subst (λ x. Contains x i) (sym same) d)
  | inr rest ↦ Contains-append_right q (flat_map (λ p. p) ps) i (in_flat ps p i rest d)
]

-- what is kept is of the list, and each of the list is kept or reached from what is kept
least_in_by : (s : List (List ℕ)) (kept : List ℕ) (x : ℕ) (xs : List ℕ) (i : ℕ) (b : Bool) → Contains (cond b (least s kept xs) (x ∷ least s (kept ++ x ∷ []) xs)) i →
    ((k : List ℕ) → Contains (least s k xs) i → Contains xs i) → Contains (x ∷ xs) i
least_in_by s kept x xs i true c again = contains_there x xs i (again kept c)
least_in_by s kept x xs i false c again = elim (contains_cases x (least s (kept ++ x ∷ []) xs) i c) [
  | inl same ↦ subst (λ z. Contains (x ∷ xs) z) same (contains_here x xs)
  | inr rest ↦ contains_there x xs i (again (kept ++ x ∷ []) rest)
]

least_in : (s : List (List ℕ)) (kept xs : List ℕ) (i : ℕ) → Contains (least s kept xs) i → Contains xs i
least_in s kept [] i c = absurd (contains_none i c)
least_in s kept (x ∷ xs) i c = least_in_by s kept x xs i (is_reached s kept x) c (λ k d. least_in s k xs i d)

-- one of these, or reached from one
abbrev Covered : List (List ℕ) → List ℕ → ℕ → Type 0
Covered s ks i = (k : ℕ) × Contains ks k × (((k == i) || reaches s k i k) ≡ true)

covered_here : (s : List (List ℕ)) (ks : List ℕ) (i : ℕ) → Contains ks i → Covered s ks i
covered_here s ks i c = (i, c, ap (λ b. b || reaches s i i i) (eq-eqb i i refl))

covered_more : (s : List (List ℕ)) (ks ls : List ℕ) (i : ℕ) → ((k : ℕ) → Contains ks k → Contains ls k) → Covered s ks i → Covered s ls i
covered_more s ks ls i h r = (r.0, h r.0 r.1, r.2)

least_covers_by : (s : List (List ℕ)) (kept : List ℕ) (x : ℕ) (xs : List ℕ) (i : ℕ) (b : Bool) → is_reached s kept x ≡ b → Contains (x ∷ xs) i →
    ((k : List ℕ) → Contains xs i → Covered s (k ++ least s k xs) i) → Covered s (kept ++ cond b (least s kept xs) (x ∷ least s (kept ++ x ∷ []) xs)) i
least_covers_by s kept x xs i true e c again = elim (contains_cases x xs i c) [
  | inl same ↦ covered_more s kept (kept ++ least s kept xs) i (λ k d. Contains-append_left kept (least s kept xs) k d)
      (let r = some_passes (λ k. (k == x) || reaches s k x k) kept e in (r.0, r.1, ap (λ z. (r.0 == z) || reaches s r.0 z r.0) (sym same) ∙ r.2))
  | inr rest ↦ again kept rest
]
least_covers_by s kept x xs i false e c again = elim (contains_cases x xs i c) [
  | inl same ↦ covered_here s (kept ++ x ∷ least s (kept ++ x ∷ []) xs) i (Contains-append_right kept (x ∷ least s (kept ++ x ∷ []) xs) i (subst (λ z. Contains (x ∷ least s (kept ++ x ∷ []) xs) z) same (contains_here x _)))
  | inr rest ↦ subst (λ z. Covered s z i) (append_assoc kept (x ∷ []) (least s (kept ++ x ∷ []) xs)) (again (kept ++ x ∷ []) rest)
]

least_covers : (s : List (List ℕ)) (kept xs : List ℕ) (i : ℕ) → Contains xs i → Covered s (kept ++ least s kept xs) i
least_covers s kept [] i c = absurd (contains_none i c)
least_covers s kept (x ∷ xs) i c = least_covers_by s kept x xs i (is_reached s kept x) refl c (λ k d. least_covers s k xs i d)

-- a place in a list with one more at its end
at_left : (xs : List (List ℕ)) (y : List ℕ) (j : ℕ) → j < length xs → slice_index_or (xs ++ y ∷ []) j [] ≡ slice_index_or xs j []
at_left [] y j h = absurd (omega arith)
at_left (x ∷ xs) y zero h = refl
at_left (x ∷ xs) y (suc j) h = at_left xs y j (omega arith)

at_end : (xs : List (List ℕ)) (y : List ℕ) → slice_index_or (xs ++ y ∷ []) (length xs) [] ≡ y
at_end [] y = refl
at_end (x ∷ xs) y = at_end xs y

module _ (f : GraphValue) (commute : Bool) where
  abbrev table : ℕ → List (List ℕ)
  table n = sources_after f commute n

  -- the sources of line j
  abbrev pub sources_of : ℕ → List ℕ
  sources_of j = all_of (parts_of f commute (table j) j)

  table_length : (n : ℕ) → length (table n) ≡ n
  table_length zero = refl
  table_length (suc n) = let l : length (table n) ≡ n = table_length n in let m : length (table n ++ sources_of n ∷ []) ≡ length (table n) + 1 = length-append (table n) (sources_of n ∷ []) in omega arith

  pub table_at : (n j : ℕ) → j < n → slice_index_or (table n) j [] ≡ sources_of j
  table_at zero j h = absurd (omega arith)
  table_at (suc n) j h = let l : length (table n) ≡ n = table_length n in elim (cases_order j n) [
    | inl same ↦ ap (λ z. slice_index_or (table n ++ sources_of n ∷ []) z []) (same ∙ sym l) ∙ (at_end (table n) (sources_of n) ∙ ap (λ z. sources_of z) (sym same))
    | inr (inl below) ↦ at_left (table n) (sources_of n) j (omega arith) ∙ table_at n j below
    | inr (inr above) ↦ absurd (omega arith)
  ]

  tied_depends : (j : ℕ) (b : Access) (i : ℕ) → Contains (accesses f j) b → Contains (tied_by f commute j b) i → depends f commute i j ≡ true
  tied_depends j b i c d =
      let k = filter_contains (λ i. list_any (λ a. accesses_tie f commute a b) (accesses f i)) (down_from j) i d in
      let a = some_passes (λ a. accesses_tie f commute a b) (accesses f i) k.1 in
      and_from (nat_lt i j) _ (lt-ltb i j (down_below j i k.0))
      (passes_some (λ a. list_any (accesses_tie f commute a) (accesses f j)) (accesses f i) a.0 a.1 (passes_some (accesses_tie f commute a.0) (accesses f j) b c a.2))

  abbrev parts : ℕ → List (List ℕ)
  parts j = map (λ b. least (table j) [] (tied_by f commute j b)) (accesses f j)

  part_depends : (j : ℕ) (p : List ℕ) (i : ℕ) → Contains (parts j) p → Contains p i → depends f commute i j ≡ true
  part_depends j p i c d =
      let b = map_contains (λ b. least (table j) [] (tied_by f commute j b)) (accesses f j) p c in
      tied_depends j b.0 i b.1 (least_in (table j) [] (tied_by f commute j b.0) i (subst (λ z. Contains z i) (sym b.2) d))

  abbrev pool : ℕ → List ℕ
  pool j = filter (λ i. list_any (λ p. has p i) (filter (λ p. not (is_large f.format p)) (parts j))) (down_from j)

  -- a line depends on each of its sources
  pub sources_sound : (j i : ℕ) → Contains (sources_of j) i → depends f commute i j ≡ true
  sources_sound j i c = elim (Contains-append_cases (least (table j) (flat_map (λ p. p) (filter (is_large f.format) (parts j))) (pool j)) (flat_map (λ q. q) (filter (is_large f.format) (parts j))) i c) [
    | inl small ↦ (
        let k = filter_contains (λ i. list_any (λ p. has p i) (filter (λ p. not (is_large f.format p)) (parts j))) (down_from j) i (least_in (table j) _ (pool j) i small) in
        let p = some_passes (λ p. has p i) (filter (λ p. not (is_large f.format p)) (parts j)) k.1 in
        part_depends j p.0 i (filter_contains (λ p. not (is_large f.format p)) (parts j) p.0 p.1).0 (has_contains p.0 i p.2))
    | inr large ↦ (let p = flat_in (filter (is_large f.format) (parts j)) i large in part_depends j p.0 i (filter_contains (is_large f.format) (parts j) p.0 p.1).0 p.2)
  ]

  -- what reaches a line has a chain to it
  pub reaches_chain : (n m i j : ℕ) → j < n → reaches (table n) m i j ≡ true → Chain f commute i j
  reaches_chain n zero i j h r = absurd (true≢false (sym r))
  reaches_chain n (suc m) i j h r =
      let s = some_passes (λ k. (k == i) || reaches (table n) m i k) (slice_index_or (table n) j []) r in
      let d : depends f commute s.0 j ≡ true = sources_sound j s.0 (subst (λ z. Contains z s.0) (table_at n j h) s.1) in
      let below : s.0 < j = depends_below f commute s.0 j d in
      elim (or_cases (s.0 == i) (reaches (table n) m i s.0) s.2) [
        | inl same ↦ subst (λ z. Chain f commute z j) (eqb-true s.0 i same) (last d)
        | inr more ↦ chain_push f commute (reaches_chain n m i s.0 (omega arith) more) d
      ]

  -- a source of line j, or a line with a chain to one
  abbrev pub Reached : ℕ → ℕ → Type 0
  Reached j i = (k : ℕ) × Contains (sources_of j) k × ((k ≡ i) ⊎ Chain f commute i k)

  covered_reached : (j i : ℕ) → Covered (table j) (sources_of j) i → Reached j i
  covered_reached j i r =
      let below : r.0 < j = depends_below f commute r.0 j (sources_sound j r.0 r.1) in (
        r.0,
        r.1,
        elim (or_cases (r.0 == i) (reaches (table j) r.0 i r.0) r.2) [
          | inl same ↦ inl (eqb-true r.0 i same)
          | inr more ↦ inr (reaches_chain j r.0 i r.0 below more)
        ],
      )

  pub chain_chain : {i k j : ℕ} → Chain f commute i k → Chain f commute k j → Chain f commute i j
  chain_chain c (last d) = chain_push f commute c d
  chain_chain c (first d r) = chain_chain (chain_push f commute c d) r

  reached_on : (j i k : ℕ) → ((k ≡ i) ⊎ Chain f commute i k) → Reached j k → Reached j i
  reached_on j i k (inl same) r = subst (λ z. Reached j z) same r
  reached_on j i k (inr c) r = (r.0, r.1, inr (elim r.2 [ inl same ↦ subst (λ z. Chain f commute i z) (sym same) c | inr d ↦ chain_chain c d ]))

  -- a member of a part is a source, or has a chain to one
  part_reached : (j : ℕ) (p : List ℕ) (k : ℕ) → Contains (parts j) p → Contains p k → k < j → Reached j k
  part_reached j p k c d below = elim (cases_Bool (is_large f.format p)) [
    | inl big ↦ (
      k,
      Contains-append_right (least (table j) (flat_map (λ p. p) (filter (is_large f.format) (parts j))) (pool j)) (flat_map (λ q. q) (filter (is_large f.format) (parts j))) k
          (in_flat (filter (is_large f.format) (parts j)) p k (contains_filter (is_large f.format) (parts j) p c big) d),
      inl refl,
    )
    | inr few ↦ (
        let pooled : Contains (pool j) k = contains_filter (λ i. list_any (λ p. has p i) (filter (λ p. not (is_large f.format p)) (parts j))) (down_from j) k (below_down j k below)
        (passes_some (λ p. has p k) (filter (λ p. not (is_large f.format p)) (parts j)) p (contains_filter (λ p. not (is_large f.format p)) (parts j) p c (not_from_false (is_large f.format p) few)) (contains_has p k d)) in
        covered_reached j k (covered_more (table j) (flat_map (λ p. p) (filter (is_large f.format) (parts j)) ++ least (table j) (flat_map (λ p. p) (filter (is_large f.format) (parts j))) (pool j)) (sources_of j) k
        (λ z e. elim (Contains-append_cases (flat_map (λ p. p) (filter (is_large f.format) (parts j))) (least (table j) (flat_map (λ p. p) (filter (is_large f.format) (parts j))) (pool j)) z e) [
          | inl large ↦ Contains-append_right (least (table j) (flat_map (λ p. p) (filter (is_large f.format) (parts j))) (pool j)) (flat_map (λ q. q) (filter (is_large f.format) (parts j))) z large
          | inr small ↦ Contains-append_left (least (table j) (flat_map (λ p. p) (filter (is_large f.format) (parts j))) (pool j)) (flat_map (λ q. q) (filter (is_large f.format) (parts j))) z small
        ])
        (least_covers (table j) (flat_map (λ p. p) (filter (is_large f.format) (parts j))) (pool j) k pooled)))
  ]

  -- each line that a line depends on is a source, or has a chain to one
  pub sources_complete : (i j : ℕ) → depends f commute i j ≡ true → Reached j i
  sources_complete i j d =
      let both = and_parts (nat_lt i j) (list_any (λ a. list_any (accesses_tie f commute a) (accesses f j)) (accesses f i)) d in
      let a = some_passes (λ a. list_any (accesses_tie f commute a) (accesses f j)) (accesses f i) both.1 in
      let b = some_passes (accesses_tie f commute a.0) (accesses f j) a.2 in
      let tie : Contains (tied_by f commute j b.0) i = contains_filter (λ i. list_any (λ a. accesses_tie f commute a b.0) (accesses f i)) (down_from j) i (below_down j i (depends_below f commute i j d))
      (passes_some (λ a. accesses_tie f commute a b.0) (accesses f i) a.0 a.1 b.2) in
      let p = least (table j) [] (tied_by f commute j b.0) in
      let in_parts : Contains (parts j) p = contains_map (λ b. least (table j) [] (tied_by f commute j b)) (accesses f j) b.0 b.1 in
      let r = least_covers (table j) [] (tied_by f commute j b.0) i tie in
      let below : r.0 < j = depends_below f commute r.0 j (part_depends j p r.0 in_parts r.1) in
      reached_on j i r.0 (elim (or_cases (r.0 == i) (reaches (table j) r.0 i r.0) r.2) [
        | inl same ↦ inl (eqb-true r.0 i same)
        | inr more ↦ inr (reaches_chain j r.0 i r.0 below more)
      ]) (part_reached j p r.0 in_parts r.1 below)

pub sources_tie : (f : GraphValue) (commute : Bool) (n j : ℕ) → j < n →
    ((i : ℕ) → Contains (slice_index_or (sources_after f commute n) j []) i → depends f commute i j ≡ true)
    × ((i : ℕ) → depends f commute i j ≡ true → (k : ℕ) × Contains (slice_index_or (sources_after f commute n) j []) k × ((k ≡ i) ⊎ Chain f commute i k))
sources_tie f commute n j h =
    let at = table_at f commute n j h in (
      λ i c. sources_sound f commute j i (subst (λ z. Contains z i) at c),
      λ i d. (let r = sources_complete f commute i j d in (r.0, subst (λ z. Contains z r.0) (sym at) r.1, r.2)),
    )
