-- The loops that find the sources of a line, by rows of what reaches the lines above it.
use Rattle.std.proofs.Common.{◌≡◌, ℕ, zero, suc, ◌+◌, ◌<◌, ◌≤◌, Bool, true, false, cond, not, ◌⊎◌, inl, inr, ◌||◌, List, [], ◌∷◌, ◌++◌, length, take, refl, sym, ◌∙◌, ap, subst, append_assoc, append-nil, length-append, arith}
use Rattle.std.specs.Prelude.{Contains, ◌==◌, ◌&&◌, filter, flat_map, Some, slice_get, slice_index_or}
use Rattle.std.specs.List.{list_any}
use Rattle.std.proofs.lemmas.Bool.{true≢false, cases_Bool, cases_lt, and_parts, eqb-true}
use Rattle.std.proofs.lemmas.List.Folds.{list_any-append}
use Rattle.std.proofs.lemmas.List.Concat.{flat_map-append}
use Rattle.std.proofs.lemmas.List.Elements.{Contains-append_cases, filter-append}
use Rattle.basics.proofs.ListFacts.{contains_none, contains_here, contains_there, filter_contains}
use Rattle.graph_terms.specs.declared.verb.Access.{Access}
use Rattle.graph_terms.specs.Graph.{GraphValue}
use Rattle.graph_terms.specs.Access.{accesses}
use Rattle.flow_order.specs.Meaning.{accesses_tie, Chain}
use Rattle.flow_order.specs.Bits.{word_bit, IsOnly}
use Rattle.flow_order.specs.Rows.{AreRows, parts_at, words_for}
use Rattle.flow_order.specs.SourceParts.{Parts, down_from, has, is_large, is_reached, least, reaches, parts_of, all_of, sources_after, tied_by}
use Rattle.flow_order.proofs.FlowSide.{depends_below}
use Rattle.flow_order.proofs.Lists.{down_below, least_within}
use Rattle.basics.proofs.ListParts.{take_more, at_left, at_end}
use Rattle.flow_order.proofs.SourceFacts.{sources_of, table_at, sources_sound, reaches_chain}

any_same : {X : Type 0} (p q : X → Bool) (xs : List X) → ((x : X) → Contains xs x → p x ≡ q x) → list_any p xs ≡ list_any q xs
any_same p q [] h = refl
any_same p q (x ∷ xs) h = ap (λ b. b || list_any p xs) (h x (contains_here x xs)) ∙ ap (λ b. q x || b) (any_same p q xs (λ y c. h y (contains_there x xs y c)))

or_none : (b : Bool) → (b || false) ≡ b
or_none true = refl
or_none false = refl

or_same : (a b c : Bool) → ((a || b) || c) ≡ (a || (b || c))
or_same true b c = refl
or_same false b c = refl

or_turn : (a b : Bool) → (a || b) ≡ (b || a)
or_turn true true = refl
or_turn true false = refl
or_turn false true = refl
or_turn false false = refl

module _ (f : GraphValue) (commute : Bool) where
  abbrev pub table : ℕ → List (List ℕ)
  table n = sources_after f commute n

  first_has_none : (k : ℕ) → Contains (sources_of f commute 0) k → ⊥
  first_has_none k c = let b : k < 0 = depends_below f commute k 0 (sources_sound f commute 0 k c) in absurd (omega arith)

  -- what reaches a line is the same by longer tables and in more steps
  none_reaches : (n m i : ℕ) → 0 < n → reaches (table n) m i 0 ≡ false
  none_reaches n zero i h = refl
  none_reaches n (suc m) i h = ap (list_any (λ z. (z == i) || reaches (table n) m i z)) (table_at f commute n 0 h) ∙ (any_same (λ z. (z == i) || reaches (table n) m i z) (λ z. false) (sources_of f commute 0) (λ z c. absurd (first_has_none z c)) ∙ all_false (sources_of f commute 0))
    where
      all_false : (xs : List ℕ) → list_any (λ z. false) xs ≡ false
      all_false [] = refl
      all_false (x ∷ xs) = all_false xs

  agree : (bound n m n' m' k i : ℕ) → k < bound → k < n → k < n' → k ≤ m → k ≤ m' → reaches (table n) m i k ≡ reaches (table n') m' i k
  agree zero n m n' m' k i h a b c d = absurd (omega arith)
  agree (suc bound) n m n' m' zero i h a b c d = none_reaches n m i a ∙ sym (none_reaches n' m' i b)
  agree (suc bound) n zero n' m' (suc k) i h a b c d = absurd (let x : suc k ≤ 0 = c in omega arith)
  agree (suc bound) n (suc m) n' zero (suc k) i h a b c d = absurd (let x : suc k ≤ 0 = d in omega arith)
  agree (suc bound) n (suc m) n' (suc m') (suc k) i h a b c d =
      ap (list_any (λ z. (z == i) || reaches (table n) m i z)) (table_at f commute n (suc k) a)
      ∙ (any_same (λ z. (z == i) || reaches (table n) m i z) (λ z. (z == i) || reaches (table n') m' i z) (sources_of f commute (suc k)) (λ z e.
      let below : z < suc k = depends_below f commute z (suc k) (sources_sound f commute (suc k) z e) in
      ap (λ x. (z == i) || x) (agree bound n m n' m' z i (omega arith) (omega arith) (omega arith) (omega arith) (omega arith)))
      ∙ ap (list_any (λ z. (z == i) || reaches (table n') m' i z)) (sym (table_at f commute n' (suc k) b)))

  -- the row of the next line, and of the lines before it
  pub row_next : (n i : ℕ) → is_reached (table n) (sources_of f commute n) i ≡ reaches (table (n + 1)) n i n
  row_next n i = sym (ap (λ z. reaches (table z) n i n) (let e : n + 1 ≡ suc n = omega arith in e)
      ∙ (agree (suc n) (suc n) n (suc n) (suc n) n i (omega arith) (omega arith) (omega arith) (omega arith) (omega arith)
      ∙ (ap (list_any (λ z. (z == i) || reaches (table (suc n)) n i z)) (table_at f commute (suc n) n (omega arith))
      ∙ any_same (λ z. (z == i) || reaches (table (suc n)) n i z) (λ z. (z == i) || reaches (table n) z i z) (sources_of f commute n) (λ z e.
      let below : z < n = depends_below f commute z n (sources_sound f commute n z e) in
      ap (λ x. (z == i) || x) (agree n (suc n) n n z z i (omega arith) (omega arith) (omega arith) (omega arith) (omega arith))))))

  pub row_keeps : (n k i : ℕ) → k < n → reaches (table n) k i k ≡ reaches (table (n + 1)) k i k
  row_keeps n k i h = agree n n k (n + 1) k k i h h (omega arith) (omega arith) (omega arith)

  -- a mask with a line more, and with the lines that reach it
  pub reach_more : (n : ℕ) (kept : List ℕ) (line i : ℕ) (old new row : Bool) → new ≡ (old || ((line == i) || row)) → old ≡ is_reached (table n) kept i → row ≡ reaches (table n) line i line → new ≡ is_reached (table n) (kept ++ line ∷ []) i
  reach_more n kept line i old new row is was reached =
      is ∙ (ap (λ b. b || ((line == i) || row)) was ∙ (ap (λ b. is_reached (table n) kept i || ((line == i) || b)) reached
      ∙ sym (list_any-append (λ k. (k == i) || reaches (table n) k i k) kept (line ∷ []) ∙ ap (λ b. is_reached (table n) kept i || b) (or_none ((line == i) || reaches (table n) line i line)))))

  pub reach_after : (n : ℕ) (part : List ℕ) (j line i : ℕ) (before old new row : Bool) → slice_get part j ≡ Some line → new ≡ (old || ((line == i) || row)) → old ≡ (before || is_reached (table n) (take j part) i) → row ≡ reaches (table n) line i line →
      new ≡ (before || is_reached (table n) (take (j + 1) part) i)
  reach_after n part j line i before old new row at is was reached =
      is ∙ (ap (λ b. b || ((line == i) || row)) was ∙ (or_same before (is_reached (table n) (take j part) i) ((line == i) || row)
      ∙ ap (λ b. before || b) (reach_more n (take j part) line i (is_reached (table n) (take j part) i) (is_reached (table n) (take j part) i || ((line == i) || row)) row refl refl reached
      ∙ ap (λ xs. is_reached (table n) xs i) (sym (take_more part j line at)))))

  pub flat_after : (n : ℕ) (kept : List (List ℕ)) (j : ℕ) (part : List ℕ) (i : ℕ) (old new : Bool) → slice_get kept j ≡ Some part → new ≡ (old || is_reached (table n) part i) → old ≡ is_reached (table n) (flat_map (λ p. p) (take j kept)) i →
      new ≡ is_reached (table n) (flat_map (λ p. p) (take (j + 1) kept)) i
  flat_after n kept j part i old new at is was =
      is ∙ (ap (λ b. b || is_reached (table n) part i) was ∙ sym (ap (λ xs. is_reached (table n) xs i) flat ∙ list_any-append (λ k. (k == i) || reaches (table n) k i k) (flat_map (λ p. p) (take j kept)) part))
    where
      flat : flat_map (λ (p : List ℕ). p) (take (j + 1) kept) ≡ flat_map (λ (p : List ℕ). p) (take j kept) ++ part
      flat = ap (flat_map (λ (p : List ℕ). p)) (take_more kept j part at) ∙ (flat_map-append (λ (p : List ℕ). p) (take j kept) (part ∷ []) ∙ ap (λ xs. flat_map (λ (p : List ℕ). p) (take j kept) ++ xs) (append-nil part))

  -- from one line that is asked for and not reached down to the next
  gap_by : (ks : List ℕ) (n high : ℕ) (t : ℕ → Bool) (b : Bool) → t high ≡ b → (t high ≡ false) ⊎ (is_reached (table n) ks high ≡ true) → least (table n) ks (cond b (high ∷ filter t (down_from high)) (filter t (down_from high))) ≡ least (table n) ks (filter t (down_from high))
  gap_by ks n high t false e why = refl
  gap_by ks n high t true e (inl fails) = absurd (true≢false (sym e ∙ fails))
  gap_by ks n high t true e (inr reached) = ap (λ x. cond x (least (table n) ks (filter t (down_from high))) (high ∷ least (table n) (ks ++ high ∷ []) (filter t (down_from high)))) reached

  least_gap : (n : ℕ) (ks : List ℕ) (t : ℕ → Bool) (low high : ℕ) → low ≤ high → ((i : ℕ) → low ≤ i → i < high → (t i ≡ false) ⊎ (is_reached (table n) ks i ≡ true)) → least (table n) ks (filter t (down_from high)) ≡ least (table n) ks (filter t (down_from low))
  least_gap n ks t low zero h none = ap (λ z. least (table n) ks (filter t (down_from z))) (let e : zero ≡ low = omega arith in e)
  least_gap n ks t low (suc high) h none = elim (cases_lt high low) [
    | inl top ↦ ap (λ z. least (table n) ks (filter t (down_from z))) (let e : suc high ≡ low = omega arith in e)
    | inr more ↦ gap_by ks n high t (t high) refl (none high more (omega arith)) ∙ least_gap n ks t low high more (λ i a b. none i a (omega arith))
  ]

  -- a line that is not shown is not asked for, or reached
  hidden_why : (n : ℕ) (ks : List ℕ) (t m : ℕ → Bool) (i : ℕ) → m i ≡ is_reached (table n) ks i → (t i && not (m i)) ≡ false → (t i ≡ false) ⊎ (is_reached (table n) ks i ≡ true)
  hidden_why n ks t m i is h = by (t i) (m i) is h
    where
      by : (a b : Bool) → b ≡ is_reached (table n) ks i → (a && not b) ≡ false → (a ≡ false) ⊎ (is_reached (table n) ks i ≡ true)
      by false b e f = inl refl
      by true true e f = inr (sym e)
      by true false e f = absurd (true≢false f)

  -- a line that is kept
  pub least_keeps : (n : ℕ) (t m : ℕ → Bool) (start all part part' : List ℕ) (above line : ℕ) → ((i : ℕ) → m i ≡ is_reached (table n) (start ++ part) i) → line < above → (t line && not (m line)) ≡ true → ((i : ℕ) → line < i → i < above → (t i && not (m i)) ≡ false) →
      all ≡ part ++ least (table n) (start ++ part) (filter t (down_from above)) → part' ≡ part ++ line ∷ [] → all ≡ part' ++ least (table n) (start ++ part') (filter t (down_from line))
  least_keeps n t m start all part part' above line mask h shown none is pushed =
      let rest = filter t (down_from line) in
      let both = and_parts (t line) (not (m line)) shown in
      let out : is_reached (table n) (start ++ part) line ≡ false = sym (mask line) ∙ false_by (m line) both.1 in
      is ∙ (ap (λ xs. part ++ xs) (least_gap n (start ++ part) t (suc line) above (omega arith) (λ i a b. hidden_why n (start ++ part) t m i (mask i) (none i (omega arith) b)))
      ∙ (ap (λ x. part ++ least (table n) (start ++ part) (cond x (line ∷ rest) rest)) both.0
      ∙ (ap (λ x. part ++ cond x (least (table n) (start ++ part) rest) (line ∷ least (table n) ((start ++ part) ++ line ∷ []) rest)) out
      ∙ (sym (append_assoc part (line ∷ []) (least (table n) ((start ++ part) ++ line ∷ []) rest))
      ∙ (ap (λ ks. (part ++ line ∷ []) ++ least (table n) ks rest) (append_assoc start part (line ∷ []))
      ∙ ap (λ p. p ++ least (table n) (start ++ p) rest) (sym pushed))))))
    where
      false_by : (b : Bool) → not b ≡ true → b ≡ false
      false_by false e = refl
      false_by true e = sym e

  -- no line is left
  pub least_ends : (n : ℕ) (t m : ℕ → Bool) (start all part : List ℕ) (above : ℕ) → ((i : ℕ) → m i ≡ is_reached (table n) (start ++ part) i) → ((i : ℕ) → i < above → (t i && not (m i)) ≡ false) → all ≡ part ++ least (table n) (start ++ part) (filter t (down_from above)) → part ≡ all
  least_ends n t m start all part above mask none is = sym (is ∙ (ap (λ xs. part ++ xs) (least_gap n (start ++ part) t 0 above (omega arith) (λ i a b. hidden_why n (start ++ part) t m i (mask i) (none i b))) ∙ append-nil part))

  -- the only line that is asked for, where none is kept
  pub least_only : (n : ℕ) (kept : List (List ℕ)) (row : List ℕ) (bound line : ℕ) → (length kept == 0) ≡ true → bound ≡ n → IsOnly row bound line → least (table n) (flat_map (λ p. p) kept) (filter (word_bit row) (down_from n)) ≡ line ∷ []
  least_only n (k ∷ ks) row bound line none is only = absurd (let e : suc (length ks) ≡ 0 = eqb-true (suc (length ks)) 0 none in omega arith)
  least_only n [] row bound line none is given =
      let only : IsOnly row n line = subst (λ m. IsOnly row m line) is given in
      let all = least (table n) [] (filter (word_bit row) (down_from n)) in
      let mask : ℕ → Bool = is_reached (table n) (line ∷ []) in
      sym (least_ends n (word_bit row) mask [] all (line ∷ []) line (λ i. refl) (λ i low. ap (λ b. b && not (mask i)) (only.lower i low))
      (least_keeps n (word_bit row) (λ i. false) [] all [] (line ∷ []) n line (λ i. refl) only.below (ap (λ b. b && true) only.set) (λ i above low. ap (λ b. b && true) (only.higher i above low)) refl refl))

  -- a line whose bit is set has a chain to the line whose sources these are
  pub row_chains : (n i : ℕ) (bit : Bool) → bit ≡ is_reached (table n) (sources_of f commute n) i → bit ≡ true → Chain f commute i n
  row_chains n i bit is set = reaches_chain f commute (n + 1) n i n (omega arith) (sym (row_next n i) ∙ (sym is ∙ set))

  -- the parts of the first accesses, and one more
  pub part_joins : (n : ℕ) (t : List ℕ → Bool) (bs : List Access) (k : ℕ) (b : Access) (part : List ℕ) (old new : List (List ℕ)) → slice_get bs k ≡ Some b → part ≡ least (table n) [] (tied_by f commute n b) → t part ≡ true → old ≡ filter t (parts_at f commute n (take k bs)) → new ≡ old ++ part ∷ [] →
      new ≡ filter t (parts_at f commute n (take (k + 1) bs))
  part_joins n t bs k b part old new at is yes' was pushed =
      pushed ∙ (ap (λ xs. xs ++ part ∷ []) was ∙ sym (split n t bs k b at ∙ ap (λ xs. filter t (parts_at f commute n (take k bs)) ++ xs) (ap (λ z. filter t (z ∷ [])) (sym is) ∙ ap (λ x. cond x (part ∷ []) []) yes')))
    where
      split : (n : ℕ) (t : List ℕ → Bool) (bs : List Access) (k : ℕ) (b : Access) → slice_get bs k ≡ Some b → filter t (parts_at f commute n (take (k + 1) bs)) ≡ filter t (parts_at f commute n (take k bs)) ++ filter t (least (table n) [] (tied_by f commute n b) ∷ [])
      split n t bs k b at = ap (λ xs. filter t (parts_at f commute n xs)) (take_more bs k b at) ∙ (ap (filter t) (map_join (take k bs)) ∙ filter-append t (parts_at f commute n (take k bs)) (least (table n) [] (tied_by f commute n b) ∷ []))
        where
          map_join : (xs : List Access) → parts_at f commute n (xs ++ b ∷ []) ≡ parts_at f commute n xs ++ least (table n) [] (tied_by f commute n b) ∷ []
          map_join [] = refl
          map_join (x ∷ xs) = ap (λ ys. least (table n) [] (tied_by f commute n x) ∷ ys) (map_join xs)

  pub part_stays : (n : ℕ) (t : List ℕ → Bool) (bs : List Access) (k : ℕ) (b : Access) (part : List ℕ) (old : List (List ℕ)) → slice_get bs k ≡ Some b → part ≡ least (table n) [] (tied_by f commute n b) → t part ≡ false → old ≡ filter t (parts_at f commute n (take k bs)) →
      old ≡ filter t (parts_at f commute n (take (k + 1) bs))
  part_stays n t bs k b part old at is fails was =
      was ∙ sym (ap (λ xs. filter t (parts_at f commute n xs)) (take_more bs k b at) ∙ (ap (filter t) (map_join (take k bs)) ∙ (filter-append t (parts_at f commute n (take k bs)) (least (table n) [] (tied_by f commute n b) ∷ [])
      ∙ (ap (λ xs. filter t (parts_at f commute n (take k bs)) ++ xs) (ap (λ z. filter t (z ∷ [])) (sym is) ∙ ap (λ x. cond x (part ∷ []) []) fails) ∙ append-nil (filter t (parts_at f commute n (take k bs)))))))
    where
      map_join : (xs : List Access) → parts_at f commute n (xs ++ b ∷ []) ≡ parts_at f commute n xs ++ least (table n) [] (tied_by f commute n b) ∷ []
      map_join [] = refl
      map_join (x ∷ xs) = ap (λ ys. least (table n) [] (tied_by f commute n x) ∷ ys) (map_join xs)

  kept_by : (t : List ℕ → Bool) (n : ℕ) (b : Access) (bs : List Access) (i : ℕ) (x : Bool) → Contains (flat_map (λ (p : List ℕ). p) (cond x (least (table n) [] (tied_by f commute n b) ∷ filter t (parts_at f commute n bs)) (filter t (parts_at f commute n bs)))) i →
      (Contains (flat_map (λ (p : List ℕ). p) (filter t (parts_at f commute n bs))) i → i < n) → i < n
  kept_by t n b bs i false d again = again d
  kept_by t n b bs i true d again = elim (Contains-append_cases (least (table n) [] (tied_by f commute n b)) (flat_map (λ (p : List ℕ). p) (filter t (parts_at f commute n bs))) i d) [
    | inl own ↦ down_below n i (filter_contains (λ i. list_any (λ a. accesses_tie f commute a b) (accesses f i)) (down_from n) i (least_within (table n) [] (tied_by f commute n b) i own)).0
    | inr rest ↦ again rest
  ]

  -- the lines of the parts of line n that pass a test stand above it
  pub parts_below : (t : List ℕ → Bool) (n : ℕ) (bs : List Access) (i : ℕ) → Contains (flat_map (λ p. p) (filter t (parts_at f commute n bs))) i → i < n
  parts_below t n [] i c = absurd (contains_none i c)
  parts_below t n (b ∷ bs) i c = kept_by t n b bs i (t (least (table n) [] (tied_by f commute n b))) c (parts_below t n bs i)

  pub large_below : (n : ℕ) (bs : List Access) (i : ℕ) → Contains (flat_map (λ p. p) (filter (is_large f.format) (parts_at f commute n bs))) i → i < n
  large_below n bs i c = parts_below (is_large f.format) n bs i c

  -- the lines with some bits are those of some parts
  pub among : (bits : ℕ → Bool) (few : List (List ℕ)) (xs : List ℕ) → ((i : ℕ) → bits i ≡ list_any (λ p. has p i) few) → filter bits xs ≡ filter (λ i. list_any (λ p. has p i) few) xs
  among bits few [] same = refl
  among bits few (x ∷ xs) same = ap (λ b. cond b (x ∷ filter bits xs) (filter bits xs)) (same x) ∙ ap (λ ys. cond (list_any (λ p. has p x) few) (x ∷ ys) ys) (among bits few xs same)

  -- the parts of a line, large and small
  pub parts_are : (n : ℕ) (p : Parts) (few : List (List ℕ)) (bits : ℕ → Bool) → p.large ≡ filter (is_large f.format) (parts_at f commute n (accesses f n)) → few ≡ filter (λ q. not (is_large f.format q)) (parts_at f commute n (accesses f n)) →
      ((i : ℕ) → bits i ≡ list_any (λ q. has q i) few) → p.small ≡ least (table n) (flat_map (λ q. q) p.large) (filter bits (down_from n)) → p ≡ parts_of f commute (table n) n
  parts_are n p few bits large is same small =
      let make : List (List ℕ) → List ℕ → Parts = λ xs ys. record { large = xs; small = ys } in
      let ps = parts_at f commute n (accesses f n) in
      ap (λ xs. make xs p.small) large
      ∙ ap (make (filter (is_large f.format) ps)) (small ∙ (ap (λ xs. least (table n) (flat_map (λ q. q) xs) (filter bits (down_from n))) large
      ∙ ap (least (table n) (flat_map (λ q. q) (filter (is_large f.format) ps))) (among bits few (down_from n) same ∙ ap (λ qs. filter (λ i. list_any (λ q. has q i) qs) (down_from n)) is)))

  pub source_below : (n i : ℕ) → Contains (sources_of f commute n) i → i < n
  source_below n i c = depends_below f commute i n (sources_sound f commute n i c)

  -- no row
  pub rows_none : (rows : List (List ℕ)) → rows ≡ [] → AreRows f commute rows
  rows_none rows none = subst (AreRows f commute) (sym none) (record {
    some = omega arith;
    size = λ k h. absurd (omega arith);
    bits = λ k i h. absurd (omega arith);
  })

  -- the rows with one more
  pub rows_more : (rows rows' : List (List ℕ)) (row : List ℕ) → AreRows f commute rows → length rows < length f.lines → rows' ≡ rows ++ row ∷ [] → length row ≡ words_for (length rows) → ((i : ℕ) → word_bit row i ≡ is_reached (table (length rows)) (sources_of f commute (length rows)) i) →
      AreRows f commute rows'
  rows_more rows rows' row a next pushed size bits = subst (AreRows f commute) (sym pushed) (record {
    some = (let l : length (rows ++ row ∷ []) ≡ length rows + 1 = length-append rows (row ∷ []) in omega arith);
    size = λ k h. (let l : length (rows ++ row ∷ []) ≡ length rows + 1 = length-append rows (row ∷ []) in elim (cases_lt k (length rows)) [
      | inl old ↦ ap length (at_left rows row [] k old) ∙ a.size k old
      | inr new ↦ (let e : k ≡ length rows = omega arith in ap (λ z. length (slice_index_or (rows ++ row ∷ []) z [])) e ∙ (ap length (at_end rows row []) ∙ (size ∙ ap words_for (sym e))))
    ]);
    bits = λ k i h. (let l : length (rows ++ row ∷ []) ≡ length rows + 1 = length-append rows (row ∷ []) in (elim (cases_lt k (length rows)) [
      | inl old ↦ ap (λ w. word_bit w i) (at_left rows row [] k old) ∙ (a.bits k i old ∙ (row_keeps (length rows) k i old ∙ ap (λ z. reaches (table z) k i k) (sym l)))
      | inr new ↦ (
          let e : length rows ≡ k = omega arith in
          subst (λ z. word_bit (slice_index_or (rows ++ row ∷ []) z []) i ≡ reaches (table (length (rows ++ row ∷ []))) z i z) e
          (ap (λ w. word_bit w i) (at_end rows row []) ∙ (bits i ∙ (row_next (length rows) i ∙ ap (λ z. reaches (table z) (length rows) i (length rows)) (sym l)))))
    ]));
  })

  -- the row of the sources of a line: of its large parts, and then of the others
  pub row_of_parts : (n : ℕ) (p : Parts) (i : ℕ) (old new : Bool) → p ≡ parts_of f commute (table n) n → old ≡ is_reached (table n) (flat_map (λ q. q) p.large) i → new ≡ (old || is_reached (table n) p.small i) → new ≡ is_reached (table n) (sources_of f commute n) i
  row_of_parts n p i old new is was joined =
      joined ∙ (ap (λ b. b || is_reached (table n) p.small i) was ∙ (or_turn (is_reached (table n) (flat_map (λ q. q) p.large) i) (is_reached (table n) p.small i)
      ∙ (sym (list_any-append (λ k. (k == i) || reaches (table n) k i k) p.small (flat_map (λ q. q) p.large)) ∙ ap (λ q. is_reached (table n) (all_of q) i) is)))

  -- a part that is kept where a test passes
  pub part_kept : (n : ℕ) (t : List ℕ → Bool) (bs : List Access) (k : ℕ) (b : Access) (part : List ℕ) (old new : List (List ℕ)) → slice_get bs k ≡ Some b → part ≡ least (table n) [] (tied_by f commute n b) → old ≡ filter t (parts_at f commute n (take k bs)) → new ≡ cond (t part) (old ++ part ∷ []) old →
      new ≡ filter t (parts_at f commute n (take (k + 1) bs))
  part_kept n t bs k b part old new at is was kept = elim (cases_Bool (t part)) [
    | inl passes ↦ part_joins n t bs k b part old new at is passes was (kept ∙ ap (λ x. cond x (old ++ part ∷ []) old) passes)
    | inr fails ↦ kept ∙ (ap (λ x. cond x (old ++ part ∷ []) old) fails ∙ part_stays n t bs k b part old at is fails was)
  ]

  pub cond_not : (x : Bool) (a b : List (List ℕ)) → cond x a b ≡ cond (not x) b a
  cond_not true a b = refl
  cond_not false a b = refl
