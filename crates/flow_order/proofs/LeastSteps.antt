-- The least of some lines, and the least of fewer that stand for them.
use Rattle.std.proofs.Common.{◌≡◌, ℕ, zero, suc, ◌<◌, ◌≤◌, Bool, true, false, cond, ◌||◌, ◌⊎◌, inl, inr, List, [], ◌∷◌, ◌++◌, refl, sym, ◌∙◌, ap, subst, arith}
use Rattle.std.specs.Prelude.{Contains, ◌==◌, filter}
use Rattle.std.specs.List.{list_any}
use Rattle.std.proofs.lemmas.Bool.{true≢false, cases_order, or_left, or_right, or_cases, eq-eqb, eqb-true}
use Rattle.std.proofs.lemmas.List.Elements.{Contains-append_cases, Contains-append_left, Contains-append_right}
use Rattle.basics.proofs.ListFacts.{contains_cases, contains_none, contains_here, some_passes, passes_some, filter_contains, contains_filter}
use Rattle.graph_terms.specs.declared.verb.Access.{Access}
use Rattle.graph_terms.specs.Graph.{GraphValue}
use Rattle.graph_terms.specs.Access.{accesses}
use Rattle.flow_order.specs.Bits.{word_bit}
use Rattle.flow_order.specs.Meaning.{accesses_tie, depends, Chain, last, first}
use Rattle.flow_order.specs.SourceParts.{down_from, is_reached, least, reaches, sources_after, tied_by}
use Rattle.flow_order.specs.Uses.{AreAsked}
use Rattle.flow_order.proofs.FlowSide.{depends_below, chain_rises}
use Rattle.flow_order.proofs.Lists.{down_below}
use Rattle.flow_order.proofs.SourceFacts.{sources_of, table_at, sources_sound, sources_complete, reaches_chain, chain_chain, below_down}

-- one line of two lists of lines, where the second list has those that stand for the first
cond_step : (s : List (List ℕ)) (kept ft fc : List ℕ) (m : ℕ) (t c r : Bool) → is_reached s kept m ≡ r → (c ≡ true → t ≡ true) → (t ≡ true → c ≡ false → r ≡ true) → ((r ≡ true) ⊎ (c ≡ false) → least s kept ft ≡ least s kept fc) →
    (least s (kept ++ m ∷ []) ft ≡ least s (kept ++ m ∷ []) fc) → least s kept (cond t (m ∷ ft) ft) ≡ least s kept (cond c (m ∷ fc) fc)
cond_step s kept ft fc m false false r e a b stay go = stay (inr refl)
cond_step s kept ft fc m false true r e a b stay go = absurd (true≢false (sym (a refl)))
cond_step s kept ft fc m true false r e a b stay go = ap (λ x. cond x (least s kept ft) (m ∷ least s (kept ++ m ∷ []) ft)) (e ∙ b refl refl) ∙ stay (inr refl)
cond_step s kept ft fc m true true true e a b stay go = ap (λ x. cond x (least s kept ft) (m ∷ least s (kept ++ m ∷ []) ft)) e ∙ (stay (inl refl) ∙ sym (ap (λ x. cond x (least s kept fc) (m ∷ least s (kept ++ m ∷ []) fc)) e))
cond_step s kept ft fc m true true false e a b stay go = ap (λ x. cond x (least s kept ft) (m ∷ least s (kept ++ m ∷ []) ft)) e ∙ (ap (λ xs. m ∷ xs) go ∙ sym (ap (λ x. cond x (least s kept fc) (m ∷ least s (kept ++ m ∷ []) fc)) e))

module _ (f : GraphValue) (commute : Bool) where
  abbrev table : ℕ → List (List ℕ)
  table n = sources_after f commute n

  -- line k is line i, or has a chain from it
  abbrev pub Follows : ℕ → ℕ → Type 0
  Follows i k = (k ≡ i) ⊎ Chain f commute i k

  pub follow : (i k l : ℕ) → Follows i k → Follows k l → Follows i l
  follow i k l (inl a) r = subst (λ z. Follows z l) a r
  follow i k l (inr a) (inl b) = inr (subst (λ z. Chain f commute i z) (sym b) a)
  follow i k l (inr a) (inr b) = inr (chain_chain f commute a b)

  chain_last : (i j : ℕ) → Chain f commute i j → (k : ℕ) × Follows i k × (depends f commute k j ≡ true)
  chain_last i j (last d) = (i, inl refl, d)
  chain_last i j (first {k = k} d r) = let e = chain_last k j r in (e.0, follow i k e.0 (inr (last d)) e.1, e.2)

  chain_reaches : (bound n m i j : ℕ) → j < bound → j < n → j ≤ m → Chain f commute i j → reaches (table n) m i j ≡ true
  chain_reaches zero n m i j h below le c = absurd (omega arith)
  chain_reaches (suc bound) n zero i j h below le c = absurd (let r : i < j = chain_rises f commute c in omega arith)
  chain_reaches (suc bound) n (suc m) i j h below le c =
      let e = chain_last i j c in
      let r = sources_complete f commute e.0 j e.2 in
      let low : r.0 < j = depends_below f commute r.0 j (sources_sound f commute j r.0 r.1) in
      ap (list_any (λ z. (z == i) || reaches (table n) m i z)) (table_at f commute n j below)
      ∙ passes_some (λ z. (z == i) || reaches (table n) m i z) (sources_of f commute j) r.0 r.1 (elim (follow i e.0 r.0 e.1 r.2) [
        | inl same ↦ or_left (r.0 == i) (reaches (table n) m i r.0) (eq-eqb r.0 i same)
        | inr more ↦ or_right (r.0 == i) (reaches (table n) m i r.0) (chain_reaches bound n m i r.0 (omega arith) (omega arith) (omega arith) more)
      ])

  -- what has a chain to a line that is reached is reached
  reached_before : (n : ℕ) (kept : List ℕ) (i y : ℕ) → ((k : ℕ) → Contains kept k → k < n) → Chain f commute i y → is_reached (table n) kept y ≡ true → is_reached (table n) kept i ≡ true
  reached_before n kept i y below c h =
      let s = some_passes (λ k. (k == y) || reaches (table n) k y k) kept h in
      let low : s.0 < n = below s.0 s.1 in
      let far : Chain f commute i s.0 = elim (or_cases (s.0 == y) (reaches (table n) s.0 y s.0) s.2) [
        | inl same ↦ subst (λ z. Chain f commute i z) (sym (eqb-true s.0 y same)) c
        | inr more ↦ chain_chain f commute c (reaches_chain f commute n s.0 y s.0 low more)
      ] in
      passes_some (λ k. (k == i) || reaches (table n) k i k) kept s.0 s.1 (or_right (s.0 == i) (reaches (table n) s.0 i s.0) (chain_reaches (suc s.0) n s.0 i s.0 (omega arith) low (omega arith) far))

  reached_here : (n : ℕ) (kept : List ℕ) (i : ℕ) → is_reached (table n) (kept ++ i ∷ []) i ≡ true
  reached_here n kept i = passes_some (λ k. (k == i) || reaches (table n) k i k) (kept ++ i ∷ []) i (Contains-append_right kept (i ∷ []) i (contains_here i [])) (or_left (i == i) (reaches (table n) i i i) (eq-eqb i i refl))

  reached_more : (n : ℕ) (kept : List ℕ) (x i : ℕ) → is_reached (table n) kept i ≡ true → is_reached (table n) (kept ++ x ∷ []) i ≡ true
  reached_more n kept x i h = let s = some_passes (λ k. (k == i) || reaches (table n) k i k) kept h in passes_some (λ k. (k == i) || reaches (table n) k i k) (kept ++ x ∷ []) s.0 (Contains-append_left kept (x ∷ []) s.0 s.1) s.2

  below_more : (n : ℕ) (kept : List ℕ) (m : ℕ) → m < n → ((k : ℕ) → Contains kept k → k < n) → (k : ℕ) → Contains (kept ++ m ∷ []) k → k < n
  below_more n kept m h below k c = elim (Contains-append_cases kept (m ∷ []) k c) [
    | inl old ↦ below k old
    | inr new ↦ elim (contains_cases m [] k new) [ inl same ↦ omega arith | inr none ↦ absurd (contains_none k none) ]
  ]

  -- each line of the second kind from m up is reached
  abbrev AreDone : ℕ → (ℕ → Bool) → List ℕ → ℕ → Type 0
  AreDone n some kept m = (y : ℕ) → m ≤ y → y < n → some y ≡ true → is_reached (table n) kept y ≡ true

  done_here : (n : ℕ) (some : ℕ → Bool) (kept : List ℕ) (m : ℕ) → AreDone n some kept (suc m) → (is_reached (table n) kept m ≡ true) ⊎ (some m ≡ false) → AreDone n some kept m
  done_here n some kept m done why y le h e = elim (cases_order y m) [
    | inl same ↦ elim why [
      | inl reached ↦ subst (λ z. is_reached (table n) kept z ≡ true) (sym same) reached
      | inr fails ↦ absurd (true≢false (sym e ∙ (ap some same ∙ fails)))
    ]
    | inr (inl below) ↦ absurd (omega arith)
    | inr (inr above) ↦ done y (omega arith) h e
  ]

  done_more : (n : ℕ) (some : ℕ → Bool) (kept : List ℕ) (m : ℕ) → AreDone n some kept (suc m) → AreDone n some (kept ++ m ∷ []) m
  done_more n some kept m done y le h e = elim (cases_order y m) [
    | inl same ↦ subst (λ z. is_reached (table n) (kept ++ m ∷ []) z ≡ true) (sym same) (reached_here n kept m)
    | inr (inl below) ↦ absurd (omega arith)
    | inr (inr above) ↦ reached_more n kept m y (done y (omega arith) h e)
  ]

  least_same : (n : ℕ) (all some : ℕ → Bool) → ((i : ℕ) → some i ≡ true → all i ≡ true) → ((i : ℕ) → i < n → all i ≡ true → (k : ℕ) × (k < n) × (some k ≡ true) × Follows i k) →
      (m : ℕ) (kept : List ℕ) → m ≤ n → ((k : ℕ) → Contains kept k → k < n) → AreDone n some kept m → least (table n) kept (filter all (down_from m)) ≡ least (table n) kept (filter some (down_from m))
  least_same n all some sound complete zero kept h below done = refl
  least_same n all some sound complete (suc m) kept h below done =
      let within : m < n = omega arith in
      let less : m ≤ n = omega arith in
      cond_step (table n) kept (filter all (down_from m)) (filter some (down_from m)) m (all m) (some m) (is_reached (table n) kept m) refl (sound m)
      (λ t c. (let k = complete m within t in elim k.3 [
        | inl same ↦ absurd (true≢false (sym k.2 ∙ (ap some same ∙ c)))
        | inr chain ↦ (let up : m < k.0 = chain_rises f commute chain in reached_before n kept m k.0 below chain (done k.0 (omega arith) k.1 k.2))
      ]))
      (λ w. least_same n all some sound complete m kept less below (done_here n some kept m done w))
      (least_same n all some sound complete m (kept ++ m ∷ []) less (below_more n kept m within below) (done_more n some kept m done))

  -- the least of what is asked for is the least of what an access ties
  pub part_same : (n : ℕ) (b : Access) (row part : List ℕ) → AreAsked f commute n b row → part ≡ least (table n) [] (filter (word_bit row) (down_from n)) → part ≡ least (table n) [] (tied_by f commute n b)
  part_same n b row part asked is =
      let all : ℕ → Bool = λ i. list_any (λ a. accesses_tie f commute a b) (accesses f i) in
      is ∙ sym (least_same n all (word_bit row) (λ i e. (filter_contains all (down_from n) i (asked.sound i e)).1)
      (λ i h t. (let k = asked.complete i (contains_filter all (down_from n) i (below_down n i h) t) in (k.0, down_below n k.0 (filter_contains all (down_from n) k.0 (asked.sound k.0 k.1)).0, k.1, k.2)))
      n [] (omega arith) (λ k c. absurd (contains_none k c)) (λ y le h e. absurd (omega arith)))
