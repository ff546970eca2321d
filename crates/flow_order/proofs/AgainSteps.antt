-- The least of the least of some lines is the same.
use Rattle.std.proofs.Common.{◌≡◌, ℕ, zero, suc, ◌<◌, Bool, true, false, cond, not, ◌||◌, inl, inr, List, [], ◌∷◌, ◌++◌, refl, sym, ◌∙◌, ap, subst, arith}
use Rattle.std.specs.Prelude.{Contains, ◌==◌, filter, flat_map}
use Rattle.std.specs.List.{list_any}
use Rattle.std.proofs.lemmas.Bool.{cases_Bool, false_from_ne_true, eqb-true, eq-eqb, or_left}
use Rattle.basics.proofs.ListFacts.{contains_here, contains_there, filter_contains, map_contains}
use Rattle.graph_terms.specs.Graph.{GraphValue}
use Rattle.graph_terms.specs.Access.{accesses}
use Rattle.flow_order.specs.Meaning.{accesses_tie}
use Rattle.flow_order.specs.Rows.{parts_at}
use Rattle.flow_order.specs.SourceParts.{Parts, down_from, has, is_large, is_reached, least, parts_of, sources_after, tied_by}
use Rattle.flow_order.proofs.Lists.{down_below, least_within}
use Rattle.flow_order.proofs.SourceFacts.{has_contains}
use Rattle.flow_order.proofs.SourceSteps.{parts_are}

filter_same : (p q : ℕ → Bool) (xs : List ℕ) → ((x : ℕ) → Contains xs x → p x ≡ q x) → filter p xs ≡ filter q xs
filter_same p q [] h = refl
filter_same p q (x ∷ xs) h = ap (λ b. cond b (x ∷ filter p xs) (filter p xs)) (h x (contains_here x xs)) ∙ ap (λ ys. cond (q x) (x ∷ ys) ys) (filter_same p q xs (λ y c. h y (contains_there x xs y c)))

-- the least of lines below m have not m
above_none : (s : List (List ℕ)) (kept : List ℕ) (t : ℕ → Bool) (m : ℕ) → has (least s kept (filter t (down_from m))) m ≡ false
above_none s kept t m = false_from_ne_true (has (least s kept (filter t (down_from m))) m) (λ e.
    let b : m < m = down_below m m (filter_contains t (down_from m) m (least_within s kept (filter t (down_from m)) m (has_contains (least s kept (filter t (down_from m))) m e))).0 in absurd (omega arith))

-- one line more, that is not kept
skips : (s : List (List ℕ)) (kept : List ℕ) (t : ℕ → Bool) (m : ℕ) (q : List ℕ) → q ≡ least s kept (filter t (down_from m)) → least s kept (filter (has (least s kept (filter t (down_from m)))) (down_from m)) ≡ least s kept (filter t (down_from m)) → least s kept (filter (has q) (down_from (suc m))) ≡ q
skips s kept t m q is again =
    let p = least s kept (filter t (down_from m)) in
    let x = filter (has p) (down_from m) in
    subst (λ z. least s kept (filter (has z) (down_from (suc m))) ≡ z) (sym is) (ap (λ b. least s kept (cond b (m ∷ x) x)) (above_none s kept t m) ∙ again)

-- one that is
keeps : (s : List (List ℕ)) (kept : List ℕ) (t : ℕ → Bool) (m : ℕ) (q : List ℕ) → is_reached s kept m ≡ false → q ≡ m ∷ least s (kept ++ m ∷ []) (filter t (down_from m)) →
    least s (kept ++ m ∷ []) (filter (has (least s (kept ++ m ∷ []) (filter t (down_from m)))) (down_from m)) ≡ least s (kept ++ m ∷ []) (filter t (down_from m)) → least s kept (filter (has q) (down_from (suc m))) ≡ q
keeps s kept t m q out is again =
    let p = least s (kept ++ m ∷ []) (filter t (down_from m)) in
    let x = filter (has (m ∷ p)) (down_from m) in
    let here : has (m ∷ p) m ≡ true = or_left (m == m) (has p m) (eq-eqb m m refl) in
    let same : filter (has (m ∷ p)) (down_from m) ≡ filter (has p) (down_from m) = filter_same (has (m ∷ p)) (has p) (down_from m) (λ i c.
    ap (λ b. b || has p i) (false_from_ne_true (m == i) (λ e. (let b : i < m = down_below m i c in let g : m ≡ i = eqb-true m i e in absurd (omega arith))))) in
    subst (λ z. least s kept (filter (has z) (down_from (suc m))) ≡ z) (sym is)
    (ap (λ b. least s kept (cond b (m ∷ x) x)) here ∙ (ap (λ b. cond b (least s kept x) (m ∷ least s (kept ++ m ∷ []) x)) out ∙ ap (λ ys. m ∷ ys) (ap (least s (kept ++ m ∷ [])) same ∙ again)))

pub least_again : (s : List (List ℕ)) (t : ℕ → Bool) (m : ℕ) (kept : List ℕ) → least s kept (filter (has (least s kept (filter t (down_from m)))) (down_from m)) ≡ least s kept (filter t (down_from m))
least_again s t zero kept = refl
least_again s t (suc m) kept =
    let f = filter t (down_from m) in
    elim (cases_Bool (t m)) [
      | inr fails ↦ skips s kept t m _ (ap (λ b. least s kept (cond b (m ∷ f) f)) fails) (least_again s t m kept)
      | inl passes ↦ elim (cases_Bool (is_reached s kept m)) [
        | inl reached ↦ skips s kept t m _ (ap (λ b. least s kept (cond b (m ∷ f) f)) passes ∙ ap (λ b. cond b (least s kept f) (m ∷ least s (kept ++ m ∷ []) f)) reached) (least_again s t m kept)
        | inr out ↦ keeps s kept t m _ out (ap (λ b. least s kept (cond b (m ∷ f) f)) passes ∙ ap (λ b. cond b (least s kept f) (m ∷ least s (kept ++ m ∷ []) f)) out) (least_again s t m (kept ++ m ∷ []))
      ]
    ]

or_none : (b : Bool) → b ≡ (b || false)
or_none true = refl
or_none false = refl

-- a line with one part, which is not large
pub only_part : (f : GraphValue) (commute : Bool) (n : ℕ) (p : Parts) (few : List (List ℕ)) → p.large ≡ filter (is_large f.format) (parts_at f commute n (accesses f n)) → few ≡ filter (λ q. not (is_large f.format q)) (parts_at f commute n (accesses f n)) → p.large ≡ [] → few ≡ p.small ∷ [] →
    p ≡ parts_of f commute (sources_after f commute n) n
only_part f commute n p few large is none one =
    let part : Contains (filter (λ q. not (is_large f.format q)) (parts_at f commute n (accesses f n))) p.small = subst (λ qs. Contains qs p.small) (sym one ∙ is) (contains_here p.small []) in
    let b = map_contains (λ b. least (sources_after f commute n) [] (tied_by f commute n b)) (accesses f n) p.small (filter_contains (λ q. not (is_large f.format q)) (parts_at f commute n (accesses f n)) p.small part).0 in
    let all : ℕ → Bool = λ i. list_any (λ a. accesses_tie f commute a b.0) (accesses f i) in
    let own : p.small ≡ least (sources_after f commute n) [] (filter (has p.small) (down_from n)) = subst (λ z. z ≡ least (sources_after f commute n) [] (filter (has z) (down_from n))) b.2 (sym (least_again (sources_after f commute n) all n [])) in
    parts_are f commute n p few (has p.small) large is (λ i. or_none (has p.small i) ∙ ap (list_any (λ q. has q i)) (sym one)) (own ∙ ap (λ qs. least (sources_after f commute n) (flat_map (λ q. q) qs) (filter (has p.small) (down_from n))) (sym none))
