-- What holds of chains, and that the critical chain is one.
use Rattle.std.proofs.Common.{◌≡◌, ℕ, zero, suc, ◌+◌, ◌<◌, ◌≤◌, ◌⊎◌, inl, inr, List, [], ◌∷◌, ◌++◌, length, refl, sym, ◌∙◌, ap, subst, append_assoc, length-append, arith}
use Rattle.std.proofs.lemmas.List.Sums.{sum_by-cons, sum_by-append}
use Rattle.graph_terms.specs.Graph.{GraphValue}
use Rattle.realm_timeline.specs.Plan.{cost, Planned}
use Rattle.realm_timeline.specs.Chains.{HasEdge, IsChain, chain_cost, IsCritical}

-- one more line at the end of a chain
pub chain_push : (g : GraphValue) (front : List ℕ) (k i : ℕ) → IsChain g (front ++ k ∷ []) → HasEdge g k i → Planned g i → IsChain g ((front ++ k ∷ []) ++ i ∷ [])
chain_push g [] k i c e p = (c, e, p)
chain_push g (x ∷ []) k i c e p = (c.0, c.1, chain_push g [] k i c.2 e p)
chain_push g (x ∷ y ∷ front) k i c e p = (c.0, c.1, chain_push g (y ∷ front) k i c.2 e p)

-- the front of a chain is a chain
pub chain_front : (g : GraphValue) (front : List ℕ) (k : ℕ) (behind : List ℕ) → IsChain g ((front ++ k ∷ []) ++ behind) → IsChain g (front ++ k ∷ [])
chain_front g [] k [] c = c
chain_front g [] k (y ∷ behind) c = c.0
chain_front g (x ∷ []) k behind c = (c.0, c.1, chain_front g [] k behind c.2)
chain_front g (x ∷ y ∷ front) k behind c = (c.0, c.1, chain_front g (y ∷ front) k behind c.2)

-- and an edge leads from its last line to the next
pub chain_edge : (g : GraphValue) (front : List ℕ) (k i : ℕ) (behind : List ℕ) → IsChain g ((front ++ k ∷ []) ++ i ∷ behind) → HasEdge g k i
chain_edge g [] k i behind c = c.1
chain_edge g (x ∷ []) k i behind c = chain_edge g [] k i behind c.2
chain_edge g (x ∷ y ∷ front) k i behind c = chain_edge g (y ∷ front) k i behind c.2

-- the cost of one more line
pub chain_cost_push : (g : GraphValue) (front : List ℕ) (i : ℕ) → chain_cost g (front ++ i ∷ []) ≡ chain_cost g front + cost g i
chain_cost_push g front i =
    let e : chain_cost g (front ++ i ∷ []) ≡ chain_cost g front + chain_cost g (i ∷ []) = sum_by-append (cost g) front (i ∷ []) in
    let f : chain_cost g (i ∷ []) ≡ cost g i + 0 = sum_by-cons (cost g) i [] in
    omega arith

-- a list has no number, or a last one
pub parted : (xs : List ℕ) → (xs ≡ []) ⊎ ((front : List ℕ) × (x : ℕ) × (xs ≡ front ++ x ∷ []))
parted [] = inl refl
parted (x ∷ xs) = elim (parted xs) [
  | inl e ↦ inr ([], x, ap (λ ys. x ∷ ys) e)
  | inr r ↦ inr (x ∷ r.0, r.1, ap (λ ys. x ∷ ys) r.2)
]

-- a chain with a line costs more than one without
none_costs_less : (g : GraphValue) (none some : List ℕ) → none ≡ [] → ((front : List ℕ) × (x : ℕ) × (some ≡ front ++ x ∷ [])) → chain_cost g none < chain_cost g some
none_costs_less g none some e f =
    let a : chain_cost g none ≡ 0 = ap (chain_cost g) e in
    let b : chain_cost g some ≡ chain_cost g f.0 + cost g f.1 = ap (chain_cost g) f.2 ∙ chain_cost_push g f.0 f.1 in
    omega arith

-- before one line that two critical chains share, they are the same where they cost the same
same_fronts : (g : GraphValue) (c d : List ℕ) → IsCritical g c → IsCritical g d → (n : ℕ) (front other : List ℕ) (i : ℕ) (behind : List ℕ) → length front ≤ n →
    c ≡ front ++ i ∷ behind → d ≡ other ++ i ∷ behind → chain_cost g front ≡ chain_cost g other → front ≡ other
same_fronts g c d crit_c crit_d zero front other i behind few is_c is_d same = elim (parted front) [
  | inl e ↦ elim (parted other) [
    | inl f ↦ e ∙ sym f
    | inr f ↦ (let less : chain_cost g front < chain_cost g other = none_costs_less g front other e f in absurd (omega arith))
  ]
  | inr e ↦ (let a : length front ≡ length e.0 + 1 = ap length e.2 ∙ length-append e.0 (e.1 ∷ []) in absurd (omega arith))
]
same_fronts g c d crit_c crit_d (suc n) front other i behind few is_c is_d same = elim (parted front) [
  | inl e ↦ elim (parted other) [
    | inl f ↦ e ∙ sym f
    | inr f ↦ (let less : chain_cost g front < chain_cost g other = none_costs_less g front other e f in absurd (omega arith))
  ]
  | inr e ↦ elim (parted other) [
    | inl f ↦ (let less : chain_cost g other < chain_cost g front = none_costs_less g other front f e in absurd (omega arith))
    | inr f ↦ (
        let few' : length front ≡ length e.0 + 1 = ap length e.2 ∙ length-append e.0 (e.1 ∷ []) in
        let c_is : c ≡ (e.0 ++ e.1 ∷ []) ++ i ∷ behind = is_c ∙ ap (λ xs. xs ++ i ∷ behind) e.2 in
        let d_is : d ≡ (f.0 ++ f.1 ∷ []) ++ i ∷ behind = is_d ∙ ap (λ xs. xs ++ i ∷ behind) f.2 in
        let c_chain : IsChain g ((e.0 ++ e.1 ∷ []) ++ i ∷ behind) = subst (IsChain g) c_is crit_c.chain in
        let d_chain : IsChain g ((f.0 ++ f.1 ∷ []) ++ i ∷ behind) = subst (IsChain g) d_is crit_d.chain in
        let costs : chain_cost g (e.0 ++ e.1 ∷ []) ≡ chain_cost g (f.0 ++ f.1 ∷ []) = sym (ap (chain_cost g) e.2) ∙ (same ∙ ap (chain_cost g) f.2) in
        let below : e.1 ≤ f.1 = crit_c.before e.0 e.1 i behind c_is f.0 f.1 (chain_front g f.0 f.1 (i ∷ behind) d_chain) (chain_edge g f.0 f.1 i behind d_chain) (sym costs) in
        let above : f.1 ≤ e.1 = crit_d.before f.0 f.1 i behind d_is e.0 e.1 (chain_front g e.0 e.1 (i ∷ behind) c_chain) (chain_edge g e.0 e.1 i behind c_chain) costs in
        let line : e.1 ≡ f.1 = omega arith in
        let a : chain_cost g (e.0 ++ e.1 ∷ []) ≡ chain_cost g e.0 + cost g e.1 = chain_cost_push g e.0 e.1 in
        let b : chain_cost g (f.0 ++ f.1 ∷ []) ≡ chain_cost g f.0 + cost g f.1 = chain_cost_push g f.0 f.1 in
        let k : cost g e.1 ≡ cost g f.1 = ap (cost g) line in
        let fronts : e.0 ≡ f.0 = same_fronts g c d crit_c crit_d n e.0 f.0 f.1 (i ∷ behind) (omega arith)
        (c_is ∙ (append_assoc e.0 (e.1 ∷ []) (i ∷ behind) ∙ ap (λ x. e.0 ++ x ∷ i ∷ behind) line))
        (d_is ∙ append_assoc f.0 (f.1 ∷ []) (i ∷ behind)) (omega arith) in
        e.2 ∙ (ap (λ xs. xs ++ e.1 ∷ []) fronts ∙ (ap (λ x. f.0 ++ x ∷ []) line ∙ sym f.2)))
  ]
]

-- the critical chain is one
pub critical_is_one : (g : GraphValue) (c d : List ℕ) → IsCritical g c → IsCritical g d → c ≡ d
critical_is_one g c d crit_c crit_d =
    let le : chain_cost g d ≤ chain_cost g c = crit_c.costliest d crit_d.chain in
    let ge : chain_cost g c ≤ chain_cost g d = crit_d.costliest c crit_c.chain in
    let same : chain_cost g c ≡ chain_cost g d = omega arith in
    elim (parted c) [
      | inl e ↦ elim (parted d) [
        | inl f ↦ e ∙ sym f
        | inr f ↦ (let less : chain_cost g c < chain_cost g d = none_costs_less g c d e f in absurd (omega arith))
      ]
      | inr e ↦ elim (parted d) [
        | inl f ↦ (let less : chain_cost g d < chain_cost g c = none_costs_less g d c f e in absurd (omega arith))
        | inr f ↦ (
            let below : e.1 ≤ f.1 = crit_c.last e.0 e.1 e.2 f.0 f.1 (subst (IsChain g) f.2 crit_d.chain) (sym (ap (chain_cost g) f.2) ∙ sym same) in
            let above : f.1 ≤ e.1 = crit_d.last f.0 f.1 f.2 e.0 e.1 (subst (IsChain g) e.2 crit_c.chain) (sym (ap (chain_cost g) e.2) ∙ same) in
            let line : e.1 ≡ f.1 = omega arith in
            let a : chain_cost g c ≡ chain_cost g e.0 + cost g e.1 = ap (chain_cost g) e.2 ∙ chain_cost_push g e.0 e.1 in
            let b : chain_cost g d ≡ chain_cost g f.0 + cost g f.1 = ap (chain_cost g) f.2 ∙ chain_cost_push g f.0 f.1 in
            let k : cost g e.1 ≡ cost g f.1 = ap (cost g) line in
            let fronts : e.0 ≡ f.0 = same_fronts g c d crit_c crit_d (length e.0) e.0 f.0 f.1 [] (omega arith) (e.2 ∙ ap (λ x. e.0 ++ x ∷ []) line) f.2 (omega arith) in
            e.2 ∙ (ap (λ xs. xs ++ e.1 ∷ []) fronts ∙ (ap (λ x. f.0 ++ x ∷ []) line ∙ sym f.2)))
      ]
    ]
