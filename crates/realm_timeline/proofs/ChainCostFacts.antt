-- The costliest chains, line by line, and the critical chain made of them.
use Rattle.std.proofs.Common.{◌≡◌, ℕ, zero, suc, ◌+◌, ◌*◌, ◌<◌, ◌≤◌, inl, inr, List, [], ◌∷◌, ◌++◌, length, take, refl, sym, ◌∙◌, ap, subst, append_assoc, length-append, arith, replicate}
use Rattle.std.specs.Prelude.{◌==◌, Contains, Option, Some, None, MatchOption, slice_index, reverse}
use Rattle.std.proofs.lemmas.List.{length-replicate, reverse-append, take_more, take_all, get_or-set_same, get_or-set_other, length-set, get_or_past}
use Rattle.realm_timeline.proofs.Positions.{contains_take, take_contains, place, place_is, place_before, listed_or_not}
use Rattle.realm_timeline.proofs.LoopFacts.{no_edge}
use Rattle.realm_timeline.proofs.StartFacts.{replicate_at}
use Rattle.std.specs.List.{slice_index_or}
use Rattle.std.proofs.lemmas.Bool.{cases_lt, cases_eq, eq-eqb, eqb-true}
use Rattle.std.proofs.lemmas.List.Elements.{Contains-push, Contains-push_cases, Contains-append_left, Contains-get_or}
use Rattle.std.proofs.lemmas.Option.{none-some}
use Rattle.graph_terms.specs.declared.verb.Edge.{Edge}
use Rattle.graph_terms.specs.Graph.{GraphValue}
use Rattle.graph_terms.specs.Edges.{edges, edges_into}
use Rattle.basics.proofs.ListFacts.{contains_none, filter_contains, contains_filter}
use Rattle.realm_timeline.specs.Plan.{Planned, cost}
use Rattle.realm_timeline.specs.Chains.{HasEdge, IsChain, chain_cost, IsCritical}
use Rattle.realm_timeline.specs.Order.{IsOrder}
use Rattle.realm_timeline.specs.ChainCosts.{IsCostliestTo, IsBest, IsBestOf, chain_cost_at, before_at, IsBefore, AreChainCosts, IsLinked, IsTop, IsTopOf, EndsWith, IsWalk, best_cost, best_line, cost_or_0, AddsLine, IsBetter, IsNoneOrBelow}
use Rattle.realm_timeline.proofs.ChainFacts.{chain_push, chain_front, chain_edge, chain_cost_push, parted}

-- the last line of a chain is planned
last_planned : (g : GraphValue) (front : List ℕ) (i : ℕ) → IsChain g (front ++ i ∷ []) → Planned g i
last_planned g [] i c = c
last_planned g (x ∷ []) i c = last_planned g [] i c.2
last_planned g (x ∷ y ∷ front) i c = last_planned g (y ∷ front) i c.2

-- edges into a line, by the list of them
into_edge : (g : GraphValue) (i : ℕ) (e : Edge) → Contains (edges_into g i) e → HasEdge g e.from i
into_edge g i e c = let k = filter_contains (λ (x : Edge). x.to == i) (edges g) e c in (e, k.0, refl, eqb-true e.to i k.1)

edge_into : (g : GraphValue) (i j : ℕ) → HasEdge g j i → (e : Edge) × Contains (edges_into g i) e × (e.from ≡ j)
edge_into g i j h = (h.0, contains_filter (λ (x : Edge). x.to == i) (edges g) h.0 h.1 (eq-eqb h.0.to i h.3), h.2)

module _ (g : GraphValue) (order : List ℕ) (is : IsOrder g order) (costs : List ℕ) (before : List (Option ℕ)) (n line : ℕ) (h : AreChainCosts g order costs before n) (inside : n < length order) (at : line ≡ slice_index order n)
    (costs' : List ℕ) (before' : List (Option ℕ)) (w : AddsLine g costs before costs' before' line) where
  listed : Contains order line
  listed = subst (Contains order) (sym at) (Contains-get_or order n 0 inside)

  planned : Planned g line
  planned = (is.listed line).0 listed

  fresh : Contains (take n order) line → ⊥
  fresh c = let t = contains_take order n line c in is.once t.0 n t.1 inside (t.3 ∙ at)

  source_listed : (j : ℕ) → HasEdge g j line → Contains (take n order) j
  source_listed j e = subst (Contains (take n order)) e.2 (is.before n inside e.0 e.1 (e.3 ∙ at))

  below : line < length costs
  below = let a : line < length g.lines = planned.line in let b : length costs ≡ length g.lines = h.cost_count in omega arith

  below' : line < length before
  below' = let a : line < length g.lines = planned.line in let b : length before ≡ length g.lines = h.before_count in omega arith

  here : chain_cost_at costs' line ≡ best_cost w.best + cost g line
  here = ap (λ xs. chain_cost_at xs line) w.costs_are ∙ get_or-set_same costs line (best_cost w.best + cost g line) 0 below

  here' : before_at before' line ≡ best_line w.best
  here' = ap (λ xs. before_at xs line) w.before_are ∙ get_or-set_same before line (best_line w.best) None below'

  there : (i : ℕ) → (i ≡ line → ⊥) → chain_cost_at costs' i ≡ chain_cost_at costs i
  there i apart = ap (λ xs. chain_cost_at xs i) w.costs_are ∙ get_or-set_other costs line i (best_cost w.best + cost g line) 0 apart

  there' : (i : ℕ) → (i ≡ line → ⊥) → before_at before' i ≡ before_at before i
  there' i apart = ap (λ xs. before_at xs i) w.before_are ∙ get_or-set_other before line i (best_line w.best) None apart

  known_apart : (i : ℕ) → Contains (take n order) i → i ≡ line → ⊥
  known_apart i c e = fresh (subst (Contains (take n order)) e c)

  -- the sources of a line that has its entries have theirs
  sources_known : (i : ℕ) → Contains (take n order) i → (j : ℕ) → HasEdge g j i → Contains (take n order) j
  sources_known i c j e =
      let t = contains_take order n i c in
      let b : Contains (take t.0 order) j = subst (Contains (take t.0 order)) e.2 (is.before t.0 t.2 e.0 e.1 (e.3 ∙ sym t.3)) in
      let u = contains_take order t.0 j b in
      subst (Contains (take n order)) u.3 (take_contains order n u.0 (let x : u.0 < t.0 = u.1 in let y : t.0 < n = t.1 in omega arith) u.2)

  same_cost : (i v v' : ℕ) → v ≡ v' → IsCostliestTo g i v → IsCostliestTo g i v'
  same_cost i v v' e k = record { front = k.front; chain = k.chain; cost = k.cost ∙ e; most = λ d c. subst (λ z. chain_cost g (d ++ i ∷ []) ≤ z) e (k.most d c) }

  same_before : (i : ℕ) → Contains (take n order) i → (o : Option ℕ) → IsBefore g costs i o → IsBefore g costs' i o
  same_before i c None b = (b.0, there i (known_apart i c) ∙ b.1)
  same_before i c (Some k) b =
      let kc : Contains (take n order) k = sources_known i c k b.0 in
      let ek : chain_cost_at costs' k ≡ chain_cost_at costs k = there k (known_apart k kc) in
      let ei : chain_cost_at costs' i ≡ chain_cost_at costs i = there i (known_apart i c) in
      let sum : chain_cost_at costs i ≡ chain_cost_at costs k + cost g i = b.1 in (
        b.0,
        (let e : chain_cost_at costs' i ≡ chain_cost_at costs' k + cost g i = omega arith in e),
        (λ j e. (let ej : chain_cost_at costs' j ≡ chain_cost_at costs j = there j (known_apart j (sources_known i c j e)) in let m : chain_cost_at costs j ≤ chain_cost_at costs k = b.2 j e in omega arith)),
        (λ j e same. b.3 j e (let ej : chain_cost_at costs' j ≡ chain_cost_at costs j = there j (known_apart j (sources_known i c j e)) in omega arith)),
      )

  -- the line itself
  new_cost : (o : Option (ℕ × ℕ)) → IsBestOf (chain_cost_at costs) (edges_into g line) o → IsCostliestTo g line (best_cost o + cost g line)
  new_cost None none = record {
    front = [];
    chain = planned;
    cost = chain_cost_push g [] line;
    most = λ d c. elim (parted d) [
      | inl e ↦ (
          let a : chain_cost g (d ++ line ∷ []) ≡ chain_cost g d + cost g line = chain_cost_push g d line in
          let z : chain_cost g d ≡ 0 = ap (chain_cost g) e in
          omega arith)
      | inr f ↦ (
          let e = edge_into g line f.1 (chain_edge g f.0 f.1 line [] (subst (λ xs. IsChain g (xs ++ line ∷ [])) f.2 c)) in
          absurd (none e.0 e.1))
    ];
  }
  new_cost (Some b) best =
      let edge : HasEdge g b.0 line = subst (λ z. HasEdge g z line) best.source (into_edge g line best.edge best.listed) in
      let k = (h.each b.0 (source_listed b.0 edge)).0 in
      let val : chain_cost_at costs b.0 ≡ b.1 = best.cost in
      record {
        front = k.front ++ b.0 ∷ [];
        chain = chain_push g k.front b.0 line k.chain edge planned;
        cost = (
            let a : chain_cost g ((k.front ++ b.0 ∷ []) ++ line ∷ []) ≡ chain_cost g (k.front ++ b.0 ∷ []) + cost g line = chain_cost_push g (k.front ++ b.0 ∷ []) line in
            let c : chain_cost g (k.front ++ b.0 ∷ []) ≡ chain_cost_at costs b.0 = k.cost in
            omega arith);
        most = λ d c. (
            let a : chain_cost g (d ++ line ∷ []) ≡ chain_cost g d + cost g line = chain_cost_push g d line in
            elim (parted d) [
              | inl e ↦ (let z : chain_cost g d ≡ 0 = ap (chain_cost g) e in omega arith)
              | inr f ↦ (
                  let c' : IsChain g ((f.0 ++ f.1 ∷ []) ++ line ∷ []) = subst (λ xs. IsChain g (xs ++ line ∷ [])) f.2 c in
                  let ed : HasEdge g f.1 line = chain_edge g f.0 f.1 line [] c' in
                  let e = edge_into g line f.1 ed in
                  let m : chain_cost_at costs e.0.from ≤ b.1 = best.most e.0 e.1 in
                  let m' : chain_cost_at costs f.1 ≤ b.1 = subst (λ z. chain_cost_at costs z ≤ b.1) e.2 m in
                  let u : chain_cost g (f.0 ++ f.1 ∷ []) ≤ chain_cost_at costs f.1 = (h.each f.1 (source_listed f.1 ed)).0.most f.0 (chain_front g f.0 f.1 (line ∷ []) c') in
                  let s : chain_cost g d ≡ chain_cost g (f.0 ++ f.1 ∷ []) = ap (chain_cost g) f.2 in
                  omega arith)
            ]);
      }

  new_before : (o : Option (ℕ × ℕ)) → IsBestOf (chain_cost_at costs) (edges_into g line) o → chain_cost_at costs' line ≡ best_cost o + cost g line → IsBefore g costs' line (best_line o)
  new_before None none val = ((λ j e. (let i = edge_into g line j e in none i.0 i.1)), (let v : chain_cost_at costs' line ≡ 0 + cost g line = val in let r : chain_cost_at costs' line ≡ cost g line = omega arith in r))
  new_before (Some b) best val =
      let edge : HasEdge g b.0 line = subst (λ z. HasEdge g z line) best.source (into_edge g line best.edge best.listed) in
      let known : (j : ℕ) → HasEdge g j line → chain_cost_at costs' j ≡ chain_cost_at costs j = (λ j e. there j (known_apart j (source_listed j e))) in
      let c : chain_cost_at costs b.0 ≡ b.1 = best.cost in
      let k : chain_cost_at costs' b.0 ≡ chain_cost_at costs b.0 = known b.0 edge in (
        edge,
        (let v : chain_cost_at costs' line ≡ b.1 + cost g line = val in let r : chain_cost_at costs' line ≡ chain_cost_at costs' b.0 + cost g line = omega arith in r),
        (λ j e. (
            let i = edge_into g line j e in
            let m : chain_cost_at costs j ≤ b.1 = subst (λ z. chain_cost_at costs z ≤ b.1) i.2 (best.most i.0 i.1) in
            let kj : chain_cost_at costs' j ≡ chain_cost_at costs j = known j e in
            omega arith)),
        (λ j e same. (
            let i = edge_into g line j e in
            let kj : chain_cost_at costs' j ≡ chain_cost_at costs j = known j e in
            let val' : chain_cost_at costs i.0.from ≡ b.1 = ap (chain_cost_at costs) i.2 ∙ (let r : chain_cost_at costs j ≡ b.1 = omega arith in r) in
            subst (λ z. b.0 ≤ z) i.2 (best.lowest i.0 i.1 val'))),
      )

  best_small : (o : Option (ℕ × ℕ)) → IsBestOf (chain_cost_at costs) (edges_into g line) o → best_cost o ≤ 68719476736 * n
  best_small None b = omega arith
  best_small (Some b) best = let f : chain_cost_at costs b.0 ≤ 68719476736 * n = h.few b.0 in let c : chain_cost_at costs b.0 ≡ b.1 = best.cost in omega arith

  more : take (n + 1) order ≡ take n order ++ line ∷ []
  more = take_more order n 0 inside ∙ ap (λ z. take n order ++ z ∷ []) (sym at)

  added : AreChainCosts g order costs' before' (n + 1)
  added = record {
    cost_count = ap length w.costs_are ∙ (simp length-set h.cost_count);
    before_count = ap length w.before_are ∙ (simp length-set h.before_count);
    each = λ i c. elim (Contains-push_cases (take n order) line i (subst (λ xs. Contains xs i) more c)) [
      | inl old ↦ (
          let k = h.each i old in (
            same_cost i (chain_cost_at costs i) (chain_cost_at costs' i) (sym (there i (known_apart i old))) k.0,
            subst (IsBefore g costs' i) (sym (there' i (known_apart i old))) (same_before i old (before_at before i) k.1),
          ))
      | inr new ↦ subst (λ z. IsCostliestTo g z (chain_cost_at costs' z) × IsBefore g costs' z (before_at before' z)) new (
        same_cost line (best_cost w.best + cost g line) (chain_cost_at costs' line) (sym here) (new_cost w.best w.is_best),
        subst (IsBefore g costs' line) (sym here') (new_before w.best w.is_best here),
      )
    ];
    none = λ i out. (
        let apart : i ≡ line → ⊥ = (λ e. out (subst (λ xs. Contains xs i) (sym more) (subst (Contains (take n order ++ line ∷ [])) (sym e) (Contains-push (take n order) line)))) in
        there i apart ∙ h.none i (λ c. out (subst (λ xs. Contains xs i) (sym more) (Contains-append_left (take n order) (line ∷ []) i c))));
    few = λ i. elim (cases_eq i line) [
      | inl e ↦ (
          let v : chain_cost_at costs' i ≡ best_cost w.best + cost g line = ap (chain_cost_at costs') e ∙ here in
          let b : best_cost w.best ≤ 68719476736 * n = best_small w.best w.is_best in
          let c : cost g line ≤ 68719476736 = w.few in
          omega arith)
      | inr apart ↦ (let v : chain_cost_at costs' i ≡ chain_cost_at costs i = there i apart in let f : chain_cost_at costs i ≤ 68719476736 * n = h.few i in omega arith)
    ];
  }

pub line_added : (g : GraphValue) (order : List ℕ) → IsOrder g order → (costs : List ℕ) (before : List (Option ℕ)) (n line : ℕ) → AreChainCosts g order costs before n → n < length order → line ≡ slice_index order n →
    (costs' : List ℕ) (before' : List (Option ℕ)) → AddsLine g costs before costs' before' line → AreChainCosts g order costs' before' (n + 1)
line_added g order is costs before n line h inside at costs' before' w = added g order is costs before n line h inside at costs' before' w

-- the critical chain
module _ (g : GraphValue) (order : List ℕ) (is : IsOrder g order) (costs : List ℕ) (before : List (Option ℕ)) (h : AreChainCosts g order costs before (length order)) where
  chain_costs : (i : ℕ) → Planned g i → IsCostliestTo g i (chain_cost_at costs i) × IsBefore g costs i (before_at before i)
  chain_costs i planned = h.each i (subst (λ xs. Contains xs i) (sym (take_all (length order) order (omega arith))) ((is.listed i).1 planned))

  linked_at : (front : List ℕ) (j i : ℕ) (behind : List ℕ) → IsLinked before ((front ++ j ∷ []) ++ i ∷ behind) → before_at before i ≡ Some j
  linked_at [] j i behind l = l.0
  linked_at (x ∷ []) j i behind l = linked_at [] j i behind l.1
  linked_at (x ∷ y ∷ front) j i behind l = linked_at (y ∷ front) j i behind l.1

  front_linked : (front : List ℕ) (j : ℕ) (behind : List ℕ) → IsLinked before ((front ++ j ∷ []) ++ behind) → IsLinked before (front ++ j ∷ [])
  front_linked [] j [] l = tt
  front_linked [] j (y ∷ behind) l = tt
  front_linked (x ∷ []) j behind l = (l.0, front_linked [] j behind l.1)
  front_linked (x ∷ y ∷ front) j behind l = (l.0, front_linked (y ∷ front) j behind l.1)

  -- where no line stands before it, a line costs what its chain does
  first_cost : (front : List ℕ) (j : ℕ) → front ≡ [] → ((i : ℕ) (rest : List ℕ) → front ++ j ∷ [] ≡ i ∷ rest → before_at before i ≡ None) → Planned g j → IsChain g (front ++ j ∷ []) × (chain_cost g (front ++ j ∷ []) ≡ chain_cost_at costs j)
  first_cost front j e first planned =
      let none : before_at before j ≡ None = first j [] (ap (λ xs. xs ++ j ∷ []) e) in
      let b : IsBefore g costs j None = subst (IsBefore g costs j) none (chain_costs j planned).1 in
      let val : chain_cost_at costs j ≡ cost g j = b.1 in
      let c : chain_cost g ([] ++ j ∷ []) ≡ 0 + cost g j = chain_cost_push g [] j in (
        subst (λ xs. IsChain g (xs ++ j ∷ [])) (sym e) planned,
        subst (λ xs. chain_cost g (xs ++ j ∷ []) ≡ chain_cost_at costs j) (sym e) (let r : chain_cost g ([] ++ j ∷ []) ≡ chain_cost_at costs j = omega arith in r),
      )

  longer_first : (front : List ℕ) (k j i : ℕ) (rest : List ℕ) → front ++ k ∷ [] ≡ i ∷ rest → (front ++ k ∷ []) ++ j ∷ [] ≡ i ∷ (rest ++ j ∷ [])
  longer_first front k j i rest e = ap (λ xs. xs ++ j ∷ []) e

  -- a linked list that begins with a line that has none before it costs what its last line does
  linked_cost : (n : ℕ) (front : List ℕ) (j : ℕ) → length front ≤ n → IsLinked before (front ++ j ∷ []) → ((i : ℕ) (rest : List ℕ) → front ++ j ∷ [] ≡ i ∷ rest → before_at before i ≡ None) → Planned g j →
      IsChain g (front ++ j ∷ []) × (chain_cost g (front ++ j ∷ []) ≡ chain_cost_at costs j)
  linked_cost zero front j few l first planned = elim (parted front) [
    | inl e ↦ first_cost front j e first planned
    | inr f ↦ (let a : length front ≡ length f.0 + 1 = ap length f.2 ∙ length-append f.0 (f.1 ∷ []) in absurd (omega arith))
  ]
  linked_cost (suc n) front j few l first planned = elim (parted front) [
    | inl e ↦ first_cost front j e first planned
    | inr f ↦ (
        let a : length front ≡ length f.0 + 1 = ap length f.2 ∙ length-append f.0 (f.1 ∷ []) in
        let l' : IsLinked before ((f.0 ++ f.1 ∷ []) ++ j ∷ []) = subst (λ xs. IsLinked before (xs ++ j ∷ [])) f.2 l in
        let b : IsBefore g costs j (Some f.1) = subst (IsBefore g costs j) (linked_at f.0 f.1 j [] l') (chain_costs j planned).1 in
        let edge : HasEdge g f.1 j = b.0 in
        let val : chain_cost_at costs j ≡ chain_cost_at costs f.1 + cost g j = b.1 in
        let source : Planned g f.1 = edge_planned f.1 j edge planned in
        let again = linked_cost n f.0 f.1 (omega arith) (front_linked f.0 f.1 (j ∷ []) l')
        (λ i rest e. first i (rest ++ j ∷ []) (ap (λ xs. xs ++ j ∷ []) f.2 ∙ longer_first f.0 f.1 j i rest e)) source in
        let sum : chain_cost g (f.0 ++ f.1 ∷ []) ≡ chain_cost_at costs f.1 = again.1 in
        let c : chain_cost g ((f.0 ++ f.1 ∷ []) ++ j ∷ []) ≡ chain_cost g (f.0 ++ f.1 ∷ []) + cost g j = chain_cost_push g (f.0 ++ f.1 ∷ []) j in (
          subst (λ xs. IsChain g (xs ++ j ∷ [])) (sym f.2) (chain_push g f.0 f.1 j again.0 edge planned),
          subst (λ xs. chain_cost g (xs ++ j ∷ []) ≡ chain_cost_at costs j) (sym f.2) (let r : chain_cost g ((f.0 ++ f.1 ∷ []) ++ j ∷ []) ≡ chain_cost_at costs j = omega arith in r),
        ))
  ]
    where
      -- the source of a planned line is planned
      edge_planned : (k j : ℕ) → HasEdge g k j → Planned g j → Planned g k
      edge_planned k j e planned =
          let c : Contains order j = (is.listed j).1 planned in
          let t = contains_take order (length order) j (subst (λ xs. Contains xs j) (sym (take_all (length order) order (omega arith))) c) in
          let b : Contains (take t.0 order) k = subst (Contains (take t.0 order)) e.2 (is.before t.0 t.2 e.0 e.1 (e.3 ∙ sym t.3)) in
          let u = contains_take order t.0 k b in
          (is.listed k).0 (subst (Contains order) u.3 (Contains-get_or order u.0 0 u.2))

  -- the last number of a list
  last_is : (front other : List ℕ) (i k : ℕ) → front ++ i ∷ [] ≡ other ++ k ∷ [] → i ≡ k
  last_is [] [] i k e = cc
  last_is [] (x ∷ []) i k e = absurd (let a : length (i ∷ []) ≡ length (x ∷ k ∷ []) = ap length e in omega arith)
  last_is [] (x ∷ y ∷ other) i k e = (let a : length (i ∷ []) ≡ length (x ∷ (y ∷ other) ++ k ∷ []) = ap length e in let b : length (x ∷ (y ∷ other) ++ k ∷ []) ≡ suc (length ((y ∷ other) ++ k ∷ [])) = refl in let c : length ((y ∷ other) ++ k ∷ []) ≡ length (y ∷ other) + 1 = length-append (y ∷ other) (k ∷ []) in absurd (omega arith))
  last_is (x ∷ front) [] i k e = (let a : length (x ∷ front ++ i ∷ []) ≡ length (k ∷ []) = ap length e in let b : length (front ++ i ∷ []) ≡ length front + 1 = length-append front (i ∷ []) in absurd (omega arith))
  last_is (x ∷ front) (y ∷ other) i k e = last_is front other i k (let t : front ++ i ∷ [] ≡ other ++ k ∷ [] = cc in t)

  added_below : (i : ℕ) → 0 < chain_cost_at costs i → i < length g.lines
  added_below i some = elim (cases_lt i (length g.lines)) [
    | inl b ↦ b
    | inr past ↦ (let c : length costs ≡ length g.lines = h.cost_count in let z : chain_cost_at costs i ≡ 0 = get_or_past costs i 0 (omega arith) in absurd (omega arith))
  ]

  added_planned : (i : ℕ) → 0 < chain_cost_at costs i → Planned g i
  added_planned i some = elim (listed_or_not order i) [
    | inl c ↦ (is.listed i).0 c
    | inr out ↦ (let z : chain_cost_at costs i ≡ 0 = h.none i (λ c. out (subst (λ xs. Contains xs i) (take_all (length order) order (omega arith)) c)) in absurd (omega arith))
  ]

  critical_none : (c : List ℕ) → ((k : ℕ) → k < length g.lines → chain_cost_at costs k ≡ 0) → c ≡ [] → IsCritical g c × (0 ≡ chain_cost g c)
  critical_none c zero' e =
      let no_line : (i : ℕ) → Planned g i → ⊥ = (λ i planned. (
      let k = (chain_costs i planned).0 in
      let a : chain_cost g (k.front ++ i ∷ []) ≡ chain_cost_at costs i = k.cost in
      let b : chain_cost g (k.front ++ i ∷ []) ≡ chain_cost g k.front + cost g i = chain_cost_push g k.front i in
      let z : chain_cost_at costs i ≡ 0 = zero' i planned.line in
      absurd (omega arith))) in
      let free : chain_cost g c ≡ 0 = ap (chain_cost g) e in (
        record {
          chain = subst (IsChain g) (sym e) tt;
          costliest = λ d dc. elim (parted d) [
            | inl de ↦ (let x : chain_cost g d ≡ 0 = ap (chain_cost g) de in omega arith)
            | inr f ↦ absurd (no_line f.1 (last_planned g f.0 f.1 (subst (IsChain g) f.2 dc)))
          ];
          last = λ front i is_c d k dc. absurd (no_line k (last_planned g d k dc));
          before = λ front j i behind is_c d k dc. absurd (no_line k (last_planned g d k dc));
        },
        sym free,
      )

  critical_some : (top : ℕ) (c : List ℕ) → IsTop costs (length g.lines) top → IsLinked before c → EndsWith c top → ((i : ℕ) (rest : List ℕ) → c ≡ i ∷ rest → before_at before i ≡ None) → IsCritical g c × (chain_cost_at costs top ≡ chain_cost g c)
  critical_some top c t l ends first =
      let planned : Planned g top = added_planned top t.some in
      let linked : IsLinked before (ends.0 ++ top ∷ []) = subst (IsLinked before) ends.1 l in
      let up = linked_cost (length ends.0) ends.0 top (omega arith) linked (λ i rest e. first i rest (ends.1 ∙ e)) planned in
      let total : chain_cost g c ≡ chain_cost_at costs top = ap (chain_cost g) ends.1 ∙ up.1 in
      let chain : IsChain g c = subst (IsChain g) (sym ends.1) up.0 in (
        record {
          chain = chain;
          costliest = λ d dc. elim (parted d) [
            | inl de ↦ (let x : chain_cost g d ≡ 0 = ap (chain_cost g) de in omega arith)
            | inr f ↦ (
                let dc' : IsChain g (f.0 ++ f.1 ∷ []) = subst (IsChain g) f.2 dc in
                let p : Planned g f.1 = last_planned g f.0 f.1 dc' in
                let a : chain_cost g (f.0 ++ f.1 ∷ []) ≤ chain_cost_at costs f.1 = (chain_costs f.1 p).0.most f.0 dc' in
                let b : chain_cost_at costs f.1 ≤ chain_cost_at costs top = t.most f.1 p.line in
                let s : chain_cost g d ≡ chain_cost g (f.0 ++ f.1 ∷ []) = ap (chain_cost g) f.2 in
                omega arith)
          ];
          last = λ front i is_c d k dc same. (
              let e : i ≡ top = last_is front ends.0 i top (sym is_c ∙ ends.1) in
              let p : Planned g k = last_planned g d k dc in
              let a : chain_cost g (d ++ k ∷ []) ≤ chain_cost_at costs k = (chain_costs k p).0.most d dc in
              let b : chain_cost_at costs k ≤ chain_cost_at costs top = t.most k p.line in
              let s : chain_cost g (d ++ k ∷ []) ≡ chain_cost g c = same in
              subst (λ z. z ≤ k) (sym e) (t.lowest k p.line (omega arith)));
          before = λ front j i behind is_c d k dc edge same. (
              let l' : IsLinked before ((front ++ j ∷ []) ++ i ∷ behind) = subst (IsLinked before) is_c l in
              let c' : IsChain g ((front ++ j ∷ []) ++ i ∷ behind) = subst (IsChain g) is_c chain in
              let fc : IsChain g (front ++ j ∷ []) = chain_front g front j (i ∷ behind) c' in
              let pj : Planned g j = last_planned g front j fc in
              let pi : Planned g i = last_planned g (front ++ j ∷ []) i (chain_front g (front ++ j ∷ []) i behind (subst (IsChain g) (sym (append_assoc (front ++ j ∷ []) (i ∷ []) behind)) c')) in
              let b : IsBefore g costs i (Some j) = subst (IsBefore g costs i) (linked_at front j i behind l') (chain_costs i pi).1 in
              let up_j = linked_cost (length front) front j (omega arith) (front_linked front j (i ∷ behind) l')
              (λ x rest e. first x (rest ++ i ∷ behind) (is_c ∙ ap (λ xs. xs ++ i ∷ behind) e)) pj in
              let pk : Planned g k = last_planned g d k dc in
              let a : chain_cost g (d ++ k ∷ []) ≤ chain_cost_at costs k = (chain_costs k pk).0.most d dc in
              let s : chain_cost g (d ++ k ∷ []) ≡ chain_cost g (front ++ j ∷ []) = same in
              let u : chain_cost g (front ++ j ∷ []) ≡ chain_cost_at costs j = up_j.1 in
              let m : chain_cost_at costs k ≤ chain_cost_at costs j = b.2 k edge in
              b.3 k edge (omega arith));
        },
        sym total,
      )

pub critical_is : (g : GraphValue) (order : List ℕ) → IsOrder g order → (costs : List ℕ) (before : List (Option ℕ)) → AreChainCosts g order costs before (length order) → (top : Option ℕ) → IsTopOf costs (length g.lines) top → (c : List ℕ) → IsWalk before top None c → IsCritical g c × (cost_or_0 costs top ≡ chain_cost g c)
critical_is g order is costs before h None t c w = critical_none g order is costs before h c t w.1
critical_is g order is costs before h (Some top) t c w = critical_some g order is costs before h top c t w.0 w.1 w.2

-- a better source
pub best_more : (chain_costs : ℕ → ℕ) (es : List Edge) (e : Edge) (best : Option (ℕ × ℕ)) (r : ℕ × ℕ) → IsBestOf chain_costs es best → IsBetter best e.from (chain_costs e.from) r → IsBest chain_costs (es ++ e ∷ []) r.0 r.1
best_more chain_costs es e None r none better = record {
  edge = e;
  listed = Contains-push es e;
  source = ap (λ (x : ℕ × ℕ). x.0) (sym better);
  cost = ap (λ (x : ℕ × ℕ). chain_costs x.0) better ∙ ap (λ (x : ℕ × ℕ). x.1) (sym better);
  most = λ x c. elim (Contains-push_cases es e x c) [
    | inl old ↦ absurd (none x old)
    | inr new ↦ (let a : r.1 ≡ chain_costs e.from = ap (λ (z : ℕ × ℕ). z.1) better in let b : chain_costs x.from ≡ chain_costs e.from = ap (λ (z : Edge). chain_costs z.from) (sym new) in omega arith)
  ];
  lowest = λ x c same. elim (Contains-push_cases es e x c) [
    | inl old ↦ absurd (none x old)
    | inr new ↦ (let a : r.0 ≡ e.from = ap (λ (z : ℕ × ℕ). z.0) better in let b : x.from ≡ e.from = ap (λ (z : Edge). z.from) (sym new) in omega arith)
  ];
}
best_more chain_costs es e (Some b) r best (inl same) =
    let r0 : r.0 ≡ b.0 = ap (λ (z : ℕ × ℕ). z.0) same.0 in
    let r1 : r.1 ≡ b.1 = ap (λ (z : ℕ × ℕ). z.1) same.0 in
    record {
      edge = best.edge;
      listed = Contains-append_left es (e ∷ []) best.edge best.listed;
      source = best.source ∙ sym r0;
      cost = ap chain_costs r0 ∙ (best.cost ∙ sym r1);
      most = λ x c. elim (Contains-push_cases es e x c) [
        | inl old ↦ (let m : chain_costs x.from ≤ b.1 = best.most x old in omega arith)
        | inr new ↦ (
            let k : chain_costs x.from ≡ chain_costs e.from = ap (λ (z : Edge). chain_costs z.from) (sym new) in
            elim same.1 [ inl less ↦ omega arith | inr tie ↦ (let t : chain_costs e.from ≡ b.1 = tie.0 in omega arith) ])
      ];
      lowest = λ x c eq. elim (Contains-push_cases es e x c) [
        | inl old ↦ (let l : b.0 ≤ x.from = best.lowest x old (eq ∙ r1) in omega arith)
        | inr new ↦ (
            let k : chain_costs x.from ≡ chain_costs e.from = ap (λ (z : Edge). chain_costs z.from) (sym new) in
            let f : x.from ≡ e.from = ap (λ (z : Edge). z.from) (sym new) in
            let v : chain_costs x.from ≡ r.1 = eq in
            elim same.1 [ inl less ↦ absurd (omega arith) | inr tie ↦ (let t : b.0 ≤ e.from = tie.1 in omega arith) ])
      ];
    }
best_more chain_costs es e (Some b) r best (inr other) =
    let r0 : r.0 ≡ e.from = ap (λ (z : ℕ × ℕ). z.0) other.0 in
    let r1 : r.1 ≡ chain_costs e.from = ap (λ (z : ℕ × ℕ). z.1) other.0 in
    record {
      edge = e;
      listed = Contains-push es e;
      source = sym r0;
      cost = ap chain_costs r0 ∙ sym r1;
      most = λ x c. elim (Contains-push_cases es e x c) [
        | inl old ↦ (
            let m : chain_costs x.from ≤ b.1 = best.most x old in
            elim other.1 [ inl more ↦ omega arith | inr tie ↦ (let t : b.1 ≡ chain_costs e.from = tie.0 in omega arith) ])
        | inr new ↦ (let k : chain_costs x.from ≡ chain_costs e.from = ap (λ (z : Edge). chain_costs z.from) (sym new) in omega arith)
      ];
      lowest = λ x c eq. elim (Contains-push_cases es e x c) [
        | inl old ↦ (
            let m : chain_costs x.from ≤ b.1 = best.most x old in
            let v : chain_costs x.from ≡ r.1 = eq in
            elim other.1 [
              | inl more ↦ absurd (omega arith)
              | inr tie ↦ (
                  let t : b.1 ≡ chain_costs e.from = tie.0 in
                  let u : e.from < b.0 = tie.1 in
                  let l : b.0 ≤ x.from = best.lowest x old (let w : chain_costs x.from ≡ b.1 = omega arith in w) in
                  omega arith)
            ])
        | inr new ↦ (let f : x.from ≡ e.from = ap (λ (z : Edge). z.from) (sym new) in omega arith)
      ];
    }

-- one more line, whose chain is costlier than those so far or not
pub top_here : (costs : List ℕ) (n : ℕ) (top : Option ℕ) → IsTopOf costs n top → cost_or_0 costs top < chain_cost_at costs n → IsTop costs (n + 1) n
top_here costs n None none costlier = record {
  some = omega arith;
  most = λ k below. elim (cases_lt k n) [
    | inl lower ↦ (let z : chain_cost_at costs k ≡ 0 = none k lower in omega arith)
    | inr since ↦ (let e : chain_cost_at costs k ≡ chain_cost_at costs n = ap (chain_cost_at costs) (let s : k ≡ n = omega arith in s) in omega arith)
  ];
  lowest = λ k below same. elim (cases_lt k n) [
    | inl lower ↦ (let z : chain_cost_at costs k ≡ 0 = none k lower in absurd (omega arith))
    | inr since ↦ since
  ];
  known = omega arith;
}
top_here costs n (Some i) top costlier = record {
  some = omega arith;
  most = λ k below. elim (cases_lt k n) [
    | inl lower ↦ (let m : chain_cost_at costs k ≤ chain_cost_at costs i = top.most k lower in omega arith)
    | inr since ↦ (let e : chain_cost_at costs k ≡ chain_cost_at costs n = ap (chain_cost_at costs) (let s : k ≡ n = omega arith in s) in omega arith)
  ];
  lowest = λ k below same. elim (cases_lt k n) [
    | inl lower ↦ (let m : chain_cost_at costs k ≤ chain_cost_at costs i = top.most k lower in absurd (omega arith))
    | inr since ↦ since
  ];
  known = omega arith;
}

pub top_same : (costs : List ℕ) (n : ℕ) (top : Option ℕ) → IsTopOf costs n top → chain_cost_at costs n ≤ cost_or_0 costs top → IsTopOf costs (n + 1) top
top_same costs n None none lower = λ k below. elim (cases_lt k n) [
  | inl under ↦ none k under
  | inr since ↦ (let e : chain_cost_at costs k ≡ chain_cost_at costs n = ap (chain_cost_at costs) (let s : k ≡ n = omega arith in s) in let l : chain_cost_at costs n ≤ 0 = lower in omega arith)
]
top_same costs n (Some i) top lower = record {
  some = top.some;
  most = λ k below. elim (cases_lt k n) [
    | inl under ↦ top.most k under
    | inr since ↦ (let e : chain_cost_at costs k ≡ chain_cost_at costs n = ap (chain_cost_at costs) (let s : k ≡ n = omega arith in s) in let l : chain_cost_at costs n ≤ chain_cost_at costs i = lower in omega arith)
  ];
  lowest = λ k below same. elim (cases_lt k n) [
    | inl under ↦ top.lowest k under same
    | inr since ↦ (let b : i < n = top.known in omega arith)
  ];
  known = (let b : i < n = top.known in omega arith);
}

pub top_known : (costs : List ℕ) (n : ℕ) (top : Option ℕ) → IsTopOf costs n top → IsNoneOrBelow (length costs) top
top_known costs n None t = tt
top_known costs n (Some i) t = elim (cases_lt i (length costs)) [
  | inl b ↦ b
  | inr past ↦ (let z : chain_cost_at costs i ≡ 0 = get_or_past costs i 0 past in let s : 0 < chain_cost_at costs i = t.some in absurd (omega arith))
]

-- the tables at first
pub none_added : (g : GraphValue) (order costs : List ℕ) (before : List (Option ℕ)) → costs ≡ replicate (length g.lines) 0 → before ≡ replicate (length g.lines) None → AreChainCosts g order costs before 0
none_added g order costs before c b =
    let zero' : (i : ℕ) → chain_cost_at costs i ≡ 0 = (λ i. ap (λ xs. chain_cost_at xs i) c ∙ replicate_at (length g.lines) i 0) in
    record {
      cost_count = ap length c ∙ length-replicate (length g.lines) 0;
      before_count = ap length b ∙ length-replicate (length g.lines) None;
      each = λ i m. absurd (none_taken order i m);
      none = λ i out. zero' i;
      few = λ i. (let z : chain_cost_at costs i ≡ 0 = zero' i in omega arith);
    }
  where
    none_taken : (order : List ℕ) (i : ℕ) → Contains (take 0 order) i → ⊥
    none_taken [] i m = contains_none i m
    none_taken (x ∷ xs) i m = contains_none i m

-- how many lines are left to walk back over, at most
abbrev pub walk_left : List ℕ → Option ℕ → ℕ
walk_left order None = 0
walk_left order (Some i) = suc (place order i)

abbrev pub IsPlannedOrNone : GraphValue → Option ℕ → Type 0
IsPlannedOrNone g None = Unit {0}
IsPlannedOrNone g (Some i) = Planned g i

module _ (g : GraphValue) (order : List ℕ) (is : IsOrder g order) (costs : List ℕ) (before : List (Option ℕ)) (h : AreChainCosts g order costs before (length order)) where
  planned_listed : (i : ℕ) → Planned g i → Contains order i
  planned_listed i planned = (is.listed i).1 planned

  earlier : (k i : ℕ) → HasEdge g k i → Planned g i → Planned g k × (place order k < place order i)
  earlier k i e planned =
      let p = place_is order i (planned_listed i planned) in
      let b : Contains (take (place order i) order) k = subst (Contains (take (place order i) order)) e.2 (is.before (place order i) p.0 e.0 e.1 (e.3 ∙ sym p.1)) in
      let u = contains_take order (place order i) k b in
      ((is.listed k).0 (subst (Contains order) u.3 (Contains-get_or order u.0 0 u.2)), place_before order (place order i) k b)

  walk_step : (top : Option ℕ) (i : ℕ) (c : List ℕ) (o : Option ℕ) → Planned g i → IsWalk before top (Some i) c → before_at before i ≡ o → IsWalk before top o (i ∷ c) × IsPlannedOrNone g o × (walk_left order o < walk_left order (Some i))
  walk_step None i c o planned w e = absurd (none-some i (sym w.0))
  walk_step (Some top) i c None planned w e = ((w.0, w.1, λ x rest is_c. (let same : i ≡ x = cc in subst (λ z. before_at before z ≡ None) same e)), tt, (let r : 0 < suc (place order i) = omega arith in r))
  walk_step (Some top) i c (Some k) planned w e =
      let b : IsBefore g costs i (Some k) = subst (IsBefore g costs i) e (chain_costs g order is costs before h i planned).1 in
      let k' = earlier k i b.0 planned in
      let f : place order k < place order i = k'.1 in
      (((e, w.0), (k ∷ w.1.0, ap (λ xs. k ∷ xs) w.1.1)), k'.0, (let r : suc (place order k) < suc (place order i) = omega arith in r))

  walk_begins : (top : Option ℕ) → IsTopOf costs (length g.lines) top → IsWalk before top top [] × IsPlannedOrNone g top × (walk_left order top ≤ length order)
  walk_begins None t = ((refl, refl), tt, (let r : 0 ≤ length order = omega arith in r))
  walk_begins (Some top) t =
      let p : Planned g top = added_planned g order is costs before h top t.some in
      let b : place order top < length order = (place_is order top (planned_listed top p)).0 in
      ((tt, ([], refl)), p, (let r : suc (place order top) ≤ length order = omega arith in r))

pub walked : (g : GraphValue) (order : List ℕ) → IsOrder g order → (costs : List ℕ) (before : List (Option ℕ)) → AreChainCosts g order costs before (length order) → (top : Option ℕ) (i : ℕ) (c : List ℕ) (o : Option ℕ) → Planned g i → IsWalk before top (Some i) c → before_at before i ≡ o →
    IsWalk before top o (i ∷ c) × IsPlannedOrNone g o × (walk_left order o < walk_left order (Some i))
walked g order is costs before h top i c o planned w e = walk_step g order is costs before h top i c o planned w e

pub walk_starts : (g : GraphValue) (order : List ℕ) → IsOrder g order → (costs : List ℕ) (before : List (Option ℕ)) → AreChainCosts g order costs before (length order) → (top : Option ℕ) → IsTopOf costs (length g.lines) top →
    IsWalk before top top [] × IsPlannedOrNone g top × (walk_left order top ≤ length order)
walk_starts g order is costs before h top t = walk_begins g order is costs before h top t

-- a line of an order is a line of the graph
pub order_line : (g : GraphValue) (order : List ℕ) → IsOrder g order → (n : ℕ) → n < length order → slice_index order n < length g.lines
order_line g order is n h = ((is.listed (slice_index order n)).0 (Contains-get_or order n 0 h)).line

-- a source of an edge into a line is a line of the graph
pub source_line : (g : GraphValue) → ((e : Edge) → Contains (edges g) e → (e.from < length g.lines) × (e.to < length g.lines)) → (i : ℕ) (es : List Edge) → es ≡ edges_into g i → (e : Edge) → Contains es e → e.from < length g.lines
source_line g between i es is e c = let k = filter_contains (λ (x : Edge). x.to == i) (edges g) e (subst (λ xs. Contains xs e) is c) in (between e k.0).0

-- the next edge of a list
pub best_next : (chain_costs : ℕ → ℕ) (es : List Edge) (n : ℕ) (best : Option (ℕ × ℕ)) (r : ℕ × ℕ) → IsBestOf chain_costs (take n es) best → n < length es → IsBetter best (slice_index_or es n no_edge).from (chain_costs (slice_index_or es n no_edge).from) r → IsBest chain_costs (take (n + 1) es) r.0 r.1
best_next chain_costs es n best r b h better = subst (λ xs. IsBest chain_costs xs r.0 r.1) (sym (take_more es n no_edge h)) (best_more chain_costs (take n es) (slice_index_or es n no_edge) best r b better)

pub best_all : (chain_costs : ℕ → ℕ) (es : List Edge) (n : ℕ) (best : Option (ℕ × ℕ)) → IsBestOf chain_costs (take n es) best → length es ≤ n → IsBestOf chain_costs es best
best_all chain_costs es n best b h = subst (λ xs. IsBestOf chain_costs xs best) (take_all n es h) b

pub walked_more : (g : GraphValue) (order : List ℕ) → IsOrder g order → (costs : List ℕ) (before : List (Option ℕ)) → AreChainCosts g order costs before (length order) → (top : Option ℕ) (i : ℕ) (lines after : List ℕ) (o : Option ℕ) → Planned g i → IsWalk before top (Some i) (reverse lines) → after ≡ lines ++ i ∷ [] → before_at before i ≡ o →
    IsWalk before top o (reverse after)
walked_more g order is costs before h top i lines after o planned w e at =
    subst (IsWalk before top o) (sym (ap reverse e ∙ reverse-append lines (i ∷ []))) (walked g order is costs before h top i (reverse lines) o planned w at).0

-- what was read from a table
pub option_read : (xs : List (Option ℕ)) (i : ℕ) (o : Option ℕ) → o ≡ slice_index_or xs i o → i < length xs → slice_index_or xs i None ≡ o
option_read [] i o e h = absurd (omega arith)
option_read (x ∷ xs) zero o e h = sym e
option_read (x ∷ xs) (suc i) o e h = option_read xs i o e (omega arith)

-- a cost fits a word
pub best_fits : (costs : List ℕ) (es : List Edge) (best : Option (ℕ × ℕ)) (c : ℕ) → ((i : ℕ) → chain_cost_at costs i ≤ 4503599627370496) → IsBestOf (chain_cost_at costs) es best → c ≤ 68719476736 → MatchOption best (c < 18446744073709551616) (λ b. b.1 + c < 18446744073709551616)
best_fits costs es None c few best small = omega arith
best_fits costs es (Some b) c few best small = let f : chain_cost_at costs b.0 ≤ 4503599627370496 = few b.0 in let e : chain_cost_at costs b.0 ≡ b.1 = best.cost in omega arith
