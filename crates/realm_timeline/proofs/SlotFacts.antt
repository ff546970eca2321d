-- What the slots of a plan say.
use Rattle.std.proofs.Common.{◌≡◌, ℕ, zero, suc, ◌+◌, ◌<◌, ◌≤◌, ◌⊎◌, inl, inr, List, [], ◌∷◌, length, refl, sym, ◌∙◌, ap, subst, arith}
use Rattle.std.specs.Prelude.{max, Option, Some, None}
use Rattle.std.proofs.lemmas.Bool.{cases_lt}
use Rattle.std.proofs.lemmas.Option.{none-some, same_Some}
use Rattle.std.proofs.lemmas.List.Sums.{sum_by-cons}
use Rattle.graph_terms.specs.Graph.{GraphValue}
use Rattle.graph_meaning.specs.Path.{HasPath}
use Rattle.graph_meaning.specs.Rules.{Accepted}
use Rattle.graph_terms.specs.Fits.{IsGraph}
use Rattle.graph_meaning.proofs.Public.{back_path}
use Rattle.graph_terms.proofs.Public.{one_release}
use Rattle.realm_timeline.specs.declared.slot.Slot.{Slot}
use Rattle.realm_timeline.specs.Plan.{cost, Planned, HasSlot, IsPartialPlan, IsPlan, finish_or_0, plan_length, FinishedBy, IsValid, IsReadyAt}
use Rattle.realm_timeline.specs.Chains.{IsChain, chain_cost}

-- a line has one slot
pub one_slot : (plan : List (Option Slot)) (i : ℕ) (s t : Slot) → HasSlot plan i s → HasSlot plan i t → s ≡ t
one_slot plan i s t h k = same_Some s t (sym h ∙ k)

-- a line with a slot is a place of the plan
pub slot_below : (plan : List (Option Slot)) (i : ℕ) (s : Slot) → HasSlot plan i s → i < length plan
slot_below [] i s h = absurd (none-some s h)
slot_below (o ∷ plan) zero s h = omega arith
slot_below (o ∷ plan) (suc i) s h = let r : i < length plan = slot_below plan i s h in omega arith

-- each slot takes time
pub takes_time : (g : GraphValue) (processors : ℕ) (plan : List (Option Slot)) → IsPartialPlan g processors plan → (i : ℕ) (s : Slot) → HasSlot plan i s → s.start < s.finish
takes_time g processors plan is i s h = let f : s.finish ≡ s.start + cost g i = is.finish i s h in omega arith

-- a finish is within the length, and one of them is the length
pub finish_within : (plan : List (Option Slot)) (i : ℕ) (s : Slot) → HasSlot plan i s → s.finish ≤ plan_length plan
finish_within [] i s h = absurd (none-some s h)
finish_within (o ∷ plan) zero s h = let e : finish_or_0 o ≡ s.finish = ap finish_or_0 h in omega arith
finish_within (o ∷ plan) (suc i) s h = let r : s.finish ≤ plan_length plan = finish_within plan i s h in omega arith

-- a plan is as long as 0, or as one of its lines takes
abbrev pub IsReached : List (Option Slot) → ℕ → Type 0
IsReached plan n = (n ≡ 0) ⊎ ((i : ℕ) × (s : Slot) × HasSlot plan i s × (s.finish ≡ n))

reached_more : (o : Option Slot) (plan : List (Option Slot)) (n : ℕ) → IsReached plan n → IsReached (o ∷ plan) n
reached_more o plan n (inl e) = inl e
reached_more o plan n (inr r) = inr (suc r.0, r.1, r.2, r.3)

pub length_reached : (plan : List (Option Slot)) → IsReached plan (plan_length plan)
length_reached [] = inl refl
length_reached (None ∷ plan) = subst (IsReached (None ∷ plan)) (let e : plan_length plan ≡ max 0 (plan_length plan) = omega arith in e) (reached_more None plan (plan_length plan) (length_reached plan))
length_reached (Some s ∷ plan) = elim (cases_lt s.finish (plan_length plan)) [
  | inl below ↦ subst (IsReached (Some s ∷ plan)) (let e : plan_length plan ≡ max s.finish (plan_length plan) = omega arith in e) (reached_more (Some s) plan (plan_length plan) (length_reached plan))
  | inr above ↦ subst (IsReached (Some s ∷ plan)) (let e : s.finish ≡ max s.finish (plan_length plan) = omega arith in e) (inr (zero, s, refl, refl))
]

-- what has finished by a time has finished by a later one
pub finished_later : (plan : List (Option Slot)) (t u i : ℕ) → FinishedBy plan t i → t ≤ u → FinishedBy plan u i
finished_later plan t u i f h = let b : f.0.finish ≤ t = f.2 in (f.0, f.1, omega arith)

-- where a line has finished, each line with a path to it has
pub path_finished : (g : GraphValue) (processors : ℕ) (plan : List (Option Slot)) → IsPartialPlan g processors plan → IsValid g plan → (t i j : ℕ) → HasPath g i j → FinishedBy plan t j → FinishedBy plan t i
path_finished g processors plan is v t i j path f = back_path (FinishedBy plan t)
    (λ e c to. let within : to.0.finish ≤ t = to.2 in
    let takes : to.0.start < to.0.finish = takes_time g processors plan is e.to to.0 to.1 in
    finished_later plan to.0.start t e.from (v.sources e c to.0 to.1) (omega arith)) path f

-- a line that starts is ready
pub ready_at_start : (g : GraphValue) (processors : ℕ) (plan : List (Option Slot)) → IsGraph g → Accepted g → IsPartialPlan g processors plan → IsValid g plan → (i : ℕ) (s : Slot) → HasSlot plan i s → IsReadyAt g plan s.start i
ready_at_start g processors plan graph accepted is v i s h = record {
  planned = is.planned i s h;
  waits = λ s' h'. let e : s.start ≡ s'.start = ap (λ (x : Slot). x.start) (one_slot plan i s s' h h') in omega arith;
  sources = λ e c to. v.sources e c s (subst (λ x. HasSlot plan x s) (sym to) h);
  unheld = λ k excludes t hk before. elim (v.sections i k excludes s t h hk) [
    | inl mine ↦ (
        let r = accepted.released i excludes.lock excludes.one in
        let same : mine.0 ≡ r.0 = one_release g graph i mine.0 r.0 mine.1 r.1 in
        let f : FinishedBy plan t.start i = path_finished g processors plan is v t.start i mine.0 (subst (HasPath g i) (sym same) r.2) mine.2 in
        let at : f.0 ≡ s = one_slot plan i f.0 s f.1 h in
        let e : f.0.finish ≡ s.finish = ap (λ (x : Slot). x.finish) at in
        let w : f.0.finish ≤ t.start = f.2 in
        let takes : s.start < s.finish = takes_time g processors plan is i s h in
        absurd (omega arith))
    | inr other ↦ other
  ];
}

-- the first line of a chain is planned
pub first_planned : (g : GraphValue) (i : ℕ) (rest : List ℕ) → IsChain g (i ∷ rest) → Planned g i
first_planned g i [] c = c
first_planned g i (j ∷ rest) c = c.0

-- from the start of its first line on, a chain fits in a valid plan
chain_fits : (g : GraphValue) (processors : ℕ) (plan : List (Option Slot)) → IsPlan g processors plan → IsValid g plan → (i : ℕ) (rest : List ℕ) → IsChain g (i ∷ rest) →
    (s : Slot) → HasSlot plan i s → s.start + chain_cost g (i ∷ rest) ≤ plan_length plan
chain_fits g processors plan is v i [] c s h =
    let f : s.finish ≡ s.start + cost g i = is.some.finish i s h in
    let w : s.finish ≤ plan_length plan = finish_within plan i s h in
    let e : chain_cost g (i ∷ []) ≡ cost g i + 0 = sum_by-cons (cost g) i [] in
    omega arith
chain_fits g processors plan is v i (j ∷ rest) c s h =
    let f : s.finish ≡ s.start + cost g i = is.some.finish i s h in
    let next = is.all j (first_planned g j rest c.2) in
    let again : next.0.start + chain_cost g (j ∷ rest) ≤ plan_length plan = chain_fits g processors plan is v j rest c.2 next.0 next.1 in
    let edge = c.1 in
    let done : FinishedBy plan next.0.start edge.0.from = v.sources edge.0 edge.1 next.0 (subst (λ x. HasSlot plan x next.0) (sym edge.3) next.1) in
    let same : done.0 ≡ s = one_slot plan i done.0 s (subst (λ x. HasSlot plan x done.0) edge.2 done.1) h in
    let at : done.0.finish ≡ s.finish = ap (λ (x : Slot). x.finish) same in
    let w : done.0.finish ≤ next.0.start = done.2 in
    let e : chain_cost g (i ∷ j ∷ rest) ≡ cost g i + chain_cost g (j ∷ rest) = sum_by-cons (cost g) i (j ∷ rest) in
    omega arith

-- a valid plan is at least as long as each chain
pub plans_are_as_long_as_chains : (g : GraphValue) (processors : ℕ) (plan : List (Option Slot)) (c : List ℕ) → IsPlan g processors plan → IsValid g plan → IsChain g c → chain_cost g c ≤ plan_length plan
plans_are_as_long_as_chains g processors plan [] is v c = omega arith
plans_are_as_long_as_chains g processors plan (i ∷ rest) is v c =
    let s = is.all i (first_planned g i rest c) in
    let fits : s.0.start + chain_cost g (i ∷ rest) ≤ plan_length plan = chain_fits g processors plan is v i rest c s.0 s.1 in
    omega arith
