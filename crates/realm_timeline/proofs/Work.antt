-- How much work a plan has done by each time: on each processor the time for which it ran lines.
use Rattle.std.proofs.Common.{◌≡◌, ℕ, zero, suc, ◌+◌, ◌-◌, ◌<◌, ◌≤◌, cond, inl, inr, List, [], ◌∷◌, length, refl, sym, ◌∙◌, subst, arith}
use Rattle.std.specs.Prelude.{min, ◌==◌, sum_by, Option, Some, None}
use Rattle.std.specs.Option.{option_map_or}
use Rattle.std.specs.List.{range_with_len}
use Rattle.std.proofs.lemmas.Bool.{cases_lt, cases_Bool, eq-eqb, eqb-true, ne_eqb, cond-true, cond-false}
use Rattle.std.proofs.lemmas.Option.{none-some}
use Rattle.std.proofs.lemmas.List.Sums.{sum_by-cons}
use Rattle.graph_terms.specs.Graph.{GraphValue}
use Rattle.basics.specs.Lists.{numbers_below}
use Rattle.realm_timeline.specs.declared.slot.Slot.{Slot}
use Rattle.realm_timeline.specs.Plan.{cost, slot_at, HasSlot, IsPartialPlan, planned_cost, total_cost}

-- for how long a slot has run by time t
abbrev run_by : ℕ → Slot → ℕ
run_by t s = min s.finish t - s.start

-- the same, where it is on processor q
abbrev run_on : ℕ → ℕ → Option Slot → ℕ
run_on q t None = 0
run_on q t (Some s) = cond (s.processor == q) (run_by t s) 0

abbrev work_on : ℕ → ℕ → List (Option Slot) → ℕ
work_on q t [] = 0
work_on q t (o ∷ plan) = run_on q t o + work_on q t plan

-- the work by time t on the processors below n
abbrev pub work_below : ℕ → ℕ → List (Option Slot) → ℕ
work_below zero t plan = 0
work_below (suc n) t plan = work_below n t plan + work_on n t plan

-- the work does not fall
run_on_grows : (q t : ℕ) (o : Option Slot) → run_on q t o ≤ run_on q (t + 1) o
run_on_grows q t None = omega arith
run_on_grows q t (Some s) = elim (cases_Bool (s.processor == q)) [
  | inl e ↦ (
      let a : run_on q t (Some s) ≡ run_by t s = cond-true (s.processor == q) (run_by t s) 0 e in
      let b : run_on q (t + 1) (Some s) ≡ run_by (t + 1) s = cond-true (s.processor == q) (run_by (t + 1) s) 0 e in
      omega arith)
  | inr e ↦ (let a : run_on q t (Some s) ≡ 0 = cond-false (s.processor == q) (run_by t s) 0 e in omega arith)
]

work_on_grows : (q t : ℕ) (plan : List (Option Slot)) → work_on q t plan ≤ work_on q (t + 1) plan
work_on_grows q t [] = omega arith
work_on_grows q t (o ∷ plan) =
    let a : run_on q t o ≤ run_on q (t + 1) o = run_on_grows q t o in
    let b : work_on q t plan ≤ work_on q (t + 1) plan = work_on_grows q t plan in
    omega arith

-- and rises on a processor that runs a line
runs_on : (q t : ℕ) (s : Slot) → s.processor ≡ q → s.start ≤ t → t < s.finish → run_on q t (Some s) + 1 ≤ run_on q (t + 1) (Some s)
runs_on q t s e since until =
    let a : run_on q t (Some s) ≡ run_by t s = cond-true (s.processor == q) (run_by t s) 0 (eq-eqb s.processor q e) in
    let b : run_on q (t + 1) (Some s) ≡ run_by (t + 1) s = cond-true (s.processor == q) (run_by (t + 1) s) 0 (eq-eqb s.processor q e) in
    omega arith

works_on : (q t : ℕ) (plan : List (Option Slot)) (k : ℕ) (s : Slot) → HasSlot plan k s → s.processor ≡ q → s.start ≤ t → t < s.finish → work_on q t plan + 1 ≤ work_on q (t + 1) plan
works_on q t [] k s h e since until = absurd (none-some s h)
works_on q t (o ∷ plan) zero s h e since until =
    let a : run_on q t o + 1 ≤ run_on q (t + 1) o = subst (λ x. run_on q t x + 1 ≤ run_on q (t + 1) x) (sym h) (runs_on q t s e since until) in
    let b : work_on q t plan ≤ work_on q (t + 1) plan = work_on_grows q t plan in
    omega arith
works_on q t (o ∷ plan) (suc k) s h e since until =
    let a : run_on q t o ≤ run_on q (t + 1) o = run_on_grows q t o in
    let b : work_on q t plan + 1 ≤ work_on q (t + 1) plan = works_on q t plan k s h e since until in
    omega arith

-- processor q runs a line at time t
pub record IsBusy (plan : List (Option Slot)) (t q : ℕ) : Type 0 where
  pub line : ℕ
  pub slot : Slot
  pub has : HasSlot plan line slot
  pub on : slot.processor ≡ q
  pub since : slot.start ≤ t
  pub until : t < slot.finish

work_grows : (n t : ℕ) (plan : List (Option Slot)) → work_below n t plan ≤ work_below n (t + 1) plan
work_grows zero t plan = omega arith
work_grows (suc n) t plan =
    let a : work_below n t plan ≤ work_below n (t + 1) plan = work_grows n t plan in
    let b : work_on n t plan ≤ work_on n (t + 1) plan = work_on_grows n t plan in
    omega arith

-- where all processors below n are busy the work rises by n
pub all_work : (n t : ℕ) (plan : List (Option Slot)) → ((q : ℕ) → q < n → IsBusy plan t q) → work_below n t plan + n ≤ work_below n (t + 1) plan
all_work zero t plan busy = omega arith
all_work (suc n) t plan busy =
    let a : work_below n t plan + n ≤ work_below n (t + 1) plan = all_work n t plan (λ q below. busy q (omega arith)) in
    let here : IsBusy plan t n = busy n (omega arith) in
    let b : work_on n t plan + 1 ≤ work_on n (t + 1) plan = works_on n t plan here.line here.slot here.has here.on here.since here.until in
    omega arith

-- and where one is, by 1
pub one_works : (n t q : ℕ) (plan : List (Option Slot)) → q < n → IsBusy plan t q → work_below n t plan + 1 ≤ work_below n (t + 1) plan
one_works zero t q plan below here = absurd (omega arith)
one_works (suc n) t q plan below here = elim (cases_lt q n) [
  | inl lower ↦ (
      let a : work_below n t plan + 1 ≤ work_below n (t + 1) plan = one_works n t q plan lower here in
      let b : work_on n t plan ≤ work_on n (t + 1) plan = work_on_grows n t plan in
      omega arith)
  | inr since ↦ (
      let e : q ≡ n = omega arith in
      let a : work_below n t plan ≤ work_below n (t + 1) plan = work_grows n t plan in
      let b : work_on n t plan + 1 ≤ work_on n (t + 1) plan = works_on n t plan here.line here.slot here.has (here.on ∙ e) here.since here.until in
      omega arith)
]

-- the work of one slot on the processors below n
abbrev share : ℕ → ℕ → Option Slot → ℕ
share zero t o = 0
share (suc n) t o = share n t o + run_on n t o

share_none : (n t : ℕ) → share n t None ≡ 0
share_none zero t = refl
share_none (suc n) t = let a : share n t None ≡ 0 = share_none n t in omega arith

share_past : (n t : ℕ) (s : Slot) → n ≤ s.processor → share n t (Some s) ≡ 0
share_past zero t s h = refl
share_past (suc n) t s h =
    let a : share n t (Some s) ≡ 0 = share_past n t s (omega arith) in
    let b : run_on n t (Some s) ≡ 0 = cond-false (s.processor == n) (run_by t s) 0 (ne_eqb s.processor n (λ e. absurd (omega arith))) in
    omega arith

share_within : (n t : ℕ) (s : Slot) → share n t (Some s) ≤ s.finish - s.start
share_within zero t s = omega arith
share_within (suc n) t s = elim (cases_Bool (s.processor == n)) [
  | inl e ↦ (
      let at : s.processor ≡ n = eqb-true s.processor n e in
      let a : share n t (Some s) ≡ 0 = share_past n t s (omega arith) in
      let b : run_on n t (Some s) ≡ run_by t s = cond-true (s.processor == n) (run_by t s) 0 e in
      omega arith)
  | inr e ↦ (
      let a : share n t (Some s) ≤ s.finish - s.start = share_within n t s in
      let b : run_on n t (Some s) ≡ 0 = cond-false (s.processor == n) (run_by t s) 0 e in
      omega arith)
]

work_first : (n t : ℕ) (o : Option Slot) (plan : List (Option Slot)) → work_below n t (o ∷ plan) ≡ share n t o + work_below n t plan
work_first zero t o plan = refl
work_first (suc n) t o plan = let a : work_below n t (o ∷ plan) ≡ share n t o + work_below n t plan = work_first n t o plan in omega arith

work_none : (n t : ℕ) → work_below n t [] ≡ 0
work_none zero t = refl
work_none (suc n) t = let a : work_below n t [] ≡ 0 = work_none n t in omega arith

-- it is at most the costs of the lines, added up
share_cost : (g : GraphValue) (n t i : ℕ) (o : Option Slot) → ((s : Slot) → o ≡ Some s → s.finish ≡ s.start + cost g i) → share n t o ≤ option_map_or (λ (s : Slot). cost g i) o 0
share_cost g n t i None is = let a : share n t None ≡ 0 = share_none n t in omega arith
share_cost g n t i (Some s) is =
    let a : share n t (Some s) ≤ s.finish - s.start = share_within n t s in
    let b : s.finish ≡ s.start + cost g i = is s refl in
    omega arith

work_cost : (g : GraphValue) (n t lo : ℕ) (plan : List (Option Slot)) (h : ℕ → ℕ) → ((i : ℕ) → share n t (slot_at plan i) ≤ h (lo + i)) → work_below n t plan ≤ sum_by h (range_with_len lo (length plan))
work_cost g n t lo [] h is = let a : work_below n t [] ≡ 0 = work_none n t in omega arith
work_cost g n t lo (o ∷ plan) h is =
    let a : work_below n t (o ∷ plan) ≡ share n t o + work_below n t plan = work_first n t o plan in
    let here : share n t o ≤ h lo = subst (λ x. share n t o ≤ h x) (let e : lo + 0 ≡ lo = omega arith in e) (is 0) in
    let rest : work_below n t plan ≤ sum_by h (range_with_len (lo + 1) (length plan)) =
    work_cost g n t (lo + 1) plan h (λ i. subst (λ x. share n t (slot_at plan i) ≤ h x) (let e : lo + suc i ≡ (lo + 1) + i = omega arith in e) (is (suc i))) in
    let b : sum_by h (range_with_len lo (length (o ∷ plan))) ≡ h lo + sum_by h (range_with_len (lo + 1) (length plan)) = sum_by-cons h lo (range_with_len (lo + 1) (length plan)) in
    omega arith

pub work_within : (g : GraphValue) (processors n t : ℕ) (plan : List (Option Slot)) → IsPartialPlan g processors plan → work_below n t plan ≤ total_cost g plan
work_within g processors n t plan is =
    subst (λ m. work_below n t plan ≤ sum_by (planned_cost g plan) (numbers_below m)) is.each_line
    (work_cost g n t 0 plan (planned_cost g plan) (λ i. subst (λ x. share n t (slot_at plan i) ≤ planned_cost g plan x) (let e : i ≡ 0 + i = omega arith in e)
    (share_cost g n t i (slot_at plan i) (λ s h. is.finish i s h))))
