-- Without reservations the processors of a greedy plan are busy, but for at most the time of one chain.
use Rattle.std.proofs.Common.{◌≡◌, ℕ, zero, suc, ◌+◌, ◌-◌, ◌*◌, ◌<◌, ◌≤◌, ◌⊎◌, inl, inr, List, [], ◌∷◌, ◌++◌, length, refl, sym, ◌∙◌, ap, subst, arith}
use Rattle.std.specs.Prelude.{Contains, Option, Some, None}
use Rattle.std.proofs.lemmas.Bool.{cases_lt, cases_eq}
use Rattle.std.proofs.lemmas.Option.{none-some}
use Rattle.graph_terms.specs.declared.verb.Edge.{Edge}
use Rattle.graph_terms.specs.Graph.{GraphValue}
use Rattle.graph_terms.specs.Edges.{edges}
use Rattle.basics.proofs.ListFacts.{contains_none, contains_cases, contains_here, contains_there}
use Rattle.realm_timeline.specs.declared.slot.Slot.{Slot}
use Rattle.realm_timeline.specs.Plan.{cost, slot_at, HasSlot, IsPlan, plan_length, total_cost, FinishedBy, IsValid, IsMoment, IsReadyAt, IsFreeFor, MayStart, StartsAt, IsGreedy}
use Rattle.realm_timeline.specs.Chains.{IsChain, chain_cost, IsCritical}
use Rattle.realm_timeline.specs.Laws.{AcquiresNone}
use Rattle.realm_timeline.proofs.SlotFacts.{one_slot, slot_below, takes_time, finished_later, length_reached}
use Rattle.realm_timeline.proofs.ChainFacts.{chain_push, chain_cost_push}
use Rattle.realm_timeline.proofs.Work.{work_below, IsBusy, all_work, one_works, work_within}

-- n times more
times_more : (n a b : ℕ) → n * (a + b) ≡ n * a + n * b
times_more n a b = omega arith

times_suc : (n d : ℕ) → n * suc d ≡ n * d + n
times_suc n d = omega arith

-- a processor is free for line i at time t, or it is busy then
abbrev IsFreeAt : List (Option Slot) → ℕ → ℕ → ℕ → ℕ → Slot → Type 0
IsFreeAt plan t i q k s = (s.start < t → s.finish ≤ t) × (s.start ≡ t → i ≤ k)

abbrev FreeBelow : List (Option Slot) → ℕ → ℕ → ℕ → ℕ → Type 0
FreeBelow plan t i q n = (k : ℕ) (s : Slot) → k < n → HasSlot plan k s → s.processor ≡ q → IsFreeAt plan t i q k s

free_more : (plan : List (Option Slot)) (t i q n : ℕ) → FreeBelow plan t i q n → ((s : Slot) → HasSlot plan n s → s.processor ≡ q → IsFreeAt plan t i q n s) → FreeBelow plan t i q (suc n)
free_more plan t i q n below here k s h has on = elim (cases_lt k n) [
  | inl lower ↦ below k s lower has on
  | inr since ↦ (let e : k ≡ n = omega arith in subst (λ x. IsFreeAt plan t i q x s) (sym e) (here s (subst (λ x. HasSlot plan x s) e has) on))
]

-- of one slot
one_free : (plan : List (Option Slot)) → ((k : ℕ) (s : Slot) → HasSlot plan k s → s.start < s.finish) → (t i q k : ℕ) (s : Slot) → HasSlot plan k s → s.processor ≡ q → IsFreeAt plan t i q k s ⊎ IsBusy plan t q
one_free plan takes t i q k s h on = elim (cases_lt s.start t) [
  | inl before ↦ elim (cases_lt t s.finish) [
    | inl runs ↦ inr (record { line = k; slot = s; has = h; on = on; since = omega arith; until = runs })
    | inr done ↦ inl (λ b. done, λ e. absurd (omega arith))
  ]
  | inr since ↦ elim (cases_lt t s.start) [
    | inl later ↦ inl (λ b. absurd (omega arith), λ e. absurd (omega arith))
    | inr at ↦ (let long : s.start < s.finish = takes k s h in inr (record { line = k; slot = s; has = h; on = on; since = at; until = omega arith }))
  ]
]

one_free_by : (plan : List (Option Slot)) → ((k : ℕ) (s : Slot) → HasSlot plan k s → s.start < s.finish) → (t i q n : ℕ) → FreeBelow plan t i q n → (o : Option Slot) → slot_at plan n ≡ o → FreeBelow plan t i q (suc n) ⊎ IsBusy plan t q
one_free_by plan takes t i q n below None e = inl (free_more plan t i q n below (λ s h on. absurd (none-some s (sym e ∙ h))))
one_free_by plan takes t i q n below (Some s) e = elim (cases_eq s.processor q) [
  | inl on ↦ elim (one_free plan takes t i q n s e on) [
    | inl free ↦ inl (free_more plan t i q n below (λ r h on_r. subst (IsFreeAt plan t i q n) (one_slot plan n s r e h) free))
    | inr busy ↦ inr busy
  ]
  | inr off ↦ inl (free_more plan t i q n below (λ r h on_r. absurd (off (ap (λ (x : Slot). x.processor) (one_slot plan n s r e h) ∙ on_r))))
]

free_below : (plan : List (Option Slot)) → ((k : ℕ) (s : Slot) → HasSlot plan k s → s.start < s.finish) → (t i q n : ℕ) → FreeBelow plan t i q n ⊎ IsBusy plan t q
free_below plan takes t i q zero = inl (λ k s h has on. absurd (omega arith))
free_below plan takes t i q (suc n) = elim (free_below plan takes t i q n) [
  | inl below ↦ one_free_by plan takes t i q n below (slot_at plan n) refl
  | inr busy ↦ inr busy
]

pub free_or_busy : (plan : List (Option Slot)) → ((k : ℕ) (s : Slot) → HasSlot plan k s → s.start < s.finish) → (t i q : ℕ) → IsFreeFor plan t i q ⊎ IsBusy plan t q
free_or_busy plan takes t i q = elim (free_below plan takes t i q (length plan)) [
  | inl free ↦ inl (record {
    before = λ k s h on. (free k s (slot_below plan k s h) h on).0;
    beside = λ k s h on. (free k s (slot_below plan k s h) h on).1;
  })
  | inr busy ↦ inr busy
]

-- the time at which the last of some sources of line i finishes, or 0
record IsLatest (plan : List (Option Slot)) (es : List Edge) (i t : ℕ) : Type 0 where
  from : (t ≡ 0) ⊎ ((e : Edge) × Contains es e × (e.to ≡ i) × (s : Slot) × HasSlot plan e.from s × (s.finish ≡ t))
  all : (e : Edge) → Contains es e → e.to ≡ i → FinishedBy plan t e.from

from_more : (plan : List (Option Slot)) (x : Edge) (es : List Edge) (i t : ℕ) → (t ≡ 0) ⊎ ((e : Edge) × Contains es e × (e.to ≡ i) × (s : Slot) × HasSlot plan e.from s × (s.finish ≡ t)) →
    (t ≡ 0) ⊎ ((e : Edge) × Contains (x ∷ es) e × (e.to ≡ i) × (s : Slot) × HasSlot plan e.from s × (s.finish ≡ t))
from_more plan x es i t (inl e) = inl e
from_more plan x es i t (inr r) = inr (r.0, contains_there x es r.0 r.1, r.2, r.3, r.4, r.5)

latest : (plan : List (Option Slot)) (i : ℕ) (es : List Edge) → ((e : Edge) → Contains es e → e.to ≡ i → (s : Slot) × HasSlot plan e.from s) → (t : ℕ) × IsLatest plan es i t
latest plan i [] have = (0, record { from = inl refl; all = λ e c to. absurd (contains_none e c) })
latest plan i (x ∷ es) have =
    let r = latest plan i es (λ e c to. have e (contains_there x es e c) to) in
    elim (cases_eq x.to i) [
      | inl to ↦ (
          let s = have x (contains_here x es) to in
          elim (cases_lt r.0 s.0.finish) [
            | inl later ↦ (
              s.0.finish,
              record {
                from = inr (x, contains_here x es, to, s.0, s.1, refl);
                all = λ e c to_e. elim (contains_cases x es e c) [
                  | inl same ↦ (s.0, subst (λ (z : Edge). HasSlot plan z.from s.0) same s.1, omega arith)
                  | inr rest ↦ finished_later plan r.0 s.0.finish e.from (r.1.all e rest to_e) (omega arith)
                ];
              },
            )
            | inr sooner ↦ (
              r.0,
              record {
                from = from_more plan x es i r.0 r.1.from;
                all = λ e c to_e. elim (contains_cases x es e c) [
                  | inl same ↦ (s.0, subst (λ (z : Edge). HasSlot plan z.from s.0) same s.1, sooner)
                  | inr rest ↦ r.1.all e rest to_e
                ];
              },
            )
          ])
      | inr other ↦ (
        r.0,
        record {
          from = from_more plan x es i r.0 r.1.from;
          all = λ e c to_e. elim (contains_cases x es e c) [
            | inl same ↦ absurd (other (ap (λ (z : Edge). z.to) same ∙ to_e))
            | inr rest ↦ r.1.all e rest to_e
          ];
        },
      )
    ]

-- a chain up to line i, by whose time the plan has done so much work that it is short
abbrev IsShortAt : GraphValue → List (Option Slot) → ℕ → ℕ → ℕ → Type 0
IsShortAt g plan n i t = (front : List ℕ) × IsChain g (front ++ i ∷ []) × (n * t + t ≤ work_below (suc n) t plan + n * chain_cost g (front ++ i ∷ []))

module _ (g : GraphValue) (n : ℕ) (plan : List (Option Slot)) (none : AcquiresNone g) (is : IsPlan g (suc n) plan) (valid : IsValid g plan) (greedy : IsGreedy g (suc n) plan) where
  takes : (k : ℕ) (s : Slot) → HasSlot plan k s → s.start < s.finish
  takes k s h = takes_time g (suc n) plan is.some k s h

  -- between the finish of its last source and its start, a line waits for processors that are all busy
  busy_at : (i : ℕ) (s : Slot) → HasSlot plan i s → (t : ℕ) → IsMoment plan t → ((e : Edge) → Contains (edges g) e → e.to ≡ i → FinishedBy plan t e.from) → t < s.start →
      (q : ℕ) → q < suc n → IsBusy plan t q
  busy_at i s h t moment sources before q below = elim (free_or_busy plan takes t i q) [
    | inl free ↦ (
        let ready : IsReadyAt g plan t i = record {
          planned = is.some.planned i s h;
          waits = λ r k. (let e : s.start ≡ r.start = ap (λ (x : Slot). x.start) (one_slot plan i s r h k) in omega arith);
          sources = sources;
          unheld = λ k excludes. absurd (none i excludes.lock excludes.one);
        } in
        let may : MayStart g (suc n) plan t i = record { processor = q; known = below; free = free; first = λ k excludes. absurd (none i excludes.lock excludes.one) } in
        let starts : StartsAt plan t i = (greedy.each t i moment ready).1 may in
        let e : s.start ≡ starts.0.start = ap (λ (x : Slot). x.start) (one_slot plan i s starts.0 h starts.1) in
        let at : starts.0.start ≡ t = starts.2 in
        absurd (omega arith))
    | inr busy ↦ busy
  ]

  busy_from : (i : ℕ) (s : Slot) → HasSlot plan i s → (late : ℕ) → IsMoment plan late → ((e : Edge) → Contains (edges g) e → e.to ≡ i → FinishedBy plan late e.from) →
      (d : ℕ) → late + d < s.start → (q : ℕ) → q < suc n → IsBusy plan (late + d) q
  busy_from i s h late moment sources zero before q below =
      let same : late ≡ late + 0 = omega arith in
      subst (λ t. IsBusy plan t q) same (busy_at i s h late moment sources (omega arith) q below)
  busy_from i s h late moment sources (suc d) before q below =
      let busy : IsBusy plan (late + d) q = busy_from i s h late moment sources d (omega arith) q below in
      let until : late + d < busy.slot.finish = busy.until in
      let since : busy.slot.start ≤ late + d = busy.since in
      elim (cases_eq busy.slot.finish (late + suc d)) [
        | inl at ↦ busy_at i s h (late + suc d) (inr (busy.line, busy.slot, busy.has, at)) (λ e c to. finished_later plan late (late + suc d) e.from (sources e c to) (omega arith)) before q below
        | inr past ↦ elim (cases_lt (late + suc d) busy.slot.finish) [
          | inl later ↦ record { line = busy.line; slot = busy.slot; has = busy.has; on = busy.on; since = omega arith; until = later }
          | inr sooner ↦ absurd (past (omega arith))
        ]
      ]

  -- so the work grows by all processors
  grows : (late d : ℕ) → ((k : ℕ) → k < d → (q : ℕ) → q < suc n → IsBusy plan (late + k) q) → work_below (suc n) late plan + (n * d + d) ≤ work_below (suc n) (late + d) plan
  grows late zero busy =
      let same : late ≡ late + 0 = omega arith in
      subst (λ t. work_below (suc n) late plan + (n * 0 + 0) ≤ work_below (suc n) t plan) same (omega arith)
  grows late (suc d) busy =
      let again : work_below (suc n) late plan + (n * d + d) ≤ work_below (suc n) (late + d) plan = grows late d (λ k below. busy k (omega arith)) in
      let one : work_below (suc n) (late + d) plan + suc n ≤ work_below (suc n) ((late + d) + 1) plan = all_work (suc n) (late + d) plan (busy d (omega arith)) in
      let m : n * suc d ≡ n * d + n = times_suc n d in
      let same : (late + d) + 1 ≡ late + suc d = omega arith in
      subst (λ t. work_below (suc n) late plan + (n * suc d + suc d) ≤ work_below (suc n) t plan) same (omega arith)

  -- and while a line runs, by one
  runs : (i : ℕ) (s : Slot) → HasSlot plan i s → (d : ℕ) → s.start + d ≤ s.finish → work_below (suc n) s.start plan + d ≤ work_below (suc n) (s.start + d) plan
  runs i s h zero within =
      let same : s.start ≡ s.start + 0 = omega arith in
      subst (λ t. work_below (suc n) s.start plan + 0 ≤ work_below (suc n) t plan) same (omega arith)
  runs i s h (suc d) within =
      let again : work_below (suc n) s.start plan + d ≤ work_below (suc n) (s.start + d) plan = runs i s h d (omega arith) in
      let below : s.processor < suc n = is.some.processor i s h in
      let one : work_below (suc n) (s.start + d) plan + 1 ≤ work_below (suc n) ((s.start + d) + 1) plan =
      one_works (suc n) (s.start + d) s.processor plan below (record { line = i; slot = s; has = h; on = refl; since = omega arith; until = omega arith }) in
      let same : (s.start + d) + 1 ≡ s.start + suc d = omega arith in
      subst (λ t. work_below (suc n) s.start plan + suc d ≤ work_below (suc n) t plan) same (omega arith)

  moment_of : (i t : ℕ) → (t ≡ 0) ⊎ ((e : Edge) × Contains (edges g) e × (e.to ≡ i) × (s : Slot) × HasSlot plan e.from s × (s.finish ≡ t)) → IsMoment plan t
  moment_of i t (inl e) = inl e
  moment_of i t (inr r) = inr (r.0.from, r.3, r.4, r.5)

  -- from the finish of its last source to its own a line waits for all processors, and then runs
  waited : (i : ℕ) (s : Slot) → HasSlot plan i s → (late : ℕ) → IsLatest plan (edges g) i late → late ≤ s.start →
      work_below (suc n) late plan + (n * (s.start - late) + (s.start - late)) + cost g i ≤ work_below (suc n) s.finish plan
  waited i s h late last within =
      let fin : s.finish ≡ s.start + cost g i = is.some.finish i s h in
      let to_start : late + (s.start - late) ≡ s.start = omega arith in
      let grown : work_below (suc n) late plan + (n * (s.start - late) + (s.start - late)) ≤ work_below (suc n) s.start plan =
      subst (λ t. work_below (suc n) late plan + (n * (s.start - late) + (s.start - late)) ≤ work_below (suc n) t plan) to_start
      (grows late (s.start - late) (λ k below. busy_from i s h late (moment_of i late last.from) last.all k (omega arith))) in
      let ran : work_below (suc n) s.start plan + cost g i ≤ work_below (suc n) s.finish plan =
      subst (λ t. work_below (suc n) s.start plan + cost g i ≤ work_below (suc n) t plan) (sym fin) (runs i s h (cost g i) (omega arith)) in
      omega arith

  short_by : (m i : ℕ) (s : Slot) → HasSlot plan i s → s.start < m → IsShortAt g plan n i s.finish
  short_by zero i s h below = absurd (omega arith)
  short_by (suc m) i s h below =
      let sources = λ (e : Edge) (c : Contains (edges g) e) (to : e.to ≡ i). valid.sources e c s (subst (λ x. HasSlot plan x s) (sym to) h) in
      let last = latest plan i (edges g) (λ e c to. ((sources e c to).0, (sources e c to).1)) in
      let fin : s.finish ≡ s.start + cost g i = is.some.finish i s h in
      elim last.1.from [
        | inl zero_is ↦ (
            let e : last.0 ≡ 0 = zero_is in
            let w : work_below (suc n) last.0 plan + (n * (s.start - last.0) + (s.start - last.0)) + cost g i ≤ work_below (suc n) s.finish plan = waited i s h last.0 last.1 (omega arith) in
            let m1 : n * s.finish ≡ n * s.start + n * cost g i = ap (λ x. n * x) fin ∙ times_more n s.start (cost g i) in
            let m2 : n * (s.start - last.0) ≡ n * s.start = ap (λ x. n * x) (let k : s.start - last.0 ≡ s.start = omega arith in k) in
            let c : chain_cost g (i ∷ []) ≡ cost g i = (let k : chain_cost g (i ∷ []) ≡ 0 + cost g i = chain_cost_push g [] i in omega arith) in
            let m3 : n * chain_cost g (i ∷ []) ≡ n * cost g i = ap (λ x. n * x) c in
            ([], is.some.planned i s h, (let goal : n * s.finish + s.finish ≤ work_below (suc n) s.finish plan + n * chain_cost g (i ∷ []) = omega arith in goal)))
        | inr r ↦ (
            let f : FinishedBy plan s.start r.0.from = sources r.0 r.1 r.2 in
            let same : f.0 ≡ r.3 = one_slot plan r.0.from f.0 r.3 f.1 r.4 in
            let at : r.3.finish ≡ last.0 = r.5 in
            let e : f.0.finish ≡ r.3.finish = ap (λ (x : Slot). x.finish) same in
            let done : f.0.finish ≤ s.start = f.2 in
            let long : r.3.start < r.3.finish = takes r.0.from r.3 r.4 in
            let again : IsShortAt g plan n r.0.from r.3.finish = short_by m r.0.from r.3 r.4 (omega arith) in
            let chain : IsChain g ((again.0 ++ r.0.from ∷ []) ++ i ∷ []) = chain_push g again.0 r.0.from i again.1 (r.0, r.1, refl, r.2) (is.some.planned i s h) in
            let w : work_below (suc n) last.0 plan + (n * (s.start - last.0) + (s.start - last.0)) + cost g i ≤ work_below (suc n) s.finish plan = waited i s h last.0 last.1 (omega arith) in
            let c : chain_cost g ((again.0 ++ r.0.from ∷ []) ++ i ∷ []) ≡ chain_cost g (again.0 ++ r.0.from ∷ []) + cost g i = chain_cost_push g (again.0 ++ r.0.from ∷ []) i in
            let m1 : n * s.finish ≡ n * s.start + n * cost g i = ap (λ x. n * x) fin ∙ times_more n s.start (cost g i) in
            let m2 : n * s.start ≡ n * last.0 + n * (s.start - last.0) = ap (λ x. n * x) (let k : s.start ≡ last.0 + (s.start - last.0) = omega arith in k) ∙ times_more n last.0 (s.start - last.0) in
            let m3 : n * chain_cost g ((again.0 ++ r.0.from ∷ []) ++ i ∷ []) ≡ n * chain_cost g (again.0 ++ r.0.from ∷ []) + n * cost g i = ap (λ x. n * x) c ∙ times_more n (chain_cost g (again.0 ++ r.0.from ∷ [])) (cost g i) in
            let before : n * last.0 + last.0 ≤ work_below (suc n) last.0 plan + n * chain_cost g (again.0 ++ r.0.from ∷ []) =
            subst (λ t. n * t + t ≤ work_below (suc n) t plan + n * chain_cost g (again.0 ++ r.0.from ∷ [])) at again.2 in
            (again.0 ++ r.0.from ∷ [], chain, (let goal : n * s.finish + s.finish ≤ work_below (suc n) s.finish plan + n * chain_cost g ((again.0 ++ r.0.from ∷ []) ++ i ∷ []) = omega arith in goal)))
      ]

  short : (c : List ℕ) → IsCritical g c → n * plan_length plan + plan_length plan ≤ total_cost g plan + n * chain_cost g c
  short c critical = elim (length_reached plan) [
    | inl e ↦ (let m : n * plan_length plan ≡ n * 0 = ap (λ x. n * x) e in omega arith)
    | inr r ↦ (
        let s : IsShortAt g plan n r.0 r.1.finish = short_by (suc r.1.start) r.0 r.1 r.2 (omega arith) in
        let at : r.1.finish ≡ plan_length plan = r.3 in
        let b : n * plan_length plan + plan_length plan ≤ work_below (suc n) (plan_length plan) plan + n * chain_cost g (s.0 ++ r.0 ∷ []) =
        subst (λ t. n * t + t ≤ work_below (suc n) t plan + n * chain_cost g (s.0 ++ r.0 ∷ [])) at s.2 in
        let w : work_below (suc n) (plan_length plan) plan ≤ total_cost g plan = work_within g (suc n) (suc n) (plan_length plan) plan is.some in
        let most : chain_cost g (s.0 ++ r.0 ∷ []) ≤ chain_cost g c = critical.costliest (s.0 ++ r.0 ∷ []) s.1 in
        let m : n * chain_cost g (s.0 ++ r.0 ∷ []) ≤ n * chain_cost g c = times_le n (chain_cost g (s.0 ++ r.0 ∷ [])) (chain_cost g c) most in
        omega arith)
  ]
    where
      times_le : (n a b : ℕ) → a ≤ b → n * a ≤ n * b
      times_le n a b h =
          let k : b ≡ a + (b - a) = omega arith in
          let m : n * b ≡ n * a + n * (b - a) = ap (λ x. n * x) k ∙ times_more n a (b - a) in
          omega arith

short_at : (g : GraphValue) (n : ℕ) (plan : List (Option Slot)) (c : List ℕ) → AcquiresNone g → IsPlan g (suc n) plan → IsValid g plan → IsGreedy g (suc n) plan → IsCritical g c →
    suc n * plan_length plan ≤ total_cost g plan + (suc n - 1) * chain_cost g c
short_at g n plan c none is valid greedy critical =
    let s : n * plan_length plan + plan_length plan ≤ total_cost g plan + n * chain_cost g c = short g n plan none is valid greedy c critical in
    let m : suc n * plan_length plan ≡ n * plan_length plan + plan_length plan = omega arith in
    let k : (suc n - 1) * chain_cost g c ≡ n * chain_cost g c = ap (λ x. x * chain_cost g c) (let e : suc n - 1 ≡ n = omega arith in e) in
    omega arith

pub greedy_plans_are_short : (g : GraphValue) (processors : ℕ) (plan : List (Option Slot)) (c : List ℕ) → 0 < processors → AcquiresNone g → IsPlan g processors plan → IsValid g plan → IsGreedy g processors plan → IsCritical g c →
    processors * plan_length plan ≤ total_cost g plan + (processors - 1) * chain_cost g c
greedy_plans_are_short g zero plan c some none is valid greedy critical = absurd (omega arith)
greedy_plans_are_short g (suc n) plan c some none is valid greedy critical = short_at g n plan c none is valid greedy critical
