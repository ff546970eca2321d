-- The sequential meaning of a flow: a line is lost exactly where it faulted, or a chain from a line that faulted leads to it.
use Rattle.std.proofs.Common.{◌≡◌, ℕ, zero, suc, ◌<◌, ◌≤◌, Bool, true, false, not, ◌&&◌, ◌⊎◌, inl, inr, [], ◌∷◌, ◌++◌, refl, sym, ◌∙◌, ap, subst, arith}
use Rattle.std.specs.Prelude.{Contains, nat_lt, ◌==◌}
use Rattle.std.proofs.lemmas.Bool.{true≢false, cases_order, cases_Bool, and_parts, and_from, ltb-true, eq-eqb, eqb-true, false_from_ne_true}
use Rattle.std.proofs.lemmas.List.Elements.{Contains-append_left, Contains-append_right, Contains-push_cases}
use Rattle.graph_terms.specs.declared.outcome.Verdict.{Verdict}
use Rattle.graph_terms.specs.declared.outcome.Verdict.TheVariants.{Fine, Fault}
use Rattle.graph_terms.specs.declared.outcome.End.{End}
use Rattle.graph_terms.specs.declared.outcome.End.TheVariants.{Faulted, Cancelled}
use Rattle.graph_terms.specs.Graph.{GraphValue}
use Rattle.graph_meaning.specs.Effect.{Effect, effect}
use Rattle.graph_meaning.specs.Evaluation.{Step, cells_of, end_by, end_in, has_ended, step_by}
use Rattle.graph_meaning.proofs.Public.{end_in-push, end_in_last}
use Rattle.basics.proofs.ListFacts.{contains_none, contains_here, some_passes, passes_some}
use Rattle.flow_order.specs.Meaning.{depends, is_lost, is_spoiled, flow_step, flow_steps, Chain, last, first}

pub step_line : (i : ℕ) (b : Bool) (e : Effect) → (step_by i b e).line ≡ i
step_line i true e = refl
step_line i false e = refl

-- a step that is not cancelled and is lost has faulted
lost_verdict : (v : Verdict) → is_lost (end_by v) ≡ true → end_by v ≡ Faulted
lost_verdict Fine h = absurd (true≢false (sym h))
lost_verdict Fault h = refl

lost_step : (i : ℕ) (b : Bool) (e : Effect) → b ≡ false → is_lost (step_by i b e).ends ≡ true → (step_by i b e).ends ≡ Faulted
lost_step i true e n h = absurd (true≢false n)
lost_step i false e n h = lost_verdict e.verdict h

module _ (f : GraphValue) (commute : Bool) where
  -- how line j ends
  abbrev pub flow_ends : ℕ → End
  flow_ends j = (flow_step f commute (flow_steps f commute j) j).ends

  abbrev pub spoiled : ℕ → Bool
  spoiled j = is_spoiled f commute (flow_steps f commute j) j

  pub stands : (n i : ℕ) → i < n → Contains (flow_steps f commute n) (flow_step f commute (flow_steps f commute i) i)
  stands zero i h = absurd (omega arith)
  stands (suc n) i h = elim (cases_order i n) [
    | inl same ↦ subst (λ k. Contains (flow_steps f commute n ++ flow_step f commute (flow_steps f commute n) n ∷ []) (flow_step f commute (flow_steps f commute k) k)) (sym same)
        (Contains-append_right (flow_steps f commute n) (flow_step f commute (flow_steps f commute n) n ∷ []) _ (contains_here _ []))
    | inr (inl below) ↦ Contains-append_left (flow_steps f commute n) (flow_step f commute (flow_steps f commute n) n ∷ []) _ (stands n i (omega arith))
    | inr (inr above) ↦ absurd (omega arith)
  ]

  stood : (n : ℕ) (s : Step) → Contains (flow_steps f commute n) s → (i : ℕ) × (i < n) × (flow_step f commute (flow_steps f commute i) i ≡ s)
  stood zero s c = absurd (contains_none s c)
  stood (suc n) s c = elim (Contains-push_cases (flow_steps f commute n) (flow_step f commute (flow_steps f commute n) n) s c) [
    | inl before ↦ (let r = stood n s before in (r.0, (let b : r.0 < n = r.1 in omega arith), r.2))
    | inr now ↦ (n, omega arith, now)
  ]

  line_of : (i : ℕ) → (flow_step f commute (flow_steps f commute i) i).line ≡ i
  line_of i = step_line i (spoiled i) (effect f i (cells_of (flow_steps f commute i)))

  pub depends_below : (i j : ℕ) → depends f commute i j ≡ true → i < j
  depends_below i j d = ltb-true i j (and_parts (nat_lt i j) _ d).0

  -- a line that depends on a lost line is cancelled
  pub spoils : (i j : ℕ) → depends f commute i j ≡ true → is_lost (flow_ends i) ≡ true → spoiled j ≡ true
  spoils i j d h = passes_some (λ (s : Step). is_lost s.ends && depends f commute s.line j) (flow_steps f commute j)
      (flow_step f commute (flow_steps f commute i) i) (stands j i (depends_below i j d))
      (and_from (is_lost (flow_ends i)) _ h (ap (λ k. depends f commute k j) (line_of i) ∙ d))

  pub spoiled_by : (j : ℕ) → spoiled j ≡ true → (i : ℕ) × (i < j) × (is_lost (flow_ends i) ≡ true) × (depends f commute i j ≡ true)
  spoiled_by j h =
      let s = some_passes (λ (s : Step). is_lost s.ends && depends f commute s.line j) (flow_steps f commute j) h in
      let i = stood j s.0 s.1 in
      let both = and_parts (is_lost s.0.ends) (depends f commute s.0.line j) s.2 in (
        i.0,
        i.1,
        ap (λ (x : Step). is_lost x.ends) i.2 ∙ both.0,
        ap (λ k. depends f commute k j) (sym (line_of i.0)) ∙ (ap (λ (x : Step). depends f commute x.line j) i.2 ∙ both.1),
      )

  pub spoiled_ends : (j : ℕ) → spoiled j ≡ true → flow_ends j ≡ Cancelled
  spoiled_ends j h = ap (λ b. (step_by j b (effect f j (cells_of (flow_steps f commute j)))).ends) h

  -- along a chain
  pub chain_spoils : {i j : ℕ} → Chain f commute i j → is_lost (flow_ends i) ≡ true → spoiled j ≡ true
  chain_spoils {i} {j} (last d) h = spoils i j d h
  chain_spoils (first {i} {k} {j} d r) h = chain_spoils r (ap is_lost (spoiled_ends k (spoils i k d h)))

  pub chain_push : {i k j : ℕ} → Chain f commute i k → depends f commute k j ≡ true → Chain f commute i j
  chain_push (last d) e = first d (last e)
  chain_push (first d r) e = first d (chain_push r e)

  pub chain_rises : {i j : ℕ} → Chain f commute i j → i < j
  chain_rises {i} {j} (last d) = depends_below i j d
  chain_rises (first {i} {k} {j} d r) = let a : i < k = depends_below i k d in let b : k < j = chain_rises r in omega arith

  -- where the loss of a line comes from
  abbrev pub FromFault : ℕ → Type 0
  FromFault j = (flow_ends j ≡ Faulted) ⊎ ((i : ℕ) × (flow_ends i ≡ Faulted) × Chain f commute i j)

  from_fault_within : (n j : ℕ) → j < n → is_lost (flow_ends j) ≡ true → FromFault j
  from_fault_within zero j h lost = absurd (omega arith)
  from_fault_within (suc n) j h lost = elim (cases_Bool (spoiled j)) [
    | inl is ↦ (let s = spoiled_by j is in let b : s.0 < j = s.1 in
        elim (from_fault_within n s.0 (omega arith) s.2) [
          | inl here ↦ inr (s.0, here, last s.3)
          | inr r ↦ inr (r.0, r.1, chain_push r.2 s.3)
        ])
    | inr not ↦ inl (lost_step j (spoiled j) (effect f j (cells_of (flow_steps f commute j))) not lost)
  ]

  pub from_fault : (j : ℕ) → spoiled j ≡ true → (i : ℕ) × (flow_ends i ≡ Faulted) × Chain f commute i j
  from_fault j h = let s = spoiled_by j h in elim (from_fault_within (suc s.0) s.0 (omega arith) s.2) [
    | inl here ↦ (s.0, here, last s.3)
    | inr r ↦ (r.0, r.1, chain_push r.2 s.3)
  ]

  flow_ended : (n i : ℕ) → i < n → has_ended (flow_steps f commute n) i ≡ true
  flow_ended n i h = passes_some (λ (s : Step). s.line == i) (flow_steps f commute n) (flow_step f commute (flow_steps f commute i) i) (stands n i h) (eq-eqb _ i (line_of i))

  flow_left : (n i : ℕ) → n ≤ i → has_ended (flow_steps f commute n) i ≡ false
  flow_left n i h = false_from_ne_true (has_ended (flow_steps f commute n) i) (λ y.
      let s = some_passes (λ (s : Step). s.line == i) (flow_steps f commute n) y in
      let k = stood n s.0 s.1 in
      let same : k.0 ≡ i = sym (line_of k.0) ∙ (ap (λ (x : Step). x.line) k.2 ∙ eqb-true s.0.line i s.2) in
      let b : k.0 < n = k.1 in
      absurd (omega arith))

  pub flow_end_is : (n i : ℕ) → i < n → end_in (flow_steps f commute n) i ≡ flow_ends i
  flow_end_is zero i h = absurd (omega arith)
  flow_end_is (suc n) i h = elim (cases_order i n) [
    | inl same ↦ end_in_last (flow_steps f commute n) (flow_step f commute (flow_steps f commute n) n) i (line_of n ∙ sym same) (flow_left n i (omega arith)) ∙ ap (λ x. flow_ends x) (sym same)
    | inr (inl below) ↦ end_in-push (flow_steps f commute n) (flow_step f commute (flow_steps f commute n) n) i (flow_ended n i (omega arith)) ∙ flow_end_is n i (omega arith)
    | inr (inr above) ↦ absurd (omega arith)
  ]
