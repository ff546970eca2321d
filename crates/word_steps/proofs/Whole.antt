-- A seat that every seat split off was joined into is the only one. Then no line is out or ending, and the run is at rest.
use Rattle.std.proofs.Common.{◌≡◌, ℕ, zero, suc, ◌<◌, true, inl, inr, List, [], ◌∷◌, refl, sym, ◌∙◌, ap, subst, arith, ⊎_elim}
use Rattle.std.specs.Prelude.{Contains, None}
use Rattle.std.proofs.lemmas.Bool.{true≢false, cases_eq}
use mathlib.Core.Option.{some, some-injective, some-ne-none}
use lib.ListN.{get_elem?}
use Rattle.graph_terms.specs.Graph.{GraphValue}
use Rattle.basics.specs.Sums.{total, only}
use Rattle.shared_events.specs.declared.events.Events.{Events}
use Rattle.basics.proofs.Sums.{terms_le, term_le}
use Rattle.basics.proofs.ListFacts.{contains_here}
use Rattle.run_state.specs.Run.{LineStage, Unissued, Issued, Out, Ending, Ended, Had, stage_at, place_at, stage_out, stage_over, stage_ended, stage_started}
use Rattle.run_state.specs.AtRest.{AtRest}
use Rattle.word_steps.specs.declared.view.View.{View}
use Rattle.word_steps.specs.Views.{claim_at, runs_at, number_at, issues_at, late_at, owes_at, turn_of, has_issue_turn, busy}
use Rattle.word_steps.specs.Rule.{AreNumbered, Shown}
use Rattle.word_steps.specs.Premises.{HasNoRights}
use Rattle.word_steps.proofs.Steps.{St}
use Rattle.word_steps.proofs.Issues.{some_weight}
use Rattle.word_steps.proofs.Numbers.{mine_at, split_at, weighs_in, in_weighs, only_other}

-- every seat that was split off was joined
pub record IsWhole (v : View) : Type 0 where
  pub first : Contains v.mine 0
  pub each : (n : ℕ) → Contains v.splits n → Contains v.mine n

module _ (vs : List View) (o : AreNumbered vs) (id : ℕ) (v : View) (me : get_elem? vs id ≡ some v) (whole : IsWhole v) where
  -- a number of this seat is no other's
  not_twice : (n j : ℕ) (u : View) → (j ≡ id → ⊥) → get_elem? vs j ≡ some u → Contains v.mine n → Contains u.mine n → ⊥
  not_twice n j u other at mine theirs =
      let a = terms_le (mine_at n) vs id j v u other me at in
      let b = in_weighs n v.mine mine in
      let c = in_weighs n u.mine theirs in
      let d = o.once n in
      absurd (omega (arith, a, b, c, d))

  none_below : (m n j : ℕ) (u : View) → n < m → (j ≡ id → ⊥) → get_elem? vs j ≡ some u → Contains u.mine n → ⊥
  none_below zero n j u low other at has = absurd (omega (arith, low))
  none_below (suc m) zero j u low other at has = not_twice 0 j u other at whole.first has
  none_below (suc m) (suc n) j u low other at has =
      let c = o.counted (only (suc n)) in
      let z = only_other (suc n) 0 (λ q. absurd (omega (arith, q))) in
      let t = term_le (mine_at (suc n)) vs j u at in
      let w = in_weighs (suc n) u.mine has in
      ⊎_elim (λ none_split. absurd (omega (arith, c, z, t, w, none_split)))
      (λ (r : (k : ℕ) × (x : View) × (get_elem? vs k ≡ some x) × (0 < split_at (suc n) x)).
      let in_splits = weighs_in (suc n) r.1.splits r.3 in
      elim (cases_eq r.0 id) [
        | inl q ↦ not_twice (suc n) j u other at (whole.each (suc n) (subst (λ (x : View). Contains x.splits (suc n)) (some-injective r.1 v (sym r.2 ∙ (ap (λ k. get_elem? vs k) q ∙ me))) in_splits)) has
        | inr far ↦ (let a = o.above r.0 r.1 (suc n) r.2 in_splits in none_below m a.0 r.0 r.1 (let b = a.2 in omega (arith, b, low)) far r.2 a.1)
      ])
      (some_weight (split_at (suc n)) vs)

  empty : (u : View) (l : List ℕ) → u.mine ≡ l → ((n : ℕ) → Contains u.mine n → ⊥) → u.mine ≡ []
  empty u [] q none_in = q
  empty u (n ∷ ns) q none_in = absurd (none_in n (subst (λ l. Contains l n) (sym q) (contains_here n ns)))

  pub alone : (j : ℕ) (u : View) → (j ≡ id → ⊥) → get_elem? vs j ≡ some u → u.mine ≡ []
  alone j u other at = empty u u.mine refl (λ n c. none_below (suc n) n j u (omega arith) other at c)

-- a sum of which only one view has a part
all_zero : (f : View → ℕ) (vs : List View) → ((j : ℕ) (u : View) → get_elem? vs j ≡ some u → f u ≡ 0) → total f vs ≡ 0
all_zero f [] z = refl
all_zero f (x ∷ xs) z = omega (arith, z 0 x refl, all_zero f xs (λ j u at. z (suc j) u at))

pub sum_alone : (f : View → ℕ) (vs : List View) (id : ℕ) (v : View) → get_elem? vs id ≡ some v → ((j : ℕ) (u : View) → (j ≡ id → ⊥) → get_elem? vs j ≡ some u → f u ≡ 0) → total f vs ≡ f v
sum_alone f [] id v me z = absurd (some-ne-none v (sym me))
sum_alone f (x ∷ xs) zero v me z = omega (arith, all_zero f xs (λ j u at. z (suc j) u (λ q. absurd (omega (arith, q))) at), ap f (some-injective x v me))
sum_alone f (x ∷ xs) (suc id) v me z = omega (arith, z 0 x (λ q. absurd (omega (arith, q))) refl, sum_alone f xs id v me (λ j u n at. z (suc j) u (λ q. n (omega (arith, q))) at))

-- a line whose work nobody has is ended where it has started
pub idle_out : (s : LineStage) → busy s ≡ 0 → stage_out s ≡ true → ⊥
idle_out Unissued b h = true≢false (sym h)
idle_out Issued b h = true≢false (sym h)
idle_out Out b h = absurd (omega (arith, b))
idle_out (Ending x) b h = true≢false (sym h)
idle_out (Ended x) b h = true≢false (sym h)

pub idle_ended : (s : LineStage) → busy s ≡ 0 → stage_started s ≡ true → stage_ended s ≡ true
idle_ended Unissued b h = absurd (true≢false (sym h))
idle_ended Issued b h = absurd (true≢false (sym h))
idle_ended Out b h = absurd (omega (arith, b))
idle_ended (Ending x) b h = absurd (omega (arith, b))
idle_ended (Ended x) b h = refl

over_starts : (s : LineStage) → stage_over s ≡ true → stage_started s ≡ true
over_starts Unissued h = h
over_starts Issued h = h
over_starts Out h = refl
over_starts (Ending x) h = refl
over_starts (Ended x) h = refl

-- what holds where one seat without rights is the only one
pub record Rests (g : GraphValue) (e : Events) (s : St) (o : Shown g e s) : Type 0 where
  pub idle : (i : ℕ) → busy (stage_at o.run.stages i) ≡ 0
  pub none_issuing : (i : ℕ) → total (issues_at i) s.views ≡ 0
  pub none_owing : (i : ℕ) → total (owes_at i) s.views ≡ 0
  pub issue_turn_home : total has_issue_turn s.views ≡ 0
  pub at_rest : AtRest g o.run
  pub at_home : (c i : ℕ) → place_at o.run.places c ≡ Had i → ⊥

module _ (g : GraphValue) (e : Events) (s : St) (o : Shown g e s) (id : ℕ) (v : View) (me : get_elem? s.views id ≡ some v) (whole : IsWhole v) (free : HasNoRights v) where
  others : (j : ℕ) (u : View) → (j ≡ id → ⊥) → get_elem? s.views j ≡ some u → (u.claim ≡ None) × (u.issuing ≡ None) × (u.issue_turn ≡ None)
  others j u n at = (o.each_view j u at).idle (alone s.views o.numbers id v me whole j u n at)

  idle_of : (i : ℕ) → busy (stage_at o.run.stages i) ≡ 0
  idle_of i = sym (o.works i) ∙ (sum_alone (runs_at i) s.views id v me (λ j u n at. ap (claim_at i) (others j u n at).0) ∙ ap (claim_at i) free.claim)

  pub rests : Rests g e s o
  rests = record {
    idle = idle_of;
    none_issuing = λ i. sum_alone (issues_at i) s.views id v me (λ j u n at. ap (number_at i) (others j u n at).1) ∙ ap (number_at i) free.issuing;
    none_owing = λ i. sum_alone (owes_at i) s.views id v me (λ j u n at. ap (late_at i) (others j u n at).0) ∙ ap (late_at i) free.claim;
    issue_turn_home = sum_alone has_issue_turn s.views id v me (λ j u n at. ap turn_of (others j u n at).2) ∙ ap turn_of free.issue_turn;
    at_rest = record {
      none_ending = λ i h. idle_ended (stage_at o.run.stages i) (idle_of i) (over_starts (stage_at o.run.stages i) h);
      back_ended = λ c i h. idle_ended (stage_at o.run.stages i) (idle_of i) (o.sound.on_columns.back_started c i h);
      arrived_ended = λ i h. idle_ended (stage_at o.run.stages i) (idle_of i) (o.sound.on_phases.arrived_started i h);
      freed_ended = λ r h. idle_ended (stage_at o.run.stages r) (idle_of r) (over_starts (stage_at o.run.stages r) (o.sound.on_locks.freed_over r h));
      out_has = λ i c h. absurd (idle_out (stage_at o.run.stages i) (idle_of i) h);
      out_holds = λ i l h. absurd (idle_out (stage_at o.run.stages i) (idle_of i) h);
      out_untimed = λ i h. absurd (idle_out (stage_at o.run.stages i) (idle_of i) h);
    };
    at_home = λ c i h. idle_out (stage_at o.run.stages i) (idle_of i) (o.sound.on_columns.had_out c i h);
  }
