-- What a run leaves that has come to its end.
use Rattle.std.proofs.Common.{◌≡◌, ℕ, ◌+◌, ◌<◌, ◌≤◌, Bool, true, false, ◌⊎◌, inl, inr, length, map, refl, sym, ◌∙◌, ap, subst, arith}
use Rattle.std.specs.Prelude.{slice_index_or}
use Rattle.std.proofs.lemmas.Bool.{true≢false, cases_Bool, cases_lt}
use Rattle.std.proofs.lemmas.List.{get_or_past}
use Rattle.std.proofs.lemmas.List.FromFn.{get_or-map-range_with_len, length-map-range_with_len}
use Rattle.basics.proofs.ListFacts.{same_at}
use Rattle.basics.specs.Lists.{numbers_below}
use Rattle.graph_terms.specs.declared.outcome.End.{End}
use Rattle.graph_terms.specs.declared.outcome.End.TheVariants.{Done, Faulted, Cancelled, Waiting}
use Rattle.graph_terms.specs.declared.outcome.Outcome.{Outcome}
use Rattle.graph_terms.specs.Graph.{GraphValue}
use Rattle.graph_meaning.specs.Effect.{Cells, Effects, zero_cells}
use Rattle.graph_meaning.specs.Evaluation.{is_ended, end_by, end_with, cells_with, evaluation_with, outcome_with}
use Rattle.graph_meaning.specs.Laws.{KeepsToAccesses, WaitsWhereReachedWith}
use Rattle.graph_meaning.proofs.Public.{ended_lines_stand}
use Rattle.run_state.specs.Run.{LineStage, Unissued, Issued, Out, Ending, Ended, stage_at, stage_over, stage_ended, kept_end, end_so_far, over, ended}
use Rattle.run_state.specs.Start.{start}
use Rattle.run_state.specs.Quiet.{ByTimes, IsLawfulWith}
use Rattle.run_state.specs.Verdicts.{effect_by}
use Rattle.run_core.specs.Core.{CoreValue, IsCore, MayFault, Tells, has_faulted, kept_faults, unissued_for_host}
use Rattle.run_core.specs.Finishing.{IsQuiet}
use Rattle.host_bodies.specs.Host.{HostRun, begun, IsHostRun, begins}
use Rattle.host_bodies.specs.Host as host
use Rattle.host_bodies.specs.Laws.{HostAgrees, HostLeavesEvaluation, HasAllEnded}
use Rattle.call_bodies.specs.Bodies.{verdict_where, host_does, end_of, faulted_in}
use Rattle.call_bodies.specs.Driving.{Told, Mirrors, Follows, GoesOn}
use Rattle.call_bodies.proofs.Cores.{tells_itself, before_itself, may_before}
use Rattle.call_bodies.proofs.Hosts.{host_keeps}

-- BEFORE ANY LINE IS ISSUED
none_issued : (g : GraphValue) (k : ℕ) → stage_at (start g).stages k ≡ Unissued
none_issued g k = same_at Unissued (length g.lines) k

pub follows_first : (g : GraphValue) (slots : ℕ) (bodies : Effects) (m : Cells) → Follows g bodies m (unissued_for_host g slots) m
follows_first g slots bodies m faults told = (
  begun m,
  begins refl,
  record { ends = λ k. sym (ap end_so_far (none_issued g k)); out = λ k. refl; memory_is = λ c p. refl },
)

-- ENDS
waiting_is : (x : End) → is_ended x ≡ false → x ≡ Waiting
waiting_is Done e = absurd (true≢false e)
waiting_is Faulted e = absurd (true≢false e)
waiting_is Cancelled e = absurd (true≢false e)
waiting_is Waiting e = refl

told_by : (x : End) → is_ended x ≡ true → (x ≡ Cancelled) ⊎ (x ≡ end_by (verdict_where (has_faulted x)))
told_by Done e = inr refl
told_by Faulted e = inr refl
told_by Cancelled e = inl refl
told_by Waiting e = absurd (true≢false (sym e))

-- a line that is not over waits, and one that is over has ended
shown_by : (s : LineStage) (x : End) → (stage_over s ≡ true → stage_ended s ≡ true) → ((y : End) → s ≡ Ended y → x ≡ y) → (stage_ended s ≡ false → x ≡ Waiting) → x ≡ end_so_far s
shown_by Unissued x over is waits = waits refl
shown_by Issued x over is waits = waits refl
shown_by Out x over is waits = waits refl
shown_by (Ending y) x over is waits = absurd (true≢false (sym (over refl)))
shown_by (Ended y) x over is waits = is y refl

module _ (c : CoreValue) (o : Outcome) (core : IsCore c) (hosted : c.hosted ≡ true) (quiet : IsQuiet c.graph c.run)
    (evaluated : (faults : ℕ → Bool) → MayFault c faults → o ≡ outcome_with (effect_by faults c.graph) zero_cells c.graph o.trace)
    (in_order : (faults : ℕ → Bool) → MayFault c faults → IsLawfulWith (effect_by faults c.graph) c.graph o.trace)
    (times : ByTimes c.run o.trace) where
  abbrev pub g : GraphValue
  g = c.graph

  may : MayFault c (kept_faults c)
  may = may_before c c hosted hosted (before_itself c)

  abbrev end_at : ℕ → End
  end_at k = end_with (effect_by (kept_faults c) g) zero_cells g k

  ended_there : (k : ℕ) → ended c.run.stages k ≡ true → is_ended (end_at k) ≡ true
  ended_there k e = ((in_order (kept_faults c) may).lists.ended k).0 ((times.listed k).1 e)

  there_ended : (k : ℕ) → is_ended (end_at k) ≡ true → ended c.run.stages k ≡ true
  there_ended k e = (times.listed k).0 (((in_order (kept_faults c) may).lists.ended k).1 e)

  end_is : (k : ℕ) (x : End) → stage_at c.run.stages k ≡ Ended x → end_at k ≡ x
  end_is k x e = core.sound.on_lines.ends k x (ap kept_end e)

  stage_shows : (k : ℕ) → end_at k ≡ end_so_far (stage_at c.run.stages k)
  stage_shows k = shown_by (stage_at c.run.stages k) (end_at k) (quiet.none_ending k) (end_is k) (λ e. elim (cases_Bool (is_ended (end_at k))) [
    | inl t ↦ absurd (true≢false (sym (there_ended k t) ∙ e))
    | inr f ↦ waiting_is (end_at k) f
  ])

  -- how each line ended in the outcome
  pub end_shown : (k : ℕ) → end_of o k ≡ end_so_far (stage_at c.run.stages k)
  end_shown k = ap (λ (p : Outcome). slice_index_or p.ends k Waiting) (evaluated (kept_faults c) may) ∙ elim (cases_lt k (length g.lines)) [
    | inl near ↦ get_or-map-range_with_len end_at 0 (length g.lines) k k Waiting near (let e : 0 + k ≡ k = omega arith in e) ∙ stage_shows k
    | inr past ↦ get_or_past (map end_at (numbers_below (length g.lines))) k Waiting (subst (λ m. m ≤ k) (sym (length-map-range_with_len end_at 0 (length g.lines))) past)
        ∙ sym (ap end_so_far (get_or_past c.run.stages k Unissued (subst (λ m. m ≤ k) (sym core.sound.on_lines.each_line) past)))
  ]

  -- the calls that faulted in it
  pub may_told : MayFault c (faulted_in o)
  may_told = record {
    none = λ e. absurd (true≢false (sym hosted ∙ e));
    told = λ i h l. subst (λ x. Tells (end_so_far (stage_at c.run.stages i)) (has_faulted x)) (sym (end_shown i)) (tells_itself (end_so_far (stage_at c.run.stages i)));
  }

  sure : (k : ℕ) (x : End) → stage_at c.run.stages k ≡ Ended x → is_ended x ≡ true
  sure k x e = ap is_ended (sym (end_is k x e)) ∙ ended_there k (ap stage_ended e)

  told : Told c (faulted_in o)
  told = record {
    «sure» = sure;
    others = λ k x e call. subst (λ y. (x ≡ Cancelled) ⊎ (x ≡ end_by (verdict_where (has_faulted y)))) (sym (end_shown k ∙ ap end_so_far e)) (told_by x (sure k x e));
  }

  module _ (waits : WaitsWhereReachedWith) (agrees : HostAgrees) (leaves : HostLeavesEvaluation) (bodies : Effects) (keeps : KeepsToAccesses g bodies) (m n : Cells) (follows : Follows g bodies m c n) where
    abbrev pub does : Effects
    does = host_does g bodies (faulted_in o)

    abbrev h : HostRun
    h = (follows (faulted_in o) told).0

    run : IsHostRun g does m h
    run = (follows (faulted_in o) told).1

    mirrors : Mirrors h c n
    mirrors = (follows (faulted_in o) told).2

    -- which lines end rests on no effects
    ends_here : (k : ℕ) → is_ended (end_with does m g k) ≡ true → is_ended (end_at k) ≡ true
    ends_here k e = elim (cases_Bool (is_ended (end_at k))) [
      | inl t ↦ t
      | inr f ↦ absurd (
          let near : k < length g.lines = ended_lines_stand does m g k e in
          let reached = (waits (effect_by (kept_faults c) g) zero_cells g k core.sound.graph core.sound.accepted.acyclic near).0 (waiting_is (end_at k) f) in
          let waiting : end_with does m g k ≡ Waiting = (waits does m g k core.sound.graph core.sound.accepted.acyclic near).1 reached in
          true≢false (sym e ∙ ap is_ended waiting))
    ]

    over_shown : (k : ℕ) → host.over h k ≡ is_ended (end_at k)
    over_shown k = ap is_ended (mirrors.ends k ∙ sym (stage_shows k))

    all : HasAllEnded g does m h
    all = record { none_out = mirrors.out; all_over = λ k e. over_shown k ∙ ends_here k e }

    pub memory_left : (v p : ℕ) → n v p ≡ cells_with m (evaluation_with does m g) v p
    memory_left v p = sym (mirrors.memory_is v p) ∙ leaves g does m h core.sound.graph core.sound.accepted (host_keeps g bodies (faulted_in o) keeps) run all v p

    pub ends_left : (k : ℕ) → end_of o k ≡ end_with does m g k
    ends_left k = end_shown k ∙ (sym (mirrors.ends k) ∙ elim (cases_Bool (host.over h k)) [
      | inl t ↦ (agrees g does m h core.sound.graph core.sound.accepted (host_keeps g bodies (faulted_in o) keeps) run).ends k t
      | inr f ↦ waiting_is (h.ends k) f ∙ sym (waiting_is (end_with does m g k) (elim (cases_Bool (is_ended (end_with does m g k))) [
        | inl e ↦ absurd (true≢false (sym (over_shown k ∙ ends_here k e) ∙ f))
        | inr e ↦ e
      ]))
    ])

-- A WHOLE RUN
module _ (g : GraphValue) (slots : ℕ) (old c : CoreValue) (o : Outcome) (m n : Cells) (x y : GraphValue → Effects) (is : old ≡ unissued_for_host g slots) (goes : GoesOn old m x c n y)
    (keeps : KeepsToAccesses g (x g)) (core : IsCore c) (quiet : IsQuiet c.graph c.run)
    (evaluated : (faults : ℕ → Bool) → MayFault c faults → o ≡ outcome_with (effect_by faults c.graph) zero_cells c.graph o.trace)
    (in_order : (faults : ℕ → Bool) → MayFault c faults → IsLawfulWith (effect_by faults c.graph) c.graph o.trace)
    (times : ByTimes c.run o.trace) where
  graph : c.graph ≡ g
  graph = goes.graph ∙ ap (λ (v : CoreValue). v.graph) is

  may_have : MayFault c (faulted_in o)
  may_have = may_told c o core goes.host.hosted quiet evaluated in_order times

  pub evaluated_in_all : o ≡ outcome_with (effect_by (faulted_in o) g) zero_cells g o.trace
  evaluated_in_all = subst (λ h. o ≡ outcome_with (effect_by (faulted_in o) h) zero_cells h o.trace) graph (evaluated (faulted_in o) may_have)

  pub in_order_in_all : IsLawfulWith (effect_by (faulted_in o) g) g o.trace
  in_order_in_all = subst (λ h. IsLawfulWith (effect_by (faulted_in o) h) h o.trace) graph (in_order (faulted_in o) may_have)

  keeps_there : KeepsToAccesses c.graph (x c.graph)
  keeps_there = subst (λ h. KeepsToAccesses h (x h)) (sym graph) keeps

  follows_there : Follows c.graph (x c.graph) m c n
  follows_there = subst (λ h. Follows h (x h) m c n) (sym goes.graph)
      (goes.follows m (subst (λ (v : CoreValue). KeepsToAccesses v.graph (x v.graph)) (sym is) keeps) (subst (λ (v : CoreValue). Follows v.graph (x v.graph) m v m) (sym is) (follows_first g slots (x g) m)))

  module _ (waits : WaitsWhereReachedWith) (agrees : HostAgrees) (leaves : HostLeavesEvaluation) where
    pub memory_in_all : (v p : ℕ) → n v p ≡ cells_with m (evaluation_with (host_does g (x g) (faulted_in o)) m g) v p
    memory_in_all v p = subst (λ h. n v p ≡ cells_with m (evaluation_with (host_does h (x h) (faulted_in o)) m h) v p) graph
        (memory_left c o core goes.host.hosted quiet evaluated in_order times waits agrees leaves (x c.graph) keeps_there m n follows_there v p)

    pub ends_in_all : (k : ℕ) → end_of o k ≡ end_with (host_does g (x g) (faulted_in o)) m g k
    ends_in_all k = subst (λ h. end_of o k ≡ end_with (host_does h (x h) (faulted_in o)) m h k) graph
        (ends_left c o core goes.host.hosted quiet evaluated in_order times waits agrees leaves (x c.graph) keeps_there m n follows_there k)
