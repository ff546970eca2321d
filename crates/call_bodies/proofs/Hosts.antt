-- A run by a host goes along with the steps of a core.
use Rattle.std.proofs.Common.{◌≡◌, ℕ, ◌<◌, Bool, true, false, cond, inl, inr, [], length, refl, sym, ◌∙◌, ap}
use Rattle.std.specs.Prelude.{◌≢◌, ◌==◌, Contains}
use Rattle.std.proofs.lemmas.Bool.{true≢false, cases_eq, cases_Bool, eq-eqb, ne_eqb}
use Rattle.basics.proofs.ListFacts.{contains_none, list_any_agree}
use Rattle.graph_terms.specs.declared.outcome.End.{End}
use Rattle.graph_terms.specs.declared.outcome.End.TheVariants.{Cancelled}
use Rattle.graph_terms.specs.declared.outcome.Verdict.{Verdict}
use Rattle.graph_terms.specs.declared.outcome.Verdict.TheVariants.{Fine, Fault}
use Rattle.graph_terms.specs.declared.verb.Edge.{Edge}
use Rattle.graph_terms.specs.Access.{all_accesses}
use Rattle.graph_terms.specs.Edges.{edges_into}
use Rattle.graph_terms.specs.Graph.{GraphValue, is_call, line_passes, space_at}
use Rattle.graph_meaning.specs.Effect.{Cells, CellChange, Effect, Effects, cells_after}
use Rattle.graph_meaning.specs.Evaluation.{cancels, is_ended, made_by, step_by}
use Rattle.graph_meaning.specs.Laws.{IsWithinAccess, KeepsToAccesses}
use Rattle.graph_meaning.proofs.Public.{cells_after_at, cells_after_untouched}
use Rattle.run_state.specs.Run.{LineStage, Unissued, Issued, Out, Ending, Ended, stage_at, stage_ended, end_so_far, ended}
use Rattle.run_state.specs.Quiet.{kept_cancels}
use Rattle.run_core.specs.Core.{CoreValue}
use Rattle.run_core.specs.Steps.{Takes}
use Rattle.run_core.specs.Works.{WorkValue, FinishedValue}
use Rattle.host_bodies.specs.Host.{HostRun, over, IsDue, taken, ChangesOwn, with_memory, cancelled_in, done_by, put_back, IsHostRun, takes, changes, puts, passes}
use Rattle.host_bodies.proofs.Public.{steps_change_own}
use Rattle.call_bodies.specs.Bodies.{verdict_where, no_change, host_does}
use Rattle.call_bodies.specs.Driving.{Told, Mirrors, Follows, HasRun}
use Rattle.call_bodies.proofs.Cores.{GoesBack, CancelledAlike}

-- EFFECTS
within_by : (b : Bool) (e : Effect) (faults : Bool) (P : CellChange → Type 0) → ((x : CellChange) → Contains e.changes x → P x) → (x : CellChange) → Contains (cond b e (no_change faults)).changes x → P x
within_by true e faults P h x c = h x c
within_by false e faults P h x c = absurd (contains_none x c)

pub host_keeps : (g : GraphValue) (bodies : Effects) (faults : ℕ → Bool) → KeepsToAccesses g bodies → KeepsToAccesses g (host_does g bodies faults)
host_keeps g bodies faults keeps = record {
  within = λ i cells. within_by (line_passes is_call g i) (bodies i cells) (faults i) (IsWithinAccess (space_at g) (all_accesses g i)) (keeps.within i cells);
  agrees = λ i cells others same. ap (λ (e : Effect). cond (line_passes is_call g i) e (no_change (faults i))) (keeps.agrees i cells others same);
}

nothing_made : (v : Verdict) → made_by v [] ≡ []
nothing_made Fine = refl
nothing_made Fault = refl

-- STAGES
ended_is : (s : LineStage) → stage_ended s ≡ true → (x : End) × (s ≡ Ended x)
ended_is Unissued e = absurd (true≢false (sym e))
ended_is Issued e = absurd (true≢false (sym e))
ended_is Out e = absurd (true≢false (sym e))
ended_is (Ending x) e = absurd (true≢false (sym e))
ended_is (Ended x) e = (x, refl)

pub told_before : (c d : CoreValue) (faults : ℕ → Bool) → d.graph ≡ c.graph → ((k : ℕ) (x : End) → stage_at c.run.stages k ≡ Ended x → stage_at d.run.stages k ≡ Ended x) → Told d faults → Told c faults
told_before c d faults graph stays told = record {
  sure = λ k x e. told.sure k x (stays k x e);
  others = λ k x e call. told.others k x (stays k x e) (ap (λ (g : GraphValue). line_passes is_call g k) graph ∙ call);
}

false_unless : (b : Bool) → (b ≡ true → ⊥) → b ≡ false
false_unless true n = absurd (n refl)
false_unless false n = refl

-- A LINE IS TAKEN AND PUT BACK
module _ (bodies : Effects) (first : Cells) (old mid new : CoreValue) (w : WorkValue) (f : FinishedValue) (m n : Cells)
    (keeps : KeepsToAccesses old.graph bodies) (near : w.line < length old.graph.lines) (due : Takes old mid w)
    (back : GoesBack old mid new w.line f.ends) (alike : CancelledAlike old w f.ends) (has : HasRun old.graph w m bodies f n) (faults : ℕ → Bool) (told : Told new faults) where
  abbrev pub g : GraphValue
  g = old.graph

  abbrev pub i : ℕ
  i = w.line

  abbrev pub does : Effects
  does = host_does g bodies faults

  stays : (k : ℕ) (x : End) → stage_at old.run.stages k ≡ Ended x → stage_at new.run.stages k ≡ Ended x
  stays k x e = elim (cases_eq k i) [
    | inl here ↦ absurd (true≢false (sym (ap stage_ended e) ∙ (ap (λ j. stage_ended (stage_at old.run.stages j)) here ∙ ap stage_ended back.was_issued)))
    | inr other ↦ back.there k other ∙ e
  ]

  pub told_old : Told old faults
  told_old = told_before old new faults back.graph stays told

  module _ (h : HostRun) (run : IsHostRun g does first h) (mirrors : Mirrors h old m) where
    over_of : (k : ℕ) → ended old.run.stages k ≡ true → over h k ≡ true
    over_of k e =
        let s = ended_is (stage_at old.run.stages k) e in
        ap is_ended (mirrors.ends k ∙ ap end_so_far s.1) ∙ told_old.sure k s.0 s.1

    is_due : IsDue g h i
    is_due = record {
      below = near;
      comes = due.due.comes;
      here = mirrors.out i;
      left = ap is_ended (mirrors.ends i ∙ ap end_so_far back.was_issued);
      ready = λ e c to. over_of e.from (due.due.sources e.from (e, c, refl, to));
    }

    cancels_alike : cancelled_in g h i ≡ kept_cancels g old.run.stages i
    cancels_alike = list_any_agree (λ (e : Edge). cancels e.kind (h.ends e.from)) (λ (e : Edge). cancels e.kind (end_so_far (stage_at old.run.stages e.from))) (edges_into g i) (λ e c. ap (cancels e.kind) (mirrors.ends e.from))

    ends_by : (k : ℕ) (x : End) → x ≡ f.ends → (b : Bool) → (k == i) ≡ b → cond b x (h.ends k) ≡ end_so_far (stage_at new.run.stages k)
    ends_by k x is b e = elim (cases_eq k i) [
      | inl here ↦ ap (λ t. cond t x (h.ends k)) (sym e ∙ eq-eqb k i here) ∙ (is ∙ (sym (ap end_so_far back.here) ∙ sym (ap (λ j. end_so_far (stage_at new.run.stages j)) here)))
      | inr other ↦ ap (λ t. cond t x (h.ends k)) (sym e ∙ ne_eqb k i other) ∙ (mirrors.ends k ∙ sym (ap end_so_far (back.there k other)))
    ]

    -- the line is cancelled
    passed : w.is_cancelled ≡ true → (h1 : HostRun) × IsHostRun g does first h1 × Mirrors h1 new n
    passed cancelled =
        let is : f.ends ≡ Cancelled = alike.work.0 cancelled in (
          put_back h i Cancelled,
          passes h i run is_due (cancels_alike ∙ alike.kept.1 is) refl,
          record {
            ends = λ k. ends_by k Cancelled (sym is) (k == i) refl;
            out = λ k. elim (cases_Bool (k == i)) [ inl e ↦ ap (λ b. cond b false (h.out k)) e | inr e ↦ ap (λ b. cond b false (h.out k)) e ∙ mirrors.out k ];
            memory_is = λ c p. mirrors.memory_is c p ∙ sym (has.cancelled cancelled c p);
          },
        )

    -- or it runs
    module _ (runs : w.is_cancelled ≡ false) where
      not_cancelled : f.ends ≢ Cancelled
      not_cancelled e = true≢false (sym (alike.work.1 e) ∙ runs)

      kept_runs : cancelled_in g h i ≡ false
      kept_runs = cancels_alike ∙ false_unless (kept_cancels g old.run.stages i) (λ e. not_cancelled (alike.kept.0 e))

      after_take : IsHostRun g does first (taken h i)
      after_take = takes h i run (record { due = is_due; runs = kept_runs; alone = λ j c p o. absurd (true≢false (sym o ∙ mirrors.out j)) }) refl

      here_true : (i == i) ≡ true
      here_true = eq-eqb i i refl

      abbrev found : Cells
      found = (taken h i).found i

      found_is : found ≡ h.memory
      found_is = ap (λ b. cond b h.memory (h.found i)) here_true

      found_at : (c p : ℕ) → found c p ≡ m c p
      found_at c p = ap (λ (cells : Cells). cells c p) found_is ∙ mirrors.memory_is c p

      -- what the line does, by what it found
      record Does : Type 0 where
        pub ends : (done_by does (taken h i) i).ends ≡ f.ends
        pub leaves : (c p : ℕ) → n c p ≡ cells_after found (done_by does (taken h i) i).changes c p

      by_body : line_passes is_call g i ≡ true → Does
      by_body call = (
          let same : bodies i found ≡ bodies i m = keeps.agrees i found m (λ a listed mode p point. found_at a.column p) in
          let is : does i found ≡ bodies i m = ap (λ b. cond b (bodies i found) (no_change (faults i))) call ∙ same in
          let ran = has.called runs call in
          record {
            ends = ap (λ (e : Effect). (step_by i false e).ends) is ∙ sym ran.0;
            leaves = λ c p. ran.1 c p ∙ (cells_after_at m found (made_by (bodies i m).verdict (bodies i m).changes) c p (sym (found_at c p))
                ∙ sym (ap (λ (e : Effect). cells_after found (step_by i false e).changes c p) is));
          })

      by_other : line_passes is_call g i ≡ false → Does
      by_other other = (
          let is : does i found ≡ no_change (faults i) = ap (λ b. cond b (bodies i found) (no_change (faults i))) other in
          record {
            ends = ap (λ (e : Effect). (step_by i false e).ends) is ∙ elim (told.others i f.ends back.here (ap (λ (x : GraphValue). line_passes is_call x i) back.graph ∙ other)) [
              | inl cancelled ↦ absurd (not_cancelled cancelled)
              | inr same ↦ sym same
            ];
            leaves = λ c p. has.other other c p ∙ (sym (found_at c p)
                ∙ (sym (ap (λ xs. cells_after found xs c p) (nothing_made (verdict_where (faults i)))) ∙ sym (ap (λ (e : Effect). cells_after found (step_by i false e).changes c p) is)));
          })

      what_is_done : Does
      what_is_done = elim (cases_Bool (line_passes is_call g i)) [ inl call ↦ by_body call | inr other ↦ by_other other ]

      own : ChangesOwn g i (taken h i).memory n
      own c p never = what_is_done.leaves c p ∙ (cells_after_untouched found (done_by does (taken h i) i).changes c p (steps_change_own g does (host_keeps g bodies faults keeps) i false found c p never) ∙ ap (λ (cells : Cells). cells c p) found_is)

      is_out : (taken h i).out i ≡ true
      is_out = ap (λ b. cond b true (h.out i)) here_true

      changed : IsHostRun g does first (with_memory (taken h i) n)
      changed = changes (taken h i) i n after_take is_out own refl

      back_in : IsHostRun g does first (put_back (with_memory (taken h i) n) i (done_by does (with_memory (taken h i) n) i).ends)
      back_in = puts (with_memory (taken h i) n) i changed is_out (λ c p may. what_is_done.leaves c p) refl

      ran : (h1 : HostRun) × IsHostRun g does first h1 × Mirrors h1 new n
      ran = (
        put_back (with_memory (taken h i) n) i (done_by does (with_memory (taken h i) n) i).ends,
        back_in,
        record {
          ends = λ k. ends_by k (done_by does (taken h i) i).ends what_is_done.ends (k == i) refl;
          out = λ k. elim (cases_Bool (k == i)) [
            | inl e ↦ ap (λ b. cond b false (cond b true (h.out k))) e
            | inr e ↦ ap (λ b. cond b false (cond b true (h.out k))) e ∙ mirrors.out k
          ];
          memory_is = λ c p. refl;
        },
      )

  pub follows_step : Follows g bodies first old m → (h1 : HostRun) × IsHostRun g does first h1 × Mirrors h1 new n
  follows_step before =
      let b = before faults told_old in
      elim (cases_Bool w.is_cancelled) [ inl cancelled ↦ passed b.0 b.1 b.2 cancelled | inr runs ↦ ran b.0 b.1 b.2 runs ]
