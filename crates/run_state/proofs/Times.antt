-- A line that draws its time keeps the state sound.
use Rattle.std.proofs.Common.{◌≡◌, ℕ, ◌+◌, ◌<◌, true, false, ◌⊎◌, inl, inr, List, length, refl, sym, ◌∙◌, ap, subst, length-set, arith}
use Rattle.std.specs.Prelude.{◌≢◌, Option, Some, None, is_some, slice_set}
use Rattle.std.proofs.lemmas.List.{get_or-set_same, get_or-set_other}
use Rattle.std.proofs.lemmas.Bool.{true≢false, cases_eq, cases_order}
use Rattle.std.proofs.lemmas.Option.{none-some, same_Some}
use Rattle.graph_terms.specs.declared.outcome.End.TheVariants.{Cancelled}
use Rattle.graph_terms.specs.Graph.{GraphValue}
use Rattle.graph_meaning.specs.Path.{last}
use Rattle.graph_terms.specs.Reservations.{Acquires, Releases, both_shared}
use Rattle.graph_meaning.specs.Evaluation.{end_with}
use Rattle.run_state.specs.Run.{Run, is_listed, stage_at, time_at, list_at, started, over, ended, timed}
use Rattle.run_state.specs.Sound.{SoundLocksWith, SoundTimesWith, SoundWith}
use Rattle.run_state.specs.Moves.{draw}
use Rattle.basics.proofs.ListFacts.{one_more_counted}
use Rattle.run_state.proofs.Lists.{each_set, stage_there, out_started, out_not_ended, started_issued}
use Rattle.basics.proofs.Choices.{some_is, is_some_of}
use Rattle.run_state.specs.Premises.{MayDrawWith}
use Rattle.graph_meaning.specs.Effect.{Effects, zero_cells}

module _ {does : Effects} (g : GraphValue) (run : Run) (s : SoundWith does g run) (i : ℕ) (m : MayDrawWith does g run i) where
  there : i < length run.times
  there = subst (λ n. i < n) (s.on_lines.each_line ∙ sym s.on_times.each_time) (stage_there run.stages i (started_issued (stage_at run.stages i) (out_started (stage_at run.stages i) m.is_out)))

  drawn : List (Option ℕ)
  drawn = slice_set run.times i (Some run.clock)

  -- a time is the new one, or stood before
  time_cases : (k t : ℕ) → time_at drawn k ≡ Some t → ((k ≡ i) × (run.clock ≡ t)) ⊎ (time_at run.times k ≡ Some t)
  unfolding drawn
  time_cases = each_set (λ k o. (t : ℕ) → o ≡ Some t → ((k ≡ i) × (run.clock ≡ t)) ⊎ (time_at run.times k ≡ Some t)) run.times None i (Some run.clock) there
      (λ t e. inl (refl, same_Some run.clock t e)) (λ k ne t e. inr e)

  -- and those that stood before stand
  time_stays : (k t : ℕ) → time_at run.times k ≡ Some t → time_at drawn k ≡ Some t
  unfolding drawn
  time_stays k t e = get_or-set_other run.times i k (Some run.clock) None (λ same. none-some t (sym m.untimed ∙ (ap (time_at run.times) (sym same) ∙ e))) ∙ e

  earlier : (k t : ℕ) → time_at run.times k ≡ Some t → t < run.clock
  earlier = s.on_times.below_clock

  section_before : (l q t : ℕ) → Acquires g q l → Acquires g i l → both_shared g q i ≡ false → end_with does zero_cells g q ≢ Cancelled → end_with does zero_cells g i ≢ Cancelled → time_at run.times q ≡ Some t →
      (r u : ℕ) × Releases g r q × (time_at drawn r ≡ Some u) × (u < run.clock)
  section_before l q t aq ai apart nq ni e = elim (s.on_locks.timed_holds l q aq (is_some_of (time_at run.times q) t e) nq) [
    | inl held ↦ elim (cases_eq q i) [
      | inl same ↦ absurd (none-some t (sym m.untimed ∙ (ap (time_at run.times) (sym same) ∙ e)))
      | inr ne ↦ absurd (true≢false (sym (s.on_locks.holder_alone l q i held (m.holds l ai ni) ne) ∙ apart))
    ]
    | inr f ↦ (let u = some_is (time_at run.times f.0) (s.on_times.over_timed f.0 (s.on_locks.freed_over f.0 f.2)) in
        (f.0, u.0, f.1, time_stays f.0 u.0 u.1, earlier f.0 u.0 u.1))
  ]

  draw_times : SoundTimesWith does g run.stages drawn (run.clock + 1)
  unfolding drawn
  draw_times =
      let t = s.on_times in
      record {
        each_time = length-set run.times i (Some run.clock) ∙ t.each_time;
        over_timed = each_set (λ k o. over run.stages k ≡ true → is_some o ≡ true) run.times None i (Some run.clock) there (λ h. refl) (λ k ne. t.over_timed k);
        timed_started = each_set (λ k o. is_some o ≡ true → started run.stages k ≡ true) run.times None i (Some run.clock) there (λ h. out_started (stage_at run.stages i) m.is_out) (λ k ne. t.timed_started k);
        below_clock = λ k u e. elim (time_cases k u e) [
          | inl new ↦ (let x : run.clock ≡ u = new.1 in omega arith)
          | inr old ↦ (let x : u < run.clock = earlier k u old in omega arith)
        ];
        distinct = λ k j u ek ej. elim (time_cases k u ek) [
          | inl new ↦ elim (time_cases j u ej) [
            | inl both ↦ new.0 ∙ sym both.0
            | inr old ↦ (let x : u < run.clock = earlier j u old in let y : run.clock ≡ u = new.1 in absurd (omega arith))
          ]
          | inr old ↦ elim (time_cases j u ej) [
            | inl new ↦ (let x : u < run.clock = earlier k u old in let y : run.clock ≡ u = new.1 in absurd (omega arith))
            | inr both ↦ t.distinct k j u old both
          ]
        ];
        all_drawn = λ u less. elim (cases_order u run.clock) [
          | inl now ↦ (i, get_or-set_same run.times i (Some run.clock) None there ∙ ap Some (sym now))
          | inr (inl below) ↦ (let k = t.all_drawn u below in (k.0, time_stays k.0 u k.1))
          | inr (inr above) ↦ absurd (omega arith)
        ];
        clock_counts = ap (λ n. n + 1) t.clock_counts ∙ sym (one_more_counted (timed run.times) (timed drawn) i
            (λ k ne. ap is_some (get_or-set_other run.times i k (Some run.clock) None ne)) (ap is_some m.untimed) (ap is_some (get_or-set_same run.times i (Some run.clock) None there))
            (length g.lines) (subst (λ n. i < n) t.each_time there));
        sources_first = λ e c u v eu ev. elim (time_cases e.from u eu) [
          | inl new ↦ elim (time_cases e.to v ev) [
            | inl both ↦ absurd (s.accepted.acyclic i (last e c new.0 both.0))
            | inr old ↦ absurd (true≢false (sym (s.on_lines.sources e c (t.timed_started e.to (is_some_of (time_at run.times e.to) v old))) ∙ (ap (ended run.stages) new.0 ∙ out_not_ended (stage_at run.stages i) m.is_out)))
          ]
          | inr old ↦ elim (time_cases e.to v ev) [
            | inl new ↦ (let x : u < run.clock = earlier e.from u old in let y : run.clock ≡ v = new.1 in omega arith)
            | inr both ↦ t.sources_first e c u v old both
          ]
        ];
        sections_first = λ l q k u v aq ak apart nq nk eu ev less. elim (time_cases q u eu) [
          | inl new ↦ elim (time_cases k v ev) [
            | inl both ↦ (let y : run.clock ≡ u = new.1 in let z : run.clock ≡ v = both.1 in absurd (omega arith))
            | inr old ↦ (let x : v < run.clock = earlier k v old in let y : run.clock ≡ u = new.1 in absurd (omega arith))
          ]
          | inr old ↦ elim (time_cases k v ev) [
            | inl new ↦ (let b = section_before l q u aq (subst (λ x. Acquires g x l) new.0 ak) (subst (λ x. both_shared g q x ≡ false) new.0 apart) nq (subst (λ x. end_with does zero_cells g x ≢ Cancelled) new.0 nk) old in
                (b.0, b.1, b.2, b.3, subst (λ x. b.1 < x) new.1 b.4))
            | inr both ↦ (let b = t.sections_first l q k u v aq ak apart nq nk old both less in (b.0, b.1, b.2, time_stays b.0 b.1 b.3, b.4))
          ]
        ];
      }

  draw_locks : SoundLocksWith does g run.stages drawn run.holders run.freed
  unfolding drawn
  draw_locks =
      let t = s.on_locks in
      record {
        each_lock = t.each_lock;
        holder_acquires = t.holder_acquires;
        holder_started = t.holder_started;
        holder_not_cancelled = t.holder_not_cancelled;
        holder_alone = t.holder_alone;
        timed_holds = λ l. each_set (λ q o. Acquires g q l → is_some o ≡ true → end_with does zero_cells g q ≢ Cancelled → (is_listed (list_at run.holders l) q ≡ true) ⊎ ((r : ℕ) × Releases g r q × (is_listed run.freed r ≡ true))) run.times None i (Some run.clock) there
            (λ a h n. inl (m.holds l a n)) (λ k ne. t.timed_holds l k);
        freed_over = t.freed_over;
        freed_ended = t.freed_ended;
        freed_done = t.freed_done;
        freed_gone = t.freed_gone;
        ended_freed = t.ended_freed;
      }

  sound_drawn : SoundWith does g (draw run i)
  unfolding drawn
  sound_drawn = record {
    graph = s.graph;
    accepted = s.accepted;
    keeps = s.keeps;
    on_lines = s.on_lines;
    on_columns = s.on_columns;
    on_phases = s.on_phases;
    on_locks = draw_locks;
    on_times = draw_times;
  }

-- a time drawn
pub draw-sound : {does : Effects} {g : GraphValue} {run : Run} → SoundWith does g run → (i : ℕ) → MayDrawWith does g run i → SoundWith does g (draw run i)
draw-sound {does} {g} {run} s i m = sound_drawn g run s i m
