-- What a sound state tells, in other words.
use Rattle.std.proofs.Common.{◌≡◌, ℕ, true, false, inl, inr, sym, ◌∙◌, ap}
use Rattle.std.specs.Prelude.{◌≢◌, ◌↔◌, Some}
use Rattle.std.proofs.lemmas.Bool.{true≢false}
use Rattle.graph_terms.specs.declared.outcome.End.{End}
use Rattle.graph_terms.specs.declared.outcome.End.TheVariants.{Done, Cancelled}
use Rattle.graph_terms.specs.Graph.{GraphValue, line_passes}
use Rattle.graph_terms.specs.Reservations.{Acquires, Releases}
use Rattle.graph_meaning.specs.Evaluation.{is_ended, evaluation_with, end_with}
use Rattle.graph_meaning.proofs.Public.{end_in_ended}
use Rattle.run_state.specs.Run.{Run, Had, is_listed, stage_at, time_at, place_at, list_at, kept_end, over, ended}
use Rattle.run_state.specs.Sound.{AccessesColumn, is_arrive, SoundWith}
use Rattle.run_state.proofs.Lists.{out_not_over, over_started, ended_over}
use Rattle.basics.proofs.Choices.{some_is}
use Rattle.run_state.proofs.Started.{started_ends}
use Rattle.run_state.specs.AtRest.{AtRestWith}
use Rattle.graph_meaning.specs.Effect.{Effects, zero_cells}
use Rattle.run_state.proofs.Evaluated.{steps_end_with}

done_is_not : (x : End) → x ≡ Done → x ≡ Cancelled → ⊥
done_is_not x a b = cc

-- a line that is ending or ended has no column
pub over_has_none : {does : Effects} {g : GraphValue} {run : Run} → SoundWith does g run → (c i : ℕ) → over run.stages i ≡ true → place_at run.places c ≢ Had i
over_has_none {does} {g} {run} s c i h e = true≢false (sym h ∙ out_not_over (stage_at run.stages i) (s.on_columns.had_out c i e))

-- an acquire that is ending or ended with Done, and that no release has freed, holds
pub done_holds : {does : Effects} {g : GraphValue} {run : Run} → SoundWith does g run → (l q : ℕ) → Acquires g q l → over run.stages q ≡ true → end_with does zero_cells g q ≡ Done → ((r : ℕ) → Releases g r q → is_listed run.freed r ≡ false) → is_listed (list_at run.holders l) q ≡ true
done_holds {does} {g} {run} s l q a h d none = elim (s.on_locks.timed_holds l q a (s.on_times.over_timed q h) (done_is_not (end_with does zero_cells g q) d)) [
  | inl held ↦ held
  | inr f ↦ absurd (true≢false (sym f.2 ∙ none f.0 f.1))
]

-- a release that has freed has a time
pub freed_timed : {does : Effects} {g : GraphValue} {run : Run} → SoundWith does g run → (r : ℕ) → is_listed run.freed r ≡ true → (t : ℕ) × (time_at run.times r ≡ Some t)
freed_timed {does} {g} {run} s r h = some_is (time_at run.times r) (s.on_times.over_timed r (s.on_locks.freed_over r h))

-- an end that is kept is none that waits
pub kept_is_ended : {does : Effects} {g : GraphValue} {run : Run} → SoundWith does g run → (i : ℕ) (x : End) → over run.stages i ≡ true → kept_end (stage_at run.stages i) ≡ Some x → is_ended x ≡ true
kept_is_ended {does} {g} {run} s i x h e = ap is_ended (sym (s.on_lines.ends i x e)) ∙ end_in_ended (evaluation_with does zero_cells g) i (steps_end_with does zero_cells g _) (started_ends s.graph s.accepted s.on_lines i (over_started (stage_at run.stages i) h))

-- at rest the lines put back on a column are the ended lines that access it and are not cancelled
pub back_at_rest : {does : Effects} {g : GraphValue} {run : Run} → SoundWith does g run → AtRestWith does g run → (c i : ℕ) → (is_listed (list_at run.back c) i ≡ true) ↔ ((ended run.stages i ≡ true) × AccessesColumn g i c × (end_with does zero_cells g i ≢ Cancelled))
back_at_rest {does} {g} {run} s rest c i = (
  λ h. (rest.back_ended c i h, s.on_columns.back_accessed c i h, s.on_columns.back_not_cancelled c i h),
  λ h. s.on_columns.over_back c i (ended_over (stage_at run.stages i) h.0) h.1 h.2,
)

-- at rest the releases that have freed are the ended ones of acquires that are done
pub freed_at_rest : {does : Effects} {g : GraphValue} {run : Run} → SoundWith does g run → AtRestWith does g run → (r q : ℕ) → Releases g r q → (is_listed run.freed r ≡ true) ↔ ((ended run.stages r ≡ true) × (end_with does zero_cells g q ≡ Done))
freed_at_rest {does} {g} {run} s rest r q rel = (
  λ h. (rest.freed_ended r h, s.on_locks.freed_done r q rel h),
  λ h. s.on_locks.ended_freed r q rel h.0 h.1,
)

-- at rest the arrivals put in are those that ended and are not cancelled
pub arrived_at_rest : {does : Effects} {g : GraphValue} {run : Run} → SoundWith does g run → AtRestWith does g run → (i : ℕ) → (is_listed run.arrived i ≡ true) ↔ ((ended run.stages i ≡ true) × (line_passes is_arrive g i ≡ true) × (end_with does zero_cells g i ≢ Cancelled))
arrived_at_rest {does} {g} {run} s rest i = (
  λ h. (rest.arrived_ended i h, s.on_phases.arrived_arrives i h, s.on_phases.arrived_not_cancelled i h),
  λ h. s.on_phases.over_arrived i (ended_over (stage_at run.stages i) h.0) h.1 h.2,
)
