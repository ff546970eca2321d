-- What a run on one thread keeps.
use Rattle.std.proofs.Common.{◌≡◌, ℕ, ◌+◌, ◌<◌, ◌≤◌, Bool, true, false, not, inl, inr, List, length, length-set, refl, sym, ◌∙◌, ap, subst, arith}
use Rattle.std.specs.Prelude.{◌≢◌, Option, Some, None, is_some, slice_get, slice_set, [], ◌∷◌}
use Rattle.std.proofs.lemmas.Bool.{true≢false, cases_eq, cases_Bool}
use Rattle.std.proofs.lemmas.List.{get_or-set_same, get_or-set_other, set-set}
use Rattle.graph_terms.specs.declared.outcome.End.{End}
use Rattle.graph_terms.specs.declared.verb.Access.{Access}
use Rattle.graph_terms.specs.Graph.{GraphValue}
use Rattle.graph_terms.specs.Access.{accesses}
use Rattle.basics.proofs.ListFacts.{count_below-le, fewer_below, map_contains, got_in}
use Rattle.basics.specs.Lists.{count_below}
use Rattle.event_table.specs.declared.handle.Handle.{Handle}
use Rattle.event_table.specs.EventMap.{SlotLife, IsFull}
use Rattle.run_state.specs.Run.{LineStage, Unissued, Issued, Out, Ending, Ended, Run, stage_at, time_at, stage_issued, stage_ended, stage_out, issued, out, ended, timed}
use Rattle.run_state.specs.Quiet.{kept_cancels}
use Rattle.run_state.specs.Moves.{claim}
use Rattle.run_state.specs.WholeLine.{column_list}
use Rattle.run_state.specs.Sharing.{take_sharing}
use Rattle.run_core.specs.Core.{CoreValue, IsCore, kept_faults}
use Rattle.lent_columns.specs.Lendings.{Lending}
use Rattle.run_core.specs.Works.{WorkValue, FinishedValue, IsWork}
use Rattle.run_core.specs.Steps.{with_issue, IsLeft, IsHeldBy, StandsBy, with_run, with_lendings, Takes, Attempts, with_end, handle_at, Wakes, Issues}
use Rattle.run_core.specs.Finishing.{NothingOut, left_to_do, Stays, GoesOn, IsStill, IsFreeSoFar, CanBeTaken, IsQuiet}
use Rattle.run_core.specs.declared.answers.Attempt.{Attempt}
use Rattle.run_core.specs.declared.answers.Attempt.TheVariants as attempts
use Rattle.run_parts.specs.declared.answers.Issue.{Issue}
use Rattle.run_parts.specs.declared.answers.Issue.TheVariants as issues
use Rattle.run_parts.specs.declared.answers.Thing.{Thing}
use Rattle.run_parts.specs.declared.answers.Thing.TheVariants as things
use Rattle.run_core.proofs.CoreFacts.{may_issue, line_near, kept_core, kept_may}
use Rattle.run_core.proofs.EventFacts.{at_contains, lt_unless}

-- WHAT STAYS
stays_same : (c : CoreValue) → Stays c c
stays_same c = record { handles = λ i h e. e; ends = λ i x e. e; times = λ i t e. e }

stays_further : (a b c : CoreValue) → Stays a b → Stays b c → Stays a c
stays_further a b c x y = record {
  handles = λ i h e. y.handles i h (x.handles i h e);
  ends = λ i z e. y.ends i z (x.ends i z e);
  times = λ i t e. y.times i t (x.times i t e);
}

-- where the handles go on, and one line that had not ended and had no time goes on
stays_by_line : (old new : CoreValue) (k : ℕ) (s : LineStage) → ((i : ℕ) (h : Handle) → slice_get old.handles i ≡ Some h → slice_get new.handles i ≡ Some h)
    → new.run.stages ≡ slice_set old.run.stages k s → ((x : End) → stage_at old.run.stages k ≡ Ended x → ⊥)
    → ((i t : ℕ) → time_at old.run.times i ≡ Some t → time_at new.run.times i ≡ Some t) → Stays old new
stays_by_line old new k s handles stages going times = record {
  «handles» = handles;
  ends = λ i x e. elim (cases_eq i k) [
    | inl same ↦ absurd (going x (subst (λ j. stage_at old.run.stages j ≡ Ended x) same e))
    | inr other ↦ ap (λ ss. stage_at ss i) stages ∙ (get_or-set_other old.run.stages k i s Unissued other ∙ e)
  ];
  «times» = times;
}

-- ONE STEP AFTER ANOTHER
pub goes_nowhere : (c : CoreValue) → NothingOut c → GoesOn c c
goes_nowhere c nothing = record { graph = refl; hosted = refl; slots = refl; nothing_out = nothing; stays = stays_same c; left = omega arith }

pub goes_further : (a b c : CoreValue) → GoesOn a b → GoesOn b c → GoesOn a c
goes_further a b c x y = record {
  graph = y.graph ∙ x.graph;
  hosted = y.hosted ∙ x.hosted;
  slots = y.slots ∙ x.slots;
  nothing_out = y.nothing_out;
  stays = stays_further a b c x.stays y.stays;
  left = (let one : left_to_do b ≤ left_to_do a = x.left in let other : left_to_do c ≤ left_to_do b = y.left in omega (arith, one, other));
}

pub is_still : (c : CoreValue) → IsStill c c
is_still c = record { graph = refl; hosted = refl; run = refl; handles = refl }

pub still_further : (a b c : CoreValue) → IsStill a b → IsStill b c → IsStill a c
still_further a b c x y = record { graph = y.graph ∙ x.graph; hosted = y.hosted ∙ x.hosted; run = y.run ∙ x.run; handles = y.handles ∙ x.handles }

-- how much is left, by the stages
abbrev pub left_in : List LineStage → ℕ → ℕ
left_in stages n = count_below (λ i. not (issued stages i)) n + count_below (λ i. not (ended stages i)) n

pub goes_by_stages : (old new : CoreValue) → new.graph ≡ old.graph → new.hosted ≡ old.hosted → length new.table.slots ≡ length old.table.slots → (stages : List LineStage) → new.run.stages ≡ stages → ((i : ℕ) → out stages i ≡ false) → Stays old new → left_in stages (length old.graph.lines) ≤ left_to_do old → GoesOn old new
goes_by_stages old new graph hosted slots stages is nothing stays left = record {
  «graph» = graph;
  «hosted» = hosted;
  «slots» = slots;
  nothing_out = λ i. ap (λ ss. out ss i) is ∙ nothing i;
  «stays» = stays;
  «left» = subst (λ n. n ≤ left_to_do old) (sym (ap (λ ss. left_in ss (length new.graph.lines)) is ∙ ap (λ (g : GraphValue). left_in stages (length g.lines)) graph)) left;
}

pub fewer_by_stages : (old new : CoreValue) → new.graph ≡ old.graph → (stages : List LineStage) → new.run.stages ≡ stages → left_in stages (length old.graph.lines) < left_to_do old → left_to_do new < left_to_do old
fewer_by_stages old new graph stages is left = subst (λ n. n < left_to_do old) (sym (ap (λ ss. left_in ss (length new.graph.lines)) is ∙ ap (λ (g : GraphValue). left_in stages (length g.lines)) graph)) left

pub still_goes : (old new : CoreValue) → NothingOut old → IsStill old new → length new.table.slots ≡ length old.table.slots → GoesOn old new
still_goes old new nothing still slots = goes_by_stages old new still.graph still.hosted slots old.run.stages (ap (λ (r : Run). r.stages) still.run) nothing
    (record {
      handles = λ i h e. ap (λ hs. slice_get hs i) still.handles ∙ e;
      ends = λ i x e. ap (λ (r : Run). stage_at r.stages i) still.run ∙ e;
      times = λ i t e. ap (λ (r : Run). time_at r.times i) still.run ∙ e;
    }) (omega arith)

-- A LINE AT ANOTHER STAGE, which is issued and not out
module _ (stages : List LineStage) (i : ℕ) (s : LineStage) (near : i < length stages) (goes : stage_issued s ≡ true) (back : stage_out s ≡ false) (left : ended stages i ≡ false) where
  here : stage_at (slice_set stages i s) i ≡ s
  here = get_or-set_same stages i s Unissued near

  there : (k : ℕ) → k ≢ i → stage_at (slice_set stages i s) k ≡ stage_at stages k
  there k ne = get_or-set_other stages i k s Unissued ne

  pub none_out_after : ((k : ℕ) → out stages k ≡ false) → (k : ℕ) → out (slice_set stages i s) k ≡ false
  none_out_after nothing k = elim (cases_eq k i) [
    | inl same ↦ ap (out (slice_set stages i s)) same ∙ (ap stage_out here ∙ back)
    | inr other ↦ ap stage_out (there k other) ∙ nothing k
  ]

  unissued_before : (k : ℕ) → not (issued (slice_set stages i s) k) ≡ true → not (issued stages k) ≡ true
  unissued_before k h = elim (cases_eq k i) [
    | inl same ↦ absurd (true≢false (sym h ∙ ap not (ap (issued (slice_set stages i s)) same ∙ (ap stage_issued here ∙ goes))))
    | inr other ↦ sym (ap (λ x. not (stage_issued x)) (there k other)) ∙ h
  ]

  left_before : (k : ℕ) → not (ended (slice_set stages i s) k) ≡ true → not (ended stages k) ≡ true
  left_before k h = elim (cases_eq k i) [
    | inl same ↦ ap (λ m. not (ended stages m)) same ∙ ap not left
    | inr other ↦ sym (ap (λ x. not (stage_ended x)) (there k other)) ∙ h
  ]

  unissued_le : (n : ℕ) → count_below (λ k. not (issued (slice_set stages i s) k)) n ≤ count_below (λ k. not (issued stages k)) n
  unissued_le n = count_below-le (λ k. not (issued (slice_set stages i s) k)) (λ k. not (issued stages k)) unissued_before n

  left_le : (n : ℕ) → count_below (λ k. not (ended (slice_set stages i s) k)) n ≤ count_below (λ k. not (ended stages k)) n
  left_le n = count_below-le (λ k. not (ended (slice_set stages i s) k)) (λ k. not (ended stages k)) left_before n

  pub less_by_end : (n : ℕ) → i < n → stage_ended s ≡ true → left_in (slice_set stages i s) n < left_in stages n
  less_by_end n l ends =
      let one : count_below (λ k. not (issued (slice_set stages i s) k)) n ≤ count_below (λ k. not (issued stages k)) n = unissued_le n in
      let other : count_below (λ k. not (ended (slice_set stages i s) k)) n + 1 ≤ count_below (λ k. not (ended stages k)) n =
      fewer_below (λ k. not (ended (slice_set stages i s) k)) (λ k. not (ended stages k)) left_before n i l (ap (λ x. not (stage_ended x)) here ∙ ap not ends) (ap not left) in
      omega (arith, one, other)

  pub less_by_issue : (n : ℕ) → i < n → issued stages i ≡ false → left_in (slice_set stages i s) n < left_in stages n
  less_by_issue n l was =
      let one : count_below (λ k. not (issued (slice_set stages i s) k)) n + 1 ≤ count_below (λ k. not (issued stages k)) n =
      fewer_below (λ k. not (issued (slice_set stages i s) k)) (λ k. not (issued stages k)) unissued_before n i l (ap (λ x. not (stage_issued x)) here ∙ ap not goes) (ap not was) in
      let other : count_below (λ k. not (ended (slice_set stages i s) k)) n ≤ count_below (λ k. not (ended stages k)) n = left_le n in
      omega (arith, one, other)

-- A LINE THAT CAN'T BE TAKEN
same_still : (old new : CoreValue) → new ≡ old → IsStill old new × (length new.table.slots ≡ length old.table.slots)
same_still old new same = (
  record { graph = ap (λ (c : CoreValue). c.graph) same; hosted = ap (λ (c : CoreValue). c.hosted) same; run = ap (λ (c : CoreValue). c.run) same; handles = ap (λ (c : CoreValue). c.handles) same },
  ap (λ (c : CoreValue). length c.table.slots) same,
)

stood : (old new : CoreValue) (i j : ℕ) → StandsBy old new i j → IsStill old new × (length new.table.slots ≡ length old.table.slots)
stood old new i j stands = elim stands.either [
  | inl same ↦ same_still old new same
  | inr (h, at, is) ↦ (
    record { graph = ap (λ (c : CoreValue). c.graph) is; hosted = ap (λ (c : CoreValue). c.hosted) is; run = ap (λ (c : CoreValue). c.run) is; handles = ap (λ (c : CoreValue). c.handles) is },
    ap (λ (c : CoreValue). length c.table.slots) is ∙ length-set old.table.slots h.slot _,
  )
]

held_not_free : (g : GraphValue) (run : Run) (i : ℕ) (thing : Thing) → kept_cancels g run.stages i ≡ false → IsHeldBy g run i thing → IsFreeSoFar g run i → ⊥
held_not_free g run i thing runs held (inl cancelled) = true≢false (sym cancelled ∙ runs)
held_not_free g run i (things.Lock l) runs held (inr free) = true≢false (sym (free.0 l held.0 held.1.0 held.1.1) ∙ held.1.2)
held_not_free g run i (things.Column c) runs held (inr free) = held.1.is_out (free.1 c (map_contains (λ (a : Access). a.column) (accesses g i) c (at_contains (column_list g i) held.1.place c held.1.column)))

pub not_taken : (old new : CoreValue) (i : ℕ) (a : Attempt) → Attempts old new i a → ((w : WorkValue) → a ≢ attempts.Taken w) → IsStill old new × (length new.table.slots ≡ length old.table.slots) × (CanBeTaken old.graph old.run i → ⊥)
not_taken old new i (attempts.Taken w) h none = absurd (none w refl)
not_taken old new i (attempts.Over s) h none = let same = same_still old new h.2 in (same.0, same.1, λ can. h.0 can.is_issued)
not_taken old new i attempts.Never h none = let same = same_still old new h.2 in (same.0, same.1, λ can. true≢false (sym h.1 ∙ can.comes))
not_taken old new i (attempts.NotYet j) h none =
    let same = stood old new i j h.3 in
    (same.0, same.1, λ can. true≢false (sym (can.sources j h.2.waits) ∙ h.2.left))
not_taken old new i (attempts.Busy thing) h none = let same = same_still old new h.3 in (same.0, same.1, λ can. held_not_free old.graph old.run i thing h.1 h.2 can.is_free)

-- A LINE THAT IS TAKEN AND PUT BACK
pub work_out : (c : CoreValue) (w : WorkValue) → IsWork c w → stage_at c.run.stages w.line ≡ Out
work_out c w is = (is (kept_faults c) (kept_may c)).is_out

pub record GoesOut (old mid : CoreValue) (i : ℕ) : Type 0 where
  pub graph : mid.graph ≡ old.graph
  pub hosted : mid.hosted ≡ old.hosted
  pub stages : mid.run.stages ≡ slice_set old.run.stages i Out
  pub times : mid.run.times ≡ old.run.times
  pub handles : mid.handles ≡ old.handles
  pub slots : length mid.table.slots ≡ length old.table.slots

pub goes_out : (old mid : CoreValue) (w : WorkValue) → Takes old mid w → GoesOut old mid w.line
goes_out old mid w takes = elim (cases_Bool (kept_cancels old.graph old.run.stages w.line)) [
  | inl cancelled ↦ by_run (claim old.run w.line) old.lendings (takes.claimed cancelled) refl refl
  | inr runs ↦ (let t = takes.taken runs in by_run (take_sharing old.graph old.run w.line) t.2 t.4 refl refl)
]
  where
    by_run : (run : Run) (lendings : List (Option Lending)) → mid ≡ with_lendings (with_run old run) lendings → run.stages ≡ slice_set old.run.stages w.line Out → run.times ≡ old.run.times → GoesOut old mid w.line
    by_run run lendings is shape timed = record {
      graph = ap (λ (c : CoreValue). c.graph) is;
      hosted = ap (λ (c : CoreValue). c.hosted) is;
      stages = ap (λ (c : CoreValue). c.run.stages) is ∙ shape;
      times = ap (λ (c : CoreValue). c.run.times) is ∙ timed;
      handles = ap (λ (c : CoreValue). c.handles) is;
      slots = ap (λ (c : CoreValue). length c.table.slots) is;
    }

module _ (old mid new : CoreValue) (w : WorkValue) (f : FinishedValue) (core : IsCore mid) (nothing : NothingOut old) (i : ℕ) (near : i < length old.graph.lines) (this : w.line ≡ i) (takes : Takes old mid w) (same : f.line ≡ w.line) (put : new ≡ with_end mid f) where
  gone : GoesOut old mid w.line
  gone = goes_out old mid w takes

  stages_after : new.run.stages ≡ slice_set old.run.stages i (Ended f.ends)
  stages_after =
      ap (λ (c : CoreValue). c.run.stages) put ∙ (set-set mid.run.stages f.line (Ending f.ends) (Ended f.ends)
      ∙ (ap (λ k. slice_set mid.run.stages k (Ended f.ends)) (same ∙ this) ∙ (ap (λ ss. slice_set ss i (Ended f.ends)) (gone.stages ∙ ap (λ k. slice_set old.run.stages k Out) this) ∙ set-set old.run.stages i Out (Ended f.ends))))

  graph_after : new.graph ≡ old.graph
  graph_after = ap (λ (c : CoreValue). c.graph) put ∙ gone.graph

  hosted_after : new.hosted ≡ old.hosted
  hosted_after = ap (λ (c : CoreValue). c.hosted) put ∙ gone.hosted

  slots_after : length new.table.slots ≡ length old.table.slots
  slots_after = ap (λ (c : CoreValue). length c.table.slots) put ∙ (length-set mid.table.slots (handle_at mid f.line).slot _ ∙ gone.slots)

  was_issued : stage_at old.run.stages i ≡ Issued
  was_issued = ap (stage_at old.run.stages) (sym this) ∙ takes.due.is_issued

  within : i < length old.run.stages
  within =
      let out_near : w.line < length mid.run.stages = line_near mid core w.line (ap stage_issued (work_out mid w takes.work)) in
      let long : length mid.run.stages ≡ length old.run.stages = ap length gone.stages ∙ length-set old.run.stages w.line Out in
      omega (arith, out_near, long, this)

  less : left_in (slice_set old.run.stages i (Ended f.ends)) (length old.graph.lines) < left_to_do old
  less = less_by_end old.run.stages i (Ended f.ends) within refl refl (ap stage_ended was_issued) (length old.graph.lines) near refl

  pub ran_less : left_to_do new < left_to_do old
  ran_less = fewer_by_stages old new graph_after (slice_set old.run.stages i (Ended f.ends)) stages_after less

  -- the line that ends had no time before
  untimed : (t : ℕ) → time_at old.run.times i ≡ Some t → ⊥
  untimed t e =
      let out : stage_at mid.run.stages w.line ≡ Out = work_out mid w takes.work in
      let none : timed mid.run.times w.line ≡ false = (kept_core mid core).at_rest.lines.out_untimed w.line (ap stage_out out) in
      true≢false (sym (ap is_some (ap (λ ts. time_at ts w.line) gone.times ∙ (ap (time_at old.run.times) this ∙ e))) ∙ none)

  times_after : (j t : ℕ) → time_at old.run.times j ≡ Some t → time_at new.run.times j ≡ Some t
  times_after j t e = elim (cases_eq j i) [
    | inl same_line ↦ absurd (untimed t (subst (λ k. time_at old.run.times k ≡ Some t) same_line e))
    | inr other ↦ ap (λ (c : CoreValue). time_at c.run.times j) put
        ∙ (get_or-set_other mid.run.times f.line j (Some mid.run.clock) None (λ k. other (k ∙ (same ∙ this))) ∙ (ap (λ ts. time_at ts j) gone.times ∙ e))
  ]

  stays_after : Stays old new
  stays_after = stays_by_line old new i (Ended f.ends) (λ j h e. ap (λ (c : CoreValue). slice_get c.handles j) put ∙ (ap (λ hs. slice_get hs j) gone.handles ∙ e)) stages_after
      (λ x e. true≢false (sym (ap stage_ended e) ∙ ap stage_ended was_issued)) times_after

  pub ran_on : GoesOn old new
  ran_on = goes_by_stages old new graph_after hosted_after slots_after (slice_set old.run.stages i (Ended f.ends)) stages_after (none_out_after old.run.stages i (Ended f.ends) within refl refl (ap stage_ended was_issued) nothing) stays_after
      (let l : left_in (slice_set old.run.stages i (Ended f.ends)) (length old.graph.lines) < left_to_do old = less in omega (arith, l))

  pub graph_out : mid.graph ≡ old.graph
  graph_out = gone.graph

-- A LINE IS WOKEN
pub woken_goes : (old new : CoreValue) (k : ℕ) → NothingOut old → Wakes old k new → GoesOn old new
woken_goes old new k nothing wakes = still_goes old new nothing (record { graph = wakes.1; hosted = wakes.4; run = wakes.2; handles = wakes.3 }) (ap (λ (ls : List SlotLife). length ls) wakes.0.4)

-- A LINE IS ISSUED
module _ (old new : CoreValue) (h : Handle) (core : IsCore old) (nothing : NothingOut old) (left : IsLeft old) (is : new ≡ with_issue old h) where
  was_unissued : stage_at old.run.stages (length old.handles) ≡ Unissued
  was_unissued = (may_issue old core left).unissued

  place : length old.handles < length old.run.stages
  place = subst (λ n. length old.handles < n) (sym (kept_core old core).sound.on_lines.each_line) left

  issue_less : left_in (slice_set old.run.stages (length old.handles) Issued) (length old.graph.lines) < left_to_do old
  issue_less = less_by_issue old.run.stages (length old.handles) Issued place refl refl (ap stage_ended was_unissued) (length old.graph.lines) left (ap stage_issued was_unissued)

  pub issued_less : left_to_do new < left_to_do old
  issued_less = fewer_by_stages old new (ap (λ (c : CoreValue). c.graph) is) (slice_set old.run.stages (length old.handles) Issued) (ap (λ (c : CoreValue). c.run.stages) is) issue_less

  pub issued_goes : GoesOn old new
  issued_goes = goes_by_stages old new (ap (λ (c : CoreValue). c.graph) is) (ap (λ (c : CoreValue). c.hosted) is) (ap (λ (c : CoreValue). length c.table.slots) is ∙ length-set old.table.slots h.slot _) (slice_set old.run.stages (length old.handles) Issued) (ap (λ (c : CoreValue). c.run.stages) is)
      (none_out_after old.run.stages (length old.handles) Issued place refl refl (ap stage_ended was_unissued) nothing)
      (stays_by_line old new (length old.handles) Issued (λ i k e. ap (λ (c : CoreValue). slice_get c.handles i) is ∙ got_in old.handles (h ∷ []) i k e) (ap (λ (c : CoreValue). c.run.stages) is)
      (λ x e. true≢false (sym (ap stage_ended e) ∙ ap stage_ended was_unissued)) (λ i t e. ap (λ (c : CoreValue). time_at c.run.times i) is ∙ e))
      (let l : left_in (slice_set old.run.stages (length old.handles) Issued) (length old.graph.lines) < left_to_do old = issue_less in omega (arith, l))

-- A SCAN. So far nothing moved, and none of the first lines can be taken, or less is left
pub record Scanned (old new : CoreValue) (moved : Bool) (line : ℕ) : Type 0 where
  pub goes_on : GoesOn old new
  pub is_less : moved ≡ true → left_to_do new < left_to_do old
  pub still : moved ≡ false → IsStill old new
  pub none : moved ≡ false → (i : ℕ) → i < line → CanBeTaken new.graph new.run i → ⊥

pub scan_moved : (old now ran after : CoreValue) (moved : Bool) (line n : ℕ) → Scanned old now moved line → GoesOn now ran → left_to_do ran < left_to_do now → GoesOn ran after → Scanned old after true n
scan_moved old now ran after moved line n so_far goes less follows = record {
  goes_on = goes_further old now after so_far.goes_on (goes_further now ran after goes follows);
  is_less = λ _. (let one : left_to_do after ≤ left_to_do ran = follows.left in let other : left_to_do now ≤ left_to_do old = so_far.goes_on.left in let l : left_to_do ran < left_to_do now = less in omega (arith, one, other, l));
  still = λ e. absurd (true≢false e);
  none = λ e. absurd (true≢false e);
}

taken_back : (g h : GraphValue) (run after : Run) (i : ℕ) → h ≡ g → after ≡ run → CanBeTaken h after i → CanBeTaken g run i
taken_back g h run after i same runs can = subst (λ k. CanBeTaken k run i) same (subst (λ r. CanBeTaken h r i) runs can)

pub scan_stays : (old now ran : CoreValue) (moved : Bool) (line : ℕ) → Scanned old now moved line → GoesOn now ran → IsStill now ran → (CanBeTaken now.graph now.run line → ⊥) → Scanned old ran moved (line + 1)
scan_stays old now ran moved line so_far goes still refused = record {
  goes_on = goes_further old now ran so_far.goes_on goes;
  is_less = λ e. (let one : left_to_do ran ≤ left_to_do now = goes.left in let other : left_to_do now < left_to_do old = so_far.is_less e in omega (arith, one, other));
  still = λ e. still_further old now ran (so_far.still e) still;
  none = λ e i l can. (
      let before : CanBeTaken now.graph now.run i = taken_back now.graph ran.graph now.run ran.run i still.graph still.run can in
      elim (cases_eq i line) [
        | inl same ↦ refused (subst (CanBeTaken now.graph now.run) same before)
        | inr other ↦ so_far.none e i (lt_unless i line l other) before
      ]);
}

pub scan_begins : (c : CoreValue) → NothingOut c → Scanned c c false 0
scan_begins c nothing = record {
  goes_on = goes_nowhere c nothing;
  is_less = λ e. absurd (true≢false (sym e));
  still = λ _. is_still c;
  none = λ e i l. absurd (omega (arith, l));
}

pub scan_ends : (old now : CoreValue) (moved : Bool) (line : ℕ) → IsCore now → Scanned old now moved line → length old.graph.lines ≤ line → moved ≡ false → IsStill old now × ((i : ℕ) → CanBeTaken now.graph now.run i → ⊥)
scan_ends old now moved line core so_far all e = (
  so_far.still e,
  λ i can. so_far.none e i (
      let near : i < length now.run.stages = line_near now core i (ap stage_issued can.is_issued) in
      let each : length now.run.stages ≡ length now.graph.lines = (kept_core now core).sound.on_lines.each_line in
      let graph : length now.graph.lines ≡ length old.graph.lines = ap (λ (g : GraphValue). length g.lines) so_far.goes_on.graph in
      omega (arith, near, each, graph, all)) can,
)

-- WHERE NO LINE WAS ISSUED
pub kept_by_issue : (old new : CoreValue) (a : Issue) → Issues old new a → ((i : ℕ) → a ≢ issues.Issued i) → new ≡ old
kept_by_issue old new (issues.Issued i) h none = absurd (none i refl)
kept_by_issue old new issues.NoSlot h none = h.2
kept_by_issue old new issues.All h none = h.1
kept_by_issue old new issues.Other h none = absurd h

all_quiet : (c : CoreValue) → IsCore c → NothingOut c → ((i : ℕ) → CanBeTaken c.graph c.run i → ⊥) → length c.handles ≡ length c.graph.lines → IsQuiet c.graph c.run
all_quiet c core nothing none all = record {
  first_issued = λ i l. ((kept_core c core).events.each_issued i).1 (omega (arith, l, all));
  none_out = nothing;
  none_ending = (kept_core c core).at_rest.lines.none_ending;
  none_taken = none;
}

quiet_then : (g h : GraphValue) (run after : Run) → h ≡ g → after ≡ run → IsQuiet g run → IsQuiet h after
quiet_then g h run after same runs quiet = subst (λ k. IsQuiet k after) (sym same) (subst (λ r. IsQuiet g r) (sym runs) quiet)

quiet_by : (old new : CoreValue) (a : Issue) → IsCore old → NothingOut old → (IsLeft old → IsFull old.table → ⊥) → ((i : ℕ) → CanBeTaken old.graph old.run i → ⊥) → Issues old new a → ((i : ℕ) → a ≢ issues.Issued i) → IsQuiet old.graph old.run
quiet_by old new (issues.Issued i) core nothing free none h other = absurd (other i refl)
quiet_by old new issues.NoSlot core nothing free none h other = absurd (free h.0 h.1)
quiet_by old new issues.All core nothing free none h other = all_quiet old core nothing none h.0
quiet_by old new issues.Other core nothing free none h other = absurd h

pub quiet_after : (old mid new : CoreValue) (a : Issue) → IsCore old → NothingOut old → (NothingOut old → ((i : ℕ) → CanBeTaken old.graph old.run i → ⊥) → IsLeft old → IsFull old.table → ⊥) → Issues old mid a → ((i : ℕ) → a ≢ issues.Issued i) →
    IsStill mid new → ((i : ℕ) → CanBeTaken new.graph new.run i → ⊥) → IsQuiet new.graph new.run
quiet_after old mid new a core nothing free h other still none =
    let same : mid ≡ old = kept_by_issue old mid a h other in
    let kept : IsStill old new = subst (λ (c : CoreValue). IsStill c new) same still in
    let not_yet : (i : ℕ) → CanBeTaken old.graph old.run i → ⊥ = λ i can. none i (taken_back new.graph old.graph new.run old.run i (sym kept.graph) (sym kept.run) can) in
    quiet_then old.graph new.graph old.run new.run kept.graph kept.run (quiet_by old mid a core nothing (free nothing not_yet) not_yet h other)
