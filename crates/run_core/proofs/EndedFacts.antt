-- A line that is put back, as the code puts it back.
use Rattle.std.proofs.Common.{Bool, ◌≡◌, ℕ, ◌+◌, ◌<◌, ◌≤◌, true, ◌⊎◌, inl, inr, List, [], ◌∷◌, ◌++◌, map, length, refl, sym, ◌∙◌, ap, subst, arith}
use Rattle.std.specs.Prelude.{◌≢◌, Contains, Option, Some, None, IsSome, slice_get, slice_index, slice_index_or, slice_set}
use Rattle.std.specs.Option.{option_map_or}
use Rattle.std.proofs.lemmas.Bool.{true≢false, false≢true, eq-eqb}
use Rattle.std.proofs.lemmas.List.{map-set, set-set, get_or-set_same, get_or-set_other}
use Rattle.std.proofs.lemmas.List.FromFn.{length-map-range_with_len}
use Rattle.std.proofs.lemmas.Option.{none-some, same_Some, slice_get-get_or}
use Rattle.index_spaces.specs.Column.{ColumnValue}
use Rattle.graph_terms.specs.declared.outcome.End.{End}
use Rattle.graph_terms.specs.declared.outcome.End.TheVariants.{Done, Faulted, Cancelled, Waiting}
use Rattle.graph_terms.specs.declared.verb.Verb.{Verb}
use Rattle.graph_terms.specs.declared.verb.Verb.TheVariants.{Acquire, Release}
use Rattle.graph_terms.specs.Graph.{GraphValue, columns, column_space, verb_at, is_acquire_of, is_release_of}
use Rattle.graph_terms.specs.Reservations.{Acquires, Releases}
use Rattle.graph_meaning.specs.Effect.{Effects, zero_cells}
use Rattle.graph_meaning.specs.Evaluation.{is_ended, end_with}
use Rattle.basics.proofs.ListFacts.{count_below-max, fewer_below}
use Rattle.basics.specs.Lists.{count_below}
use Rattle.index_spaces.specs.Held.{HeldList, held_at}
use Rattle.event_table.specs.declared.handle.Handle.{Handle}
use Rattle.event_table.specs.EventMap.{answer, answer_of, ended_with}
use Rattle.run_state.specs.Run.{LineStage, Unissued, Ending, Ended, Place, Home, Had, Run, is_listed, Out, stage_at, place_at, list_at, end_so_far, stage_issued, stage_out, stage_started, stage_over, stage_ended, started, ended, time_at, timed}
use Rattle.run_state.specs.Sound.{AccessesColumn, OnlyReads, SoundWith}
use Rattle.run_state.specs.Sharing.{ChangesColumn}
use Rattle.run_state.specs.Work.{cells_now_with, put_cells_with}
use Rattle.lent_columns.specs.Lendings.{Lending, SharedValue, column_in, lending_in, number_of}
use Rattle.lent_columns.specs.Moved.{MayGive, AreGiven}
use Rattle.graph_terms.specs.declared.verb.Access.{Access}
use Rattle.graph_terms.specs.Access.{accesses}
use Rattle.graph_terms.specs.Fits.{IsGraph}
use Rattle.run_state.specs.WholeLine.{lock_by, lock_of, all_home, all_back, columns_for, values_with, arrived_with, arrival_for, holders_without, freed_with, freed_lock, frees_by, frees_for, put_back_whole}
use Rattle.run_state.specs.Laws.{PutBackKeepsSharing, PutBackLeavesSight, PutBackLeavesEnd, SightGivesCells}
use Rattle.run_state.proofs.Public.{ended_over, kept_is_with, started_below_with, ended_in_evaluation, column_there}
use Rattle.graph_terms.proofs.Public.{verb_passes, passes_below, one_release}
use Rattle.run_state.proofs.PutBack.{acquire_is_ended}
use Rattle.run_core.specs.Core.{CoreValue, IsCoreWith, IsCore, kept_faults}
use Rattle.run_lists.specs.Events.{EventsValue}
use Rattle.run_core.specs.Readers.{IsReading, lendings_left}
use Rattle.run_core.specs.Works.{FinishedValue, HoldsColumns, column_left, IsFinished, KeepsWork, cells_in}
use Rattle.run_core.specs.Steps.{with_end, handle_at, fate_for}
use Rattle.run_lists.specs.Holders.{holders_by, frees_as, frees_in, frees}
use Rattle.run_lists.specs.Stages.{shown_stage, ends_so_far}
use Rattle.run_core.specs.Kept.{place_of, places_of, Past, no_past, with_line, past_of, run_by, shown_core, AreKept}
use Rattle.run_parts.specs.declared.progress.Progress.{Progress}
use Rattle.run_parts.specs.declared.progress.Progress.TheVariants as progress
use Rattle.run_core.proofs.PastFacts.{past_more, past_same, clock_from}
use Rattle.run_core.proofs.PastLists.{times_new}
use Rattle.run_state.specs.Verdicts.{effect_by}
use Rattle.basics.proofs.Choices.{is_some_of}
use Rattle.run_core.proofs.PlaceFacts.{place_is, is_there}
use Rattle.run_core.proofs.TakenFacts.{column_eq}
use Rattle.run_core.proofs.ColumnFacts.{given_places, given_kept, given_lendings, none_left}
use Rattle.run_core.proofs.ReaderFacts.{reads_of, change_accesses, kept_runs, out_begun, reader_lent, numbers_left}
use Rattle.run_core.proofs.CoreFacts.{may_put, ended_told, core_ended, kept_core, kept_finished, may_before, line_near, core_with}
use Rattle.run_core.proofs.WorkFacts.{core_of, sees_now, column_agrees, keeps_work}

-- WHAT A LINE FREES, by the ends that are kept
frees_same : (g : GraphValue) (run : Run) (v : Verb) → frees_by g run v ≡ frees_as g (ends_so_far run.stages) v
frees_same g run (Release q) = refl
frees_same g run _ = refl

pub frees_kept : (g : GraphValue) (run : Run) (i : ℕ) → frees_for g run i ≡ frees_in g run.stages i
frees_kept g run i = by_option (verb_at g i)
  where
    by_option : (o : Option Verb) → option_map_or (frees_by g run) o None ≡ option_map_or (frees_as g (ends_so_far run.stages)) o None
    by_option None = refl
    by_option (Some v) = frees_same g run v

-- ends that agree on what a line releases free the same
frees_agree : (g : GraphValue) (a b : ℕ → End) (v : Verb) → ((q : ℕ) → v ≡ Release q → a q ≡ b q) → frees_as g a v ≡ frees_as g b v
frees_agree g a b (Release q) h = ap (λ x. freed_lock q x (lock_of g q)) (h q refl)
frees_agree g a b _ h = refl

pub frees_where : (g : GraphValue) (a b : ℕ → End) (i : ℕ) → ((q : ℕ) → Releases g i q → a q ≡ b q) → frees g a i ≡ frees g b i
frees_where g a b i h = by_option (verb_at g i) refl
  where
    by_option : (o : Option Verb) → verb_at g i ≡ o → option_map_or (frees_as g a) o None ≡ option_map_or (frees_as g b) o None
    by_option None e = refl
    by_option (Some v) e = frees_agree g a b v (λ q is. h q (verb_passes (is_release_of q) g i (Release q) (e ∙ ap Some is) ∙ eq-eqb q q refl))

-- a line of the trace has a time, so it is not one that is out, and releases none that is
in_trace_timed : (g : GraphValue) (ends : ℕ → End) (trace : List ℕ) (k : ℕ) → k < length g.lines → is_listed trace k ≡ true → (t : ℕ) × (time_at (past_of g ends trace).times k ≡ Some t)
in_trace_timed g ends trace k near h = times_new g ends (no_past g) trace k (subst (λ n. k < n) (sym (length-map-range_with_len {X = Option ℕ} (λ i. None) 0 (length g.lines))) near) h

-- WHAT A LINE FREES: the reservation of its acquire, which is done
freed_parts : (p : ℕ) (x : End) (o : Option ℕ) (l q : ℕ) → freed_lock p x o ≡ Some (l, q) → (x ≡ Done) × (o ≡ Some l) × (p ≡ q)
freed_parts p Done (Some k) l q e = let s = same_Some (k, p) (l, q) e in (refl, ap (λ (y : ℕ × ℕ). Some y.0) s, ap (λ (y : ℕ × ℕ). y.1) s)
freed_parts p Done None l q e = absurd (none-some (l, q) e)
freed_parts p Faulted o l q e = absurd (none-some (l, q) e)
freed_parts p Cancelled o l q e = absurd (none-some (l, q) e)
freed_parts p Waiting o l q e = absurd (none-some (l, q) e)

lock_taken : (g : GraphValue) (q l : ℕ) → lock_of g q ≡ Some l → Acquires g q l
lock_taken g q l h = by_verb (verb_at g q) refl h
  where
    by_verb : (o : Option Verb) → verb_at g q ≡ o → option_map_or lock_by o None ≡ Some l → Acquires g q l
    by_verb None d e = absurd (none-some l e)
    by_verb (Some (Acquire k s)) d e =
        verb_passes (is_acquire_of l) g q (Acquire k s) d ∙ subst (λ z. is_acquire_of l (Acquire z s) ≡ true) (sym (same_Some k l e)) (eq-eqb l l refl)
    by_verb (Some v) d e = absurd (none-some l e)

freed_found : {does : Effects} (g : GraphValue) (run : Run) → SoundWith does g run → (i l q : ℕ) → started run.stages i ≡ true → frees_in g run.stages i ≡ Some (l, q) → Releases g i q × Acquires g q l × (end_with does zero_cells g q ≡ Done)
freed_found {does} g run s i l q begun h = by_verb (verb_at g i) refl h
  where
    by_verb : (o : Option Verb) → verb_at g i ≡ o → option_map_or (frees_as g (ends_so_far run.stages)) o None ≡ Some (l, q) → Releases g i q × Acquires g q l × (end_with does zero_cells g q ≡ Done)
    by_verb None d e = absurd (none-some (l, q) e)
    by_verb (Some (Release p)) d e =
        let parts = freed_parts p (ends_so_far run.stages p) (lock_of g p) l q e in
        let rel : Releases g i q = verb_passes (is_release_of q) g i (Release q) (d ∙ ap (λ z. Some (Release z)) parts.2) ∙ eq-eqb q q refl in
        let over = ended_over (stage_at run.stages q) (acquire_is_ended s i q rel begun) in
        (rel, lock_taken g q l (ap (lock_of g) (sym parts.2) ∙ parts.1), sym (kept_is_with s.on_lines q over) ∙ (ap (ends_so_far run.stages) (sym parts.2) ∙ parts.0))
    by_verb (Some v) d e = absurd (none-some (l, q) e)

-- WHO HOLDS the reservation that is freed
pub holder_freed : (before : CoreValue) → IsCore before → (f : FinishedValue) → IsFinished before f → (l q : ℕ) → frees_in before.graph before.run.stages f.line ≡ Some (l, q) → is_listed (list_at before.run.holders l) q ≡ true
holder_freed before core f finished l q frees =
    let s = (kept_core before core).sound in
    let found = freed_found before.graph before.run s f.line l q (ap stage_started finished.is_out) frees in
    let over_q = ended_over (stage_at before.run.stages q) (acquire_is_ended s f.line q found.0 (ap stage_started finished.is_out)) in
    elim (s.on_locks.timed_holds l q found.1 (s.on_times.over_timed q over_q) (λ e. done_apart (end_with (effect_by (kept_faults before) before.graph) zero_cells before.graph q) found.2 e)) [
      | inl held ↦ held
      | inr freed ↦ absurd (true≢false (sym (s.on_locks.freed_over f.line (subst (λ r. is_listed before.run.freed r ≡ true) (one_release before.graph s.graph q freed.0 f.line freed.1 found.0) freed.2)) ∙ ap stage_over finished.is_out))
    ]
  where
    done_apart : (x : End) → x ≡ Done → x ≡ Cancelled → ⊥
    done_apart x a b = cc

-- THE WHOLE STEP, as it is shown
past_with : (g : GraphValue) (ends : ℕ → End) (past : Past) (i : ℕ) (x : End) (o : Option (ℕ × ℕ)) → ends i ≡ x → frees g ends i ≡ o → with_line g ends past i ≡ record {
  times = slice_set past.times i (Some past.clock);
  clock = past.clock + 1;
  back = all_back past.back i (columns_for g i x);
  arrived = arrived_with past.arrived i (arrival_for g i x);
  freed = freed_with past.freed i o;
}
past_with g ends past i x o e f = λ t. record {
  times = slice_set past.times i (Some past.clock);
  clock = past.clock + 1;
  back = all_back past.back i (columns_for g i (e t));
  arrived = arrived_with past.arrived i (arrival_for g i (e t));
  freed = freed_with past.freed i (f t);
}

module _ (hosted : Bool) (g : GraphValue) (stages : List Progress) (events : EventsValue) (homes homes' : SharedValue) (takers takers' values values' : List ℕ) (marks marks' : List Bool) (trace : List ℕ)
    (f : FinishedValue) (core : IsCore (shown_core hosted g stages events homes takers values marks trace)) (is : IsFinished (shown_core hosted g stages events homes takers values marks trace) f)
    (places : places_of homes'.columns takers' ≡ all_home (places_of homes.columns takers) (cells_in f.held) (columns_for g f.line f.ends))
    (lends : homes'.lendings ≡ lendings_left g f.line f.ends homes.lendings)
    (arrives : values' ≡ values_with values (arrival_for g f.line f.ends))
    (frees_now : holders_by g marks' ≡ holders_without (holders_by g marks) (frees_in g (map shown_stage stages) f.line))
  where
    abbrev shown_before : CoreValue
    shown_before = shown_core hosted g stages events homes takers values marks trace

    freed_is : frees_for g shown_before.run f.line ≡ frees_in g (map shown_stage stages) f.line
    freed_is = frees_kept g shown_before.run f.line

    begun : started shown_before.run.stages f.line ≡ true
    begun = ap stage_started is.is_out

    -- the ends before and after: no other line's changes
    abbrev ends_before : ℕ → End
    ends_before = ends_so_far (map shown_stage stages)

    abbrev ends_after : ℕ → End
    ends_after = ends_so_far (map shown_stage (slice_set stages f.line (progress.Ended f.ends)))

    abbrev known : IsCoreWith (effect_by (kept_faults shown_before) g) shown_before
    known = kept_core shown_before core

    ends_else : (k : ℕ) → (k ≡ f.line → ⊥) → ends_before k ≡ ends_after k
    ends_else k other = sym (ap (λ ss. ends_so_far ss k) (map-set shown_stage stages f.line (progress.Ended f.ends)) ∙ ap end_so_far (get_or-set_other (map shown_stage stages) f.line k (Ended f.ends) Unissued other))

    ends_here : ends_after f.line ≡ f.ends
    ends_here = ap (λ ss. ends_so_far ss f.line) (map-set shown_stage stages f.line (progress.Ended f.ends))
        ∙ ap end_so_far (get_or-set_same (map shown_stage stages) f.line (Ended f.ends) Unissued (line_near shown_before core f.line (ap stage_issued is.is_out)))

    -- the line is out: a line that is ended, as an acquire whose release was taken, is another
    ended_else : (q : ℕ) → ended shown_before.run.stages q ≡ true → q ≡ f.line → ⊥
    ended_else q e same = true≢false (sym e ∙ (ap (ended shown_before.run.stages) same ∙ ap stage_ended is.is_out))

    releases_else : (k q : ℕ) → started shown_before.run.stages k ≡ true → Releases g k q → ends_before q ≡ ends_after q
    releases_else k q h rel = ends_else q (ended_else q (acquire_is_ended known.sound k q rel h))

    traced_else : (k : ℕ) → is_listed trace k ≡ true → k ≡ f.line → ⊥
    traced_else k h same =
        let below : f.line < length g.lines = started_below_with known.sound.on_lines f.line begun in
        let t = in_trace_timed g ends_before trace f.line below (ap (is_listed trace) (sym same) ∙ h) in
        true≢false (sym (is_some_of (time_at shown_before.run.times f.line) t.0 t.1) ∙ known.at_rest.lines.out_untimed f.line (ap stage_out is.is_out))

    traced_frees : (k : ℕ) → is_listed trace k ≡ true → (q : ℕ) → Releases g k q → ends_before q ≡ ends_after q
    traced_frees k h q rel =
        let t = in_trace_timed g ends_before trace k (passes_below (is_release_of q) g k rel) h in
        releases_else k q (known.sound.on_times.timed_started k (is_some_of (time_at shown_before.run.times k) t.0 t.1)) rel

    past_before : past_of g ends_after trace ≡ past_of g ends_before trace
    past_before = sym (past_same g ends_before ends_after (no_past g) trace (λ k h. (ends_else k (traced_else k h), frees_where g ends_before ends_after k (traced_frees k h))))

    freed_after : frees g ends_after f.line ≡ frees_for g shown_before.run f.line
    freed_after = sym (frees_where g ends_before ends_after f.line (λ q rel. releases_else f.line q begun rel)) ∙ sym freed_is

    past_is : past_of g ends_after (trace ++ f.line ∷ []) ≡ record {
      times = slice_set (past_of g ends_before trace).times f.line (Some (past_of g ends_before trace).clock);
      clock = (past_of g ends_before trace).clock + 1;
      back = all_back (past_of g ends_before trace).back f.line (columns_for g f.line f.ends);
      arrived = arrived_with (past_of g ends_before trace).arrived f.line (arrival_for g f.line f.ends);
      freed = freed_with (past_of g ends_before trace).freed f.line (frees_for g shown_before.run f.line);
    }
    past_is = past_more g ends_after (no_past g) trace f.line ∙ (ap (λ p. with_line g ends_after p f.line) past_before
        ∙ past_with g ends_after (past_of g ends_before trace) f.line f.ends (frees_for g shown_before.run f.line) ends_here freed_after)

    stages_are : map shown_stage (slice_set stages f.line (progress.Ended f.ends)) ≡ slice_set (slice_set (map shown_stage stages) f.line (Ending f.ends)) f.line (Ended f.ends)
    stages_are = map-set shown_stage stages f.line (progress.Ended f.ends) ∙ sym (set-set (map shown_stage stages) f.line (Ending f.ends) (Ended f.ends))

    holders_are : holders_by g marks' ≡ holders_without (holders_by g marks) (frees_for g shown_before.run f.line)
    holders_are = frees_now ∙ ap (holders_without (holders_by g marks)) (sym freed_is)

    pub ended_shown : (events' : EventsValue) → events' ≡ record { handles = events.handles; table = ended_with events.table (handle_at shown_before f.line) (fate_for f.ends) } →
        shown_core hosted g (slice_set stages f.line (progress.Ended f.ends)) events' homes' takers' values' marks' (trace ++ f.line ∷ []) ≡ with_end shown_before f
    ended_shown events' e =
        ap (λ (ev : EventsValue). core_of hosted homes'.lendings g (run_by (past_of g ends_after (trace ++ f.line ∷ [])) (map shown_stage (slice_set stages f.line (progress.Ended f.ends))) (places_of homes'.columns takers') values' (holders_by g marks')) ev.handles ev.table) e
        ∙ (ap (λ p. core_of hosted homes'.lendings g (run_by p (map shown_stage (slice_set stages f.line (progress.Ended f.ends))) (places_of homes'.columns takers') values' (holders_by g marks')) events.handles (ended_with events.table (handle_at shown_before f.line) (fate_for f.ends))) past_is
        ∙ ap (λ (r : List LineStage × List Place × List ℕ × List (List ℕ) × List (Option Lending)). core_of hosted r.4 g (run_by (past_after shown_before) r.0 r.1 r.2 r.3) events.handles (ended_with events.table (handle_at shown_before f.line) (fate_for f.ends)))
        (λ t. (stages_are t, places t, arrives t, holders_are t, lends t)))
      where
        past_after : CoreValue → Past
        past_after c = record {
          times = slice_set c.run.times f.line (Some c.run.clock);
          clock = c.run.clock + 1;
          back = all_back c.run.back f.line (columns_for g f.line f.ends);
          arrived = arrived_with c.run.arrived f.line (arrival_for g f.line f.ends);
          freed = freed_with c.run.freed f.line (frees_for g c.run f.line);
        }

-- A LINE THAT IS OUT ends, has its columns out, and has no time yet
not_waiting : {does : Effects} (g : GraphValue) (run : Run) → SoundWith does g run → (i : ℕ) → started run.stages i ≡ true → end_with does zero_cells g i ≡ Waiting → ⊥
not_waiting {does} g run s i begun e = false≢true (ap is_ended (sym e) ∙ ended_in_evaluation s i begun)

none_by_place : (o : Option ColumnValue) (t k : ℕ) → place_of o t ≡ Had k → o ≡ None
none_by_place None t k e = refl
none_by_place (Some x) t k e = absurd (home_not_had x.cells k e)
  where
    home_not_had : (xs : List ℕ) (k : ℕ) → Home xs ≡ Had k → ⊥
    home_not_had xs k e = cc

-- WHAT COMES BACK, of a line that runs
module _ (before : CoreValue) (homes : SharedValue) (takers : List ℕ) (shows : before.run.places ≡ places_of homes.columns takers) (lends : before.lendings ≡ homes.lendings) (is_core : IsCore before) (kept : AreKept before.graph homes takers)
    (f : FinishedValue) (finished : IsFinished before f) (runs : f.ends ≢ Cancelled)
  where
    abbrev faults : ℕ → Bool
    faults = (kept_finished before f finished).0

    abbrev does : Effects
    does = effect_by faults before.graph

    abbrev core : IsCoreWith does before
    core = core_with before is_core faults (kept_finished before f finished).1

    holds : HoldsColumns before f.line f.held (column_left does before f.line)
    holds = (kept_finished before f finished).2.holds runs

    going : end_with does zero_cells before.graph f.line ≢ Cancelled
    going e = runs (sym (kept_finished before f finished).2.is_end ∙ e)

    is_out : stage_at before.run.stages f.line ≡ Out
    is_out = finished.is_out

    same_length : length homes.columns ≡ length takers
    same_length = kept.each_home ∙ sym kept.each_taker

    near_home : (k : ℕ) → AccessesColumn before.graph f.line k → k < length homes.columns
    near_home k a = subst (λ n. k < n) (sym kept.each_home) (column_there core.sound.graph f.line k a)

    column_is_out : (k : ℕ) → ChangesColumn before.graph f.line k → column_in homes k ≡ None
    column_is_out k a =
        none_by_place (column_in homes k) (slice_index takers k) f.line
        (sym (place_is homes.columns takers k same_length (near_home k (change_accesses before.graph f.line k a))) ∙ (ap (λ ps. place_at ps k) (sym shows) ∙ core.at_rest.out_has f.line k (ap stage_out is_out) going a))

    pub column_is_held : (k : ℕ) → AccessesColumn before.graph f.line k → IsSome (held_at f.held k)
    column_is_held k a = subst IsSome (sym (holds.has k a)) refl

    reads_now : (k : ℕ) → OnlyReads before.graph f.line k → IsReading before.graph before.run.stages f.line k
    reads_now k only = record { is_out = ap stage_out is_out; reads = only; runs = kept_runs core.sound f.line (out_begun before.run.stages f.line (ap stage_out is_out)) going }

    pub may_give : (a : Access) → Contains (accesses before.graph f.line) a → MayGive a homes f.held
    may_give a m = record {
      has = column_is_held a.column (a, m, refl);
      own = λ e. holds.own a.column (a, m, refl, e);
      out = λ e. column_is_out a.column (a, m, refl, e);
      share = λ e. holds.shares a.column (reads_of before.graph core.sound.graph f.line a m e) ∙ ap (λ ls. number_of (lending_in ls a.column)) lends;
      lent = λ e. (
          let l = reader_lent before.graph before.run.stages before.lendings is_core.lent f.line a.column (started_below_with core.sound.on_lines f.line (ap stage_started is_out)) (reads_now a.column (reads_of before.graph core.sound.graph f.line a m e)) in
          subst IsSome (sym (ap (λ ls. lending_in ls a.column) (sym lends) ∙ l.1)) refl);
    }

    -- a column that the line only reads is at home as the line saw it
    seen_by : SightGivesCells → (k : ℕ) → OnlyReads before.graph f.line k → (o : Option ColumnValue) → column_in homes k ≡ o → IsSome o → held_at f.held k ≡ o
    seen_by gives k only None e s = absurd (false≢true s)
    seen_by gives k only (Some x) e s =
        let place : place_at before.run.places k ≡ Home x.cells = ap (λ ps. place_at ps k) shows ∙ (place_is homes.columns takers k same_length (near_home k only.accessed) ∙ ap (λ o. place_of o (slice_index takers k)) e) in
        let cells = core.sound.on_columns.cells k x.cells place in
        let sees = sees_now before.graph before.run core.sound core.at_rest.lines f.line is_out going in
        let left = (gives does before.graph before.run f.line k (cells_now_with does before.graph before.run) core.sound sees only.accessed).1 only in
        holds.has k only.accessed ∙ ap (λ y. Some y) (sym (column_eq x (column_left does before f.line k) (kept.spaces k x e) (cells ∙ sym left)))

    pub is_seen : SightGivesCells → (k : ℕ) → OnlyReads before.graph f.line k → held_at f.held k ≡ column_in homes k
    is_seen gives k only = seen_by gives k only (column_in homes k) refl
        (is_there homes.columns takers k same_length (near_home k only.accessed) (λ taker at. core.at_rest.out_reads f.line k (ap stage_out is_out) going only taker (ap (λ ps. place_at ps k) shows ∙ at)))

-- WHERE THE COLUMNS ARE once they came back, by the end of the line
module _ (g h : GraphValue) (e : h ≡ g) (f : IsGraph g) (i : ℕ) (x : End) (held : HeldList) (old new : SharedValue) (given : x ≢ Cancelled → AreGiven h i held old new) (cancelled : x ≡ Cancelled → new ≡ old) where
  given_here : x ≢ Cancelled → AreGiven g i held old new
  given_here runs = subst (λ z. AreGiven z i held old new) e (given runs)

  places_by : (y : End) → x ≡ y → (x ≢ Cancelled → (c : ℕ) → OnlyReads g i c → held_at held c ≡ column_in old c) → (takers : List ℕ) → length old.columns ≡ length takers → (x ≢ Cancelled → (c : ℕ) → AccessesColumn g i c → IsSome (held_at held c)) →
      places_of new.columns takers ≡ all_home (places_of old.columns takers) (cells_in held) (columns_for g i y)
  places_by Cancelled is seen takers long has = ap (λ (v : SharedValue). places_of v.columns takers) (cancelled is)
  places_by Done is seen takers long has = (let runs : x ≢ Cancelled = λ c. (let d : Done ≡ Cancelled = sym is ∙ c in cc) in given_places g f i held old new (given_here runs) (seen runs) takers long (has runs))
  places_by Faulted is seen takers long has = (let runs : x ≢ Cancelled = λ c. (let d : Faulted ≡ Cancelled = sym is ∙ c in cc) in given_places g f i held old new (given_here runs) (seen runs) takers long (has runs))
  places_by Waiting is seen takers long has = (let runs : x ≢ Cancelled = λ c. (let d : Waiting ≡ Cancelled = sym is ∙ c in cc) in given_places g f i held old new (given_here runs) (seen runs) takers long (has runs))

  pub settled_places : (x ≢ Cancelled → (c : ℕ) → OnlyReads g i c → held_at held c ≡ column_in old c) → (takers : List ℕ) → length old.columns ≡ length takers → (x ≢ Cancelled → (c : ℕ) → AccessesColumn g i c → IsSome (held_at held c)) →
      places_of new.columns takers ≡ all_home (places_of old.columns takers) (cells_in held) (columns_for g i x)
  settled_places = places_by x refl

  lendings_by : (y : End) → x ≡ y → new.lendings ≡ lendings_left g i y old.lendings
  lendings_by Cancelled is = ap (λ (v : SharedValue). v.lendings) (cancelled is) ∙ none_left g i old.lendings
  lendings_by Done is = given_lendings g f i held old new (given_here (λ c. (let d : Done ≡ Cancelled = sym is ∙ c in cc))) Done (λ c. cc)
  lendings_by Faulted is = given_lendings g f i held old new (given_here (λ c. (let d : Faulted ≡ Cancelled = sym is ∙ c in cc))) Faulted (λ c. cc)
  lendings_by Waiting is = given_lendings g f i held old new (given_here (λ c. (let d : Waiting ≡ Cancelled = sym is ∙ c in cc))) Waiting (λ c. cc)

  pub settled_lendings : new.lendings ≡ lendings_left g i x old.lendings
  settled_lendings = lendings_by x refl

  kept_by : (y : End) → x ≡ y → (x ≢ Cancelled → (c : ℕ) → OnlyReads g i c → held_at held c ≡ column_in old c) → (c : ℕ) (v : ColumnValue) → column_in new c ≡ Some v → (column_in old c ≡ Some v) ⊎ (held_at held c ≡ Some v)
  kept_by Cancelled is seen c v at = inl (ap (λ (w : SharedValue). column_in w c) (sym (cancelled is)) ∙ at)
  kept_by Done is seen c v at = (let runs : x ≢ Cancelled = λ c. (let d : Done ≡ Cancelled = sym is ∙ c in cc) in given_kept g f i held old new (given_here runs) (seen runs) c v at)
  kept_by Faulted is seen c v at = (let runs : x ≢ Cancelled = λ c. (let d : Faulted ≡ Cancelled = sym is ∙ c in cc) in given_kept g f i held old new (given_here runs) (seen runs) c v at)
  kept_by Waiting is seen c v at = (let runs : x ≢ Cancelled = λ c. (let d : Waiting ≡ Cancelled = sym is ∙ c in cc) in given_kept g f i held old new (given_here runs) (seen runs) c v at)

  pub settled_kept : (x ≢ Cancelled → (c : ℕ) → OnlyReads g i c → held_at held c ≡ column_in old c) → (c : ℕ) (v : ColumnValue) → column_in new c ≡ Some v → (column_in old c ≡ Some v) ⊎ (held_at held c ≡ Some v)
  settled_kept = kept_by x refl

  long_by : (y : End) → x ≡ y → length new.columns ≡ length old.columns
  long_by Cancelled is = ap (λ (v : SharedValue). length v.columns) (cancelled is)
  long_by Done is = (given (λ c. (let d : Done ≡ Cancelled = sym is ∙ c in cc))).each_column
  long_by Faulted is = (given (λ c. (let d : Faulted ≡ Cancelled = sym is ∙ c in cc))).each_column
  long_by Waiting is = (given (λ c. (let d : Waiting ≡ Cancelled = sym is ∙ c in cc))).each_column

  pub settled_long : length new.columns ≡ length old.columns
  settled_long = long_by x refl

-- there is room in the trace for one line more
pub trace_is_short : (before : CoreValue) (trace : List ℕ) → before.run.clock ≡ (past_of before.graph (ends_so_far before.run.stages) trace).clock → IsCore before → (f : FinishedValue) → IsFinished before f → length trace < length before.graph.lines
trace_is_short before trace shows is_core f is =
    let core = kept_core before is_core in
    let s = core.sound in
    let clock : (past_of before.graph (ends_so_far before.run.stages) trace).clock ≡ 0 + length trace = clock_from before.graph (ends_so_far before.run.stages) (no_past before.graph) trace in
    let counts : before.run.clock ≡ count_below (timed before.run.times) (length before.graph.lines) = s.on_times.clock_counts in
    let below : f.line < length before.graph.lines = started_below_with s.on_lines f.line (ap stage_started is.is_out) in
    let fewer : count_below (timed before.run.times) (length before.graph.lines) + 1 ≤ count_below (λ k. true) (length before.graph.lines) =
    fewer_below (timed before.run.times) (λ k. true) (λ k h. refl) (length before.graph.lines) f.line below (core.at_rest.lines.out_untimed f.line (ap stage_out is.is_out)) refl in
    let most : count_below (λ k. true) (length before.graph.lines) ≤ length before.graph.lines = count_below-max (λ k. true) (length before.graph.lines) in
    omega (arith, shows, clock, counts, fewer, most)

-- what is kept of the columns that come home
pub ended_kept : (before : CoreValue) (homes homes' : SharedValue) (takers takers' : List ℕ) → AreKept before.graph homes takers → (f : FinishedValue) → IsFinished before f →
    length homes'.columns ≡ length homes.columns → takers' ≡ takers → ((k : ℕ) (x : ColumnValue) → column_in homes' k ≡ Some x → (column_in homes k ≡ Some x) ⊎ (held_at f.held k ≡ Some x)) → AreKept before.graph homes' takers'
ended_kept before homes homes' takers takers' kept f is long same_takers same = record {
  each_home = long ∙ kept.each_home;
  each_taker = ap length same_takers ∙ kept.each_taker;
  spaces = λ k x at. (elim (same k x at) [ inl old ↦ kept.spaces k x old | inr new ↦ by_end f.ends refl k x new ]);
}
  where
    of_line : f.ends ≢ Cancelled → (k : ℕ) (x : ColumnValue) → held_at f.held k ≡ Some x → x.space ≡ column_space before.graph k
    of_line runs k x at =
        let holds = (kept_finished before f is).2.holds runs in
        ap (λ (y : ColumnValue). y.space) (same_Some x _ (sym at ∙ holds.has k (holds.only k x at)))

    by_end : (x : End) → f.ends ≡ x → (k : ℕ) (y : ColumnValue) → held_at f.held k ≡ Some y → y.space ≡ column_space before.graph k
    by_end Cancelled e k y at = absurd (none-some y (sym ((kept_finished before f is).2.nothing e k) ∙ at))
    by_end Done e k y at = of_line (λ c. (let d : Done ≡ Cancelled = sym e ∙ c in cc)) k y at
    by_end Faulted e k y at = of_line (λ c. (let d : Faulted ≡ Cancelled = sym e ∙ c in cc)) k y at
    by_end Waiting e k y at = of_line (λ c. (let d : Waiting ≡ Cancelled = sym e ∙ c in cc)) k y at

-- THE CALL, over values
abbrev pub finished_of : ℕ × End × HeldList → FinishedValue
finished_of r = record { line = r.0; ends = r.1; held = r.2 }

pub finished_from : (f : FinishedValue) (r : ℕ × End × HeldList) → (r.0 ≡ f.line) × (r.1 ≡ f.ends) × (r.2 ≡ f.held) → finished_of r ≡ f
finished_from f r e = λ t. record { line = e.0 t; ends = e.1 t; held = e.2 t }

pub finished_is : (before now : CoreValue) (f : FinishedValue) (r : ℕ × End × HeldList) → before ≡ now → (r.0 ≡ f.line) × (r.1 ≡ f.ends) × (r.2 ≡ f.held) → IsFinished now f → IsFinished before (finished_of r)
finished_is before now f r same e is = subst (λ (c : CoreValue). IsFinished c (finished_of r)) (sym same) (subst (IsFinished now) (sym (finished_from f r e)) is)

pub ended_core : PutBackKeepsSharing → (before after : CoreValue) (f : FinishedValue) → after ≡ with_end before f → IsCore before → IsFinished before f →
    answer (with_end before f).table (handle_at before f.line) ≡ Some (answer_of (fate_for f.ends)) → ((k : Handle) → k ≢ handle_at before f.line → answer (with_end before f).table k ≡ answer before.table k) → IsCore after
ended_core law before after f eq core is here others =
    let some = kept_finished before f is in
    subst IsCore (sym eq) (core_ended law before core f is (λ e. not_waiting before.graph before.run (core_with before core some.0 some.1).sound f.line (ap stage_started is.is_out) (some.2.is_end ∙ e)) here others)

pub ended_is : (before now after : CoreValue) (f f' : FinishedValue) → before ≡ now → f ≡ f' → after ≡ with_end before f → after ≡ with_end now f'
ended_is before now after f f' same e eq = eq ∙ (ap (λ c. with_end c f) same ∙ ap (with_end now) e)

pub ended_works : PutBackLeavesSight → PutBackLeavesEnd → (before now after : CoreValue) (f f' : FinishedValue) → before ≡ now → f ≡ f' → after ≡ with_end before f → IsCore before → IsCore (with_end before f) → IsFinished before f → (k : ℕ) → k ≢ f'.line → KeepsWork now after k
ended_works sight ends before now after f f' same e eq core next is k ne =
    let twice = set-set before.run.stages f.line (Ending f.ends) (Ended f.ends) in
    let other : k ≢ f.line = λ q. ne (q ∙ ap (λ (x : FinishedValue). x.line) e) in
    let after_run = put_back_whole before.graph before.run f.line f.ends (cells_in f.held) in
    let fits = may_before before (with_end before f) f.line (Ended f.ends) refl refl twice (ap end_so_far is.is_out) in
    subst (λ (v : CoreValue). KeepsWork v after k) same (subst (λ (v : CoreValue). KeepsWork before v k) (sym eq)
    (keeps_work before core after_run (lendings_left before.graph f.line f.ends before.lendings) before.handles (ended_with before.table (handle_at before f.line) (fate_for f.ends)) next fits (numbers_left before.graph f.line f.ends before.lendings) k
    (λ out. ap (λ ss. stage_at ss k) twice ∙ (get_or-set_other before.run.stages f.line k (Ended f.ends) Unissued other ∙ out))
    (λ faults may out runs. (
    let does = effect_by faults before.graph in
    let c = core_with before core faults (fits faults may) in
    let put = may_put before f (is.evaluated faults (fits faults may) (ended_told before core f is.is_out faults may)) in
    let sees = sight does before.graph before.run k f.line f.ends (cells_in f.held) (cells_now_with does before.graph before.run) c.sound c.at_rest other put (sees_now before.graph before.run c.sound c.at_rest.lines k out runs) in
    let own = ends does before.graph before.run k f.line f.ends (end_with does zero_cells before.graph k) (cells_in f.held) (λ j. put_cells_with does before.graph k (list_at before.run.back j) j) c.sound c.at_rest other put
    (record { is_out = out; is_end = refl; leaves = λ j a going. refl }) in
    record {
      now = λ j a. column_agrees before.graph (cells_now_with does before.graph before.run) (cells_now_with does before.graph after_run) j (λ p h. sees.sees j a p h);
      left = λ j a. own.leaves j a runs;
    }))))
