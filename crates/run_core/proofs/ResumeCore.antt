-- The core that is resumed from the states of its lines.
use Rattle.std.proofs.Common.{Bool, ◌≡◌, ℕ, suc, ◌<◌, ◌≤◌, true, inl, inr, List, [], ◌∷◌, map, length, refl, sym, ◌∙◌, ap, subst, arith, false}
use Rattle.std.specs.Prelude.{Option, Some, None, slice_get, slice_index, slice_index_or}
use Rattle.std.proofs.lemmas.Bool.{false≢true, cases_lt}
use Rattle.std.proofs.lemmas.List.{ext_get_or, get_or-map, get_or_past, length-map}
use Rattle.std.proofs.lemmas.Option.{none-some, same_Some, slice_get_within, slice_get-get_or, get_or_from_slice_get}
use Rattle.index_spaces.specs.Column.{ColumnValue}
use Rattle.graph_terms.specs.declared.verb.Verb.TheVariants.{Phase}
use Rattle.graph_terms.specs.Graph.{columns, locks, verb_at}
use Rattle.graph_meaning.specs.Evaluation.{eval_end}
use Rattle.basics.specs.Lists.{count_below}
use Rattle.event_table.specs.declared.handle.Handle.{Handle}
use Rattle.event_table.specs.EventMap.{EventMap, no_event}
use Rattle.run_state.specs.Run.{LineStage, Unissued, Issued, Out, Ending, Ended, Home, Run, is_listed, stage_at, time_at, list_at, end_so_far, stage_issued, stage_started, stage_ended, ended, timed}
use Rattle.run_state.proofs.Public.{ended_over, stage_there, started_below, kept_is, ended_started}
use Rattle.basics.proofs.Choices.{some_is, is_some_of}
use Rattle.run_core.specs.Core.{CoreValue, IsCore}
use Rattle.run_lists.specs.Events.{EventsValue, handle_by, handle_of_issued, issued_handles}
use Rattle.std.proofs.lemmas.List.FromFn.{length-map-range_with_len}
use Rattle.run_lists.specs.Holders.{holders_at, holders_by}
use Rattle.run_lists.specs.Stages.{shown_stage}
use Rattle.run_core.specs.Kept.{place_of, places_of, shown_core, AreKept}
use Rattle.run_parts.specs.Shown.{stage_of}
use Rattle.run_parts.specs.Shown.{blank_state, state_at}
use Rattle.run_core.specs.Resumed.{progress_by, progress_for, stage_is_over, over_at, value_or_zero, HoldsNow, AreBeside, ShowState, InState}
use Rattle.run_parts.specs.declared.progress.Progress.{Progress}
use Rattle.run_parts.specs.declared.progress.Progress.TheVariants as progress
use Rattle.run_parts.specs.declared.states.LineState.{LineState}
use Rattle.run_core.proofs.PlaceFacts.{place_is, length-places}
use Rattle.run_core.proofs.ResumeFacts.{HeldNow, held_beside, same_back, same_arrived, same_freed, same_holders, resumed_run, resumed_sound, resumed_at_rest, resumed_none_out, run_is_kept}
use Rattle.lent_columns.specs.Lendings.{SharedValue}
use Rattle.run_core.specs.Readers.{no_lendings}
use Rattle.run_core.proofs.ReaderFacts.{bool_same, lent_first}
use Rattle.run_core.proofs.CoreFacts.{unhosted_core, kept_core}

stage_over : (st : LineStage) → stage_is_over (stage_of st) ≡ stage_ended st
stage_over Unissued = refl
stage_over Issued = refl
stage_over Out = refl
stage_over (Ending x) = refl
stage_over (Ended x) = refl

stage_back : (st : LineStage) → (stage_started st ≡ true → stage_ended st ≡ true) → shown_stage (progress_by (stage_of st) (end_so_far st)) ≡ st
stage_back Unissued q = refl
stage_back Issued q = refl
stage_back Out q = absurd (false≢true (q refl))
stage_back (Ending x) q = absurd (false≢true (q refl))
stage_back (Ended x) q = refl

issued_handle : (st : LineStage) (h : Handle) → stage_issued st ≡ true → handle_by (stage_of st) h ≡ Some h
issued_handle Unissued h e = absurd (false≢true e)
issued_handle Issued h e = refl
issued_handle Out h e = refl
issued_handle (Ending x) h e = refl
issued_handle (Ended x) h e = refl

unissued_handle : (st : LineStage) (h : Handle) → (stage_issued st ≡ true → ⊥) → handle_by (stage_of st) h ≡ None
unissued_handle Unissued h n = refl
unissued_handle Issued h n = absurd (n refl)
unissued_handle Out h n = absurd (n refl)
unissued_handle (Ending x) h n = absurd (n refl)
unissued_handle (Ended x) h n = absurd (n refl)

handles_are : (lines : List LineState) (handles : List Handle) → length handles ≤ length lines →
    ((i : ℕ) (s : LineState) → slice_get lines i ≡ Some s → i < length handles → handle_of_issued s ≡ Some (slice_index_or handles i no_event)) →
    ((i : ℕ) (s : LineState) → slice_get lines i ≡ Some s → length handles ≤ i → handle_of_issued s ≡ None) → issued_handles lines ≡ handles
handles_are [] [] few here none = refl
handles_are [] (h ∷ hs) few here none = absurd (omega (arith, few))
handles_are (x ∷ xs) [] few here none = rw (none 0 x refl (omega arith)) (handles_are xs [] (omega arith) (λ i s at b. absurd (omega (arith, b))) (λ i s at b. none (suc i) s at (omega arith)))
handles_are (x ∷ xs) (h ∷ hs) few here none = rw (here 0 x refl (omega arith)) (ap (λ ys. h ∷ ys)
    (handles_are xs hs (omega (arith, few)) (λ i s at b. here (suc i) s at (omega (arith, b))) (λ i s at b. none (suc i) s at (omega (arith, b)))))

module _ (c : CoreValue) (core : IsCore c) (run : Run) (handles : List Handle) (lines : List LineState) (table : EventMap) (homes : List (Option ColumnValue)) (phases : List (Option ℕ))
    (shows : ShowState c run handles lines table homes phases)
  where
    long_stages : length run.stages ≡ length lines
    long_stages = shows.sound.on_lines.each_line ∙ sym shows.lines_show.each_line

    at_line : (i : ℕ) → i < length lines → slice_get lines i ≡ Some (state_at lines i)
    at_line i near = slice_get-get_or lines i blank_state near

    over_is : (i : ℕ) → over_at lines i ≡ ended run.stages i
    over_is i = elim (cases_lt i (length lines)) [
      | inl near ↦ ap stage_is_over (shows.lines_show.stage i (state_at lines i) (at_line i near)) ∙ stage_over (stage_at run.stages i)
      | inr far ↦ ap (λ (s : LineState). stage_is_over s.stage) (get_or_past lines i blank_state far) ∙ sym (ap stage_ended (get_or_past run.stages i Unissued (subst (λ n. n ≤ i) (sym long_stages) far)))
    ]

    -- its time, where it has ended
    ended_time : (i : ℕ) (s : LineState) → slice_get lines i ≡ Some s → ended run.stages i ≡ true → time_at run.times i ≡ Some s.time
    ended_time i s at e =
        let t = some_is (time_at run.times i) (shows.sound.on_times.over_timed i (ended_over (stage_at run.stages i) e)) in
        t.1 ∙ ap Some (sym (shows.lines_show.timed i t.0 s at t.1))

    state_over : (i : ℕ) (s : LineState) → slice_get lines i ≡ Some s → stage_is_over s.stage ≡ true → ended run.stages i ≡ true
    state_over i s at e = sym (stage_over (stage_at run.stages i)) ∙ (sym (ap stage_is_over (shows.lines_show.stage i s at)) ∙ e)

    over_timed : (i : ℕ) → over_at lines i ≡ timed run.times i
    over_timed i = over_is i ∙ bool_same (ended run.stages i) (timed run.times i)
        (λ e. shows.sound.on_times.over_timed i (ended_over (stage_at run.stages i) e))
        (λ t. shows.quiet i (shows.sound.on_times.timed_started i t))

    pub count_is : count_below (over_at lines) (length lines) ≡ run.clock
    count_is = (λ t. count_below (λ i. over_timed i t) (shows.lines_show.each_line t)) ∙ sym shows.sound.on_times.clock_counts

    pub lines_times : (i : ℕ) (s : LineState) → slice_get lines i ≡ Some s → stage_is_over s.stage ≡ true → s.time < count_below (over_at lines) (length lines)
    lines_times i s at e = subst (λ n. s.time < n) (sym count_is) (shows.sound.on_times.below_clock i s.time (ended_time i s at (state_over i s at e)))

    pub lines_once : (i j : ℕ) (s t : LineState) → slice_get lines i ≡ Some s → slice_get lines j ≡ Some t → stage_is_over s.stage ≡ true → stage_is_over t.stage ≡ true → s.time ≡ t.time → i ≡ j
    lines_once i j s t ati atj ei ej e = shows.sound.on_times.distinct i j t.time (ended_time i s ati (state_over i s ati ei) ∙ ap Some e) (ended_time j t atj (state_over j t atj ej))

    -- who holds a reservation
    end_is : (q : ℕ) → ended run.stages q ≡ true → (state_at lines q).end ≡ eval_end c.graph q
    end_is q e =
        let near : q < length lines = subst (λ n. q < n) (sym shows.lines_show.each_line) (started_below shows.sound.on_lines q (ended_started run.stages q e)) in
        shows.lines_show.is_end q (state_at lines q) (at_line q near) ∙ kept_is shows.sound.on_lines q (ended_over (stage_at run.stages q) e)

    holds_held : (q l : ℕ) → HoldsNow c.graph lines q l → HeldNow c.graph run q l
    holds_held q l h =
        let e = sym (over_is q) ∙ h.over in
        record { acquires = h.acquires; ends = e; done = sym (end_is q e) ∙ h.is_done; kept = λ r rel o. h.kept r rel (over_is r ∙ o) }

    held_holds : (q l : ℕ) → HeldNow c.graph run q l → HoldsNow c.graph lines q l
    held_holds q l h = record { acquires = h.acquires; over = over_is q ∙ h.ends; is_done = end_is q h.ends ∙ h.done; kept = λ r rel o. h.kept r rel (sym (over_is r) ∙ o) }

    pub lines_beside : AreBeside c.graph lines
    lines_beside l q k a b ne = held_beside c.graph run shows.sound shows.quiet l q k (holds_held q l a) (holds_held k l b) ne

    -- the handles
    few_handles : length handles ≤ length lines
    few_handles = elim (cases_lt (length lines) (length handles)) [
      | inl more ↦ (let z : length lines < length run.stages = stage_there run.stages (length lines) ((shows.events.each_issued (length lines)).1 more) in let e : length run.stages ≡ length lines = long_stages in absurd (omega (arith, z, e)))
      | inr few ↦ few
    ]

    handle_of : (i : ℕ) (s : LineState) → slice_get lines i ≡ Some s → handle_of_issued s ≡ handle_by (stage_of (stage_at run.stages i)) (slice_index_or handles i no_event)
    handle_of i s at = λ t. handle_by (shows.lines_show.stage i s at t) (shows.lines_show.named i s at t)

    pub same_handles : issued_handles lines ≡ handles
    same_handles = handles_are lines handles few_handles
        (λ i s at b. handle_of i s at ∙ issued_handle (stage_at run.stages i) (slice_index_or handles i no_event) ((shows.events.each_issued i).1 b))
        (λ i s at b. handle_of i s at ∙ unissued_handle (stage_at run.stages i) (slice_index_or handles i no_event) (λ e. (let z : i < length handles = (shows.events.each_issued i).0 e in absurd (omega (arith, z, b)))))

    -- the stages
    pub same_stages : map shown_stage (map progress_for lines) ≡ run.stages
    same_stages = ext_get_or Unissued (map shown_stage (map progress_for lines)) run.stages
        (length-map (map progress_for lines) shown_stage ∙ (length-map lines progress_for ∙ sym long_stages))
        (λ i near.
        let below : i < length lines = subst (λ n. i < n) (length-map (map progress_for lines) shown_stage ∙ length-map lines progress_for) near in
        get_or-map shown_stage (map progress_for lines) i progress.Unissued Unissued (subst (λ n. i < n) (sym (length-map lines progress_for)) below)
        ∙ (ap shown_stage (get_or-map progress_for lines i blank_state progress.Unissued below)
        ∙ ((λ t. shown_stage (progress_by (shows.lines_show.stage i (state_at lines i) (at_line i below) t) (shows.lines_show.is_end i (state_at lines i) (at_line i below) t)))
        ∙ stage_back (stage_at run.stages i) (shows.quiet i))))

    -- the values of phases
    pub same_values : (p b : ℕ) → verb_at c.graph p ≡ Some (Phase b) → slice_index (map value_or_zero phases) p ≡ slice_index run.values p
    same_values p b e =
        let at = shows.phases_show.value p b e in
        get_or-map value_or_zero phases p None 0 (slice_get_within phases p (Some (slice_index run.values p)) at) ∙ ap value_or_zero (get_or_from_slice_get phases p (Some (slice_index run.values p)) None at)

    -- its columns, of which none is lent
    abbrev pub at_home : SharedValue
    at_home = record { columns = homes; lendings = no_lendings c.graph }

    module _ (takers : List ℕ) (taken : length takers ≡ length (columns c.graph)) where
      pub same_places : places_of homes takers ≡ run.places
      same_places = ext_get_or (Home []) (places_of homes takers) run.places
          (length-places homes takers (shows.homes_show.each_home ∙ sym taken) ∙ (shows.homes_show.each_home ∙ sym shows.sound.on_columns.each_column))
          (λ k near.
          let inside : k < length homes = subst (λ n. k < n) (length-places homes takers (shows.homes_show.each_home ∙ sym taken)) near in
          let h = shows.homes_show.at_home k (subst (λ n. k < n) shows.homes_show.each_home inside) in
          place_is homes takers k (shows.homes_show.each_home ∙ sym taken) inside
          ∙ (ap (λ o. place_of o (slice_index takers k)) (get_or_from_slice_get homes k (Some h.0) None h.1) ∙ sym h.3))

      pub resumed_kept : AreKept c.graph at_home takers
      resumed_kept = record {
        each_home = shows.homes_show.each_home;
        each_taker = taken;
        spaces = λ k x at. elim (cases_lt k (length homes)) [
          | inl near ↦ (let h = shows.homes_show.at_home k (subst (λ n. k < n) shows.homes_show.each_home near) in ap (λ (y : ColumnValue). y.space) (same_Some x h.0 (sym at ∙ get_or_from_slice_get homes k (Some h.0) None h.1)) ∙ h.2)
          | inr far ↦ absurd (none-some x (sym (get_or_past homes k None far) ∙ at))
        ];
      }

      module _ (marks : List Bool) (only : (l q : ℕ) → is_listed (list_at (holders_by c.graph marks) l) q ≡ true → HoldsNow c.graph lines q l) (all : (l q : ℕ) → HoldsNow c.graph lines q l → is_listed (list_at (holders_by c.graph marks) l) q ≡ true)
          (trace : List ℕ) (count : length trace ≡ count_below (over_at lines) (length lines)) (at : (i : ℕ) (s : LineState) → slice_get lines i ≡ Some s → stage_is_over s.stage ≡ true → slice_get trace s.time ≡ Some i)
        where
          pub long : length trace ≡ run.clock
          long = count ∙ count_is

          pub placed : (i t : ℕ) → time_at run.times i ≡ Some t → slice_get trace t ≡ Some i
          placed i t e =
              let s = shows.quiet i (shows.sound.on_times.timed_started i (is_some_of (time_at run.times i) t e)) in
              let near : i < length lines = subst (λ n. i < n) (sym shows.lines_show.each_line) (started_below shows.sound.on_lines i (ended_started run.stages i s)) in
              ap (slice_get trace) (sym (shows.lines_show.timed i t (state_at lines i) (at_line i near) e)) ∙ at i (state_at lines i) (at_line i near) (over_is i ∙ s)

          abbrev pub values : List ℕ
          values = map value_or_zero phases

          pub each_value : length values ≡ length c.graph.lines
          each_value = length-map phases value_or_zero ∙ shows.phases_show.each_line

          pub each_lock : length (holders_by c.graph marks) ≡ length (locks c.graph)
          each_lock = length-map-range_with_len (holders_at c.graph marks) 0 (length (locks c.graph))

          pub held_only : (l q : ℕ) → is_listed (list_at (holders_by c.graph marks) l) q ≡ true → HeldNow c.graph run q l
          held_only l q h = holds_held q l (only l q h)

          pub held_all : (l q : ℕ) → HeldNow c.graph run q l → is_listed (list_at (holders_by c.graph marks) l) q ≡ true
          held_all l q h = all l q (held_holds q l h)

          abbrev pub the_run : Run
          the_run = resumed_run c.graph run shows.sound shows.quiet trace long placed values each_value same_values (holders_by c.graph marks) each_lock held_only held_all

          abbrev pub the_core : CoreValue
          the_core = record { graph = c.graph; «run» = the_run; «handles» = handles; «table» = table; hosted = false; lendings = no_lendings c.graph }

          pub is_core : IsCore the_core
          is_core = unhosted_core the_core refl (record {
            sound = resumed_sound c.graph run shows.sound shows.quiet trace long placed values each_value same_values (holders_by c.graph marks) each_lock held_only held_all;
            at_rest = resumed_at_rest c.graph run shows.sound shows.quiet trace long placed values each_value same_values (holders_by c.graph marks) each_lock held_only held_all;
            lent = lent_first c.graph run.stages (resumed_none_out c.graph run shows.sound shows.quiet trace long placed values each_value same_values (holders_by c.graph marks) each_lock held_only held_all);
            events = shows.events;
            slots = λ n need. subst (λ k. n ≤ k) (sym shows.slots) ((kept_core c core).slots n need);
          })

          pub in_state : InState c.graph run handles table the_core
          in_state = record {
            graph = refl;
            handled = refl;
            tabled = refl;
            unhosted = refl;
            unlent = refl;
            stages = refl;
            times = refl;
            clock = refl;
            places = refl;
            «values» = same_values;
            back = same_back c.graph run shows.sound shows.quiet trace long placed;
            arrived = same_arrived c.graph run shows.sound shows.quiet trace long placed;
            «holders» = same_holders c.graph run shows.sound shows.quiet trace long placed values each_value same_values (holders_by c.graph marks) each_lock held_only held_all;
            freed = same_freed c.graph run shows.sound shows.quiet trace long placed;
          }

          pub core_is : (stages : List Progress) (events : EventsValue) (shared : SharedValue) (vs : List ℕ) → shared ≡ at_home → stages ≡ map progress_for lines → events ≡ record { handles = issued_handles lines; table = table } → vs ≡ map value_or_zero phases →
              shown_core false c.graph stages events shared takers vs marks trace ≡ the_core
          core_is stages events shared vs h s e v =
              (λ t. shown_core false c.graph (s t) (e t) (h t) takers (v t) marks trace)
              ∙ (λ t. record {
                graph = c.graph;
                «run» = run_is_kept c.graph run shows.sound shows.quiet trace long placed values each_value same_values (holders_by c.graph marks) each_lock held_only held_all (map shown_stage (map progress_for lines)) (places_of homes takers) same_stages same_places t;
                «handles» = same_handles t;
                «table» = table;
                hosted = false;
                lendings = no_lendings c.graph;
              })

          pub resumed_is : (stages : List Progress) (events : EventsValue) (shared : SharedValue) (vs : List ℕ) → shared ≡ at_home → stages ≡ map progress_for lines → events ≡ record { handles = issued_handles lines; table = table } → vs ≡ map value_or_zero phases →
              IsCore (shown_core false c.graph stages events shared takers vs marks trace) × InState c.graph run handles table (shown_core false c.graph stages events shared takers vs marks trace)
          resumed_is stages events shared vs h s e v =
              let is = sym (core_is stages events shared vs h s e v) in
              (subst IsCore is is_core, subst (InState c.graph run handles table) is in_state)
