-- A state in which no work is out, with its lists in the order of its times, is sound and at rest.
use Rattle.std.proofs.Common.{◌≡◌, ◌≢◌, ℕ, ◌+◌, ◌<◌, Bool, true, false, ◌⊎◌, inl, inr, List, [], map, length, refl, sym, ◌∙◌, ap, subst, arith}
use Rattle.std.specs.Prelude.{Option, Some, None, slice_get, slice_index}
use Rattle.std.specs.Option.{option_map_or}
use Rattle.std.proofs.lemmas.Bool.{true≢false, false_from_ne_true}
use Rattle.std.proofs.lemmas.List.{ext_get_or}
use Rattle.std.proofs.lemmas.List.FromFn.{length-map-range_with_len}
use Rattle.std.proofs.lemmas.Option.{none-some, same_Some, slice_get_within, slice_get-get_or}
use Rattle.index_spaces.specs.declared.Op.{Op}
use Rattle.basics.specs.Lists.{numbers_below}
use Rattle.graph_terms.specs.declared.outcome.End.{End}
use Rattle.graph_terms.specs.declared.outcome.End.TheVariants.{Done, Faulted, Cancelled, Waiting}
use Rattle.graph_terms.specs.declared.verb.Verb.{Verb}
use Rattle.graph_terms.specs.declared.verb.Verb.TheVariants.{Phase, Arrive}
use Rattle.graph_terms.specs.Graph.{GraphValue, columns, locks, space_at, verb_at, line_passes}
use Rattle.graph_terms.specs.Reservations.{Acquires, Releases, both_shared}
use Rattle.graph_terms.specs.declared.outcome.Verdict.TheVariants.{Fine}
use Rattle.graph_meaning.specs.Effect.{Cells, verb_verdict, effect}
use Rattle.graph_meaning.specs.Evaluation.{eval_end, evaluation, end_by, is_cancelled, step_by, cells_of, cells_of_lines, column_of, has_ended}
use Rattle.graph_meaning.proofs.Public.{ends_by_turn}
use Rattle.graph_terms.proofs.Public.{acquire_is, release_is, passes_verb, verb_passes, release_names}
use Rattle.run_state.specs.Run.{LineStage, Place, Run, is_listed, stage_at, time_at, list_at, started, ended, out, timed}
use Rattle.run_state.specs.Sound.{AccessesColumn, is_arrive, value_for, Once, SoundColumns, SoundPhases, SoundLocks, Sound}
use Rattle.run_state.specs.Sharing.{AtRestSharingWith}
use Rattle.run_state.specs.WholeLine.{lock_by, lock_of, columns_for, arrival_by, arrival_for, freed_lock}
use Rattle.run_state.proofs.Public.{listed_contains, none_listed, out_started, over_started, ended_over, out_not_ended, started_below, started_ends, column_there, got_listed, accessed_listed, kept_is, ended_started}
use Rattle.basics.proofs.Choices.{some_is, is_some_of}
use Rattle.run_state.proofs.PutBack.{for_listed, acquire_is_ended}
use Rattle.run_state.proofs.Reductions.{once_fresh, same_reduced}
use Rattle.basics.proofs.ListFacts.{same_at}
use Rattle.run_lists.specs.Holders.{frees_as, frees}
use Rattle.run_lists.specs.Stages.{ends_so_far}
use Rattle.run_core.specs.Kept.{Past, no_past, past_of, run_by}
use Rattle.run_core.proofs.ReaderFacts.{bool_same}
use Rattle.run_core.proofs.PastFacts.{clock_from, at_time, past_same}
use Rattle.run_core.proofs.PastLists.{length-back_from, length-times_from, back_cases, back_new, arrived_from_cases, arrived_from_new, once_from, Frees, freed_from_cases, freed_from_new, times_new}
use Rattle.run_core.proofs.EndedFacts.{frees_where}

no_times_long : (n : ℕ) → length (map (λ (k : ℕ). (let none : Option ℕ = None in none)) (numbers_below n)) ≡ n
no_times_long n = length-map-range_with_len (λ (k : ℕ). (let none : Option ℕ = None in none)) 0 n

no_back_long : (n : ℕ) → length (map (λ (k : ℕ). (let none : List ℕ = [] in none)) (numbers_below n)) ≡ n
no_back_long n = length-map-range_with_len (λ (k : ℕ). (let none : List ℕ = [] in none)) 0 n

listed_got : (xs : List ℕ) (i : ℕ) → is_listed xs i ≡ true → (k : ℕ) × (slice_get xs k ≡ Some i)
listed_got xs i h = let c = listed_contains xs i h in (c.0, slice_get-get_or xs c.0 i c.1 ∙ ap Some c.2)

listed_for : (g : GraphValue) (i : ℕ) (x : End) (c : ℕ) → x ≢ Cancelled → AccessesColumn g i c → is_listed (columns_for g i x) c ≡ true
listed_for g i Cancelled c ne a = absurd (ne refl)
listed_for g i Done c ne a = accessed_listed g i c a
listed_for g i Faulted c ne a = accessed_listed g i c a
listed_for g i Waiting c ne a = accessed_listed g i c a

-- what arrives is an arrival
arrival_some : (g : GraphValue) (v : Verb) (a : Op × ℕ × ℕ) → arrival_by g v ≡ Some a → is_arrive v ≡ true
arrival_some g (Arrive p n w) a e = refl
arrival_some g v a e = absurd (none-some a e)

arrival_verb : (g : GraphValue) (i : ℕ) (o : Option Verb) (a : Op × ℕ × ℕ) → verb_at g i ≡ o → option_map_or (arrival_by g) o None ≡ Some a → line_passes is_arrive g i ≡ true
arrival_verb g i None a at e = absurd (none-some a e)
arrival_verb g i (Some v) a at e = verb_passes is_arrive g i v at ∙ arrival_some g v a e

arrives_is : (g : GraphValue) (i : ℕ) (x : End) (a : Op × ℕ × ℕ) → arrival_for g i x ≡ Some a → (x ≢ Cancelled) × (line_passes is_arrive g i ≡ true)
arrives_is g i Cancelled a e = absurd (none-some a e)
arrives_is g i Done a e = (λ c. cc, arrival_verb g i (verb_at g i) a refl e)
arrives_is g i Faulted a e = (λ c. cc, arrival_verb g i (verb_at g i) a refl e)
arrives_is g i Waiting a e = (λ c. cc, arrival_verb g i (verb_at g i) a refl e)

some_arrival : (g : GraphValue) (v : Verb) → is_arrive v ≡ true → (a : Op × ℕ × ℕ) × (arrival_by g v ≡ Some a)
some_arrival g (Arrive p n w) h = (_, refl)
some_arrival g v h = absurd (true≢false (sym h))

arrives_by : (g : GraphValue) (i : ℕ) → line_passes is_arrive g i ≡ true → (a : Op × ℕ × ℕ) × (option_map_or (arrival_by g) (verb_at g i) None ≡ Some a)
arrives_by g i h =
    let v = passes_verb is_arrive g i h in
    let a = some_arrival g v.0 v.2 in
    (a.0, ap (λ o. option_map_or (arrival_by g) o None) v.1 ∙ a.1)

arrives : (g : GraphValue) (i : ℕ) (x : End) → x ≢ Cancelled → line_passes is_arrive g i ≡ true → (a : Op × ℕ × ℕ) × (arrival_for g i x ≡ Some a)
arrives g i Cancelled ne h = absurd (ne refl)
arrives g i Done ne h = arrives_by g i h
arrives g i Faulted ne h = arrives_by g i h
arrives g i Waiting ne h = arrives_by g i h

-- what frees is the release of an acquire that is done
done_frees : (q : ℕ) (x : End) (o : Option ℕ) (a : ℕ × ℕ) → freed_lock q x o ≡ Some a → x ≡ Done
done_frees q Done o a e = refl
done_frees q Faulted o a e = absurd (none-some a e)
done_frees q Cancelled o a e = absurd (none-some a e)
done_frees q Waiting o a e = absurd (none-some a e)

release_frees : (g : GraphValue) (r q : ℕ) (a : ℕ × ℕ) → Releases g r q → frees g (eval_end g) r ≡ Some a → eval_end g q ≡ Done
release_frees g r q a rel e = done_frees q (eval_end g q) (lock_of g q) a (ap (λ o. option_map_or (frees_as g (eval_end g)) o None) (sym (release_is g r q rel)) ∙ e)

frees_done : (g : GraphValue) (r q l : ℕ) → Releases g r q → Acquires g q l → eval_end g q ≡ Done → Frees g (eval_end g) r
frees_done g r q l rel acq done = (
  (l, q),
  ap (λ o. option_map_or (frees_as g (eval_end g)) o None) (release_is g r q rel)
      ∙ (ap (λ x. freed_lock q x (lock_of g q)) done ∙ ap (λ o. freed_lock q Done (option_map_or lock_by o None)) (acquire_is g q l acq)),
)

-- an acquire that ends is done or cancelled
acquire_ends : (g : GraphValue) (q l : ℕ) → Acquires g q l → has_ended (evaluation g) q ≡ true → eval_end g q ≢ Cancelled → eval_end g q ≡ Done
acquire_ends g q l acq h ne =
    let t = ends_by_turn g q h in by (is_cancelled g (evaluation g) q) (cells_of t.before) t.end_is
  where
    fine : (cells : Cells) → (step_by q false (effect g q cells)).ends ≡ Done
    fine cells = ap (λ o. end_by (option_map_or (verb_verdict (space_at g) cells) o Fine)) (acquire_is g q l acq)

    by : (b : Bool) (cells : Cells) → eval_end g q ≡ (step_by q b (effect g q cells)).ends → eval_end g q ≡ Done
    by true cells e = absurd (ne e)
    by false cells e = e ∙ fine cells

-- who holds a reservation
pub record HeldNow (g : GraphValue) (run : Run) (q l : ℕ) : Type 0 where
  pub acquires : Acquires g q l
  pub ends : ended run.stages q ≡ true
  pub done : eval_end g q ≡ Done
  pub kept : (r : ℕ) → Releases g r q → ended run.stages r ≡ true → ⊥

done_apart : (x : End) → x ≡ Done → x ≡ Cancelled → ⊥
done_apart x a b = cc

module _ (g : GraphValue) (run : Run) (s : Sound g run) (quiet : (i : ℕ) → started run.stages i ≡ true → ended run.stages i ≡ true) where
  pub held_listed : (q l : ℕ) → HeldNow g run q l → is_listed (list_at run.holders l) q ≡ true
  held_listed q l h = elim (s.on_locks.timed_holds l q h.acquires (s.on_times.over_timed q (ended_over (stage_at run.stages q) h.ends)) (done_apart (eval_end g q) h.done)) [
    | inl here ↦ here
    | inr freed ↦ absurd (h.kept freed.0 freed.1 (quiet freed.0 (over_started (stage_at run.stages freed.0) (s.on_locks.freed_over freed.0 freed.2))))
  ]

  pub listed_held : (q l : ℕ) → is_listed (list_at run.holders l) q ≡ true → HeldNow g run q l
  listed_held q l h =
      let acq = s.on_locks.holder_acquires l q h in
      let is_done = acquire_ends g q l acq (started_ends s.graph s.accepted s.on_lines q (s.on_locks.holder_started l q h)) (s.on_locks.holder_not_cancelled l q h) in
      record {
        acquires = acq;
        ends = quiet q (s.on_locks.holder_started l q h);
        done = is_done;
        kept = λ r rel e. s.on_locks.freed_gone l q r rel (s.on_locks.ended_freed r q rel e is_done) h;
      }

  pub held_beside : (l q k : ℕ) → HeldNow g run q l → HeldNow g run k l → q ≢ k → both_shared g q k ≡ true
  held_beside l q k a b ne = s.on_locks.holder_alone l q k (held_listed q l a) (held_listed k l b) ne

module _ (g : GraphValue) (run : Run) (s : Sound g run) (quiet : (i : ℕ) → started run.stages i ≡ true → ended run.stages i ≡ true)
    (trace : List ℕ) (long : length trace ≡ run.clock) (placed : (i t : ℕ) → time_at run.times i ≡ Some t → slice_get trace t ≡ Some i)
  where
    abbrev past : Past
    past = past_of g (eval_end g) trace

    got_time : (t i : ℕ) → slice_get trace t ≡ Some i → time_at run.times i ≡ Some t
    got_time t i e =
        let below : t < length trace = slice_get_within trace t i e in
        let j = s.on_times.all_drawn t (subst (λ n. t < n) long below) in
        ap (time_at run.times) (same_Some i j.0 (sym e ∙ placed j.0 t j.1)) ∙ j.1

    listed_ended : (i : ℕ) → is_listed trace i ≡ true → ended run.stages i ≡ true
    listed_ended i h = let k = listed_got trace i h in quiet i (s.on_times.timed_started i (is_some_of (time_at run.times i) k.0 (got_time k.0 i k.1)))

    ended_listed : (i : ℕ) → ended run.stages i ≡ true → is_listed trace i ≡ true
    ended_listed i h = let t = some_is (time_at run.times i) (s.on_times.over_timed i (ended_over (stage_at run.stages i) h)) in got_listed trace t.0 i (placed i t.0 t.1)

    trace_once : Once trace
    trace_once a b i ea eb = same_Some a b (sym (got_time a i ea) ∙ got_time b i eb)

    -- the times
    times_by : (i : ℕ) (a b : Option ℕ) → time_at past.times i ≡ a → time_at run.times i ≡ b → a ≡ b
    times_by i None None ea eb = refl
    times_by i (Some u) b ea eb = sym (got_time u i (at_time g (eval_end g) trace i u ea)) ∙ eb
    times_by i None (Some t) ea eb =
        let below : i < length g.lines = started_below s.on_lines i (s.on_times.timed_started i (is_some_of (time_at run.times i) t eb)) in
        let u = times_new g (eval_end g) (no_past g) trace i (subst (λ n. i < n) (sym (no_times_long (length g.lines))) below) (got_listed trace t i (placed i t eb)) in
        absurd (none-some u.0 (sym ea ∙ u.1))

    pub same_times : past.times ≡ run.times
    same_times = ext_get_or None past.times run.times
        (length-times_from g (eval_end g) (no_past g) trace ∙ (no_times_long (length g.lines) ∙ sym s.on_times.each_time))
        (λ i near. times_by i (time_at past.times i) (time_at run.times i) refl refl)

    pub same_clock : past.clock ≡ run.clock
    same_clock = (let e : past.clock ≡ 0 + length trace = clock_from g (eval_end g) (no_past g) trace in let z : past.clock ≡ length trace = omega (arith, e) in z) ∙ long

    -- the lines put back
    long_back : length past.back ≡ length (columns g)
    long_back = length-back_from g (eval_end g) (no_past g) trace ∙ no_back_long (length (columns g))

    pub same_back : (c i : ℕ) → is_listed (list_at past.back c) i ≡ is_listed (list_at run.back c) i
    same_back c i = bool_same (is_listed (list_at past.back c) i) (is_listed (list_at run.back c) i)
        (λ h. elim (back_cases g (eval_end g) (no_past g) trace c i h) [
          | inl e ↦ (let f = for_listed g i (eval_end g i) c e.1 in s.on_columns.over_back c i (ended_over (stage_at run.stages i) (listed_ended i e.0)) f.1 f.0)
          | inr none ↦ absurd (none_listed i (ap (λ ks. is_listed ks i) (sym (same_at {X = List ℕ} [] (length (columns g)) c)) ∙ none))
        ])
        (λ h. back_new g (eval_end g) (no_past g) trace c i
        (subst (λ n. c < n) (sym (no_back_long (length (columns g)))) (column_there s.graph i c (s.on_columns.back_accessed c i h)))
        (ended_listed i (quiet i (s.on_columns.back_started c i h)))
        (listed_for g i (eval_end g i) c (s.on_columns.back_not_cancelled c i h) (s.on_columns.back_accessed c i h)))

    -- the arrivals
    pub same_arrived : (i : ℕ) → is_listed past.arrived i ≡ is_listed run.arrived i
    same_arrived i = bool_same (is_listed past.arrived i) (is_listed run.arrived i)
        (λ h. elim (arrived_from_cases g (eval_end g) (no_past g) trace i h) [
          | inl e ↦ (let f = arrives_is g i (eval_end g i) e.1.0 e.1.1 in s.on_phases.over_arrived i (ended_over (stage_at run.stages i) (listed_ended i e.0)) f.1 f.0)
          | inr none ↦ absurd (none_listed i none)
        ])
        (λ h. arrived_from_new g (eval_end g) (no_past g) trace i (ended_listed i (quiet i (s.on_phases.arrived_started i h)))
        (arrives g i (eval_end g i) (s.on_phases.arrived_not_cancelled i h) (s.on_phases.arrived_arrives i h)))

    once_arrived : Once past.arrived
    once_arrived = once_from g (eval_end g) (no_past g) trace (once_fresh trace trace_once) (λ a b i ea eb. absurd (none-some i ea)) (λ k h l. none_listed k h)

    -- the releases
    freed_ended : (r : ℕ) → is_listed past.freed r ≡ true → ended run.stages r ≡ true
    freed_ended r h = elim (freed_from_cases g (eval_end g) (no_past g) trace r h) [ inl e ↦ listed_ended r e.0 | inr none ↦ absurd (none_listed r none) ]

    pub same_freed : (r q : ℕ) → Releases g r q → is_listed past.freed r ≡ is_listed run.freed r
    same_freed r q rel = bool_same (is_listed past.freed r) (is_listed run.freed r)
        (λ h. elim (freed_from_cases g (eval_end g) (no_past g) trace r h) [
          | inl e ↦ s.on_locks.ended_freed r q rel (listed_ended r e.0) (release_frees g r q e.1.0 rel e.1.1)
          | inr none ↦ absurd (none_listed r none)
        ])
        (λ h. let a = release_names g s.graph r q rel in
        freed_from_new g (eval_end g) (no_past g) trace r (ended_listed r (quiet r (over_started (stage_at run.stages r) (s.on_locks.freed_over r h)))) (frees_done g r q a.0 rel a.1 (s.on_locks.freed_done r q rel h)))

    module _ (values : List ℕ) (each_value : length values ≡ length g.lines) (same_values : (p b : ℕ) → verb_at g p ≡ Some (Phase b) → slice_index values p ≡ slice_index run.values p)
        (holders : List (List ℕ)) (each_lock : length holders ≡ length (locks g)) (only : (l q : ℕ) → is_listed (list_at holders l) q ≡ true → HeldNow g run q l) (all : (l q : ℕ) → HeldNow g run q l → is_listed (list_at holders l) q ≡ true)
      where
        pub same_holders : (l q : ℕ) → is_listed (list_at holders l) q ≡ is_listed (list_at run.holders l) q
        same_holders l q = bool_same (is_listed (list_at holders l) q) (is_listed (list_at run.holders l) q) (λ h. held_listed g run s quiet q l (only l q h)) (λ h. all l q (listed_held g run s quiet q l h))

        sound_columns : SoundColumns g run.stages run.places past.back
        sound_columns = record {
          each_column = s.on_columns.each_column;
          each_back = long_back;
          had_out = s.on_columns.had_out;
          had_accessed = s.on_columns.had_accessed;
          had_not_cancelled = s.on_columns.had_not_cancelled;
          had_not_back = λ c i h. same_back c i ∙ s.on_columns.had_not_back c i h;
          over_back = λ c i o a n. same_back c i ∙ s.on_columns.over_back c i o a n;
          back_started = λ c i h. s.on_columns.back_started c i (sym (same_back c i) ∙ h);
          back_accessed = λ c i h. s.on_columns.back_accessed c i (sym (same_back c i) ∙ h);
          back_not_cancelled = λ c i h. s.on_columns.back_not_cancelled c i (sym (same_back c i) ∙ h);
          cells = λ c xs e. s.on_columns.cells c xs e ∙ (λ t. (column_of g (cells_of_lines g (λ i. sym (same_back c i) t)) c).cells);
        }

        sound_phases : SoundPhases g run.stages values past.arrived
        sound_phases = record {
          each_value = each_value;
          value = λ p b x e at. same_values p b e ∙ (s.on_phases.value p b x e at
              ∙ same_reduced x.op (value_for g p) past.arrived run.arrived (once_fresh past.arrived once_arrived) (once_fresh run.arrived s.on_phases.arrived_once)
              (λ i v ei. (λ l. same_arrived i ∙ l, λ l. sym (same_arrived i) ∙ l)) x.first);
          arrived_started = λ i h. s.on_phases.arrived_started i (sym (same_arrived i) ∙ h);
          arrived_arrives = λ i h. s.on_phases.arrived_arrives i (sym (same_arrived i) ∙ h);
          arrived_once = once_arrived;
          arrived_not_cancelled = λ i h. s.on_phases.arrived_not_cancelled i (sym (same_arrived i) ∙ h);
          over_arrived = λ i o a n. same_arrived i ∙ s.on_phases.over_arrived i o a n;
        }

        timed_holds : (l q : ℕ) → Acquires g q l → timed run.times q ≡ true → eval_end g q ≢ Cancelled → (is_listed (list_at holders l) q ≡ true) ⊎ ((r : ℕ) × Releases g r q × (is_listed past.freed r ≡ true))
        timed_holds l q a t n = elim (s.on_locks.timed_holds l q a t n) [
          | inl here ↦ inl (same_holders l q ∙ here)
          | inr f ↦ inr (f.0, f.1, same_freed f.0 q f.1 ∙ f.2)
        ]

        sound_locks : SoundLocks g run.stages run.times holders past.freed
        sound_locks = record {
          each_lock = each_lock;
          holder_acquires = λ l q h. s.on_locks.holder_acquires l q (sym (same_holders l q) ∙ h);
          holder_started = λ l q h. s.on_locks.holder_started l q (sym (same_holders l q) ∙ h);
          holder_not_cancelled = λ l q h. s.on_locks.holder_not_cancelled l q (sym (same_holders l q) ∙ h);
          holder_alone = λ l q k h j ne. s.on_locks.holder_alone l q k (sym (same_holders l q) ∙ h) (sym (same_holders l k) ∙ j) ne;
          timed_holds = timed_holds;
          freed_over = λ r h. ended_over (stage_at run.stages r) (freed_ended r h);
          freed_ended = λ r q rel h. s.on_locks.freed_ended r q rel (sym (same_freed r q rel) ∙ h);
          freed_done = λ r q rel h. s.on_locks.freed_done r q rel (sym (same_freed r q rel) ∙ h);
          freed_gone = λ l q r rel h j. s.on_locks.freed_gone l q r rel (sym (same_freed r q rel) ∙ h) (sym (same_holders l q) ∙ j);
          ended_freed = λ r q rel e d. same_freed r q rel ∙ s.on_locks.ended_freed r q rel e d;
        }

        abbrev pub resumed_run : Run
        resumed_run = record {
          stages = run.stages;
          times = run.times;
          clock = run.clock;
          places = run.places;
          back = past.back;
          «values» = values;
          arrived = past.arrived;
          «holders» = holders;
          freed = past.freed;
        }

        pub resumed_sound : Sound g resumed_run
        resumed_sound = record { graph = s.graph; accepted = s.accepted; keeps = s.keeps; on_lines = s.on_lines; on_columns = sound_columns; on_phases = sound_phases; on_locks = sound_locks; on_times = s.on_times }

        not_out : (i : ℕ) → out run.stages i ≡ true → ⊥
        not_out i o = true≢false (sym (quiet i (out_started (stage_at run.stages i) o)) ∙ out_not_ended (stage_at run.stages i) o)

        pub resumed_at_rest : AtRestSharingWith (effect g) g resumed_run
        resumed_at_rest = record {
          lines = record {
            none_ending = λ i o. quiet i (over_started (stage_at run.stages i) o);
            back_ended = λ c i h. quiet i (s.on_columns.back_started c i (sym (same_back c i) ∙ h));
            arrived_ended = λ i h. quiet i (s.on_phases.arrived_started i (sym (same_arrived i) ∙ h));
            freed_ended = freed_ended;
            out_holds = λ i l o. absurd (not_out i o);
            out_untimed = λ i o. absurd (not_out i o);
          };
          out_has = λ i c o. absurd (not_out i o);
          out_reads = λ i c o. absurd (not_out i o);
        }

        pub resumed_none_out : (i : ℕ) → out run.stages i ≡ false
        resumed_none_out i = false_from_ne_true (out run.stages i) (not_out i)

        pub run_is : (stages : List LineStage) (places : List Place) → stages ≡ run.stages → places ≡ run.places → run_by past stages places values holders ≡ resumed_run
        run_is stages places es ep = λ t. record {
          «stages» = es t;
          times = same_times t;
          clock = same_clock t;
          «places» = ep t;
          back = past.back;
          «values» = values;
          arrived = past.arrived;
          «holders» = holders;
          freed = past.freed;
        }

        -- the same by the ends that are kept
        kept_end_is : (k : ℕ) → ended run.stages k ≡ true → ends_so_far run.stages k ≡ eval_end g k
        kept_end_is k e = kept_is s.on_lines k (ended_over (stage_at run.stages k) e)

        past_kept : past_of g (ends_so_far run.stages) trace ≡ past
        past_kept = past_same g (ends_so_far run.stages) (eval_end g) (no_past g) trace (λ k h. (
          kept_end_is k (listed_ended k h),
          frees_where g (ends_so_far run.stages) (eval_end g) k (λ q rel. kept_end_is q (acquire_is_ended s k q rel (ended_started run.stages k (listed_ended k h)))),
        ))

        pub run_is_kept : (stages : List LineStage) (places : List Place) → stages ≡ run.stages → places ≡ run.places → run_by (past_of g (ends_so_far stages) trace) stages places values holders ≡ resumed_run
        run_is_kept stages places es ep = ap (λ ss. run_by (past_of g (ends_so_far ss) trace) ss places values holders) es
            ∙ (ap (λ p. run_by p run.stages places values holders) past_kept ∙ run_is run.stages places refl ep)
