-- A line put back whole keeps the state sound and at rest.
use Rattle.std.proofs.Common.{◌≡◌, ℕ, ◌<◌, true, false, ◌⊎◌, inl, inr, List, [], ◌∷◌, ◌++◌, length, refl, sym, ◌∙◌, ap, subst, length-set}
use Rattle.std.specs.Prelude.{◌≢◌, cond, Option, Some, None, is_some, slice_get, slice_set}
use Rattle.std.specs.Option.{option_map_or}
use Rattle.std.proofs.lemmas.List.{get_or-set_same, get_or-set_other}
use Rattle.std.proofs.lemmas.Bool.{true≢false, cases_eq, eq-eqb, false_from_ne_true}
use Rattle.std.proofs.lemmas.Option.{none-some, same_Some}
use Rattle.index_spaces.specs.declared.Op.{Op}
use Rattle.index_spaces.specs.declared.Op.TheVariants as op
use Rattle.graph_terms.specs.declared.outcome.End.{End}
use Rattle.graph_terms.specs.declared.outcome.End.TheVariants.{Done, Faulted, Cancelled, Waiting}
use Rattle.graph_terms.specs.declared.verb.Verb.{Verb}
use Rattle.graph_terms.specs.declared.verb.Verb.TheVariants.{Phase, Arrive, Release}
use Rattle.graph_terms.specs.declared.decl.BarrierInfo.{BarrierInfo}
use Rattle.graph_terms.specs.Graph.{GraphValue, barriers, verb_at, is_release_of}
use Rattle.graph_terms.specs.Reservations.{Acquires, Releases}
use Rattle.graph_meaning.specs.Evaluation.{end_with, arrival_value}
use Rattle.run_state.specs.Run.{LineStage, Unissued, Ending, Ended, Place, Home, Had, Run, is_listed, stage_at, time_at, place_at, list_at, stage_issued, stage_out, stage_started, stage_over, stage_ended, end_so_far, out, started, ended}
use Rattle.run_state.specs.Sound.{AccessesColumn, is_arrive, value_for, SoundWith}
use Rattle.run_state.specs.Moves.{draw, ending}
use Rattle.run_state.specs.Work.{put_cells_with}
use Rattle.run_state.specs.WholeLine.{column_list, lock_of, all_home, all_back, columns_back, arrived_with, arrive_some, holders_without, freed_with, free_some, columns_for, op_by, phase_op, arrival_by, arrival_for, freed_lock, frees_by, frees_for, put_back_whole}
use Rattle.run_state.proofs.Lists.{ended_over, out_not_ended, each_set, listed_here, listed_there, listed_cases, none_listed, stage_there}
use Rattle.basics.proofs.Choices.{is_some_of}
use Rattle.run_state.proofs.Known.{column_there, columns_fresh}
use Rattle.run_state.proofs.Started.{path_ended, kept_is}
use Rattle.run_state.proofs.Columns.{had_one, with_one, one_more, one_new, one_cases, column_back-sound}
use Rattle.run_state.proofs.Times.{draw-sound}
use Rattle.run_state.proofs.Stages.{ending-sound, close-sound}
use Rattle.run_state.proofs.Locks.{less_one, one_stays, free-sound}
use Rattle.run_state.proofs.Phases.{arrive-sound, listed_push}
use Rattle.graph_terms.proofs.Public.{release_of_is, passes_verb, verb_passes, acquired_lock_known, release_names, one_release}
use Rattle.run_state.proofs.Reductions.{Fresh}
use Rattle.run_state.proofs.WholeLine.{lines_at_rest, with_all_columns, listed_accessed, accessed_listed, not_the_first, lock_acquires, acquires_lock}
use Rattle.run_state.specs.AtRest.{LinesAtRestWith, AtRestWith, MayPutBackWith}
use Rattle.run_state.specs.Premises.{MayPutBackColumnWith, MayArriveWith, MayFreeWith}
use Rattle.graph_meaning.specs.Effect.{Effects, zero_cells}

-- several columns put back
pub columns_back-sound : {does : Effects} {g : GraphValue} {run : Run} → SoundWith does g run → (i : ℕ) (xs : ℕ → List ℕ) (cs : List ℕ) → Fresh cs →
    ((c : ℕ) → is_listed cs c ≡ true → MayPutBackColumnWith does g run c i (xs c)) → SoundWith does g (columns_back run i xs cs)
columns_back-sound {does} {g} {run} s i xs [] f m = s
columns_back-sound {does} {g} {run} s i xs (c ∷ cs) f m =
    let here = m c (listed_here c cs) in
    columns_back-sound (column_back-sound s c i (xs c) here) i xs cs f.1
    (λ d h. let ne : d ≡ c → ⊥ = not_the_first c d cs f h in let there = m d (listed_there c d cs h) in record {
      has = get_or-set_other run.places c d (Home (xs c)) (Home []) ne ∙ there.has;
      changed = there.changed ∙ ap (λ ks. put_cells_with does g i ks d) (sym (get_or-set_other run.back c d (i ∷ list_at run.back c) [] ne));
    })

pub all_home_other : (places : List Place) (xs : ℕ → List ℕ) (cs : List ℕ) (c : ℕ) → (is_listed cs c ≡ true → ⊥) → place_at (all_home places xs cs) c ≡ place_at places c
all_home_other places xs [] c none = refl
all_home_other places xs (d ∷ cs) c none = all_home_other (slice_set places d (Home (xs d))) xs cs c (λ h. none (listed_there d c cs h))
    ∙ get_or-set_other places d c (Home (xs d)) (Home []) (λ e. none (subst (λ z. is_listed (z ∷ cs) c ≡ true) e (listed_here c cs)))

-- the lists of lines put back, with line i in several
all_back_more : (back : List (List ℕ)) (i : ℕ) (cs : List ℕ) → ((c : ℕ) → is_listed cs c ≡ true → c < length back) → (d k : ℕ) → is_listed (list_at back d) k ≡ true → is_listed (list_at (all_back back i cs) d) k ≡ true
unfolding with_one
all_back_more back i [] there d k h = h
all_back_more back i (c ∷ cs) there d k h = all_back_more (slice_set back c (i ∷ list_at back c)) i cs (λ e l. subst (λ n. e < n) (sym (length-set back c (i ∷ list_at back c))) (there e (listed_there c e cs l))) d k
    (one_more back c i (there c (listed_here c cs)) d k h)

all_back_new : (back : List (List ℕ)) (i : ℕ) (cs : List ℕ) → ((c : ℕ) → is_listed cs c ≡ true → c < length back) → (d : ℕ) → is_listed cs d ≡ true → is_listed (list_at (all_back back i cs) d) i ≡ true
unfolding with_one
all_back_new back i [] there d h = absurd (none_listed d h)
all_back_new back i (c ∷ cs) there d h =
    let later : (e : ℕ) → is_listed cs e ≡ true → e < length (slice_set back c (i ∷ list_at back c)) = λ e l. subst (λ n. e < n) (sym (length-set back c (i ∷ list_at back c))) (there e (listed_there c e cs l)) in
    elim (listed_cases c d cs h) [
      | inl e ↦ all_back_more (slice_set back c (i ∷ list_at back c)) i cs later d i (subst (λ z. is_listed (list_at (slice_set back c (i ∷ list_at back c)) z) i ≡ true) (sym e) (one_new back c i (there c (listed_here c cs))))
      | inr r ↦ all_back_new (slice_set back c (i ∷ list_at back c)) i cs later d r
    ]

pub all_back_cases : (back : List (List ℕ)) (i : ℕ) (cs : List ℕ) → ((c : ℕ) → is_listed cs c ≡ true → c < length back) → (d k : ℕ) → is_listed (list_at (all_back back i cs) d) k ≡ true → (k ≡ i) ⊎ (is_listed (list_at back d) k ≡ true)
unfolding with_one
all_back_cases back i [] there d k h = inr h
all_back_cases back i (c ∷ cs) there d k h =
    elim (all_back_cases (slice_set back c (i ∷ list_at back c)) i cs (λ e l. subst (λ n. e < n) (sym (length-set back c (i ∷ list_at back c))) (there e (listed_there c e cs l))) d k h) [
      | inl e ↦ inl e
      | inr r ↦ elim (one_cases back c i (there c (listed_here c cs)) d k r) [ inl e ↦ inl e.1 | inr old ↦ inr old ]
    ]

-- the columns of a line by its end
pub for_listed : (g : GraphValue) (i : ℕ) (x : End) (c : ℕ) → is_listed (columns_for g i x) c ≡ true → (x ≢ Cancelled) × AccessesColumn g i c
for_listed g i Cancelled c h = absurd (none_listed c h)
for_listed g i Done c h = (λ e. cc, listed_accessed g i c h)
for_listed g i Faulted c h = (λ e. cc, listed_accessed g i c h)
for_listed g i Waiting c h = (λ e. cc, listed_accessed g i c h)

listed_for : (g : GraphValue) (i : ℕ) (x : End) (c : ℕ) → x ≢ Cancelled → AccessesColumn g i c → is_listed (columns_for g i x) c ≡ true
listed_for g i Cancelled c ne a = absurd (ne refl)
listed_for g i Done c ne a = accessed_listed g i c a
listed_for g i Faulted c ne a = accessed_listed g i c a
listed_for g i Waiting c ne a = accessed_listed g i c a

pub for_fresh : (g : GraphValue) (i : ℕ) (x : End) → Fresh (column_list g i) → Fresh (columns_for g i x)
for_fresh g i Cancelled f = tt
for_fresh g i Done f = f
for_fresh g i Faulted f = f
for_fresh g i Waiting f = f

-- an arrival by its end
arrival_is_by : (g : GraphValue) (v : Verb) (a : Op × ℕ × ℕ) → arrival_by g v ≡ Some a → (arrival_value a.1 v ≡ Some a.2) × (phase_op g a.1 ≡ a.0)
arrival_is_by g (Arrive k n w) a h = (let e : (phase_op g k, k, n) ≡ a = same_Some (phase_op g k, k, n) a h in (subst (λ (y : Op × ℕ × ℕ). arrival_value y.1 (Arrive k n w) ≡ Some y.2) e (ap (λ b. cond b (Some n) None) (eq-eqb k k refl)), ap (λ (y : Op × ℕ × ℕ). phase_op g y.1) (sym e) ∙ ap (λ (y : Op × ℕ × ℕ). y.0) e))
arrival_is_by g _ a h = absurd (none-some a h)

arrival_is_of : (g : GraphValue) (o : Option Verb) (a : Op × ℕ × ℕ) → option_map_or (arrival_by g) o None ≡ Some a → (option_map_or (arrival_value a.1) o None ≡ Some a.2) × (phase_op g a.1 ≡ a.0)
arrival_is_of g None a h = absurd (none-some a h)
arrival_is_of g (Some v) a h = arrival_is_by g v a h

arrival_found : (g : GraphValue) (i : ℕ) (x : End) (a : Op × ℕ × ℕ) → arrival_for g i x ≡ Some a → (x ≢ Cancelled) × (value_for g a.1 i ≡ Some a.2) × (phase_op g a.1 ≡ a.0)
arrival_found g i Cancelled a h = absurd (none-some a h)
arrival_found g i Done a h = let r = arrival_is_of g (verb_at g i) a h in (λ e. cc, r.0, r.1)
arrival_found g i Faulted a h = let r = arrival_is_of g (verb_at g i) a h in (λ e. cc, r.0, r.1)
arrival_found g i Waiting a h = let r = arrival_is_of g (verb_at g i) a h in (λ e. cc, r.0, r.1)

arrives_by : (v : Verb) → is_arrive v ≡ true → (p n w : ℕ) × (v ≡ Arrive p n w)
arrives_by (Arrive k n w) h = (k, n, w, refl)
arrives_by _ h = absurd (true≢false (sym h))

some_arrival_of : (g : GraphValue) (o : Option Verb) (p n w : ℕ) → o ≡ Some (Arrive p n w) → option_map_or (arrival_by g) o None ≡ Some (phase_op g p, p, n)
some_arrival_of g o p n w e = ap (λ (x : Option Verb). option_map_or (arrival_by g) x None) e

some_arrival : (g : GraphValue) (i : ℕ) (x : End) (p n w : ℕ) → x ≢ Cancelled → verb_at g i ≡ Some (Arrive p n w) → arrival_for g i x ≡ Some (phase_op g p, p, n)
some_arrival g i Cancelled p n w ne e = absurd (ne refl)
some_arrival g i Done p n w ne e = some_arrival_of g (verb_at g i) p n w e
some_arrival g i Faulted p n w ne e = some_arrival_of g (verb_at g i) p n w e
some_arrival g i Waiting p n w ne e = some_arrival_of g (verb_at g i) p n w e

phase_op_is : (g : GraphValue) (p b : ℕ) (x : BarrierInfo) → verb_at g p ≡ Some (Phase b) → slice_get (barriers g) b ≡ Some x → x.op ≡ phase_op g p
phase_op_is g p b x e at = sym (ap (λ (o : Option Verb). option_map_or (op_by g) o op.Sum) e ∙ ap (λ (o : Option BarrierInfo). option_map_or (λ (x : BarrierInfo). x.op) o op.Sum) at)

arrive_some-sound : {does : Effects} {g : GraphValue} {run : Run} → SoundWith does g run → (i : ℕ) (o : Option (Op × ℕ × ℕ)) → ((a : Op × ℕ × ℕ) → o ≡ Some a → MayArriveWith does g run a.0 i a.1 a.2) → SoundWith does g (arrive_some run i o)
arrive_some-sound {does} s i None m = s
arrive_some-sound {does} s i (Some a) m = arrive-sound s a.0 i a.1 a.2 (m a refl)

pushed : (arrived : List ℕ) (i : ℕ) → is_listed (arrived ++ i ∷ []) i ≡ true
pushed [] i = listed_here i []
pushed (k ∷ ks) i = listed_there k i (ks ++ i ∷ []) (pushed ks i)

arrived_new : (arrived : List ℕ) (i : ℕ) (o : Option (Op × ℕ × ℕ)) (a : Op × ℕ × ℕ) → o ≡ Some a → is_listed (arrived_with arrived i o) i ≡ true
arrived_new arrived i None a e = absurd (none-some a e)
arrived_new arrived i (Some b) a e = pushed arrived i

arrived_cases : (arrived : List ℕ) (i : ℕ) (o : Option (Op × ℕ × ℕ)) (k : ℕ) → is_listed (arrived_with arrived i o) k ≡ true → (k ≡ i) ⊎ (is_listed arrived k ≡ true)
arrived_cases arrived i None k h = inr h
arrived_cases arrived i (Some a) k h = elim (listed_push arrived i k h) [ inl old ↦ inr old | inr e ↦ inl e ]

freed_lock_is : (q : ℕ) (x : End) (o : Option ℕ) (a : ℕ × ℕ) → freed_lock q x o ≡ Some a → (x ≡ Done) × (o ≡ Some a.0) × (q ≡ a.1)
freed_lock_is q Done (Some l) a h = let e : (l, q) ≡ a = same_Some (l, q) a h in (refl, ap (λ (y : ℕ × ℕ). Some y.0) e, ap (λ (y : ℕ × ℕ). y.1) e)
freed_lock_is q Done None a h = absurd (none-some a h)
freed_lock_is q Faulted o a h = absurd (none-some a h)
freed_lock_is q Cancelled o a h = absurd (none-some a h)
freed_lock_is q Waiting o a h = absurd (none-some a h)

-- what a release frees
frees_is : (g : GraphValue) (run : Run) (v : Verb) (a : ℕ × ℕ) → frees_by g run v ≡ Some a → (v ≡ Release a.1) × (freed_lock a.1 (end_so_far (stage_at run.stages a.1)) (lock_of g a.1) ≡ Some a)
frees_is g run (Release k) a h = (let f = freed_lock_is k (end_so_far (stage_at run.stages k)) (lock_of g k) a h in (ap Release f.2, subst (λ z. freed_lock z (end_so_far (stage_at run.stages z)) (lock_of g z) ≡ Some a) f.2 h))
frees_is g run v a h = absurd (none-some a h)

free_some-sound : {does : Effects} {g : GraphValue} {run : Run} → SoundWith does g run → (r : ℕ) (o : Option (ℕ × ℕ)) → ((a : ℕ × ℕ) → o ≡ Some a → MayFreeWith does g run r a.0 a.1) → SoundWith does g (free_some run r o)
free_some-sound {does} s r None m = s
free_some-sound {does} s r (Some a) m = free-sound s r a.0 a.1 (m a refl)

freed_new : (freed : List ℕ) (r : ℕ) (o : Option (ℕ × ℕ)) (a : ℕ × ℕ) → o ≡ Some a → is_listed (freed_with freed r o) r ≡ true
freed_new freed r None a e = absurd (none-some a e)
freed_new freed r (Some b) a e = listed_here r freed

freed_cases : (freed : List ℕ) (r : ℕ) (o : Option (ℕ × ℕ)) (k : ℕ) → is_listed (freed_with freed r o) k ≡ true → (k ≡ r) ⊎ (is_listed freed k ≡ true)
freed_cases freed r None k h = inr h
freed_cases freed r (Some a) k h = listed_cases r k freed h

-- a holder that is not the acquire freed goes on
holders_stay : (holders : List (List ℕ)) (o : Option (ℕ × ℕ)) → ((a : ℕ × ℕ) → o ≡ Some a → a.0 < length holders) → (l k : ℕ) → is_listed (list_at holders l) k ≡ true → ((a : ℕ × ℕ) → o ≡ Some a → k ≡ a.1 → ⊥) → is_listed (list_at (holders_without holders o) l) k ≡ true
unfolding less_one
holders_stay holders None there l k h ne = h
holders_stay holders (Some a) there l k h ne = one_stays holders a.0 a.1 (there a refl) l k h (λ e s. ne a refl s)

-- a release that is taken: its acquire is ended
pub acquire_is_ended : {does : Effects} {g : GraphValue} {run : Run} → SoundWith does g run → (r q : ℕ) → Releases g r q → started run.stages r ≡ true → ended run.stages q ≡ true
acquire_is_ended {does} {g} {run} s r q rel h =
    let a = release_names g s.graph r q rel in
    let p = s.accepted.released q a.0 a.1 in
    path_ended s.on_lines q p.0 p.2 (ap (started run.stages) (one_release g s.graph q p.0 r p.1 rel) ∙ h)

-- a line that is put back, where all but the columns is done and it is put back on these
module _ {does : Effects} (g : GraphValue) (run : Run) (s : SoundWith does g run) (rest : LinesAtRestWith does g run) (i : ℕ) (x : End) (xs : ℕ → List ℕ)
    (m : MayPutBackWith does g run i x xs) (s_columns : SoundWith does g (columns_back run i xs (columns_for g i x))) where
  is_out : out run.stages i ≡ true
  is_out = ap stage_out m.is_out

  begun : started run.stages i ≡ true
  begun = ap stage_started m.is_out

  not_ended : ended run.stages i ≡ true → ⊥
  not_ended h = true≢false (sym h ∙ ap stage_ended m.is_out)

  there : i < length run.stages
  there = stage_there run.stages i (ap stage_issued m.is_out)

  time_there : i < length run.times
  time_there = subst (λ n. i < n) (s.on_lines.each_line ∙ sym s.on_times.each_time) there

  not_cancelled : x ≢ Cancelled → end_with does zero_cells g i ≢ Cancelled
  not_cancelled ne e = ne (sym m.is_end ∙ e)

  column_below : (c : ℕ) → is_listed (columns_for g i x) c ≡ true → c < length run.back
  column_below c h = subst (λ n. c < n) (sym s.on_columns.each_back) (column_there s.graph i c (for_listed g i x c h).1)

  s_arrived : SoundWith does g (arrive_some (columns_back run i xs (columns_for g i x)) i (arrival_for g i x))
  s_arrived = arrive_some-sound s_columns i (arrival_for g i x) (λ a e. let f = arrival_found g i x a e in record {
    is_out = is_out;
    arrives = f.1;
    not_cancelled = not_cancelled f.0;
    not_arrived = false_from_ne_true (is_listed run.arrived i) (λ h. not_ended (rest.arrived_ended i h));
    by_barrier = λ b y p at. phase_op_is g a.1 b y p at ∙ f.2;
  })

  s_drawn : SoundWith does g (draw (arrive_some (columns_back run i xs (columns_for g i x)) i (arrival_for g i x)) i)
  s_drawn = draw-sound s_arrived i (record {
    is_out = is_out;
    untimed = none_of (time_at run.times i) (rest.out_untimed i is_out);
    holds = λ l a n. rest.out_holds i l is_out n a;
  })
    where
      none_of : (o : Option ℕ) → is_some o ≡ false → o ≡ None
      none_of None h = refl
      none_of (Some t) h = absurd (true≢false h)

  s_ending : SoundWith does g (ending (draw (arrive_some (columns_back run i xs (columns_for g i x)) i (arrival_for g i x)) i) i x)
  s_ending = ending-sound s_drawn i x (record {
    is_out = m.is_out;
    is_end = m.is_end;
    has_time = is_some_of (time_at (slice_set run.times i (Some run.clock)) i) run.clock (get_or-set_same run.times i (Some run.clock) None time_there);
    put_back = λ c a ne. all_back_new run.back i (columns_for g i x) column_below c (listed_for g i x c (λ e. ne (m.is_end ∙ e)) a);
    put_in = λ a ne. (let v = passes_verb is_arrive g i a in let k = arrives_by v.0 v.2 in
        arrived_new run.arrived i (arrival_for g i x) (phase_op g k.0, k.0, k.1) (some_arrival g i x k.0 k.1 k.2 (λ e. ne (m.is_end ∙ e)) (v.1 ∙ ap Some k.3)));
  })

  ending_at : stage_at (slice_set run.stages i (Ending x)) i ≡ Ending x
  ending_at = get_or-set_same run.stages i (Ending x) Unissued there

  ended_stays : (k : ℕ) → ended run.stages k ≡ true → ended (slice_set run.stages i (Ending x)) k ≡ true
  ended_stays = each_set (λ k y. ended run.stages k ≡ true → stage_ended y ≡ true) run.stages Unissued i (Ending x) there (λ h. absurd (not_ended h)) (λ k ne h. h)

  frees_are : (a : ℕ × ℕ) → frees_for g run i ≡ Some a → Releases g i a.1 × Acquires g a.1 a.0 × (ended run.stages a.1 ≡ true) × (end_with does zero_cells g a.1 ≡ Done)
  frees_are a e =
      let v = by_option (verb_at g i) refl e in
      let f = freed_lock_is a.1 (end_so_far (stage_at run.stages a.1)) (lock_of g a.1) a v.1 in
      let rel : Releases g i a.1 = verb_passes (is_release_of a.1) g i (Release a.1) v.0 ∙ eq-eqb a.1 a.1 refl in
      (let e : ended run.stages a.1 ≡ true = acquire_is_ended s i a.1 rel begun in (rel, lock_acquires g a.1 a.0 f.1, e, sym (kept_is s.on_lines a.1 (ended_over (stage_at run.stages a.1) e)) ∙ f.0))
    where
      by_option : (o : Option Verb) → verb_at g i ≡ o → option_map_or (frees_by g run) o None ≡ Some a → (verb_at g i ≡ Some (Release a.1)) × (freed_lock a.1 (end_so_far (stage_at run.stages a.1)) (lock_of g a.1) ≡ Some a)
      by_option None d h = absurd (none-some a h)
      by_option (Some v) d h = let r = frees_is g run v a h in (d ∙ ap Some r.0, r.1)

  s_freed : SoundWith does g (free_some (ending (draw (arrive_some (columns_back run i xs (columns_for g i x)) i (arrival_for g i x)) i) i x) i (frees_for g run i))
  s_freed = free_some-sound s_ending i (frees_for g run i) (λ a e. let f = frees_are a e in record {
    is_over = ap stage_over ending_at;
    releases = f.0;
    acquires = f.1;
    acquire_ended = ended_stays a.1 f.2;
    acquire_done = f.3;
  })

  frees_some : (q : ℕ) → Releases g i q → end_with does zero_cells g q ≡ Done → (l : ℕ) × (frees_for g run i ≡ Some (l, q))
  frees_some q rel done =
      let v = passes_verb (is_release_of q) g i rel in
      let a = release_names g s.graph i q rel in
      let e : ended run.stages q ≡ true = acquire_is_ended s i q rel begun in
      let ends : end_so_far (stage_at run.stages q) ≡ Done = kept_is s.on_lines q (ended_over (stage_at run.stages q) e) ∙ done in (
        a.0,
        ap (λ (o : Option Verb). option_map_or (frees_by g run) o None) v.1 ∙ (ap (frees_by g run) (release_of_is q v.0 v.2)
            ∙ (ap (λ y. freed_lock q y (lock_of g q)) ends ∙ ap (freed_lock q Done) (acquires_lock g q a.0 a.1))),
      )

  -- a line that is put back
  pub sound_after : SoundWith does g (put_back_whole g run i x xs)
  sound_after = close-sound s_freed i x (record {
    is_ending = ending_at;
    frees = λ q rel done. let f = frees_some q rel done in freed_new run.freed i (frees_for g run i) (f.0, q) f.1;
  })

  -- the stages after it
  pub last_stages : List LineStage
  last_stages = slice_set (slice_set run.stages i (Ending x)) i (Ended x)

  still_there : i < length (slice_set run.stages i (Ending x))
  still_there = subst (λ n. i < n) (sym (length-set run.stages i (Ending x))) there

  last_here : ended last_stages i ≡ true
  unfolding last_stages
  last_here = ap stage_ended (get_or-set_same (slice_set run.stages i (Ending x)) i (Ended x) Unissued still_there)

  last_other : (k : ℕ) → (k ≡ i → ⊥) → stage_at last_stages k ≡ stage_at run.stages k
  unfolding last_stages
  last_other k ne = get_or-set_other (slice_set run.stages i (Ending x)) i k (Ended x) Unissued ne ∙ get_or-set_other run.stages i k (Ending x) Unissued ne

  last_ended : (k : ℕ) → ended run.stages k ≡ true → ended last_stages k ≡ true
  last_ended k h = elim (cases_eq k i) [ inl e ↦ ap (ended last_stages) e ∙ last_here | inr ne ↦ ap stage_ended (last_other k ne) ∙ h ]

  pub last_out : (k : ℕ) → out last_stages k ≡ true → (k ≡ i → ⊥) × (out run.stages k ≡ true)
  last_out k h = elim (cases_eq k i) [
    | inl e ↦ absurd (true≢false (sym last_here ∙ out_not_ended (stage_at last_stages i) (ap (out last_stages) (sym e) ∙ h)))
    | inr ne ↦ (ne, ap stage_out (sym (last_other k ne)) ∙ h)
  ]

  ended_or_kept : (k : ℕ) → (k ≡ i) ⊎ (ended run.stages k ≡ true) → ended last_stages k ≡ true
  ended_or_kept k (inl e) = ap (ended last_stages) e ∙ last_here
  ended_or_kept k (inr h) = last_ended k h

  pub lines_after : LinesAtRestWith does g (put_back_whole g run i x xs)
  unfolding last_stages
  lines_after = record {
    none_ending = λ k h. elim (cases_eq k i) [
      | inl e ↦ ap (ended last_stages) e ∙ last_here
      | inr ne ↦ last_ended k (rest.none_ending k (ap stage_over (sym (last_other k ne)) ∙ h))
    ];
    back_ended = λ c k h. ended_or_kept k (elim (all_back_cases run.back i (columns_for g i x) column_below c k h) [ inl e ↦ inl e | inr old ↦ inr (rest.back_ended c k old) ]);
    arrived_ended = λ k h. ended_or_kept k (elim (arrived_cases run.arrived i (arrival_for g i x) k h) [ inl e ↦ inl e | inr old ↦ inr (rest.arrived_ended k old) ]);
    freed_ended = λ k h. ended_or_kept k (elim (freed_cases run.freed i (frees_for g run i) k h) [ inl e ↦ inl e | inr old ↦ inr (rest.freed_ended k old) ]);
    out_holds = λ k l h n a. (let o = last_out k h in
        holders_stay run.holders (frees_for g run i) (λ b e. let f = frees_are b e in subst (λ z. b.0 < z) (sym s.on_locks.each_lock) (acquired_lock_known g s.graph b.1 b.0 f.1)) l k (rest.out_holds k l o.1 n a)
        (λ b e same. (let f = frees_are b e in true≢false (sym (ap (ended run.stages) same ∙ f.2) ∙ out_not_ended (stage_at run.stages k) o.1))));
    out_untimed = λ k h. (let o = last_out k h in ap is_some (get_or-set_other run.times i k (Some run.clock) None o.0) ∙ rest.out_untimed k o.1);
  }

  pub out_after : (k : ℕ) → out (put_back_whole g run i x xs).stages k ≡ true → (k ≡ i → ⊥) × (out run.stages k ≡ true)
  unfolding last_stages
  out_after = last_out

-- so it is at rest, where the line had all its columns
module _ {does : Effects} (g : GraphValue) (run : Run) (s : SoundWith does g run) (rest : AtRestWith does g run) (i : ℕ) (x : End) (xs : ℕ → List ℕ)
    (m : MayPutBackWith does g run i x xs) where
  had : (c : ℕ) → is_listed (columns_for g i x) c ≡ true → (x ≢ Cancelled) × AccessesColumn g i c × (place_at run.places c ≡ Had i)
  had c h = let f = for_listed g i x c h in (f.0, f.1, rest.out_has i c (ap stage_out m.is_out) (λ e. f.0 (sym m.is_end ∙ e)) f.1)

  s_columns : SoundWith does g (columns_back run i xs (columns_for g i x))
  s_columns = columns_back-sound s i xs (columns_for g i x) (for_fresh g i x (columns_fresh g s.graph i))
      (λ c h. let f = had c h in record { has = f.2; changed = m.leaves c f.1 (λ e. f.0 (sym m.is_end ∙ e)) })

  pub frees_found : (a : ℕ × ℕ) → frees_for g run i ≡ Some a → Releases g i a.1 × Acquires g a.1 a.0 × (ended run.stages a.1 ≡ true) × (end_with does zero_cells g a.1 ≡ Done)
  frees_found = frees_are g run s (lines_at_rest rest) i x xs m s_columns

  pub put_back_is_sound : SoundWith does g (put_back_whole g run i x xs)
  put_back_is_sound = sound_after g run s (lines_at_rest rest) i x xs m s_columns

  pub put_back_is_at_rest : AtRestWith does g (put_back_whole g run i x xs)
  put_back_is_at_rest = with_all_columns (lines_after g run s (lines_at_rest rest) i x xs m s_columns)
      (λ k c h n a. (let o = out_after g run s (lines_at_rest rest) i x xs m s_columns k h in let kept : place_at run.places c ≡ Had k = rest.out_has k c o.1 n a in
      all_home_other run.places xs (columns_for g i x) c (λ l. o.0 (had_one k i (sym kept ∙ (had c l).2))) ∙ kept))
