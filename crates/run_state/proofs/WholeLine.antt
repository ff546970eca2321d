-- A line taken or put back whole keeps the state sound and at rest.
use Rattle.std.proofs.Common.{◌≡◌, ℕ, ◌<◌, true, false, ◌⊎◌, inl, inr, List, [], ◌∷◌, length, refl, sym, ◌∙◌, ap, subst, length-set}
use Rattle.std.specs.Prelude.{Contains, ◌≢◌, Option, Some, None, slice_set}
use Rattle.std.specs.Option.{option_map_or}
use Rattle.std.proofs.lemmas.List.{get_or-set_same, get_or-set_other}
use Rattle.std.proofs.lemmas.Bool.{true≢false, eq-eqb, false_from_ne_true}
use Rattle.std.proofs.lemmas.Option.{none-some, same_Some}
use Rattle.graph_terms.specs.declared.outcome.End.TheVariants.{Cancelled}
use Rattle.graph_terms.specs.declared.verb.Access.{Access}
use Rattle.graph_terms.specs.declared.verb.Verb.{Verb}
use Rattle.graph_terms.specs.declared.verb.Verb.TheVariants.{Acquire}
use Rattle.graph_terms.specs.Graph.{GraphValue, verb_at, is_acquire_of}
use Rattle.graph_terms.specs.Access.{accesses}
use Rattle.graph_terms.specs.Reservations.{Acquires}
use Rattle.graph_meaning.specs.Evaluation.{end_with}
use Rattle.basics.proofs.ListFacts.{contains_map, map_contains}
use Rattle.run_state.specs.Run.{LineStage, Unissued, Issued, Out, Place, Home, Had, Run, is_listed, stage_at, place_at, list_at, stage_issued, stage_out, stage_started, stage_over, stage_ended, out, started, ended, timed}
use Rattle.run_state.specs.Sound.{AccessesColumn, SoundWith}
use Rattle.run_state.specs.Moves.{claim, column_out, inserted}
use Rattle.run_state.specs.WholeLine.{column_list, lock_by, lock_of, all_had, columns_out, holders_with, hold_some, take_whole}
use Rattle.run_state.proofs.Lists.{each_set, listed_contains, contains_listed, listed_here, listed_there, listed_cases, none_listed, stage_there}
use Rattle.run_state.proofs.Known.{column_there, columns_fresh}
use Rattle.run_state.proofs.Columns.{column_out-sound}
use Rattle.run_state.proofs.Stages.{claim-sound}
use Rattle.run_state.proofs.Locks.{with_holder, holder_more, holder_new, hold-sound}
use Rattle.graph_terms.proofs.Public.{acquire_of_is, passes_verb, acquired_lock_known}
use Rattle.run_state.proofs.Reductions.{Fresh}
use Rattle.run_state.specs.AtRest.{LinesAtRestWith, AtRestWith, MayTakeWholeWith}
use Rattle.run_state.specs.Premises.{MayTakeColumnWith, MayHoldWith}
use Rattle.run_state.specs.Laws.{ReservationOfAcquire, AccessedColumnsAreListed}
use Rattle.graph_meaning.specs.Effect.{Effects, zero_cells}

-- the columns of a line by their numbers
pub listed_accessed : (g : GraphValue) (i c : ℕ) → is_listed (column_list g i) c ≡ true → AccessesColumn g i c
listed_accessed g i c h = map_contains (λ (a : Access). a.column) (accesses g i) c (listed_contains (column_list g i) c h)

pub accessed_listed : AccessedColumnsAreListed
accessed_listed g i c a = contains_listed (column_list g i) c (subst (λ z. Contains (column_list g i) z) a.2 (contains_map (λ (x : Access). x.column) (accesses g i) a.0 a.1))

pub not_the_first : (c d : ℕ) (cs : List ℕ) → Fresh (c ∷ cs) → is_listed cs d ≡ true → d ≡ c → ⊥
not_the_first c d cs f h e = true≢false (sym h ∙ (ap (is_listed cs) e ∙ f.0))

-- several columns out
may_take_later : {does : Effects} {g : GraphValue} {run : Run} → (c d i : ℕ) → (d ≡ c → ⊥) → MayTakeColumnWith does g run d i → MayTakeColumnWith does g (column_out run c i) d i
may_take_later {does} {g} {run} c d i ne m = record {
  is_out = m.is_out;
  accessed = m.accessed;
  not_cancelled = m.not_cancelled;
  not_back = m.not_back;
  at_home = λ k e. m.at_home k (sym (get_or-set_other run.places c d (Had i) (Home []) ne) ∙ e);
}

pub columns_out-sound : {does : Effects} {g : GraphValue} {run : Run} → SoundWith does g run → (i : ℕ) (cs : List ℕ) → Fresh cs → ((c : ℕ) → is_listed cs c ≡ true → MayTakeColumnWith does g run c i) → SoundWith does g (columns_out run i cs)
columns_out-sound {does} {g} {run} s i [] f m = s
columns_out-sound {does} {g} {run} s i (c ∷ cs) f m = columns_out-sound (column_out-sound s c i (m c (listed_here c cs))) i cs f.1
    (λ d h. may_take_later c d i (not_the_first c d cs f h) (m d (listed_there c d cs h)))

pub all_had_other : (places : List Place) (i : ℕ) (cs : List ℕ) (c : ℕ) → (is_listed cs c ≡ true → ⊥) → place_at (all_had places i cs) c ≡ place_at places c
all_had_other places i [] c none = refl
all_had_other places i (d ∷ cs) c none = all_had_other (slice_set places d (Had i)) i cs c (λ h. none (listed_there d c cs h))
    ∙ get_or-set_other places d c (Had i) (Home []) (λ e. none (subst (λ z. is_listed (z ∷ cs) c ≡ true) e (listed_here c cs)))

all_had_listed : (places : List Place) (i : ℕ) (cs : List ℕ) (c : ℕ) → c < length places → Fresh cs → is_listed cs c ≡ true → place_at (all_had places i cs) c ≡ Had i
all_had_listed places i [] c there f h = absurd (none_listed c h)
all_had_listed places i (d ∷ cs) c there f h = elim (listed_cases d c cs h) [
  | inl e ↦ all_had_other (slice_set places d (Had i)) i cs c (λ l. not_the_first d c cs f l e) ∙ (ap (λ z. place_at (slice_set places z (Had i)) c) (sym e) ∙ get_or-set_same places c (Had i) (Home []) there)
  | inr r ↦ all_had_listed (slice_set places d (Had i)) i cs c (subst (λ n. c < n) (sym (same_length d)) there) f.1 r
]
  where
    same_length : (d : ℕ) → length (slice_set places d (Had i)) ≡ length places
    same_length d = length-set places d (Had i)

-- a reservation where there is one
lock_is : (l : ℕ) (v : Verb) → lock_by v ≡ Some l → is_acquire_of l v ≡ true
lock_is l (Acquire k s) h = eq-eqb k l (same_Some k l h)
lock_is l _ h = absurd (none-some l h)

pub lock_acquires : (g : GraphValue) (q l : ℕ) → lock_of g q ≡ Some l → Acquires g q l
lock_acquires g q l h = by_option (verb_at g q) h
  where
    by_option : (o : Option Verb) → option_map_or lock_by o None ≡ Some l → option_map_or (is_acquire_of l) o false ≡ true
    by_option None h = absurd (none-some l h)
    by_option (Some v) h = lock_is l v h

pub acquires_lock : ReservationOfAcquire
acquires_lock g q l a = let v = passes_verb (is_acquire_of l) g q a in ap (λ (o : Option Verb). option_map_or lock_by o None) v.1 ∙ ap lock_by (acquire_of_is l v.0 v.2)

hold_some-sound : {does : Effects} {g : GraphValue} {run : Run} → SoundWith does g run → (i : ℕ) (o : Option ℕ) → ((l : ℕ) → o ≡ Some l → MayHoldWith does g run l i) → SoundWith does g (hold_some run i o)
hold_some-sound {does} s i None m = s
hold_some-sound {does} s i (Some l) m = hold-sound s l i (m l refl)

held_more : (holders : List (List ℕ)) (i : ℕ) (o : Option ℕ) → ((l : ℕ) → o ≡ Some l → l < length holders) → (l k : ℕ) → is_listed (list_at holders l) k ≡ true → is_listed (list_at (holders_with holders i o) l) k ≡ true
unfolding with_holder
held_more holders i None there l k h = h
held_more holders i (Some j) there l k h = holder_more holders j i (there j refl) l k h

held_new : (holders : List (List ℕ)) (i l : ℕ) (o : Option ℕ) → o ≡ Some l → l < length holders → is_listed (list_at (holders_with holders i o) l) i ≡ true
unfolding with_holder
held_new holders i l None e there = absurd (none-some l e)
held_new holders i l (Some j) e there = let same : j ≡ l = same_Some j l e in
    subst (λ z. is_listed (list_at (slice_set holders z (inserted i (list_at holders z))) l) i ≡ true) (sym same) (holder_new holders l i there)

-- all but the columns of a run at rest
pub lines_at_rest : {does : Effects} {g : GraphValue} {run : Run} → AtRestWith does g run → LinesAtRestWith does g run
lines_at_rest rest = record {
  none_ending = rest.none_ending;
  back_ended = rest.back_ended;
  arrived_ended = rest.arrived_ended;
  freed_ended = rest.freed_ended;
  out_holds = rest.out_holds;
  out_untimed = rest.out_untimed;
}

pub with_all_columns : {does : Effects} {g : GraphValue} {run : Run} → LinesAtRestWith does g run →
    ((i c : ℕ) → out run.stages i ≡ true → end_with does zero_cells g i ≢ Cancelled → AccessesColumn g i c → place_at run.places c ≡ Had i) →
    AtRestWith does g run
with_all_columns done has = record {
  none_ending = done.none_ending;
  back_ended = done.back_ended;
  arrived_ended = done.arrived_ended;
  freed_ended = done.freed_ended;
  out_has = has;
  out_holds = done.out_holds;
  out_untimed = done.out_untimed;
}

-- a line that goes on to a stage before its end leaves the run so, whatever columns move
pub goes_on : {does : Effects} {g : GraphValue} {run : Run} → LinesAtRestWith does g run → (i : ℕ) (s : LineStage) (places : List Place) (holders : List (List ℕ)) →
    i < length run.stages → stage_over s ≡ false → ended run.stages i ≡ false →
    ((l k : ℕ) → is_listed (list_at run.holders l) k ≡ true → is_listed (list_at holders l) k ≡ true) →
    ((l : ℕ) → stage_out s ≡ true → end_with does zero_cells g i ≢ Cancelled → Acquires g i l → is_listed (list_at holders l) i ≡ true) →
    (stage_out s ≡ true → timed run.times i ≡ false) →
    LinesAtRestWith does g record run { stages = slice_set run.stages i s; places = places; holders = holders }
goes_on {does} {g} {run} done i s places holders there not_over left holds_stays holds untimed =
    let kept : (k : ℕ) → ended run.stages k ≡ true → ended (slice_set run.stages i s) k ≡ true =
    each_set (λ k x. ended run.stages k ≡ true → stage_ended x ≡ true) run.stages Unissued i s there (λ h. absurd (true≢false (sym h ∙ left))) (λ k ne h. h) in
    record {
      none_ending = each_set (λ k x. stage_over x ≡ true → stage_ended x ≡ true) run.stages Unissued i s there
          (λ h. absurd (true≢false (sym h ∙ not_over))) (λ k ne. done.none_ending k);
      back_ended = λ c k h. kept k (done.back_ended c k h);
      arrived_ended = λ k h. kept k (done.arrived_ended k h);
      freed_ended = λ k h. kept k (done.freed_ended k h);
      out_holds = λ k l. each_set
          (λ k x. stage_out x ≡ true → end_with does zero_cells g k ≢ Cancelled → Acquires g k l → is_listed (list_at holders l) k ≡ true)
          run.stages Unissued i s there (holds l) (λ k ne h n a. holds_stays l k (done.out_holds k l h n a)) k;
      out_untimed = each_set (λ k x. stage_out x ≡ true → timed run.times k ≡ false) run.stages Unissued i s there untimed
          (λ k ne. done.out_untimed k);
    }

-- and at rest, where each line keeps what it had
pub goes_at_rest : {does : Effects} {g : GraphValue} {run : Run} → AtRestWith does g run → (i : ℕ) (s : LineStage) (places : List Place) (holders : List (List ℕ)) → i < length run.stages → stage_over s ≡ false → ended run.stages i ≡ false
    → ((k c : ℕ) → place_at run.places c ≡ Had k → place_at places c ≡ Had k) → ((l k : ℕ) → is_listed (list_at run.holders l) k ≡ true → is_listed (list_at holders l) k ≡ true)
    → ((c : ℕ) → stage_out s ≡ true → end_with does zero_cells g i ≢ Cancelled → AccessesColumn g i c → place_at places c ≡ Had i) → ((l : ℕ) → stage_out s ≡ true → end_with does zero_cells g i ≢ Cancelled → Acquires g i l → is_listed (list_at holders l) i ≡ true)
    → (stage_out s ≡ true → timed run.times i ≡ false) → AtRestWith does g record run { stages = slice_set run.stages i s; places = places; holders = holders }
goes_at_rest {does} {g} {run} rest i s places holders there not_over left has_stays holds_stays has holds untimed =
    with_all_columns (goes_on (lines_at_rest rest) i s places holders there not_over left holds_stays holds untimed)
    (λ k c. each_set (λ k x. stage_out x ≡ true → end_with does zero_cells g k ≢ Cancelled → AccessesColumn g k c → place_at places c ≡ Had k) run.stages Unissued i s there (has c) (λ k ne h n a. has_stays k c (rest.out_has k c h n a)) k)

-- a claim and what follows it: some of its columns taken, each once
module _ {does : Effects} {g : GraphValue} {run : Run} (s : SoundWith does g run) (i : ℕ) (m : MayTakeWholeWith does g run i) (cs : List ℕ)
    (once : Fresh cs) (accessed : (c : ℕ) → is_listed cs c ≡ true → AccessesColumn g i c) where
  is_there : i < length run.stages
  is_there = stage_there run.stages i (ap stage_issued m.is_issued)

  pub claimed : stage_at (slice_set run.stages i Out) i ≡ Out
  claimed = get_or-set_same run.stages i Out Unissued is_there

  pub begun_not : started run.stages i ≡ true → ⊥
  begun_not h = true≢false (sym h ∙ ap stage_started m.is_issued)

  s_claimed : SoundWith does g (claim run i)
  s_claimed = claim-sound s i (record { is_issued = m.is_issued; comes = m.comes; sources = m.sources })

  s_held : SoundWith does g (hold_some (claim run i) i (lock_of g i))
  s_held = hold_some-sound s_claimed i (lock_of g i) (λ l e. record {
    is_out = ap stage_out claimed;
    acquires = lock_acquires g i l e;
    not_cancelled = m.not_cancelled;
    is_free = m.lock_free l (lock_acquires g i l e);
  })

  pub taken_sound : SoundWith does g (columns_out (hold_some (claim run i) i (lock_of g i)) i cs)
  taken_sound = columns_out-sound s_held i cs once (λ c h. record {
    is_out = ap stage_out claimed;
    accessed = accessed c h;
    not_cancelled = m.not_cancelled;
    not_back = false_from_ne_true (is_listed (list_at run.back c) i) (λ l. begun_not (s.on_columns.back_started c i l));
    at_home = m.at_home c (accessed c h);
  })

  lock_below : (l : ℕ) → lock_of g i ≡ Some l → l < length run.holders
  lock_below l e = subst (λ n. l < n) (sym s.on_locks.each_lock) (acquired_lock_known g s.graph i l (lock_acquires g i l e))

  pub taken_lines : LinesAtRestWith does g run → LinesAtRestWith does g (columns_out (hold_some (claim run i) i (lock_of g i)) i cs)
  taken_lines lines = goes_on lines i Out (all_had run.places i cs) (holders_with run.holders i (lock_of g i)) is_there refl (ap stage_ended m.is_issued)
      (held_more run.holders i (lock_of g i) lock_below)
      (λ l h n a. held_new run.holders i l (lock_of g i) (acquires_lock g i l a) (lock_below l (acquires_lock g i l a)))
      (λ h. false_from_ne_true (timed run.times i) (λ t. begun_not (s.on_times.timed_started i t)))

  pub place_kept : (k c : ℕ) → place_at run.places c ≡ Had k → place_at (all_had run.places i cs) c ≡ Had k
  place_kept k c e = all_had_other run.places i cs c (λ h. m.at_home c (accessed c h) k e) ∙ e

  pub place_new : (c : ℕ) → is_listed cs c ≡ true → place_at (all_had run.places i cs) c ≡ Had i
  place_new c h = all_had_listed run.places i cs c (subst (λ n. c < n) (sym s.on_columns.each_column) (column_there s.graph i c (accessed c h))) once h

  -- each other line that is out was so before
  pub taken_out : (k : ℕ) → out (slice_set run.stages i Out) k ≡ true → (k ≡ i) ⊎ (out run.stages k ≡ true)
  taken_out = each_set (λ k x. stage_out x ≡ true → (k ≡ i) ⊎ (out run.stages k ≡ true)) run.stages Unissued i Out is_there (λ h. inl refl) (λ k ne h. inr h)

-- all of them
module _ {does : Effects} {g : GraphValue} {run : Run} (s : SoundWith does g run) (rest : AtRestWith does g run) (i : ℕ) (m : MayTakeWholeWith does g run i) where
  pub taken_is_sound : SoundWith does g (take_whole g run i)
  taken_is_sound = taken_sound s i m (column_list g i) (columns_fresh g s.graph i) (listed_accessed g i)

  pub taken_is_at_rest : AtRestWith does g (take_whole g run i)
  taken_is_at_rest = with_all_columns (taken_lines s i m (column_list g i) (columns_fresh g s.graph i) (listed_accessed g i) (lines_at_rest rest))
      (λ k c h n a. elim (taken_out s i m (column_list g i) (columns_fresh g s.graph i) (listed_accessed g i) k h) [
        | inl e ↦ place_new s i m (column_list g i) (columns_fresh g s.graph i) (listed_accessed g i) c (subst (λ z. is_listed (column_list g z) c ≡ true) e (accessed_listed g k c a)) ∙ ap Had (sym e)
        | inr was ↦ place_kept s i m (column_list g i) (columns_fresh g s.graph i) (listed_accessed g i) k c (rest.out_has k c was n a)
      ])

-- a line that is cancelled is only claimed
pub claim_is_at_rest : {does : Effects} {g : GraphValue} {run : Run} → SoundWith does g run → AtRestWith does g run → (i : ℕ) → stage_at run.stages i ≡ Issued → end_with does zero_cells g i ≡ Cancelled → AtRestWith does g (claim run i)
claim_is_at_rest {does} {g} {run} s rest i is cancelled = goes_at_rest rest i Out run.places run.holders (stage_there run.stages i (ap stage_issued is)) refl (ap stage_ended is) (λ k c h. h) (λ l k h. h)
    (λ c h n. absurd (n cancelled)) (λ l h n. absurd (n cancelled)) (λ h. false_from_ne_true (timed run.times i) (λ t. true≢false (sym (s.on_times.timed_started i t) ∙ ap stage_started is)))
