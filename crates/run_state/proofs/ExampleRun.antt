-- The premises are met: whole runs of small graphs, from the start to a quiet state, in another order than the evaluation's.
use Rattle.std.proofs.Common.{◌≡◌, ℕ, zero, suc, ◌<◌, ◌≤◌, Bool, true, false, not, ◌&&◌, ◌⊎◌, inl, inr, List, [], ◌∷◌, length, refl, sym, ◌∙◌, ap, subst, lit≤, arith}
use Rattle.std.specs.Prelude.{◌≢◌, ◌==◌, Contains, Option, Some, None, slice_get, codes}
use Rattle.std.specs.Fmt.{digits}
use Rattle.std.specs.List.{list_all}
use Rattle.std.proofs.lemmas.Bool.{true≢false, cases_lt, eq-eqb, and_parts, not-true}
use Rattle.std.proofs.lemmas.Option.{none-some, same_Some}
use Rattle.std.proofs.lemmas.List.{get_or-set_same}
use Rattle.graph_terms.specs.declared.outcome.End.{End}
use Rattle.graph_terms.specs.declared.outcome.End.TheVariants.{Done, Faulted, Cancelled, Waiting}
use Rattle.graph_terms.specs.declared.format.Format.TheVariants.{Three}
use Rattle.graph_terms.specs.declared.decl.Decl.TheVariants.{Space, Inst}
use Rattle.graph_terms.specs.declared.verb.Access.{Access}
use Rattle.graph_terms.specs.declared.verb.Edge.{Edge}
use Rattle.graph_terms.specs.declared.verb.Mode.{Mode}
use Rattle.graph_terms.specs.declared.verb.Mode.TheVariants.{Read}
use Rattle.graph_terms.specs.declared.verb.Verb.TheVariants.{Fill, Copy}
use Rattle.graph_terms.specs.Graph.{GraphValue, never_comes}
use Rattle.graph_terms.specs.Access.{accesses, is_read}
use Rattle.graph_terms.specs.Edges.{edges}
use Rattle.graph_meaning.specs.Rules.{Accepted}
use Rattle.graph_meaning.specs.Effect.{effect}
use Rattle.graph_meaning.specs.Evaluation.{eval_end, order}
use Rattle.graph_terms.specs.Fits.{IsGraph}
use Rattle.graph_terms.proofs.examples.Graphs.{line, one_fill, two_sections, reserved_sums}
use Rattle.basics.proofs.ListFacts.{passes_each, same_at}
use Rattle.graph_meaning.proofs.RulesTable.{implies, implied, accepted_by_tests}
use Rattle.graph_terms.proofs.FitsTable.{fits_by_computing}
use Rattle.graph_meaning.proofs.examples.Accepted.{two_sections-accepted, reserved_sums-accepted}
use Rattle.graph_meaning.proofs.examples.Order.{reserved_sums-fits}
use Rattle.run_state.specs.Run.{LineStage, Unissued, Issued, Out, Ending, Ended, Place, Home, Had, Run, is_listed, stage_at, time_at, place_at, list_at, stage_issued, stage_out, stage_over, stage_ended, ended, issued}
use Rattle.run_state.specs.Sound.{OnlyReads, Sound}
use Rattle.run_state.specs.Moves.{issue}
use Rattle.run_state.specs.Work.{put_cells}
use Rattle.run_state.specs.Start.{start}
use Rattle.run_state.specs.Quiet.{Quiet, GivesOutcomeWith}
use Rattle.run_state.specs.WholeLine.{column_list, lock_of, take_whole, put_back_whole}
use Rattle.run_state.proofs.Lists.{each_set, none_listed, stage_there}
use Rattle.run_state.proofs.Stages.{issue-sound}
use Rattle.run_state.proofs.Start.{start_is_sound}
use Rattle.run_state.proofs.WholeLine.{listed_accessed, acquires_lock, taken_is_sound, taken_is_at_rest}
use Rattle.run_state.proofs.PutBack.{put_back_is_sound, put_back_is_at_rest}
use Rattle.run_state.proofs.Between.{start_is_at_rest, issue_is_at_rest}
use Rattle.run_state.proofs.QuietTrace.{slots_by_times}
use Rattle.run_state.proofs.QuietOutcome.{quiet_gives}
use Rattle.run_state.specs.AtRest.{AtRest, MayTakeWhole, MayPutBack}
use Rattle.run_state.specs.Premises.{MayIssue}

-- a sound state at rest
pub record Between (g : GraphValue) (run : Run) : Type 0 where
  pub sound : Sound g run
  pub rest : AtRest g run

-- the first n lines issued
abbrev pub issued_up : GraphValue → ℕ → Run
issued_up g zero = start g
issued_up g (suc n) = issue (issued_up g n) n

pub record UpTo (g : GraphValue) (n : ℕ) : Type 0 where
  pub between : Between g (issued_up g n)
  below : (i : ℕ) → i < n → stage_at (issued_up g n).stages i ≡ Issued
  above : (i : ℕ) → n ≤ i → stage_at (issued_up g n).stages i ≡ Unissued

pub up_to : (g : GraphValue) → IsGraph g → Accepted g → (n : ℕ) → n ≤ length g.lines → UpTo g n
up_to g f a zero h = record {
  between = record { sound = start_is_sound g f a; rest = start_is_at_rest g f a };
  below = λ i l. absurd (omega arith);
  above = λ i l. same_at Unissued (length g.lines) i;
}
up_to g f a (suc n) h =
    let u = up_to g f a n (omega arith) in
    let line : n < length g.lines = omega arith in
    let there : n < length (issued_up g n).stages = subst (λ m. n < m) (sym u.between.sound.on_lines.each_line) line in
    let may : MayIssue g (issued_up g n) n = record { is_line = line; unissued = u.above n (omega arith); before = λ j l. ap stage_issued (u.below j l) } in
    record {
      between = record { sound = issue-sound u.between.sound n may; rest = issue_is_at_rest u.between.sound u.between.rest n may };
      below = each_set (λ i s. i < suc n → s ≡ Issued) (issued_up g n).stages Unissued n Issued there (λ l. refl) (λ i ne l. u.below i (let b : i < n = less i n l ne in b));
      above = each_set (λ i s. suc n ≤ i → s ≡ Unissued) (issued_up g n).stages Unissued n Issued there (λ l. absurd (omega arith)) (λ i ne l. u.above i (omega arith));
    }
  where
    less : (i n : ℕ) → i < suc n → (i ≡ n → ⊥) → i < n
    less i n l ne = elim (cases_lt i n) [ inl b ↦ b | inr b ↦ absurd (ne (omega arith)) ]

-- tests that a line can be taken whole, where all columns are at home
abbrev is_home : Place → Bool
is_home (Home xs) = true
is_home (Had k) = false

abbrev is_issued_stage : LineStage → Bool
is_issued_stage Issued = true
is_issued_stage _ = false

abbrev is_done : End → Bool
is_done Done = true
is_done _ = false

abbrev is_empty : List ℕ → Bool
is_empty [] = true
is_empty (k ∷ ks) = false

abbrev lock_is_free : Run → Option ℕ → Bool
lock_is_free run None = true
lock_is_free run (Some l) = is_empty (list_at run.holders l)

abbrev sources_ended : GraphValue → Run → ℕ → Bool
sources_ended g run i = list_all (λ (e : Edge). implies (e.to == i) (ended run.stages e.from)) (edges g)

abbrev take_tests : GraphValue → Run → ℕ → Bool
take_tests g run i = is_issued_stage (stage_at run.stages i) && (not (never_comes g i) && (sources_ended g run i
    && (is_done (eval_end g i) && (lock_is_free run (lock_of g i) && list_all is_home run.places))))

pub ended_sources : (g : GraphValue) (run : Run) (i : ℕ) → sources_ended g run i ≡ true →
    (e : Edge) → Contains (edges g) e → e.to ≡ i → ended run.stages e.from ≡ true
ended_sources g run i h e c to = implied (e.to == i) (ended run.stages e.from)
    (passes_each (λ (x : Edge). implies (x.to == i) (ended run.stages x.from)) (edges g) h e c) (eq-eqb e.to i to)

issued_is : (s : LineStage) → is_issued_stage s ≡ true → s ≡ Issued
issued_is Issued h = refl
issued_is Unissued h = absurd (true≢false (sym h))
issued_is Out h = absurd (true≢false (sym h))
issued_is (Ending x) h = absurd (true≢false (sym h))
issued_is (Ended x) h = absurd (true≢false (sym h))

pub done_is : (x : End) → is_done x ≡ true → x ≢ Cancelled
done_is Done h e = cc
done_is Faulted h e = true≢false (sym h)
done_is Cancelled h e = true≢false (sym h)
done_is Waiting h e = true≢false (sym h)

empty_is : (ks : List ℕ) → is_empty ks ≡ true → ks ≡ []
empty_is [] h = refl
empty_is (k ∷ ks) h = absurd (true≢false (sym h))

pub home_is : (p : Place) (k : ℕ) → is_home p ≡ true → p ≡ Had k → ⊥
home_is (Home xs) k h e = cc
home_is (Had j) k h e = true≢false (sym h)

home_at : (ps : List Place) → list_all is_home ps ≡ true → (c : ℕ) → is_home (place_at ps c) ≡ true
home_at [] h c = refl
home_at (p ∷ ps) h zero = (and_parts (is_home p) (list_all is_home ps) h).0
home_at (p ∷ ps) h (suc c) = home_at ps (and_parts (is_home p) (list_all is_home ps) h).1 c

may_take : (g : GraphValue) (run : Run) (i : ℕ) → take_tests g run i ≡ true → MayTakeWhole g run i
may_take g run i h =
    let a = and_parts _ _ h in
    let b = and_parts _ _ a.1 in
    let c = and_parts _ _ b.1 in
    let d = and_parts _ _ c.1 in
    let e = and_parts _ _ d.1 in
    record {
      is_issued = issued_is (stage_at run.stages i) a.0;
      comes = not-true (never_comes g i) b.0;
      sources = ended_sources g run i c.0;
      not_cancelled = done_is (eval_end g i) d.0;
      lock_free = λ l q k held. absurd (none_listed k (subst (λ ks. is_listed ks k ≡ true) (empty_is (list_at run.holders l) (ap (lock_is_free run) (sym (acquires_lock g i l q)) ∙ e.0)) held));
      at_home = λ k x j. home_is (place_at run.places k) j (home_at run.places e.1 k);
    }

-- a line taken and put back at once
abbrev pub whole : GraphValue → Run → ℕ → Run
whole g run i = put_back_whole g (take_whole g run i) i (eval_end g i) (λ c. put_cells g i (list_at run.back c) c)

pub whole_between : (g : GraphValue) (run : Run) (i : ℕ) → Between g run → take_tests g run i ≡ true → Between g (whole g run i)
whole_between g run i b h =
    let m = may_take g run i h in
    let s = taken_is_sound b.sound b.rest i m in
    let r = taken_is_at_rest b.sound b.rest i m in
    let there : i < length run.stages = stage_there run.stages i (ap stage_issued m.is_issued) in
    let put : MayPutBack g (take_whole g run i) i (eval_end g i) (λ c. put_cells g i (list_at run.back c) c) = record { is_out = get_or-set_same run.stages i Out Unissued there; is_end = refl; leaves = λ c a n. refl } in
    record {
      sound = put_back_is_sound g (take_whole g run i) s r i (eval_end g i) (λ c. put_cells g i (list_at run.back c) c) put;
      rest = put_back_is_at_rest g (take_whole g run i) s r i (eval_end g i) (λ c. put_cells g i (list_at run.back c) c) put;
    }

abbrev all_whole : GraphValue → Run → List ℕ → Run
all_whole g run [] = run
all_whole g run (i ∷ is) = all_whole g (whole g run i) is

abbrev all_tests : GraphValue → Run → List ℕ → Bool
all_tests g run [] = true
all_tests g run (i ∷ is) = take_tests g run i && all_tests g (whole g run i) is

all_between : (g : GraphValue) (run : Run) (is : List ℕ) → Between g run → all_tests g run is ≡ true → Between g (all_whole g run is)
all_between g run [] b h = b
all_between g run (i ∷ is) b h = let p = and_parts (take_tests g run i) (all_tests g (whole g run i) is) h in all_between g (whole g run i) is (whole_between g run i b p.0) p.1

-- a state in which each line is ended is quiet
all_ended_stage : (stages : List LineStage) → list_all stage_ended stages ≡ true → (i : ℕ) → (stage_ended (stage_at stages i) ≡ true) ⊎ (stage_at stages i ≡ Unissued)
all_ended_stage [] h i = inr refl
all_ended_stage (s ∷ ss) h zero = inl (and_parts (stage_ended s) (list_all stage_ended ss) h).0
all_ended_stage (s ∷ ss) h (suc i) = all_ended_stage ss (and_parts (stage_ended s) (list_all stage_ended ss) h).1 i

abbrev is_all_ended : Run → Bool
is_all_ended run = list_all stage_ended run.stages

ended_stages : (s : LineStage) → (stage_ended s ≡ true) ⊎ (s ≡ Unissued) → (stage_out s ≡ false) × (stage_over s ≡ true → stage_ended s ≡ true) × (s ≡ Issued → ⊥)
ended_stages (Ended x) h = (refl, λ e. refl, λ e. cc)
ended_stages (Ending x) (inl h) = absurd (true≢false (sym h))
ended_stages (Ending x) (inr e) = cc
ended_stages Out (inl h) = absurd (true≢false (sym h))
ended_stages Out (inr e) = cc
ended_stages Issued (inl h) = absurd (true≢false (sym h))
ended_stages Issued (inr e) = cc
ended_stages Unissued h = (refl, λ e. e, λ e. cc)

quiet_by_tests : (g : GraphValue) (run : Run) → Between g run → is_all_ended run ≡ true → ((i : ℕ) → i < length g.lines → issued run.stages i ≡ true) → Quiet g run
quiet_by_tests g run b h all = record {
  first_issued = all;
  none_out = λ i. (ended_stages (stage_at run.stages i) (all_ended_stage run.stages h i)).0;
  none_ending = λ i. (ended_stages (stage_at run.stages i) (all_ended_stage run.stages h i)).1;
  none_taken = λ i c. (ended_stages (stage_at run.stages i) (all_ended_stage run.stages h i)).2 c.is_issued;
}

-- one fill
one_fill-fits : IsGraph one_fill
unfolding digits
one_fill-fits = fits_by_computing one_fill refl refl

one_fill-accepted : Accepted one_fill
one_fill-accepted = accepted_by_tests one_fill (record { range = refl; acyclic = refl; released = refl; sections = refl; descends = refl; release_faults = refl; races = refl })

abbrev filled : Run
filled = all_whole one_fill (issued_up one_fill 1) (0 ∷ [])

filled-between : Between one_fill filled
filled-between = all_between one_fill (issued_up one_fill 1) (0 ∷ []) (up_to one_fill one_fill-fits one_fill-accepted 1 (lit≤ tt)).between refl

-- its cells
filled-cells : place_at filled.places 0 ≡ Home (7 ∷ 7 ∷ 7 ∷ 7 ∷ [])
filled-cells = refl

first_below : (i : ℕ) → i < 1 → issued filled.stages i ≡ true
first_below zero h = refl
first_below (suc i) h = absurd (omega arith)

filled-quiet : Quiet one_fill filled
filled-quiet = quiet_by_tests one_fill filled filled-between refl first_below

-- two sections of one reservation, the second of which comes first
abbrev second_first : List ℕ
second_first = 3 ∷ 4 ∷ 5 ∷ 0 ∷ 1 ∷ 2 ∷ []

two_sections-fits : IsGraph two_sections
unfolding digits
two_sections-fits = fits_by_computing two_sections refl refl

abbrev both_over : Run
both_over = all_whole two_sections (issued_up two_sections 6) second_first

both_over-between : Between two_sections both_over
both_over-between = all_between two_sections (issued_up two_sections 6) second_first (up_to two_sections two_sections-fits two_sections-accepted 6 (lit≤ tt)).between refl

both_below : (i : ℕ) → i < 6 → issued both_over.stages i ≡ true
both_below zero h = refl
both_below (suc zero) h = refl
both_below (suc (suc zero)) h = refl
both_below (suc (suc (suc zero))) h = refl
both_below (suc (suc (suc (suc zero)))) h = refl
both_below (suc (suc (suc (suc (suc zero))))) h = refl
both_below (suc (suc (suc (suc (suc (suc i)))))) h = absurd (omega arith)

both_over-quiet : Quiet two_sections both_over
both_over-quiet = quiet_by_tests two_sections both_over both_over-between refl both_below

-- the trace is the order in which they came, and not the evaluation's, and it is lawful
both_over-order : order two_sections ≡ 0 ∷ 1 ∷ 2 ∷ 3 ∷ 4 ∷ 5 ∷ []
both_over-order = refl

both_over-at : (i t : ℕ) → time_at both_over.times i ≡ Some t → slice_get second_first t ≡ Some i
both_over-at zero t e = ap (slice_get second_first) (sym (same_Some 3 t e))
both_over-at (suc zero) t e = ap (slice_get second_first) (sym (same_Some 4 t e))
both_over-at (suc (suc zero)) t e = ap (slice_get second_first) (sym (same_Some 5 t e))
both_over-at (suc (suc (suc zero))) t e = ap (slice_get second_first) (sym (same_Some 0 t e))
both_over-at (suc (suc (suc (suc zero)))) t e = ap (slice_get second_first) (sym (same_Some 1 t e))
both_over-at (suc (suc (suc (suc (suc zero))))) t e = ap (slice_get second_first) (sym (same_Some 2 t e))
both_over-at (suc (suc (suc (suc (suc (suc i)))))) t e = absurd (none-some t e)

both_over-gives : GivesOutcomeWith (effect two_sections) two_sections both_over second_first
both_over-gives = quiet_gives two_sections both_over both_over-between.sound both_over-quiet second_first
    (slots_by_times two_sections both_over both_over-between.sound both_over-quiet second_first refl both_over-at)

-- sums under one reservation, the second section first
abbrev sums_order : List ℕ
sums_order = 1 ∷ 6 ∷ 7 ∷ 8 ∷ 9 ∷ 0 ∷ 2 ∷ 3 ∷ 4 ∷ 5 ∷ []

abbrev summed : Run
summed = all_whole reserved_sums (issued_up reserved_sums 10) sums_order

summed-between : Between reserved_sums summed
summed-between = all_between reserved_sums (issued_up reserved_sums 10) sums_order (up_to reserved_sums reserved_sums-fits reserved_sums-accepted 10 (lit≤ tt)).between refl

summed-cells : place_at summed.places 2 ≡ Home (7 ∷ 7 ∷ [])
summed-cells = refl

-- its trace is the order in which the lines came
summed-times : summed.times ≡ Some 5 ∷ Some 0 ∷ Some 6 ∷ Some 7 ∷ Some 8 ∷ Some 9 ∷ Some 1 ∷ Some 2 ∷ Some 3 ∷ Some 4 ∷ []
summed-times = refl

-- a line that only reads a column, by computing
read_is : (m : Mode) → is_read m ≡ true → m ≡ Read
read_is Read h = refl
read_is m h = absurd (true≢false (sym h))

abbrev reads_alone : GraphValue → ℕ → ℕ → Bool
reads_alone g i c = is_listed (column_list g i) c && list_all (λ (a : Access). implies (a.column == c) (is_read a.mode)) (accesses g i)

pub only_reads : (g : GraphValue) (i c : ℕ) → reads_alone g i c ≡ true → OnlyReads g i c
only_reads g i c h = let both = and_parts _ _ h in record {
  accessed = listed_accessed g i c both.0;
  reads = λ a listed at. read_is a.mode (implied (a.column == c) (is_read a.mode)
      (passes_each (λ (a : Access). implies (a.column == c) (is_read a.mode)) (accesses g i) both.1 a listed) (eq-eqb a.column c at));
}

-- two copies of one column, between a fill of it and another: the run of proofs/ExampleReaders
abbrev pub shared_column : GraphValue
shared_column = record {
  format = Three;
  decls = Space (codes "s") ((0, 1) ∷ []) ∷ Inst (codes "a") 0 (codes "x" ∷ codes "y" ∷ codes "z" ∷ []) ∷ [];
  lines = line (codes "f") (Fill 0 0 7) [] ∷ line (codes "c") (Copy 0 1 0) (0 ∷ []) ∷ line (codes "d") (Copy 0 2 0) (0 ∷ [])
      ∷ line (codes "g") (Fill 0 0 9) (1 ∷ 2 ∷ []) ∷ [];
}

pub shared_column-fits : IsGraph shared_column
unfolding digits
shared_column-fits = fits_by_computing shared_column refl refl

pub shared_column-accepted : Accepted shared_column
shared_column-accepted =
    accepted_by_tests shared_column (record { range = refl; acyclic = refl; released = refl; sections = refl; descends = refl; release_faults = refl; races = refl })
