-- Two lines read one column side by side, and a third changes it once both are over: each premise is met.
use Rattle.std.proofs.Common.{◌≡◌, ℕ, zero, suc, Bool, true, false, inl, inr, List, [], ◌∷◌, refl, sym, lit≤}
use Rattle.std.specs.Prelude.{◌≢◌}
use Rattle.std.specs.List.{list_all}
use Rattle.std.proofs.lemmas.Bool.{true≢false, false_from_ne_true}
use Rattle.basics.proofs.ListFacts.{passes_each}
use Rattle.graph_terms.specs.declared.outcome.End.TheVariants.{Done}
use Rattle.graph_meaning.specs.Effect.{Effects, effect}
use Rattle.graph_meaning.specs.Evaluation.{eval_end}
use Rattle.run_state.specs.Run.{Home, Run, is_listed, place_at, list_at}
use Rattle.run_state.specs.Sound.{AccessesColumn, Sound}
use Rattle.run_state.specs.Moves.{claim, column_out, column_back, column_read, draw, ending, close}
use Rattle.run_state.specs.Premises.{MayReadColumnWith, MayBackOrReadWith}
use Rattle.run_state.specs.Work.{SeesAllWith, PerformsAsEvaluatedWith, cells_now, put_cells}
use Rattle.run_state.specs.WholeLine.{column_list, columns_back}
use Rattle.run_state.proofs.Lists.{listed_contains, listed_cases, none_listed}
use Rattle.run_state.proofs.WholeLine.{listed_accessed, accessed_listed}
use Rattle.run_state.proofs.Stages.{claim-sound, ending-sound, close-sound}
use Rattle.run_state.proofs.Times.{draw-sound}
use Rattle.run_state.proofs.Columns.{column_out-sound, column_back-sound}
use Rattle.run_state.proofs.Work.{sight_does}
use Rattle.run_state.proofs.Reading.{column_read-sound, readers_stay_apart, back_or_read-sound}
use Rattle.run_state.proofs.ExampleRun.{shared_column, shared_column-fits, shared_column-accepted, issued_up, up_to, whole, whole_between, Between, ended_sources, only_reads, done_is, home_is}

abbrev does : Effects
does = effect shared_column

-- both copies are out, each with its target, and the column that both read is at home
abbrev filled : Run
filled = whole shared_column (issued_up shared_column 4) 0

filled-between : Between shared_column filled
filled-between =
    whole_between shared_column (issued_up shared_column 4) 0 (up_to shared_column shared_column-fits shared_column-accepted 4 (lit≤ tt)).between refl

abbrev both_claimed : Run
both_claimed = claim (claim filled 1) 2

both_claimed-sound : Sound shared_column both_claimed
both_claimed-sound = claim-sound
    (claim-sound filled-between.sound 1 record { is_issued = refl; comes = refl; sources = ended_sources shared_column filled 1 refl })
    2 record { is_issued = refl; comes = refl; sources = ended_sources shared_column (claim filled 1) 2 refl }

abbrev both_out : Run
both_out = column_out (column_out both_claimed 1 1) 2 2

both_out-sound : Sound shared_column both_out
both_out-sound = column_out-sound
    (column_out-sound both_claimed-sound 1 1 record {
      is_out = refl;
      accessed = listed_accessed shared_column 1 1 refl;
      not_cancelled = done_is (eval_end shared_column 1) refl;
      not_back = refl;
      at_home = λ k. home_is (place_at both_claimed.places 1) k refl;
    })
    2 2 record {
      is_out = refl;
      accessed = listed_accessed shared_column 2 2 refl;
      not_cancelled = done_is (eval_end shared_column 2) refl;
      not_back = refl;
      at_home = λ k. home_is (place_at (column_out both_claimed 1 1).places 2) k refl;
    }

-- both see its cells, and do to what they see what they do in the evaluation
not_back : (i : ℕ) → i ≢ 0 → (c : ℕ) → is_listed (list_at both_out.back c) i ≡ false
not_back i ne zero = false_from_ne_true _ (λ h. elim (listed_cases 0 i [] h) [ inl e ↦ ne e | inr r ↦ none_listed i r ])
not_back i ne (suc zero) = refl
not_back i ne (suc (suc zero)) = refl
not_back i ne (suc (suc (suc c))) = refl

first_sees : SeesAllWith does shared_column both_out 1 (cells_now shared_column both_out)
first_sees = record {
  is_out = refl;
  not_cancelled = done_is (eval_end shared_column 1) refl;
  not_back = not_back 1 (λ e. cc);
  sees = λ c a p h. refl;
}

first_copies : PerformsAsEvaluatedWith does shared_column 1 (cells_now shared_column both_out)
first_copies = sight_does both_out-sound 1 (cells_now shared_column both_out) first_sees

-- the second is put back on the column, and the first goes on to see it
abbrev second_read : Run
second_read = column_read both_out 0 2

second_may_read : MayReadColumnWith does shared_column both_out 0 2
second_may_read = record {
  is_out = refl;
  only_reads = only_reads shared_column 2 0 refl;
  not_cancelled = done_is (eval_end shared_column 2) refl;
  not_back = refl;
  at_home = λ k. home_is (place_at both_out.places 0) k refl;
}

second_read-sound : Sound shared_column second_read
second_read-sound = column_read-sound both_out-sound 0 2 second_may_read

first_still_sees : SeesAllWith does shared_column second_read 1 (cells_now shared_column both_out)
first_still_sees = readers_stay_apart both_out-sound 1 2 0 (cells_now shared_column both_out) second_may_read (λ e. cc) first_sees

-- the first is put back on both its columns at once, of which it has one, and the second on its own
abbrev first_leaves : ℕ → List ℕ
first_leaves c = put_cells shared_column 1 (list_at second_read.back c) c

first_may : (c : ℕ) → is_listed (column_list shared_column 1) c ≡ true → MayBackOrReadWith does shared_column second_read c 1 (first_leaves c)
first_may zero h = record {
  is_out = refl;
  not_cancelled = done_is (eval_end shared_column 1) refl;
  not_back = refl;
  has_or_reads = inr (only_reads shared_column 1 0 refl, λ k. home_is (place_at second_read.places 0) k refl);
  changed = refl;
}
first_may (suc zero) h =
    record { is_out = refl; not_cancelled = done_is (eval_end shared_column 1) refl; not_back = refl; has_or_reads = inl refl; changed = refl }
first_may (suc (suc c)) h = elim (listed_cases 0 (suc (suc c)) (1 ∷ []) h) [
  | inl e ↦ cc
  | inr r ↦ elim (listed_cases 1 (suc (suc c)) [] r) [ inl e ↦ cc | inr n ↦ absurd (none_listed (suc (suc c)) n) ]
]

abbrev both_back : Run
both_back = column_back (columns_back second_read 1 first_leaves (column_list shared_column 1)) 2 2 (put_cells shared_column 2 [] 2)

both_back-sound : Sound shared_column both_back
both_back-sound = column_back-sound (back_or_read-sound second_read-sound 1 first_leaves first_may) 2 2 (put_cells shared_column 2 [] 2)
    record { has = refl; changed = refl }

-- each has copied what both read, which is as it was
copied : both_back.places ≡ Home (7 ∷ 7 ∷ []) ∷ Home (7 ∷ 7 ∷ []) ∷ Home (7 ∷ 7 ∷ []) ∷ []
copied = refl

-- both draw their times and end
abbrev over : Run → ℕ → Run
over run i = close (ending (draw run i) i Done) i Done

abbrev is_back : Run → ℕ → ℕ → Bool
is_back run i c = is_listed (list_at run.back c) i

put_back : (run : Run) (i : ℕ) → list_all (is_back run i) (column_list shared_column i) ≡ true → (c : ℕ) → AccessesColumn shared_column i c →
    is_back run i c ≡ true
put_back run i h c a =
    passes_each (is_back run i) (column_list shared_column i) h c (listed_contains (column_list shared_column i) c (accessed_listed shared_column i c a))

first_over-sound : Sound shared_column (over both_back 1)
first_over-sound =
    let drawn = draw-sound both_back-sound 1 record { is_out = refl; untimed = refl; holds = λ l a n. absurd (true≢false (sym a)) } in
    let ends = ending-sound drawn 1 Done record {
      is_out = refl;
      is_end = refl;
      has_time = refl;
      put_back = λ c a n. put_back (draw both_back 1) 1 refl c a;
      put_in = λ a n. absurd (true≢false (sym a));
    } in
    close-sound ends 1 Done record { is_ending = refl; frees = λ q r d. absurd (true≢false (sym r)) }

abbrev both_over : Run
both_over = over (over both_back 1) 2

both_over-sound : Sound shared_column both_over
both_over-sound =
    let drawn = draw-sound first_over-sound 2 record { is_out = refl; untimed = refl; holds = λ l a n. absurd (true≢false (sym a)) } in
    let ends = ending-sound drawn 2 Done record {
      is_out = refl;
      is_end = refl;
      has_time = refl;
      put_back = λ c a n. put_back (draw (over both_back 1) 2) 2 refl c a;
      put_in = λ a n. absurd (true≢false (sym a));
    } in
    close-sound ends 2 Done record { is_ending = refl; frees = λ q r d. absurd (true≢false (sym r)) }

-- and the third takes the column and changes it
abbrev third_has : Run
third_has = column_out (claim both_over 3) 0 3

third_has-sound : Sound shared_column third_has
third_has-sound = column_out-sound
    (claim-sound both_over-sound 3 record { is_issued = refl; comes = refl; sources = ended_sources shared_column both_over 3 refl })
    0 3 record {
      is_out = refl;
      accessed = listed_accessed shared_column 3 0 refl;
      not_cancelled = done_is (eval_end shared_column 3) refl;
      not_back = refl;
      at_home = λ k. home_is (place_at (claim both_over 3).places 0) k refl;
    }

abbrev changed : Run
changed = column_back third_has 0 3 (9 ∷ 9 ∷ [])

changed-sound : Sound shared_column changed
changed-sound = column_back-sound third_has-sound 0 3 (9 ∷ 9 ∷ []) record { has = refl; changed = refl }
