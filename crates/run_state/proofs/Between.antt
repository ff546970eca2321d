-- A run begins at rest, a line issued leaves it at rest, and what one line holds is kept by the steps of others.
use Rattle.std.proofs.Common.{◌≡◌, ℕ, ◌<◌, true, List, [], ◌∷◌, refl, sym, ◌∙◌, ap, subst}
use Rattle.std.specs.Prelude.{slice_set}
use Rattle.std.proofs.lemmas.List.{get_or-set_other}
use Rattle.std.proofs.lemmas.Bool.{true≢false}
use Rattle.graph_terms.specs.declared.outcome.End.{End}
use Rattle.graph_terms.specs.Graph.{GraphValue}
use Rattle.graph_meaning.specs.Rules.{Accepted}
use Rattle.graph_meaning.specs.Effect.{Cells, Effects, zero_cells}
use Rattle.graph_meaning.specs.Evaluation.{cells_of_lines_with}
use Rattle.graph_terms.specs.Fits.{IsGraph}
use Rattle.run_state.specs.Run.{LineStage, Unissued, Issued, Out, Ending, Ended, Home, Had, Run, is_listed, place_at, list_at, stage_out, stage_over, stage_ended, out}
use Rattle.run_state.specs.Sound.{SoundWith}
use Rattle.run_state.specs.Moves.{staged, issue, column_out, column_unused, column_back}
use Rattle.run_state.specs.Work.{HoldsAllWith, put_cells_with}
use Rattle.run_state.specs.Start.{start}
use Rattle.run_state.specs.WholeLine.{column_list, take_whole, all_back, columns_for, put_back_whole}
use Rattle.run_state.proofs.Lists.{none_listed, listed_here, listed_there}
use Rattle.run_state.proofs.Columns.{had_one}
use Rattle.run_state.proofs.Start.{no_stage, no_list}
use Rattle.run_state.proofs.WholeLine.{listed_accessed, all_had_other, goes_at_rest}
use Rattle.run_state.proofs.PutBack.{all_home_other, for_listed}
use Rattle.run_state.specs.AtRest.{AtRestWith, MayTakeWholeWith, MayPutBackWith, Undisturbed}
use Rattle.run_state.specs.Premises.{MayIssue}

-- the start is at rest
pub start_is_at_rest : {does : Effects} (g : GraphValue) → IsGraph g → Accepted g → AtRestWith does g (start g)
start_is_at_rest {does} g f a = record {
  none_ending = λ i h. absurd (true≢false (sym (no_stage g f a stage_over i h)));
  back_ended = λ c i h. absurd (no_list g f a _ c i h);
  arrived_ended = λ i h. absurd (none_listed i h);
  freed_ended = λ i h. absurd (none_listed i h);
  out_has = λ i c h. absurd (true≢false (sym (no_stage g f a stage_out i h)));
  out_holds = λ i l h. absurd (true≢false (sym (no_stage g f a stage_out i h)));
  out_untimed = λ i h. absurd (true≢false (sym (no_stage g f a stage_out i h)));
}

-- a line issued leaves it at rest
pub issue_is_at_rest : {does : Effects} {g : GraphValue} {run : Run} → SoundWith does g run → AtRestWith does g run → (i : ℕ) → MayIssue g run i → AtRestWith does g (issue run i)
issue_is_at_rest {does} {g} {run} s rest i m = goes_at_rest rest i Issued run.places run.holders (subst (λ n. i < n) (sym s.on_lines.each_line) m.is_line) refl (ap stage_ended m.unissued) (λ k c h. h) (λ l k h. h)
    (λ c h. absurd (true≢false (sym h))) (λ l h. absurd (true≢false (sym h))) (λ h. absurd (true≢false (sym h)))

-- what a line holds is kept, and so is what it may put back
pub holds_all_stays : {does : Effects} {g : GraphValue} {run after : Run} (i : ℕ) → Undisturbed i run after → (cells : Cells) → HoldsAllWith does g run i cells → HoldsAllWith does g after i cells
holds_all_stays {does} {g} {run} {after} i u cells w = record {
  is_out = ap stage_out u.stage ∙ w.is_out;
  not_cancelled = w.not_cancelled;
  has = λ c a. u.has c (w.has c a);
  holds = λ c a p h. w.holds c a p h ∙ ap (λ ks. cells_of_lines_with does zero_cells g (is_listed ks) c p) (sym (u.back c (w.has c a)));
}

pub may_put_back_stays : {does : Effects} {g : GraphValue} {run after : Run} (i : ℕ) → AtRestWith does g run → Undisturbed i run after → (x : End) (xs : ℕ → List ℕ) → MayPutBackWith does g run i x xs → MayPutBackWith does g after i x xs
may_put_back_stays {does} {g} {run} {after} i rest u x xs m = record {
  is_out = u.stage ∙ m.is_out;
  is_end = m.is_end;
  leaves = λ c a n. m.leaves c a n ∙ ap (λ ks. put_cells_with does g i ks c) (sym (u.back c (rest.out_has i c (ap stage_out m.is_out) n a)));
}

-- steps of another line: a stage, a column out, given back, put back; the other steps touch neither stages, columns nor lists
pub staged_leaves : (i k : ℕ) (s : LineStage) (run : Run) → (i ≡ k → ⊥) → Undisturbed i run (staged run k s)
staged_leaves i k s run ne = record { stage = get_or-set_other run.stages k i s Unissued ne; has = λ c h. h; back = λ c h. refl }

other_column : (i c d : ℕ) (run : Run) → (place_at run.places c ≡ Had i → ⊥) → place_at run.places d ≡ Had i → d ≡ c → ⊥
other_column i c d run no_had h e = no_had (ap (place_at run.places) (sym e) ∙ h)

pub column_out_leaves : (i c k : ℕ) (run : Run) → (place_at run.places c ≡ Had i → ⊥) → Undisturbed i run (column_out run c k)
column_out_leaves i c k run ne = record { stage = refl; has = λ d h. get_or-set_other run.places c d (Had k) (Home []) (other_column i c d run ne h) ∙ h; back = λ d h. refl }

pub column_unused_leaves : (i c : ℕ) (xs : List ℕ) (run : Run) → (place_at run.places c ≡ Had i → ⊥) → Undisturbed i run (column_unused run c xs)
column_unused_leaves i c xs run ne = record { stage = refl; has = λ d h. get_or-set_other run.places c d (Home xs) (Home []) (other_column i c d run ne h) ∙ h; back = λ d h. refl }

pub column_back_leaves : (i c k : ℕ) (xs : List ℕ) (run : Run) → (place_at run.places c ≡ Had i → ⊥) → Undisturbed i run (column_back run c k xs)
column_back_leaves i c k xs run ne = record {
  stage = refl;
  has = λ d h. get_or-set_other run.places c d (Home xs) (Home []) (other_column i c d run ne h) ∙ h;
  back = λ d h. get_or-set_other run.back c d (k ∷ list_at run.back c) [] (other_column i c d run ne h);
}

pub all_back_other : (back : List (List ℕ)) (k : ℕ) (cs : List ℕ) (c : ℕ) → (is_listed cs c ≡ true → ⊥) → list_at (all_back back k cs) c ≡ list_at back c
all_back_other back k [] c none = refl
all_back_other back k (d ∷ cs) c none = all_back_other (slice_set back d (k ∷ list_at back d)) k cs c (λ h. none (listed_there d c cs h))
    ∙ get_or-set_other back d c (k ∷ list_at back d) [] (λ e. none (subst (λ z. is_listed (z ∷ cs) c ≡ true) e (listed_here c cs)))

-- whole lines taken and put back leave the others
pub take_leaves : {does : Effects} {g : GraphValue} {run : Run} (i k : ℕ) → out run.stages i ≡ true → MayTakeWholeWith does g run k → Undisturbed i run (take_whole g run k)
take_leaves {does} {g} {run} i k h m = record {
  stage = get_or-set_other run.stages k i Out Unissued (λ e. true≢false (sym h ∙ (ap (out run.stages) e ∙ ap stage_out m.is_issued)));
  has = λ c had. all_had_other run.places k (column_list g k) c (λ l. m.at_home c (listed_accessed g k c l) i had) ∙ had;
  back = λ c had. refl;
}

pub put_back_leaves : {does : Effects} {g : GraphValue} {run : Run} (i k : ℕ) → (i ≡ k → ⊥) → AtRestWith does g run → (x : End) (xs : ℕ → List ℕ) → MayPutBackWith does g run k x xs → Undisturbed i run (put_back_whole g run k x xs)
put_back_leaves {does} {g} {run} i k ne rest x xs m =
    let other : (c : ℕ) → place_at run.places c ≡ Had i → is_listed (columns_for g k x) c ≡ true → ⊥ =
    λ c had l. (let f = for_listed g k x c l in ne (had_one i k (sym had ∙ rest.out_has k c (ap stage_out m.is_out) (λ e. f.0 (sym m.is_end ∙ e)) f.1))) in
    record {
      stage = get_or-set_other (slice_set run.stages k (Ending x)) k i (Ended x) Unissued ne ∙ get_or-set_other run.stages k i (Ending x) Unissued ne;
      has = λ c had. all_home_other run.places xs (columns_for g k x) c (other c had) ∙ had;
      back = λ c had. all_back_other run.back k (columns_for g k x) c (other c had);
    }

-- and beside the column of a step each column stays where it is, with its list: for a line's own other columns
pub beside_out : (c d k : ℕ) (run : Run) → (d ≡ c → ⊥) → place_at (column_out run c k).places d ≡ place_at run.places d
beside_out c d k run ne = get_or-set_other run.places c d (Had k) (Home []) ne

pub beside_unused : (c d : ℕ) (xs : List ℕ) (run : Run) → (d ≡ c → ⊥) → place_at (column_unused run c xs).places d ≡ place_at run.places d
beside_unused c d xs run ne = get_or-set_other run.places c d (Home xs) (Home []) ne

pub beside_back : (c d k : ℕ) (xs : List ℕ) (run : Run) → (d ≡ c → ⊥) →
    (place_at (column_back run c k xs).places d ≡ place_at run.places d) × (list_at (column_back run c k xs).back d ≡ list_at run.back d)
beside_back c d k xs run ne = (get_or-set_other run.places c d (Home xs) (Home []) ne, get_or-set_other run.back c d (k ∷ list_at run.back c) [] ne)
