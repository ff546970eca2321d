-- A line taken while others share its columns sees their cells, and goes on to see them as other lines are taken and put back.
use Rattle.std.proofs.Common.{◌≡◌, ℕ, ◌<◌, Bool, true, false, ◌⊎◌, inl, inr, List, [], ◌∷◌, length, refl, sym, ◌∙◌, ap, subst, length-set}
use Rattle.std.specs.Prelude.{◌≢◌, slice_set}
use Rattle.std.proofs.lemmas.Bool.{true≢false, false_from_ne_true}
use Rattle.std.proofs.lemmas.List.{get_or-set_same, get_or-set_other}
use Rattle.index_spaces.specs.Space.{points}
use Rattle.basics.proofs.ListFacts.{map_same}
use Rattle.graph_terms.specs.declared.outcome.End.{End}
use Rattle.graph_terms.specs.declared.outcome.End.TheVariants.{Cancelled}
use Rattle.graph_terms.specs.Graph.{GraphValue, column_space}
use Rattle.graph_meaning.specs.Effect.{Cells, Effects, zero_cells, cells_after}
use Rattle.graph_meaning.specs.Evaluation.{end_with, changes_with, cells_of_lines_with}
use Rattle.run_state.specs.Run.{Unissued, Out, Ending, Ended, Home, Run, is_listed, stage_at, place_at, list_at, stage_out, stage_ended, out}
use Rattle.run_state.specs.Sound.{AccessesColumn, OnlyReads, SoundWith}
use Rattle.run_state.specs.Work.{SeesAllWith, cells_from, put_cells_with}
use Rattle.run_state.specs.WholeLine.{all_back, columns_for, put_back_whole}
use Rattle.run_state.specs.AtRest.{MayPutBackWith}
use Rattle.run_state.specs.Sharing.{changed_list, take_sharing, AtRestSharingWith, MayTakeSharingWith}
use Rattle.run_state.proofs.Lists.{listed_here, listed_there, listed_cases, none_listed}
use Rattle.run_state.proofs.Known.{column_there, columns_fresh}
use Rattle.run_state.proofs.Ranks.{cell_of_point}
use Rattle.run_state.proofs.Reductions.{Fresh}
use Rattle.run_state.proofs.Columns.{had_one}
use Rattle.run_state.proofs.WholeLine.{claimed, begun_not, not_the_first}
use Rattle.run_state.proofs.PutBack.{for_listed, for_fresh, all_back_cases}
use Rattle.run_state.proofs.Between.{all_back_other}
use Rattle.run_state.proofs.Taken.{column_space_is}
use Rattle.run_state.proofs.Reading.{cell_is_left, cell_is_kept}
use Rattle.run_state.proofs.Sharing.{changes_or_reads, changed_fresh, listed_is}

-- a line that is taken sees the cells that its columns have at home
pub taken_sees : {does : Effects} {g : GraphValue} {run : Run} → SoundWith does g run → (i : ℕ) (m : MayTakeSharingWith does g run i) (lists : ℕ → List ℕ) →
    ((c : ℕ) → AccessesColumn g i c → place_at run.places c ≡ Home (lists c)) → SeesAllWith does g (take_sharing g run i) i (cells_from g lists)
taken_sees {does} {g} {run} s i m lists at = record {
  is_out = ap stage_out (claimed s i m.whole (changed_list g i) (changed_fresh g s.graph i) (listed_is s i m));
  not_cancelled = m.whole.not_cancelled;
  not_back = λ c. false_from_ne_true (is_listed (list_at run.back c) i) (λ l.
      begun_not s i m.whole (changed_list g i) (changed_fresh g s.graph i) (listed_is s i m) (s.on_columns.back_started c i l));
  sees = λ c a p h. ap (λ xs. cells_from g (λ d. xs) c p) (s.on_columns.cells c (lists c) (at c a))
      ∙ cell_of_point (column_space g c) (column_space_is s.graph i c a) (cells_of_lines_with does zero_cells g (is_listed (list_at run.back c)) c) p h;
}

-- another line that is taken leaves a line what it sees, and what it may be put back with
stage_left : {does : Effects} {g : GraphValue} {run : Run} → (i k : ℕ) → out run.stages i ≡ true → MayTakeSharingWith does g run k →
    stage_at (slice_set run.stages k Out) i ≡ stage_at run.stages i
stage_left {does} {g} {run} i k h m =
    get_or-set_other run.stages k i Out Unissued (λ e. true≢false (sym h ∙ (ap (out run.stages) e ∙ ap stage_out m.whole.is_issued)))

pub take_leaves_sight : {does : Effects} {g : GraphValue} {run : Run} → (i k : ℕ) (cells : Cells) → MayTakeSharingWith does g run k →
    SeesAllWith does g run i cells → SeesAllWith does g (take_sharing g run k) i cells
take_leaves_sight i k cells m w = record {
  is_out = ap stage_out (stage_left i k w.is_out m) ∙ w.is_out;
  not_cancelled = w.not_cancelled;
  not_back = w.not_back;
  sees = w.sees;
}

pub take_leaves_put : {does : Effects} {g : GraphValue} {run : Run} → (i k : ℕ) (y : End) (ys : ℕ → List ℕ) → MayTakeSharingWith does g run k →
    MayPutBackWith does g run i y ys → MayPutBackWith does g (take_sharing g run k) i y ys
take_leaves_put i k y ys m p = record { is_out = stage_left i k (ap stage_out p.is_out) m ∙ p.is_out; is_end = p.is_end; leaves = p.leaves }

-- the lists of the lines put back, with one more
all_back_listed : (back : List (List ℕ)) (k : ℕ) (cs : List ℕ) → Fresh cs → ((c : ℕ) → is_listed cs c ≡ true → c < length back) → (c : ℕ) →
    is_listed cs c ≡ true → list_at (all_back back k cs) c ≡ k ∷ list_at back c
all_back_listed back k [] f there c h = absurd (none_listed c h)
all_back_listed back k (d ∷ cs) f there c h =
    let new : List (List ℕ) = slice_set back d (k ∷ list_at back d) in
    elim (listed_cases d c cs h) [
      | inl e ↦ subst (λ z. list_at (all_back new k cs) z ≡ k ∷ list_at back z) (sym e)
          (all_back_other new k cs d (λ l. not_the_first d d cs f l refl) ∙ get_or-set_same back d (k ∷ list_at back d) [] (there d (listed_here d cs)))
      | inr r ↦ all_back_listed new k cs f.1
          (λ z l. subst (λ n. z < n) (sym (length-set back d (k ∷ list_at back d))) (there z (listed_there d z cs l))) c r
          ∙ ap (λ ks. k ∷ ks) (get_or-set_other back d c (k ∷ list_at back d) [] (not_the_first d c cs f r))
    ]

-- another line that is put back: on each column of a line that is out it is not put back, or both only read it
module _ {does : Effects} {g : GraphValue} {run : Run} (s : SoundWith does g run) (rest : AtRestSharingWith does g run) (i k : ℕ) (ne : i ≢ k) (x : End)
    (xs : ℕ → List ℕ) (m : MayPutBackWith does g run k x xs) (is_out : out run.stages i ≡ true) where
  k_out : out run.stages k ≡ true
  k_out = ap stage_out m.is_out

  stage : stage_at (put_back_whole g run k x xs).stages i ≡ stage_at run.stages i
  stage = get_or-set_other (slice_set run.stages k (Ending x)) k i (Ended x) Unissued ne ∙ get_or-set_other run.stages k i (Ending x) Unissued ne

  not_back : (c : ℕ) → is_listed (list_at run.back c) k ≡ false
  not_back c = false_from_ne_true (is_listed (list_at run.back c) k) (λ h. true≢false (sym (rest.lines.back_ended c k h) ∙ ap stage_ended m.is_out))

  near : (c : ℕ) → is_listed (columns_for g k x) c ≡ true → c < length run.back
  near c h = subst (λ n. c < n) (sym s.on_columns.each_back) (column_there s.graph k c (for_listed g k x c h).1)

  Beside : ℕ → Type 0
  Beside c = (list_at (put_back_whole g run k x xs).back c ≡ list_at run.back c)
      ⊎ ((list_at (put_back_whole g run k x xs).back c ≡ k ∷ list_at run.back c) × OnlyReads g i c × OnlyReads g k c)

  beside : end_with does zero_cells g i ≢ Cancelled → (c : ℕ) →
      AccessesColumn g i c → Beside c
  unfolding Beside
  beside going c a = by_listed (is_listed (columns_for g k x) c) refl
    where
      both_read : is_listed (columns_for g k x) c ≡ true → OnlyReads g i c × OnlyReads g k c
      both_read l = let f = for_listed g k x c l in let went : end_with does zero_cells g k ≢ Cancelled = λ e. f.0 (sym m.is_end ∙ e) in
          elim (changes_or_reads g s.graph k c f.1) [
            | inl other ↦ absurd (elim (changes_or_reads g s.graph i c a) [
              | inl own ↦ ne (had_one i k (sym (rest.out_has i c is_out going own) ∙ rest.out_has k c k_out went other))
              | inr only ↦ rest.out_reads i c is_out going only k (rest.out_has k c k_out went other)
            ])
            | inr there ↦ elim (changes_or_reads g s.graph i c a) [
              | inl own ↦ absurd (rest.out_reads k c k_out went there i (rest.out_has i c is_out going own))
              | inr only ↦ (only, there)
            ]
          ]

      by_listed : (b : Bool) → is_listed (columns_for g k x) c ≡ b → Beside c
      by_listed true l = let both = both_read l in
          inr (all_back_listed run.back k (columns_for g k x) (for_fresh g k x (columns_fresh g s.graph k)) near c l, both.0, both.1)
      by_listed false l = inl (all_back_other run.back k (columns_for g k x) c (λ h. true≢false (sym h ∙ l)))

  pub put_back_leaves_sight : (cells : Cells) → SeesAllWith does g run i cells → SeesAllWith does g (put_back_whole g run k x xs) i cells
  unfolding Beside
  put_back_leaves_sight cells w = record {
    is_out = ap stage_out stage ∙ w.is_out;
    not_cancelled = w.not_cancelled;
    not_back = λ c. false_from_ne_true _ (λ h. elim (all_back_cases run.back k (columns_for g k x) near c i h) [
      | inl e ↦ ne e
      | inr old ↦ true≢false (sym old ∙ w.not_back c)
    ]);
    sees = λ c a p h. w.sees c a p h ∙ sym (elim (beside w.not_cancelled c a) [
      | inl same ↦ ap (λ ks. cells_of_lines_with does zero_cells g (is_listed ks) c p) same
      | inr more ↦ ap (λ ks. cells_of_lines_with does zero_cells g (is_listed ks) c p) more.0 ∙ cell_is_kept s k c k_out more.2 (not_back c) p
    ]);
  }

  -- what a line that only reads a column leaves there, with the other put back and without
  left_alike : (c : ℕ) → OnlyReads g i c → OnlyReads g k c → put_cells_with does g i (k ∷ list_at run.back c) c ≡ put_cells_with does g i (list_at run.back c) c
  left_alike c only there = map_same
      (λ p. cells_after (cells_of_lines_with does zero_cells g (is_listed (k ∷ list_at run.back c))) (changes_with does zero_cells g i) c p)
      (λ p. cells_after (cells_of_lines_with does zero_cells g (is_listed (list_at run.back c))) (changes_with does zero_cells g i) c p)
      (points (column_space g c))
      (λ p. cell_is_left s i c is_out only (cells_of_lines_with does zero_cells g (is_listed (k ∷ list_at run.back c))) p
      ∙ (cell_is_kept s k c k_out there (not_back c) p
      ∙ sym (cell_is_left s i c is_out only (cells_of_lines_with does zero_cells g (is_listed (list_at run.back c))) p)))

  pub put_back_leaves_put : (y : End) (ys : ℕ → List ℕ) → MayPutBackWith does g run i y ys → MayPutBackWith does g (put_back_whole g run k x xs) i y ys
  unfolding Beside
  put_back_leaves_put y ys p = record {
    is_out = stage ∙ p.is_out;
    is_end = p.is_end;
    leaves = λ c a n. p.leaves c a n ∙ sym (elim (beside n c a) [
      | inl same ↦ ap (λ ks. put_cells_with does g i ks c) same
      | inr more ↦ ap (λ ks. put_cells_with does g i ks c) more.0 ∙ left_alike c more.1 more.2
    ]);
  }
