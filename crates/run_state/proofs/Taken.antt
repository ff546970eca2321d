-- A line that was taken whole holds its columns with the cells that they had at home.
use Rattle.std.proofs.Common.{◌≡◌, ℕ, true, inl, inr, List, sym, ◌∙◌, ap, subst}
use Rattle.std.specs.Prelude.{◌≢◌}
use Rattle.std.proofs.lemmas.List.{get_or-set_same}
use Rattle.index_spaces.specs.Space.{IsSpace}
use Rattle.graph_terms.specs.declared.outcome.End.TheVariants.{Cancelled}
use Rattle.graph_terms.specs.Graph.{GraphValue, column_space}
use Rattle.graph_meaning.specs.Evaluation.{end_with, end_by, cells_of_lines_with, column_of}
use Rattle.graph_meaning.specs.Effect.{Cells, Effects, zero_cells}
use Rattle.graph_terms.specs.Fits.{IsGraph}
use Rattle.graph_meaning.proofs.Public.{accesses_fit}
use Rattle.run_state.specs.Run.{Unissued, Out, Home, Had, Run, is_listed, stage_at, place_at, list_at, stage_issued, stage_out}
use Rattle.run_state.specs.Sound.{AccessesColumn, home_cells_with, SoundWith}
use Rattle.run_state.specs.Work.{HoldsAllWith, SeesAllWith, cells_from, performed_with}
use Rattle.run_state.specs.Quiet.{CanTakeWith}
use Rattle.run_state.specs.WholeLine.{take_whole}
use Rattle.run_state.proofs.Lists.{stage_there, out_is}
use Rattle.run_state.proofs.Work.{holders_see, sight_does, sight_cells}
use Rattle.run_state.proofs.Ranks.{cell_of_point}
use Rattle.run_state.proofs.WholeLine.{taken_is_sound, taken_is_at_rest}
use Rattle.run_state.specs.AtRest.{AtRestWith, MayTakeWholeWith, MayPutBackWith}

-- the space of a column that a line accesses
pub column_space_is : {g : GraphValue} → IsGraph g → (i c : ℕ) → AccessesColumn g i c → IsSpace (column_space g c)
column_space_is {g} f i c a = subst (λ z. IsSpace (column_space g z)) a.2 (accesses_fit g i a.0 f a.1).is_column_space

-- lists of the cells by rank hold what stands at home
pub lists_hold : {does : Effects} {g : GraphValue} {run : Run} → SoundWith does g run → (i : ℕ) → stage_out (stage_at run.stages i) ≡ true → end_with does zero_cells g i ≢ Cancelled →
    ((c : ℕ) → AccessesColumn g i c → place_at run.places c ≡ Had i) → (lists : ℕ → List ℕ) → ((c : ℕ) → AccessesColumn g i c → lists c ≡ home_cells_with does g (list_at run.back c) c) →
    HoldsAllWith does g run i (cells_from g lists)
lists_hold {does} {g} {run} s i is_out not_cancelled has lists same = record {
  is_out = is_out;
  not_cancelled = not_cancelled;
  has = has;
  holds = λ c a p h. ap (λ xs. cells_from g (λ d. xs) c p) (same c a) ∙ cell_of_point (column_space g c) (column_space_is s.graph i c a) (cells_of_lines_with does zero_cells g (is_listed (list_at run.back c)) c) p h;
}

-- a line taken whole holds its columns with their cells
pub taken_holds : {does : Effects} {g : GraphValue} {run : Run} → SoundWith does g run → AtRestWith does g run → (i : ℕ) → MayTakeWholeWith does g run i → (lists : ℕ → List ℕ) → ((c : ℕ) → AccessesColumn g i c → place_at run.places c ≡ Home (lists c)) →
    HoldsAllWith does g (take_whole g run i) i (cells_from g lists)
taken_holds {does} {g} {run} s rest i m lists at =
    let is_out : stage_out (stage_at (take_whole g run i).stages i) ≡ true = ap stage_out (get_or-set_same run.stages i Out Unissued (stage_there run.stages i (ap stage_issued m.is_issued))) in
    lists_hold (taken_is_sound s rest i m) i is_out m.not_cancelled
    (λ c a. (taken_is_at_rest s rest i m).out_has i c is_out m.not_cancelled a) lists (λ c a. s.on_columns.cells c (lists c) (at c a))

-- a line that has performed on what it sees may be put back, with what it left
pub seen_may_put_back : {does : Effects} {g : GraphValue} {run : Run} → SoundWith does g run → (i : ℕ) (cells : Cells) → SeesAllWith does g run i cells →
    (xs : ℕ → List ℕ) → ((c : ℕ) → AccessesColumn g i c → xs c ≡ (column_of g (performed_with does i cells) c).cells) →
    MayPutBackWith does g run i (end_by (does i cells).verdict) xs
seen_may_put_back {does} {g} {run} s i cells w xs made = record {
  is_out = out_is (stage_at run.stages i) w.is_out;
  is_end = sym (sight_does s i cells w).end_is;
  leaves = λ c a n. made c a ∙ sight_cells s i cells w c a;
}

pub may_put_back : {does : Effects} {g : GraphValue} {run : Run} → SoundWith does g run → (i : ℕ) (cells : Cells) → HoldsAllWith does g run i cells →
    (xs : ℕ → List ℕ) → ((c : ℕ) → AccessesColumn g i c → xs c ≡ (column_of g (performed_with does i cells) c).cells) →
    MayPutBackWith does g run i (end_by (does i cells).verdict) xs
may_put_back s i cells w xs made = seen_may_put_back s i cells (holders_see s i cells w) xs made

-- so may a line that is cancelled, which holds nothing
pub may_put_back_cancelled : {does : Effects} {g : GraphValue} {run : Run} → (i : ℕ) → stage_at run.stages i ≡ Out → end_with does zero_cells g i ≡ Cancelled → (xs : ℕ → List ℕ) → MayPutBackWith does g run i Cancelled xs
may_put_back_cancelled {does} i out cancelled xs = record { is_out = out; is_end = cancelled; leaves = λ c a n. absurd (n cancelled) }

-- a line that can be taken is cancelled, or can be taken whole
pub can_take_whole : {does : Effects} {g : GraphValue} {run : Run} → (i : ℕ) → CanTakeWith does g run i → end_with does zero_cells g i ≢ Cancelled → MayTakeWholeWith does g run i
can_take_whole {does} {g} {run} i c ne = elim c.is_free [
  | inl cancelled ↦ absurd (ne cancelled)
  | inr free ↦ record { is_issued = c.is_issued; comes = c.comes; sources = c.sources; not_cancelled = ne; lock_free = free.0; at_home = free.1 }
]
