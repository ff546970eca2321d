-- What a line that was taken holds.
use Rattle.std.specs.Prelude.{◌≡◌, ◌≢◌, ℕ, false, List, IsTrue, slice_index}
use Rattle.index_spaces.specs.Space.{has_point, rank}
use Rattle.graph_terms.specs.declared.outcome.End.TheVariants.{Cancelled}
use Rattle.graph_terms.specs.Graph.{GraphValue, column_space}
use Rattle.graph_meaning.specs.Effect.{Cells, Effect, Effects, zero_cells, cells_after, effect}
use Rattle.graph_meaning.specs.Evaluation.{end_with, changes_with, end_by, made_by, cells_of_lines_with, column_of}
use Rattle.run_state.specs.Run.{Run, Had, is_listed, place_at, list_at, out}
use Rattle.run_state.specs.Sound.{AccessesColumn}

-- the cells of a column, by the lines put back on it
abbrev pub cells_now_with : Effects → GraphValue → Run → Cells
cells_now_with does g run c p = cells_of_lines_with does zero_cells g (is_listed (list_at run.back c)) c p

-- the same with the effects of the graph's verbs
abbrev pub cells_now : GraphValue → Run → Cells
cells_now g run = cells_now_with (effect g) g run

-- a line that is out, is not cancelled and has its columns, with these cells
pub record HoldsAllWith (does : Effects) (g : GraphValue) (run : Run) (i : ℕ) (cells : Cells) : Type 0 where
  pub is_out : IsTrue (out run.stages i)
  pub not_cancelled : end_with does zero_cells g i ≢ Cancelled
  pub has : (c : ℕ) → AccessesColumn g i c → place_at run.places c ≡ Had i
  pub holds : (c : ℕ) → AccessesColumn g i c → (p : ℕ) → IsTrue (has_point (column_space g c) p) → cells c p ≡ cells_now_with does g run c p

-- the same with the effects of the graph's verbs
abbrev pub HoldsAll : GraphValue → Run → ℕ → Cells → Type 0
HoldsAll g run i cells = HoldsAllWith (effect g) g run i cells

-- a line that is out, is not cancelled and was put back on no column, where its columns have these cells now: those that it has and those that it
-- only reads
pub record SeesAllWith (does : Effects) (g : GraphValue) (run : Run) (i : ℕ) (cells : Cells) : Type 0 where
  pub is_out : IsTrue (out run.stages i)
  pub not_cancelled : end_with does zero_cells g i ≢ Cancelled
  pub not_back : (c : ℕ) → is_listed (list_at run.back c) i ≡ false
  pub sees : (c : ℕ) → AccessesColumn g i c → (p : ℕ) → IsTrue (has_point (column_space g c) p) → cells c p ≡ cells_now_with does g run c p

-- the cells of a column after the line's effect on them
abbrev pub performed_by : Effect → Cells → Cells
performed_by e cells = cells_after cells (made_by e.verdict e.changes)

abbrev pub performed_with : Effects → ℕ → Cells → Cells
performed_with does i cells = performed_by (does i cells) cells

-- the same with the effects of the graph's verbs
abbrev pub performed : GraphValue → ℕ → Cells → Cells
performed g i cells = performed_with (effect g) i cells

-- the cells with which line i is put back on a column, on which these lines were put back
abbrev pub put_cells_with : Effects → GraphValue → ℕ → List ℕ → ℕ → List ℕ
put_cells_with does g i ks c = (column_of g (cells_after (cells_of_lines_with does zero_cells g (is_listed ks)) (changes_with does zero_cells g i)) c).cells

-- the same with the effects of the graph's verbs
abbrev pub put_cells : GraphValue → ℕ → List ℕ → ℕ → List ℕ
put_cells g i ks c = put_cells_with (effect g) g i ks c

-- cells that are kept by column, as lists by the rank of the point
abbrev pub cells_from : GraphValue → (ℕ → List ℕ) → Cells
cells_from g lists c p = slice_index (lists c) (rank (column_space g c) p)

-- what a line does to these cells, where no source cancels it, is what it does in the evaluation
pub record PerformsAsEvaluatedWith (does : Effects) (g : GraphValue) (i : ℕ) (cells : Cells) : Type 0 where
  pub end_is : end_by (does i cells).verdict ≡ end_with does zero_cells g i
  pub changes_are : made_by (does i cells).verdict (does i cells).changes ≡ changes_with does zero_cells g i

-- the same with the effects of the graph's verbs
abbrev pub PerformsAsEvaluated : GraphValue → ℕ → Cells → Type 0
PerformsAsEvaluated g i cells = PerformsAsEvaluatedWith (effect g) g i cells
