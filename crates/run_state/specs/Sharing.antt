-- What holds where whole lines are taken and put back, and lines that only read a column share it. A line has the columns that it changes.
use Rattle.std.specs.Prelude.{◌≡◌, ◌≢◌, ℕ, Bool, false, not, List, map, filter, Contains, IsTrue}
use Rattle.graph_terms.specs.declared.outcome.End.TheVariants.{Cancelled}
use Rattle.graph_terms.specs.declared.verb.Access.{Access}
use Rattle.graph_terms.specs.Graph.{GraphValue}
use Rattle.graph_terms.specs.Access.{accesses, is_read}
use Rattle.graph_meaning.specs.Effect.{Effects, zero_cells}
use Rattle.graph_meaning.specs.Evaluation.{end_with}
use Rattle.run_state.specs.Run.{Run, Had, place_at, out}
use Rattle.run_state.specs.Sound.{OnlyReads}
use Rattle.run_state.specs.Moves.{claim}
use Rattle.run_state.specs.WholeLine.{lock_of, columns_out, hold_some}
use Rattle.run_state.specs.AtRest.{LinesAtRestWith, MayTakeWholeWith}

-- a line accesses a column, and may change it
abbrev pub ChangesColumn : GraphValue → ℕ → ℕ → Type 0
ChangesColumn g i c = (a : Access) × Contains (accesses g i) a × (a.column ≡ c) × (is_read a.mode ≡ false)

-- the columns that a line may change
abbrev pub is_change : Access → Bool
is_change a = not (is_read a.mode)

abbrev pub changed_list : GraphValue → ℕ → List ℕ
changed_list g i = map (λ (a : Access). a.column) (filter is_change (accesses g i))

-- a line taken that is not cancelled, with the columns that it may change. Those that it only reads stay at home
abbrev pub take_sharing : GraphValue → Run → ℕ → Run
take_sharing g run i = columns_out (hold_some (claim run i) i (lock_of g i)) i (changed_list g i)

-- what holds of a run between two such steps, besides that it is sound
pub record AtRestSharingWith (does : Effects) (g : GraphValue) (run : Run) : Type 0 where
  pub lines : LinesAtRestWith does g run
  -- a line that is out, and not cancelled, has the columns that it may change, and no line has those that it only reads
  pub out_has : (i c : ℕ) → IsTrue (out run.stages i) → end_with does zero_cells g i ≢ Cancelled → ChangesColumn g i c →
      place_at run.places c ≡ Had i
  pub out_reads : (i c : ℕ) → IsTrue (out run.stages i) → end_with does zero_cells g i ≢ Cancelled → OnlyReads g i c →
      (k : ℕ) → place_at run.places c ≢ Had k

-- a line that can be taken so: no line that is out reads what it may change
pub record MayTakeSharingWith (does : Effects) (g : GraphValue) (run : Run) (i : ℕ) : Type 0 where
  pub whole : MayTakeWholeWith does g run i
  pub unread : (c k : ℕ) → ChangesColumn g i c → IsTrue (out run.stages k) → end_with does zero_cells g k ≢ Cancelled → OnlyReads g k c → ⊥
