-- The work of a line that was taken, and what it leaves when it is done.
use Rattle.std.specs.Prelude.{◌≡◌, ◌≢◌, ℕ, ◌↔◌, Bool, true, false, cond, List, [], Some, None}
use Rattle.std.specs.Option.{option_map_or}
use Rattle.index_spaces.specs.Column.{ColumnValue}
use Rattle.index_spaces.specs.Held.{HeldList, held_at, lending_at}
use Rattle.graph_terms.specs.declared.outcome.End.{End}
use Rattle.graph_terms.specs.declared.outcome.End.TheVariants.{Done, Faulted, Cancelled, Waiting}
use Rattle.graph_terms.specs.declared.outcome.Verdict.{Verdict}
use Rattle.graph_terms.specs.declared.outcome.Verdict.TheVariants.{Fine, Fault}
use Rattle.graph_terms.specs.Graph.{column_space}
use Rattle.graph_meaning.specs.Effect.{Effects, zero_cells}
use Rattle.graph_meaning.specs.Evaluation.{end_with, column_of}
use Rattle.run_state.specs.Run.{Out, stage_at, list_at}
use Rattle.run_state.specs.Sound.{AccessesColumn, OnlyReads}
use Rattle.run_state.specs.Sharing.{ChangesColumn}
use Rattle.lent_columns.specs.Lendings.{lending_in, number_of}
use Rattle.run_state.specs.Work.{cells_now_with, put_cells_with}
use Rattle.run_state.specs.Verdicts.{effect_by}
use Rattle.run_core.specs.Core.{CoreValue, TellsOf, MayFault}

-- the line, whether it is cancelled, and the columns that it holds
pub record WorkValue : Type 0 where
  pub line : ℕ
  pub is_cancelled : Bool
  pub held : HeldList

-- the line, its end, and the columns that it gives back
pub record FinishedValue : Type 0 where
  pub line : ℕ
  pub ends : End
  pub held : HeldList

-- columns held of a line: exactly those that it accesses, each as a function gives it. Those that it may change are columns of its own, of the
-- others it has a share of the lending that the core has
pub record HoldsColumns (c : CoreValue) (i : ℕ) (held : HeldList) (column : ℕ → ColumnValue) : Type 0 where
  pub has : (k : ℕ) → AccessesColumn c.graph i k → held_at held k ≡ Some (column k)
  pub only : (k : ℕ) (x : ColumnValue) → held_at held k ≡ Some x → AccessesColumn c.graph i k
  pub own : (k : ℕ) → ChangesColumn c.graph i k → lending_at held k ≡ None
  pub shares : (k : ℕ) → OnlyReads c.graph i k → lending_at held k ≡ number_of (lending_in c.lendings k)

abbrev pub HoldsNothing : HeldList → Type 0
HoldsNothing held = (k : ℕ) → held_at held k ≡ None

-- a column as the lines leave it that were put back on it
abbrev pub column_now : Effects → CoreValue → ℕ → ColumnValue
column_now does c k = column_of c.graph (cells_now_with does c.graph c.run) k

-- and as line i leaves it after them
abbrev pub column_left : Effects → CoreValue → ℕ → ℕ → ColumnValue
column_left does c i k = record { space = column_space c.graph k; cells = put_cells_with does c.graph i (list_at c.run.back k) k }

-- where the lines do so it is the work of a line of this core that is out: it holds nothing where the line is cancelled in the evaluation, else
-- exactly the line's columns
pub record IsWorkWith (does : Effects) (c : CoreValue) (w : WorkValue) : Type 0 where
  pub is_out : stage_at c.run.stages w.line ≡ Out
  pub cancelled : (w.is_cancelled ≡ true) ↔ (end_with does zero_cells c.graph w.line ≡ Cancelled)
  pub nothing : w.is_cancelled ≡ true → HoldsNothing w.held
  pub holds : w.is_cancelled ≡ false → HoldsColumns c w.line w.held (column_now does c)

-- it is so whichever calls may fault
abbrev pub IsWork : CoreValue → WorkValue → Type 0
IsWork c w = (faults : ℕ → Bool) → MayFault c faults → IsWorkWith (effect_by faults c.graph) c w

-- its line is out
abbrev pub WorkIsOut : Type 0
WorkIsOut = (c : CoreValue) (w : WorkValue) → IsWork c w → stage_at c.run.stages w.line ≡ Out

-- it is what such a line leaves: its end is that of the evaluation, and its columns are changed as in the evaluation
pub record IsFinishedWith (does : Effects) (c : CoreValue) (f : FinishedValue) : Type 0 where
  pub is_out : stage_at c.run.stages f.line ≡ Out
  pub is_end : end_with does zero_cells c.graph f.line ≡ f.ends
  pub nothing : f.ends ≡ Cancelled → HoldsNothing f.held
  pub holds : f.ends ≢ Cancelled → HoldsColumns c f.line f.held (column_left does c f.line)

-- it is so whichever calls may fault besides what this end tells
pub record IsFinished (c : CoreValue) (f : FinishedValue) : Type 0 where
  pub is_out : stage_at c.run.stages f.line ≡ Out
  pub evaluated : (faults : ℕ → Bool) → MayFault c faults → TellsOf c f.line f.ends faults → IsFinishedWith (effect_by faults c.graph) c f

-- the verdict of a line: that of the host for a call, its own for another
abbrev pub verdict_by : Bool → Verdict → Verdict → Verdict
verdict_by calls said own = cond calls said own

-- the verdict of a line that ends so
abbrev pub verdict_of : End → Verdict
verdict_of Done = Fine
verdict_of Faulted = Fault
verdict_of Cancelled = Fine
verdict_of Waiting = Fine

-- what stays the work of a line, and what it leaves, from one core to another
pub record KeepsWork (old new : CoreValue) (i : ℕ) : Type 0 where
  pub work : (w : WorkValue) → w.line ≡ i → IsWork old w → IsWork new w
  pub finished : (f : FinishedValue) → f.line ≡ i → IsFinished old f → IsFinished new f

-- the cells of the columns that are held
abbrev pub cells_in : HeldList → ℕ → List ℕ
cells_in held k = option_map_or (λ (x : ColumnValue). x.cells) (held_at held k) []
