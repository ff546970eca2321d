use Rattle.std.proofs.Common.{◌≡◌, ℕ, take}
use Rattle.index_spaces.specs.Column.{cell_of}
use Rattle.kernel_table.proofs.Runs.{WritesSoFar, over_run}
use Rattle.kernel_table.proofs.walk.write_cells.Given as goal

abbrev pub invariant-loop-k : goal.invariant-loop-k
invariant-loop-k g l = record {
  written : WritesSoFar (over_run l.over l.initial.cells.items) l.over l.cells.items (take l.k l.intervals) (λ p. g.S.RunStep.value l.initial.step l.intervals p (cell_of (over_run l.over l.initial.cells.items) p));
  ready : g.S.RunStep.IsReady l.step l.intervals l.k;
  same : (p cell : ℕ) → g.S.RunStep.value l.step l.intervals p cell ≡ g.S.RunStep.value l.initial.step l.intervals p cell;
}
