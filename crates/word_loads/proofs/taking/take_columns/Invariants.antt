use Rattle.std.proofs.Common.{ℕ, List, ◌≤◌, ◌-◌}
use Rattle.word_steps.specs.declared.content.Content.{Content as TheContent}
use Rattle.word_steps.specs.Table.{graph_of, IsSeatOf}
use Rattle.word_loads.specs.Laden.{Taking, TookFree}
use Rattle.word_steps.specs.Claims.{Claim as TheClaim}
use Rattle.word_steps.specs.declared.view.View.{View as TheView}
use Rattle.word_loads.proofs.taking.take_columns.Given as goal

abbrev pub invariant-loop-k : goal.invariant-loop-k
invariant-loop-k l = record {
  few : l.k ≤ 3;
  at : IsSeatOf l.table l.seat;
  some : (v : TheView) × (cl : TheClaim) × (left : List (ℕ × TheContent)) × Taking (graph_of l.table) l.line l.k v cl left l.seat.me l.load.held l.load.numbers;
  each : (v : TheView) (cl : TheClaim) (left : List (ℕ × TheContent)) → Taking (graph_of l.table) l.line 0 v cl left l.fn.seat.me l.fn.load.held l.fn.load.numbers → TookFree (graph_of l.table) l.line l.k v cl left l.seat.me l.load.held l.load.numbers;
}

abbrev pub decreases-loop-k : goal.decreases-loop-k
decreases-loop-k l = 3 - l.k
