use Rattle.std.proofs.Common.{ℕ, List, ◌<◌}
use Rattle.word_steps.specs.declared.content.Content.{Content as TheContent}
use Rattle.word_steps.specs.Table.{graph_of, IsSeatOf}
use Rattle.word_loads.specs.Laden.{Taking}
use Rattle.word_steps.specs.Claims.{Claim as TheClaim}
use Rattle.word_steps.specs.declared.view.View.{View as TheView}
use Rattle.word_loads.proofs.taking.return_columns.Given as goal

abbrev pub invariant-loop-k : goal.invariant-loop-k
invariant-loop-k l = record {
  at : IsSeatOf l.table l.seat;
  few : l.k < 4;
  some : (v : TheView) × (cl : TheClaim) × (left : List (ℕ × TheContent)) × Taking (graph_of l.table) l.line l.k v cl left l.seat.me l.load.held l.load.numbers;
  each : (v : TheView) (cl : TheClaim) (left : List (ℕ × TheContent)) → Taking (graph_of l.table) l.line l.from v cl left l.fn.seat.me l.fn.load.held l.fn.load.numbers → Taking (graph_of l.table) l.line l.k v cl left l.seat.me l.load.held l.load.numbers;
}

abbrev pub decreases-loop-k : goal.decreases-loop-k
decreases-loop-k l = l.k
