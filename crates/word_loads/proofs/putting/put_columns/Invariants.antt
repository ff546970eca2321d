use Rattle.std.proofs.Common.{ℕ, List, ◌<◌, length}
use Rattle.word_steps.specs.declared.content.Content.{Content as TheContent}
use Rattle.word_steps.specs.Table.{graph_of, IsSeatOf}
use Rattle.word_loads.specs.Laden.{Laden}
use Rattle.word_steps.specs.Claims.{Claim as TheClaim}
use Rattle.word_steps.specs.declared.view.View.{View as TheView}
use Rattle.word_loads.proofs.putting.put_columns.Given as goal

abbrev pub invariant-loop-k : goal.invariant-loop-k
invariant-loop-k l = record {
  at : IsSeatOf l.table l.seat;
  few : l.k < 4;
  line : l.line < length (graph_of l.table).lines;
  some : (v : TheView) × (cl : TheClaim) × (left : List (ℕ × TheContent)) × Laden (graph_of l.table) l.line l.k v cl left l.seat.me l.load.held l.load.numbers;
  each : (v : TheView) (cl : TheClaim) (left : List (ℕ × TheContent)) → Laden (graph_of l.table) l.line 3 v cl left l.fn.seat.me l.fn.load.held l.fn.load.numbers → Laden (graph_of l.table) l.line l.k v cl left l.seat.me l.load.held l.load.numbers;
}

abbrev pub decreases-loop-k : goal.decreases-loop-k
decreases-loop-k l = l.k
