use Rattle.std.specs.Prelude.{All}
use Rattle.event_table.specs.EventMap.{IsCreated}
use Rattle.event_tests.proofs.table_tests.serve_many.Given as goal

abbrev pub invariant-loop-round : goal.invariant-loop-round
invariant-loop-round l = record {
  created : All (IsCreated l.table) l.handles.items;
}
