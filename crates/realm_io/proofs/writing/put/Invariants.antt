use Rattle.std.proofs.Common.{length, take, ◌-◌, ◌≡◌, ◌≤◌}
use Rattle.realm_io.specs.Counts.{MadeAtMost}
use Rattle.realm_io.specs.Told.{with_more}
use Rattle.realm_io.proofs.writing.put.Given as goal

abbrev pub invariant-loop-at : goal.invariant-loop-at
invariant-loop-at g l = record {
  in_range : l.at ≤ length l.bytes;
  took : (g.K.Sink.state l.sink).taken ≡ with_more (g.K.Sink.state l.fn.sink).taken (take l.at l.bytes);
  flushed : (g.K.Sink.state l.sink).flushed ≡ (g.K.Sink.state l.fn.sink).flushed;
  count : (g.K.Sink.state l.fn.sink).faults ≤ (g.K.Sink.state l.sink).faults;
  not_empty : (g.K.Sink.state l.sink).empty_writes ≡ (g.K.Sink.state l.fn.sink).empty_writes;
  made : MadeAtMost (g.K.Sink.state l.fn.sink).calls (g.K.Sink.state l.sink).calls l.at;
}

abbrev pub decreases-loop-at : goal.decreases-loop-at
decreases-loop-at g l = length l.bytes - l.at
