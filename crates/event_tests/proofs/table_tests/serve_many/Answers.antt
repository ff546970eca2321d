use Rattle.std.proofs.Common.{is_ok}
use Rattle.event_table.specs.EventMap.{IsCreated}
use Rattle.event_tests.proofs.Growing.{pushed}
use Rattle.event_tests.proofs.table_tests.serve_many.Goals as goal

pub loop-round-preserved : goal.loop-round-preserved
loop-round-preserved c = record {
  created = pushed (IsCreated c.serve.new.table) c.loop-round.handles.items c.push.new.self.items c.in-Some.handle (is_ok c.push.result) c.push.ensures.items
      (λ k d l. c.serve.ensures.kept _ (c.loop-round.invariant.created k d l)) c.in-Some.ensures.created;
}
