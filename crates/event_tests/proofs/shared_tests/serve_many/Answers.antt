use Rattle.std.proofs.Common.{is_ok, sym, subst}
use Rattle.shared_events.specs.Seats.{HasSeen}
use Rattle.shared_events.specs.Views.{lists}
use Rattle.event_tests.proofs.Growing.{pushed}
use Rattle.event_tests.proofs.shared_tests.serve_many.Goals as goal

pub loop-round-preserved : goal.loop-round-preserved
loop-round-preserved c = record {
  maker = c.serve.ensures.maker;
  at = c.serve.ensures.at;
  seen = pushed (HasSeen (lists c.serve.new.seat)) c.loop-round.handles.items c.push.new.self.items c.handle.result (is_ok c.push.result) c.push.ensures.items
      (λ k d l. c.serve.ensures.kept.0 _ (c.loop-round.invariant.seen k d l)) (subst (HasSeen (lists c.serve.new.seat)) (sym c.handle.ensures) c.in-Some.ensures.seen);
}
