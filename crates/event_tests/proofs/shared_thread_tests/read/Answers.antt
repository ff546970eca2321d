use Rattle.std.proofs.Common.{is_ok, sym, subst}
use Rattle.std.specs.Prelude.{All}
use Rattle.shared_events.specs.Seats.{HasSeen}
use Rattle.shared_events.specs.Views.{lists}
use Rattle.event_tests.proofs.Growing.{pushed}
use Rattle.event_tests.proofs.shared_thread_tests.read.Goals as goal

pub agree-agree-requires-clause-seen : goal.agree-agree-requires-clause-seen
agree-agree-requires-clause-seen c = subst (All (HasSeen (lists c.learn.new.seat))) (sym c.as_slice.ensures.value)
    (pushed (HasSeen (lists c.learn.new.seat)) c.args.reader.handles.items c.push.new.self.items c.handle-handle.result (is_ok c.push.result) c.push.ensures.items (λ k d l. c.learn.ensures.kept.0 _ (c.requires.seen k d l)) (subst (HasSeen (lists c.learn.new.seat)) (sym c.handle-handle.ensures) c.learn.ensures.seen))

pub returns-then-kept-clause-seen : goal.returns-then-kept-clause-seen
returns-then-kept-clause-seen c = λ k d l. c.agree-agree.ensures.kept.0 _
    (pushed (HasSeen (lists c.learn.new.seat)) c.args.reader.handles.items c.push.new.self.items c.handle-handle.result (is_ok c.push.result) c.push.ensures.items (λ k d l. c.learn.ensures.kept.0 _ (c.requires.seen k d l)) (subst (HasSeen (lists c.learn.new.seat)) (sym c.handle-handle.ensures) c.learn.ensures.seen) k d l)

pub returns-else-kept-clause-seen : goal.returns-else-kept-clause-seen
returns-else-kept-clause-seen c = λ k d l. c.agree-agree.ensures.kept.0 _
    (pushed (HasSeen (lists c.learn.new.seat)) c.args.reader.handles.items c.push.new.self.items c.handle-handle.result (is_ok c.push.result) c.push.ensures.items (λ k d l. c.learn.ensures.kept.0 _ (c.requires.seen k d l)) (subst (HasSeen (lists c.learn.new.seat)) (sym c.handle-handle.ensures) c.learn.ensures.seen) k d l)
