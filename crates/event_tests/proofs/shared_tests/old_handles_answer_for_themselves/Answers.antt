use Rattle.std.proofs.Common.{sym, subst}
use Rattle.std.specs.Prelude.{All}
use Rattle.shared_events.specs.Seats.{HasSeen}
use Rattle.shared_events.specs.Views.{lists}
use Rattle.event_tests.proofs.shared_tests.old_handles_answer_for_themselves.Goals as goal

pub answers-requires-clause-seen : goal.answers-requires-clause-seen
answers-requires-clause-seen g c = subst (All (HasSeen (lists c.split-last.new.seat))) (sym c.as_slice.ensures.value)
    (λ k d l. c.split-last.ensures.kept.0.0 _ (c.serve.ensures.kept.0 _ (c.in_ok-handles.ensures.seen k d l)))

pub answers-requires-2-clause-seen : goal.answers-requires-2-clause-seen
answers-requires-2-clause-seen g c = subst (All (HasSeen (lists c.join.new.seat))) (sym c.as_slice-2.ensures.value)
    (λ k d l. c.join.ensures.kept.1.0 _ (c.split-last.ensures.kept.1.0 _ (c.serve.ensures.kept.0 _ (c.in_ok-handles.ensures.seen k d l))))
