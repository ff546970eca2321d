use Rattle.std.proofs.Common.{◌%◌, arith}
use Rattle.event_tests.proofs.AskedHandles.{still_asked}
use Rattle.event_tests.proofs.session_thread_tests.ask_all.Goals as goal

pub ask-answer-requires-clause-recorded : goal.ask-answer-requires-clause-recorded
ask-answer-requires-clause-recorded c = c.loop-turn.invariant.can_ask (c.loop-turn.turn % 3) _ (omega arith) (omega arith)

pub loop-turn-preserved : goal.loop-turn-preserved
loop-turn-preserved c = record {
  at = c.ask-answer.ensures.at;
  can_ask = still_asked c.loop-turn.asker.seat c.ask-answer.new.seat c.loop-turn.asker.handles c.ask-answer.ensures.tells c.loop-turn.invariant.can_ask;
}
