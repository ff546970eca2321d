use Rattle.event_tests.proofs.asking.answer_so.Goals as goal

pub ask-requires-clause-recorded : goal.ask-requires-clause-recorded
ask-requires-clause-recorded c = let l = c.handle_of-handle.ensures.line in (l.0, c.loop-line.invariant.tells l.0 l.2, l.3)

pub returns-then-ne-clause-tells : goal.returns-then-ne-clause-tells
returns-then-ne-clause-tells c = λ x d. c.ask.ensures.tells x (c.loop-line.invariant.tells x d)

pub loop-line-preserved : goal.loop-line-preserved
loop-line-preserved c = record { at = c.ask.ensures.at; tells = λ x d. c.ask.ensures.tells x (c.loop-line.invariant.tells x d) }
