use Rattle.realm_c.proofs.words.realm_word.Goals as goal

pub returns-in-Some-clause-done : goal.returns-in-Some-clause-done
returns-in-Some-clause-done c = λ e. (c.in-Some.word.now, c.in-Some.ensures.some, c.hand_out.ensures.done e)

pub returns-in-Some-clause-cut : goal.returns-in-Some-clause-cut
returns-in-Some-clause-cut c = λ e. (c.in-Some.word.now, c.in-Some.ensures.some, c.hand_out.ensures.cut e)
