use Rattle.word_meanings.proofs.KnownWords.{value_tells, value_refused}
use Rattle.word_meanings.proofs.known.known_value.Goals as goal

pub returns-in-Some : goal.returns-in-Some
returns-in-Some c = value_tells c.args.graph.now c.args.word.now c.in-Some.value c.in-Some.ensures

pub returns-in-None : goal.returns-in-None
returns-in-None c = value_refused c.args.graph.now c.args.word.now c.in-None.ensures
