use Rattle.graph_words.proofs.CutBytes.{not_two, are_two, more_than_two}
use Rattle.graph_words.proofs.cuts.around_dot.Goals as goal

pub returns-in_default : goal.returns-in_default
returns-in_default c = not_two 46 c.args.word.now c.in_default.ensures

pub returns-in-Some-cut : goal.returns-in-Some-cut
returns-in-Some-cut c = more_than_two 46 c.args.word.now c.in-Some.front.now c.in-Some.back.now c.in-Some-cut.field-0.0.now c.in-Some-cut.field-0.1.now c.in-Some.ensures c.in-Some-cut.ensures

pub returns-in-None : goal.returns-in-None
returns-in-None c = are_two 46 c.args.word.now c.in-Some.front.now c.in-Some.back.now c.in-Some.ensures c.in-None.ensures
