use Rattle.std.proofs.Common.{sym}
use Rattle.graph_words.proofs.CutBytes.{before_dot_is, no_dot_is}
use Rattle.graph_words.proofs.cuts.before_dot.Goals as goal

pub returns-in-Some : goal.returns-in-Some
returns-in-Some c = sym (before_dot_is 46 c.args.word.now _ _ c.in-Some.ensures)

pub returns-in-None : goal.returns-in-None
returns-in-None c = sym (no_dot_is 46 c.args.word.now c.in-None.ensures)
