use Rattle.std.proofs.Common.{sym, ◌∙◌}
use Rattle.basics.specs.Words.{contents}
use Rattle.explain_top.proofs.Telling.{no_word}
use Rattle.explain_top.proofs.answer.mark_for.Goals as goal

pub returns-then-speaks_of_none : goal.returns-then-speaks_of_none
returns-then-speaks_of_none c = no_word c.args.why c.args.graph.now (contents c.args.words.now) (sym c.speaks_of_none.ensures ∙ c.if-speaks_of_none.true)
