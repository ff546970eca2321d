use Rattle.std.proofs.Common.{sym, ◌∙◌}
use Rattle.basics.specs.Words.{contents}
use Rattle.line_forms.proofs.Along.{words_end}
use Rattle.line_forms.proofs.follow.follow.Goals as goal

pub returns-then-not-has_word : goal.returns-then-not-has_word
returns-then-not-has_word c = words_end (contents c.args.items.now) (contents c.args.words.now) c.loop-i.i _ (sym c.has_word.ensures ∙ c.if-not-has_word.true) c.loop-i.invariant
