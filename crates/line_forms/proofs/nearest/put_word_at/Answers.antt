use Rattle.std.proofs.Common.{sym, ◌∙◌}
use Rattle.std.specs.Prelude.{◌==◌}
use Rattle.basics.proofs.Choices.{last_by}
use Rattle.line_forms.specs.Words.{distance}
use Rattle.line_forms.proofs.Near.{passes, fails}
use Rattle.line_forms.proofs.nearest.put_word_at.Goals as goal

pub returns-then-at : goal.returns-then-at
returns-then-at c = last_by c.push.result (passes (λ v. distance v c.args.word.now == c.args.away) c.args.found.now.items c.push.new.items.items c.args.other (sym c.in_ok-at.ensures ∙ c.if-at.true)) c.push.ensures.ok

pub returns : goal.returns
returns c = fails (λ v. distance v c.args.word.now == c.args.away) c.args.found.now.items c.args.other (sym c.in_ok-at.ensures ∙ c.if-at.false)
