use Rattle.std.proofs.Common.{◌∙◌, sym}
use Rattle.explain_text.proofs.Public.{puts_as}
use Rattle.refusal_text.proofs.RefusalFacts.{advice_bare}
use Rattle.refusal_text.proofs.conflict.put_advice_by.Goals as goal

pub returns-then-is_empty : goal.returns-then-is_empty
returns-then-is_empty c =
    puts_as c.put_on_line.result _ _ _ _ (advice_bare c.args.graph.now c.args.on.now c.args.first (sym c.is_empty.ensures ∙ c.if-is_empty.true)) c.put_on_line.ensures
