use Rattle.std.proofs.Common.{◌∙◌, [], ap}
use Rattle.std.specs.Prelude.{false, None}
use Rattle.basics.specs.Words.{contents}
use Rattle.graph_words.specs.Words.{pieces}
use Rattle.graph_terms.specs.declared.format.Format.TheVariants.{One}
use Rattle.line_forms.specs.Advice.{advice}
use Rattle.explain_text.specs.Unread.{mark_text}
use Rattle.explain_text.proofs.Public.{puts_as, then_puts}
use Rattle.explain_top.proofs.answer.put_first.Goals as goal

pub returns : goal.returns
returns c =
    let why = c.args.why in
    let words = ap contents c.as_slice.ensures.value ∙ c.in_ok-words.ensures in
    then_puts c.put.result _ _ _ (mark_text c.args.number [] [] None) _ c.in_ok-put_mark.ensures
    (puts_as c.put.result _ _ _ _
    (c.as_slice-2.ensures.value ∙ (c.in_ok-advice.ensures ∙ (ap (λ ws. advice One false why c.line_at-line.result.now ws) words ∙ ap (λ l. advice One false why l (pieces 32 l)) c.line_at-line.ensures)))
    c.put.ensures)
