use Rattle.std.proofs.Common.{◌≡◌, ◌++◌, ◌∙◌, length, ap}
use Rattle.std.specs.Prelude.{nat_lt}
use Rattle.basics.specs.Words.{contents}
use Rattle.line_forms.specs.Advice.{advice}
use Rattle.word_forms.specs.Marked.{word_advice}
use Rattle.explain_text.proofs.Public.{put_as, puts_as, then_puts}
use Rattle.explain_top.proofs.answer.put_advice.Goals as goal

pub returns : goal.returns
returns c =
    let r = c.put-2.result in
    let g = c.args.graph.now in
    let why = c.args.why in
    let line = c.args.line.now in
    let ws = contents c.args.words.now in
    let form = c.as_slice.ensures.value ∙ (c.in_ok-advice.ensures ∙ (ap (λ f. advice f c.is_below-below.result why line ws) c.format.ensures ∙ ap (λ b. advice g.format b why line ws) c.is_below-below.ensures)) in
    let word = c.as_slice-2.ensures.value ∙ (c.in_ok-told.ensures ∙ ap (λ f. word_advice f why line ws c.args.mark) c.format-2.ensures) in
    then_puts r _ _ _ (advice g.format (nat_lt 0 (length g.lines)) why line ws) _ (put_as _ _ _ _ form c.in_ok-put.ensures) (puts_as r _ _ _ _ word c.put-2.ensures)
