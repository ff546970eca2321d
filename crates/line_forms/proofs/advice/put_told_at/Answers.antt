use Rattle.std.proofs.Common.{◌++◌, ◌∙◌, ap, [], ◌∷◌}
use Rattle.std.specs.Prelude.{codes}
use Rattle.std.specs.List.{concat}
use Rattle.basics.specs.Words.{contents}
use Rattle.line_forms.specs.Forms.{shown_front, shown_end}
use Rattle.line_forms.specs.Advice.{leave_text, left_at, several_text}
use Rattle.line_forms.proofs.Parts.{then_puts}
use Rattle.line_forms.proofs.advice.put_told_at.Goals as goal

pub returns : goal.returns
returns c =
    let r = c.put_several.result in
    let ws = contents c.args.words.now in
    let old = c.args.out.now.items in
    then_puts r old c.put_all.new.out.items _ (concat (codes "the form is: " ∷ shown_front c.args.format c.args.form ∷ shown_end c.args.format c.args.form ∷ [])) _
    (c.in_ok-put_all.ensures ∙ (ap (λ t. old ++ concat (codes "the form is: " ∷ t ∷ c.shown_end.result.now ∷ [])) c.shown_front.ensures ∙ ap (λ t. old ++ concat (codes "the form is: " ∷ shown_front c.args.format c.args.form ∷ t ∷ [])) c.shown_end.ensures))
    (then_puts r c.put_all.new.out.items c.put_leave.new.out.items _ (leave_text ws c.args.n) _ c.in_ok-put_leave.ensures
    (then_puts r c.put_leave.new.out.items c.put_left.new.out.items _ (left_at c.args.format c.args.form ws c.args.n) (several_text c.args.format c.args.form ws c.args.n) c.in_ok-put_left.ensures c.put_several.ensures))
