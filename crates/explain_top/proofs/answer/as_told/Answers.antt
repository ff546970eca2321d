use Rattle.std.proofs.Common.{◌≡◌, ◌∙◌, ap, subst, sym}
use Rattle.std.specs.List.{list_all}
use Rattle.std.specs.Prelude.{true}
use Rattle.explain_text.specs.Visible.{is_plain, visible, IsFrontOf}
use Rattle.explain_top.specs.Answer.{told}
use Rattle.explain_top.proofs.Telling.{told_front, told_plain}
use Rattle.explain_top.proofs.answer.as_told.Goals as goal

pub returns-clause-text : goal.returns-clause-text
returns-clause-text c =
    let f = c.in_ok-front.front.items in
    let m = c.args.most in
    let whole = c.args.whole.now.text in
    c.in_ok-shorten.ensures.text ∙ (ap (told m) c.of-text.ensures ∙ told_front m f (visible whole) (subst (λ b. IsFrontOf m f (visible b)) c.bytes.ensures c.in_ok-front.ensures.front))

pub returns-clause-plain : goal.returns-clause-plain
returns-clause-plain c =
    let f = c.in_ok-front.front.items in
    let m = c.args.most in
    subst (λ t. list_all is_plain t ≡ true) (sym (c.in_ok-shorten.ensures.text ∙ ap (told m) c.of-text.ensures)) (told_plain m f c.in_ok-front.ensures.plain)
