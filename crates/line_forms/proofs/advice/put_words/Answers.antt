use Rattle.std.proofs.Common.{◌≡◌, ◌++◌, ◌∙◌, subst, sym}
use Rattle.std.specs.Prelude.{cond, codes, OnOk}
use Rattle.basics.specs.Words.{contents}
use Rattle.line_forms.specs.declared.form.TheConstants.{FORMS}
use Rattle.line_forms.specs.Advice.{forms_text, told_texts}
use Rattle.line_forms.proofs.advice.put_words.Goals as goal

pub returns : goal.returns
returns c =
    let r = c.put_forms.result in
    let ws = contents c.args.words.now in
    let old = c.args.out.now.items in
    let new = c.put_forms.new.out.items in
    subst (λ b. OnOk r (new ≡ old ++ cond b (codes "declarations stand above all operations\n") (forms_text c.args.format ws (told_texts c.args.format ws FORMS)))) (sym (sym c.is_misplaced.ensures ∙ c.if-is_misplaced.false))
    (subst (λ z. OnOk r (new ≡ old ++ forms_text c.args.format ws z)) (c.as_slice.ensures.value ∙ c.in_ok-forms.ensures) c.put_forms.ensures)
