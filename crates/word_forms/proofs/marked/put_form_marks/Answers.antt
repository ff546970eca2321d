use Rattle.std.proofs.Common.{◌++◌, ◌∙◌, ap}
use Rattle.std.specs.Prelude.{flat_map}
use Rattle.std.proofs.lemmas.List.{take_all}
use Rattle.basics.specs.Words.{contents}
use Rattle.word_forms.specs.Marked.{form_mark}
use Rattle.word_forms.proofs.Parts.{each_more}
use Rattle.word_forms.proofs.marked.put_form_marks.Goals as goal

pub loop-form-preserved : goal.loop-form-preserved
loop-form-preserved c =
    each_more (form_mark c.args.format c.args.why (contents c.args.words.now) c.args.k) c.args.forms.now c.loop-form.form-index _ c.args.out.now.items c.loop-form.out.items c.put_form_mark.new.out.items c.loop-form-test.true c.loop-form.invariant c.in_ok-put_form_mark.ensures

pub returns : goal.returns
returns c = c.loop-form.invariant ∙ ap (λ fs. c.args.out.now.items ++ flat_map (form_mark c.args.format c.args.why (contents c.args.words.now) c.args.k) fs) (take_all c.loop-form.form-index c.args.forms.now c.loop-form-test.false)
