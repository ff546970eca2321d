use Rattle.std.proofs.Common.{◌≡◌, ◌++◌, take}
use Rattle.std.specs.Prelude.{flat_map}
use Rattle.basics.specs.Words.{contents}
use Rattle.word_forms.specs.Marked.{form_mark}
use Rattle.word_forms.proofs.marked.put_form_marks.Given as goal

abbrev pub invariant-loop-form : goal.invariant-loop-form
invariant-loop-form l = l.out.items ≡ l.initial.out.items ++ flat_map (form_mark l.format l.why (contents l.words) l.k) (take l.form-index l.forms)
