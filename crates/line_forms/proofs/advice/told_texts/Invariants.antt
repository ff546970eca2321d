use Rattle.std.proofs.Common.{◌≡◌, take}
use Rattle.std.specs.Prelude.{flat_map}
use Rattle.basics.specs.Words.{contents}
use Rattle.line_forms.specs.Advice.{told_text}
use Rattle.line_forms.proofs.advice.told_texts.Given as goal

abbrev pub invariant-loop-form : goal.invariant-loop-form
invariant-loop-form l = l.out.items ≡ flat_map (told_text l.format (contents l.words)) (take l.form-index l.forms)
