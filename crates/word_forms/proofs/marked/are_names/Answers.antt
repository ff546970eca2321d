use Rattle.std.proofs.Common.{◌∙◌}
use Rattle.word_forms.proofs.Named.{named}
use Rattle.word_forms.proofs.marked.are_names.Goals as goal

pub returns : goal.returns
returns c = c.is_some.ensures ∙ named c.in_ok-names.names _ _ c.in_ok-names.ensures
