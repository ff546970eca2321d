use Rattle.std.proofs.Common.{◌∙◌, ap}
use Rattle.basics.specs.Words.{contents}
use Rattle.explain_text.proofs.Public.{puts_as}
use Rattle.explain_top.specs.Flows.{other_told}
use Rattle.explain_top.proofs.flows.put_other.Goals as goal

pub returns : goal.returns
returns c = puts_as c.put_marked.result _ _ _ _ (ap (other_told c.args.number c.args.line.now) (ap contents c.as_slice.ensures.value ∙ c.in_ok-words.ensures)) c.put_marked.ensures
