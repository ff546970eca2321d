use Rattle.std.proofs.Common.{ap, ◌∙◌}
use Rattle.graph_words.specs.Text.{text}
use Rattle.realm_c.proofs.Handing.{holds, cut_is}
use Rattle.realm_c.proofs.making.realm_make.Goals as goal

pub returns-in-Some-clause-done : goal.returns-in-Some-clause-done
returns-in-Some-clause-done c = λ e. holds _ _ _ _ _ (c.as_slice.ensures.value ∙ (c.in-Some.ensures ∙ ap text c.in-Ok.ensures.graph)) (c.hand_out.ensures.done e)

pub returns-in-Some-clause-cut : goal.returns-in-Some-clause-cut
returns-in-Some-clause-cut c = λ e. cut_is _ _ _ _ _ (c.as_slice.ensures.value ∙ (c.in-Some.ensures ∙ ap text c.in-Ok.ensures.graph)) (c.hand_out.ensures.cut e)
