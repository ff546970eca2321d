use Rattle.std.proofs.Common.{◌≤◌, length, sym, ◌∙◌, subst}
use Rattle.std.proofs.lemmas.Bool.{ltb-false}
use Rattle.graph_terms.specs.Limits.{limits}
use Rattle.flow_top.proofs.FlowLines.{graph_text_of}
use Rattle.flow_top.proofs.answer.text_within.Goals as goal

pub returns-clause-text : goal.returns-clause-text
returns-clause-text c =
    let shown = ltb-false (limits c.format.result).text _ (sym c.is_too_long.ensures ∙ c.if-is_too_long.false) in
    let short : length c.in_ok-text.text.items ≤ (limits c.args.graph.now.format).text = subst (λ xs. length xs ≤ (limits c.args.graph.now.format).text) c.as_slice.ensures.value (subst (λ fm. length c.as_slice.result.now ≤ (limits fm).text) c.format.ensures shown) in
    graph_text_of c.in_ok-text.text.items c.args.graph.now c.requires c.in_ok-text.ensures short
