use Rattle.std.proofs.Common.{sym, ◌∙◌, ap, subst}
use Rattle.graph_terms.specs.Graph.{GraphValue, upgraded}
use Rattle.graph_meaning.specs.Evaluation.{outcome}
use Rattle.graph_meaning.specs.Need.{IsNeed}
use Rattle.graph_meaning.specs.Rules.{Accepted}
use Rattle.race_check.proofs.upgrade_checked.Goals as goal

pub new-requires-clause-accepted : goal.new-requires-clause-accepted
new-requires-clause-accepted c =
    let g : GraphValue = c.args.checked.graph in
    subst Accepted (sym (c.upgrade.ensures ∙ ap upgraded c.into_graph.ensures)) ((c.upgrade_keeps_meaning.ensures g).0 c.graph.ensures.accepted)

pub new-requires-clause-need : goal.new-requires-clause-need
new-requires-clause-need c =
    let g : GraphValue = c.args.checked.graph in
    subst (λ (x : GraphValue). IsNeed x c.need-need.result) (sym (c.upgrade.ensures ∙ ap upgraded c.into_graph.ensures)) ((c.upgrade_keeps_meaning.ensures g).1 c.need-need.result c.need-need.ensures.need)

pub returns-clause-outcome : goal.returns-clause-outcome
returns-clause-outcome c = λ trace.
    let g : GraphValue = c.args.checked.graph in
    ap (λ (x : GraphValue). outcome x trace) (c.new.ensures.graph ∙ (c.upgrade.ensures ∙ ap upgraded c.into_graph.ensures)) ∙ (c.upgrade_keeps_meaning.ensures g).2 trace
