use Rattle.std.proofs.Common.{not, ◌∙◌, ap}
use Rattle.std.proofs.lemmas.Result.{IfOk-weaker}
use Rattle.tried_advice.proofs.RuleFacts.{has_path}
use Rattle.tried_advice.proofs.orders.leads_and_holds.Goals as goal

pub returns : goal.returns
returns c =
    let path = has_path c.paths_are_lists.ensures c.args.graph c.args.first c.args.second c.in_ok-shortest_path.field-0 c.in_ok-shortest_path.ensures.shortest (c.is_none.ensures ∙ ap not c.if-is_none.false) in
    IfOk-weaker c.holds_but_races.result _ _ (λ b h. ((λ t. (c.lines.ensures.is_graph, (path, h.0 t))), (λ x. h.1 x.1.1))) c.holds_but_races.ensures
