use Rattle.std.proofs.Common.{◌∙◌, ap}
use Rattle.std.specs.List.{list_any}
use Rattle.index_spaces.specs.Space.{has_point, points}
use Rattle.graph_terms.specs.Graph.{space_at}
use Rattle.flow_order.proofs.TieSteps.{meets_by}
use Rattle.flow_order.proofs.asked.spaces_meet.Goals as goal

pub returns : goal.returns
returns c =
    meets_by c.points_are_listed.ensures c.space.result.now c.space-2.result.now c.meets.result c.meets.ensures
    ∙ (ap (λ x. list_any (has_point x) (points c.space-2.result.now)) c.space.ensures
    ∙ ap (λ x. list_any (has_point (space_at c.args.flow.now c.args.one)) (points x)) c.space-2.ensures)
