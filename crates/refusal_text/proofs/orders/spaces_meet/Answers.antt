use Rattle.std.proofs.Common.{subst}
use Rattle.std.specs.Prelude.{◌↔◌, IsTrue}
use Rattle.index_spaces.specs.Space.{Meet}
use Rattle.graph_terms.specs.Graph.{space_at}
use Rattle.refusal_text.proofs.OrderFacts.{shares_point}
use Rattle.refusal_text.proofs.orders.spaces_meet.Goals as goal

pub returns : goal.returns
returns c =
    let one = space_at c.args.graph.now c.args.one in
    let other = space_at c.args.graph.now c.args.other in
    shares_point c.points_are_listed.ensures one other c.meets.result
    (subst (λ t. IsTrue c.meets.result ↔ Meet one t) c.space-2.ensures (subst (λ s. IsTrue c.meets.result ↔ Meet s c.space-2.result.now) c.space.ensures c.meets.ensures))
