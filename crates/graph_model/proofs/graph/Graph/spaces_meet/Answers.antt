use Rattle.std.proofs.Common.{subst}
use Rattle.std.specs.Prelude.{◌↔◌, IsTrue}
use Rattle.index_spaces.specs.Space.{Meet}
use Rattle.graph_terms.specs.Graph.{space_at}
use Rattle.graph_model.proofs.CallLaws.{shares_point}
use Rattle.graph_model.proofs.graph.Graph.spaces_meet.Goals as goal

pub returns : goal.returns
returns c =
    shares_point c.points_are_listed.ensures (space_at c.args.self.now c.args.one.now.space) (space_at c.args.self.now c.args.other.now.space) c.meets.result
    (subst (λ t. IsTrue c.meets.result ↔ Meet (space_at c.args.self.now c.args.one.now.space) t) c.space-2.ensures
    (subst (λ s. IsTrue c.meets.result ↔ Meet s c.space-2.result.now) c.space.ensures c.meets.ensures))
