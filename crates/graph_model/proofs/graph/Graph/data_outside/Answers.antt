use Rattle.std.proofs.Common.{subst}
use Rattle.std.specs.Prelude.{◌↔◌, IsTrue}
use Rattle.index_spaces.specs.Space.{IsWithin}
use Rattle.graph_terms.specs.Graph.{space_at, data_space}
use Rattle.graph_model.proofs.CallLaws.{lies_outside}
use Rattle.graph_model.proofs.graph.Graph.data_outside.Goals as goal

pub returns : goal.returns
returns c =
    lies_outside c.points_are_listed.ensures (space_at c.args.self.now c.args.access.now.space) (data_space c.args.self.now c.args.access.now.column) c.is_within.result
    (subst (λ t. IsTrue c.is_within.result ↔ IsWithin (space_at c.args.self.now c.args.access.now.space) t) c.data_space-column.ensures
    (subst (λ s. IsTrue c.is_within.result ↔ IsWithin s c.data_space-column.result.now) c.space.ensures c.is_within.ensures))
