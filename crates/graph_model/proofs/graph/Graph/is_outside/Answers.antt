use Rattle.std.proofs.Common.{refl, subst}
use Rattle.std.specs.Prelude.{◌↔◌, IsTrue, true}
use Rattle.index_spaces.specs.Space.{IsWithin}
use Rattle.graph_terms.specs.Graph.{space_at}
use Rattle.graph_terms.proofs.Public.{outside_is}
use Rattle.graph_model.proofs.graph.Graph.is_outside.Goals as goal

pub returns-then-is_over : goal.returns-then-is_over
returns-then-is_over c =
    outside_is c.points_are_listed.ensures c.args.self.now c.args.access.now true
    (subst (λ t. IsTrue true ↔ IsWithin (space_at c.args.self.now c.args.access.now.space) t) (c.is_over.ensures c.if-is_over.true) ((λ h p x. x), (λ h. refl)))

pub returns : goal.returns
returns c =
    outside_is c.points_are_listed.ensures c.args.self.now c.args.access.now c.is_within.result
    (subst (λ t. IsTrue c.is_within.result ↔ IsWithin (space_at c.args.self.now c.args.access.now.space) t) c.column_space-column.ensures
    (subst (λ s. IsTrue c.is_within.result ↔ IsWithin s c.column_space-column.result.now) c.space.ensures c.is_within.ensures))
