use Rattle.std.proofs.Common.{◌≡◌, sym, ◌∙◌}
use Rattle.graph_terms.specs.declared.decl.Decl.TheVariants.{Space}
use Rattle.graph_terms.specs.Graph.{named_spaces, space_at}
use Rattle.graph_model.proofs.TableLaws.{space_decl_is}
use Rattle.graph_model.proofs.graph.Graph.space.Goals as goal

pub unreachable-requires : goal.unreachable-requires
unreachable-requires c =
    let is = space_decl_is (named_spaces c.args.self.now) c.args.s c.space_decl.result.now c.requires c.space_decl.ensures in
    c.in_default.not-Space is.0 (space_at c.args.self.now c.args.s) is.1

pub returns : goal.returns
returns c =
    let is = space_decl_is (named_spaces c.args.self.now) c.args.s c.space_decl.result.now c.requires c.space_decl.ensures in
    let same : Space c.in-Space.name c.in-Space.space ≡ Space is.0 (space_at c.args.self.now c.args.s) = sym c.in-Space.is ∙ is.1 in
    cc
