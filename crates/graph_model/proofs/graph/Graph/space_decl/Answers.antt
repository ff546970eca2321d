use Rattle.std.proofs.Common.{◌≡◌, ◌<◌, length, sym, subst, arith}
use Rattle.std.specs.Prelude.{slice_get}
use Rattle.graph_terms.specs.Graph.{GraphValue, named_spaces, space_of}
use Rattle.graph_model.proofs.TableLaws.{space_listed, space_place_below, space_read}
use Rattle.graph_model.proofs.graph.Graph.space_decl.Goals as goal

pub space_place-requires : goal.space_place-requires
space_place-requires c =
    let g : GraphValue = record { format = c.self.inside.format; decls = c.self.inside.decls.items; lines = c.self.inside.lines.items } in
    space_listed g c.self.inside.tables c.self.invariant.tables c.args.s (subst (λ x. c.args.s < length (named_spaces x)) (sym c.self.view_is) c.requires)

pub index-requires : goal.index-requires
index-requires c =
    let g : GraphValue = record { format = c.self.inside.format; decls = c.self.inside.decls.items; lines = c.self.inside.lines.items } in
    let below = space_place_below g c.self.inside.tables c.self.invariant.tables c.args.s (subst (λ x. c.args.s < length (named_spaces x)) (sym c.self.view_is) c.requires) c.space_place.result c.space_place.ensures in
    omega arith

pub returns : goal.returns
returns c =
    let g : GraphValue = record { format = c.self.inside.format; decls = c.self.inside.decls.items; lines = c.self.inside.lines.items } in
    subst (λ x. space_of c.index.result.now ≡ slice_get (named_spaces x) c.args.s) c.self.view_is
    (space_read g c.self.inside.tables c.self.invariant.tables c.args.s (subst (λ x. c.args.s < length (named_spaces x)) (sym c.self.view_is) c.requires) c.space_place.result c.index.result.now c.space_place.ensures c.index.ensures)
