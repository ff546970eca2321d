use Rattle.std.proofs.Common.{◌<◌, length, subst, sym, ◌∙◌, ap}
use Rattle.std.specs.Prelude.{slice_get}
use Rattle.graph_terms.specs.Graph.{GraphValue, named_spaces}
use Rattle.graph_indexes.specs.Tables.{TablesValue}
use Rattle.graph_terms.proofs.Public.{data_space_known}
use Rattle.graph_model.proofs.graph.Graph.data_space.Goals as goal

pub space-requires : goal.space-requires
space-requires c =
    let g : GraphValue = record { format = c.self.inside.format; decls = c.self.inside.decls.items; lines = c.self.inside.lines.items } in
    subst (λ x. c.data_column-column.result.now.space < length (named_spaces x)) c.self.view_is
    (data_space_known g c.self.invariant.fits c.args.c c.data_column-column.result.now (sym (ap (λ (t : TablesValue). slice_get t.data_infos c.args.c) c.self.invariant.tables) ∙ c.data_column-column.ensures))
