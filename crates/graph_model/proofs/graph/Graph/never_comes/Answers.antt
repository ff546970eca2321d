use Rattle.std.proofs.Common.{◌<◌, length, sym, ◌∙◌, ap, subst}
use Rattle.std.specs.Prelude.{slice_get, nat_lt}
use Rattle.graph_terms.specs.Graph.{GraphValue}
use Rattle.graph_indexes.specs.Tables.{TablesValue}
use Rattle.graph_model.proofs.RowReads.{never_user, never_phase, never_other, phase_known}
use Rattle.graph_model.proofs.graph.Graph.never_comes.Goals as goal

pub barrier-requires : goal.barrier-requires
barrier-requires c =
    let g : GraphValue = record { format = c.self.inside.format; decls = c.self.inside.decls.items; lines = c.self.inside.lines.items } in
    subst (λ (t : TablesValue). c.in-Phase.barrier < length t.barrier_infos) (sym c.self.invariant.tables)
    (phase_known g c.args.self.now c.args.i c.in-Phase.barrier c.index.result.now c.self.view_is c.self.invariant.fits c.requires c.index.ensures c.in-Phase.is)

pub returns-in-User : goal.returns-in-User
returns-in-User c =
    let g : GraphValue = record { format = c.self.inside.format; decls = c.self.inside.decls.items; lines = c.self.inside.lines.items } in
    never_user g c.args.self.now c.args.i c.index.result.now c.mark.result c.self.view_is c.requires c.index.ensures c.in-User.is (c.mark.ensures ∙ c.self.invariant.rows.mark c.args.i)

pub returns-in-Phase : goal.returns-in-Phase
returns-in-Phase c =
    let g : GraphValue = record { format = c.self.inside.format; decls = c.self.inside.decls.items; lines = c.self.inside.lines.items } in
    ap (λ n. nat_lt c.mark-in-Phase.result.arrivals n) c.from.ensures ∙ never_phase g c.args.self.now c.args.i c.in-Phase.barrier c.index.result.now c.mark-in-Phase.result c.barrier.result.now c.self.view_is c.requires c.index.ensures c.in-Phase.is
    (c.mark-in-Phase.ensures ∙ c.self.invariant.rows.mark c.args.i) (sym (ap (λ (t : TablesValue). slice_get t.barrier_infos c.in-Phase.barrier) c.self.invariant.tables) ∙ c.barrier.ensures)

pub returns-in_default : goal.returns-in_default
returns-in_default c =
    let g : GraphValue = record { format = c.self.inside.format; decls = c.self.inside.decls.items; lines = c.self.inside.lines.items } in
    never_other g c.args.self.now c.args.i c.index.result.now c.self.view_is c.requires c.index.ensures c.in_default.not-User c.in_default.not-Phase
