use Rattle.std.proofs.Common.{[], ◌∷◌, ◌∙◌, ap₂}
use Rattle.std.proofs.lemmas.Result.{err_from_is_err_and}
use Rattle.graph_terms.specs.Graph.{GraphValue}
use Rattle.graph_terms.specs.Fits.{is_decl_named, with_decl}
use Rattle.embedded_run.specs.SumGraph.{points_decl, columns_decl}
use Rattle.embedded_run.proofs.Failures.{declared_or_memory, declares_or_memory}
use Rattle.embedded_run.proofs.ItemsFit.{declared, points_fit, columns_fit}
use Rattle.embedded_run.proofs.building.declared.Goals as goal

pub declare-requires-clause-named : goal.declare-requires-clause-named
declare-requires-clause-named c = ap₂ (λ (g : GraphValue) d. is_decl_named g.format d) c.new.ensures c.in_ok-points.ensures

pub declare-requires-2-clause-named : goal.declare-requires-2-clause-named
declare-requires-2-clause-named c = ap₂ (λ (g : GraphValue) d. is_decl_named g.format d) (c.in_ok-graph.ensures.added ∙ ap₂ with_decl c.new.ensures c.in_ok-points.ensures) c.in_ok-columns.ensures

pub returns-in_err-graph-clause-refused : goal.returns-in_err-graph-clause-refused
returns-in_err-graph-clause-refused c =
    let p = err_from_is_err_and c.from_residual-in_err-graph.result c.from_residual-in_err-graph.ensures.1 in
    rw (p.1, p.2) (declared_or_memory _ (declared []) _ points_decl _ c.in_err-graph.ensures.refused c.new.ensures c.in_ok-points.ensures points_fit)

pub returns-clause-refused : goal.returns-clause-refused
returns-clause-refused c =
    declares_or_memory c.declare-2.result _ (declared (points_decl ∷ [])) _ columns_decl c.declare-2.ensures.refused
    (c.in_ok-graph.ensures.added ∙ ap₂ with_decl c.new.ensures c.in_ok-points.ensures) c.in_ok-columns.ensures columns_fit
