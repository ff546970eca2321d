use Rattle.std.proofs.Common.{◌≡◌, [], ◌∷◌, ◌∙◌, ap, ap₂}
use Rattle.std.specs.Prelude.{None, codes}
use Rattle.std.proofs.lemmas.Result.{err_from_is_err_and}
use Rattle.graph_terms.specs.declared.verb.Line.{Line}
use Rattle.graph_terms.specs.Graph.{GraphValue}
use Rattle.graph_terms.specs.Name.{is_name_in}
use Rattle.graph_terms.specs.Fits.{with_line}
use Rattle.embedded_run.specs.SumGraph.{lined, one_fill, other_fill}
use Rattle.embedded_run.proofs.Failures.{offered_or_memory, offers_or_memory}
use Rattle.embedded_run.proofs.ItemsFit.{one_fill_fits, other_fill_fits}
use Rattle.embedded_run.proofs.building.filled.Goals as goal

pub offer-requires : goal.offer-requires
offer-requires c = record { named = ap₂ (λ (g : GraphValue) (l : Line). is_name_in g.format l.name) c.in_ok-graph.ensures.declared c.line.ensures }

pub offer-requires-2 : goal.offer-requires-2
offer-requires-2 c = record { named = ap₂ (λ (g : GraphValue) (l : Line). is_name_in g.format l.name) (c.in_ok-graph-2.ensures.added ∙ ap₂ with_line c.in_ok-graph.ensures.declared c.line.ensures) c.line-2.ensures }

pub returns-in_err-graph-2-clause-refused : goal.returns-in_err-graph-2-clause-refused
returns-in_err-graph-2-clause-refused c =
    let line_1 : c.line.result ≡ one_fill = c.line.ensures ∙ ap₂ (λ v on. record { name = codes "f"; verb = v; on = on }) c.fill.ensures c.new.ensures in
    let p = err_from_is_err_and c.from_residual-in_err-graph-2.result c.from_residual-in_err-graph-2.ensures.1 in
    rw (p.1, p.2) (offered_or_memory _ (lined []) _ one_fill _ c.in_err-graph-2.ensures.refused c.in_ok-graph.ensures.declared line_1 one_fill_fits)

pub returns-clause-refused : goal.returns-clause-refused
returns-clause-refused c =
    let line_1 : c.line.result ≡ one_fill = c.line.ensures ∙ ap₂ (λ v on. record { name = codes "f"; verb = v; on = on }) c.fill.ensures c.new.ensures in
    let line_2 : c.line-2.result ≡ other_fill = c.line-2.ensures ∙ ap₂ (λ v on. record { name = codes "g"; verb = v; on = on }) c.fill-2.ensures c.new-2.ensures in
    offers_or_memory c.offer-2.result _ (lined (one_fill ∷ [])) _ other_fill c.offer-2.ensures.refused
    (c.in_ok-graph-2.ensures.added ∙ ap₂ with_line c.in_ok-graph.ensures.declared line_1) line_2 other_fill_fits
