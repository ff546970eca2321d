use Rattle.std.proofs.Common.{◌≡◌, [], ◌∷◌, ◌∙◌, ap, ap₂}
use Rattle.std.specs.Prelude.{None, codes}
use Rattle.graph_terms.specs.declared.verb.Line.{Line}
use Rattle.graph_terms.specs.Graph.{GraphValue}
use Rattle.graph_terms.specs.Name.{is_name_in}
use Rattle.embedded_run.specs.SumGraph.{lined, one_fill, other_fill, both_fills}
use Rattle.embedded_run.proofs.Failures.{offers_or_memory}
use Rattle.embedded_run.proofs.ItemsFit.{both_fills_fit}
use Rattle.embedded_run.proofs.building.merged.Goals as goal

pub offer-requires : goal.offer-requires
offer-requires c = record { named = ap₂ (λ (g : GraphValue) (l : Line). is_name_in g.format l.name) c.in_ok-graph.ensures.graph c.line.ensures }

pub returns-clause-refused : goal.returns-clause-refused
returns-clause-refused c =
    let merge : c.line.result ≡ both_fills = c.line.ensures ∙ ap₂ (λ v on. record { name = codes "m"; verb = v; on = on }) c.in_ok-merge.ensures c.new.ensures in
    offers_or_memory c.offer.result _ (lined (one_fill ∷ other_fill ∷ [])) _ both_fills c.offer.ensures.refused c.in_ok-graph.ensures.graph merge both_fills_fit
