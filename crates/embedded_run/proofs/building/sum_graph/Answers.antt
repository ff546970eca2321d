use Rattle.std.proofs.Common.{◌≡◌, [], ◌∷◌, ◌∙◌, ap, ap₂}
use Rattle.std.specs.Prelude.{Some, codes}
use Rattle.graph_terms.specs.declared.verb.Line.{Line}
use Rattle.graph_terms.specs.Graph.{GraphValue}
use Rattle.graph_terms.specs.Name.{is_name_in}
use Rattle.embedded_run.specs.SumGraph.{lined, one_fill, other_fill, both_fills, sum}
use Rattle.embedded_run.proofs.Failures.{offers_or_memory}
use Rattle.embedded_run.proofs.ItemsFit.{sum_fits}
use Rattle.embedded_run.proofs.building.sum_graph.Goals as goal

pub offer-requires : goal.offer-requires
offer-requires c = record { named = ap₂ (λ (g : GraphValue) (l : Line). is_name_in g.format l.name) c.in_ok-graph.ensures.graph c.line.ensures }

pub returns-clause-refused : goal.returns-clause-refused
returns-clause-refused c =
    let last : c.line.result ≡ sum = c.line.ensures ∙ ap₂ (λ v on. record { name = codes "r"; verb = v; on = on }) c.sum.ensures c.in_ok-on.ensures in
    offers_or_memory c.offer.result _ (lined (one_fill ∷ other_fill ∷ both_fills ∷ [])) _ sum c.offer.ensures.refused c.in_ok-graph.ensures.graph last sum_fits
