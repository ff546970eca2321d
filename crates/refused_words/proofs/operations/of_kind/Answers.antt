use Rattle.std.proofs.Common.{◌≡◌, [], ◌∷◌, length, sym, ◌∙◌, ap}
use Rattle.std.specs.Prelude.{option_map}
use Rattle.std.proofs.lemmas.List.{length-map}
use Rattle.basics.specs.Words.{contents}
use Rattle.graph_words.specs.Draft.{form_of, on_events}
use Rattle.refused_words.specs.Limits.{quantity_value}
use Rattle.refused_words.proofs.LimitFacts.{kind_limit, first_of}
use Rattle.refused_words.proofs.operations.of_kind.Goals as goal

pub returns : goal.returns
returns c =
    let ws = contents c.args.rest.now in
    let count : length c.on_events.result.now ≡ length (on_events (c.args.graph.now).format (form_of c.args.kind) ws) =
    sym (length-map c.on_events.result.now _) ∙ ap length (c.on_events.ensures ∙ ap (λ fm. on_events fm (form_of c.args.kind) ws) c.format.ensures) in
    λ name. ap (option_map quantity_value) c.first_above.ensures
    ∙ (first_of (c.operations.result ∷ c.events-behind.result ∷ c.edges.result ∷ c.spaces.result ∷ [])
    ∙ kind_limit c.args.graph.now c.args.kind name ws c.edges_of_kind.result (length c.on_events.result.now) _ _ _ _ c.edges_of_kind.ensures.count count c.operations.ensures c.events-behind.ensures c.edges.ensures c.spaces.ensures)
