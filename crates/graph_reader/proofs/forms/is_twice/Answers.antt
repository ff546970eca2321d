use Rattle.std.proofs.Common.{◌≡◌, true, List, ℕ, [], Bor, map, sym, ◌∙◌, ap, subst}
use Rattle.std.specs.List.{list_all}
use Rattle.graph_terms.specs.Name.{is_name_in}
use Rattle.graph_words.specs.Draft.{form_of, on_events}
use Rattle.graph_reader.proofs.FormFaults.{events_named}
use Rattle.graph_reader.proofs.forms.is_twice.Goals as goal

pub events_repeat-requires : goal.events_repeat-requires
events_repeat-requires c =
    let ws = map (λ (w : Bor (List ℕ)). w.now) c.args.words.now in
    subst (λ es. list_all (is_name_in (c.args.graph.now).format) es ≡ true) (sym (c.on_events.ensures ∙ ap (λ fm. on_events fm (form_of c.args.kind) ws) c.format.ensures))
    (events_named c.args.graph.now c.args.kind [] ws c.args.faults c.requires.faults c.requires.named)
