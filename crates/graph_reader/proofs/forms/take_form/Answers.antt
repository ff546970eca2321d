use Rattle.std.proofs.Common.{◌≡◌, true, List, ℕ, map, ◌∙◌, ap, subst}
use Rattle.std.specs.Prelude.{Option, MatchOption}
use Rattle.basics.specs.Words.{contents}
use Rattle.graph_terms.specs.Graph.{GraphValue}
use Rattle.graph_words.specs.Draft.{form_of, on_events, events_placed, line_number}
use Rattle.word_meanings.specs.Telling.{AllTell, no_faults, any_refused}
use Rattle.graph_reader.specs.Kinds.{kind_draft}
use Rattle.graph_reader.proofs.KnownForms.{line_with, known_line}
use Rattle.graph_reader.proofs.TakenLines.{offered, line_taken}
use Rattle.graph_reader.proofs.RecentLines.{offered_recent}
use Rattle.graph_reader.proofs.forms.take_form.Goals as goal

-- the lines that words name, where no reason refuses one of these
abbrev KnownEvents : GraphValue → List (List ℕ) → Option (List ℕ) → Type 0
KnownEvents g es o = MatchOption o (any_refused g (events_placed es) ≡ true) (λ lines. (lines ≡ map (line_number g) es) × AllTell g (events_placed es) no_faults)

pub offer-requires : goal.offer-requires
offer-requires c =
    let k = known_line c.args.graph.now c.args.kind c.args.name.now c.in-Some.new (contents c.args.words.now) (contents c.room_events-events.result.now) c.places.result.now c.in-Some-known_parts.parts c.of.result c.in-Ok-Some.on
    c.requires.there c.in-Some.ensures c.places.ensures c.in-Some-known_parts.ensures.known c.of.ensures (c.room_events-events.ensures ∙ ap (λ fm. on_events fm (form_of c.args.kind) (contents c.args.words.now)) c.format.ensures)
    (subst (KnownEvents c.args.graph.now (contents c.room_events-events.result.now)) c.in-Ok-Some.field-0-is c.in-Ok-Some.ensures) in
    line_taken c.args.graph.now (kind_draft c.args.graph.now c.args.kind c.args.name.now (contents c.args.words.now)) (line_with c.in-Some.new c.of.result c.in-Ok-Some.on) c.requires.takable k.0 k.1

pub returns-in-Ok-Some-clause-done : goal.returns-in-Ok-Some-clause-done
returns-in-Ok-Some-clause-done c =
    let k = known_line c.args.graph.now c.args.kind c.args.name.now c.in-Some.new (contents c.args.words.now) (contents c.room_events-events.result.now) c.places.result.now c.in-Some-known_parts.parts c.of.result c.in-Ok-Some.on
    c.requires.there c.in-Some.ensures c.places.ensures c.in-Some-known_parts.ensures.known c.of.ensures (c.room_events-events.ensures ∙ ap (λ fm. on_events fm (form_of c.args.kind) (contents c.args.words.now)) c.format.ensures)
    (subst (KnownEvents c.args.graph.now (contents c.room_events-events.result.now)) c.in-Ok-Some.field-0-is c.in-Ok-Some.ensures) in
    offered c.args.graph.now c.offer.new.graph (kind_draft c.args.graph.now c.args.kind c.args.name.now (contents c.args.words.now)) (line_with c.in-Some.new c.of.result c.in-Ok-Some.on) c.offer.result k.0 k.1 c.offer.ensures

pub returns-in-Ok-Some-clause-recent : goal.returns-in-Ok-Some-clause-recent
returns-in-Ok-Some-clause-recent c = offered_recent c.args.graph.now c.offer.new.graph (line_with c.in-Some.new c.of.result c.in-Ok-Some.on) c.offer.result c.known_parts.new.recent c.in-Some-known_parts.ensures.recent c.offer.ensures
