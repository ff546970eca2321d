use Rattle.std.proofs.Common.{List, ℕ, Bor, map, ◌∙◌, ap, subst}
use Rattle.graph_words.specs.Draft.{form_of, on_events, events_placed, words_in}
use Rattle.graph_reader.specs.Kinds.{form_placed, kind_placed}
use Rattle.word_meanings.specs.Telling.{AllTell}
use Rattle.word_meanings.proofs.Public.{all_tell_both}
use Rattle.graph_reader.proofs.forms.see_form.Goals as goal

pub returns-clause-faults : goal.returns-clause-faults
unfolding form_placed
returns-clause-faults c =
    let ws = map (λ (w : Bor (List ℕ)). w.now) c.args.words.now in
    let more = c.with-faults.ensures in
    all_tell_both c.args.graph.now (kind_placed c.args.kind ws) (events_placed (on_events (c.args.graph.now).format (form_of c.args.kind) ws)) c.read_parts.result.1 c.in_ok-on.more c.with-faults.result
    (subst (λ ps. AllTell c.args.graph.now (words_in ps ws) c.read_parts.result.1) c.places.ensures c.read_parts.ensures.faults)
    (subst (λ es. AllTell c.args.graph.now (events_placed es) c.in_ok-on.more) (c.on_events.ensures ∙ ap (λ fm. on_events fm (form_of c.args.kind) ws) c.format.ensures) c.in_ok-on.ensures.faults)
    more.misnamed more.twice more.unknown more.unlike more.misnumbered
