use Rattle.std.proofs.Common.{sym, ◌∙◌, ap}
use Rattle.std.specs.Prelude.{Some, option_map}
use Rattle.basics.specs.Words.{contents}
use Rattle.graph_words.specs.Draft.{as_place}
use Rattle.word_meanings.specs.WordFaults.{twice}
use Rattle.word_meanings.specs.Telling.{named_number}
use Rattle.refused_words.specs.Places.{place_value, place_at}
use Rattle.refused_words.proofs.RefusedFacts.{ending_of, not_false}
use Rattle.refused_words.proofs.ends.ended_by.Goals as goal

pub returns : goal.returns
returns c =
    let g = c.args.graph.now in
    let ws = contents c.args.words.now in
    let p = as_place c.in-Some-Of.place in
    ending_of g ws c.args.k p c.see-seen.result.number
    (ap (λ f. place_at f ws c.args.k) (sym c.format.ensures) ∙ (sym c.place_at.ensures ∙ ap (option_map place_value) (c.in-Some-Of.is ∙ ap Some c.in-Some-Of.field-0-is)))
    (ap (twice g p) (sym c.word.ensures) ∙ (sym c.see-seen.ensures.twice ∙ not_false c.see-seen.result.faults.twice c.if-not-seen.false))
    (c.see-seen.ensures.number ∙ ap (named_number g p) c.word.ensures)
    c.first_ending.result c.first_ending.ensures
