use Rattle.std.proofs.Common.{ℕ, List, [], Bor, ap, ◌∙◌, arith}
use Rattle.std.specs.Prelude.{slice_index_or}
use Rattle.std.proofs.lemmas.List.{length-map, length-set}
use Rattle.basics.specs.Words.{contents}
use Rattle.graph_terms.specs.declared.table.Place.TheVariants as places
use Rattle.graph_words.specs.Draft.{Placed, as_place, words_in}
use Rattle.word_meanings.specs.WordFaults.{misnamed, twice, unknown, unlike, misnumbered}
use Rattle.word_meanings.specs.Telling.{named_number, placed_value}
use Rattle.word_meanings.proofs.SeenWords.{placed_next, placed_over, any_next, any_end}
use Rattle.word_meanings.proofs.PartLists.{set_next, parts_are}
use Rattle.word_meanings.proofs.parts.read_parts.Goals as goal

pub loop-i-preserved : goal.loop-i-preserved
loop-i-preserved c =
    let i : ℕ = c.loop-i.i in
    let ps : List Placed = words_in c.args.places.now (contents c.args.words.now) in
    let place = slice_index_or c.args.places.now i places.User in
    let next = placed_next c.args.places.now (contents c.args.words.now) i c.loop-i-test.true (omega (arith, c.loop-i-test.true, c.requires.there, length-map c.args.words.now (λ (w : Bor (List ℕ)). w.now))) in
    record {
      number_room = length-set c.loop-i.parts.numbers i c.see-seen.result.number ∙ c.loop-i.invariant.number_room;
      value_room = length-set c.loop-i.parts.values i c.see-seen.result.value ∙ c.loop-i.invariant.value_room;
      numbers = set_next (λ j. named_number c.args.graph.now (as_place (slice_index_or c.args.places.now j places.User)) (slice_index_or (contents c.args.words.now) j [])) c.loop-i.parts.numbers i c.see-seen.result.number
          (omega (arith, c.loop-i.invariant.number_room, c.requires.few, c.loop-i-test.true)) c.loop-i.invariant.numbers (c.see-seen.ensures.number ∙ ap (named_number c.args.graph.now (as_place place)) c.word.ensures);
      values = set_next (λ j. placed_value (as_place (slice_index_or c.args.places.now j places.User)) (slice_index_or (contents c.args.words.now) j [])) c.loop-i.parts.values i c.see-seen.result.value
          (omega (arith, c.loop-i.invariant.value_room, c.requires.few, c.loop-i-test.true)) c.loop-i.invariant.values (c.see-seen.ensures.value ∙ ap (placed_value (as_place place)) c.word.ensures);
      misnamed = any_next (λ (p : Placed). misnamed (c.args.graph.now).format p.0 p.1) c.loop-i.faults.misnamed c.with-faults.result.misnamed c.see-seen.result.faults.misnamed ps i _ c.loop-i.invariant.misnamed next (c.see-seen.ensures.misnamed ∙ ap (λ w. misnamed (c.args.graph.now).format (as_place place) w) c.word.ensures) c.with-faults.ensures.misnamed;
      twice = any_next (λ (p : Placed). twice c.args.graph.now p.0 p.1) c.loop-i.faults.twice c.with-faults.result.twice c.see-seen.result.faults.twice ps i _ c.loop-i.invariant.twice next (c.see-seen.ensures.twice ∙ ap (λ w. twice c.args.graph.now (as_place place) w) c.word.ensures) c.with-faults.ensures.twice;
      unknown = any_next (λ (p : Placed). unknown c.args.graph.now p.0 p.1) c.loop-i.faults.unknown c.with-faults.result.unknown c.see-seen.result.faults.unknown ps i _ c.loop-i.invariant.unknown next (c.see-seen.ensures.unknown ∙ ap (λ w. unknown c.args.graph.now (as_place place) w) c.word.ensures) c.with-faults.ensures.unknown;
      unlike = any_next (λ (p : Placed). unlike c.args.graph.now p.0 p.1) c.loop-i.faults.unlike c.with-faults.result.unlike c.see-seen.result.faults.unlike ps i _ c.loop-i.invariant.unlike next (c.see-seen.ensures.unlike ∙ ap (λ w. unlike c.args.graph.now (as_place place) w) c.word.ensures) c.with-faults.ensures.unlike;
      misnumbered = any_next (λ (p : Placed). misnumbered (c.args.graph.now).format p.0 p.1) c.loop-i.faults.misnumbered c.with-faults.result.misnumbered c.see-seen.result.faults.misnumbered ps i _ c.loop-i.invariant.misnumbered next (c.see-seen.ensures.misnumbered ∙ ap (λ w. misnumbered (c.args.graph.now).format (as_place place) w) c.word.ensures) c.with-faults.ensures.misnumbered;
    }

pub returns : goal.returns
returns c =
    let over = placed_over c.args.places.now (contents c.args.words.now) c.loop-i.i c.loop-i-test.false in
    record {
      parts = parts_are c.args.graph.now c.loop-i.parts c.args.places.now (contents c.args.words.now) (omega (arith, c.requires.there, length-map c.args.words.now (λ (w : Bor (List ℕ)). w.now)))
          (λ j h. c.loop-i.invariant.numbers j (omega (arith, c.loop-i-test.false))) (λ j h. c.loop-i.invariant.values j (omega (arith, c.loop-i-test.false)));
      faults = record {
        misnamed = any_end (λ (p : Placed). misnamed (c.args.graph.now).format p.0 p.1) c.loop-i.faults.misnamed _ c.loop-i.i c.loop-i.invariant.misnamed over;
        twice = any_end (λ (p : Placed). twice c.args.graph.now p.0 p.1) c.loop-i.faults.twice _ c.loop-i.i c.loop-i.invariant.twice over;
        unknown = any_end (λ (p : Placed). unknown c.args.graph.now p.0 p.1) c.loop-i.faults.unknown _ c.loop-i.i c.loop-i.invariant.unknown over;
        unlike = any_end (λ (p : Placed). unlike c.args.graph.now p.0 p.1) c.loop-i.faults.unlike _ c.loop-i.i c.loop-i.invariant.unlike over;
        misnumbered = any_end (λ (p : Placed). misnumbered (c.args.graph.now).format p.0 p.1) c.loop-i.faults.misnumbered _ c.loop-i.i c.loop-i.invariant.misnumbered over;
      };
    }
