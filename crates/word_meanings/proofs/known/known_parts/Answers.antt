use Rattle.std.proofs.Common.{ℕ, List, [], Bor, false, refl, sym, ap, ◌∙◌, arith}
use Rattle.std.specs.Prelude.{slice_index_or}
use Rattle.std.proofs.lemmas.List.{length-map, length-set}
use Rattle.basics.specs.Words.{contents}
use Rattle.graph_terms.specs.declared.table.Place.TheVariants as places
use Rattle.graph_words.specs.Draft.{Placed, as_place, words_in}
use Rattle.word_meanings.specs.WordFaults.{misnamed, twice, unknown, unlike, misnumbered}
use Rattle.word_meanings.specs.Telling.{named_number, placed_value, is_refused}
use Rattle.word_meanings.proofs.SeenWords.{placed_next, placed_over, any_next, any_end}
use Rattle.word_meanings.proofs.KnownWords.{refused_at}
use Rattle.word_meanings.proofs.PartLists.{set_next, parts_are}
use Rattle.word_meanings.proofs.known.known_parts.Goals as goal

pub loop-i-preserved : goal.loop-i-preserved
loop-i-preserved c =
    let i : ℕ = c.loop-i.i in
    let ps : List Placed = words_in c.args.places.now (contents c.args.words.now) in
    let place = slice_index_or c.args.places.now i places.User in
    let tells = c.in-Some.ensures.known in
    let next = placed_next c.args.places.now (contents c.args.words.now) i c.loop-i-test.true (omega (arith, c.loop-i-test.true, c.requires.there, length-map c.args.words.now (λ (w : Bor (List ℕ)). w.now))) in
    record {
      recent = c.in-Some.ensures.recent;
      number_room = length-set c.loop-i.parts.numbers i c.in-Some.known.number ∙ c.loop-i.invariant.number_room;
      value_room = length-set c.loop-i.parts.values i c.in-Some.known.value ∙ c.loop-i.invariant.value_room;
      numbers = set_next (λ j. named_number c.args.graph.now (as_place (slice_index_or c.args.places.now j places.User)) (slice_index_or (contents c.args.words.now) j [])) c.loop-i.parts.numbers i c.in-Some.known.number
          (omega (arith, c.loop-i.invariant.number_room, c.requires.few, c.loop-i-test.true)) c.loop-i.invariant.numbers (tells.number ∙ ap (named_number c.args.graph.now (as_place place)) c.word.ensures);
      values = set_next (λ j. placed_value (as_place (slice_index_or c.args.places.now j places.User)) (slice_index_or (contents c.args.words.now) j [])) c.loop-i.parts.values i c.in-Some.known.value
          (omega (arith, c.loop-i.invariant.value_room, c.requires.few, c.loop-i-test.true)) c.loop-i.invariant.values (tells.value ∙ ap (placed_value (as_place place)) c.word.ensures);
      misnamed = any_next (λ (p : Placed). misnamed (c.args.graph.now).format p.0 p.1) false false false ps i _ c.loop-i.invariant.misnamed next (tells.misnamed ∙ ap (λ w. misnamed (c.args.graph.now).format (as_place place) w) c.word.ensures) refl;
      twice = any_next (λ (p : Placed). twice c.args.graph.now p.0 p.1) false false false ps i _ c.loop-i.invariant.twice next (tells.twice ∙ ap (λ w. twice c.args.graph.now (as_place place) w) c.word.ensures) refl;
      unknown = any_next (λ (p : Placed). unknown c.args.graph.now p.0 p.1) false false false ps i _ c.loop-i.invariant.unknown next (tells.unknown ∙ ap (λ w. unknown c.args.graph.now (as_place place) w) c.word.ensures) refl;
      unlike = any_next (λ (p : Placed). unlike c.args.graph.now p.0 p.1) false false false ps i _ c.loop-i.invariant.unlike next (tells.unlike ∙ ap (λ w. unlike c.args.graph.now (as_place place) w) c.word.ensures) refl;
      misnumbered = any_next (λ (p : Placed). misnumbered (c.args.graph.now).format p.0 p.1) false false false ps i _ c.loop-i.invariant.misnumbered next (tells.misnumbered ∙ ap (λ w. misnumbered (c.args.graph.now).format (as_place place) w) c.word.ensures) refl;
    }

pub returns-clause-known : goal.returns-clause-known
returns-clause-known c =
    let over = placed_over c.args.places.now (contents c.args.words.now) c.loop-i.i c.loop-i-test.false in (
      parts_are c.args.graph.now c.loop-i.parts c.args.places.now (contents c.args.words.now) (omega (arith, c.requires.there, length-map c.args.words.now (λ (w : Bor (List ℕ)). w.now)))
          (λ j h. c.loop-i.invariant.numbers j (omega (arith, c.loop-i-test.false))) (λ j h. c.loop-i.invariant.values j (omega (arith, c.loop-i-test.false))),
      record {
        misnamed = any_end (λ (p : Placed). misnamed (c.args.graph.now).format p.0 p.1) false _ c.loop-i.i c.loop-i.invariant.misnamed over;
        twice = any_end (λ (p : Placed). twice c.args.graph.now p.0 p.1) false _ c.loop-i.i c.loop-i.invariant.twice over;
        unknown = any_end (λ (p : Placed). unknown c.args.graph.now p.0 p.1) false _ c.loop-i.i c.loop-i.invariant.unknown over;
        unlike = any_end (λ (p : Placed). unlike c.args.graph.now p.0 p.1) false _ c.loop-i.i c.loop-i.invariant.unlike over;
        misnumbered = any_end (λ (p : Placed). misnumbered (c.args.graph.now).format p.0 p.1) false _ c.loop-i.i c.loop-i.invariant.misnumbered over;
      },
    )

pub returns-in_default-clause-known : goal.returns-in_default-clause-known
returns-in_default-clause-known c =
    let i : ℕ = c.loop-i.i in
    let ps : List Placed = words_in c.args.places.now (contents c.args.words.now) in
    let place = slice_index_or c.args.places.now i places.User in
    let next = placed_next c.args.places.now (contents c.args.words.now) i c.loop-i-test.true (omega (arith, c.loop-i-test.true, c.requires.there, length-map c.args.words.now (λ (w : Bor (List ℕ)). w.now))) in
    refused_at (λ (p : Placed). is_refused c.args.graph.now p.0 p.1) ps i _ _ next (ap (is_refused c.args.graph.now (as_place place)) (sym c.word.ensures) ∙ c.in_default.ensures.known)
