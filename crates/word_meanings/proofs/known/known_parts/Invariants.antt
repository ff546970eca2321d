use Rattle.std.proofs.Common.{◌≡◌, ◌<◌, ℕ, [], false, length}
use Rattle.std.specs.Prelude.{slice_index, slice_index_or}
use Rattle.basics.specs.Words.{contents}
use Rattle.graph_terms.specs.declared.table.TheConstants.{MOST_PLACES}
use Rattle.graph_terms.specs.declared.table.Place.TheVariants as places
use Rattle.graph_words.specs.Draft.{Placed, as_place, words_in}
use Rattle.word_meanings.specs.WordFaults.{misnamed, twice, unknown, unlike, misnumbered}
use Rattle.word_meanings.specs.Telling.{named_number, placed_value}
use Rattle.word_meanings.specs.Recent.{IsRecent}
use Rattle.word_meanings.proofs.SeenWords.{AnySoFar}
use Rattle.word_meanings.proofs.known.known_parts.Given as goal

abbrev pub invariant-loop-i : goal.invariant-loop-i
invariant-loop-i l = record {
  recent : IsRecent l.graph l.recent;
  number_room : length l.parts.numbers ≡ MOST_PLACES;
  value_room : length l.parts.values ≡ MOST_PLACES;
  numbers : (j : ℕ) → j < l.i → slice_index l.parts.numbers j ≡ named_number l.graph (as_place (slice_index_or l.places j places.User)) (slice_index_or (contents l.words) j []);
  values : (j : ℕ) → j < l.i → slice_index l.parts.values j ≡ placed_value (as_place (slice_index_or l.places j places.User)) (slice_index_or (contents l.words) j []);
  misnamed : AnySoFar (λ (p : Placed). misnamed l.graph.format p.0 p.1) false (words_in l.places (contents l.words)) l.i;
  twice : AnySoFar (λ (p : Placed). twice l.graph p.0 p.1) false (words_in l.places (contents l.words)) l.i;
  unknown : AnySoFar (λ (p : Placed). unknown l.graph p.0 p.1) false (words_in l.places (contents l.words)) l.i;
  unlike : AnySoFar (λ (p : Placed). unlike l.graph p.0 p.1) false (words_in l.places (contents l.words)) l.i;
  misnumbered : AnySoFar (λ (p : Placed). misnumbered l.graph.format p.0 p.1) false (words_in l.places (contents l.words)) l.i;
}
