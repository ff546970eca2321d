-- The laws that the proofs of other crates cite, as specs/ states them.
use Rattle.explain_text.specs.Laws.{PutSameBytes, PutsSameBytes, PutPartByPart, PutsPartByPart, EndedStays, FirstStands, StandsBehind, CutHasAll}
use Rattle.explain_text.proofs.TextFacts as text_facts
use Rattle.explain_text.proofs.WordParts as word_parts
use Rattle.explain_text.proofs.WordPlaces as word_places
use Rattle.explain_text.proofs.FrontFacts as front_facts

pub put_as : PutSameBytes
put_as = text_facts.put_as

pub puts_as : {X E : Type 0} → PutsSameBytes X E
puts_as = text_facts.puts_as

pub then_put : PutPartByPart
then_put = text_facts.then_put

pub then_puts : {X E : Type 0} → PutsPartByPart X E
then_puts = text_facts.then_puts

pub ended_stays : EndedStays
ended_stays = front_facts.ended_stays

pub first_stands : FirstStands
first_stands = word_parts.first_stands

pub stands_behind : StandsBehind
stands_behind = word_parts.stands_behind

pub cut_length : CutHasAll
cut_length = word_places.cut_length
