-- The laws that the proofs of other crates cite, as specs/ states them.
use Rattle.word_meanings.specs.Laws.{NamesAreWords, WordsByTest, EachIsName, PiecesJoinAgain, JoinedWordsAreOne, WordsHaveNoNewline, WordsCutAgain, FieldsReadBack, NumbersHaveDigits, ValuesReadBack, IntervalsReadBack, IntervalsAreWords, IntervalsSpellBack, SpacesAscend, AscendingAreSpaces, SpacesAreBounded, GraphsAreNamed, PlacesReadBack, PlacesSpellBack, LineNamesSpellBack, LineNamesAreUsed, LineNamesAreNames, FoundIsAll, OneIsTold, BothAreTold, NextIsTold}
use Rattle.word_meanings.proofs.WordFacts as word_facts
use Rattle.word_meanings.proofs.GraphNames as graph_names
use Rattle.word_meanings.proofs.Places as places
use Rattle.word_meanings.proofs.Owners as owners
use Rattle.word_meanings.proofs.SeenWords as seen_words

pub name_is_word : NamesAreWords
name_is_word = word_facts.name_is_word

pub word_by_test : WordsByTest
word_by_test = word_facts.word_by_test

pub names_each : EachIsName
names_each = word_facts.names_each

pub joined_pieces : PiecesJoinAgain
joined_pieces = word_facts.joined_pieces

pub joined_is_word : JoinedWordsAreOne
joined_is_word = word_facts.joined_is_word

pub words_line : WordsHaveNoNewline
words_line = word_facts.words_line

pub words_pieces : WordsCutAgain
words_pieces = word_facts.words_pieces

pub field_pieces : FieldsReadBack
field_pieces = word_facts.field_pieces

pub decimal_digits : NumbersHaveDigits
decimal_digits = word_facts.decimal_digits

pub value_of-decimal : ValuesReadBack
value_of-decimal = word_facts.value_of-decimal

pub intervals_of-word : IntervalsReadBack
intervals_of-word = word_facts.intervals_of-word

pub intervals_is_word : IntervalsAreWords
intervals_is_word = word_facts.intervals_is_word

pub intervals_of-spelled : IntervalsSpellBack
intervals_of-spelled = word_facts.intervals_of-spelled

pub ascends : SpacesAscend
ascends = word_facts.ascends

pub ascends_from : AscendingAreSpaces
ascends_from = word_facts.ascends_from

pub intervals_bounded : SpacesAreBounded
intervals_bounded = word_facts.intervals_bounded

pub is_named : GraphsAreNamed
is_named = graph_names.is_named

pub place_reads : PlacesReadBack
place_reads = places.place_reads

pub place_spelled : PlacesSpellBack
place_spelled = places.place_spelled

pub line_as : LineNamesSpellBack
line_as = places.line_as

pub line_used : LineNamesAreUsed
line_used = owners.line_used

pub line_named : LineNamesAreNames
line_named = owners.line_named

pub is_found : FoundIsAll
is_found = owners.is_found

pub all_tell_one : OneIsTold
all_tell_one = seen_words.all_tell_one

pub all_tell_both : BothAreTold
all_tell_both = seen_words.all_tell_both

pub same_tell_more : NextIsTold
same_tell_more = seen_words.same_tell_more
