-- The laws of words: how they are cut, what they spell, and what is to be said of them.
use Rattle.std.specs.Prelude.{◌≡◌, ◌==◌, ◌^◌, ◌+◌, ◌<◌, ◌≤◌, ◌||◌, ℕ, List, [], ◌∷◌, ◌++◌, length, map, take, get_or, false, true, Option, Some, MatchOption, decimal}
use Rattle.std.specs.List.{join_with_byte, AllByRecursion, list_all}
use Rattle.std.specs.Str.{all_ascii_digits}
use Rattle.std.proofs.Common.{Bor}
use Rattle.index_spaces.specs.Space.{AscendAbove}
use Rattle.graph_terms.specs.declared.format.Format.{Format}
use Rattle.graph_terms.specs.declared.found.Found.{Found}
use Rattle.graph_terms.specs.Graph.{GraphValue}
use Rattle.graph_terms.specs.Name.{is_name_in}
use Rattle.graph_terms.specs.Names.{StandsFor}
use Rattle.graph_terms.specs.Spelling.{interval_word, comma_word, line_name}
use Rattle.graph_terms.specs.Fits.{IsGraph, is_used}
use Rattle.graph_words.specs.Words.{pieces, words_of, value_of, intervals_of, ascend_from}
use Rattle.graph_words.specs.Draft.{Place, Placed, is_own_word, line_number}
use Rattle.word_meanings.specs.Words.{IsWord, is_word, IsInterval}
use Rattle.word_meanings.specs.WordFaults.{is_line_name}
use Rattle.word_meanings.specs.Lookups.{IsFound}
use Rattle.word_meanings.specs.Telling.{Tells, AllTell}
use Rattle.word_meanings.specs.Names.{IsNamed}
use Rattle.word_meanings.specs.Places.{spell, FitsPlace, IsFine, Reads, IsNumbered, IsSpelled}
use Rattle.word_meanings.specs.declared.seen.Seen.{Seen}
use Rattle.word_meanings.specs.declared.faults.Faults.{Faults}

-- a name is a word
abbrev pub NamesAreWords : Type 0
NamesAreWords = (format : Format) (w : List ℕ) → is_name_in format w ≡ true → IsWord w

-- bytes that pass as a word are one
abbrev pub WordsByTest : Type 0
WordsByTest = (w : List ℕ) → is_word w ≡ true → IsWord w

-- words that pass as names are names, one by one
abbrev pub EachIsName : Type 0
EachIsName = (format : Format) (ws : List (List ℕ)) → list_all (is_name_in format) ws ≡ true → AllByRecursion (λ w. is_name_in format w ≡ true) ws

-- the pieces of bytes, joined, are the bytes
abbrev pub PiecesJoinAgain : Type 0
PiecesJoinAgain = (c : ℕ) (w : List ℕ) → join_with_byte c (pieces c w) ≡ w

-- words that are joined by no space are a word
abbrev pub JoinedWordsAreOne : Type 0
JoinedWordsAreOne = (c : ℕ) (ws : List (List ℕ)) → 44 ≤ c → 0 < length ws → AllByRecursion IsWord ws → IsWord (join_with_byte c ws)

-- the line of words has no newline
abbrev pub WordsHaveNoNewline : Type 0
WordsHaveNoNewline = (ws : List (List ℕ)) → AllByRecursion IsWord ws → AllByRecursion (λ b. (b == 10) ≡ false) (join_with_byte 32 ws)

-- the line of words, cut at the spaces, is the words
abbrev pub WordsCutAgain : Type 0
WordsCutAgain = (ws : List (List ℕ)) → AllByRecursion IsWord ws → 0 < length ws → pieces 32 (join_with_byte 32 ws) ≡ ws

-- fields are read back
abbrev pub FieldsReadBack : Type 0
FieldsReadBack = (format : Format) (fields : List (List ℕ)) → 0 < length fields → list_all (is_name_in format) fields ≡ true → pieces 44 (comma_word fields) ≡ fields

-- a number is spelled by digits
abbrev pub NumbersHaveDigits : Type 0
NumbersHaveDigits = (n : ℕ) → n < 2 ^ 64 → (0 < length (decimal n)) × (all_ascii_digits (decimal n) ≡ true)

-- a value is read back
abbrev pub ValuesReadBack : Type 0
ValuesReadBack = (n : ℕ) → n < 2 ^ 64 → value_of (decimal n) ≡ Some n

-- intervals are read back from their word
abbrev pub IntervalsReadBack : Type 0
IntervalsReadBack = (is : List (ℕ × ℕ)) → 0 < length is → AllByRecursion IsInterval is → intervals_of (comma_word (map interval_word is)) ≡ Some is

-- which is a word
abbrev pub IntervalsAreWords : Type 0
IntervalsAreWords = (is : List (ℕ × ℕ)) → 0 < length is → AllByRecursion IsInterval is → IsWord (comma_word (map interval_word is))

-- and are read from no other
abbrev pub IntervalsSpellBack : Type 0
IntervalsSpellBack = (w : List ℕ) (is : List (ℕ × ℕ)) → intervals_of w ≡ Some is → (w ≡ comma_word (map interval_word is)) × AllByRecursion IsInterval is

-- the intervals of a space ascend
abbrev pub SpacesAscend : Type 0
SpacesAscend = (low : ℕ) (s : List (ℕ × ℕ)) → AscendAbove low s → ascend_from low s ≡ true

-- intervals that ascend are those of a space
abbrev pub AscendingAreSpaces : Type 0
AscendingAreSpaces = (low : ℕ) (s : List (ℕ × ℕ)) → AllByRecursion IsInterval s → ascend_from low s ≡ true → AscendAbove low s

-- the ends of a space's intervals are numbers of points
abbrev pub SpacesAreBounded : Type 0
SpacesAreBounded = (low : ℕ) (s : List (ℕ × ℕ)) → AscendAbove low s → AllByRecursion IsInterval s

-- the names of a graph whose items fit are names, and none stands twice
abbrev pub GraphsAreNamed : Type 0
GraphsAreNamed = (g : GraphValue) → IsGraph g → IsNamed g

-- a number that fits its place is read back from its spelling, and no reason refuses that
abbrev pub PlacesReadBack : Type 0
PlacesReadBack = (g : GraphValue) → IsNamed g → (p : Place) (n : ℕ) → FitsPlace g p n → Reads g p n (spell g p n)

-- a word that no reason refuses in its place is the spelling of its number
abbrev pub PlacesSpellBack : Type 0
PlacesSpellBack = (g : GraphValue) (p : Place) (w : List ℕ) → IsNumbered p → is_own_word p w ≡ true → IsFine g p w → IsSpelled g p w

-- the name of a line is that of its number
abbrev pub LineNamesSpellBack : Type 0
LineNamesSpellBack = (g : GraphValue) (w : List ℕ) → is_line_name g w ≡ true → line_name g (line_number g w) ≡ w

-- it is in use
abbrev pub LineNamesAreUsed : Type 0
LineNamesAreUsed = (g : GraphValue) (w : List ℕ) → is_line_name g w ≡ true → is_used g w ≡ true

-- and spelled as a name
abbrev pub LineNamesAreNames : Type 0
LineNamesAreNames = (g : GraphValue) (w : List ℕ) → IsGraph g → is_line_name g w ≡ true → is_name_in g.format w ≡ true

-- what a name stands for is all that it stands for
abbrev pub FoundIsAll : Type 0
FoundIsAll = (g : GraphValue) (w : List ℕ) → IsGraph g → (f : Option Found) → MatchOption f (is_used g w ≡ false) (StandsFor g w) → IsFound g w f

-- what is to be said of one word is to be said of it alone
abbrev pub OneIsTold : Type 0
OneIsTold = (g : GraphValue) (p : Place) (w : List ℕ) (s : Seen) → Tells g p w s → AllTell g ((p, w) ∷ []) s.faults

-- what is to be said of some words and of others is to be said of all of them
abbrev pub BothAreTold : Type 0
BothAreTold = (g : GraphValue) (ps qs : List Placed) (a b c : Faults) → AllTell g ps a → AllTell g qs b →
    c.misnamed ≡ (a.misnamed || b.misnamed) → c.twice ≡ (a.twice || b.twice) → c.unknown ≡ (a.unknown || b.unknown) → c.unlike ≡ (a.unlike || b.unlike) → c.misnumbered ≡ (a.misnumbered || b.misnumbered) →
    AllTell g (ps ++ qs) c

-- and so of words that stand in one place and of the next one
abbrev pub NextIsTold : Type 0
NextIsTold = (g : GraphValue) (p : Place) (ws : List (Bor (List ℕ))) (i : ℕ) (d : Bor (List ℕ)) (a c : Faults) (s : Seen) → i < length ws → AllTell g (map {B = Placed} (λ w. (p, w)) (take i (words_of ws))) a → Tells g p (get_or ws i d).now s →
    c.misnamed ≡ (a.misnamed || s.faults.misnamed) → c.twice ≡ (a.twice || s.faults.twice) → c.unknown ≡ (a.unknown || s.faults.unknown) → c.unlike ≡ (a.unlike || s.faults.unlike) → c.misnumbered ≡ (a.misnumbered || s.faults.misnumbered) →
    AllTell g (map {B = Placed} (λ w. (p, w)) (take (i + 1) (words_of ws))) c
