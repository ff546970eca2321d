-- In which place each word of a line stands, by the forms of lines.
use Rattle.std.specs.Prelude.{ℕ, zero, suc, ◌+◌, ◌-◌, ◌==◌, nat_lt, Bool, cond, ◌&&◌, ◌||◌, List, [], length, drop, find, Option, Some, None, option_map, slice_index_or, slice_get, codes}
use Rattle.std.specs.Option.{option_map_or}
use Rattle.graph_terms.specs.declared.format.Format.{Format}
use Rattle.graph_terms.specs.declared.format.Format.TheVariants.{Three}
use Rattle.graph_terms.specs.Format.{has_since}
use Rattle.graph_terms.specs.declared.table.Kind.{Kind}
use Rattle.graph_terms.specs.declared.table.TheConstants.{KINDS}
use Rattle.graph_terms.specs.Table.{kind_words, kind_places}
use Rattle.graph_words.specs.Calls.{CallWords, call_words}
use Rattle.graph_words.specs.Draft.{Place, NewName, CallName, SpaceName, EventName, DataColumn, Fields, Value, Count, Intervals, same_word, as_place, form_of, has_on, is_of_form}
use Rattle.graph_reader.specs.Reading.{is_operation}
use Rattle.refused_words.specs.declared.places.CallSize.{CallSize}
use Rattle.refused_words.specs.declared.places.WordPlace.{WordPlace}
use Rattle.refused_words.specs.declared.places.WordPlace.TheVariants as words

abbrev pub place_value : WordPlace → Place
place_value words.NewName = NewName
place_value words.CallName = CallName
place_value words.Fields = Fields
place_value words.Count = Count
place_value words.Intervals = Intervals
place_value words.Event = EventName
place_value words.DataColumn = DataColumn
place_value (words.Of p) = as_place p

-- the words of declarations, by their numbers
abbrev pub space_place : ℕ → Option Place
space_place k = cond (k == 1) (Some NewName) (cond (k == 2) (Some Intervals) None)

-- of an instance, and of data
abbrev pub columns_place : ℕ → Option Place
columns_place k = cond (k == 1) (Some NewName) (cond (k == 2) (Some SpaceName) (cond (k == 3) (Some Fields) None))

abbrev pub lock_place : ℕ → Option Place
lock_place k = cond (k == 1) (Some NewName) None

abbrev pub barrier_place : ℕ → Option Place
barrier_place k = cond (k == 1) (Some NewName) (cond (k == 2) (Some Count) (cond (k == 4) (Some Value) None))

-- of data, which format 3 brought
abbrev pub data_place : Format → ℕ → Option Place
data_place format k = cond (has_since Three format) (columns_place k) None

-- a word of a declaration that begins so
abbrev pub decl_place : Format → List ℕ → ℕ → Option Place
decl_place format w k =
    cond (same_word w (codes "space")) (space_place k)
    (cond (same_word w (codes "inst")) (columns_place k)
    (cond (same_word w (codes "lock")) (lock_place k)
    (cond (same_word w (codes "barrier")) (barrier_place k)
    (cond (same_word w (codes "data")) (data_place format k) None))))

-- a word behind the fixed ones of a kind: one for each place, and then `on` and its events
abbrev pub behind_kind : Format → Kind → List (List ℕ) → ℕ → Option Place
behind_kind format kind rest k = cond (nat_lt k (length (kind_places kind))) (option_map as_place (slice_get (kind_places kind) k))
    (cond (nat_lt (length (kind_places kind)) k && has_on format (form_of kind) rest) (Some EventName) None)

abbrev pub kind_place : Format → Kind → List (List ℕ) → ℕ → Option Place
kind_place format kind ws k = cond (nat_lt k (length (kind_words kind)) || nat_lt (length ws) (length (kind_words kind))) None (behind_kind format kind (drop (length (kind_words kind)) ws) (k - length (kind_words kind)))

abbrev pub is_merge : List (List ℕ) → Bool
is_merge ws = same_word (slice_index_or ws 0 []) (codes "merge") || same_word (slice_index_or ws 0 []) (codes "mergei")

abbrev pub is_call : List (List ℕ) → Bool
is_call ws = same_word (slice_index_or ws 0 []) (codes "call")

-- how many values, accesses and events a call has
abbrev pub size_of_call : CallWords → CallSize
size_of_call c = record { values = length c.values; accesses = length c.accesses; events = length c.events }

-- by the words behind the sign, of which the first says that they are those of a call; format 3 brought calls
abbrev pub call_size : Format → List (List ℕ) → Option CallSize
call_size format ws = cond (has_since Three format) (option_map size_of_call (call_words (drop 1 ws))) None

-- a word behind the values of a call with so many accesses: the words of these, each of three, and then `on` and its events
abbrev pub access_place : ℕ → ℕ → Option Place
access_place zero zero = None
access_place zero (suc k) = Some EventName
access_place (suc n) zero = None
access_place (suc n) (suc zero) = Some DataColumn
access_place (suc n) (suc (suc zero)) = Some SpaceName
access_place (suc n) (suc (suc (suc k))) = access_place n k

-- a word of a call of this size, from the one that says that it is a call
abbrev pub part_place : CallSize → ℕ → Option Place
part_place size k = cond (k == 0) None (cond (k == 1) (Some CallName) (cond (nat_lt k (size.values + 2)) (Some Value) (access_place size.accesses (k - (size.values + 2)))))

abbrev pub call_place : Option CallSize → ℕ → Option Place
call_place o k = option_map_or (λ size. part_place size k) o None

-- a word behind the sign: those of a merge are events
-- the kind of the words behind the sign
abbrev pub kind_in : Format → List (List ℕ) → Option Kind
kind_in format ws = find (λ kind. is_of_form format ws (form_of kind)) KINDS

abbrev pub verb_place : Format → List (List ℕ) → ℕ → Option Place
verb_place format ws k =
    cond (is_merge ws) (cond (k == 0) None (Some EventName))
    (cond (is_call ws) (call_place (call_size format ws) k)
    (option_map_or (λ kind. kind_place format kind ws k) (kind_in format ws) None))

abbrev pub operation_place : Format → List (List ℕ) → ℕ → Option Place
operation_place format ws k = cond (k == 0) (Some NewName) (cond (k == 1) None (verb_place format (drop 2 ws) (k - 2)))

-- the word of number k
unfoldable pub place_at : Format → List (List ℕ) → ℕ → Option Place
place_at format ws k = cond (nat_lt k (length ws)) (cond (is_operation ws) (operation_place format ws k) (decl_place format (slice_index_or ws 0 []) k)) None

-- the words of a line in a format
pub record WordsIn : Type 0 where
  pub format : Format
  pub words : List (List ℕ)

-- its size, where the line is a call
abbrev pub line_call : WordsIn → Option CallSize
line_call l = cond (is_call (drop 2 l.words)) (call_size l.format (drop 2 l.words)) None
