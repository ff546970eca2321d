-- The one text of a graph, and the comments that bytes may have beside it.
use Rattle.std.specs.Prelude.{◌≡◌, ℕ, ◌≤◌, ◌&&◌, nat_lt, nat_eq, Bool, cond, List, [], ◌∷◌, ◌++◌, length, codes, Option, Some, None}
use Rattle.std.specs.List.{starts_with}
use Rattle.graph_comments.specs.Comments.{bare_text, number_in_whole}
use Rattle.graph_terms.specs.Limits.{limits}
use Rattle.graph_terms.specs.Graph.{GraphValue}
use Rattle.graph_terms.specs.declared.format.Format.TheVariants.{Three}
use Rattle.graph_terms.specs.Spelling.{head, header, spelled, placed_words}
use Rattle.graph_terms.specs.Fits.{IsGraph}
use Rattle.std.specs.Option.{option_map_or}
use Rattle.graph_terms.specs.declared.verb.Verb.{Verb}
use Rattle.graph_terms.specs.Table.{kind_words, verb_kind, verb_placed}

-- the line that closes a text
abbrev pub closing : List ℕ
closing = spelled (codes "end" ∷ [])

abbrev pub text : GraphValue → List ℕ
text g = head g ++ closing

-- whether bytes may have comments: they begin with the first line of format 3, and each of their lines has a number of 32 bits
abbrev pub has_comments : List ℕ → Bool
has_comments bytes = nat_lt (length bytes) 4294967295 && starts_with nat_eq bytes (header Three)

-- bytes without their comments
abbrev pub bare_of : List ℕ → List ℕ
bare_of bytes = cond (has_comments bytes) (bare_text bytes) bytes

-- the number among all lines of a line that has this number without comments, both counted from 1
abbrev pub number_of : List ℕ → ℕ → ℕ
number_of bytes k = cond (has_comments bytes) (number_in_whole bytes k) k

-- bytes without their comments, where they have some, or None
abbrev pub IsBareOf : List ℕ → Option (List ℕ) → Type 0
IsBareOf bytes None = bare_of bytes ≡ bytes
IsBareOf bytes (Some bare) = bare ≡ bare_of bytes

-- the bytes are the text of the graph, with comments
pub record GraphText (bytes : List ℕ) (g : GraphValue) : Type 0 where
  pub is_text : bare_of bytes ≡ text g
  pub short : length (bare_of bytes) ≤ (limits g.format).text
  pub is_graph : IsGraph g

-- the words of a verb by its row, of which a merge has none
abbrev pub row_words : GraphValue → Verb → List (List ℕ)
row_words g v = option_map_or kind_words (verb_kind v) [] ++ placed_words g (verb_placed v)
