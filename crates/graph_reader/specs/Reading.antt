-- What the reader of one line gives.
use Rattle.std.specs.Prelude.{Bool, IsTrue, ◌≤◌, nat_le, nat_lt, ◌+◌, ◌-◌, ◌&&◌, slice_get, length, slice_index_or, codes, cond, not, Option, Result, Ok, Err, ◌≡◌, ℕ, List, Some, None, ◌⊎◌, ◌==◌, [], ◌∷◌, true, false}
use Rattle.std.specs.List.{after_first, list_all}
use Rattle.std.proofs.Common.{inl, inr}
use Rattle.graph_terms.specs.declared.decl.Decl.{Decl}
use Rattle.graph_terms.specs.declared.verb.Line.{Line}
use Rattle.graph_terms.specs.Graph.{GraphValue}
use Rattle.graph_terms.specs.Fits.{first_reason, repeats, is_used, with_decl, with_line, decl_fault, line_fault, IsDecl, is_decl_named, IsLine, IsGraph}
use Rattle.graph_terms.specs.declared.decl.Decl.TheVariants as decl
use Rattle.graph_terms.specs.declared.why.Why.{Why}
use Rattle.graph_terms.specs.declared.why.Why.TheVariants as why
use Rattle.graph_terms.specs.declared.format.Format.{Format}
use Rattle.graph_terms.specs.declared.format.Format.TheVariants.{Three}
use Rattle.graph_terms.specs.Format.{has_since}
use Rattle.graph_terms.specs.Name.{is_name_in}
use Rattle.index_spaces.specs.declared.space.SpaceFault.{SpaceFault}
use Rattle.index_spaces.specs.declared.space.SpaceFault.TheVariants as spaces
use Rattle.std.specs.Str.{bytes_eq}
use Rattle.graph_words.specs.Words.{pieces, ascend_from}
use Rattle.graph_words.specs.Draft.{Draft, draft, SpaceName, space_number, columns_decl}
use Rattle.graph_reader.specs.FirstFault.{words_fault, draft_fault, or_else, FirstFault, IsHeaderFault, IsLineFault, IsRestFault}
use Rattle.word_meanings.specs.WordFaults.{unlike}
use Rattle.graph_words.specs.Text.{text, bare_of, number_of, GraphText}
use Rattle.graph_terms.specs.Limits.{limits}
use Rattle.graph_reader.specs.declared.reader.Reading.{Reading}
use Rattle.graph_reader.specs.declared.reader.Reading.TheVariants as readings
use Rattle.graph_reader.specs.declared.item.ItemError.{ItemError}
use Rattle.graph_reader.specs.declared.item.ItemError.TheVariants as errors
use Rattle.graph_reader.specs.declared.ReadRefusal.{ReadRefusal}
use Rattle.graph_reader.specs.declared.ReadRefusal.TheVariants as refusals

-- the refusal names the first refused line and its first reason
abbrev pub IsRefusal : List ℕ → ReadRefusal → Type 0
IsRefusal bytes (refusals.Line number reason) = FirstFault bytes number reason
IsRefusal bytes refusals.NoMemory = Unit {0}

-- bytes without comments have a line of this number, counted from 1
abbrev pub HasLine : List ℕ → ℕ → Type 0
HasLine bytes number = (line : List ℕ) × (1 ≤ number) × (slice_get (pieces 10 bytes) (number - 1) ≡ Some line)

-- the bytes, without comments, are the text of the graph
pub record IsTextOf (bytes : List ℕ) (g : GraphValue) : Type 0 where
  pub is_text : bytes ≡ text g
  pub short : length bytes ≤ (limits g.format).text
  pub is_graph : IsGraph g

-- a refused line of bytes without comments, with the graph of the lines above it where the reason is one of a line between the first and the closing one
abbrev pub IsBareUnreadBy : List ℕ → ℕ → Why → Option GraphValue → Type 0
IsBareUnreadBy bytes number reason None = IsHeaderFault bytes number reason ⊎ IsRestFault bytes number reason
IsBareUnreadBy bytes number reason (Some g) = (f : IsLineFault bytes number reason) × (f.before ≡ g)

-- what bytes without comments are read as: a graph's text, or their first refused line with its first reason
abbrev pub IsBareReadAs : List ℕ → Reading → Type 0
IsBareReadAs bytes (readings.Graph g) = IsTextOf bytes g
IsBareReadAs bytes (readings.Refused u) = IsBareUnreadBy bytes u.number u.why u.above

-- a refused line by its number among all lines, with the graph of the lines above it
abbrev pub IsUnreadBy : List ℕ → ℕ → Why → Option GraphValue → Type 0
IsUnreadBy bytes number reason above = (k : ℕ) × IsBareUnreadBy (bare_of bytes) k reason above × (number ≡ number_of bytes k)

-- what bytes are read as: a graph's text with its comments, or their first refused line with its first reason
abbrev pub IsReadAs : List ℕ → Reading → Type 0
IsReadAs bytes (readings.Graph g) = GraphText bytes g
IsReadAs bytes (readings.Refused u) = IsUnreadBy bytes u.number u.why u.above

-- a text of so many bytes that is closed in the line of this number, with more bytes behind it
abbrev pub more_reading : GraphValue → ℕ → List ℕ → Reading
more_reading g number [] = readings.Graph g
more_reading g number (b ∷ bs) = readings.Refused (record { number = number + 1; why = why.Rest; above = None })

abbrev pub closed_reading : GraphValue → ℕ → List ℕ → ℕ → Reading
closed_reading g number after bytes = cond (nat_lt (limits g.format).text bytes) (readings.Refused (record { number = number; why = why.Limit; above = Some g })) (more_reading g number after)

-- the bytes behind the first newline
abbrev pub after_line : List ℕ → List ℕ
after_line bs = after_first (λ b. b == 10) bs

-- the graph with an item at its end
abbrev pub with_value : GraphValue → Decl ⊎ Line → GraphValue
with_value g (inl d) = with_decl g d
with_value g (inr l) = with_line g l

-- the item fits after this graph, unless a reason is open
abbrev pub MayFollow : GraphValue → Decl ⊎ Line → Type 0
MayFollow g (inl d) = IsDecl d × (g.lines ≡ []) × (decl_fault g d ≡ None) × IsTrue (is_decl_named g.format d)
MayFollow g (inr l) = line_fault g l ≡ None → IsLine l × IsTrue (is_name_in g.format l.name)

-- what the words of a line in their places are read as: a line of which the graph itself may still say a reason
abbrev pub IsLineRead : GraphValue → Draft → Result Line ItemError → Type 0
IsLineRead g d (Ok l) = (draft_fault g d ≡ line_fault g l) × (d.item ≡ inr l)
IsLineRead g d (Err (errors.Refused w)) = draft_fault g d ≡ Some w
IsLineRead g d (Err errors.NoMemory) = Unit {0}

-- a reason that comes behind that a name is in use
abbrev pub twice_or : Bool → Why → Why
twice_or used reason = cond used why.Twice reason

-- the reasons that are left for a space
abbrev pub space_reason : GraphValue → List ℕ → List (ℕ × ℕ) → Option Why
space_reason g name is = cond (ascend_from 0 is) (decl_fault g (decl.Space name is)) (Some (twice_or (is_used g name) why.Space))

-- a format that has no data
abbrev pub columns_lack : Format → Bool → Bool
columns_lack format hosted = hosted && not (has_since Three format)

-- the reasons that are left for an instance, or for data, whose name is new and whose words are names
abbrev pub columns_reason : GraphValue → Bool → List ℕ → List ℕ → List (List ℕ) → Option Why
columns_reason g hosted name space fields = or_else (first_reason (
    (repeats bytes_eq fields, why.Twice)
    ∷ (not (is_used g space), why.Unknown)
    ∷ (unlike g SpaceName space, why.Kind)
    ∷ [])) (decl_fault g (columns_decl hosted name (space_number g space) fields))

-- the declaration of an instance with these words, or of data
abbrev pub spelled_columns : GraphValue → Bool → List ℕ → List ℕ → List (List ℕ) → Decl
spelled_columns g hosted name space fields = columns_decl hosted name (space_number g space) fields

-- the fields that a word spells in a format, or that it spells none
abbrev pub AreFields : Format → List ℕ → List (List ℕ) → Type 0
AreFields format w fields = (fields ≡ pieces 44 w) × (list_all (is_name_in format) (pieces 44 w) ≡ true)

abbrev pub AreNoFields : Format → List ℕ → ItemError → Type 0
AreNoFields format w (errors.Refused x) = (x ≡ why.Name) × (list_all (is_name_in format) (pieces 44 w) ≡ false)
AreNoFields format w errors.NoMemory = Unit {0}

-- what a fault of a space is for the line that declares it, where its name is in use and where it is not
abbrev pub space_error : Bool → SpaceFault → ItemError
space_error used spaces.Empty = errors.Refused (twice_or used why.Space)
space_error used (spaces.Reversed k) = errors.Refused (twice_or used why.Space)
space_error used (spaces.Order k) = errors.Refused (twice_or used why.Space)
space_error used spaces.Many = errors.Refused (twice_or used why.Limit)
space_error used spaces.Large = errors.Refused (twice_or used why.Limit)
space_error used spaces.NoMemory = errors.NoMemory

-- what the words of a line are read as
abbrev pub IsLineOf : GraphValue → Option Draft → Result Line ItemError → Type 0
IsLineOf g (Some d) r = IsLineRead g d r
IsLineOf g None (Ok x) = ⊥
IsLineOf g None (Err (errors.Refused w)) = w ≡ why.Syntax
IsLineOf g None (Err errors.NoMemory) = Unit {0}

-- the reason is the first that refuses these words
abbrev pub IsWordsError : GraphValue → List (List ℕ) → ItemError → Type 0
IsWordsError g ws (errors.Refused w) = words_fault g ws ≡ Some w
IsWordsError g ws errors.NoMemory = Unit {0}

-- the words spell an item that fits, and this is the graph with it at its end
abbrev pub IsTaken : GraphValue → List (List ℕ) → GraphValue → Type 0
IsTaken g ws new = (words_fault g ws ≡ None) × (drafted : Draft) × (draft g ws ≡ Some drafted) × (new ≡ with_value g drafted.item)

-- what words spell that no reason refuses may follow
unfoldable pub IsTakable : GraphValue → Draft → Type 0
IsTakable g d = draft_fault g d ≡ None → MayFollow g d.item

-- what is done with a line that is offered: it stands at the end where no reason refuses it, else the graph stays
abbrev pub IsOffered : {T : Type 0} → GraphValue → Line → GraphValue → Result T ItemError → Type 0
IsOffered g l new (Ok u) = (line_fault g l ≡ None) × (new ≡ with_line g l)
IsOffered g l new (Err (errors.Refused w)) = (line_fault g l ≡ Some w) × (new ≡ g)
IsOffered g l new (Err errors.NoMemory) = new ≡ g

-- what is done with a declaration where this reason is none, or else by this reason
abbrev pub IsDoneBy : {T : Type 0} → GraphValue → Option Why → Decl → GraphValue → Result T ItemError → Type 0
IsDoneBy g r d new (Ok u) = (r ≡ None) × (new ≡ with_decl g d)
IsDoneBy g r d new (Err (errors.Refused w)) = (r ≡ Some w) × (new ≡ g)
IsDoneBy g r d new (Err errors.NoMemory) = new ≡ g

-- what is done with a declaration that is offered: it stands at the end where no reason refuses it, else the graph stays
abbrev pub IsDeclOffered : {T : Type 0} → GraphValue → Decl → GraphValue → Result T ItemError → Type 0
IsDeclOffered g d new r = IsDoneBy g (decl_fault g d) d new r

-- what is done with the words of an item in their places
abbrev pub IsDone : {T : Type 0} → GraphValue → Draft → GraphValue → Result T ItemError → Type 0
IsDone g d new (Ok u) = (draft_fault g d ≡ None) × (new ≡ with_value g d.item)
IsDone g d new (Err (errors.Refused w)) = (draft_fault g d ≡ Some w) × (new ≡ g)
IsDone g d new (Err errors.NoMemory) = new ≡ g

-- and with words that may have no form
abbrev pub IsDoneOf : {T : Type 0} → GraphValue → Option Draft → GraphValue → Result T ItemError → Type 0
IsDoneOf g (Some d) new r = IsDone g d new r
IsDoneOf g None new (Ok u) = ⊥
IsDoneOf g None new (Err (errors.Refused w)) = (w ≡ why.Syntax) × (new ≡ g)
IsDoneOf g None new (Err errors.NoMemory) = new ≡ g

-- what is done with words
abbrev pub IsWordsDone : {T : Type 0} → GraphValue → List (List ℕ) → GraphValue → Result T ItemError → Type 0
IsWordsDone g ws new (Ok u) = IsTaken g ws new
IsWordsDone g ws new (Err (errors.Refused w)) = (words_fault g ws ≡ Some w) × (new ≡ g)
IsWordsDone g ws new (Err errors.NoMemory) = new ≡ g

-- the words are those of an operation line
abbrev pub is_operation : List (List ℕ) → Bool
is_operation ws = nat_le 2 (length ws) && bytes_eq (slice_index_or ws 1 []) (codes "=")
