-- That what is told as a line of the text is that line.
use Rattle.std.specs.Prelude.{◌≡◌, ◌+◌, ◌-◌, ◌<◌, ◌≤◌, ℕ, suc, true, List, [], ◌∷◌, length, take, drop, Some, slice_get, ◌++◌, Result, OnOk}
use Rattle.std.specs.List.{slice_index_or, join_with_byte}
use Rattle.graph_terms.specs.declared.verb.Line.{Line}
use Rattle.graph_terms.specs.declared.why.Why.{Why}
use Rattle.graph_terms.specs.Graph.{GraphValue}
use Rattle.graph_terms.specs.Spelling.{line_words}
use Rattle.graph_words.specs.Cuts.{IsCut}
use Rattle.graph_words.specs.Words.{pieces}
use Rattle.graph_words.specs.Text.{GraphText, bare_of}
use Rattle.graph_reader.specs.FirstFault.{IsLineFault, IsRestFault, FirstFault}
use Rattle.graph_reader.specs.Laws.{refused_line}
use Rattle.explain_text.specs.TextLines.{TextLines}
use Rattle.explain_text.specs.Lines.{line_number, line_of}
use Rattle.explain_text.specs.Unread.{ended_text}

-- the lines of these bytes, told whole
abbrev pub whole : List ℕ → TextLines
whole bytes = record { bytes = bytes; lines = pieces 10 bytes; all = true }

-- the line that is told of operation i of a graph has in these bytes the number that is told, counted from 1, and spells that operation
pub record TellsLine (bytes : List ℕ) (g : GraphValue) (i : ℕ) (l : Line) : Type 0 where
  pub number : slice_get (pieces 10 bytes) (line_number g (whole bytes) i - 1) ≡ Some (line_of g (whole bytes) i)
  pub line : line_of g (whole bytes) i ≡ join_with_byte 32 (line_words g l)
  pub words : pieces 32 (line_of g (whole bytes) i) ≡ line_words g l

abbrev pub TellsLines : List ℕ → GraphValue → Type 0
TellsLines bytes g = (i : ℕ) (l : Line) → slice_get g.lines i ≡ Some l → TellsLine bytes g i l

-- so of each operation of a graph that bytes are the text of, and of each one above a refused line, also above one behind the closing line; and what is told as that line is it
pub record TellsOwnLines (bytes : List ℕ) : Type 0 where
  pub of_text : (g : GraphValue) → GraphText bytes g → TellsLines bytes g
  pub above_line : (number : ℕ) (reason : Why) (f : IsLineFault (bare_of bytes) number reason) → TellsLines bytes f.before
  pub above_rest : (number : ℕ) (reason : Why) (f : IsRestFault (bare_of bytes) number reason) → TellsLines bytes f.before
  pub refused : (number : ℕ) (reason : Why) (f : FirstFault bytes number reason) → slice_index_or (pieces 10 bytes) (number - 1) [] ≡ refused_line bytes number reason f

-- a text that grew by a part grew by the same bytes spelled otherwise
abbrev pub PutSameBytes : Type 0
PutSameBytes = (old new a b : List ℕ) → a ≡ b → new ≡ old ++ a → new ≡ old ++ b

-- and so it did where memory sufficed
abbrev pub PutsSameBytes : Type 0 → Type 0 → Type 0
PutsSameBytes X E = (r : Result X E) (old new a b : List ℕ) → a ≡ b → OnOk r (new ≡ old ++ a) → OnOk r (new ≡ old ++ b)

-- a text that grew by one part and then by the next grew by both
abbrev pub PutPartByPart : Type 0
PutPartByPart = (old mid new a b : List ℕ) → mid ≡ old ++ a → new ≡ mid ++ b → new ≡ old ++ (a ++ b)

-- and so it did where memory sufficed for the next
abbrev pub PutsPartByPart : Type 0 → Type 0 → Type 0
PutsPartByPart X E = (r : Result X E) (old mid new a b : List ℕ) → mid ≡ old ++ a → OnOk r (new ≡ mid ++ b) → OnOk r (new ≡ old ++ (a ++ b))

-- a line that has ended an event, and is one of the lines of a text and not the last of them, is told so where more lines follow
abbrev pub EndedStays : Type 0
EndedStays = (g : GraphValue) (ls : TextLines) (more : List (List ℕ)) (i : ℕ) → line_number g ls i < length ls.lines → ended_text g (record { bytes = ls.bytes; lines = ls.lines ++ more; all = ls.all }) (Some i) ≡ ended_text g ls (Some i)

-- a word stands at a place of bytes
pub record StandsAt (w : List ℕ) (p : ℕ) (l : List ℕ) : Type 0 where
  pub within : p + length w ≤ length l
  pub is : take (length w) (drop p l) ≡ w

-- the first of some words stands at the front of the line that they make
abbrev pub FirstStands : Type 0
FirstStands = (w : List ℕ) (ws : List (List ℕ)) → StandsAt w 0 (join_with_byte 32 (w ∷ ws))

-- what stands in bytes stands further behind where more bytes, and one that parts them, stand before these
abbrev pub StandsBehind : Type 0
StandsBehind = (x : List ℕ) (c : ℕ) (w : List ℕ) (p : ℕ) (l : List ℕ) → StandsAt w p l → StandsAt w (suc (length x + p)) (x ++ c ∷ l)

-- how many bytes a cut has
abbrev pub CutHasAll : Type 0
CutHasAll = (c : ℕ) (bs front back : List ℕ) → IsCut c bs front back → length bs ≡ length front + 1 + length back
