-- What is told of a refused line by the first lines of a text is told by all.
use Rattle.std.specs.Prelude.{◌≡◌, ◌⊎◌, ℕ, ◌-◌, ◌<◌, List, [], ◌++◌, length, Contains, Option, None, IfSome}
use Rattle.std.specs.Borrow.{Bor}
use Rattle.graph_reader.specs.declared.reader.Unread.{Unread}
use Rattle.graph_terms.specs.declared.why.Why.{Why}
use Rattle.graph_terms.specs.Graph.{GraphValue}
use Rattle.explain_text.specs.Front.{behind}
use Rattle.explain_text.specs.Lines.{line_number}
use Rattle.explain_text.specs.TextLines.{TextLines}
use Rattle.told_names.specs.Named.{given_names, first_place}
use Rattle.told_names.specs.declared.naming.NamedWord.{NamedWord}
use Rattle.explain_top.specs.Answer.{IsMarkedText, IsUnreadText}

-- the text with more lines
abbrev pub with_lines : TextLines → List (List ℕ) → TextLines
with_lines ls more = record { bytes = ls.bytes; lines = ls.lines ++ more; all = ls.all }

-- line `number` is among these, or there are no more
abbrev pub IsReached : List (List ℕ) → List (List ℕ) → ℕ → Type 0
IsReached ls more number = (more ≡ []) ⊎ (number - 1 < length ls)

-- a name that no line gives is given by none of the others
abbrev pub IsSettled : List (List ℕ) → NamedWord → Type 0
IsSettled more x = x.above ≡ None → x.below ≡ None → first_place x.word.now 0 (given_names more) ≡ None

-- the line that has ended what a word names is one of these, and not the last
abbrev pub IsEndSettled : GraphValue → TextLines → Option ℕ → Type 0
IsEndSettled g ls ended = IfSome ended (λ i. line_number g ls i < length ls.lines)

-- so is each of these names, and so is that line
pub record AreSettledBy (g : GraphValue) (ls : TextLines) (more : List (List ℕ)) (named : List NamedWord) (space : Option NamedWord) (ended : Option ℕ) : Type 0 where
  pub names : (x : NamedWord) → Contains named x → IsSettled more x
  pub space_is : IfSome space (IsSettled more)
  pub end_is : IsEndSettled g ls ended

abbrev pub AreSettled : GraphValue → TextLines → List (List ℕ) → List NamedWord → Option NamedWord → Option ℕ → Type 0
AreSettled g ls more named space ended = (more ≡ []) ⊎ AreSettledBy g ls more named space ended

-- no lines are left, or none of them is missing
abbrev pub IsTold : Option (Bor (List ℕ)) → ℕ → Type 0
IsTold rest missing = (rest ≡ None) ⊎ (missing ≡ 0)

-- the text on a line that is refused so
abbrev pub IsTextOn : TextLines → Unread → List ℕ → Type 0
IsTextOn ls u out = IsUnreadText ls u.number u.why u.above out

-- it is the text by all lines, where none of the rest is missing
abbrev pub TellsBy : TextLines → Option (Bor (List ℕ)) → Unread → ℕ → List ℕ → Type 0
TellsBy ls rest u missing out = IsTold rest missing → IsTextOn (with_lines ls (behind rest)) u out

-- so is what is told of one that is refused behind a graph
abbrev pub MarksBy : TextLines → Option (Bor (List ℕ)) → ℕ → Why → GraphValue → List ℕ → List ℕ → ℕ → Type 0
MarksBy ls rest number why g old new missing = IsTold rest missing → IsMarkedText (with_lines ls (behind rest)) number why g old new
