-- The text of a session: graphs, one after the other, with links to operations of earlier ones. Comments stand in the texts of its graphs alone.
use Rattle.std.specs.Prelude.{◌≡◌, ℕ, ◌+◌, List, [], ◌∷◌, ◌++◌, map, flat_map, codes}
use Rattle.graph_terms.specs.Spelling.{spelled}
use Rattle.graph_terms.specs.Graph.{GraphValue}
use Rattle.graph_words.specs.Text.{GraphText}
use Rattle.realm_audit.specs.Parts.{newlines, graph_bytes, trace_bytes}
use Rattle.session_text.specs.declared.entry.Link.{Link}
use Rattle.session_text.specs.declared.entry.Entry.{Entry}

-- the line before the text of a graph, and the line of a link
abbrev pub graph_line : List ℕ → List ℕ
graph_line name = spelled (codes "graph" ∷ name ∷ [])

abbrev pub link_text : Link → List ℕ
link_text l = spelled (codes "link" ∷ l.line ∷ l.user ∷ l.graph ∷ l.op ∷ [])

-- the first line of a session's text, and the last
abbrev pub first_text : List ℕ
first_text = spelled (codes "realm-session" ∷ codes "1" ∷ [])

abbrev pub closing : List ℕ
closing = spelled (codes "close" ∷ [])

-- what stands between these: a graph with its name, and a link of the graph before it
pub data Part : Type 0 where
  TheGraph : List ℕ → GraphValue → Part
  TheLink : Link → Part

abbrev pub entry_parts : Entry → List Part
entry_parts e = TheGraph e.name e.graph ∷ map TheLink e.links

abbrev pub parts_of : List Entry → List Part
parts_of es = flat_map entry_parts es

-- the bytes begin with the line before a graph of this name, and go on with its text, which may have comments and ends with the first line that is exactly `end`; then this is left
pub record GraphStands (bytes name : List ℕ) (g : GraphValue) (left : List ℕ) : Type 0 where
  pub behind : List ℕ
  pub begins : bytes ≡ graph_line name ++ behind
  pub text_is : GraphText (graph_bytes behind) g
  pub left_is : left ≡ trace_bytes behind

-- the bytes begin with a part, or with parts one after the other, and this is left
abbrev pub PartStands : List ℕ → Part → List ℕ → Type 0
PartStands bytes (TheGraph name g) left = GraphStands bytes name g left
PartStands bytes (TheLink l) left = bytes ≡ link_text l ++ left

abbrev pub PartsStand : List ℕ → List Part → List ℕ → Type 0
PartsStand bytes [] left = bytes ≡ left
PartsStand bytes (p ∷ ps) left = (behind : List ℕ) × PartStands bytes p behind × PartsStand behind ps left

-- the bytes are the first line of a session, and the graphs with their links; then this is left
pub record HeadStands (bytes : List ℕ) (es : List Entry) (left : List ℕ) : Type 0 where
  pub behind : List ℕ
  pub begins : bytes ≡ first_text ++ behind
  pub parts : PartsStand behind (parts_of es) left

-- what is left of the bytes begins with their line of this number, counted from 1
abbrev pub BeginsAt : List ℕ → List ℕ → ℕ → Type 0
BeginsAt bytes left number = number + newlines left ≡ newlines bytes + 1
