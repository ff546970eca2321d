-- The text of a trace.
use Rattle.std.specs.Prelude.{ℕ, List, [], ◌∷◌, ◌++◌, codes}
use Rattle.graph_terms.specs.Graph.{GraphValue}
use Rattle.graph_terms.specs.Spelling.{line_name}

-- the line that says that the operation of this name has ended
abbrev pub at_text : List ℕ → List ℕ
at_text name = codes "at " ++ (name ++ codes "\n")

abbrev pub at_texts : GraphValue → List ℕ → List ℕ
at_texts g [] = []
at_texts g (i ∷ is) = at_text (line_name g i) ++ at_texts g is

-- the text of a trace
abbrev pub trace_text : GraphValue → List ℕ → List ℕ
trace_text g trace = codes "realm-trace 1\n" ++ (at_texts g trace ++ codes "done\n")
