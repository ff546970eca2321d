-- The text of a timeline.
use Rattle.std.specs.Prelude.{ℕ, ◌+◌, List, [], ◌∷◌, ◌++◌, codes, decimal, Option, Some, None}
use Rattle.graph_terms.specs.declared.verb.Line.{Line}
use Rattle.graph_terms.specs.Graph.{GraphValue}
use Rattle.graph_terms.specs.Spelling.{line_name}
use Rattle.realm_timeline.specs.declared.slot.Slot.{Slot}
use Rattle.realm_timeline.specs.Plan.{slot_at}
use Rattle.realm_timeline.specs.Timeline.{TimelineValue}

-- a number behind a space
abbrev pub number_text : ℕ → List ℕ
number_text n = codes " " ++ decimal n

-- where and when a line is planned, or that it is not
abbrev pub slot_text : Option Slot → List ℕ
slot_text None = codes " -\n"
slot_text (Some s) = number_text s.processor ++ (number_text s.start ++ (number_text s.finish ++ codes "\n"))

-- the line of the text on a line of the graph
abbrev pub op_text : List ℕ → Option Slot → List ℕ
op_text name slot = codes "op " ++ (name ++ slot_text slot)

-- the same for lines that stand one after the other, the first of them with number n
abbrev pub op_texts : List (Option Slot) → ℕ → List Line → List ℕ
op_texts plan n [] = []
op_texts plan n (l ∷ ls) = op_text l.name (slot_at plan n) ++ op_texts plan (n + 1) ls

-- a name behind a space
abbrev pub name_text : List ℕ → List ℕ
name_text name = codes " " ++ name

-- the names of the lines of a chain
abbrev pub name_texts : GraphValue → List ℕ → List ℕ
name_texts g [] = []
name_texts g (i ∷ is) = name_text (line_name g i) ++ name_texts g is

-- the length of the plan, and the end
abbrev pub length_text : ℕ → List ℕ
length_text n = codes "\nlength " ++ (decimal n ++ codes "\ndone\n")

-- the critical chain, and what follows it
abbrev pub critical_text : GraphValue → TimelineValue → List ℕ
critical_text g t = codes "critical " ++ (decimal t.critical_cost ++ (name_texts g t.critical ++ length_text t.span))

-- the text of a timeline
abbrev pub timeline_text : GraphValue → TimelineValue → List ℕ
timeline_text g t = codes "timeline 1\n" ++ (op_texts t.plan 0 g.lines ++ critical_text g t)
