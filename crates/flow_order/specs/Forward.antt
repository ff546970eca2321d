-- Graphs whose edges all lead forward in the file.
use Rattle.std.specs.Prelude.{Bool, true, false, IsTrue}
use Rattle.std.specs.List.{list_all}
use Rattle.graph_terms.specs.declared.verb.Line.{Line}
use Rattle.graph_terms.specs.declared.verb.Verb.{Verb}
use Rattle.graph_terms.specs.declared.verb.Verb.TheVariants.{User, Trigger, Cancel, Phase, Arrive}
use Rattle.graph_terms.specs.Graph.{GraphValue}

-- a verb that waits for lines above it alone, and ends no other
abbrev pub leads_forward : Verb → Bool
leads_forward User = false
leads_forward (Trigger u) = false
leads_forward (Cancel u) = false
leads_forward (Phase b) = false
leads_forward (Arrive p v weight) = false
leads_forward _ = true

abbrev pub AllForward : GraphValue → Type 0
AllForward g = IsTrue (list_all (λ (l : Line). leads_forward l.verb) g.lines)
