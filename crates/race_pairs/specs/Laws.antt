-- Laws on sections.
use Rattle.graph_terms.specs.Graph.{GraphValue}
use Rattle.graph_meaning.specs.Rules.{SectionAt, DescendsAt, EverywhereTwice}
use Rattle.race_pairs.specs.Summaries.{AreAlone}

-- where the rules of sections hold, each line lies in at most one section of a reservation
abbrev pub SectionsAreAlone : Type 0
SectionsAreAlone = (g : GraphValue) → EverywhereTwice (SectionAt g) → EverywhereTwice (DescendsAt g) → AreAlone g
