-- What each refusal says of a graph.
use Rattle.std.specs.Prelude.{◌<◌, length}
use Rattle.graph_terms.specs.Graph.{GraphValue}
use Rattle.graph_meaning.specs.Rules.{IsCycle, IsUnreleased, IsOutsideSection, IsNotDescending, IsReleaseFault, IsRace}
use Rattle.race_check.specs.declared.checked.CheckRefusal.{CheckRefusal}
use Rattle.race_check.specs.declared.checked.CheckRefusal.TheVariants.{Cycle, Unreleased, Section, Descends, ReleaseFault, Race, NoMemory}

-- the rules before it hold, and this one fails first at these lines; want of memory says nothing
abbrev pub IsRefusal : GraphValue → CheckRefusal → Type 0
IsRefusal g (Cycle i) = IsCycle g i
IsRefusal g (Unreleased i) = IsUnreleased g i
IsRefusal g (Section i j) = IsOutsideSection g i j
IsRefusal g (Descends i j) = IsNotDescending g i j
IsRefusal g (ReleaseFault i) = IsReleaseFault g i
IsRefusal g (Race i j) = IsRace g i j
IsRefusal g NoMemory = Unit {0}

-- the numbers of a refusal are lines of the graph
abbrev pub NamesLines : GraphValue → CheckRefusal → Type 0
NamesLines g (Cycle i) = i < length g.lines
NamesLines g (Unreleased i) = i < length g.lines
NamesLines g (Section i j) = (i < length g.lines) × (j < length g.lines)
NamesLines g (Descends i j) = (i < length g.lines) × (j < length g.lines)
NamesLines g (ReleaseFault i) = i < length g.lines
NamesLines g (Race i j) = (i < length g.lines) × (j < length g.lines)
NamesLines g NoMemory = Unit {0}
