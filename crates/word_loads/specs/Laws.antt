-- What holds of lines by their verbs, and of what was found free.
use Rattle.std.specs.Prelude.{◌≡◌, ℕ, Bool, List, Contains, Some, slice_get}
use Rattle.graph_terms.specs.declared.verb.Line.{Line}
use Rattle.graph_terms.specs.declared.verb.Verb.TheVariants.{Acquire}
use Rattle.graph_terms.specs.Graph.{GraphValue}
use Rattle.graph_terms.specs.Reservations.{Acquires}
use Rattle.word_loads.specs.Laden.{IsFree}

-- a line acquires what its verb says
abbrev pub AcquiresByVerb : Type 0
AcquiresByVerb = (g : GraphValue) (i l : ℕ) (line : Line) → slice_get g.lines i ≡ Some line → (s : Bool) → line.verb ≡ Acquire l s → Acquires g i l

-- what was found free was so with more that was found
abbrev pub FreeWithMore : Type 0
FreeWithMore = (g : GraphValue) (line k : ℕ) (found then : List (ℕ × ℕ)) → ((x : ℕ × ℕ) → Contains found x → Contains then x) → IsFree g line k found → IsFree g line k then
