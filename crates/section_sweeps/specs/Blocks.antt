-- The lines of a list that have bits of their own.
use Rattle.std.specs.Prelude.{◌≡◌, ℕ, ◌<◌, ◌≤◌, List, length, Option, Some, None, slice_index}
use Rattle.std.specs.List.{slice_index_or}
use Rattle.graph_terms.specs.Graph.{GraphValue}
use Rattle.section_sweeps.specs.Group.{AreOwn}
use Rattle.section_sweeps.specs.Passing.{HasBit, HaveNone, IsSized}
use Rattle.section_sweeps.specs.declared.blocks.Marked.{Marked}

-- line i stands at place b of a list
abbrev pub IsLineOf : List (Option ℕ) → ℕ → ℕ → Type 0
IsLineOf of b i = slice_index_or of b None ≡ Some i

-- the lines of a list are lines of the graph
abbrev pub AreKnown : GraphValue → List (Option ℕ) → Type 0
AreKnown g of = (b i : ℕ) → IsLineOf of b i → i < length g.lines

-- the first m lines of a list have their bits, at places from `low` up to `high`
pub record IsMarked (g : GraphValue) (places : List ℕ) (of : List (Option ℕ)) (s : Marked) (m : ℕ) : Type 0 where
  pub size : IsSized (length g.lines) s.bits
  pub own : AreOwn (IsLineOf of) s.bits.own.items m
  pub none : HaveNone s.bits.passed.items
  pub begins : (i b : ℕ) → HasBit s.bits.own.items i b → s.low ≤ slice_index places i
  pub ends : (i b : ℕ) → HasBit s.bits.own.items i b → slice_index places i < s.high
  pub within : s.high ≤ length g.lines
