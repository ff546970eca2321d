-- What is listed of a block of 64 lines, and what is passed on of it.
use Rattle.std.specs.Prelude.{◌≡◌, ℕ, ◌+◌, ◌-◌, ◌<◌, List, length, Option}
use Rattle.graph_terms.specs.Graph.{GraphValue}
use Rattle.graph_terms.specs.Reservations.{Releases}
use Rattle.graph_meaning.specs.Path.{HasPath}
use Rattle.section_sweeps.specs.Blocks.{IsLineOf}
use Rattle.section_sweeps.specs.Passing.{HasBit}
use Rattle.section_sweeps.specs.declared.passing.Passing.{Passing}

-- the items of a list are those that the lines from `first` up to `end` have
pub record AreListed (P : ℕ → ℕ → Type 0) (first end : ℕ) (of : List (Option ℕ)) : Type 0 where
  pub size : length of ≡ end - first
  pub is : (b i : ℕ) → IsLineOf of b i → P (first + b) i
  pub all : (b i : ℕ) → first + b < end → P (first + b) i → IsLineOf of b i

-- bit b of a line tells of a path to it from what line first + b has
pub record ArePassedOn (g : GraphValue) (P : ℕ → ℕ → Type 0) (first : ℕ) (p : Passing) : Type 0 where
  pub own_size : length p.own.items ≡ length g.lines
  pub size : length p.passed.items ≡ length g.lines
  pub is : (j b : ℕ) → HasBit p.passed.items j b → (t : ℕ) × P (first + b) t × HasPath g t j
  pub all : (j b t : ℕ) → b < 64 → first + b < length g.lines → P (first + b) t → HasPath g t j → HasBit p.passed.items j b

-- or of a path from it
pub record ArePassedBack (g : GraphValue) (P : ℕ → ℕ → Type 0) (first : ℕ) (p : Passing) : Type 0 where
  pub own_size : length p.own.items ≡ length g.lines
  pub size : length p.passed.items ≡ length g.lines
  pub own_is : (i b : ℕ) → HasBit p.own.items i b → P (first + b) i
  pub own_all : (i b : ℕ) → b < 64 → first + b < length g.lines → P (first + b) i → HasBit p.own.items i b
  pub is : (j b : ℕ) → HasBit p.passed.items j b → (t : ℕ) × P (first + b) t × HasPath g j t
  pub all : (j b t : ℕ) → b < 64 → first + b < length g.lines → P (first + b) t → HasPath g j t → HasBit p.passed.items j b

-- a line is a release
abbrev pub IsRelease : GraphValue → ℕ → ℕ → Type 0
IsRelease g r i = (r ≡ i) × ((q : ℕ) × Releases g r q)
