-- What bits are passed on along edges.
use Rattle.std.specs.Prelude.{◌≡◌, ℕ, ◌<◌, ◌≤◌, true, List, length, Contains, slice_index}
use Rattle.std.specs.Int.RustNames.{bit_or}
use Rattle.graph_terms.specs.declared.verb.Edge.{Edge}
use Rattle.graph_terms.specs.Graph.{GraphValue}
use Rattle.graph_terms.specs.Edges.{edges}
use Rattle.graph_meaning.specs.Path.{HasPath}
use Rattle.sweep_base.specs.Bits.{bit_in}
use Rattle.section_sweeps.specs.declared.passing.Passing.{Passing}

-- the word of line i has bit b
abbrev pub HasBit : List ℕ → ℕ → ℕ → Type 0
HasBit words i b = bit_in (slice_index words i) b ≡ true

-- a line's own bits, and those that it was passed
abbrev pub bits_at : List ℕ → List ℕ → ℕ → ℕ
bits_at own passed i = bit_or (slice_index own i) (slice_index passed i)

-- line i has bit b of its own or was passed it
abbrev pub HasEither : List ℕ → List ℕ → ℕ → ℕ → Type 0
HasEither own passed i b = bit_in (bits_at own passed i) b ≡ true

-- no line has a bit
abbrev pub HaveNone : List ℕ → Type 0
HaveNone words = (i b : ℕ) → HasBit words i b → ⊥

-- only lines at places from `low` up to `high` have bits
abbrev pub AreWithin : List ℕ → List ℕ → ℕ → ℕ → Type 0
AreWithin places words low high = (i b : ℕ) → HasBit words i b → (low ≤ slice_index places i) × (slice_index places i < high)

-- a word for each line
pub record IsSized (n : ℕ) (p : Passing) : Type 0 where
  pub own : length p.own.items ≡ n
  pub passed : length p.passed.items ≡ n

-- a word has the bits of the lines whose edges lead to line i
pub record IsFromSources (g : GraphValue) (own passed : List ℕ) (i word : ℕ) : Type 0 where
  pub is : (b : ℕ) → bit_in word b ≡ true → (e : Edge) × Contains (edges g) e × (e.to ≡ i) × HasEither own passed e.from b
  pub all : (e : Edge) (b : ℕ) → Contains (edges g) e → e.to ≡ i → HasEither own passed e.from b → bit_in word b ≡ true

-- a word has the bits of the lines to which the edges of line i lead
pub record IsFromTargets (g : GraphValue) (own passed : List ℕ) (i word : ℕ) : Type 0 where
  pub is : (b : ℕ) → bit_in word b ≡ true → (e : Edge) × Contains (edges g) e × (e.from ≡ i) × HasEither own passed e.to b
  pub all : (e : Edge) (b : ℕ) → Contains (edges g) e → e.from ≡ i → HasEither own passed e.to b → bit_in word b ≡ true

-- each bit that a line was passed is one of a line with a path to it
abbrev pub AreFromBefore : GraphValue → List ℕ → List ℕ → Type 0
AreFromBefore g own passed = (i b : ℕ) → HasBit passed i b → (q : ℕ) × HasBit own q b × HasPath g q i

-- each bit that a line was passed is one of a line that it has a path to
abbrev pub AreFromBehind : GraphValue → List ℕ → List ℕ → Type 0
AreFromBehind g own passed = (i b : ℕ) → HasBit passed i b → (r : ℕ) × HasBit own r b × HasPath g i r

-- lines before place `high` were passed all bits of lines with a path to them
abbrev pub ArePassedUp : GraphValue → List ℕ → List ℕ → List ℕ → ℕ → Type 0
ArePassedUp g places own passed high = (q i b : ℕ) → HasBit own q b → HasPath g q i → slice_index places i < high → HasBit passed i b

-- lines from place `low` on were passed all bits of lines that they have a path to
abbrev pub ArePassedDown : GraphValue → List ℕ → List ℕ → List ℕ → ℕ → Type 0
ArePassedDown g places own passed low = (i r b : ℕ) → HasBit own r b → HasPath g i r → low ≤ slice_index places i → HasBit passed i b

-- where a line from place `x` on has a bit of the second kind and not of the first, its sources stand from place `low` on
abbrev pub AreSourcesFrom : GraphValue → List ℕ → Passing → Passing → ℕ → ℕ → Type 0
AreSourcesFrom g places a r x low = (e : Edge) (b : ℕ) → Contains (edges g) e → b < 64 → x ≤ slice_index places e.to →
    HasEither r.own.items r.passed.items e.to b → (HasEither a.own.items a.passed.items e.to b → ⊥) → low ≤ slice_index places e.from
