-- A group of acquires, and what a sweep finds of them.
use Rattle.std.specs.Prelude.{◌≡◌, ℕ, ◌<◌, ◌≤◌, ◌⊎◌, List, length, IsTrue, slice_index}
use Rattle.graph_terms.specs.Graph.{GraphValue, line_passes, is_phase, never_comes}
use Rattle.graph_meaning.specs.Path.{HasPath}
use Rattle.graph_terms.specs.Reservations.{Acquires, Releases}
use Rattle.sweep_base.specs.declared.line_sections.Held.{Held}
use Rattle.section_sweeps.specs.declared.group.Group.{Group}
use Rattle.section_sweeps.specs.Passing.{HasBit, HasEither, HaveNone, AreWithin, IsSized}
use Rattle.section_sweeps.specs.Sections.{IsKept}

-- the acquires of a group are lines from place `start` on
abbrev pub AreKnownFrom : GraphValue → List ℕ → List ℕ → ℕ → Type 0
AreKnownFrom g places acquires start = (b : ℕ) → b < length acquires → (slice_index acquires b < length g.lines) × (start ≤ slice_index places (slice_index acquires b))

-- the acquires of a group stand from place `start` on, and are all those at places before `end`
pub record AreGathered (g : GraphValue) (places acquires : List ℕ) (start end : ℕ) : Type 0 where
  pub few : length acquires ≤ 64
  pub known : AreKnownFrom g places acquires start
  pub all : (q l : ℕ) → Acquires g q l → start ≤ slice_index places q → slice_index places q < end → (b : ℕ) × (b < length acquires) × (slice_index acquires b ≡ q)

-- bit b, for each b below m, stands at the lines that it is a bit of
pub record AreOwn (BitOf : ℕ → ℕ → Type 0) (own : List ℕ) (m : ℕ) : Type 0 where
  pub is : (i b : ℕ) → HasBit own i b → (b < m) × BitOf b i
  pub all : (i b : ℕ) → b < m → BitOf b i → HasBit own i b

-- line i is acquire b of a group
abbrev pub IsAcquire : List ℕ → ℕ → ℕ → Type 0
IsAcquire acquires b i = slice_index acquires b ≡ i

-- line i releases acquire b of a group
abbrev pub IsReleaseOf : GraphValue → List ℕ → ℕ → ℕ → Type 0
IsReleaseOf g acquires b i = Releases g i (slice_index acquires b)

-- no bits are left, and there are words for so many lines
pub record IsCleared (n : ℕ) (s : Group) : Type 0 where
  pub behind_size : IsSized n s.behind
  pub acquires_size : IsSized n s.to_acquires
  pub releases_size : IsSized n s.to_releases
  pub behind_own : HaveNone s.behind.own.items
  pub behind_passed : HaveNone s.behind.passed.items
  pub acquires_own : HaveNone s.to_acquires.own.items
  pub acquires_passed : HaveNone s.to_acquires.passed.items
  pub releases_own : HaveNone s.to_releases.own.items
  pub releases_passed : HaveNone s.to_releases.passed.items

-- the first m acquires of a group and their releases, before place `high`, have their bits
pub record AreOpened (g : GraphValue) (places : List ℕ) (s : Group) (m high : ℕ) : Type 0 where
  pub behind_size : IsSized (length g.lines) s.behind
  pub acquires_size : IsSized (length g.lines) s.to_acquires
  pub releases_size : IsSized (length g.lines) s.to_releases
  pub behind_own : AreOwn (IsAcquire s.acquires.items) s.behind.own.items m
  pub acquires_own : AreOwn (IsAcquire s.acquires.items) s.to_acquires.own.items m
  pub releases_own : AreOwn (IsReleaseOf g s.acquires.items) s.to_releases.own.items m
  pub behind_passed : HaveNone s.behind.passed.items
  pub acquires_passed : HaveNone s.to_acquires.passed.items
  pub releases_passed : HaveNone s.to_releases.passed.items
  pub ends : (i b : ℕ) → HasBit s.to_releases.own.items i b → slice_index places i < high

-- an acquire of a group has a release with a path to it
pub record IsReleased (g : GraphValue) (places acquires : List ℕ) (high b : ℕ) : Type 0 where
  pub release : ℕ
  pub releases : Releases g release (slice_index acquires b)
  pub path : HasPath g (slice_index acquires b) release
  pub before : slice_index places release < high

-- what the bits tell of lines at places from `low` up to `high`, and that no line before `low` has a path to a release other than by its acquire
pub record IsSwept (g : GraphValue) (places : List ℕ) (s : Group) (low high : ℕ) : Type 0 where
  pub behind_size : IsSized (length g.lines) s.behind
  pub acquires_size : IsSized (length g.lines) s.to_acquires
  pub releases_size : IsSized (length g.lines) s.to_releases
  pub few : length s.acquires.items ≤ 64
  pub end : high ≤ length g.lines
  pub known : AreKnownFrom g places s.acquires.items low
  pub released : (b : ℕ) → b < length s.acquires.items → IsReleased g places s.acquires.items high b
  pub behind_is : (i b : ℕ) → HasBit s.behind.passed.items i b → (b < length s.acquires.items) × HasPath g (slice_index s.acquires.items b) i
  pub behind_all : (i b : ℕ) → b < length s.acquires.items → HasPath g (slice_index s.acquires.items b) i → slice_index places i < high → HasBit s.behind.passed.items i b
  pub acquires_is : (i b : ℕ) → HasEither s.to_acquires.own.items s.to_acquires.passed.items i b → (i ≡ slice_index s.acquires.items b) ⊎ HasPath g i (slice_index s.acquires.items b)
  pub releases_is : (i b : ℕ) → HasBit s.to_releases.passed.items i b → (r : ℕ) × Releases g r (slice_index s.acquires.items b) × HasPath g i r
  pub releases_all : (i b r : ℕ) → b < length s.acquires.items → Releases g r (slice_index s.acquires.items b) → HasPath g i r → low ≤ slice_index places i → HasBit s.to_releases.passed.items i b
  pub before_low : (i b r : ℕ) → b < length s.acquires.items → Releases g r (slice_index s.acquires.items b) → HasPath g i r → slice_index places i < low → HasPath g i (slice_index s.acquires.items b)
  pub behind_own : AreWithin places s.behind.own.items low high
  pub behind_passed : AreWithin places s.behind.passed.items low high
  pub acquires_own : AreWithin places s.to_acquires.own.items low high
  pub acquires_passed : AreWithin places s.to_acquires.passed.items low high
  pub releases_own : AreWithin places s.to_releases.own.items low high
  pub releases_passed : AreWithin places s.to_releases.passed.items low high

-- a line is no phase that never comes
abbrev pub IsNoDeadPhase : GraphValue → ℕ → Type 0
IsNoDeadPhase g i = IsTrue (line_passes is_phase g i) → IsTrue (never_comes g i) → ⊥

-- where line i has a path to release b of a group, it is the acquire or has a path to it, or has one from it and may come
abbrev pub IsPlacedAt : GraphValue → Group → ℕ → ℕ → Type 0
IsPlacedAt g s i b = HasEither s.to_acquires.own.items s.to_acquires.passed.items i b ⊎ (HasBit s.behind.passed.items i b × IsNoDeadPhase g i)

-- a line keeps the rules of sections of a group's acquires
pub record IsPassed (g : GraphValue) (s : Group) (h : Held) (i : ℕ) : Type 0 where
  pub placed : (b : ℕ) → b < 64 → HasBit s.to_releases.passed.items i b → IsPlacedAt g s i b
  pub descends : (b l k : ℕ) → HasBit s.behind.passed.items i b → HasBit s.to_releases.passed.items i b → Acquires g (slice_index s.acquires.items b) l → Acquires g i k → l < k
  pub kept : (b l : ℕ) → HasBit s.behind.passed.items i b → HasBit s.to_releases.passed.items i b → Acquires g (slice_index s.acquires.items b) l → IsKept h l i
