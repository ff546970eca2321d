-- When a graph is accepted: six rules, and for each the least numbers at which it fails.
use Rattle.std.specs.Prelude.{◌≡◌, ◌≢◌, ℕ, ◌<◌, ◌⊎◌, nat_lt, Bool, true, false, ◌&&◌, List, length, Contains, IsTrue, Some, slice_get}
use Rattle.std.specs.List.{list_all}
use Rattle.graph_terms.specs.declared.verb.Access.{Access}
use Rattle.graph_terms.specs.declared.verb.Line.{Line}
use Rattle.graph_terms.specs.declared.verb.Mode.{Mode}
use Rattle.graph_terms.specs.declared.verb.Mode.TheVariants.{Sum, Least, Most}
use Rattle.graph_terms.specs.Graph.{GraphValue, line_passes, is_phase, is_release_of, is_merge_ignore, never_comes}
use Rattle.graph_meaning.specs.Path.{HasPath}
use Rattle.graph_terms.specs.Access.{all_accesses, AccessesConflict, Conflict}
use Rattle.graph_terms.specs.Reservations.{Acquires, Releases, both_shared}

-- line i lies in the section of the acquire q of reservation l: on a path from it to its release
pub record Section (g : GraphValue) (l q i : ℕ) : Type 0 where
  pub acquires : Acquires g q l
  pub entered : HasPath g q i
  pub release : ℕ
  pub releases : Releases g release q
  pub left : HasPath g i release

-- two uses whose changes may come in either order
abbrev pub modes_commute : Mode → Mode → Bool
modes_commute Sum Sum = true
modes_commute Least Least = true
modes_commute Most Most = true
modes_commute _ _ = false

-- two lines that conflict by reductions of one kind alone, each in a section of an acquire of its own of one reservation, which are not both shared
pub record Exempt (g : GraphValue) (i j : ℕ) : Type 0 where
  pub commute : (a b : Access) → Contains (all_accesses g i) a → Contains (all_accesses g j) b → AccessesConflict g a b → IsTrue (modes_commute a.mode b.mode)
  pub lock : ℕ
  pub one : ℕ
  pub other : ℕ
  pub different : one ≢ other
  pub apart : both_shared g one other ≡ false
  pub one_section : Section g lock one i
  pub other_section : Section g lock other j

-- no path leads from line i to itself
abbrev pub NoCycleAt : GraphValue → ℕ → Type 0
NoCycleAt g i = HasPath g i i → ⊥

-- an acquire has a release and a path to it
abbrev pub ReleasedAt : GraphValue → ℕ → Type 0
ReleasedAt g i = (l : ℕ) → Acquires g i l → (r : ℕ) × Releases g r i × HasPath g i r

-- a line with a path to a release is its acquire, has a path to it, or has a path from it and is no phase that never comes
abbrev pub SectionAt : GraphValue → ℕ → ℕ → Type 0
SectionAt g i j = (q : ℕ) → Releases g i q → HasPath g j i →
    (j ≡ q) ⊎ (HasPath g j q ⊎ (HasPath g q j × (IsTrue (line_passes is_phase g j) → IsTrue (never_comes g j) → ⊥)))

-- an acquire in the section of another is of a reservation declared later
abbrev pub DescendsAt : GraphValue → ℕ → ℕ → Type 0
DescendsAt g i j = (l k : ℕ) → Section g l i j → Acquires g j k → l < k

-- there are events behind `on`, and each is a merge that ignores faults
abbrev pub stands_on_merges : GraphValue → List ℕ → Bool
stands_on_merges g on = nat_lt 0 (length on) && list_all (line_passes is_merge_ignore g) on

-- a release stands on merges that ignore faults, and on no other event
abbrev pub ReleaseFaultAt : GraphValue → ℕ → Type 0
ReleaseFaultAt g i = (q : ℕ) (l : Line) → slice_get g.lines i ≡ Some l → IsTrue (is_release_of q l.verb) → IsTrue (stands_on_merges g l.on)

-- two lines that conflict have a path one way or the other, or are exempt
abbrev pub RaceAt : GraphValue → ℕ → ℕ → Type 0
RaceAt g i j = i < j → Conflict g i j → HasPath g i j ⊎ (HasPath g j i ⊎ Exempt g i j)

-- the rules over all lines
abbrev pub Everywhere : (ℕ → Type 0) → Type 0
Everywhere R = (i : ℕ) → R i

abbrev pub EverywhereTwice : (ℕ → ℕ → Type 0) → Type 0
EverywhereTwice R = (i j : ℕ) → R i j

-- a graph is accepted where the six rules hold
pub record Accepted (g : GraphValue) : Type 0 where
  pub acyclic : Everywhere (NoCycleAt g)
  pub released : Everywhere (ReleasedAt g)
  pub sections : EverywhereTwice (SectionAt g)
  pub descends : EverywhereTwice (DescendsAt g)
  pub release_faults : Everywhere (ReleaseFaultAt g)
  pub races : EverywhereTwice (RaceAt g)

-- a rule fails at i, and at no lesser number
pub record FailsFirst (R : ℕ → Type 0) (i : ℕ) : Type 0 where
  pub here : R i → ⊥
  pub before : (k : ℕ) → k < i → R k

-- a rule fails at i and j, and at no lesser numbers, the first number first
pub record FailsFirstTwice (R : ℕ → ℕ → Type 0) (i j : ℕ) : Type 0 where
  pub here : R i j → ⊥
  pub before : (k m : ℕ) → k < i → R k m
  pub beside : (m : ℕ) → m < j → R i m

-- what a refusal of each rule says: the rules before it hold, and it fails first at these numbers
abbrev pub IsCycle : GraphValue → ℕ → Type 0
IsCycle g i = FailsFirst (NoCycleAt g) i

abbrev pub IsUnreleased : GraphValue → ℕ → Type 0
IsUnreleased g i = Everywhere (NoCycleAt g) × FailsFirst (ReleasedAt g) i

abbrev pub IsOutsideSection : GraphValue → ℕ → ℕ → Type 0
IsOutsideSection g i j = Everywhere (NoCycleAt g) × Everywhere (ReleasedAt g) × FailsFirstTwice (SectionAt g) i j

abbrev pub IsNotDescending : GraphValue → ℕ → ℕ → Type 0
IsNotDescending g i j = Everywhere (NoCycleAt g) × Everywhere (ReleasedAt g) × EverywhereTwice (SectionAt g) × FailsFirstTwice (DescendsAt g) i j

abbrev pub IsReleaseFault : GraphValue → ℕ → Type 0
IsReleaseFault g i = Everywhere (NoCycleAt g) × Everywhere (ReleasedAt g) × EverywhereTwice (SectionAt g) × EverywhereTwice (DescendsAt g) × FailsFirst (ReleaseFaultAt g) i

abbrev pub IsRace : GraphValue → ℕ → ℕ → Type 0
IsRace g i j = Everywhere (NoCycleAt g) × Everywhere (ReleasedAt g) × EverywhereTwice (SectionAt g) × EverywhereTwice (DescendsAt g) × Everywhere (ReleaseFaultAt g) × FailsFirstTwice (RaceAt g) i j
