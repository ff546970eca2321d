-- Laws on bits that lines are given and pass on.
use Rattle.std.specs.Prelude.{◌≡◌, ℕ, ◌+◌, ◌*◌, ◌%◌, ◌^◌, ◌<◌, ◌≤◌, List, length, Option, Some, slice_index, slice_set}
use Rattle.std.specs.Int.RustNames.{bit_or}
use Rattle.graph_terms.specs.Graph.{GraphValue}
use Rattle.graph_terms.specs.Reservations.{Releases, acquire_at}
use Rattle.section_sweeps.specs.Blocks.{IsLineOf}
use Rattle.section_sweeps.specs.Group.{AreOwn}
use Rattle.section_sweeps.specs.PassedBlocks.{AreListed, ArePassedOn, ArePassedBack}
use Rattle.section_sweeps.specs.Passing.{AreFromBefore, AreFromBehind, ArePassedUp, ArePassedDown, HasBit, IsSized}
use Rattle.section_sweeps.specs.declared.lookups.Table.{Table}
use Rattle.section_sweeps.specs.declared.passing.Passing.{Passing}

-- a word is given a bit: what was there stays, and it is there
abbrev pub GivenBitsStay : Type 0
GivenBitsStay = (words : List ℕ) (i m k b : ℕ) → i < length words → HasBit words k b → HasBit (slice_set words i (bit_or (slice_index words i) (1 * 2 ^ m % 2 ^ 64))) k b

abbrev pub GivenBitIsThere : Type 0
GivenBitIsThere = (words : List ℕ) (i m : ℕ) → i < length words → m < 64 → HasBit (slice_set words i (bit_or (slice_index words i) (1 * 2 ^ m % 2 ^ 64))) i m

-- the acquire of a release
abbrev pub AcquireOfRelease : Type 0
AcquireOfRelease = (g : GraphValue) (r q : ℕ) → Releases g r q → acquire_at g r ≡ Some q

-- a list of a block has no more than 64 items, and lists of its lines have lines
abbrev pub FewAreListed : (ℕ → ℕ → Type 0) → Type 0
FewAreListed P = (first end : ℕ) (of : List (Option ℕ)) → end ≤ first + 64 → AreListed P first end of → length of ≤ 64

abbrev pub ListedAreLines : Type 0
ListedAreLines = (n first end : ℕ) (of : List (Option ℕ)) → end ≤ n → AreListed (λ q i. q ≡ i) first end of → (b i : ℕ) → IsLineOf of b i → i < n

-- the bits of a block's list, passed on along edges or against them, tell of the paths of the whole block
abbrev pub BlockIsPassedOn : GraphValue → Table → (ℕ → ℕ → Type 0) → Type 0
BlockIsPassedOn g t P = (first end : ℕ) (of : List (Option ℕ)) → AreListed P first end of → ((b : ℕ) → b < 64 → first + b < length g.lines → first + b < end) → (p : Passing) → IsSized (length g.lines) p →
    AreOwn (IsLineOf of) p.own.items (length of) → (high : ℕ) → length g.lines ≤ high → AreFromBefore g p.own.items p.passed.items → ArePassedUp g t.places.items p.own.items p.passed.items high → ArePassedOn g P first p

abbrev pub BlockIsPassedBack : GraphValue → Table → (ℕ → ℕ → Type 0) → Type 0
BlockIsPassedBack g t P = (first end : ℕ) (of : List (Option ℕ)) → AreListed P first end of → ((b : ℕ) → b < 64 → first + b < length g.lines → first + b < end) → (p : Passing) → IsSized (length g.lines) p →
    AreOwn (IsLineOf of) p.own.items (length of) → AreFromBehind g p.own.items p.passed.items → ArePassedDown g t.places.items p.own.items p.passed.items 0 → ArePassedBack g P first p
