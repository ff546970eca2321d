-- Which of 64 lines are reached.
use Rattle.std.specs.Prelude.{◌≡◌, ℕ, ◌+◌, ◌/◌, ◌<◌, ◌⊎◌, Bool, true, List, length, slice_index}
use Rattle.graph_terms.specs.Graph.{GraphValue}
use Rattle.graph_meaning.specs.Path.{HasPath}
use Rattle.sweep_base.specs.Bits.{bit_in}
use Rattle.sweep_base.specs.Noted.{is_noted}
use Rattle.race_sweeps.specs.declared.reach.Reach.{Reach}

-- each bit of a word tells of a path from the line at place x to one of the 64 lines from place `first` on
abbrev pub AreReached : GraphValue → List ℕ → ℕ → ℕ → ℕ → Type 0
AreReached g lines first x word = (b : ℕ) → b < 64 → bit_in word b ≡ true → (first + b < length lines) × HasPath g (slice_index lines x) (slice_index lines (first + b))

-- or of that line itself
abbrev pub AreReachedOrSelf : GraphValue → List ℕ → ℕ → ℕ → ℕ → Type 0
AreReachedOrSelf g lines first x word = (b : ℕ) → b < 64 → bit_in word b ≡ true → (first + b < length lines) × ((first + b ≡ x) ⊎ HasPath g (slice_index lines x) (slice_index lines (first + b)))

-- a word for each place
pub record IsReach (g : GraphValue) (lines : List ℕ) (first : ℕ) (words : List ℕ) : Type 0 where
  pub size : length words ≡ length lines
  pub reached : (x : ℕ) → AreReached g lines first x (slice_index words x)

-- where a word has a bit, the block of its place is marked
abbrev pub AreBlocksMarked : List ℕ → List Bool → Type 0
AreBlocksMarked words blocks = (x : ℕ) → (slice_index words x ≡ 0) ⊎ (is_noted blocks (x / 64) ≡ true)

-- there are words for so many places, and marks for their blocks
pub record IsBounded (places : ℕ) (r : Reach) : Type 0 where
  pub size : length r.words.items ≡ places
  pub blocks : length r.blocks.items ≡ places / 64 + 1
  pub marked : AreBlocksMarked r.words.items r.blocks.items
