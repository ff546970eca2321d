-- Which lines of a block may conflict, and which may race.
use Rattle.std.specs.Prelude.{◌≡◌, ℕ, ◌+◌, ◌<◌, true, false, Bool, List, length, Contains, Some, Vec, slice_get}
use Rattle.std.specs.Global.{Global}
use Rattle.graph_terms.specs.declared.verb.Access.{Access}
use Rattle.graph_terms.specs.Graph.{GraphValue, columns, data_columns, named_spaces}
use Rattle.graph_terms.specs.Access.{all_accesses, is_read}
use Rattle.graph_meaning.specs.Path.{HasPath}
use Rattle.conflict_classes.specs.Clash.{Clash}
use Rattle.sweep_base.specs.Bits.{bit_in}
use Rattle.conflict_classes.specs.Settled.{IsSettled}
use Rattle.section_sweeps.specs.Passing.{HasBit}
use Rattle.section_sweeps.specs.PassedBlocks.{ArePassedOn, ArePassedBack}
use Rattle.race_pairs.specs.declared.block_conflicts.Asked.{Asked}
use Rattle.race_pairs.specs.declared.rivals.Rivals.{Rivals}

-- two lists have accesses that clash
abbrev pub ListsClash : GraphValue → Bool → List Access → List Access → Type 0
ListsClash g commuting xs ys = (a : Access) × Contains xs a × ((b : Access) × Contains ys b × Clash g commuting a b)

-- accesses over spaces of the graph
abbrev pub AreSpacesKnown : GraphValue → List Access → Type 0
AreSpacesKnown g xs = (a : Access) → Contains xs a → a.space < length (named_spaces g)

-- the accesses of each line
pub record AreAccesses (g : GraphValue) (lists : List (Vec Access Global)) : Type 0 where
  pub count : length lists ≡ length g.lines
  pub each : (i : ℕ) (list : Vec Access Global) → slice_get lists i ≡ Some list → list.items ≡ all_accesses g i

-- how many columns there are, with cells and of data
abbrev pub column_count : GraphValue → ℕ
column_count g = length (columns g) + length (data_columns g)

-- the columns of an access are asked about bit b: those that it changes in two lists, and those that it reads in one
pub record IsAsked (used changed : List ℕ) (a : Access) (b : ℕ) : Type 0 where
  pub uses : HasBit used a.column b
  pub changes : is_read a.mode ≡ false → HasBit changed a.column b

-- they are asked about the lines from `first` up to `end`
pub record AreAsked (g : GraphValue) (first end : ℕ) (s : Asked) : Type 0 where
  pub used_size : length s.used.items ≡ column_count g
  pub changed_size : length s.changed.items ≡ column_count g
  pub each : (b : ℕ) (a : Access) → first + b < end → Contains (all_accesses g (first + b)) a → IsAsked s.used.items s.changed.items a b

-- what is looked up of the 64 lines from the first one on
pub record IsRivals (g : GraphValue) (r : Rivals) : Type 0 where
  pub known : r.first < length g.lines
  pub behind_is : ArePassedOn g (λ q i. q ≡ i) r.first r.behind
  pub before_is : ArePassedBack g (λ q i. q ≡ i) r.first r.before
  pub end : ℕ
  pub within : (b : ℕ) → b < 64 → r.first + b < length g.lines → r.first + b < end
  pub asked_is : AreAsked g r.first end r.asked

-- a bit tells of a line without a path to line j or from it, and the others are settled with it
pub record IsSuspects (g : GraphValue) (first j word : ℕ) : Type 0 where
  pub forward : (b : ℕ) → b < 64 → bit_in word b ≡ true → HasPath g (first + b) j → ⊥
  pub backward : (b : ℕ) → b < 64 → bit_in word b ≡ true → HasPath g j (first + b) → ⊥
  pub free : (b : ℕ) → b < 64 → bit_in word b ≡ false → IsSettled g (first + b) j
