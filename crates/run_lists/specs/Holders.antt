-- How the holders of the reservations are kept: by line whether it holds, and by reservation how it is held.
use Rattle.std.specs.Prelude.{◌≡◌, ℕ, ◌<◌, ◌+◌, ◌-◌, Bool, true, false, not, ◌&&◌, nat_lt, List, length, map, filter, Option, None, slice_index_or, IsTrue}
use Rattle.std.specs.Option.{option_map_or}
use Rattle.basics.specs.Lists.{numbers_below, count_below}
use Rattle.graph_terms.specs.declared.outcome.End.{End}
use Rattle.graph_terms.specs.declared.verb.Verb.{Verb}
use Rattle.graph_terms.specs.declared.verb.Verb.TheVariants.{Release}
use Rattle.graph_terms.specs.Graph.{GraphValue, locks, line_passes, verb_at, is_acquire_of, is_shared}
use Rattle.graph_terms.specs.Reservations.{Acquires, both_shared}
use Rattle.run_state.specs.Run.{LineStage, is_listed, list_at}
use Rattle.run_state.specs.Sound.{IsOpenTo}
use Rattle.run_state.specs.WholeLine.{lock_of, freed_lock}
use Rattle.run_lists.specs.Stages.{ends_so_far}
use Rattle.run_parts.specs.declared.locks.LockState.{LockState}
use Rattle.run_parts.specs.declared.locks.LockState.TheVariants.{Alone, Shared}

-- whether a line holds this reservation: it is marked, and acquires it
abbrev pub holds_lock : GraphValue → List Bool → ℕ → ℕ → Bool
holds_lock g holding l q = slice_index_or holding q false && line_passes (is_acquire_of l) g q

-- the holders of a reservation, ascending, and those of each
abbrev pub holders_at : GraphValue → List Bool → ℕ → List ℕ
holders_at g holding l = filter (holds_lock g holding l) (numbers_below (length g.lines))

abbrev pub holders_by : GraphValue → List Bool → List (List ℕ)
holders_by g holding = map (holders_at g holding) (numbers_below (length (locks g)))

-- these lines hold a reservation so: one exclusive acquire alone, or so many shared ones
abbrev pub IsHeldAs : GraphValue → (ℕ → Bool) → LockState → Type 0
IsHeldAs g holds Alone = (q : ℕ) × (holds q ≡ true) × (line_passes is_shared g q ≡ false) × ((k : ℕ) → holds k ≡ true → k ≡ q)
IsHeldAs g holds (Shared n) = (count_below holds (length g.lines) ≡ n) × ((k : ℕ) → holds k ≡ true → line_passes is_shared g k ≡ true)

-- what is kept of the lines and of the reservations fits
pub record AreHeld (g : GraphValue) (holding : List Bool) (held : List LockState) : Type 0 where
  pub each_line : length holding ≡ length g.lines
  pub each_lock : length held ≡ length (locks g)
  pub each : (l : ℕ) → l < length (locks g) → IsHeldAs g (holds_lock g holding l) (slice_index_or held l (Shared 0))

-- whether holders so keep an acquire out, by whether it is shared
abbrev pub keeps_out : LockState → Bool → Bool
keeps_out Alone shared = true
keeps_out (Shared n) shared = not shared && nat_lt 0 n

-- one holder more, and one fewer
abbrev pub joined : LockState → Bool → LockState
joined (Shared n) true = Shared (n + 1)
joined (Shared n) false = Alone
joined Alone shared = Alone

abbrev pub parted : LockState → LockState
parted (Shared n) = Shared (n - 1)
parted Alone = Shared 0

-- the reservation of a line, where it acquires one, is open to it
abbrev pub HasLock : GraphValue → List (List ℕ) → ℕ → Type 0
HasLock g holders i = (l : ℕ) → Acquires g i l → IsOpenTo g holders l i

-- a holder of the reservation keeps the line out: the line or the holder is exclusive
abbrev pub IsKeptOut : GraphValue → List (List ℕ) → ℕ → ℕ → Type 0
IsKeptOut g holders l i = (k : ℕ) × IsTrue (is_listed (list_at holders l) k) × (both_shared g i k ≡ false)

-- what a release frees, where lines ended so
abbrev pub frees_as : GraphValue → (ℕ → End) → Verb → Option (ℕ × ℕ)
frees_as g ends (Release q) = freed_lock q (ends q) (lock_of g q)
frees_as g ends _ = None

abbrev pub frees : GraphValue → (ℕ → End) → ℕ → Option (ℕ × ℕ)
frees g ends i = option_map_or (frees_as g ends) (verb_at g i) None

-- and by the ends that the run keeps
abbrev pub frees_in : GraphValue → List LineStage → ℕ → Option (ℕ × ℕ)
frees_in g stages i = frees g (ends_so_far stages) i
