-- Why pairs of numbers make no space, the first reason first.
use Rattle.std.specs.Prelude.{ℕ, ◌+◌, nat_lt, cond, List, [], ◌∷◌, length, Option, Some, None}
use Rattle.index_spaces.specs.declared.space.SpaceFault.{SpaceFault}
use Rattle.index_spaces.specs.declared.space.SpaceFault.TheVariants.{Empty, Reversed, Order, Many, Large}
use Rattle.index_spaces.specs.declared.limits.SpaceLimits.{SpaceLimits}
use Rattle.index_spaces.specs.declared.limits.TheConstants.{MAX_INTERVALS, MAX_POINTS}
use Rattle.index_spaces.specs.Space.{space_size}

-- the first pair, the next having number k, that is reversed or begins below low
abbrev pub first_misplaced : ℕ → ℕ → List (ℕ × ℕ) → Option SpaceFault
first_misplaced k low [] = None
first_misplaced k low (i ∷ is) = cond (nat_lt i.1 i.0) (Some (Reversed k)) (cond (nat_lt i.0 low) (Some (Order k)) (first_misplaced (k + 1) (i.1 + 2) is))

-- the most intervals and points of a space in formats 1 and 2
abbrev pub few_limits : SpaceLimits
few_limits = record { intervals = MAX_INTERVALS; points = MAX_POINTS }

-- too many pairs, or too many points, the pairs first
abbrev pub too_large : SpaceLimits → List (ℕ × ℕ) → Option SpaceFault
too_large m is = cond (nat_lt m.intervals (length is)) (Some Many) (cond (nat_lt m.points (space_size is)) (Some Large) None)

-- the fault that was found, or else too many pairs or points
abbrev pub or_too_large : SpaceLimits → Option SpaceFault → List (ℕ × ℕ) → Option SpaceFault
or_too_large m (Some fault) is = Some fault
or_too_large m None is = too_large m is

-- the first reason that pairs make no space within these limits
abbrev pub space_fault_in : SpaceLimits → List (ℕ × ℕ) → Option SpaceFault
space_fault_in m [] = Some Empty
space_fault_in m (i ∷ is) = or_too_large m (first_misplaced 0 0 (i ∷ is)) (i ∷ is)

-- the same within the limits of formats 1 and 2
abbrev pub space_fault : List (ℕ × ℕ) → Option SpaceFault
space_fault pairs = space_fault_in few_limits pairs
