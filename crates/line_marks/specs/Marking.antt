-- Marks of lines, of which 0 is none.
use Rattle.std.specs.Prelude.{◌≡◌, ℕ, ◌+◌, ◌<◌, ◌==◌, ◌⊎◌, List, length, Contains, count_by, slice_index}

-- how many lines have no mark
abbrev pub unmarked : List ℕ → ℕ
unmarked marks = count_by (λ m. m == 0) marks

-- these targets have a mark now: those that had none got this one, and are pending
pub record IsMarking (targets : ℕ → Type 0) (mark : ℕ) (old before new pending : List ℕ) : Type 0 where
  pub size : length new ≡ length old
  pub keeps : (i : ℕ) → 0 < slice_index old i → slice_index new i ≡ slice_index old i
  pub marks : (i : ℕ) → slice_index old i ≡ 0 → 0 < slice_index new i → (slice_index new i ≡ mark) × targets i × Contains pending i
  pub covers : (i : ℕ) → targets i → 0 < slice_index new i
  pub stays : (i : ℕ) → Contains before i → Contains pending i
  pub fresh : (i : ℕ) → Contains pending i → Contains before i ⊎ ((slice_index old i ≡ 0) × (0 < slice_index new i))
  pub work : unmarked new + length pending ≡ unmarked old + length before
