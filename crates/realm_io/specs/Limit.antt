-- How many bytes a text may have, where that goes by its first bytes.
use Rattle.std.specs.Prelude.{◌≡◌, ℕ, ◌+◌, ◌≤◌, nat_eq, cond, List, length, Option}
use Rattle.std.specs.List.{starts_with}
use Rattle.std.specs.Io.KnownBytes.{Consumes}

-- so many where it begins with these bytes, else as many as others
abbrev pub limit_by : List ℕ → ℕ → ℕ → List ℕ → ℕ
limit_by start most limit bytes = cond (starts_with nat_eq bytes start) most limit

-- one byte more is gone than the bytes that are gone allow
abbrev pub LostTooMany : (List ℕ → ℕ) → Option (List ℕ) → Option (List ℕ) → Type 0
LostTooMany most old new = (bytes : List ℕ) × (length bytes ≡ most bytes + 1) × Consumes old new bytes

-- no more bytes are gone than they allow
abbrev pub LostWithin : (List ℕ → ℕ) → Option (List ℕ) → Option (List ℕ) → Type 0
LostWithin most old new = (bytes : List ℕ) × (length bytes ≤ most bytes) × Consumes old new bytes
