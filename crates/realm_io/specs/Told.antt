use Rattle.std.specs.Prelude.{◌≡◌, ℕ, ◌+◌, ◌≤◌, List, ◌++◌, length, take, Option, Some, None}
use Rattle.std.specs.Io.KnownBytes.{Consumes}
use Rattle.realm_io.specs.Counts.{MadeAtMost}

-- what is told, with more bytes at its end
abbrev pub with_more : Option (List ℕ) → List ℕ → Option (List ℕ)
with_more None bytes = None
with_more (Some told) bytes = Some (told ++ bytes)

-- a prefix of the bytes was taken
abbrev pub TookPrefix : Option (List ℕ) → Option (List ℕ) → List ℕ → Type 0
TookPrefix old new bytes = (n : ℕ) × (n ≤ length bytes) × (new ≡ with_more old (take n bytes))

-- a prefix of n bytes was taken, in at most n calls and one that failed
abbrev pub TookPrefixInSteps : Option (List ℕ) → Option (List ℕ) → Option ℕ → Option ℕ → List ℕ → Type 0
TookPrefixInSteps old new calls_old calls_new bytes =
    (n : ℕ) × (n ≤ length bytes) × (new ≡ with_more old (take n bytes)) × MadeAtMost calls_old calls_new (n + 1)

-- n bytes that were still to come are gone
abbrev pub Lost : Option (List ℕ) → Option (List ℕ) → ℕ → Type 0
Lost old new n = (bytes : List ℕ) × (length bytes ≡ n) × Consumes old new bytes

-- at most n bytes that were still to come are gone
abbrev pub LostAtMost : Option (List ℕ) → Option (List ℕ) → ℕ → Type 0
LostAtMost old new n = (bytes : List ℕ) × (length bytes ≤ n) × Consumes old new bytes
