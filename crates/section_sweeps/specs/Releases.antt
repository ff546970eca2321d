-- The release of each acquire.
use Rattle.std.specs.Prelude.{◌≡◌, ℕ, List, length, Option, Some, None}
use Rattle.std.specs.List.{slice_index_or}
use Rattle.graph_terms.specs.Graph.{GraphValue}
use Rattle.graph_terms.specs.Reservations.{Releases}

-- the release of an acquire, where there is one
abbrev pub IsReleaseTable : GraphValue → (ℕ → Option ℕ) → Type 0
IsReleaseTable g release = ((q r : ℕ) → release q ≡ Some r → Releases g r q) × ((q r : ℕ) → Releases g r q → release q ≡ Some r)

-- as a list with an item for each line
abbrev pub release_in : List (Option ℕ) → ℕ → Option ℕ
release_in releases q = slice_index_or releases q None

pub record AreReleases (g : GraphValue) (releases : List (Option ℕ)) : Type 0 where
  pub size : length releases ≡ length g.lines
  pub table : IsReleaseTable g (release_in releases)
