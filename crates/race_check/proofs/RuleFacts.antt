-- What acquires and releases tell of lines.
use Rattle.std.proofs.Common.{ℕ, ◌<◌, length}
use Rattle.graph_terms.specs.Graph.{GraphValue, is_acquire_of, is_release_of}
use Rattle.graph_terms.specs.Fits.{IsGraph}
use Rattle.graph_terms.specs.Reservations.{Acquires, Releases}
use Rattle.graph_terms.proofs.Public.{passes_below, release_names}

pub releases_known : (g : GraphValue) (q r : ℕ) → Releases g r q → r < length g.lines
releases_known g q r h = passes_below (is_release_of q) g r h

pub acquire_below : (g : GraphValue) (q l : ℕ) → Acquires g q l → q < length g.lines
acquire_below g q l a = passes_below (is_acquire_of l) g q a

pub released_acquire : (g : GraphValue) → IsGraph g → (r q : ℕ) → Releases g r q → (l : ℕ) × Acquires g q l
released_acquire g f r q rel = release_names g f r q rel

pub acquires_known : (g : GraphValue) → IsGraph g → (r q : ℕ) → Releases g r q → q < length g.lines
acquires_known g f r q h = let a = release_names g f r q h in passes_below (is_acquire_of a.0) g q a.1
