-- What the verb of a line tells of the reservation that it acquires or frees.
use Rattle.std.proofs.Common.{ℕ, ◌<◌, length}
use Rattle.std.specs.Prelude.{Some, MatchOption, Option, None}
use Rattle.graph_terms.specs.Graph.{GraphValue, locks}
use Rattle.graph_terms.specs.Fits.{IsGraph}
use Rattle.graph_terms.specs.Reservations.{Acquires, Releases}
use Rattle.graph_terms.proofs.Public.{release_names}

-- the reservation that the acquire of a release acquires
pub freed_by_acquire : (g : GraphValue) → IsGraph g → (i q : ℕ) (o : Option ℕ) → Releases g i q → MatchOption o ((l : ℕ) → Acquires g q l → ⊥) (λ l. Acquires g q l × (l < length (locks g))) →
    MatchOption o ((r : ℕ) → Releases g i r → ⊥) (λ l. (r : ℕ) × Releases g i r × Acquires g r l × (l < length (locks g)))
freed_by_acquire g f i q None r none = let a = release_names g f i q r in absurd (none a.0 a.1)
freed_by_acquire g f i q (Some l) r some = (q, r, some.0, some.1)
