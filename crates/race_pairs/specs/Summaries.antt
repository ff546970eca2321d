-- Which lines lie in sections that exclude one another.
use Rattle.std.specs.Prelude.{◌≡◌, ◌≢◌, ℕ, false}
use Rattle.graph_terms.specs.Graph.{GraphValue}
use Rattle.graph_meaning.specs.Rules.{Section}
use Rattle.graph_terms.specs.Reservations.{both_shared}

-- each line lies in the section of at most one acquire of a reservation
abbrev pub AreAlone : GraphValue → Type 0
AreAlone g = (l q k i : ℕ) → Section g l q i → Section g l k i → q ≡ k

-- two lines lie in sections of two different acquires of reservation l, not both shared
abbrev pub ApartIn : GraphValue → ℕ → ℕ → ℕ → Type 0
ApartIn g l i j = (q : ℕ) × (k : ℕ) × (q ≢ k) × (both_shared g q k ≡ false) × Section g l q i × Section g l k j
