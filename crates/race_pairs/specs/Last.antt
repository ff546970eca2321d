-- The last lines that access columns.
use Rattle.std.specs.Prelude.{◌≡◌, ◌⊎◌, ℕ, ◌<◌, ◌≤◌, List, Option, Some, None, IfSome, Contains, set}
use Rattle.std.specs.List.{slice_index_or}
use Rattle.graph_terms.specs.declared.verb.Access.{Access}
use Rattle.graph_terms.specs.Graph.{GraphValue}
use Rattle.graph_terms.specs.Access.{all_accesses, Conflict}
use Rattle.graph_meaning.specs.Path.{HasPath}

-- the last line that accesses a column is this one, or has a path from it
abbrev pub Leads : GraphValue → List (Option ℕ) → ℕ → ℕ → Type 0
Leads g last i c = (m : ℕ) × (slice_index_or last c None ≡ Some m) × ((i ≡ m) ⊎ HasPath g i m)

-- so for each column that a line above line n, from `first` on, accesses
abbrev pub AreLast : GraphValue → ℕ → ℕ → List (Option ℕ) → Type 0
AreLast g first n last = (i : ℕ) (a : Access) → first ≤ i → i < n → Contains (all_accesses g i) a → Leads g last i a.column

-- line n waits for the last line that accesses a column, which it then is
pub record IsFollowed (g : GraphValue) (n c : ℕ) (old new : List (Option ℕ)) : Type 0 where
  pub waits : IfSome (slice_index_or old c None) (λ m. (m ≡ n) ⊎ HasPath g m n)
  pub is : new ≡ set old c (Some n)

-- each line above line n, from `first` on, that conflicts with it has a path to it
abbrev pub IsLed : GraphValue → ℕ → ℕ → Type 0
IsLed g first n = (i : ℕ) → first ≤ i → i < n → Conflict g i n → HasPath g i n
