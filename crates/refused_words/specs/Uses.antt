-- The columns that the words of a line use, each in its place.
use Rattle.std.specs.Prelude.{ℕ, List, [], Option, Some, None, slice_index_or, slice_get}
use Rattle.graph_terms.specs.declared.verb.Access.{Access}
use Rattle.graph_terms.specs.declared.table.Place as table
use Rattle.graph_terms.specs.declared.table.Place.TheVariants as places
use Rattle.graph_terms.specs.Access.{access}
use Rattle.graph_terms.specs.Graph.{GraphValue}
use Rattle.graph_words.specs.Draft.{column_number_of, space_number}
use Rattle.graph_words.specs.Words.{pieces}

-- the column in a place is used over the space in another
abbrev pub use_in : GraphValue → List (List ℕ) → ℕ → Option table.Place → Option Access
use_in g ws k (Some (places.Column mode over)) = Some (access (column_number_of g (pieces 46 (slice_index_or ws k []))) (space_number g (slice_index_or ws over [])) mode)
use_in g ws k _ = None

abbrev pub use_at : GraphValue → List table.Place → List (List ℕ) → ℕ → Option Access
use_at g ps ws k = use_in g ws k (slice_get ps k)
