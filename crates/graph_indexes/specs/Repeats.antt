-- Lists with a number that stands in them twice, by marks of the numbers before.
use Rattle.std.specs.Prelude.{ℕ, Bool, false, ◌||◌, List, nat_eq}
use Rattle.std.specs.List.{list_any, slice_index_or}
use Rattle.graph_terms.specs.Fits.{repeats}

-- a number stands there twice, or is marked
abbrev pub clashes : List Bool → List ℕ → Bool
clashes marks numbers = repeats nat_eq numbers || list_any (λ n. slice_index_or marks n false) numbers
