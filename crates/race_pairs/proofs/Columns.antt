-- The columns of accesses.
use Rattle.std.proofs.Common.{◌≡◌, ℕ, ◌<◌}
use Rattle.std.specs.Prelude.{Some, slice_get}
use Rattle.graph_terms.specs.declared.verb.Access.{Access}
use Rattle.graph_terms.specs.Graph.{GraphValue}
use Rattle.graph_terms.specs.Access.{all_accesses}
use Rattle.graph_terms.specs.Fits.{IsGraph}
use Rattle.graph_meaning.specs.LineLaws.{AllAccessesFit}
use Rattle.basics.proofs.ListFacts.{got_contains}
use Rattle.race_pairs.specs.Races.{column_count}

pub column_known : AllAccessesFit → (g : GraphValue) → IsGraph g → (i k : ℕ) (a : Access) → slice_get (all_accesses g i) k ≡ Some a → a.column < column_count g
column_known law g f i k a at = (law g i a f (got_contains (all_accesses g i) k a at)).column
