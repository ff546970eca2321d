-- Small graphs that are accepted.
use Rattle.std.proofs.Common.{List, [], ◌∷◌, refl}
use Rattle.std.specs.Prelude.{Contains}
use Rattle.graph_terms.specs.Graph.{GraphValue}
use Rattle.graph_meaning.specs.Rules.{Accepted}
use Rattle.basics.proofs.ListFacts.{passes_each}
use Rattle.graph_terms.proofs.examples.Graphs.{late_trigger, broken_paths, cancelled_arrival, short_phase, ordered_fills, reserved_sums, two_sections, nine_fills, kernels, reserved_greatest, sum_beside_shared, weighted_phase}
use Rattle.graph_meaning.proofs.RulesTable.{all_tests, accepted_by_computing}

abbrev small_graphs : List GraphValue
small_graphs = late_trigger ∷ broken_paths ∷ cancelled_arrival ∷ short_phase ∷ ordered_fills ∷ nine_fills ∷ kernels ∷ weighted_phase ∷ []

small_graphs-accepted : (g : GraphValue) → Contains small_graphs g → Accepted g
small_graphs-accepted g c = accepted_by_computing g (passes_each all_tests small_graphs refl g c)

pub reserved_sums-accepted : Accepted reserved_sums
reserved_sums-accepted = accepted_by_computing reserved_sums refl

pub two_sections-accepted : Accepted two_sections
two_sections-accepted = accepted_by_computing two_sections refl

-- greatest values that are exempt in format 2
pub reserved_greatest-accepted : Accepted reserved_greatest
reserved_greatest-accepted = accepted_by_computing reserved_greatest refl

-- sums under two acquires of which one is shared
pub sum_beside_shared-accepted : Accepted sum_beside_shared
sum_beside_shared-accepted = accepted_by_computing sum_beside_shared refl
