-- Which lines add to a column.
use Rattle.std.specs.Prelude.{◌≡◌, ℕ, ◌<◌, ◌==◌, ◌&&◌, nat_lt, Bool, false, List, [], length, slice_index_or}
use Rattle.std.specs.Option.{option_map_or}
use Rattle.graph_terms.specs.declared.verb.Access.{Access}
use Rattle.graph_terms.specs.Graph.{GraphValue, columns}
use Rattle.flow_order.specs.Bits.{word_bit}
use Rattle.task_flow.specs.Construction.{summed}

abbrev pub adds_to : GraphValue → ℕ → ℕ → Bool
adds_to f c i = option_map_or (λ (a : Access). a.column == c) (summed f i) false

-- for each column a row with a bit for each of the first n lines that adds to it
pub record AreSums (f : GraphValue) (n words : ℕ) (sums : List (List ℕ)) : Type 0 where
  pub count : length sums ≡ length (columns f)
  pub size : (c : ℕ) → c < length sums → length (slice_index_or sums c []) ≡ words
  pub bits : (c k : ℕ) → c < length sums → word_bit (slice_index_or sums c []) k ≡ (nat_lt k n && adds_to f c k)
