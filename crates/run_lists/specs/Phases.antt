-- What arrivals bring to phases.
use Rattle.std.specs.Prelude.{ℕ, Option, None}
use Rattle.std.specs.Option.{option_map_or}
use Rattle.index_spaces.specs.declared.Op.{Op}
use Rattle.graph_terms.specs.Graph.{GraphValue, verb_at}
use Rattle.run_state.specs.WholeLine.{arrival_by}

-- what a line brings to a phase, if it is an arrival
abbrev pub arrival_of : GraphValue → ℕ → Option (Op × ℕ × ℕ)
arrival_of g i = option_map_or (arrival_by g) (verb_at g i) None
