-- The state in which a run begins: no line is issued, and all cells are 0.
use Rattle.std.specs.Prelude.{ℕ, List, [], length, map, None, slice_get}
use Rattle.std.specs.Option.{option_map_or}
use Rattle.index_spaces.specs.Space.{points}
use Rattle.basics.specs.Lists.{numbers_below}
use Rattle.graph_terms.specs.declared.verb.Verb.{Verb}
use Rattle.graph_terms.specs.declared.verb.Verb.TheVariants.{Phase}
use Rattle.graph_terms.specs.declared.decl.BarrierInfo.{BarrierInfo}
use Rattle.graph_terms.specs.Graph.{GraphValue, columns, locks, barriers, column_space, verb_at}
use Rattle.run_state.specs.Run.{Unissued, Home, Run}

-- the first value of a phase, and 0 for other lines
abbrev pub first_by : GraphValue → Verb → ℕ
first_by g (Phase b) = option_map_or (λ (x : BarrierInfo). x.first) (slice_get (barriers g) b) 0
first_by g _ = 0

abbrev pub first_value : GraphValue → ℕ → ℕ
first_value g p = option_map_or (first_by g) (verb_at g p) 0

abbrev pub zeros : GraphValue → ℕ → List ℕ
zeros g c = map (λ p. 0) (points (column_space g c))

abbrev pub start : GraphValue → Run
start g = record {
  stages = map (λ i. Unissued) (numbers_below (length g.lines));
  times = map (λ i. None) (numbers_below (length g.lines));
  clock = 0;
  places = map (λ c. Home (zeros g c)) (numbers_below (length (columns g)));
  back = map (λ c. []) (numbers_below (length (columns g)));
  values = map (first_value g) (numbers_below (length g.lines));
  arrived = [];
  holders = map (λ l. []) (numbers_below (length (locks g)));
  freed = [];
}
