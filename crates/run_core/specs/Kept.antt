-- How what the code keeps shows a core.
use Rattle.std.specs.Prelude.{◌≡◌, ℕ, ◌+◌, Bool, List, [], ◌∷◌, length, map, Option, Some, None, slice_set}
use Rattle.basics.specs.Lists.{numbers_below}
use Rattle.index_spaces.specs.Column.{ColumnValue}
use Rattle.graph_terms.specs.Graph.{GraphValue, columns, column_space}
use Rattle.graph_terms.specs.declared.outcome.End.{End}
use Rattle.run_state.specs.Run.{LineStage, Place, Home, Had, Run}
use Rattle.run_state.specs.WholeLine.{all_back, columns_for, arrived_with, arrival_for, freed_with}
use Rattle.lent_columns.specs.Lendings.{SharedValue, column_in}
use Rattle.run_core.specs.Core.{CoreValue}
use Rattle.run_lists.specs.Stages.{shown_stage, ends_so_far}
use Rattle.run_lists.specs.Events.{EventsValue}
use Rattle.run_lists.specs.Holders.{holders_by, frees}
use Rattle.run_parts.specs.declared.progress.Progress.{Progress}

-- where the columns are
abbrev pub place_of : Option ColumnValue → ℕ → Place
place_of (Some x) taker = Home x.cells
place_of None taker = Had taker

abbrev pub places_of : List (Option ColumnValue) → List ℕ → List Place
places_of [] takers = []
places_of (x ∷ xs) [] = []
places_of (x ∷ xs) (t ∷ ts) = place_of x t ∷ places_of xs ts

-- WHAT HAS HAPPENED, by the lines that have ended, in the order in which they did: their times, on which columns they were put back, which of them arrived, and which freed a reservation
pub record Past : Type 0 where
  pub times : List (Option ℕ)
  pub clock : ℕ
  pub back : List (List ℕ)
  pub arrived : List ℕ
  pub freed : List ℕ

abbrev pub no_past : GraphValue → Past
no_past g = record {
  times = map (λ i. None) (numbers_below (length g.lines));
  clock = 0;
  back = map (λ c. []) (numbers_below (length (columns g)));
  arrived = [];
  freed = [];
}

-- one line more, where lines ended so
abbrev pub with_line : GraphValue → (ℕ → End) → Past → ℕ → Past
with_line g ends past i = record {
  times = slice_set past.times i (Some past.clock);
  clock = past.clock + 1;
  back = all_back past.back i (columns_for g i (ends i));
  arrived = arrived_with past.arrived i (arrival_for g i (ends i));
  freed = freed_with past.freed i (frees g ends i);
}

abbrev pub past_from : GraphValue → (ℕ → End) → Past → List ℕ → Past
past_from g ends past [] = past
past_from g ends past (i ∷ is) = past_from g ends (with_line g ends past i) is

abbrev pub past_of : GraphValue → (ℕ → End) → List ℕ → Past
past_of g ends trace = past_from g ends (no_past g) trace

abbrev pub run_by : Past → List LineStage → List Place → List ℕ → List (List ℕ) → Run
run_by past stages places values holders = record {
  «stages» = stages;
  times = past.times;
  clock = past.clock;
  «places» = places;
  back = past.back;
  «values» = values;
  arrived = past.arrived;
  «holders» = holders;
  freed = past.freed;
}

-- the core that is shown
abbrev pub shown_core : Bool → GraphValue → List Progress → EventsValue → SharedValue → List ℕ → List ℕ → List Bool → List ℕ → CoreValue
shown_core hosted g stages events homes takers values holding trace = record {
  graph = g;
  run = run_by (past_of g (ends_so_far (map shown_stage stages)) trace) (map shown_stage stages) (places_of homes.columns takers) values (holders_by g holding);
  handles = events.handles;
  table = events.table;
  «hosted» = hosted;
  lendings = homes.lendings;
}

-- what holds besides of the columns
pub record AreKept (g : GraphValue) (homes : SharedValue) (takers : List ℕ) : Type 0 where
  pub each_home : length homes.columns ≡ length (columns g)
  pub each_taker : length takers ≡ length (columns g)
  pub spaces : (c : ℕ) (x : ColumnValue) → column_in homes c ≡ Some x → x.space ≡ column_space g c
