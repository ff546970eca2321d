-- What a graph keeps beside its declarations to answer by number.
use Rattle.std.specs.Prelude.{ℕ, ◌+◌, ◌≤◌, List, [], ◌∷◌, ◌++◌, length, filter, filter_map, flat_map, Option, option_map}
use Rattle.std.specs.List.{cons_option}
use Rattle.graph_terms.specs.declared.limits.TheConstants.{MAX_TEXT_OF_THREE, MAX_INSTS_OF_THREE, MAX_COLUMNS_OF_THREE, MAX_CELLS_OF_THREE, MAX_LOCKS_OF_THREE, MAX_BARRIERS_OF_THREE, MAX_LINES_OF_THREE, MAX_EDGES_OF_THREE}
use Rattle.graph_terms.specs.declared.decl.Decl.{Decl}
use Rattle.graph_terms.specs.Graph.{GraphValue, space_of, columns_of, data_columns_of, lock_of, barrier_of, named_spaces, columns, data_columns, locks, barriers}
use Rattle.graph_terms.specs.declared.decl.ColumnInfo.{ColumnInfo}
use Rattle.graph_terms.specs.declared.decl.BarrierInfo.{BarrierInfo}
use Rattle.graph_terms.specs.Edges.{edges}
use Rattle.graph_terms.specs.Fits.{is_inst, cell_count}
use Rattle.graph_terms.specs.Spelling.{head}

-- where the spaces stand among the declarations, how many columns of instances and of data are before each declaration, and these columns, the
-- reservations and the barriers
pub record TablesValue : Type 0 where
  pub space_places : List ℕ
  pub first_columns : List ℕ
  pub column_infos : List ColumnInfo
  pub first_data_columns : List ℕ
  pub data_infos : List ColumnInfo
  pub lock_names : List (List ℕ)
  pub barrier_infos : List BarrierInfo

-- the places of the items of which f gives something, the first item standing at place n
abbrev pub places_of : {X Y : Type 0} → (X → Option Y) → ℕ → List X → List ℕ
places_of f n [] = []
places_of f n (x ∷ xs) = cons_option (option_map (λ y. n) (f x)) (places_of f (n + 1) xs)

-- how many columns are before each declaration, the first having n before it, where f gives the columns of a declaration
abbrev pub firsts_of : (Decl → List ColumnInfo) → ℕ → List Decl → List ℕ
firsts_of f n [] = []
firsts_of f n (d ∷ ds) = n ∷ firsts_of f (n + length (f d)) ds

-- the tables of declarations
abbrev pub tables_of : List Decl → TablesValue
tables_of ds = record {
  space_places = places_of space_of 0 ds;
  first_columns = firsts_of columns_of 0 ds;
  column_infos = flat_map columns_of ds;
  first_data_columns = firsts_of data_columns_of 0 ds;
  data_infos = flat_map data_columns_of ds;
  lock_names = filter_map lock_of ds;
  barrier_infos = filter_map barrier_of ds;
}

-- the tables with what a declaration at this place brings
abbrev pub items_with : TablesValue → Decl → ℕ → TablesValue
items_with t d place = record {
  space_places = t.space_places ++ places_of space_of place (d ∷ []);
  first_columns = t.first_columns;
  column_infos = t.column_infos ++ columns_of d;
  first_data_columns = t.first_data_columns;
  data_infos = t.data_infos ++ data_columns_of d;
  lock_names = t.lock_names ++ filter_map lock_of (d ∷ []);
  barrier_infos = t.barrier_infos ++ filter_map barrier_of (d ∷ []);
}

-- the tables with those of a declaration at this place
abbrev pub tables_with : TablesValue → Decl → ℕ → TablesValue
tables_with t d place = record {
  space_places = t.space_places ++ places_of space_of place (d ∷ []);
  first_columns = t.first_columns ++ length t.column_infos ∷ [];
  column_infos = t.column_infos ++ columns_of d;
  first_data_columns = t.first_data_columns ++ length t.data_infos ∷ [];
  data_infos = t.data_infos ++ data_columns_of d;
  lock_names = t.lock_names ++ filter_map lock_of (d ∷ []);
  barrier_infos = t.barrier_infos ++ filter_map barrier_of (d ∷ []);
}

-- the numbers of a graph are within the limits of format 3, which allows the most
pub record IsWithinLimits (g : GraphValue) : Type 0 where
  pub few_decls : length g.decls ≤ MAX_TEXT_OF_THREE
  pub few_lines : length g.lines ≤ MAX_LINES_OF_THREE
  pub few_spaces : length (named_spaces g) ≤ MAX_TEXT_OF_THREE
  pub few_columns : length (columns g) + length (data_columns g) ≤ MAX_COLUMNS_OF_THREE
  pub few_locks : length (locks g) ≤ MAX_LOCKS_OF_THREE
  pub few_barriers : length (barriers g) ≤ MAX_BARRIERS_OF_THREE
  pub short_text : length (head g) ≤ MAX_TEXT_OF_THREE
  pub few_insts : length (filter is_inst g.decls) ≤ MAX_INSTS_OF_THREE
  pub few_cells : cell_count g ≤ MAX_CELLS_OF_THREE
  pub few_edges : length (edges g) ≤ MAX_EDGES_OF_THREE
