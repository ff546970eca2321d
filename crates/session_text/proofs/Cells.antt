-- The cells of all columns of a graph, column by column.
use Rattle.std.proofs.Common.{◌≡◌, ℕ, ◌+◌, ◌<◌, ◌≤◌, [], length, take, sym, ◌∙◌, ap, take_all, get_or}
use Rattle.std.specs.Prelude.{sum_by}
use Rattle.std.specs.Option.{option_map_or}
use Rattle.std.proofs.lemmas.List.Sums.{sum_by_more}
use Rattle.std.proofs.lemmas.Option.{slice_get-get_or}
use Rattle.index_spaces.specs.Space.{space_size}
use Rattle.graph_terms.specs.declared.decl.ColumnInfo.{ColumnInfo}
use Rattle.graph_terms.specs.Graph.{GraphValue, columns, column_space, space_at}
use Rattle.graph_terms.specs.Fits.{cell_count}

-- the cells of a column
abbrev pub column_cells : GraphValue → ColumnInfo → ℕ
column_cells g c = space_size (space_at g c.space)

nothing : ColumnInfo
nothing = record { inst = []; field = []; space = 0 }

pub one_column : (g : GraphValue) (c cells more : ℕ) → c < length (columns g) → cells ≡ sum_by (column_cells g) (take c (columns g)) → more ≡ space_size (column_space g c) → cells + more ≡ sum_by (column_cells g) (take (c + 1) (columns g))
one_column g c cells more h so_far size =
    let x : ColumnInfo = get_or (columns g) c nothing in
    let at : column_space g c ≡ space_at g x.space = ap (λ o. option_map_or (λ (y : ColumnInfo). space_at g y.space) o []) (slice_get-get_or (columns g) c nothing h) in
    ap (λ n. n + more) so_far ∙ (ap (λ n. sum_by (column_cells g) (take c (columns g)) + n) (size ∙ ap space_size at) ∙ sym (sum_by_more (column_cells g) (columns g) c nothing h))

pub all_columns : (g : GraphValue) (c cells : ℕ) → length (columns g) ≤ c → cells ≡ sum_by (column_cells g) (take c (columns g)) → cells ≡ cell_count g
all_columns g c cells h e = e ∙ ap (sum_by (column_cells g)) (take_all c (columns g) h)
