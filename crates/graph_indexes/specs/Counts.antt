-- The quantities of a graph that have greatest values, and the lengths of words of its text.
use Rattle.std.specs.Prelude.{ℕ, ◌+◌, nat_lt, Bool, ◌&&◌, ◌||◌, List, length, filter, sum_by}
use Rattle.index_spaces.specs.Space.{space_size}
use Rattle.graph_indexes.specs.declared.counts.Counts.{Counts}
use Rattle.graph_terms.specs.declared.limits.TheConstants.{MAX_TEXT, MAX_SPACES}
use Rattle.graph_terms.specs.Limits.{limits}
use Rattle.graph_terms.specs.declared.format.Format.{Format}
use Rattle.graph_terms.specs.declared.decl.Decl.{Decl}
use Rattle.graph_terms.specs.Graph.{GraphValue, columns_of, named_spaces, columns, data_columns, locks, barriers, space_at}
use Rattle.graph_terms.specs.declared.decl.ColumnInfo.{ColumnInfo}
use Rattle.graph_terms.specs.Edges.{edges}
use Rattle.graph_terms.specs.Fits.{is_inst, cell_count}
use Rattle.graph_terms.specs.Spelling.{head}

-- the length of words, each with the byte behind it
abbrev pub words_size : List (List ℕ) → ℕ
words_size words = sum_by (λ w. length w + 1) words

-- the cells of the columns of a declaration
abbrev pub cells_of_decl : GraphValue → Decl → ℕ
cells_of_decl g d = sum_by (λ (c : ColumnInfo). space_size (space_at g c.space)) (columns_of d)

-- the quantities of a graph
abbrev pub counts_of : GraphValue → Counts
counts_of g = record {
  text = length (head g);
  spaces = length (named_spaces g);
  insts = length (filter is_inst g.decls);
  columns = length (columns g) + length (data_columns g);
  cells = cell_count g;
  locks = length (locks g);
  barriers = length (barriers g);
  lines = length g.lines;
  edges = length (edges g);
}

-- more spaces than a long text may declare
abbrev pub has_many_spaces : Counts → Bool
has_many_spaces c = nat_lt MAX_SPACES c.spaces && nat_lt MAX_TEXT c.text

-- a quantity is above its greatest value in a format
abbrev pub is_above : Format → Counts → Bool
is_above f c = nat_lt (limits f).text c.text || (has_many_spaces c || (nat_lt (limits f).insts c.insts || (nat_lt (limits f).columns c.columns
    || (nat_lt (limits f).cells c.cells || (nat_lt (limits f).locks c.locks || (nat_lt (limits f).barriers c.barriers
    || (nat_lt (limits f).lines c.lines || nat_lt (limits f).edges c.edges)))))))
