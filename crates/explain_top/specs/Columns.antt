-- What is told of the columns that a refused line names.
use Rattle.std.specs.Prelude.{ℕ, ◌-◌, nat_le, Bool, true, false, List, [], ◌++◌, length, drop, codes, Option, Some, None, position}
use Rattle.std.specs.Option.{option_map_or}
use Rattle.std.specs.List.{slice_index_or}
use Rattle.graph_terms.specs.declared.why.Why.{Why}
use Rattle.graph_terms.specs.declared.why.Why.TheVariants as reasons
use Rattle.graph_terms.specs.Graph.{GraphValue, columns}
use Rattle.graph_terms.specs.Names.{is_column_named}
use Rattle.graph_model.specs.Columns.{all_columns}
use Rattle.graph_words.specs.Words.{pieces}
use Rattle.graph_words.specs.Cuts.{two_pieces}
use Rattle.refused_words.specs.Meets.{met_word}
use Rattle.explain_top.specs.Fields.{fields_of}

-- the number of the column of these names, among those of instances and, behind them, those of data
abbrev pub column_number : GraphValue → List ℕ → List ℕ → Option ℕ
column_number g owner field = position (is_column_named owner field) (all_columns g)

-- of which kind a column is, by whether it is one of data
abbrev pub kind_words : Bool → List ℕ
kind_words false = codes " is a column of an instance, and calls use columns of data alone\n"
kind_words true = codes " is a column of data, which calls alone use\n"

-- the same of a word that names the column of this number, where so many are of instances
abbrev pub kind_text : ℕ → List ℕ → Option ℕ → List ℕ
kind_text n w None = []
kind_text n w (Some c) = w ++ kind_words (nat_le n c)

-- and of a word that may name one
abbrev pub kind_of : GraphValue → List ℕ → List ℕ
kind_of g w = option_map_or (λ (p : List ℕ × List ℕ). kind_text (length (columns g)) w (column_number g p.0 p.1)) (two_pieces (pieces 46 w)) []

-- the words of an access, which these words begin with
abbrev pub access_text : List (List ℕ) → List ℕ
access_text ws = slice_index_or ws 0 [] ++ (codes " " ++ (slice_index_or ws 1 [] ++ (codes " " ++ slice_index_or ws 2 [])))

-- of the access whose column is word k: its mode stands before that
abbrev pub told_access : List (List ℕ) → ℕ → List ℕ
told_access ws k = access_text (drop (k - 1) ws)

-- how the accesses of words j and k have to be, where there is such a j
abbrev pub meeting_text : List (List ℕ) → ℕ → Option ℕ → List ℕ
meeting_text ws k None = []
meeting_text ws k (Some j) = told_access ws j ++ (codes " and " ++ (told_access ws k ++ codes " share a point: one of the two has to only read, and neither may reduce\n"))

-- of a column that is refused: the fields that its instance or its data has, where none of them is named; of which kind it is, where its place takes one of the other kind; and the access that the one of it meets
abbrev pub columns_text : GraphValue → List (List ℕ) → Why → Option ℕ → List ℕ
columns_text g ws reasons.Unknown (Some k) = fields_of g (slice_index_or ws k [])
columns_text g ws reasons.Kind (Some k) = kind_of g (slice_index_or ws k [])
columns_text g ws reasons.Meets (Some k) = meeting_text ws k (met_word g ws k)
columns_text g ws _ mark = []
