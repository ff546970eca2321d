-- The fields of an instance, or of data, of which a line names a column that it has not.
use Rattle.std.specs.Prelude.{ℕ, ◌==◌, cond, List, [], ◌++◌, length, flat_map, codes}
use Rattle.std.specs.List.{slice_index_or}
use Rattle.std.specs.Str.{bytes_eq}
use Rattle.graph_terms.specs.declared.decl.ColumnInfo.{ColumnInfo}
use Rattle.graph_terms.specs.Graph.{GraphValue}
use Rattle.graph_model.specs.Columns.{all_columns}
use Rattle.graph_words.specs.Words.{pieces}

-- the field of a column of one owner, where that is this one
abbrev pub field_in : List ℕ → List ℕ → List ℕ → List ℕ
field_in owner of field = cond (bytes_eq of owner) (codes " " ++ field) []

abbrev pub field_of : List ℕ → ColumnInfo → List ℕ
field_of owner c = field_in owner c.inst c.field

-- these fields, where there are some
abbrev pub said_fields : List ℕ → List ℕ → List ℕ
said_fields owner fields = cond (length fields == 0) [] (codes "the fields of " ++ (owner ++ (codes " are" ++ (fields ++ codes "\n"))))

abbrev pub owner_fields : GraphValue → List ℕ → List ℕ
owner_fields g owner = said_fields owner (flat_map (field_of owner) (all_columns g))

-- those of the instance, or of the data, of which a word names a column
abbrev pub fields_of : GraphValue → List ℕ → List ℕ
fields_of g w = owner_fields g (slice_index_or (pieces 46 w) 0 [])
