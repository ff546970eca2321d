-- What refuses a word in its place.
use Rattle.std.specs.Prelude.{ℕ, Bool, true, false, not, ◌&&◌, ◌||◌, List, [], ◌∷◌, is_some}
use Rattle.std.specs.Option.{option_map_or}
use Rattle.std.specs.List.{list_any}
use Rattle.std.specs.Str.{bytes_eq}
use Rattle.graph_terms.specs.declared.format.Format.{Format}
use Rattle.graph_terms.specs.declared.verb.Line.{Line}
use Rattle.graph_terms.specs.Name.{is_name_in}
use Rattle.graph_terms.specs.declared.decl.ColumnInfo.{ColumnInfo}
use Rattle.graph_terms.specs.declared.decl.BarrierInfo.{BarrierInfo}
use Rattle.graph_terms.specs.Graph.{GraphValue, named_spaces, columns, data_columns, locks, barriers, line_passes, is_user, is_phase, is_acquire, is_release_of, ends_user}
use Rattle.graph_terms.specs.Fits.{is_used, repeats}
use Rattle.graph_words.specs.Words.{pieces, value_of, count_of, weight_of, intervals_of, ascend_from, is_fields, is_column, first_piece}
use Rattle.graph_words.specs.Draft.{Place, NewName, SpaceName, LockName, BarrierName, UserName, PhaseName, AcquireName, EventName, CallName, Column, DataColumn, Fields, Value, Times, Weight, Shared, Count, Intervals, line_number}

-- a word that is not spelled as a name, as fields or as a column of a format, in the place of one
abbrev pub misnamed : Format → Place → List ℕ → Bool
misnamed format Column w = not (is_column format w)
misnamed format DataColumn w = not (is_column format w)
misnamed format Fields w = not (is_fields format w)
misnamed format Value w = false
misnamed format Times w = false
misnamed format Weight w = false
misnamed format Shared w = false
misnamed format Count w = false
misnamed format Intervals w = false
misnamed format _ w = not (is_name_in format w)

-- the names of instances
abbrev pub is_inst_name : GraphValue → List ℕ → Bool
is_inst_name g w = list_any (λ (x : ColumnInfo). bytes_eq x.inst w) (columns g)

abbrev pub has_column : GraphValue → List (List ℕ) → Bool
has_column g (inst ∷ field ∷ []) = list_any (λ (x : ColumnInfo). bytes_eq x.inst inst && bytes_eq x.field field) (columns g)
has_column g _ = false

-- the names of data
abbrev pub is_data_name : GraphValue → List ℕ → Bool
is_data_name g w = list_any (λ (x : ColumnInfo). bytes_eq x.inst w) (data_columns g)

abbrev pub has_data_column : GraphValue → List (List ℕ) → Bool
has_data_column g (owner ∷ field ∷ []) = list_any (λ (x : ColumnInfo). bytes_eq x.inst owner && bytes_eq x.field field) (data_columns g)
has_data_column g _ = false

-- the parts of a column's word name an instance or data, and a field that it has not
abbrev pub lacks_field : GraphValue → List (List ℕ) → Bool
lacks_field g ps = (is_inst_name g (first_piece ps) && not (has_column g ps)) || (is_data_name g (first_piece ps) && not (has_data_column g ps))

-- a name that is not declared, or a field that its instance or its data has not
abbrev pub unknown : GraphValue → Place → List ℕ → Bool
unknown g NewName w = false
unknown g Fields w = false
unknown g Value w = false
unknown g Times w = false
unknown g Weight w = false
unknown g Shared w = false
unknown g Count w = false
unknown g Intervals w = false
unknown g CallName w = false
unknown g Column w = not (is_used g (first_piece (pieces 46 w))) || lacks_field g (pieces 46 w)
unknown g DataColumn w = not (is_used g (first_piece (pieces 46 w))) || lacks_field g (pieces 46 w)
unknown g _ w = not (is_used g w)

abbrev pub is_line_name : GraphValue → List ℕ → Bool
is_line_name g w = list_any (λ (l : Line). bytes_eq l.name w) g.lines

-- a new name that is in use, one field twice, a user event that is ended already, or an acquire that is released already
abbrev pub twice : GraphValue → Place → List ℕ → Bool
twice g NewName w = is_used g w
twice g Fields w = repeats bytes_eq (pieces 44 w)
twice g UserName w = is_line_name g w && list_any (λ (l : Line). ends_user (line_number g w) l.verb) g.lines
twice g AcquireName w = is_line_name g w && list_any (λ (l : Line). is_release_of (line_number g w) l.verb) g.lines
twice g _ w = false

-- a name that was declared as another kind than its place takes
abbrev pub unlike : GraphValue → Place → List ℕ → Bool
unlike g SpaceName w = not (list_any (λ (x : List ℕ × List (ℕ × ℕ)). bytes_eq x.0 w) (named_spaces g))
unlike g LockName w = not (list_any (bytes_eq w) (locks g))
unlike g BarrierName w = not (list_any (λ (x : BarrierInfo). bytes_eq x.name w) (barriers g))
unlike g UserName w = not (is_line_name g w && line_passes is_user g (line_number g w))
unlike g PhaseName w = not (is_line_name g w && line_passes is_phase g (line_number g w))
unlike g AcquireName w = not (is_line_name g w && line_passes is_acquire g (line_number g w))
unlike g EventName w = not (is_line_name g w)
unlike g Column w = not (is_inst_name g (first_piece (pieces 46 w)))
unlike g DataColumn w = not (is_data_name g (first_piece (pieces 46 w)))
unlike g _ w = false

-- a word that is not spelled as the number, the weight, the count or the intervals that its place takes in a format
abbrev pub misnumbered : Format → Place → List ℕ → Bool
misnumbered format Value w = not (is_some (value_of w))
misnumbered format Weight w = not (is_some (weight_of format w))
misnumbered format Count w = not (is_some (count_of format w))
misnumbered format Intervals w = not (is_some (intervals_of w))
misnumbered format _ w = false

-- intervals that are reversed, that touch or that do not ascend
abbrev pub misordered : Place → List ℕ → Bool
misordered Intervals w = not (option_map_or (ascend_from 0) (intervals_of w) true)
misordered _ w = false
