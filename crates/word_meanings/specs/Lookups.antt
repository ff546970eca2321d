-- What a word stands for in a graph.
use Rattle.std.specs.Prelude.{◌≡◌, ℕ, Bool, true, false, cond, ◌&&◌, List, [], ◌∷◌, flat_map, Option, Some, None, is_some, position, IsTrue, MatchOption}
use Rattle.std.specs.Str.{bytes_eq}
use Rattle.graph_terms.specs.declared.decl.ColumnInfo.{ColumnInfo}
use Rattle.graph_terms.specs.declared.decl.BarrierInfo.{BarrierInfo}
use Rattle.graph_terms.specs.declared.decl.Decl.{Decl}
use Rattle.graph_terms.specs.declared.found.Found.{Found}
use Rattle.graph_terms.specs.declared.found.Found.TheVariants as found
use Rattle.graph_terms.specs.declared.verb.Line.{Line}
use Rattle.graph_terms.specs.declared.table.Place.{Place}
use Rattle.graph_terms.specs.declared.table.Place.TheVariants as places
use Rattle.std.specs.Option.{option_map_or}
use Rattle.std.specs.List.{list_any}
use Rattle.graph_terms.specs.Graph.{GraphValue, columns_of, data_columns_of, named_spaces, locks, barriers, line_passes, is_user, is_phase, is_acquire, is_release_of, ends_user}
use Rattle.graph_terms.specs.Fits.{is_used}
use Rattle.graph_terms.specs.declared.format.Format.{Format}
use Rattle.graph_terms.specs.Name.{is_name_in}
use Rattle.word_meanings.specs.WordFaults.{is_inst_name, is_data_name}
use Rattle.graph_words.specs.Words.{pieces}
use Rattle.graph_words.specs.Cuts.{two_pieces}

-- a word as a name of a format, where it is spelled as one
abbrev pub NameOf : Format → List ℕ → Option (List ℕ) → Type 0
NameOf format w o = MatchOption o (is_name_in format w ≡ false) (λ name. (name ≡ w) × IsTrue (is_name_in format w))

-- the number of the thing that was found, where it is of one kind
abbrev pub found_space : Option Found → Option ℕ
found_space None = None
found_space (Some (found.Space s)) = Some s
found_space (Some (found.Inst d)) = None
found_space (Some (found.Data d)) = None
found_space (Some (found.Lock l)) = None
found_space (Some (found.Barrier b)) = None
found_space (Some (found.Line i)) = None

abbrev pub found_lock : Option Found → Option ℕ
found_lock None = None
found_lock (Some (found.Space s)) = None
found_lock (Some (found.Inst d)) = None
found_lock (Some (found.Data d)) = None
found_lock (Some (found.Lock l)) = Some l
found_lock (Some (found.Barrier b)) = None
found_lock (Some (found.Line i)) = None

abbrev pub found_barrier : Option Found → Option ℕ
found_barrier None = None
found_barrier (Some (found.Space s)) = None
found_barrier (Some (found.Inst d)) = None
found_barrier (Some (found.Data d)) = None
found_barrier (Some (found.Lock l)) = None
found_barrier (Some (found.Barrier b)) = Some b
found_barrier (Some (found.Line i)) = None

abbrev pub found_line : Option Found → Option ℕ
found_line None = None
found_line (Some (found.Space s)) = None
found_line (Some (found.Inst d)) = None
found_line (Some (found.Data d)) = None
found_line (Some (found.Lock l)) = None
found_line (Some (found.Barrier b)) = None
found_line (Some (found.Line i)) = Some i

abbrev pub is_found_inst : Option Found → Bool
is_found_inst None = false
is_found_inst (Some (found.Space s)) = false
is_found_inst (Some (found.Inst d)) = true
is_found_inst (Some (found.Data d)) = false
is_found_inst (Some (found.Lock l)) = false
is_found_inst (Some (found.Barrier b)) = false
is_found_inst (Some (found.Line i)) = false

abbrev pub is_found_data : Option Found → Bool
is_found_data None = false
is_found_data (Some (found.Space s)) = false
is_found_data (Some (found.Inst d)) = false
is_found_data (Some (found.Data d)) = true
is_found_data (Some (found.Lock l)) = false
is_found_data (Some (found.Barrier b)) = false
is_found_data (Some (found.Line i)) = false

-- whether what was found has columns: data where the host keeps their memory, else an instance
abbrev pub is_found_owner : Bool → Option Found → Bool
is_found_owner false o = is_found_inst o
is_found_owner true o = is_found_data o

-- the number of the thing that was found, where it is of the kind that the place takes
abbrev pub found_number : Place → Option Found → Option ℕ
found_number places.Space o = found_space o
found_number places.Lock o = found_lock o
found_number places.Barrier o = found_barrier o
found_number places.Value o = None
found_number places.Times o = None
found_number places.Weight o = None
found_number places.Shared o = None
found_number (places.Column mode over) o = None
found_number p o = found_line o

-- whether the line that was found is ended already, or released already
abbrev pub found_twice : GraphValue → Place → Option Found → Bool
found_twice g places.User o = option_map_or (λ i. list_any (λ (l : Line). ends_user i l.verb) g.lines) (found_line o) false
found_twice g places.Acquire o = option_map_or (λ i. list_any (λ (l : Line). is_release_of i l.verb) g.lines) (found_line o) false
found_twice g p o = false

-- whether the line that was found is of the kind that the place takes
abbrev pub found_alike : GraphValue → Place → Option Found → Bool
found_alike g places.User o = option_map_or (line_passes is_user g) (found_line o) false
found_alike g places.Phase o = option_map_or (line_passes is_phase g) (found_line o) false
found_alike g places.Acquire o = option_map_or (line_passes is_acquire g) (found_line o) false
found_alike g p o = is_some (found_number p o)

-- what a word stands for: one thing of one kind at most
pub record IsFound (g : GraphValue) (w : List ℕ) (o : Option Found) : Type 0 where
  pub used : is_used g w ≡ is_some o
  pub space : position (λ (x : List ℕ × List (ℕ × ℕ)). bytes_eq x.0 w) (named_spaces g) ≡ found_space o
  pub lock : position (bytes_eq w) (locks g) ≡ found_lock o
  pub barrier : position (λ (x : BarrierInfo). bytes_eq x.name w) (barriers g) ≡ found_barrier o
  pub line : position (λ (x : Line). bytes_eq x.name w) g.lines ≡ found_line o
  pub inst : is_inst_name g w ≡ is_found_inst o
  pub hosted : is_data_name g w ≡ is_found_data o

-- the columns of a declaration that is an instance, or of one of data, of which the host keeps the memory
abbrev pub own_columns : Bool → Decl → List ColumnInfo
own_columns false = columns_of
own_columns true = data_columns_of

-- the columns of instances, or those of data
abbrev pub kept_columns : Bool → GraphValue → List ColumnInfo
kept_columns hosted g = flat_map (own_columns hosted) g.decls

-- the column that two names stand for
abbrev pub column_place : GraphValue → Bool → List (List ℕ) → Option ℕ
column_place g hosted (owner ∷ field ∷ []) = position (λ (x : ColumnInfo). bytes_eq x.inst owner && bytes_eq x.field field) (kept_columns hosted g)
column_place g hosted _ = None

-- two words that are names of a format
abbrev pub named_pair : Format → Option (List ℕ × List ℕ) → Option (List ℕ × List ℕ)
named_pair format None = None
named_pair format (Some (a, b)) = cond (is_name_in format a && is_name_in format b) (Some (a, b)) None

-- the names that a word in the place of a column has
unfoldable pub column_names : Format → List ℕ → Option (List ℕ × List ℕ)
column_names format w = named_pair format (two_pieces (pieces 46 w))
