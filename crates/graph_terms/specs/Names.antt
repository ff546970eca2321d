-- What a name stands for in a graph.
use Rattle.std.specs.Prelude.{◌≡◌, ℕ, Bool, ◌&&◌, List, length, Some, position}
use Rattle.std.specs.Str.{bytes_eq}
use Rattle.graph_terms.specs.declared.decl.Decl.{Decl}
use Rattle.graph_terms.specs.declared.decl.Decl.TheVariants.{Space, Inst, Data, Lock, Barrier}
use Rattle.graph_terms.specs.declared.found.Found.{Found}
use Rattle.graph_terms.specs.declared.found.Found.TheVariants as found
use Rattle.graph_terms.specs.declared.verb.Line.{Line}
use Rattle.graph_terms.specs.Graph.{GraphValue, decl_name, named_spaces, locks, barriers}
use Rattle.graph_terms.specs.declared.decl.ColumnInfo.{ColumnInfo}
use Rattle.graph_terms.specs.declared.decl.BarrierInfo.{BarrierInfo}
use Rattle.graph_terms.specs.Fits.{is_inst, is_data}

-- an instance of this name
abbrev pub is_inst_named : List ℕ → Decl → Bool
is_inst_named name d = is_inst d && bytes_eq (decl_name d) name

-- data of this name
abbrev pub is_data_named : List ℕ → Decl → Bool
is_data_named name d = is_data d && bytes_eq (decl_name d) name

-- a column of this instance, or of this data, and this field
abbrev pub is_column_named : List ℕ → List ℕ → ColumnInfo → Bool
is_column_named inst field x = bytes_eq x.inst inst && bytes_eq x.field field

-- the first item of this name is this one
abbrev pub StandsFor : GraphValue → List ℕ → Found → Type 0
StandsFor g name (found.Space s) = position (λ (x : List ℕ × List (ℕ × ℕ)). bytes_eq x.0 name) (named_spaces g) ≡ Some s
StandsFor g name (found.Inst d) = position (is_inst_named name) g.decls ≡ Some d
StandsFor g name (found.Data d) = position (is_data_named name) g.decls ≡ Some d
StandsFor g name (found.Lock l) = position (bytes_eq name) (locks g) ≡ Some l
StandsFor g name (found.Barrier b) = position (λ (x : BarrierInfo). bytes_eq x.name name) (barriers g) ≡ Some b
StandsFor g name (found.Line i) = position (λ (x : Line). bytes_eq x.name name) g.lines ≡ Some i

-- what the name of the next declaration stands for
abbrev pub found_decl : GraphValue → Decl → Found
found_decl g (Space name space) = found.Space (length (named_spaces g))
found_decl g (Inst name space fields) = found.Inst (length g.decls)
found_decl g (Data name space fields) = found.Data (length g.decls)
found_decl g (Lock name) = found.Lock (length (locks g))
found_decl g (Barrier name count op first) = found.Barrier (length (barriers g))
