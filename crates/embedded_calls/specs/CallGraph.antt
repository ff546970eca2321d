-- The graph that the program builds: three calls on two columns of data, each behind the one before it.
use Rattle.std.specs.Prelude.{List, [], ◌∷◌, codes}
use Rattle.graph_terms.specs.declared.decl.Decl.{Decl}
use Rattle.graph_terms.specs.declared.decl.Decl.TheVariants.{Space, Data}
use Rattle.graph_terms.specs.declared.format.Format.TheVariants.{Three}
use Rattle.graph_terms.specs.declared.verb.Access.{Access}
use Rattle.graph_terms.specs.declared.verb.Line.{Line}
use Rattle.graph_terms.specs.declared.verb.Mode.TheVariants.{Write}
use Rattle.graph_terms.specs.declared.verb.Verb.TheVariants.{Call}
use Rattle.graph_terms.specs.Access.{access}
use Rattle.graph_terms.specs.Graph.{GraphValue}

-- a space of one point, and over it the columns of data 0 and 1
abbrev pub point_decl : Decl
point_decl = Space (codes "s") ((0, 0) ∷ [])

abbrev pub accounts_decl : Decl
accounts_decl = Data (codes "a") 0 (codes "x" ∷ codes "y" ∷ [])

abbrev pub call_decls : List Decl
call_decls = point_decl ∷ accounts_decl ∷ []

abbrev pub of_x : Access
of_x = access 0 0 Write

abbrev pub of_y : Access
of_y = access 1 0 Write

-- the first account is halved, then an amount is moved to the other, and then the other is doubled
abbrev pub halve_line : Line
halve_line = record { name = codes "h"; verb = Call (record { word = codes "halve"; values = []; accesses = of_x ∷ [] }); on = [] }

abbrev pub move_line : Line
move_line = record { name = codes "m"; verb = Call (record { word = codes "move"; values = 15 ∷ []; accesses = of_x ∷ of_y ∷ [] }); on = 0 ∷ [] }

abbrev pub double_line : Line
double_line = record { name = codes "d"; verb = Call (record { word = codes "double"; values = []; accesses = of_y ∷ [] }); on = 1 ∷ [] }

-- the graph with these lines
abbrev pub with_calls : List Line → GraphValue
with_calls lines = record { format = Three; decls = call_decls; «lines» = lines }

abbrev pub call_graph : GraphValue
call_graph = with_calls (halve_line ∷ move_line ∷ double_line ∷ [])
