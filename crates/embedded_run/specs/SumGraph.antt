-- The graph that the program builds: two columns are filled, and then one is added to the other.
use Rattle.std.specs.Prelude.{List, [], ◌∷◌, None, Some, codes}
use Rattle.index_spaces.specs.declared.Op.TheVariants as op
use Rattle.graph_terms.specs.declared.decl.Decl.{Decl}
use Rattle.graph_terms.specs.declared.decl.Decl.TheVariants.{Space, Inst}
use Rattle.graph_terms.specs.declared.format.Format.TheVariants.{One}
use Rattle.graph_terms.specs.declared.verb.Line.{Line}
use Rattle.graph_terms.specs.declared.verb.Verb.TheVariants as verb
use Rattle.graph_terms.specs.Graph.{GraphValue}

-- a space of four points, and over it the columns 0 and 1
abbrev pub points_decl : Decl
points_decl = Space (codes "s") ((0, 3) ∷ [])

abbrev pub columns_decl : Decl
columns_decl = Inst (codes "a") 0 (codes "x" ∷ codes "y" ∷ [])

abbrev pub sum_decls : List Decl
sum_decls = points_decl ∷ columns_decl ∷ []

-- two fills, and once both have ended, column 0 is added to column 1
abbrev pub one_fill : Line
one_fill = record { name = codes "f"; verb = verb.Fill 0 0 20; on = [] }

abbrev pub other_fill : Line
other_fill = record { name = codes "g"; verb = verb.Fill 1 0 4; on = [] }

abbrev pub both_fills : Line
both_fills = record { name = codes "m"; verb = verb.Merge (0 ∷ 1 ∷ []); on = [] }

abbrev pub sum : Line
sum = record { name = codes "r"; verb = verb.Reduce op.Sum 0 1 0; on = 2 ∷ [] }

abbrev pub sum_lines : List Line
sum_lines = one_fill ∷ other_fill ∷ both_fills ∷ sum ∷ []

-- the graph with these lines
abbrev pub lined : List Line → GraphValue
lined lines = record { format = One; decls = sum_decls; «lines» = lines }

abbrev pub sum_graph : GraphValue
sum_graph = lined sum_lines
