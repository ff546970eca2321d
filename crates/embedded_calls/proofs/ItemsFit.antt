-- Each item of the graph fits after those before it.
use Rattle.std.proofs.Common.{◌≡◌, List, [], ◌∷◌, refl}
use Rattle.std.specs.Prelude.{None}
use Rattle.std.specs.Fmt.{digits}
use Rattle.graph_terms.specs.declared.decl.Decl.{Decl}
use Rattle.graph_terms.specs.declared.format.Format.TheVariants.{Three}
use Rattle.graph_terms.specs.Graph.{GraphValue}
use Rattle.graph_terms.specs.Fits.{decl_fault, line_fault}
use Rattle.embedded_calls.specs.CallGraph.{point_decl, accounts_decl, halve_line, move_line, double_line, with_calls}

-- the graph with these declarations
abbrev pub declared : List Decl → GraphValue
declared decls = record { format = Three; «decls» = decls; lines = [] }

pub point_fits : decl_fault (declared []) point_decl ≡ None
unfolding digits
point_fits = refl

pub accounts_fit : decl_fault (declared (point_decl ∷ [])) accounts_decl ≡ None
unfolding digits
accounts_fit = refl

pub halve_fits : line_fault (with_calls []) halve_line ≡ None
unfolding digits
halve_fits = refl

pub move_fits : line_fault (with_calls (halve_line ∷ [])) move_line ≡ None
unfolding digits
move_fits = refl

pub double_fits : line_fault (with_calls (halve_line ∷ move_line ∷ [])) double_line ≡ None
unfolding digits
double_fits = refl
