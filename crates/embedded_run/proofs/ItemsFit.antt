-- Each item of the graph of the sums fits after those before it.
use Rattle.std.proofs.Common.{◌≡◌, List, [], ◌∷◌, refl}
use Rattle.std.specs.Prelude.{None}
use Rattle.std.specs.Fmt.{digits}
use Rattle.graph_terms.specs.declared.decl.Decl.{Decl}
use Rattle.graph_terms.specs.declared.format.Format.TheVariants.{One}
use Rattle.graph_terms.specs.Graph.{GraphValue}
use Rattle.graph_terms.specs.Fits.{decl_fault, line_fault}
use Rattle.embedded_run.specs.SumGraph.{points_decl, columns_decl, lined, one_fill, other_fill, both_fills, sum}

-- the graph with these declarations
abbrev pub declared : List Decl → GraphValue
declared decls = record { format = One; «decls» = decls; lines = [] }

pub points_fit : decl_fault (declared []) points_decl ≡ None
unfolding digits
points_fit = refl

pub columns_fit : decl_fault (declared (points_decl ∷ [])) columns_decl ≡ None
unfolding digits
columns_fit = refl

pub one_fill_fits : line_fault (lined []) one_fill ≡ None
unfolding digits
one_fill_fits = refl

pub other_fill_fits : line_fault (lined (one_fill ∷ [])) other_fill ≡ None
unfolding digits
other_fill_fits = refl

pub both_fills_fit : line_fault (lined (one_fill ∷ other_fill ∷ [])) both_fills ≡ None
unfolding digits
both_fills_fit = refl

pub sum_fits : line_fault (lined (one_fill ∷ other_fill ∷ both_fills ∷ [])) sum ≡ None
unfolding digits
sum_fits = refl
