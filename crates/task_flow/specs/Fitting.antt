-- Lines that fit a graph one after the other, unless it passes a limit.
use Rattle.std.specs.Prelude.{◌≡◌, cond, List, [], ◌∷◌, ◌++◌, Some, None, IsTrue}
use Rattle.graph_terms.specs.declared.decl.Decl.{Decl}
use Rattle.graph_terms.specs.declared.format.Format.{Format}
use Rattle.graph_terms.specs.declared.verb.Line.{Line}
use Rattle.graph_terms.specs.declared.why.Why.TheVariants.{Limit}
use Rattle.graph_terms.specs.Graph.{GraphValue}
use Rattle.graph_terms.specs.Name.{is_name_in}
use Rattle.graph_terms.specs.Fits.{is_beyond, line_fault}

abbrev pub with_lines : GraphValue → List Line → GraphValue
with_lines g ls = record { format = g.format; decls = g.decls; lines = g.lines ++ ls }

abbrev pub lined : Format → List Decl → List Line → GraphValue
lined fm decls ls = record { format = fm; decls = decls; lines = ls }

-- each line after those before it fits, or is refused for the limit that the graph passes with it; and its name is one of the format
abbrev pub AreToFit : Format → List Decl → List Line → List Line → Type 0
AreToFit fm decls before [] = Unit {0}
AreToFit fm decls before (l ∷ ls) = (line_fault (lined fm decls before) l ≡ cond (is_beyond (lined fm decls (before ++ l ∷ []))) (Some Limit) None) × AreToFit fm decls (before ++ l ∷ []) ls × IsTrue (is_name_in fm l.name)
