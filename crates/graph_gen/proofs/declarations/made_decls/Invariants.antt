use Rattle.std.proofs.Common.{◌≡◌, [], ◌∷◌, codes, map}
use Rattle.basics.specs.Lists.{numbers_below}
use Rattle.graph_terms.specs.declared.decl.Decl.TheVariants.{Space}
use Rattle.graph_gen.specs.MadeGraph.{column_decl}
use Rattle.graph_gen.proofs.declarations.made_decls.Given as goal

abbrev pub invariant-loop-column : goal.invariant-loop-column
invariant-loop-column l = l.decls.items ≡ Space (codes "s") ((0, 63) ∷ []) ∷ map column_decl (numbers_below l.column)
