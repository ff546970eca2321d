use Rattle.std.proofs.Common.{◌≡◌, ◌++◌, [], length}
use Rattle.std.specs.Vec.Iter.{into_iter_items, into_iter_len}
use Rattle.graph_terms.specs.declared.format.Format.TheVariants.{One}
use Rattle.graph_terms.specs.Fits.{DeclsFit}
use Rattle.graph_gen.proofs.declarations.declared.Given as goal

abbrev pub invariant-loop-decl : goal.invariant-loop-decl
invariant-loop-decl l =
    (l.graph ≡ record { format = One; decls = l.yielded; lines = [] })
    × DeclsFit One l.yielded (into_iter_items l.decl-iterator)
    × (l.yielded ++ into_iter_items l.decl-iterator ≡ into_iter_items l.initial.decl-iterator)
    × (into_iter_len l.decl-iterator ≡ length (into_iter_items l.decl-iterator))
