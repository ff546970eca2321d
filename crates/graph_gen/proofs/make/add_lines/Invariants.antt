use Rattle.std.proofs.Common.{◌≡◌, ◌++◌, length}
use Rattle.std.specs.Vec.Iter.{into_iter_items, into_iter_len}
use Rattle.graph_terms.specs.Fits.{LinesFit}
use Rattle.graph_gen.proofs.make.add_lines.Given as goal

abbrev pub invariant-loop-line : goal.invariant-loop-line
invariant-loop-line l =
    (l.graph ≡ record { format = l.initial.graph.format; decls = l.initial.graph.decls; lines = l.initial.graph.lines ++ l.yielded })
    × LinesFit l.initial.graph.format l.initial.graph.decls (l.initial.graph.lines ++ l.yielded) (into_iter_items l.line-iterator)
    × (l.yielded ++ into_iter_items l.line-iterator ≡ into_iter_items l.initial.line-iterator)
    × (into_iter_len l.line-iterator ≡ length (into_iter_items l.line-iterator))
