use Rattle.std.proofs.Common.{◌≡◌, take, []}
use Rattle.graph_copies.proofs.decls.declared.Given as goal

abbrev pub invariant-loop-d : goal.invariant-loop-d
invariant-loop-d l = l.copy ≡ record { format = l.graph.format; decls = take l.d l.graph.decls; lines = [] }
