use Rattle.piece_graphs.proofs.Instances.{AreRuns}
use Rattle.piece_graphs.proofs.decls.with_pieces.Given as goal

abbrev pub invariant-loop-k : goal.invariant-loop-k
invariant-loop-k l = AreRuns l.cut l.fn.cut.decls l.pieces l.first l.k
