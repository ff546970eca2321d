use Rattle.std.proofs.Common.{take}
use Rattle.piece_graphs.proofs.Owned.{AreFirst}
use Rattle.piece_graphs.proofs.over.pieces_over.Given as goal

abbrev pub invariant-loop-column : goal.invariant-loop-column
invariant-loop-column l = AreFirst l.graph (take l.column l.parts) l.unions.items l.lists.items
