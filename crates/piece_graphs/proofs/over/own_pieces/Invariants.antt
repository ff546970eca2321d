use Rattle.std.proofs.Common.{take}
use Rattle.piece_graphs.specs.Over.{AreOver}
use Rattle.piece_graphs.proofs.over.own_pieces.Given as goal

abbrev pub invariant-loop-part : goal.invariant-loop-part
invariant-loop-part l = AreOver l.graph l.column (take l.part-index l.own) l.initial.unions.items l.unions.items l.pieces.items
