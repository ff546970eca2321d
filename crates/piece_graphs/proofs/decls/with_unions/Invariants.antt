use Rattle.std.proofs.Common.{◌≡◌, ◌++◌, take}
use Rattle.column_pieces.specs.Pieces.{union_decls}
use Rattle.piece_graphs.specs.Items.{of_decls}
use Rattle.piece_graphs.proofs.decls.with_unions.Given as goal

abbrev pub invariant-loop-k : goal.invariant-loop-k
invariant-loop-k l = l.cut ≡ of_decls (l.fn.cut.decls ++ take l.k (union_decls 0 l.unions))
