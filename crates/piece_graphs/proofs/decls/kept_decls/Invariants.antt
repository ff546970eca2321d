use Rattle.std.proofs.Common.{◌≡◌, take}
use Rattle.std.specs.Prelude.{filter}
use Rattle.column_pieces.specs.Pieces.{is_kept}
use Rattle.piece_graphs.specs.Items.{of_decls}
use Rattle.piece_graphs.proofs.decls.kept_decls.Given as goal

abbrev pub invariant-loop-d : goal.invariant-loop-d
invariant-loop-d l = l.cut ≡ of_decls (filter is_kept (take l.d l.graph.decls))
