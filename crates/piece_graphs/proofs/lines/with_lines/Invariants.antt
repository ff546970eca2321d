use Rattle.std.proofs.Common.{◌≡◌}
use Rattle.column_pieces.specs.Pieces.{named_at, decls_of_pieces}
use Rattle.piece_graphs.proofs.Items.{so_far}
use Rattle.piece_graphs.proofs.lines.with_lines.Given as goal

abbrev pub invariant-loop-i : goal.invariant-loop-i
invariant-loop-i l = l.cut ≡ so_far (named_at l.graph l.columns.unions.items l.columns.pieces.items) (decls_of_pieces l.graph l.columns.unions.items l.columns.pieces.items) l.graph.lines l.i
