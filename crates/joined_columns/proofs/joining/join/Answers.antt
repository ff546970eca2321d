use Rattle.std.proofs.Common.{◌≡◌, ◌∙◌, sym, ap, subst, map}
use Rattle.column_pieces.specs.Pieces.{ArePieces, cut_of}
use Rattle.joined_columns.specs.Over.{AreOver}
use Rattle.joined_columns.proofs.joining.join.Goals as goal

pub joined_columns-requires-clause-pieces : goal.joined_columns-requires-clause-pieces
joined_columns-requires-clause-pieces c =
    subst (λ us. ArePieces c.args.graph.now us c.deref-2.result.now) (sym c.deref.ensures.value)
    (subst (ArePieces c.args.graph.now c.args.cut.now.unions.items) (sym c.deref-2.ensures.value) c.requires.pieces)

pub joined_columns-requires-clause-over : goal.joined_columns-requires-clause-over
joined_columns-requires-clause-over c =
    subst (λ us. AreOver c.args.graph.now us c.deref-2.result.now c.args.outcome.columns) (sym c.deref.ensures.value)
    (subst (λ ps. AreOver c.args.graph.now c.args.cut.now.unions.items ps c.args.outcome.columns) (sym c.deref-2.ensures.value) c.requires.over)
