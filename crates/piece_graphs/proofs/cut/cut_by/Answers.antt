use Rattle.piece_graphs.specs.Uncut.{unfit}
use Rattle.piece_graphs.proofs.cut.cut_by.Goals as goal

pub returns-in-None-clause-none : goal.returns-in-None-clause-none
returns-in-None-clause-none c = λ none.
    let are = c.requires.columns in
    unfit c.args.columns.unions.items c.args.columns.pieces.items are.pieces are.spaces are.once are.few_each are.order (λ fits. c.in_ok-cut.ensures.none c.in-None.is fits)
