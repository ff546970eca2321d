use Rattle.piece_graphs.proofs.Items.{kept_step, kept_unfit}
use Rattle.piece_graphs.proofs.decls.kept_decls.Goals as goal

pub returns-then-not-branch-clause-none : goal.returns-then-not-branch-clause-none
returns-then-not-branch-clause-none c = λ none fits.
    kept_unfit c.loop-d.cut c.args.graph.now.decls c.loop-d.d c.decl.result.now c.decl.ensures.decl c.loop-d.invariant (c.in_ok-offer_kept.ensures.unfit c.if-not-branch.true) fits

pub loop-d-preserved : goal.loop-d-preserved
loop-d-preserved c = kept_step c.loop-d.cut c.offer_kept.new.graph c.args.graph.now.decls c.loop-d.d c.decl.result.now c.decl.ensures.decl c.loop-d.invariant (c.in_ok-offer_kept.ensures.fits c.if-not-branch.false)
