use Rattle.std.proofs.Common.{◌≡◌, ◌∙◌, refl, sym, ap, length, append-nil, arith}
use Rattle.std.specs.Prelude.{Some, slice_get}
use Rattle.std.proofs.lemmas.Option.{slice_get_read}
use Rattle.graph_terms.specs.Graph.{GraphValue}
use Rattle.piece_graphs.specs.Items.{of_decls}
use Rattle.piece_graphs.proofs.Items.{union_next, union_refused, unions_all}
use Rattle.piece_graphs.proofs.decls.with_unions.Goals as goal

pub loop-k-init : goal.loop-k-init
loop-k-init c = c.requires ∙ ap of_decls (sym (append-nil c.args.cut.decls))

pub offer_decl-requires-clause-three : goal.offer_decl-requires-clause-three
offer_decl-requires-clause-three c = ap (λ (x : GraphValue). x.format) c.loop-k.invariant

pub offer_decl-requires-clause-first : goal.offer_decl-requires-clause-first
offer_decl-requires-clause-first c = ap (λ (x : GraphValue). x.lines) c.loop-k.invariant

pub returns-then-not-branch-clause-none : goal.returns-then-not-branch-clause-none
returns-then-not-branch-clause-none c = λ none fits.
    let us = c.args.unions.now in
    let t = c.index-unions-k.result in
    let at : slice_get us c.loop-k.k ≡ Some t = slice_get_read us (length us) c.loop-k.k t refl (omega (arith, c.loop-k-test.true)) c.index-unions-k.is in
    union_refused c.loop-k.cut c.args.cut.decls us c.loop-k.k t c.in_ok-decl.decl at c.loop-k.invariant c.in_ok-decl.ensures (c.in_ok-offer_decl.ensures.unfit c.if-not-branch.true) fits

pub loop-k-preserved : goal.loop-k-preserved
loop-k-preserved c =
    let us = c.args.unions.now in
    let t = c.index-unions-k.result in
    let at : slice_get us c.loop-k.k ≡ Some t = slice_get_read us (length us) c.loop-k.k t refl (omega (arith, c.loop-k-test.true)) c.index-unions-k.is in
    union_next c.loop-k.cut c.offer_decl.new.graph c.args.cut.decls us c.loop-k.k t c.in_ok-decl.decl at c.loop-k.invariant c.in_ok-decl.ensures (c.in_ok-offer_decl.ensures.fits c.if-not-branch.false)

pub returns-clause-some : goal.returns-clause-some
returns-clause-some c = c.loop-k.invariant ∙ ap of_decls (unions_all c.args.cut.decls c.args.unions.now c.loop-k.k (omega (arith, c.loop-k-test.false)))
