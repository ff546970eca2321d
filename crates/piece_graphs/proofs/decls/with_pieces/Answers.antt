use Rattle.std.proofs.Common.{◌+◌, ◌∙◌, ◌<◌, sym, subst, length, arith}
use Rattle.std.specs.Prelude.{slice_index_or}
use Rattle.std.proofs.lemmas.Option.{slice_get-get_or}
use Rattle.graph_terms.specs.Graph.{GraphValue}
use Rattle.column_pieces.specs.declared.pieces.Piece.{Piece}
use Rattle.piece_graphs.proofs.Instances.{AreRuns, no_runs, run_put, run_refused, run_longer, all_runs}
use Rattle.piece_graphs.proofs.decls.with_pieces.Goals as goal
use Rattle.piece_graphs.proofs.decls.with_pieces.Goals.{then-is_last+in_ok-decl+in_ok-offer_decl+else-not-branch, else-is_last}

pub loop-k-init : goal.loop-k-init
loop-k-init c = no_runs c.args.cut c.args.pieces.now c.requires.bare

pub returns-then-not-branch-clause-none : goal.returns-then-not-branch-clause-none
returns-then-not-branch-clause-none c = λ none fits.
    let xs = c.args.pieces.now in
    let k = c.loop-k.k in
    let no_piece : Piece = record { column = 0; space = 0 } in
    run_refused c.loop-k.cut c.args.cut.decls xs c.loop-k.first k (slice_index_or xs k no_piece) c.in_ok-decl.decl c.loop-k.invariant (slice_get-get_or xs k no_piece (omega (arith, c.loop-k-test.true)))
    (sym c.is_last.ensures ∙ c.if-is_last.true) c.in_ok-decl.ensures (c.in_ok-offer_decl.ensures.unfit c.if-not-branch.true) fits

pub loop-k-preserved : goal.loop-k-preserved
loop-k-preserved c =
    let xs = c.args.pieces.now in
    let ds = c.args.cut.decls in
    let k = c.loop-k.k in
    let no_piece : Piece = record { column = 0; space = 0 } in
    let z = slice_index_or xs k no_piece in
    let below : k < length xs = omega (arith, c.loop-k-test.true) in
    elim c.if-is_last.branch [
      | then-is_last+in_ok-decl+in_ok-offer_decl+else-not-branch w ↦
          subst (λ (g : GraphValue). AreRuns g ds xs c.if-is_last.first (k + 1)) (sym w.cut-is)
          (subst (λ n. AreRuns w.offer_decl.new.graph ds xs n (k + 1)) (sym w.first-is)
          (run_put c.loop-k.cut w.offer_decl.new.graph ds xs c.loop-k.first k z w.in_ok-decl.decl c.loop-k.invariant (slice_get-get_or xs k no_piece below) (sym c.is_last.ensures ∙ w.if-is_last.true) w.in_ok-decl.ensures
          (w.in_ok-offer_decl.ensures.fits w.if-not-branch.false)))
      | else-is_last w ↦
          subst (λ (g : GraphValue). AreRuns g ds xs c.if-is_last.first (k + 1)) (sym w.cut-is)
          (subst (λ n. AreRuns c.loop-k.cut ds xs n (k + 1)) (sym w.first-is)
          (run_longer c.loop-k.cut ds xs c.loop-k.first k z c.loop-k.invariant (slice_get-get_or xs k no_piece below) (sym c.is_last.ensures ∙ w.if-is_last.false)))
    ]

pub returns-clause-some : goal.returns-clause-some
returns-clause-some c = all_runs c.loop-k.cut c.args.cut.decls c.args.pieces.now c.loop-k.first c.loop-k.k c.loop-k.invariant (omega (arith, c.loop-k-test.false))
