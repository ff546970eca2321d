use Rattle.std.proofs.Common.{◌≡◌, ◌+◌, ◌%◌, ◌^◌, sym, ap, ◌∙◌, arith}
use Rattle.std.specs.Prelude.{filter}
use Rattle.index_spaces.specs.Space.{has_point}
use Rattle.index_spaces.specs.Column.{cell_of}
use Rattle.graph_meaning.specs.Effect.{around, wrapped, wrapped_sum}
use Rattle.kernel_table.proofs.Windows.{part, part_before, before_positive, window_sum}
use Rattle.kernel_table.proofs.stencil.window.Goals as goal
use Rattle.kernel_table.proofs.stencil.window.Goals.{then-point-eq0, else-point-eq0}

pub returns : goal.returns
returns c =
    let read = c.args.read.now in
    let f = cell_of c.args.x.now in
    let p = c.from-point.result in
    let left : c.if-point-eq0.left ≡ part_before read f p = elim c.if-point-eq0.branch [
      | then-point-eq0 w ↦ w.left-is ∙ ap (part_before read f) (sym w.if-point-eq0.true)
      | else-point-eq0 w ↦ w.left-is ∙ w.cell_or_zero-left.ensures ∙ before_positive read f p (omega (arith, w.if-point-eq0.false))
    ] in
    let same : p ≡ c.args.p = c.from-point.ensures in
    ap (λ v. wrapped ((v + c.cell_or_zero-here.result) % 2 ^ 64 + c.cell_or_zero-right.result)) left
    ∙ ap (λ v. wrapped ((part_before read f p + v) % 2 ^ 64 + c.cell_or_zero-right.result)) c.cell_or_zero-here.ensures
    ∙ ap (λ v. wrapped ((part_before read f p + part read f p) % 2 ^ 64 + v)) c.cell_or_zero-right.ensures
    ∙ window_sum read f p
    ∙ ap (λ q. wrapped_sum f (filter (has_point read) (around q))) same
