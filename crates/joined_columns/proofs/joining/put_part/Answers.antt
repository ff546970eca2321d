use Rattle.std.proofs.Common.{◌≡◌, ◌∙◌, refl, sym, subst, arith}
use Rattle.index_spaces.specs.Space.{IsWithin}
use Rattle.index_spaces.specs.Column.{cell_of}
use Rattle.joined_columns.proofs.joining.put_part.Goals as goal

pub loop-interval-preserved : goal.loop-interval-preserved
loop-interval-preserved c =
    let s = c.intervals-interval-items.result.now in
    let k = c.loop-interval.interval-index in
    let value = cell_of c.args.part.now in
    let same : s ≡ c.args.part.now.space = c.intervals-interval-items.ensures.intervals ∙ c.space.ensures.space in
    let within : IsWithin s c.args.whole.now.space = subst (λ t. IsWithin t c.args.whole.now.space) (sym same) c.requires in
    c.spaces_are_written.ensures c.args.whole.now c.loop-interval.whole c.copy_run.new.self s k (0, 0) value value within (omega arith) c.loop-interval.invariant (rw c.view.ensures at c.copy_run.ensures) (λ p h. refl)
