use Rattle.std.proofs.Common.{◌-◌, ap, ◌∙◌, get_or}
use Rattle.index_spaces.specs.Column.{cell_of}
use Rattle.index_spaces.proofs.RunFacts.{stored_in, same_lengths, run_element}
use Rattle.index_spaces.proofs.column.Column.copy_run.Goals as goal

pub copy_from_slice-requires : goal.copy_from_slice-requires
copy_from_slice-requires c =
    same_lengths c.args.from.now c.self.inside.parts.value.space c.args.interval c.start_of-start.result c.self.inside.parts.value.cells.items c.deref_mut-2.result.now c.run.result.now
    (rw c.deref.ensures at c.start_of-start.ensures) c.self.invariant (rw c.deref_mut.ensures.value at c.deref_mut-2.ensures.value) c.requires.here.ascends c.run.ensures

pub returns : goal.returns
returns c =
    rw (← c.self.view_is)
    (stored_in c.self.inside.parts.value c.deref_mut.result.now c.deref_mut.ensures.value c.args.interval c.start_of-start.result c.deref_mut-2.result.now c.copy_from_slice.new.self (cell_of c.args.from.now)
    (rw c.deref.ensures at c.start_of-start.ensures) c.self.invariant (rw c.deref_mut.ensures.value at c.deref_mut-2.ensures.value) c.requires.here.ascends c.copy_from_slice.ensures.len
    (λ p h. ap (λ xs. get_or xs (p - c.args.interval.0) 0) c.copy_from_slice.ensures.after ∙ run_element c.args.from.now c.args.interval c.run.result.now p c.run.ensures h))
