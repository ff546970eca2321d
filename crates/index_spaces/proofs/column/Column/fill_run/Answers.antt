use Rattle.std.proofs.Common.{◌-◌, ap, ◌∙◌, arith, get_or, length, take, drop}
use Rattle.std.proofs.lemmas.List.{get_or-replicate, length-replicate}
use Rattle.index_spaces.proofs.PointFacts.{interval_has-parts}
use Rattle.index_spaces.proofs.RunFacts.{run_count, part_length, stored_in}
use Rattle.index_spaces.proofs.column.Column.fill_run.Goals as goal

pub returns : goal.returns
returns c =
    let i = c.args.interval in
    let start = c.start_of-start.result in
    let at = rw c.deref.ensures at c.start_of-start.ensures in
    let part = take (run_count i start) (drop start c.deref_mut-2.result.now) in
    let cut = part_length c.self.inside.parts.value.space i start c.self.inside.parts.value.cells.items c.deref_mut-2.result.now at c.self.invariant (rw c.deref_mut.ensures.value at c.deref_mut-2.ensures.value) c.requires.ascends in
    let filled = c.fill.ensures.after (λ y k. k) in
    rw (← c.self.view_is)
    (stored_in c.self.inside.parts.value c.deref_mut.result.now c.deref_mut.ensures.value i start c.deref_mut-2.result.now c.fill.new.self (λ p. c.args.value) at c.self.invariant (rw c.deref_mut.ensures.value at c.deref_mut-2.ensures.value) c.requires.ascends (ap length filled ∙ length-replicate (length part) c.args.value)
    (λ p h. let parts = interval_has-parts i p h in ap (λ xs. get_or xs (p - i.0) 0) filled ∙ get_or-replicate (length part) (p - i.0) c.args.value 0 (omega (arith, parts, cut))))
