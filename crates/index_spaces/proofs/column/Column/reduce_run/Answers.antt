use Rattle.std.proofs.Common.{◌≡◌, ◌-◌, ap, ◌∙◌, arith, get_or, take, drop, map}
use Rattle.index_spaces.specs.Space.{interval_points}
use Rattle.index_spaces.specs.Column.{ColumnValue, cell_of}
use Rattle.index_spaces.specs.Run.{reduced_cell}
use Rattle.index_spaces.proofs.PointFacts.{interval_has-parts}
use Rattle.index_spaces.proofs.RunFacts.{run_count, part_length, stored_in, same_lengths, run_cells, run_element}
use Rattle.index_spaces.proofs.column.Column.reduce_run.Goals as goal

pub reduce_cells-requires : goal.reduce_cells-requires
reduce_cells-requires c =
    same_lengths c.args.from.now c.self.inside.parts.value.space c.args.interval c.start_of-start.result c.self.inside.parts.value.cells.items c.deref_mut-2.result.now c.run.result.now
    (rw c.deref.ensures at c.start_of-start.ensures) c.self.invariant (rw c.deref_mut.ensures.value at c.deref_mut-2.ensures.value) c.requires.here.ascends c.run.ensures

pub returns : goal.returns
returns c =
    let i = c.args.interval in
    let start = c.start_of-start.result in
    let up = c.requires.here.ascends in
    let at = rw c.deref.ensures at c.start_of-start.ensures in
    let full = c.self.invariant in
    let now = rw c.deref_mut.ensures.value at c.deref_mut-2.ensures.value in
    let old : ColumnValue = record { space = c.self.inside.parts.value.space; cells = c.self.inside.parts.value.cells.items } in
    let part = take (run_count i start) (drop start c.deref_mut-2.result.now) in
    let cut = part_length c.self.inside.parts.value.space i start c.self.inside.parts.value.cells.items c.deref_mut-2.result.now at full now up in
    let before : part ≡ map (cell_of old) (interval_points i) = rw now (run_cells old i start (run_count i start) at up full (omega arith)) in
    rw (← c.self.view_is)
    (stored_in c.self.inside.parts.value c.deref_mut.result.now c.deref_mut.ensures.value i start c.deref_mut-2.result.now c.reduce_cells.new.to (λ p. reduced_cell c.args.op (cell_of old p) (cell_of c.args.from.now p)) at full now up c.reduce_cells.auto.to
    (λ p h. let parts = interval_has-parts i p h in
    c.reduce_cells.ensures (p - i.0) (omega (arith, parts, cut))
    ∙ ap (λ x. reduced_cell c.args.op x (get_or c.run.result.now (p - i.0) 0)) (run_element old i part p before h)
    ∙ ap (λ x. reduced_cell c.args.op (cell_of old p) x) (run_element c.args.from.now i c.run.result.now p c.run.ensures h)))
