use Rattle.std.proofs.Common.{◌≡◌, length, sym, ◌∙◌, arith}
use Rattle.index_spaces.specs.Column.{cell_of}
use Rattle.graph_meaning.specs.Effect.{Set}
use Rattle.index_spaces.proofs.Public.{held_again}
use Rattle.line_effects.proofs.PointWrites.{source_is}
use Rattle.line_effects.proofs.copies.copy.Goals as goal

pub returns : goal.returns
returns c = λ spaces s e.
    let old = c.args.held.now in
    let from = c.unwrap-from.result in
    let held = held_again old c.take-to.new.self c.add.new.self c.args.target c.copy_points.new.to c.take-to.ensures.held c.add.ensures.held in
    let number : length c.add.new.self ≡ length old = omega (arith, c.take-to.ensures.number, c.add.ensures.number) in
    let source = source_is old c.take-to.new.self c.args.target c.args.source from c.args.space.now c.take-to.ensures.held c.requires.distinct (sym (rw c.unwrap-from.ensures at c.view.ensures)) c.requires.source (rw (sym c.space-2.ensures.space) c.intervals-3.ensures.is_space) in
    rw e (c.changes_by_point.ensures old c.add.new.self c.args.target c.take-to.result c.copy_points.new.to c.args.space.now (λ p. cell_of from p) (λ cells p. Set (cells c.args.source p))
    c.intervals.ensures.is_space (rw (sym c.space.ensures.space) c.intervals-2.ensures.is_space) c.take-to.ensures.column held (c.add.ensures.own ∙ sym c.requires.own) number c.space-3.ensures.full c.copy_points.ensures
    (λ cells has p h. c.cells_by_point.ensures old cells c.args.source from p has source.here source.is_space (source.within p h)))
