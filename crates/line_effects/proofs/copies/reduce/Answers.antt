use Rattle.std.proofs.Common.{◌≡◌, ◌∙◌, length, sym, arith, ap}
use Rattle.index_spaces.specs.Space.{IsWithin}
use Rattle.index_spaces.specs.Column.{cell_of}
use Rattle.index_spaces.specs.Run.{reduced_cell}
use Rattle.index_spaces.specs.Held.{held_at}
use Rattle.graph_meaning.specs.Effect.{reduced}
use Rattle.index_spaces.proofs.Public.{held_again, holds_over}
use Rattle.line_effects.proofs.PointWrites.{IsOver, source_is, reduced_is}
use Rattle.line_effects.proofs.copies.reduce.Goals as goal

pub returns : goal.returns
returns c = λ spaces s e.
    let old = c.args.held.now in
    let from = c.unwrap-from.result in
    let held = held_again old c.take-to.new.self c.add.new.self c.args.target c.reduce_points.new.to c.take-to.ensures.held c.add.ensures.held in
    let number : length c.add.new.self ≡ length old = omega (arith, c.take-to.ensures.number, c.add.ensures.number) in
    let source = source_is old c.take-to.new.self c.args.target c.args.source from c.args.space.now c.take-to.ensures.held c.requires.distinct (sym (rw c.unwrap-from.ensures at c.view.ensures)) c.requires.source (rw (sym c.space-2.ensures.space) c.intervals-3.ensures.is_space) in
    let to = c.take-to.result in
    let op = c.args.op in
    let target : IsOver old c.args.target to c.args.space.now = record {
      here = c.take-to.ensures.column;
      within = holds_over (held_at old c.args.target) (λ x. IsWithin c.args.space.now x.space) to c.take-to.ensures.column c.requires.target;
      is_space = rw (sym c.space.ensures.space) c.intervals-2.ensures.is_space;
    } in
    rw e (c.changes_by_point.ensures old c.add.new.self c.args.target to c.reduce_points.new.to c.args.space.now (λ p. reduced_cell op (cell_of to p) (cell_of from p)) (λ cells p. reduced op (cells c.args.source p))
    c.intervals.ensures.is_space target.is_space c.take-to.ensures.column held (c.add.ensures.own ∙ sym c.requires.own) number c.space-3.ensures.full c.reduce_points.ensures
    (λ cells has p h.
    ap (λ v. reduced_cell op v (cell_of from p)) (c.cells_by_point.ensures old cells c.args.target to p has target.here target.is_space (target.within p h))
    ∙ ap (λ v. reduced_cell op (cells c.args.target p) v) (c.cells_by_point.ensures old cells c.args.source from p has source.here source.is_space (source.within p h))
    ∙ reduced_is op (cells c.args.target p) (cells c.args.source p)))
