use Rattle.std.proofs.Common.{◌≡◌, length, refl, sym, ◌∙◌, arith}
use Rattle.graph_meaning.specs.Effect.{Set}
use Rattle.index_spaces.proofs.Public.{held_again}
use Rattle.line_effects.proofs.copies.fill.Goals as goal

pub returns : goal.returns
returns c = λ spaces s e.
    let old = c.args.held.now in
    let held = held_again old c.take-to.new.self c.add.new.self c.args.target c.fill_points.new.to c.take-to.ensures.held c.add.ensures.held in
    let number : length c.add.new.self ≡ length old = omega (arith, c.take-to.ensures.number, c.add.ensures.number) in
    rw e (c.changes_by_point.ensures old c.add.new.self c.args.target c.take-to.result c.fill_points.new.to c.args.space.now (λ p. c.args.value) (λ cells p. Set c.args.value)
    c.intervals.ensures.is_space (rw (sym c.space.ensures.space) c.intervals-2.ensures.is_space) c.take-to.ensures.column held (c.add.ensures.own ∙ sym c.requires.own) number c.space-2.ensures.full c.fill_points.ensures (λ cells has p h. refl))
