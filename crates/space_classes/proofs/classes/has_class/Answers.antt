use Rattle.std.proofs.Common.{◌<◌, length, get_or, arith}
use Rattle.std.proofs.lemmas.List.Elements.{Contains-get_or}
use Rattle.space_classes.proofs.Choosing.{no_class}
use Rattle.space_classes.proofs.classes.has_class.Goals as goal

pub offset_bounds-labels-first : goal.offset_bounds-labels-first
offset_bounds-labels-first c =
    let low : get_or c.args.firsts.now c.loop-first.first-index 0 < length c.args.labels.now = c.requires (get_or c.args.firsts.now c.loop-first.first-index 0) (Contains-get_or c.args.firsts.now c.loop-first.first-index 0 c.loop-first-test.true) in
    omega (arith, low)

pub bounds-labels-first : goal.bounds-labels-first
bounds-labels-first c = c.requires (get_or c.args.firsts.now c.loop-first.first-index 0) (Contains-get_or c.args.firsts.now c.loop-first.first-index 0 c.loop-first-test.true)
