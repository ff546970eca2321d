use Rattle.std.proofs.Common.{◌<◌, length, get_or, arith}
use Rattle.std.proofs.lemmas.List.Elements.{Contains-get_or}
use Rattle.space_classes.proofs.points.intervals_of.Goals as goal

pub offset_bounds-labels-span : goal.offset_bounds-labels-span
offset_bounds-labels-span c =
    let x = get_or c.args.spans.now c.loop-span.span-index (record { first = 0; last = 0; owner = 0 }) in
    let low : x.owner < length c.args.labels.now = c.requires.owners x (Contains-get_or c.args.spans.now c.loop-span.span-index (record { first = 0; last = 0; owner = 0 }) c.loop-span-test.true) in
    omega (arith, low)

pub bounds-labels-span : goal.bounds-labels-span
bounds-labels-span c = c.requires.owners (get_or c.args.spans.now c.loop-span.span-index (record { first = 0; last = 0; owner = 0 })) (Contains-get_or c.args.spans.now c.loop-span.span-index (record { first = 0; last = 0; owner = 0 }) c.loop-span-test.true)
