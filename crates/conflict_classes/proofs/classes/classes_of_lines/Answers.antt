use Rattle.std.proofs.Common.{◌≡◌, length, arith}
use Rattle.conflict_classes.proofs.Classing.{classes_all}
use Rattle.conflict_classes.proofs.classes.classes_of_lines.Goals as goal

pub loop-place-init : goal.loop-place-init
loop-place-init c = record { limit = c.in_ok-classing.ensures.limit; heads = c.in_ok-classing.ensures.heads; classes = c.in_ok-classing.ensures.classes c.args.graph.now c.args.order.now }

pub returns-clause-classes : goal.returns-clause-classes
returns-clause-classes c =
    let s = c.loop-place.classing.classes in
    let all : c.loop-place.place ≡ length c.args.order.now = omega (arith, c.requires.count, c.lines-lines.ensures.number) in
    classes_all c.args.graph.now s.limit c.args.order.now s.keys.items s.of.items s.sites.items s.begins.items c.loop-place.place all c.loop-place.invariant.classes
