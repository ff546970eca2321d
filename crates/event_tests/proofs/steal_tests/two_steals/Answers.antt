use Rattle.std.proofs.Common.{set, get_or, arith}
use Rattle.event_tests.proofs.SameParts.{same_all, same_set, took_same}
use Rattle.event_tests.proofs.steal_tests.two_steals.Goals as goal

pub returns : goal.returns
returns g c =
    let olds = c.args.parts.now in
    let one = set olds 0 c.push_all.new.part in
    let two = set one 1 c.take-one.new.self in
    same_set olds two 1 c.index-parts-1-2.result c.take-two.new.self
    (same_set olds one 1 c.index-parts-1.result c.take-one.new.self
    (same_set olds olds 0 c.index-parts-0.result c.push_all.new.part (same_all olds) (omega arith) c.push_all.ensures)
    (omega arith) (took_same c.take-one.result (get_or one 1 c.index-parts-1.result) c.take-one.new.self c.take-one.ensures.some c.take-one.ensures.none))
    (omega arith) (took_same c.take-two.result (get_or two 1 c.index-parts-1-2.result) c.take-two.new.self c.take-two.ensures.some c.take-two.ensures.none)
