use Rattle.std.proofs.Common.{◌+◌, arith}
use Rattle.space_classes.proofs.Choosing.{adds_first, firsts_of_many}
use Rattle.space_classes.proofs.classes.firsts.Goals as goal

pub returns-then-len-most : goal.returns-then-len-most
returns-then-len-most c =
    firsts_of_many c.args.labels.now c.args.most (c.loop-k.k + 1) c.add_first.new.firsts.items
    (adds_first c.args.labels.now c.loop-k.k c.loop-k.firsts.items c.add_first.new.firsts.items c.loop-k-test.true c.loop-k.invariant c.in_ok-add_first.ensures) (omega (arith, c.len.ensures, c.if-len-most.true))

pub loop-k-preserved : goal.loop-k-preserved
loop-k-preserved c = adds_first c.args.labels.now c.loop-k.k c.loop-k.firsts.items c.add_first.new.firsts.items c.loop-k-test.true c.loop-k.invariant c.in_ok-add_first.ensures
