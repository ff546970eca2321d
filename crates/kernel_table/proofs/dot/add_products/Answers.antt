use Rattle.std.proofs.Common.{◌*◌, get_or}
use Rattle.kernel_table.proofs.Sums.{product_more}
use Rattle.kernel_table.proofs.dot.add_products.Goals as goal

pub loop-k-preserved : goal.loop-k-preserved
loop-k-preserved c = product_more (λ j. get_or c.args.one.now j 0 * get_or c.args.other.now j 0) c.args.first c.loop-k.so_far c.loop-k.k c.loop-k.invariant
