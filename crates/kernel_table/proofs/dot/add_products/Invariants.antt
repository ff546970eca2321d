use Rattle.std.proofs.Common.{◌≡◌, ◌+◌, ◌*◌, get_or, map}
use Rattle.std.specs.Prelude.{sum}
use Rattle.basics.specs.Lists.{numbers_below}
use Rattle.graph_meaning.specs.Effect.{wrapped}
use Rattle.kernel_table.proofs.dot.add_products.Given as goal

abbrev pub invariant-loop-k : goal.invariant-loop-k
invariant-loop-k l = l.so_far ≡ wrapped (l.first + sum (map (λ j. get_or l.one j 0 * get_or l.other j 0) (numbers_below l.k)))
