use Rattle.kernel_table.specs.Kernels.{Makes}
use Rattle.kernel_table.proofs.made.Goals as goal

-- an expectation has no target
pub returns-in-Expect : goal.returns-in-Expect
unfolding Makes
returns-in-Expect c = rw c.in-Expect.is tt
