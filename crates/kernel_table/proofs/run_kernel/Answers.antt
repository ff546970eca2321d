use Rattle.kernel_table.proofs.Fitting.{fits_each}
use Rattle.kernel_table.proofs.run_kernel.Goals as goal

pub run_fitting-requires : goal.run_fitting-requires
run_fitting-requires c = fits_each c.args.graph.now c.args.held.now c.args.kernel.now c.requires
