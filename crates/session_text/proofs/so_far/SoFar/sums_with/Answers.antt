use Rattle.std.proofs.Common.{◌≤◌, arith}
use Rattle.session_text.proofs.Steps.{few_cells}
use Rattle.session_text.proofs.so_far.SoFar.sums_with.Goals as goal

pub overflow_add-cells : goal.overflow_add-cells
overflow_add-cells c = let few : c.args.self.now.cells ≤ 4194304 = few_cells c.args.self.now c.requires in omega (arith, few, c.cell_count.ensures.few)
