use Rattle.std.proofs.Common.{◌≡◌, ◌<◌, length, refl, arith}
use Rattle.graph_terms.specs.Graph.{columns}
use Rattle.task_flow.proofs.ContendSteps.{sums_add}
use Rattle.task_flow.proofs.sums.Sums.add.Goals as goal

pub returns : goal.returns
returns c =
    let count : length c.args.self.now.columns.items ≡ length (columns c.args.flow.now) = c.requires.sums.count in
    let within : c.args.sum.column < length (columns c.args.flow.now) = c.requires.column in
    sums_add c.args.flow.now c.args.line _ c.args.self.now.columns.items _ c.args.sum c.index_mut.result.now c.set.new.self c.requires.sum (omega arith) c.index_mut.ensures.value c.set.ensures.size c.set.ensures.bits refl c.requires.sums
