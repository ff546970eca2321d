use Rattle.std.proofs.Common.{◌<◌, length, arith}
use Rattle.run_lists.proofs.PhaseFacts.{phase_there}
use Rattle.run_lists.proofs.phases.arrive.Goals as goal

pub phase_op-op-requires : goal.phase_op-op-requires
phase_op-op-requires c = phase_there c.edges_between_lines.ensures c.args.graph.now c.line.ensures.is_graph c.args.line c.in-Arrive.phase c.in-Arrive.value c.in-Arrive.weight c.line.result.now c.line.ensures.line c.in-Arrive.is

pub index-requires : goal.index-requires
index-requires c =
    let below : c.in-Arrive.phase < length c.args.graph.now.lines = phase_there c.edges_between_lines.ensures c.args.graph.now c.line.ensures.is_graph c.args.line c.in-Arrive.phase c.in-Arrive.value c.in-Arrive.weight c.line.result.now c.line.ensures.line c.in-Arrive.is in
    omega (arith, below, c.requires.each, c.args.values.now.ok.0)

pub index_mut-requires : goal.index_mut-requires
index_mut-requires c =
    let below : c.in-Arrive.phase < length c.args.graph.now.lines = phase_there c.edges_between_lines.ensures c.args.graph.now c.line.ensures.is_graph c.args.line c.in-Arrive.phase c.in-Arrive.value c.in-Arrive.weight c.line.result.now c.line.ensures.line c.in-Arrive.is in
    omega (arith, below, c.requires.each, c.args.values.now.ok.0)
