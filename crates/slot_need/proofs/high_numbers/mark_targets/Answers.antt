use Rattle.std.proofs.Common.{◌<◌, sym, subst, ◌∙◌}
use Rattle.std.specs.List.{slice_index_or}
use Rattle.slot_need.proofs.FloodMarks.{no_edge, target_known, targets_more}
use Rattle.slot_need.proofs.high_numbers.mark_targets.Goals as goal

pub mark-requires-clause-known : goal.mark-requires-clause-known
mark-requires-clause-known c =
    let g = c.args.graph.now in
    let es = c.edges_from-edges.result.now in
    subst (λ n. (slice_index_or es c.loop-edge.edge-index no_edge).to < n) (sym (c.loop-edge.invariant.size ∙ c.requires.size))
    (target_known c.edges_between_lines.ensures g c.lines.ensures.is_graph c.args.line c.loop-edge.edge-index es c.edges_from-edges.ensures c.loop-edge-test.true)

pub loop-edge-preserved : goal.loop-edge-preserved
loop-edge-preserved c =
    targets_more c.args.mark c.args.marks.now.by_line.items c.args.marks.now.pending.items c.loop-edge.marks.by_line.items c.loop-edge.marks.pending.items c.mark.new.self.by_line.items c.mark.new.self.pending.items
    c.edges_from-edges.result.now c.loop-edge.edge-index c.loop-edge-test.true c.loop-edge.invariant c.in_ok-mark.ensures.marking
