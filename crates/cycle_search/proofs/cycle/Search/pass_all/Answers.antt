use Rattle.std.proofs.Common.{◌<◌, length, refl, ap, subst, arith, ◌∙◌}
use Rattle.std.specs.List.{slice_index_or}
use Rattle.std.proofs.lemmas.List.{length-set}
use Rattle.cycle_search.specs.Search.{IsMarking}
use Rattle.cycle_search.proofs.OrderLoops.{no_edge}
use Rattle.cycle_search.proofs.Searching.{marking_none, marking_step, marking_ends, work_same, target_below}
use Rattle.cycle_search.proofs.cycle.Search.pass_all.Goals as goal

pub loop-edge-init : goal.loop-edge-init
loop-edge-init c = record {
  size = c.requires.size;
  marking = marking_none c.args.self.now.marked.items c.args.self.now.stack.items;
  work = refl;
}

pub mark-requires : goal.mark-requires
mark-requires c =
    let g = c.args.graph.now in
    let known = target_below g (λ e m. c.edges_between_lines.ensures g e c.lines.ensures.is_graph m) c.args.line c.loop-edge.edge-index c.edges_from-edges.result.now c.edges_from-edges.ensures c.loop-edge-test.true in
    omega (arith, known, c.loop-edge.invariant.size)

pub loop-edge-preserved : goal.loop-edge-preserved
loop-edge-preserved c =
    let g = c.args.graph.now in
    let known = target_below g (λ e m. c.edges_between_lines.ensures g e c.lines.ensures.is_graph m) c.args.line c.loop-edge.edge-index c.edges_from-edges.result.now c.edges_from-edges.ensures c.loop-edge-test.true in
    let below : (slice_index_or c.edges_from-edges.result.now c.loop-edge.edge-index no_edge).to < length c.loop-edge.self.marked.items = omega (arith, known, c.loop-edge.invariant.size) in
    record {
      size = ap length c.in_ok-mark.ensures.marked ∙ simp length-set c.loop-edge.invariant.size;
      marking = marking_step c.edges_from-edges.result.now c.loop-edge.edge-index c.loop-edge-test.true c.loop-edge.self.marked.items c.mark.new.self.marked.items c.args.self.now.marked.items c.args.self.now.stack.items c.loop-edge.self.stack.items c.mark.new.self.stack.items
          below c.in_ok-mark.ensures.marked c.in_ok-mark.ensures.stack c.loop-edge.invariant.marking;
      work = work_same c.loop-edge.self.marked.items c.mark.new.self.marked.items (slice_index_or c.edges_from-edges.result.now c.loop-edge.edge-index no_edge).to below c.in_ok-mark.ensures.marked c.loop-edge.self.stack.items c.mark.new.self.stack.items c.in_ok-mark.ensures.stack ∙ c.loop-edge.invariant.work;
    }

pub returns-clause-marking : goal.returns-clause-marking
returns-clause-marking c =
    subst (λ es. IsMarking es c.args.self.now.marked.items c.args.self.now.stack.items c.loop-edge.self.marked.items c.loop-edge.self.stack.items) c.edges_from-edges.ensures
    (marking_ends c.edges_from-edges.result.now c.loop-edge.edge-index c.args.self.now.marked.items c.loop-edge.self.marked.items c.args.self.now.stack.items c.loop-edge.self.stack.items c.loop-edge-test.false c.loop-edge.invariant.marking)
