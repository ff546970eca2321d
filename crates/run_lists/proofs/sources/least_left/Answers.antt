use Rattle.std.proofs.Common.{◌<◌, ◌+◌, sym, ◌∙◌, ap, subst, length, get_or, map, take}
use Rattle.std.specs.Prelude.{Some}
use Rattle.run_state.specs.Run.{stage_ended}
use Rattle.run_lists.specs.Stages.{shown_stage}
use Rattle.run_parts.specs.declared.progress.Progress.TheVariants.{Unissued}
use Rattle.run_lists.proofs.SourceFacts.{LeastOf, no_edge, source_known, stage_read, least_passed, least_found, least_is}
use Rattle.run_lists.proofs.sources.least_left.Goals as goal
use Rattle.run_lists.proofs.sources.least_left.Goals.{then-not-has_ended, else-not-has_ended}

pub bounds-stages-edge : goal.bounds-stages-edge
bounds-stages-edge c =
    let es = c.edges_into-edge-items.result.now in
    subst (λ n. (get_or es c.loop-edge.edge-index no_edge).from < n) (sym c.requires.each) (source_known c.edges_between_lines.ensures c.args.graph.now c.lines.ensures.is_graph c.args.line c.loop-edge.edge-index es no_edge c.edges_into-edge-items.ensures c.loop-edge-test.true)

pub loop-edge-preserved : goal.loop-edge-preserved
loop-edge-preserved c =
    let es = c.edges_into-edge-items.result.now in
    let k = c.loop-edge.edge-index in
    let stages = map shown_stage c.args.stages.now in
    let known : (get_or es k no_edge).from < length c.args.stages.now = subst (λ n. (get_or es k no_edge).from < n) (sym c.requires.each) (source_known c.edges_between_lines.ensures c.args.graph.now c.lines.ensures.is_graph c.args.line k es no_edge c.edges_into-edge-items.ensures c.loop-edge-test.true) in
    let is = ap stage_ended (sym (stage_read c.args.stages.now (get_or es k no_edge).from Unissued known)) ∙ sym c.has_ended.ensures in
    elim c.if-not-has_ended.branch [
      | then-not-has_ended w ↦ record { so_far = subst (LeastOf stages (take (k + 1) es)) (sym (w.least-is ∙ ap Some w.lesser.ensures)) (least_found stages es k no_edge c.loop-edge.least c.loop-edge-test.true (is ∙ w.if-not-has_ended.true) c.loop-edge.invariant.so_far) }
      | else-not-has_ended w ↦ record { so_far = subst (LeastOf stages (take (k + 1) es)) (sym w.least-is) (least_passed stages es k no_edge c.loop-edge.least c.loop-edge-test.true (is ∙ w.if-not-has_ended.false) c.loop-edge.invariant.so_far) }
    ]

pub returns : goal.returns
returns c = least_is c.args.graph.now (map shown_stage c.args.stages.now) c.args.line c.loop-edge.edge-index c.edges_into-edge-items.result.now c.loop-edge.least c.edges_into-edge-items.ensures c.loop-edge-test.false c.loop-edge.invariant.so_far
