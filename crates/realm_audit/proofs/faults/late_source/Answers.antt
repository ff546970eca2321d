use Rattle.std.proofs.Common.{◌+◌, sym, ◌∙◌, ap, subst, arith}
use Rattle.std.specs.Prelude.{Some}
use Rattle.std.specs.List.{slice_index_or}
use Rattle.std.proofs.lemmas.Bool.{true≢false}
use Rattle.std.proofs.lemmas.Option.{slice_get-get_or}
use Rattle.realm_audit.proofs.EndFacts.{ends_size, end_iff}
use Rattle.realm_audit.proofs.Earlier.{earlier_none}
use Rattle.realm_audit.proofs.FaultFacts.{no_edge, edge_there, IsLeastTo, least_kept, least_added, least_source}
use Rattle.realm_audit.proofs.faults.late_source.Goals as goal
use Rattle.realm_audit.proofs.faults.late_source.Goals.{then-lacks, else-lacks}

pub loop-edge-init : goal.loop-edge-init
loop-edge-init c = λ e s left. earlier_none c.edges_into-edges.result.now e s

pub lacks-requires : goal.lacks-requires
lacks-requires c =
    let g = c.args.graph.now in
    let es = c.edges_into-edges.result.now in
    let e = slice_index_or es c.loop-edge.edge-index no_edge in
    let at = slice_get-get_or es c.loop-edge.edge-index no_edge c.loop-edge-test.true in
    let known = (c.edges_between_lines.ensures g e c.lines.ensures.is_graph (edge_there g c.args.line c.loop-edge.edge-index es e c.edges_into-edges.ensures at)).0 in
    let size = ends_size g c.args.ends.now c.requires.ends in
    record { ends = omega (arith, known, size); size = omega (arith, known, c.requires.size) }

pub loop-edge-preserved : goal.loop-edge-preserved
loop-edge-preserved c =
    let g = c.args.graph.now in
    let stands = c.args.prefix.now.stands.items in
    let es = c.edges_into-edges.result.now in
    let k = c.loop-edge.edge-index in
    let e = slice_index_or es k no_edge in
    let at = slice_get-get_or es k no_edge c.loop-edge-test.true in
    let known = (c.edges_between_lines.ensures g e c.lines.ensures.is_graph (edge_there g c.args.line k es e c.edges_into-edges.ensures at)).0 in
    let ended = end_iff g c.args.ends.now c.requires.ends e.from known in
    elim c.if-lacks.branch [
      | then-lacks w ↦ (let h = c.lacks.ensures.0 w.if-lacks.true in
          subst (λ o. IsLeastTo g stands es (k + 1) o) (sym (w.least-is ∙ ap Some w.lesser.ensures)) (least_added g stands es k e at c.loop-edge.least c.loop-edge.invariant (ended.0 h.0, h.1)))
      | else-lacks w ↦ subst (λ o. IsLeastTo g stands es (k + 1) o) (sym w.least-is)
          (least_kept g stands es k e at c.loop-edge.least c.loop-edge.invariant (λ left. true≢false (sym (c.lacks.ensures.1 (ended.1 left.0, left.1)) ∙ w.if-lacks.false)))
    ]

pub returns : goal.returns
returns c = least_source c.args.graph.now c.args.prefix.now.stands.items c.args.line c.edges_into-edges.result.now c.edges_into-edges.ensures c.loop-edge.edge-index c.loop-edge-test.false c.loop-edge.least c.loop-edge.invariant
