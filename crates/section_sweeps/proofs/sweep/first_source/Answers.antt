use Rattle.std.proofs.Common.{◌≤◌, inl, inr, subst, arith}
use Rattle.std.specs.Prelude.{slice_index}
use Rattle.std.specs.List.{slice_index_or}
use Rattle.std.proofs.lemmas.List.{get_or_read}
use Rattle.graph_terms.specs.declared.verb.Edge.{Edge}
use Rattle.sweep_base.proofs.Public.{take_cases, take_whole}
use Rattle.sweep_base.specs.Laws.{no_edge}
use Rattle.sweep_base.proofs.Public.{edge_in}
use Rattle.section_sweeps.proofs.Edging.{listed_into}
use Rattle.section_sweeps.proofs.sweep.first_source.Goals as goal

pub index-requires : goal.index-requires
index-requires c =
    let t = c.requires.table in
    let es = c.edges_into-edges.result.now in
    let in' = edge_in c.args.graph.now c.args.line c.loop-edge.edge-index es c.edges_into-edges.ensures c.loop-edge-test.true in
    omega (arith, (t.forward.known (slice_index_or es c.loop-edge.edge-index no_edge) in'.0).0, t.placed.places_size)

pub loop-edge-preserved : goal.loop-edge-preserved
loop-edge-preserved c =
    let t = c.requires.table in
    let places = c.args.table.now.places.items in
    let es = c.edges_into-edges.result.now in
    let e = slice_index_or es c.loop-edge.edge-index no_edge in
    let in' = edge_in c.args.graph.now c.args.line c.loop-edge.edge-index es c.edges_into-edges.ensures c.loop-edge-test.true in
    let read = get_or_read places e.from c.index.result.now (omega (arith, (t.forward.known e in'.0).0, t.placed.places_size)) c.index.ensures 0 in
    record {
      limit = omega (arith, c.min-first.ensures, c.loop-edge.invariant.limit);
      sources = λ d listed. elim (take_cases es c.loop-edge.edge-index no_edge d c.loop-edge-test.true listed) [
        | inl before ↦ (let l = c.loop-edge.invariant.sources d before in omega (arith, c.min-first.ensures, l))
        | inr same ↦ subst (λ (z : Edge). c.min-first.result ≤ slice_index places z.from) same (omega (arith, c.min-first.ensures, read))
      ];
    }

pub returns-clause-sources : goal.returns-clause-sources
returns-clause-sources c e known to =
    let es = c.edges_into-edges.result.now in
    c.loop-edge.invariant.sources e (take_whole es c.loop-edge.edge-index e (omega (arith, c.loop-edge-test.false)) (listed_into c.args.graph.now c.args.line es c.edges_into-edges.ensures e known to))
