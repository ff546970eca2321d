use Rattle.std.proofs.Common.{◌<◌, length, sym, ap, ◌∙◌, subst, arith}
use Rattle.std.specs.Prelude.{slice_index}
use Rattle.std.specs.List.{slice_index_or}
use Rattle.std.proofs.lemmas.List.{get_or_read}
use Rattle.race_sweeps.specs.Reach.{IsBounded, IsReach}
use Rattle.race_sweeps.specs.declared.reach.Reach.{Reach}
use Rattle.sweep_base.specs.Laws.{no_edge}
use Rattle.sweep_base.proofs.Public.{edge_in, source_known}
use Rattle.race_sweeps.proofs.Reaching.{reach_more}
use Rattle.race_sweeps.proofs.reach.Reach.pass.Goals as goal
use Rattle.race_sweeps.proofs.reach.Reach.pass.Goals.{then-source-stop, else-source-stop}

pub index-source-requires : goal.index-source-requires
index-source-requires c =
    let t = c.requires.table in
    let known = source_known c.args.graph.now c.lines.ensures.is_graph c.edges_between_lines.ensures c.index.result.now c.loop-edge.edge-index c.edges_into-edges.result.now c.edges_into-edges.ensures c.loop-edge-test.true in
    omega (arith, known, t.places_are.size, t.placed.count)

pub add-requires-clause-place : goal.add-requires-clause-place
add-requires-clause-place c =
    let t = c.requires.table in
    let e = slice_index_or c.edges_into-edges.result.now c.loop-edge.edge-index no_edge in
    let known = source_known c.args.graph.now c.lines.ensures.is_graph c.edges_between_lines.ensures c.index.result.now c.loop-edge.edge-index c.edges_into-edges.result.now c.edges_into-edges.ensures c.loop-edge-test.true in
    let low : e.from < length c.args.table.now.places.items = omega (arith, known, t.places_are.size, t.placed.count) in
    let is = get_or_read c.args.table.now.places.items e.from c.index-source.result.now low c.index-source.ensures 0 in
    omega (arith, is, (t.places_are.place e.from low).0, c.loop-edge.invariant.bounded.size)

pub loop-edge-preserved : goal.loop-edge-preserved
loop-edge-preserved c =
    let t = c.requires.table in
    let g = c.args.graph.now in
    let lines = c.args.table.now.lines.items in
    let words = c.loop-edge.self.words.items in
    let was = c.loop-edge.invariant in
    let e = slice_index_or c.edges_into-edges.result.now c.loop-edge.edge-index no_edge in
    let p = c.index-source.result.now in
    let known = source_known g c.lines.ensures.is_graph c.edges_between_lines.ensures c.index.result.now c.loop-edge.edge-index c.edges_into-edges.result.now c.edges_into-edges.ensures c.loop-edge-test.true in
    let low : e.from < length c.args.table.now.places.items = omega (arith, known, t.places_are.size, t.placed.count) in
    let is = get_or_read c.args.table.now.places.items e.from p low c.index-source.ensures 0 in
    let small : p < length words = omega (arith, is, (t.places_are.place e.from low).0, was.bounded.size) in
    let in' = edge_in g c.index.result.now c.loop-edge.edge-index c.edges_into-edges.result.now c.edges_into-edges.ensures c.loop-edge-test.true in
    record {
      bounded = elim c.if-source-stop.branch [
        | then-source-stop w ↦ subst (IsBounded (length lines)) (sym w.self-is) (subst (λ k. IsBounded k w.add.new.self) was.bounded.size w.add.ensures.bounded)
        | else-source-stop w ↦ subst (IsBounded (length lines)) (sym w.self-is) was.bounded
      ];
      reach = λ n r s. elim c.if-source-stop.branch [
        | then-source-stop w ↦ subst (λ (z : Reach). IsReach g lines n z.words.items) (sym w.self-is)
            (subst (λ xs. IsReach g lines n xs) (sym w.add.ensures.words)
            (reach_more g lines words c.args.place p c.index.result.now c.args.word (sym (get_or_read lines c.args.place c.index.result.now c.requires.place c.index.ensures 0)) e in'.0 in'.1
            (ap (slice_index lines) is ∙ (t.places_are.place e.from low).1) small n (was.reach n r s) s))
        | else-source-stop w ↦ subst (λ (z : Reach). IsReach g lines n z.words.items) (sym w.self-is) (was.reach n r s)
      ];
    }
