use Rattle.std.proofs.Common.{◌≡◌, ◌<◌, ◌+◌, ◌∙◌, sym, subst, arith, length}
use Rattle.std.specs.Prelude.{Contains, ◌==◌, slice_index}
use Rattle.std.specs.List.{slice_index_or}
use Rattle.std.proofs.lemmas.Bool.{eqb-true}
use Rattle.std.proofs.lemmas.List.{get_or_read}
use Rattle.std.proofs.lemmas.List.Elements.{Contains-get_or}
use Rattle.basics.proofs.ListFacts.{filter_contains}
use Rattle.graph_terms.specs.declared.verb.Edge.{Edge}
use Rattle.graph_terms.specs.Edges.{edges}
use Rattle.line_marks.specs.Marking.{IsMarking}
use Rattle.explanations.specs.Search.{near_end, far_end, way_edges, no_origin, origin_at}
use Rattle.explanations.proofs.Marking.{no_edge, ends_more, ends_skip, in_follow}
use Rattle.explanations.proofs.Origins.{origin_found}
use Rattle.explanations.proofs.Levels.{on_known}
use Rattle.explanations.proofs.search.Search.follow.Goals as goal
use Rattle.explanations.proofs.search.Search.follow.Goals.{then-follows+in_ok-find, else-follows}

pub find-requires-clause-known : goal.find-requires-clause-known
find-requires-clause-known c =
    let es = c.edges_at-edges.result.now in
    omega (
      arith,
      on_known c.edges_between_lines.ensures c.args.graph.now c.lines.ensures.is_graph c.args.way c.args.line c.loop-edge.edge-index es c.edges_at-edges.ensures c.loop-edge-test.true,
      c.far_end-found.ensures,
      c.loop-edge.invariant.marking.size,
      c.requires.size,
    )

pub loop-edge-preserved : goal.loop-edge-preserved
loop-edge-preserved c = elim c.if-follows.branch [
  | then-follows+in_ok-find w ↦ (
      let g = c.args.graph.now in
      let es = c.edges_at-edges.result.now in
      let x = slice_index_or es c.loop-edge.edge-index no_edge in
      let yes = sym c.follows.ensures ∙ w.if-follows.true in
      let inside = filter_contains (λ (e : Edge). near_end c.args.way e == c.args.line) (edges g) x (subst (λ xs. Contains xs x) c.edges_at-edges.ensures (Contains-get_or es c.loop-edge.edge-index no_edge c.loop-edge-test.true)) in
      let near : near_end c.args.way x ≡ c.args.line = eqb-true (near_end c.args.way x) c.args.line inside.1 in
      let keeps : slice_index c.loop-edge.self.marks.by_line.items c.args.line ≡ slice_index c.args.self.now.marks.by_line.items c.args.line = c.loop-edge.invariant.marking.keeps c.args.line c.requires.some in
      let old : 0 < slice_index c.args.self.now.marks.by_line.items c.args.line = c.requires.some in
      let next : c.args.count ≡ slice_index c.args.self.now.marks.by_line.items c.args.line + 1 = c.requires.next in
      let some : 0 < slice_index c.loop-edge.self.marks.by_line.items c.args.line = omega arith in
      let one_more : c.args.count ≡ slice_index c.loop-edge.self.marks.by_line.items c.args.line + 1 = omega arith in
      let below : c.args.line < length c.loop-edge.self.origins.items = subst (λ n. c.args.line < n) (sym c.loop-edge.invariant.origins_size) c.requires.known in
      let read : origin_at c.loop-edge.self.origins.items c.args.line ≡ w.index.result.now = sym (get_or_read c.loop-edge.self.origins.items c.args.line w.index.result.now below w.index.ensures no_origin) in
      let marked = subst (λ y. IsMarking (λ i. i ≡ y) c.args.count c.loop-edge.self.marks.by_line.items c.loop-edge.self.marks.pending.items w.find.new.self.marks.by_line.items w.find.new.self.marks.pending.items) w.far_end-found.ensures w.in_ok-find.ensures.marking in
      rw w.self-is (record {
        marking = ends_more c.args.way c.args.ends.now (far_end c.args.way) c.args.count es c.loop-edge.edge-index c.loop-edge-test.true c.args.self.now.marks.by_line.items c.args.self.now.marks.pending.items
            c.loop-edge.self.marks.by_line.items c.loop-edge.self.marks.pending.items w.find.new.self.marks.by_line.items w.find.new.self.marks.pending.items yes c.loop-edge.invariant.marking marked;
        origins_size = w.in_ok-find.ensures.size ∙ c.loop-edge.invariant.origins_size;
        origins = λ starts a. w.in_ok-find.ensures.origins (way_edges c.args.way c.args.ends.now (edges g)) (near_end c.args.way) (far_end c.args.way) starts
            (origin_found (way_edges c.args.way c.args.ends.now (edges g)) (near_end c.args.way) (far_end c.args.way) starts c.loop-edge.self.marks.by_line.items c.loop-edge.self.origins.items
            w.far_end-found.result c.args.line c.args.count x w.index.result.now (in_follow c.args.way c.args.ends.now (edges g) x inside.0 yes) near w.far_end-found.ensures some one_more read)
            (c.loop-edge.invariant.origins starts a);
      }))
  | else-follows w ↦ (
      let es = c.edges_at-edges.result.now in
      let not = sym c.follows.ensures ∙ w.if-follows.false in
      rw w.self-is (record {
        marking = ends_skip c.args.way c.args.ends.now (far_end c.args.way) c.args.count es c.loop-edge.edge-index c.loop-edge-test.true c.args.self.now.marks.by_line.items c.args.self.now.marks.pending.items
            c.loop-edge.self.marks.by_line.items c.loop-edge.self.marks.pending.items not c.loop-edge.invariant.marking;
        origins_size = c.loop-edge.invariant.origins_size;
        origins = c.loop-edge.invariant.origins;
      }))
]
