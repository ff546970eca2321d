use Rattle.std.proofs.Common.{◌≡◌, ◌+◌, ◌≤◌, length, ◌∙◌, ap, arith}
use Rattle.basics.specs.Sums.{below}
use Rattle.refused_words.proofs.LimitFacts.{entering_line, below_next, edges_so_far, all_edges}
use Rattle.refused_words.proofs.operations.edge_count.Goals as goal

pub overflow_add-count : goal.overflow_add-count
overflow_add-count c =
    let g = c.args.graph.now in
    let n = c.loop-line.line in
    let before : c.loop-line.count ≡ below (entering_line g) n = c.loop-line.invariant in
    let here : length c.edges_into.result.now ≡ entering_line g n = ap length c.edges_into.ensures in
    let next : below (entering_line g) (n + 1) ≡ below (entering_line g) n + entering_line g n = below_next (entering_line g) n in
    let inside : n + 1 ≤ length g.lines = omega (arith, c.loop-line-test.true, c.lines-line-end.ensures.number) in
    let few : below (entering_line g) (n + 1) ≤ 524288 = edges_so_far g c.lines-line-end.ensures.is_graph (λ e has. (c.edges_between_lines.ensures g e c.lines-line-end.ensures.is_graph has).1) (n + 1) inside in
    omega arith

pub loop-line-preserved : goal.loop-line-preserved
loop-line-preserved c =
    let g = c.args.graph.now in
    let n = c.loop-line.line in
    let before : c.loop-line.count ≡ below (entering_line g) n = c.loop-line.invariant in
    let here : length c.edges_into.result.now ≡ entering_line g n = ap length c.edges_into.ensures in
    let next : below (entering_line g) (n + 1) ≡ below (entering_line g) n + entering_line g n = below_next (entering_line g) n in
    omega arith

pub returns-clause-count : goal.returns-clause-count
returns-clause-count c =
    let g = c.args.graph.now in
    let n = c.loop-line.line in
    let all : n ≡ length g.lines = omega (arith, c.loop-line-test.false, c.lines-line-end.ensures.number, c.loop-line.auto.line-end) in
    c.loop-line.invariant ∙ (ap (below (entering_line g)) all ∙ all_edges g (λ e has. (c.edges_between_lines.ensures g e c.lines-line-end.ensures.is_graph has).1))

pub returns-clause-few : goal.returns-clause-few
returns-clause-few c =
    let g = c.args.graph.now in
    let n = c.loop-line.line in
    let inside : n ≤ length g.lines = omega (arith, c.loop-line-test.false, c.lines-line-end.ensures.number, c.loop-line.auto.line-end) in
    let before : c.loop-line.count ≡ below (entering_line g) n = c.loop-line.invariant in
    let few : below (entering_line g) n ≤ 524288 = edges_so_far g c.lines-line-end.ensures.is_graph (λ e has. (c.edges_between_lines.ensures g e c.lines-line-end.ensures.is_graph has).1) n inside in
    omega arith
