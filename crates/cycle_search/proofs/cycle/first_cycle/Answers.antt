use Rattle.std.proofs.Common.{◌≡◌, inl, inr, subst, arith}
use Rattle.std.proofs.lemmas.Bool.{cases_lt}
use Rattle.std.proofs.lemmas.List.{get_or_read}
use Rattle.graph_meaning.specs.Rules.{NoCycleAt}
use Rattle.cycle_search.proofs.OrderLoops.{all_no_cycle, ordered_no_cycle}
use Rattle.cycle_search.proofs.cycle.first_cycle.Goals as goal

pub loop-line-preserved : goal.loop-line-preserved
loop-line-preserved c k low = elim (cases_lt k c.loop-line.line) [
  | inl before ↦ c.loop-line.invariant k before
  | inr up ↦ (
      let g = c.args.graph.now in
      let order = c.args.order.now in
      let line = c.loop-line.line in
      let same : line ≡ k = omega (arith, low, up) in
      let known = c.loop-line-test.true in
      let read = get_or_read order.left.items line c.index.result.now (omega (arith, known, c.lines-line-end.ensures.number, c.requires.0)) c.index.ensures 0 in
      subst (NoCycleAt g) same (ordered_no_cycle g order.lines.items order.left.items c.requires line (omega (arith, known, c.lines-line-end.ensures.number)) (omega (arith, read, c.if-index-ne0.false))))
]

pub returns : goal.returns
returns c = all_no_cycle c.args.graph.now (λ e m. c.edges_between_lines.ensures c.args.graph.now e c.lines-line-end.ensures.is_graph m) c.loop-line.line (omega arith) c.loop-line.invariant
