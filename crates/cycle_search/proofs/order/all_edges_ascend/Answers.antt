use Rattle.std.proofs.Common.{◌≡◌, ◌<◌, inl, inr, sym, subst, arith}
use Rattle.std.proofs.lemmas.Bool.{cases_lt}
use Rattle.cycle_search.proofs.order.all_edges_ascend.Goals as goal

pub loop-line-preserved : goal.loop-line-preserved
loop-line-preserved c e known low = elim (cases_lt e.to c.loop-line.line) [
  | inl before ↦ c.loop-line.invariant e known before
  | inr up ↦ (let same : e.to ≡ c.loop-line.line = omega (arith, low, up) in subst (λ z. e.from < z) (sym same) (c.edges_ascend.ensures c.if-not-edges_ascend.false e known same))
]

pub returns : goal.returns
returns c h e known =
    let k = (c.edges_between_lines.ensures c.args.graph.now e c.lines-line-end.ensures.is_graph known).1 in
    c.loop-line.invariant e known (omega (arith, k, c.loop-line-test.false, c.lines-line-end.ensures.number))
