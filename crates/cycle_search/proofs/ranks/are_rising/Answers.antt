use Rattle.std.proofs.Common.{◌≡◌, ◌≤◌, inl, inr, sym, subst, arith}
use Rattle.std.specs.Prelude.{slice_index}
use Rattle.std.proofs.lemmas.Bool.{cases_lt}
use Rattle.cycle_search.proofs.ranks.are_rising.Goals as goal

pub loop-line-preserved : goal.loop-line-preserved
loop-line-preserved c e known low = elim (cases_lt e.to c.loop-line.line) [
  | inl before ↦ c.loop-line.invariant e known before
  | inr up ↦ (
      let same : e.to ≡ c.loop-line.line = omega (arith, low, up) in
      let highest = c.highest_source.ensures e known same in
      subst (λ z. slice_index c.args.ranks.now e.from ≤ slice_index c.args.ranks.now z) (sym same) (omega (arith, highest, c.if-highest_source-ranks.false)))
]

pub returns : goal.returns
returns c h = record {
  size = c.requires;
  rising = λ e known. (
      let k = (c.edges_between_lines.ensures c.args.graph.now e c.lines-line-end.ensures.is_graph known).1 in
      c.loop-line.invariant e known (omega (arith, k, c.loop-line-test.false, c.lines-line-end.ensures.number)));
}
