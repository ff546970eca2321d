use Rattle.std.proofs.Common.{◌≡◌, inl, inr, false, sym, ◌∙◌, subst, arith}
use Rattle.std.proofs.lemmas.Bool.{cases_lt}
use Rattle.graph_terms.specs.Graph.{never_comes}
use Rattle.slot_need.proofs.need.all_come.Goals as goal

pub loop-line-preserved : goal.loop-line-preserved
loop-line-preserved c i low = elim (cases_lt i c.loop-line.line) [
  | inl before ↦ c.loop-line.invariant i before
  | inr up ↦ subst (λ k. never_comes c.args.graph.now k ≡ false) (let same : c.loop-line.line ≡ i = omega (arith, low, up) in same) (sym c.never_comes.ensures ∙ c.if-never_comes.false)
]

pub returns : goal.returns
returns c h i low = c.loop-line.invariant i (omega (arith, low, c.loop-line-test.false, c.lines-line-end.ensures.number))
