use Rattle.std.proofs.Common.{◌≡◌, inl, inr, sym, ◌∙◌, ap, arith}
use Rattle.std.specs.Prelude.{slice_get}
use Rattle.std.proofs.lemmas.Bool.{cases_lt}
use Rattle.std.proofs.lemmas.Option.{same_Some, slice_get_within}
use Rattle.flow_top.specs.FlowText.{is_flow_line}
use Rattle.flow_top.proofs.reading.first_other.Goals as goal

pub loop-line-preserved : goal.loop-line-preserved
loop-line-preserved c = λ i x h at. elim (cases_lt i c.loop-line.line) [
  | inl old ↦ c.loop-line.invariant i x old at
  | inr new ↦ (
      let e : c.loop-line.line ≡ i = omega arith in
      let same : c.line.result.now ≡ x = same_Some c.line.result.now x (sym c.line.ensures.line ∙ (ap (slice_get c.args.graph.now.lines) e ∙ at)) in
      ap is_flow_line (sym same) ∙ (sym c.is_flow_line.ensures ∙ c.if-not-is_flow_line.false))
]

pub returns-then-not-is_flow_line : goal.returns-then-not-is_flow_line
returns-then-not-is_flow_line c = record {
  other = c.line.result.now;
  at = c.line.ensures.line;
  is_other = sym c.is_flow_line.ensures ∙ c.if-not-is_flow_line.true;
  before = c.loop-line.invariant;
}

pub returns : goal.returns
returns c = λ i x at. (
    let n = c.lines-line-end.ensures.number in
    let t = c.loop-line-test.false in
    let b = slice_get_within c.args.graph.now.lines i x at in
    c.loop-line.invariant i x (omega (arith, n, t, b)) at)
