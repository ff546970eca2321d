use Rattle.std.proofs.Common.{inl, inr, length, ◌∙◌, subst, arith}
use Rattle.std.specs.Prelude.{slice_index, ◌≡◌}
use Rattle.std.proofs.lemmas.Bool.{cases_lt}
use Rattle.std.proofs.lemmas.List.{get_or_read}
use Rattle.section_sweeps.specs.Group.{IsPassed}
use Rattle.section_sweeps.proofs.Placing.{line_at}
use Rattle.section_sweeps.proofs.RuleSteps.{passed_grown}
use Rattle.section_sweeps.proofs.group.Group.keeps_rules.Goals as goal

pub loop-place-init : goal.loop-place-init
loop-place-init c = record {
  held = c.requires.held;
  grown = λ l i kept. kept;
  passed = λ i known from to. absurd (omega (arith, from, to));
}

pub loop-place-preserved : goal.loop-place-preserved
loop-place-preserved c =
    let g = c.args.graph.now in
    let t = c.requires.table in
    let x = c.loop-place.place in
    let lines = c.args.table.now.lines.items in
    let places = c.args.table.now.places.items in
    let at = get_or_read lines x c.index.result.now (omega (arith, c.loop-place-test.true, c.requires.swept.end, t.placed.lines_size)) c.index.ensures 0 in
    record {
      held = c.in_ok-keeps_rules_at.ensures.held;
      grown = λ l i kept. c.in_ok-keeps_rules_at.ensures.grown l i (c.loop-place.invariant.grown l i kept);
      passed = λ i known from to. elim (cases_lt (slice_index places i) x) [
        | inl before ↦ passed_grown g c.args.self.now c.loop-place.held c.keeps_rules_at.new.held i c.in_ok-keeps_rules_at.ensures.grown (c.loop-place.invariant.passed i known from before)
        | inr up ↦ (
            let is : slice_index lines x ≡ i = line_at (length g.lines) lines places t.placed i x known (omega (arith, to, up)) in
            subst (λ z. IsPassed g c.args.self.now c.keeps_rules_at.new.held z) (at ∙ is) (c.in_ok-keeps_rules_at.ensures.passed c.if-not-branch.false))
      ];
    }

pub returns-clause-passed : goal.returns-clause-passed
returns-clause-passed c h i known from to = c.loop-place.invariant.passed i known from (omega (arith, to, c.loop-place-test.false))
