use Rattle.std.proofs.Common.{◌≡◌, inl, inr, sym, ◌∙◌, subst, arith}
use Rattle.std.proofs.lemmas.Bool.{true≢false, cases_lt}
use Rattle.graph_meaning.specs.Rules.{ReleasedAt}
use Rattle.race_check.proofs.releases.first_unreleased_of.Goals as goal

pub is_released-requires-clause-behind : goal.is_released-requires-clause-behind
is_released-requires-clause-behind c = (c.args.first, omega (arith, c.loop-line.auto.line), c.requires.behind)

pub returns-then-not-is_released : goal.returns-then-not-is_released
returns-then-not-is_released c = record {
  begins = c.loop-line.auto.line;
  ends = c.loop-line-test.true;
  here = λ r. true≢false (sym (c.is_released.ensures.1 r) ∙ c.if-not-is_released.true);
  before = c.loop-line.invariant.before;
}

pub loop-line-preserved : goal.loop-line-preserved
loop-line-preserved c = record {
  before = λ k from h. elim (cases_lt k c.loop-line.line) [
    | inl l ↦ c.loop-line.invariant.before k from l
    | inr up ↦ subst (ReleasedAt c.args.graph.now) (let e : c.loop-line.line ≡ k = omega arith in e) (c.is_released.ensures.0 c.if-not-is_released.false)
  ];
}

pub returns : goal.returns
returns c i from h = c.loop-line.invariant.before i from (omega (arith, h, c.loop-line-test.false))
