use Rattle.std.proofs.Common.{◌≡◌, ◌+◌, inl, inr, subst, arith}
use Rattle.std.proofs.lemmas.Bool.{cases_lt}
use Rattle.graph_meaning.specs.Rules.{DescendsAt}
use Rattle.race_check.proofs.Insides.{descends_none}
use Rattle.race_check.proofs.descends.climbed_by.Goals as goal

pub returns-then-inside-eq0 : goal.returns-then-inside-eq0
returns-then-inside-eq0 c b h = descends_none c.args.graph.now c.args.first b c.args.line c.args.inside (omega (arith, h, c.requires.limit)) c.requires.inside c.if-inside-eq0.true

pub returns-in_default : goal.returns-in_default
returns-in_default c b h l k s a = absurd (c.in_default.ensures k a)

pub returns-then-is_climbed : goal.returns-then-is_climbed
returns-then-is_climbed c = record { below = c.loop-bit-test.true; here = c.is_climbed.ensures.climbs c.if-is_climbed.true; before = c.loop-bit.invariant.before }

pub loop-bit-preserved : goal.loop-bit-preserved
loop-bit-preserved c = record {
  before = λ k h. elim (cases_lt k c.loop-bit.bit) [
    | inl l ↦ c.loop-bit.invariant.before k l
    | inr up ↦ subst (λ z. DescendsAt c.args.graph.now (c.args.first + z) c.args.line) (let e : c.loop-bit.bit ≡ k = omega arith in e) (c.is_climbed.ensures.descends c.if-is_climbed.false)
  ];
}

pub returns : goal.returns
returns c b h = c.loop-bit.invariant.before b (omega (arith, h, c.loop-bit-test.false))
