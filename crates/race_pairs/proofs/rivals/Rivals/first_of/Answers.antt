use Rattle.std.proofs.Common.{◌+◌, ◌≡◌, arith, inl, inr, subst}
use Rattle.std.proofs.lemmas.Bool.{cases_lt}
use Rattle.graph_meaning.specs.Rules.{RaceAt}
use Rattle.race_pairs.proofs.RaceSteps.{no_bit}
use Rattle.race_pairs.proofs.rivals.Rivals.first_of.Goals as goal

pub returns-then-suspects-eq0 : goal.returns-then-suspects-eq0
returns-then-suspects-eq0 c b h low = c.suspects-suspects.ensures.free b (omega (arith, h, c.requires.limit)) (no_bit c.suspects-suspects.result b c.if-suspects-eq0.true)

pub returns-then-is_race : goal.returns-then-is_race
returns-then-is_race c = record { below = c.loop-bit-test.true; here = c.is_race.ensures.race c.if-is_race.true; before = c.loop-bit.invariant.before }

pub loop-bit-preserved : goal.loop-bit-preserved
loop-bit-preserved c = record {
  before = λ k h. elim (cases_lt k c.loop-bit.bit) [
    | inl l ↦ c.loop-bit.invariant.before k l
    | inr up ↦ subst (λ z. RaceAt c.args.graph.now (c.args.self.now.first + z) c.args.line) (let e : c.loop-bit.bit ≡ k = omega arith in e) (c.is_race.ensures.free c.if-is_race.false)
  ];
}

pub returns : goal.returns
returns c b h = c.loop-bit.invariant.before b (omega (arith, h, c.loop-bit-test.false))
