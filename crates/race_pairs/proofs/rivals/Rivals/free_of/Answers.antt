use Rattle.std.proofs.Common.{◌≡◌, ◌+◌, inl, inr, subst, arith}
use Rattle.std.proofs.lemmas.Bool.{cases_lt}
use Rattle.conflict_classes.specs.Settled.{IsSettled}
use Rattle.race_pairs.proofs.RaceSteps.{no_bit}
use Rattle.race_pairs.proofs.rivals.Rivals.free_of.Goals as goal

pub returns-then-suspects-eq0-clause-settled : goal.returns-then-suspects-eq0-clause-settled
returns-then-suspects-eq0-clause-settled c noted b h = c.suspects-suspects.ensures.free b (omega (arith, h, c.requires.most)) (no_bit c.suspects-suspects.result b c.if-suspects-eq0.true)

pub loop-bit-preserved : goal.loop-bit-preserved
loop-bit-preserved c = record {
  settled = λ b h. elim (cases_lt b c.loop-bit.bit) [
    | inl l ↦ c.loop-bit.invariant.settled b l
    | inr up ↦ subst (λ z. IsSettled c.args.graph.now (c.args.self.now.first + z) c.args.line) (let e : c.loop-bit.bit ≡ b = omega arith in e) (c.is_rival.ensures.free c.if-is_rival.false)
  ];
}

pub returns-clause-settled : goal.returns-clause-settled
returns-clause-settled c noted b h = c.loop-bit.invariant.settled b (omega (arith, h, c.loop-bit-test.false))
