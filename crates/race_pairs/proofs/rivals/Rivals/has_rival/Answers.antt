use Rattle.std.proofs.Common.{◌+◌, ◌≡◌, true, arith, inl, inr, subst}
use Rattle.std.proofs.lemmas.Bool.{cases_lt}
use Rattle.conflict_classes.specs.Settled.{IsSettled}
use Rattle.sweep_base.specs.Noted.{is_noted}
use Rattle.race_pairs.proofs.RaceSteps.{no_bit}
use Rattle.race_pairs.proofs.rivals.Rivals.has_rival.Goals as goal

pub returns-then-suspects-eq0 : goal.returns-then-suspects-eq0
returns-then-suspects-eq0 c h b few noted = c.suspects-suspects.ensures.free b few (no_bit c.suspects-suspects.result b c.if-suspects-eq0.true)

pub loop-bit-preserved : goal.loop-bit-preserved
loop-bit-preserved c = record {
  settled = λ b h noted. elim (cases_lt b c.loop-bit.bit) [
    | inl l ↦ c.loop-bit.invariant.settled b l noted
    | inr up ↦ subst (λ z. is_noted c.args.racing.now (c.args.self.now.first + z) ≡ true → IsSettled c.args.graph.now (c.args.self.now.first + z) c.args.line) (let e : c.loop-bit.bit ≡ b = omega arith in e) (c.is_noted_rival.ensures c.if-is_noted_rival.false) noted
  ];
}
