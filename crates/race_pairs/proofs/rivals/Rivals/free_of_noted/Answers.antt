use Rattle.std.proofs.Common.{◌≡◌, ◌+◌, true, inl, inr, subst, arith}
use Rattle.std.proofs.lemmas.Bool.{cases_lt}
use Rattle.conflict_classes.specs.Settled.{IsSettled}
use Rattle.sweep_base.specs.Noted.{is_noted}
use Rattle.race_pairs.proofs.rivals.Rivals.free_of_noted.Goals as goal

pub loop-line-preserved : goal.loop-line-preserved
loop-line-preserved c = record {
  few = omega (arith, c.free_of-free.ensures.few, c.loop-line.invariant.few);
  settled = λ b r low here noted. elim (cases_lt r c.loop-line.line) [
    | inl l ↦ c.loop-line.invariant.settled b r (omega (arith, low, c.free_of-free.ensures.few)) l noted
    | inr up ↦ subst (λ z. is_noted c.args.racing.now z ≡ true → IsSettled c.args.graph.now (c.args.self.now.first + b) z) (let e : c.loop-line.line ≡ r = omega arith in e) (λ h. c.free_of-free.ensures.settled h b low) noted
  ];
}
