use Rattle.std.proofs.Common.{◌≡◌, ◌+◌, inl, inr, subst, arith}
use Rattle.std.proofs.lemmas.Bool.{cases_lt}
use Rattle.conflict_classes.specs.Settled.{IsSettled}
use Rattle.race_pairs.proofs.rivals.Rivals.free_before.Goals as goal

pub loop-line-preserved : goal.loop-line-preserved
loop-line-preserved c = record {
  settled = λ k b low few noted. elim (cases_lt k c.loop-line.line) [
    | inl l ↦ c.loop-line.invariant.settled k b l few noted
    | inr up ↦ subst (λ z. IsSettled c.args.graph.now (c.args.self.now.first + b) z) (let e : c.loop-line.line ≡ k = omega arith in e) (c.has_rival.ensures c.if-has_rival.false b few noted)
  ];
}
