use Rattle.std.proofs.Common.{◌≡◌, inl, inr, length, sym, subst, arith}
use Rattle.std.proofs.lemmas.Bool.{cases_lt}
use Rattle.graph_meaning.specs.Rules.{RaceAt}
use Rattle.race_pairs.proofs.BeyondLines.{race_beyond}
use Rattle.race_pairs.proofs.races.first_rival.Goals as goal

pub loop-other-init : goal.loop-other-init
loop-other-init c = record { before = λ m h below k. absurd (omega (arith, below, h)) }

pub loop-other-preserved : goal.loop-other-preserved
loop-other-preserved c = record {
  before = λ m h. elim (cases_lt m c.loop-other.other) [
    | inl l ↦ c.loop-other.invariant.before m l
    | inr up ↦ subst (RaceAt c.args.graph.now c.args.line) (let e : c.loop-other.other ≡ m = omega arith in e)
        (subst (λ z. RaceAt c.args.graph.now z c.loop-other.other) c.in_ok-rivals.ensures.first (c.races_with_first.ensures.free c.if-races_with_first.false))
  ];
}

pub returns-then-races_with_first : goal.returns-then-races_with_first
returns-then-races_with_first c =
    let g = c.args.graph.now in (
      omega (arith, c.loop-other-test.true, c.lines-lines.ensures.number),
      (λ r. c.races_with_first.ensures.race c.if-races_with_first.true (subst (λ z. RaceAt g z c.loop-other.other) (sym c.in_ok-rivals.ensures.first) r)),
      c.loop-other.invariant.before,
    )

pub returns : goal.returns
returns c =
    let g = c.args.graph.now in
    λ m. elim (cases_lt m (length g.lines)) [
      | inl l ↦ c.loop-other.invariant.before m (omega (arith, l, c.loop-other-test.false, c.lines-lines.ensures.number))
      | inr up ↦ race_beyond g c.args.line m (inr up)
    ]
