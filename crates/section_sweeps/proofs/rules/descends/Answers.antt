use Rattle.std.proofs.Common.{inl, inr, sym, ◌∙◌, ap, subst, arith}
use Rattle.std.specs.Prelude.{slice_index, ◌≡◌, ◌<◌}
use Rattle.std.proofs.lemmas.Bool.{cases_lt, true≢false}
use Rattle.graph_terms.specs.Reservations.{Acquires}
use Rattle.graph_terms.proofs.Public.{acquire_one}
use Rattle.sweep_base.specs.Bits.{bit_in}
use Rattle.section_sweeps.proofs.rules.descends.Goals as goal
use Rattle.section_sweeps.proofs.rules.descends.Goals.{else-has_bit-via-then-has_bit+else-not-acquires_before, else-has_bit-via-else-has_bit}

pub returns-in_default : goal.returns-in_default
returns-in_default c h b l k low set a other = absurd (c.in_default.ensures k other)

pub loop-bit-preserved : goal.loop-bit-preserved
loop-bit-preserved c b k low set a = elim (cases_lt b c.loop-bit.bit) [
  | inl before ↦ c.loop-bit.invariant b k before set a
  | inr up ↦ (
      let same : b ≡ c.loop-bit.bit = omega (arith, low, up) in
      elim c.else-has_bit.branch [
        | else-has_bit-via-then-has_bit+else-not-acquires_before w ↦ w.acquires_before.ensures w.if-not-acquires_before.false k (subst (λ z. Acquires c.args.graph.now (slice_index c.args.acquires.now z) k) same a)
        | else-has_bit-via-else-has_bit w ↦ absurd (true≢false (sym set ∙ (ap (bit_in c.args.inside) same ∙ (sym c.has_bit.ensures ∙ w.if-has_bit.false))))
      ])
]

pub returns : goal.returns
returns c h b l k low set a other = subst (λ z. l < z) (acquire_one c.args.graph.now c.args.line c.in-Some.lock k c.in-Some.ensures.0 other) (c.loop-bit.invariant b l (omega (arith, low, c.loop-bit-test.false)) set a)
