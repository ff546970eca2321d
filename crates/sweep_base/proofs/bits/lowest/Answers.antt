use Rattle.std.proofs.Common.{◌≡◌, false, inl, inr, ap, sym, subst, ◌∙◌, arith}
use Rattle.std.specs.Int.{bit_at}
use Rattle.std.proofs.lemmas.Bool.{cases_lt, ne_eqb}
use Rattle.std.proofs.lemmas.Nat.Bits.{bit_at-zero}
use Rattle.sweep_base.specs.Bits.{bit_in}
use Rattle.sweep_base.proofs.bits.lowest.Goals as goal

pub returns-then-word-eq0 : goal.returns-then-word-eq0
returns-then-word-eq0 c b h = ap (λ z. bit_in z b) c.if-word-eq0.true ∙ ne_eqb (bit_at 0 b) 1 (λ one. (let z : bit_at 0 b ≡ 0 = bit_at-zero b in absurd (omega arith)))

pub returns-then-has_bit : goal.returns-then-has_bit
returns-then-has_bit c = (c.loop-bit-test.true, sym c.has_bit.ensures ∙ c.if-has_bit.true, c.loop-bit.invariant.none)

pub loop-bit-preserved : goal.loop-bit-preserved
loop-bit-preserved c = record {
  none = λ k h. elim (cases_lt k c.loop-bit.bit) [
    | inl l ↦ c.loop-bit.invariant.none k l
    | inr up ↦ subst (λ z. bit_in c.args.word z ≡ false) (let e : c.loop-bit.bit ≡ k = omega arith in e) (sym c.has_bit.ensures ∙ c.if-has_bit.false)
  ];
}

pub returns : goal.returns
returns c b h = c.loop-bit.invariant.none b (omega (arith, h, c.loop-bit-test.false))
