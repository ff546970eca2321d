use Rattle.std.proofs.Common.{◌≡◌, ◌↔◌, ℕ, nat_eq, length, drop, inl, inr, arith, IsTrue}
use Rattle.std.proofs.lemmas.Bool.{false≢true, cases_eq, eq-eqb, eqb-true}
use Rattle.index_spaces.specs.Space.{IsWithin}
use Rattle.index_spaces.proofs.MergeFacts.{iff_trans, within-past_at, within-covered_at, within-early_at, within-long_at, within-over, within-none}
use Rattle.index_spaces.proofs.space.merges.covers.Goals as goal
use Rattle.index_spaces.proofs.space.merges.covers.Goals.{else-outer-b-2-via-then-outer-b-2+else-inner-a, else-outer-b-2-via-else-outer-b-2, then-loop-a-test+else-b-outer, else-loop-a-test}

pub loop-a-preserved-then-outer-b : goal.loop-a-preserved-then-outer-b
loop-a-preserved-then-outer-b c = record {
  rest = iff_trans c.loop-a.invariant.rest (within-past_at c.args.inner.now c.args.outer.now c.loop-a.a c.loop-a.b c.requires.inner c.loop-a-test.true c.if-b-outer.true c.if-outer-b.true);
  within = c.loop-a.invariant.within;
}

pub loop-a-preserved : goal.loop-a-preserved
loop-a-preserved c = record {
  rest = iff_trans c.loop-a.invariant.rest (within-covered_at c.args.inner.now c.args.outer.now c.loop-a.a c.loop-a.b c.loop-a-test.true c.if-b-outer.true c.if-outer-b-2.true c.if-inner-a.true);
  within = omega arith;
}

pub returns-else-outer-b-2 : goal.returns-else-outer-b-2
returns-else-outer-b-2 c =
    let s = c.args.inner.now in
    let t = c.args.outer.now in
    let l = c.loop-a in
    let not : ¬ (IsWithin (drop l.a s) (drop l.b t)) = elim c.else-outer-b-2.branch [
      | else-outer-b-2-via-then-outer-b-2+else-inner-a w ↦ within-long_at s t l.a l.b c.requires.outer c.loop-a-test.true c.if-b-outer.true c.if-outer-b.false w.if-inner-a.false
      | else-outer-b-2-via-else-outer-b-2 w ↦ within-early_at s t l.a l.b c.requires.inner c.requires.outer c.loop-a-test.true c.if-b-outer.true w.if-outer-b-2.false
    ] in
    (λ e. absurd (false≢true e), λ h. absurd (not (l.invariant.rest.0 h)))

-- at the end the lists from their places on decide
decided : (n a : ℕ) (P Q : Type 0) → P ↔ Q → (a ≡ n → Q) → ((a ≡ n → ⊥) → ¬ Q) → IsTrue (nat_eq a n) ↔ P
decided n a P Q same at past = (
  λ e. same.1 (at (eqb-true a n e)),
  λ h. elim (cases_eq a n) [ inl e ↦ eq-eqb a n e | inr ne ↦ absurd (past ne (same.0 h)) ],
)

pub returns : goal.returns
returns c =
    let s = c.args.inner.now in
    let t = c.args.outer.now in
    let l = c.loop-a in
    decided (length s) l.a (IsWithin s t) (IsWithin (drop l.a s) (drop l.b t)) l.invariant.rest
    (λ e. within-over s t l.a l.b (omega arith))
    (λ ne. within-none s t l.a l.b c.requires.inner (omega (arith, l.invariant.within)) (elim c.loop-a-test.branch [
      | then-loop-a-test+else-b-outer w ↦ w.if-b-outer.false
      | else-loop-a-test w ↦ absurd (omega (arith, l.invariant.within, w.loop-a-test.false))
    ]))
