use Rattle.std.proofs.Common.{◌∙◌, refl, inl, inr}
use Rattle.realm_c.proofs.words.reason_word.Goals as goal

pub returns-then-number-eq-TRACE-clause-some : goal.returns-then-number-eq-TRACE-clause-some
returns-then-number-eq-TRACE-clause-some c = inr (c.if-number-eq-TRACE.true, refl)

pub returns-in-Some-clause-some : goal.returns-in-Some-clause-some
returns-in-Some-clause-some c = inl (c.in-Some.why, c.in-Some.ensures.some, c.as_bytes.ensures.value ∙ c.word.ensures)

pub returns-in-None-clause-none : goal.returns-in-None-clause-none
returns-in-None-clause-none c = λ p. c.in-None.ensures.none (p.0, p.1, c.if-number-eq-TRACE.false)
