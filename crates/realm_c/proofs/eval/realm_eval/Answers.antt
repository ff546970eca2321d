use Rattle.std.proofs.Common.{ap, inl, inr, ◌∙◌}
use Rattle.c_answers.specs.Refusals.{status_of}
use Rattle.realm_c.proofs.Handing.{holds, cut_is}
use Rattle.realm_c.proofs.eval.realm_eval.Goals as goal

pub returns-in-Some-clause-done : goal.returns-in-Some-clause-done
returns-in-Some-clause-done c = λ e. (c.in-Ok.checked.graph, c.in-Ok.ensures.text.0, c.in-Ok.ensures.text.1, holds _ _ _ _ _ (c.as_slice.ensures.value ∙ c.in-Some.ensures) (c.hand_out.ensures.done e))

pub returns-in-Some-clause-cut : goal.returns-in-Some-clause-cut
returns-in-Some-clause-cut c = λ e. (c.in-Ok.checked.graph, c.in-Ok.ensures.text.0, c.in-Ok.ensures.text.1, cut_is _ _ _ _ _ (c.as_slice.ensures.value ∙ c.in-Some.ensures) (c.hand_out.ensures.cut e))

pub returns-in-Some-clause-complete : goal.returns-in-Some-clause-complete
returns-in-Some-clause-complete c = λ g short t a. elim c.hand_out.ensures.answers [ inl x ↦ inl x | inr x ↦ inr (inl x) ]

pub returns-in-Err-clause-complete : goal.returns-in-Err-clause-complete
returns-in-Err-clause-complete c = λ g short t a. inr (inr (c.status.ensures.number ∙ ap status_of (c.in-Err.ensures.complete g t a)))

pub returns-in-Err-clause-refused : goal.returns-in-Err-clause-refused
returns-in-Err-clause-refused c = λ e f h. (c.in-Err.refusal, c.in-Err.ensures.refused, c.status.ensures.number)
