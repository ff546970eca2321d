use Rattle.std.proofs.Common.{◌≡◌, ◌≤◌, ◌∙◌, ℕ, List, length, ap, Err, inl, inr, refl, sym, subst}
use Rattle.std.specs.Prelude.{Some}
use Rattle.realm_top.specs.Answer.{input_limit}
use Rattle.realm_top.proofs.Requests.{answered_input, answered_long}
use Rattle.realm_top.proofs.answering.answer_read.Goals as goal

pub answer-requires-clause-short : goal.answer-requires-clause-short
answer-requires-clause-short g c = λ κs lives. subst (λ xs. length xs ≤ input_limit c.args.request.action xs) (sym c.as_slice.ensures.value) (subst (λ n. n ≤ input_limit c.args.request.action c.in-Ok.bytes.items) (sym (ap length (sym c.as_slice.ensures.value) ∙ c.as_slice.ensures.len)) c.in-Ok.ensures.within)

pub returns-in-Ok-clause-answered : goal.returns-in-Ok-clause-answered
returns-in-Ok-clause-answered g c =
    inr (answered_input c.args.request c.requires.reads (g.S.Source.left c.args.source.now) _ c.in-Ok.bytes.items _ _ _ c.answer.result c.in-Ok.ensures.all c.in-Ok.ensures.end c.as_slice.ensures.value c.answer.ensures.answered)

pub returns-in-Err-TooLong-clause-answered : goal.returns-in-Err-TooLong-clause-answered
returns-in-Err-TooLong-clause-answered g c =
    let left = g.S.Source.left c.args.source.now in
    let long = λ (xs : List ℕ) (h : left ≡ Some xs). c.in-Err-TooLong.ensures.was_long xs h (ap (λ e. Err e) c.in-Err-TooLong.field-0-is) in
    inr (answered_long c.args.request c.requires.reads left _ _ c.put_too_long.result long c.put_too_long.ensures)

pub returns-in-Err-NoMemory-clause-answered : goal.returns-in-Err-NoMemory-clause-answered
returns-in-Err-NoMemory-clause-answered g c = inr (λ xs i. inl refl)
