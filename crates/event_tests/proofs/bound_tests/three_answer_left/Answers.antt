use Rattle.std.proofs.Common.{subst, sym, ◌∙◌}
use Rattle.std.specs.Prelude.{Contains}
use Rattle.event_table.specs.EventMap.{IsCreated}
use Rattle.event_tests.proofs.bound_tests.three_answer_left.Goals as goal

pub left_answers-first_answers-requires : goal.left_answers-first_answers-requires
left_answers-first_answers-requires c = λ h d.
    let l = c.in_ok-of_first.ensures h (subst (λ xs. Contains xs h) c.as_slice.ensures.value d) in
    subst (IsCreated c.close-left.result) l.2 (c.close-left.ensures.created l.0 l.1)

pub left_answers-middle_answers-requires : goal.left_answers-middle_answers-requires
left_answers-middle_answers-requires c = λ h d.
    let l = c.in_ok-of_middle.ensures h (subst (λ xs. Contains xs h) c.as_slice-2.ensures.value d) in
    subst (IsCreated c.close-left.result) l.2 (c.close-left.ensures.created l.0 l.1)

pub left_answers-last_answers-requires : goal.left_answers-last_answers-requires
left_answers-last_answers-requires c = λ h d.
    let l = c.in_ok-of_last.ensures h (subst (λ xs. Contains xs h) c.as_slice-3.ensures.value d) in
    subst (IsCreated c.close-left.result) l.2 (c.close-left.ensures.created l.0 l.1)
