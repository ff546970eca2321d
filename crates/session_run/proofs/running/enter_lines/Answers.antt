use Rattle.std.proofs.Common.{sym, ◌∙◌, ap}
use Rattle.realm_session.specs.declared.refusal.RecordRefusal.TheVariants as refusal
use Rattle.session_run.proofs.Refusals.{refused, slots_told, no_slots_told, ok_no_slots, memory_no_slots, no_memory_fault, ok_no_fault}
use Rattle.session_run.proofs.running.enter_lines.Goals as goal

pub returns-in-Ok-handles_of-clause-short : goal.returns-in-Ok-handles_of-clause-short
returns-in-Ok-handles_of-clause-short c = λ n. no_slots_told _ c.enter.result _ _ _ n _ (λ e. ok_no_slots c.in-Ok.number n (sym c.in-Ok.is ∙ e)) (ok_no_fault _ _ n) c.requires.few (c.enter.ensures.slots n)

pub returns-in-Err-clause-short : goal.returns-in-Err-clause-short
returns-in-Err-clause-short c = λ n. no_slots_told _ c.enter.result _ _ _ n _ (λ e. ok_no_slots c.in-Ok.number n (sym c.in-Ok.is ∙ e)) (no_memory_fault _ n) c.requires.few (c.enter.ensures.slots n)

pub returns-in-Err-Slots-clause-short : goal.returns-in-Err-Slots-clause-short
returns-in-Err-Slots-clause-short c = λ n. slots_told _ c.enter.result _ _ _ _ n (c.in-Err-Slots.is ∙ (ap refused c.in-Err-Slots.field-0-is ∙ ap (λ k. refused (refusal.Slots k)) (sym c.in-Err-Slots.need-is))) c.requires.few (c.enter.ensures.slots n)

pub returns-in-Err-NoMemory-clause-short : goal.returns-in-Err-NoMemory-clause-short
returns-in-Err-NoMemory-clause-short c = λ n. no_slots_told _ c.enter.result _ _ _ n _ (λ e. memory_no_slots n (sym (c.in-Err-NoMemory.is ∙ ap refused c.in-Err-NoMemory.field-0-is) ∙ e)) (no_memory_fault _ n) c.requires.few (c.enter.ensures.slots n)
