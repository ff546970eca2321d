use Rattle.std.proofs.Common.{◌≤◌, Ok, refl, sym, ◌∙◌, ap, subst}
use Rattle.std.proofs.lemmas.Fn.{says_at}
use Rattle.session_run.specs.Running.{slots_of, slots_needed}
use Rattle.session_run.proofs.Refusals.{failed, enough}
use Rattle.session_run.proofs.session.run_checked.Goals as goal

pub record-requires-clause-outcome : goal.record-requires-clause-outcome
record-requires-clause-outcome g c = c.requires.outcomes c.args.checked (Ok c.in-Ok.outcome) (says_at g.F.Fn c.in-Ok.ensures refl)

pub returns-in-Ok-record-clause-enough : goal.returns-in-Ok-record-clause-enough
returns-in-Ok-record-clause-enough g c = subst (λ gs. slots_needed gs ≤ slots_of c.args.running) (sym c.in-Ok-record.ensures.ran) (enough _ c.record.result c.in-Ok-record.running _ _ c.in-Ok-record.is (c.record.ensures.short _))

pub returns-in-Err-Slots-clause-refused : goal.returns-in-Err-Slots-clause-refused
returns-in-Err-Slots-clause-refused g c =
    (let t = (c.record.ensures.short c.in-Err-Slots.need).0 (c.in-Err-Slots.is ∙ ap (failed _) c.in-Err-Slots.field-0-is) in
    (c.graph.ensures.accepted, t.0, t.1))
