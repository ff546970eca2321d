use Rattle.std.proofs.Common.{◌≡◌, sym, ◌∙◌, arith}
use Rattle.run_core.specs.declared.answers.Attempt.{Attempt}
use Rattle.run_core.specs.declared.answers.Attempt.TheVariants as attempts
use Rattle.run_parts.specs.declared.answers.Thing.TheVariants as things
use Rattle.run_handles.specs.Runs.{attempt_number}
use Rattle.run_handles.proofs.inside.attempt.Goals as goal

not_seven : (a : Attempt) → attempt_number a ≡ 7 → ⊥
not_seven (attempts.Taken w) h = omega arith
not_seven (attempts.NotYet j) h = omega arith
not_seven (attempts.Busy (things.Lock l)) h = omega arith
not_seven (attempts.Busy (things.Column k)) h = omega arith
not_seven (attempts.Over s) h = omega arith
not_seven attempts.Never h = omega arith

pub returns-in-Some-clause-no_memory : goal.returns-in-Some-clause-no_memory
returns-in-Some-clause-no_memory c = λ seven. absurd (not_seven c.attempt-run.result.1 (sym c.told-status.ensures.number ∙ seven))
