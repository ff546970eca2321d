use Rattle.std.proofs.Common.{◌≡◌, ℕ, List, ap, arith, inr, sym, ◌∙◌}
use Rattle.c_answers.specs.Refusals.{status_of, IsReadRefusal}
use Rattle.c_answers.specs.declared.reading.Refusal.{Refusal}
use Rattle.c_answers.specs.declared.reading.Refusal.TheVariants.{Unread, Unfit, NoMemory}
use Rattle.realm_c.proofs.upgrade.hand_out_later.Goals as goal

read_is_no_usage : (bytes : List ℕ) (r : Refusal) → IsReadRefusal bytes r → status_of r ≡ 2 → ⊥
read_is_no_usage bytes (Unread n why) h e = (let f : 3 ≡ 2 = e in omega arith)
read_is_no_usage bytes (Unfit why) h e = absurd h
read_is_no_usage bytes NoMemory h e = (let f : 7 ≡ 2 = e in omega arith)

pub returns-in-Err-clause-no_usage : goal.returns-in-Err-clause-no_usage
returns-in-Err-clause-no_usage c = λ e. read_is_no_usage c.args.text.now c.in-Err.refusal c.in-Err.ensures.refused (sym c.status.ensures.number ∙ e)

pub returns-in-Err-clause-refused : goal.returns-in-Err-clause-refused
returns-in-Err-clause-refused c = λ e f h. (c.in-Err.refusal, c.in-Err.ensures.refused, c.status.ensures.number)

pub returns-in-Err-clause-complete : goal.returns-in-Err-clause-complete
returns-in-Err-clause-complete c = λ g short t. inr (inr (c.status.ensures.number ∙ ap status_of (c.in-Err.ensures.complete g t)))
