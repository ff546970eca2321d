-- How far tasks have come: what one status excludes, and where the status of one task is set.
use Rattle.std.proofs.Common.{◌≡◌, ℕ, ◌<◌, Bool, true, false, cond, inl, inr, refl, sym, ◌∙◌, ap, subst}
use Rattle.std.specs.Prelude.{◌≢◌, IsTrue}
use Rattle.std.proofs.lemmas.Bool.{true≢false, cases_eq, eq-eqb, ne_eqb}
use Rattle.task_order.specs.declared.status.Status.{Status}
use Rattle.task_order.specs.declared.status.Status.TheVariants.{Waiting, Running, Done, Faulted, Cancelled}
use Rattle.task_order.specs.Sequence.{is_over, has_started, end_by, with_status}

pub started_is_past : (s : Status) → has_started s ≡ true → s ≢ Waiting
started_is_past s t e = true≢false (sym t ∙ ap has_started e)

pub over_is_past : (s : Status) → IsTrue (is_over s) → s ≢ Waiting
over_is_past s t e = true≢false (sym t ∙ ap is_over e)

pub running_is_past : (s : Status) → s ≡ Running → s ≢ Waiting
running_is_past s r e = true≢false (sym (ap has_started r) ∙ ap has_started e)

pub over_not_running : (s : Status) → IsTrue (is_over s) → s ≢ Running
over_not_running s t e = true≢false (sym t ∙ ap is_over e)

pub waits_if_left : (s : Status) → is_over s ≡ false → s ≢ Running → s ≡ Waiting
waits_if_left Waiting left idle = refl
waits_if_left Running left idle = absurd (idle refl)
waits_if_left Done left idle = absurd (true≢false left)
waits_if_left Faulted left idle = absurd (true≢false left)
waits_if_left Cancelled left idle = absurd (true≢false left)

-- a body that has run
pub ended_has_started : (failed : Bool) → has_started (end_by failed) ≡ true
ended_has_started true = refl
ended_has_started false = refl

pub ended_is_over : (failed : Bool) → IsTrue (is_over (end_by failed))
ended_is_over true = refl
ended_is_over false = refl

-- THE STATUS OF ONE TASK
pub set_here : (status : ℕ → Status) (i k : ℕ) (s : Status) → k ≡ i → with_status status i s k ≡ s
set_here status i k s same = ap (λ b. cond b s (status k)) (eq-eqb k i same)

pub set_else : (status : ℕ → Status) (i k : ℕ) (s : Status) → k ≢ i → with_status status i s k ≡ status k
set_else status i k s other = ap (λ b. cond b s (status k)) (ne_eqb k i other)

-- where each task that waits no more is below n, so it is after one below n
pub set_below : (status : ℕ → Status) (i n : ℕ) (s : Status) → i < n → ((k : ℕ) → status k ≢ Waiting → k < n) → (k : ℕ) → with_status status i s k ≢ Waiting → k < n
set_below status i n s below all k past = elim (cases_eq k i) [
  | inl same ↦ subst (λ x. x < n) (sym same) below
  | inr other ↦ all k (λ e. past (set_else status i k s other ∙ e))
]
