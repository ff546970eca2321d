-- The tasks one after the other: how a task ends stays, and a piece changes only by tasks that may change it.
use Rattle.std.proofs.Common.{◌≡◌, ℕ, zero, suc, ◌<◌, ◌≤◌, true, false, cond, inl, inr, List, sym, ◌∙◌, ap, arith}
use Rattle.std.specs.Prelude.{◌≢◌}
use Rattle.std.proofs.lemmas.Bool.{cases_Bool, cases_order}
use Rattle.task_order.specs.declared.access.Access.{Access}
use Rattle.task_order.specs.declared.status.Status.TheVariants.{Cancelled}
use Rattle.task_order.specs.Tasks.{changes, accesses_of}
use Rattle.task_order.specs.Sequence.{Memory, Bodies, KeepTo, is_cancelled, end_by, Past, after_body, after_none, sequence}
use Rattle.task_order.proofs.Statuses.{set_else}

module _ {X : Type 0} (tasks : List (List Access)) (bodies : Bodies X) (start : Memory X) where
  -- ONE TASK MORE
  abbrev after : ℕ → Past X
  after n = sequence tasks bodies start n

  pub with_none : (i : ℕ) → is_cancelled tasks (after i).status i ≡ true → after (suc i) ≡ after_none (after i) i
  with_none i e = ap (λ b. cond b (after_none (after i) i) (after_body bodies (after i) i)) e

  pub with_body : (i : ℕ) → is_cancelled tasks (after i).status i ≡ false → after (suc i) ≡ after_body bodies (after i) i
  with_body i e = ap (λ b. cond b (after_none (after i) i) (after_body bodies (after i) i)) e

  status_after : (n k : ℕ) → k ≢ n → (after (suc n)).status k ≡ (after n).status k
  status_after n k other = elim (cases_Bool (is_cancelled tasks (after n).status n)) [
    | inl t ↦ ap (λ (past : Past X). past.status k) (with_none n t) ∙ set_else (after n).status n k Cancelled other
    | inr f ↦ ap (λ (past : Past X). past.status k) (with_body n f) ∙ set_else (after n).status n k (end_by (bodies.fails n (after n).memory)) other
  ]

  -- how a task has ended stays
  pub status_kept : (m n i : ℕ) → i < n → n ≤ m → (after m).status i ≡ (after n).status i
  status_kept zero n i below le = absurd (omega arith)
  status_kept (suc m) n i below le = elim (cases_order n (suc m)) [
    | inl same ↦ ap (λ x. (after x).status i) (sym same)
    | inr (inl less) ↦ status_after m i (λ e. absurd (omega arith)) ∙ status_kept m n i below (omega arith)
    | inr (inr more) ↦ absurd (omega arith)
  ]

  module _ (keeps : KeepTo tasks bodies) where
    memory_after : (n p : ℕ) → changes (accesses_of tasks n) p ≡ false → (after (suc n)).memory p ≡ (after n).memory p
    memory_after n p cannot = elim (cases_Bool (is_cancelled tasks (after n).status n)) [
      | inl t ↦ ap (λ (past : Past X). past.memory p) (with_none n t)
      | inr f ↦ ap (λ (past : Past X). past.memory p) (with_body n f) ∙ keeps.untouched n (after n).memory p cannot
    ]

    -- a piece stays that no task in between may change
    pub memory_kept : (m n p : ℕ) → n ≤ m → ((k : ℕ) → n ≤ k → k < m → changes (accesses_of tasks k) p ≡ false) → (after m).memory p ≡ (after n).memory p
    memory_kept zero n p le none = ap (λ x. (after x).memory p) (let e : 0 ≡ n = omega arith in e)
    memory_kept (suc m) n p le none = elim (cases_order n (suc m)) [
      | inl same ↦ ap (λ x. (after x).memory p) (sym same)
      | inr (inl less) ↦ memory_after m p (none m (omega arith) (omega arith)) ∙ memory_kept m n p (omega arith) (λ k from below. none k from (omega arith))
      | inr (inr more) ↦ absurd (omega arith)
    ]
