-- The run that the bodies of a window make.
use Rattle.std.proofs.Common.{◌≡◌, ℕ, ◌+◌, ◌<◌, Bool, true, false, cond, inl, inr, List, [], ◌∷◌, ◌++◌, length, refl, sym, ◌∙◌, ap, subst, arith}
use Rattle.std.specs.Prelude.{◌≢◌, IsTrue, slice_set}
use Rattle.std.proofs.lemmas.Bool.{cases_eq, eq-eqb, ne_eqb}
use Rattle.std.proofs.lemmas.List.{length-set, length_push}
use Rattle.task_order.specs.declared.access.Access.{Access}
use Rattle.task_order.specs.declared.status.Status.{Status}
use Rattle.task_order.specs.declared.status.Status.TheVariants.{Waiting, Running, Done, Faulted, Cancelled}
use Rattle.task_order.specs.Tasks.{changes, accesses_of}
use Rattle.task_order.specs.Sequence.{Memory, Bodies, is_over, is_lost, is_cancelled, end_by, with_status}
use Rattle.task_order.specs.Run.{IsDue, TaskRun, IsRun, begins, starts, writes, ends, cancels, started, ended}
use Rattle.task_window.specs.Waits.{status_at}
use Rattle.task_window.specs.Window.{WindowValue}
use Rattle.task_window.specs.Laws.{Follows, RunsBegin, InsertsKeepRuns, TakesStart, TakesCancel, BodiesWrite, EndsEnd}
use Rattle.task_window.proofs.Steps.{set_here, set_there}
use Rattle.task_window.proofs.Noting.{accesses_before}
use Rattle.task_window.proofs.Inserting.{status_more}
use Rattle.task_window.proofs.Keeping.{cancelled_alike}
use Rattle.task_window.proofs.Tasking.{depends_old, cancelled_same}

-- a status that is set
set_status : (f : ℕ → Status) (xs : List Status) (i : ℕ) (s : Status) → i < length xs → ((k : ℕ) → f k ≡ status_at xs k) → (k : ℕ) → with_status f i s k ≡ status_at (slice_set xs i s) k
set_status f xs i s h same k = elim (cases_eq k i) [
  | inl e ↦ ap (λ b. cond b s (f k)) (eq-eqb k i e) ∙ sym (ap (status_at (slice_set xs i s)) e ∙ set_here xs i s h)
  | inr ne ↦ ap (λ b. cond b s (f k)) (ne_eqb k i ne) ∙ (same k ∙ sym (set_there xs i s k ne))
]

due_alike : (tasks : List (List Access)) (f g : ℕ → Status) (i : ℕ) → ((k : ℕ) → f k ≡ g k) → IsDue tasks g i → IsDue tasks f i
due_alike tasks f g i same d = record {
  inserted = d.inserted;
  waits = same i ∙ d.waits;
  ready = λ j h. subst (λ s. IsTrue (is_over s)) (sym (same j)) (d.ready j h);
}

waits_runs : (s : Status) → s ≡ Running → s ≢ Waiting
waits_runs Waiting e f = cc
waits_runs Running e f = cc
waits_runs Done e f = cc
waits_runs Faulted e f = cc
waits_runs Cancelled e f = cc

at_set : (f : ℕ → Status) (i : ℕ) (s : Status) (m k : ℕ) → i < m → (f k ≢ Waiting → k < m) → with_status f i s k ≢ Waiting → k < m
at_set f i s m k h again n = elim (cases_eq k i) [
  | inl e ↦ subst (λ y. y < m) (sym e) h
  | inr ne ↦ again (λ w. n (ap (λ b. cond b s (f k)) (ne_eqb k i ne) ∙ w))
]

module _ {X : Type 0} where
  pub runs_begin : RunsBegin X
  runs_begin bodies start v ts ss = record {
    size = ap length ss ∙ sym (ap length ts);
    run = begins refl;
    status = λ k. sym (ap (λ xs. status_at xs k) ss);
  }

  pub takes_start : TakesStart X
  takes_start bodies start r old new i f t =
      let known : i < length old.status = subst (λ n. i < n) (sym f.size) t.due.inserted in
      subst (λ (v : WindowValue). Follows bodies start (started r i) v) (sym t.after) (record {
        size = length-set old.status i Running ∙ f.size;
        run = starts r i f.run (due_alike old.tasks r.status (status_at old.status) i f.status t.due)
            (cancelled_alike old.tasks (status_at old.status) r.status i (λ k d. ap is_lost (f.status k)) ∙ sym t.cancelled_is) refl;
        status = set_status r.status old.status i Running known f.status;
      })

  pub takes_cancel : TakesCancel X
  takes_cancel bodies start r old new i f t =
      let known : i < length old.status = subst (λ n. i < n) (sym f.size) t.due.inserted in
      subst (λ (v : WindowValue). Follows bodies start (ended r i Cancelled) v) (sym t.after) (record {
        size = length-set old.status i Cancelled ∙ f.size;
        run = cancels r i f.run (due_alike old.tasks r.status (status_at old.status) i f.status t.due)
            (cancelled_alike old.tasks (status_at old.status) r.status i (λ k d. ap is_lost (f.status k)) ∙ sym t.cancelled_is) refl;
        status = set_status r.status old.status i Cancelled known f.status;
      })

  pub bodies_write : BodiesWrite X
  bodies_write bodies start r v i memory f runs own = record {
    size = f.size;
    run = writes r i memory f.run (f.status i ∙ runs) own refl;
    status = f.status;
  }

  -- only tasks that are there start, and one more changes no run of the others
  module _ (tasks : List (List Access)) (bodies : Bodies X) (start : Memory X) where
    run_known : (r : TaskRun X) → IsRun tasks bodies start r → (k : ℕ) → r.status k ≢ Waiting → k < length tasks
    run_known r (begins e) k n = absurd (n (ap (λ (x : TaskRun X). x.status k) e))
    run_known r (starts q i run due c e) k n = at_set q.status i Running (length tasks) k due.inserted (run_known q run k) (λ w. n (ap (λ (x : TaskRun X). x.status k) e ∙ w))
    run_known r (writes q i memory run runs own e) k n = run_known q run k (λ w. n (ap (λ (x : TaskRun X). x.status k) e ∙ w))
    run_known r (ends q i run runs has e) k n = at_set q.status i (end_by (bodies.fails i (q.found i))) (length tasks) k (run_known q run i (waits_runs (q.status i) runs)) (run_known q run k) (λ w. n (ap (λ (x : TaskRun X). x.status k) e ∙ w))
    run_known r (cancels q i run due c e) k n = at_set q.status i Cancelled (length tasks) k due.inserted (run_known q run k) (λ w. n (ap (λ (x : TaskRun X). x.status k) e ∙ w))

    module _ (accesses : List Access) where
      low : (i : ℕ) → i < length tasks → i ≡ length tasks → ⊥
      low i h e = absurd (omega arith)

      due_more : (status : ℕ → Status) (i : ℕ) → IsDue tasks status i → IsDue (tasks ++ accesses ∷ []) status i
      due_more status i d = record {
        inserted = (let a : length (tasks ++ accesses ∷ []) ≡ length tasks + 1 = length_push tasks accesses in let b : i < length tasks = d.inserted in let s : i < length (tasks ++ accesses ∷ []) = omega arith in s);
        waits = d.waits;
        ready = λ j h. d.ready j (depends_old tasks accesses j i (low i d.inserted) h);
      }

      cancelled_more : (status : ℕ → Status) (i : ℕ) (b : Bool) → i < length tasks → is_cancelled tasks status i ≡ b → is_cancelled (tasks ++ accesses ∷ []) status i ≡ b
      cancelled_more status i b h e = cancelled_same tasks accesses status status (λ k. refl) i (low i h) ∙ e

      changes_more : (i p : ℕ) (b : Bool) → i < length tasks → changes (accesses_of (tasks ++ accesses ∷ []) i) p ≡ b → changes (accesses_of tasks i) p ≡ b
      changes_more i p b h e = sym (ap (λ (a : List Access). changes a p) (accesses_before tasks accesses i (low i h))) ∙ e

      run_more : (r : TaskRun X) → IsRun tasks bodies start r → IsRun (tasks ++ accesses ∷ []) bodies start r
      run_more r (begins e) = begins e
      run_more r (starts q i run due c e) = starts q i (run_more q run) (due_more q.status i due) (cancelled_more q.status i false due.inserted c) e
      run_more r (writes q i memory run runs own e) = writes q i memory (run_more q run) runs (λ p c. own p (changes_more i p false (run_known q run i (waits_runs (q.status i) runs)) c)) e
      run_more r (ends q i run runs has e) = ends q i (run_more q run) runs (λ p c. has p (changes_more i p true (run_known q run i (waits_runs (q.status i) runs)) c)) e
      run_more r (cancels q i run due c e) = cancels q i (run_more q run) (due_more q.status i due) (cancelled_more q.status i true due.inserted c) e

  pub inserts_keep_runs : InsertsKeepRuns X
  inserts_keep_runs bodies start r old new accesses f e =
      subst (λ (v : WindowValue). Follows bodies start r v) (sym e) (record {
        size = length_push old.status Waiting ∙ (ap (λ n. n + 1) f.size ∙ sym (length_push old.tasks accesses));
        run = run_more old.tasks bodies start accesses r f.run;
        status = λ k. f.status k ∙ sym (status_more old.status k);
      })

  pub ends_end : EndsEnd X
  ends_end bodies start r old new i failed f runs has e after =
      let known : i < length old.status = subst (λ n. i < n) (sym f.size) (run_known old.tasks bodies start r f.run i (waits_runs (r.status i) (f.status i ∙ runs))) in
      subst (λ (v : WindowValue). Follows bodies start (ended r i (end_by failed)) v) (sym after) (record {
        size = length-set old.status i (end_by failed) ∙ f.size;
        run = ends r i f.run (f.status i ∙ runs) has (ap (λ b. ended r i (end_by b)) e);
        status = set_status r.status old.status i (end_by failed) known f.status;
      })
