-- Tasks are inserted while others run: a run of tasks is a run of these and of later ones, so each history is a run.
use Rattle.std.proofs.Common.{◌≡◌, ℕ, zero, suc, ◌<◌, ◌≤◌, cond, ◌&&◌, List, [], ◌∷◌, ◌++◌, length, refl, sym, ◌∙◌, ap, subst, arith, length-append}
use Rattle.std.specs.Prelude.{◌≢◌, nat_lt}
use Rattle.std.specs.List.{list_any}
use Rattle.std.proofs.lemmas.Bool.{false_from_ne_true}
use Rattle.std.proofs.lemmas.List.{get_or_append_left}
use Rattle.basics.proofs.ListFacts.{numbers_below, below_contains, list_any_agree}
use Rattle.task_order.specs.declared.access.Access.{Access}
use Rattle.task_order.specs.declared.status.Status.{Status}
use Rattle.task_order.specs.declared.status.Status.TheVariants.{Waiting, Running, Cancelled}
use Rattle.task_order.specs.Tasks.{changes, accesses_of, meets, depends}
use Rattle.task_order.specs.Sequence.{Memory, Bodies, has_started, is_lost, is_cancelled, end_by, Past, after_body, after_none, after_task, sequence}
use Rattle.task_order.specs.Run.{IsDue, TaskRun, IsRun, begins, starts, writes, ends, cancels}
use Rattle.task_order.specs.History.{IsHistory, inserts}
use Rattle.task_order.specs.History.{begins as history_begins, starts as history_starts, writes as history_writes, ends as history_ends, cancels as history_cancels}
use Rattle.task_order.specs.Laws.{Agrees, RunsStay, HistoriesAreRuns, HistoriesAreSequential}
use Rattle.task_order.proofs.Pieces.{dependence_at}
use Rattle.task_order.proofs.Statuses.{started_is_past, running_is_past, set_below}
use Rattle.task_order.proofs.InOrder.{status_kept}
use Rattle.task_order.proofs.Agreement.{runs_are_sequential}

module _ (tasks later : List (List Access)) where
  abbrev all : List (List Access)
  all = tasks ++ later

  -- OF AN INSERTED TASK A LATER ONE CHANGES NOTHING
  accesses_stay : (i : ℕ) → i < length tasks → accesses_of all i ≡ accesses_of tasks i
  accesses_stay i below = get_or_append_left tasks later [] i below

  changes_stay : (i p : ℕ) → i < length tasks → changes (accesses_of tasks i) p ≡ changes (accesses_of all i) p
  changes_stay i p below = ap (λ xs. changes xs p) (sym (accesses_stay i below))

  depends_stays : (i j : ℕ) → i < j → j < length tasks → depends all i j ≡ depends tasks i j
  depends_stays i j before below = ap (λ xs. nat_lt i j && list_any (λ a. list_any (meets a) (accesses_of all j)) xs) (accesses_stay i (omega arith))
      ∙ ap (λ xs. nat_lt i j && list_any (λ a. list_any (meets a) xs) (accesses_of tasks i)) (accesses_stay j below)

  cancelled_stays : (status : ℕ → Status) (i : ℕ) → i < length tasks → is_cancelled all status i ≡ is_cancelled tasks status i
  cancelled_stays status i below = list_any_agree (λ j. depends all j i && is_lost (status j)) (λ j. depends tasks j i && is_lost (status j)) (numbers_below i)
      (λ j listed. ap (λ b. b && is_lost (status j)) (depends_stays j i (below_contains i j listed) below))

  due_stays : (status : ℕ → Status) (i : ℕ) → IsDue tasks status i → IsDue all status i
  due_stays status i due = record {
    inserted = let below : i < length tasks = due.inserted in subst (λ n. i < n) (sym (length-append tasks later)) (omega arith);
    waits = due.waits;
    ready = λ j d. due.ready j (sym (depends_stays j i (dependence_at all j i d).0 due.inserted) ∙ d);
  }

  module _ {X : Type 0} (bodies : Bodies X) (start : Memory X) where
    sequence_stays : (n : ℕ) → n ≤ length tasks → sequence all bodies start n ≡ sequence tasks bodies start n
    sequence_stays zero le = refl
    sequence_stays (suc n) le = ap (λ past. after_task all bodies past n) (sequence_stays n (omega arith))
        ∙ ap (λ b. cond b (after_none (sequence tasks bodies start n) n) (after_body bodies (sequence tasks bodies start n) n)) (cancelled_stays (sequence tasks bodies start n).status n (omega arith))

-- A TASK THAT WAITS NO MORE is an inserted one
module _ {X : Type 0} (tasks : List (List Access)) (bodies : Bodies X) (start : Memory X) where
  abbrev AreInserted : TaskRun X → Type 0
  AreInserted r = (k : ℕ) → r.status k ≢ Waiting → k < length tasks

  inserted : {n : TaskRun X} → IsRun tasks bodies start n → AreInserted n
  inserted (begins e) = subst AreInserted (sym e) (λ k past. absurd (past refl))
  inserted (starts r i run due runs e) = subst AreInserted (sym e) (set_below r.status i (length tasks) Running due.inserted (inserted run))
  inserted (writes r i memory run running own e) = subst AreInserted (sym e) (inserted run)
  inserted (ends r i run running has_run e) = subst AreInserted (sym e)
      (set_below r.status i (length tasks) (end_by (bodies.fails i (r.found i))) (inserted run i (running_is_past (r.status i) running)) (inserted run))
  inserted (cancels r i run due lost e) = subst AreInserted (sym e) (set_below r.status i (length tasks) Cancelled due.inserted (inserted run))

  module _ (later : List (List Access)) where
    stays : {n : TaskRun X} → IsRun tasks bodies start n → IsRun (tasks ++ later) bodies start n
    stays (begins e) = begins e
    stays (starts r i run due runs e) = starts r i (stays run) (due_stays tasks later r.status i due) (cancelled_stays tasks later r.status i due.inserted ∙ runs) e
    stays (writes r i memory run running own e) = writes r i memory (stays run) running
        (λ p cannot. own p (changes_stay tasks later i p (inserted run i (running_is_past (r.status i) running)) ∙ cannot)) e
    stays (ends r i run running has_run e) = ends r i (stays run) running
        (λ p can. has_run p (changes_stay tasks later i p (inserted run i (running_is_past (r.status i) running)) ∙ can)) e
    stays (cancels r i run due lost e) = cancels r i (stays run) (due_stays tasks later r.status i due) (cancelled_stays tasks later r.status i due.inserted ∙ lost) e

pub runs_stay : (X : Type 0) → RunsStay X
runs_stay X tasks later bodies start r run = stays tasks bodies start later run

-- HISTORIES
module _ {X : Type 0} (bodies : Bodies X) (start : Memory X) where
  is_run : {tasks : List (List Access)} {n : TaskRun X} → IsHistory bodies start tasks n → IsRun tasks bodies start n
  is_run (history_begins none e) = begins e
  is_run {tasks} (inserts before r accesses history more e) = subst (λ n. IsRun tasks bodies start n) (sym e)
      (subst (λ now. IsRun now bodies start r) (sym more) (stays before bodies start (accesses ∷ []) (is_run history)))
  is_run (history_starts r i history due runs e) = starts r i (is_run history) due runs e
  is_run (history_writes r i memory history running own e) = writes r i memory (is_run history) running own e
  is_run (history_ends r i history running has_run e) = ends r i (is_run history) running has_run e
  is_run (history_cancels r i history due lost e) = cancels r i (is_run history) due lost e

pub histories_are_runs : (X : Type 0) → HistoriesAreRuns X
histories_are_runs X tasks bodies start r history = is_run bodies start history

pub histories_are_sequential : (X : Type 0) → HistoriesAreSequential X
histories_are_sequential X tasks later bodies start r keeps history over =
    let run : IsRun tasks bodies start r = is_run bodies start history in
    let agrees : Agrees (tasks ++ later) bodies start r = runs_are_sequential X (tasks ++ later) bodies start r keeps (stays tasks bodies start later run) in
    let no_less : length tasks ≤ length (tasks ++ later) = subst (λ n. length tasks ≤ n) (sym (length-append tasks later)) (omega arith) in
    record {
      ends = λ i below. agrees.ends i (over i below)
          ∙ (status_kept (tasks ++ later) bodies start (length (tasks ++ later)) (length tasks) i below no_less
          ∙ ap (λ (past : Past X). past.status i) (sequence_stays tasks later bodies start (length tasks) (omega arith)));
      memory = λ p. agrees.settled (length tasks) p (record {
        before = λ k below changed. over k below;
        behind = λ k from changed. false_from_ne_true (has_started (r.status k)) (λ t.
            let below : k < length tasks = inserted tasks bodies start run k (started_is_past (r.status k) t) in absurd (omega arith));
      }) ∙ ap (λ (past : Past X). past.memory p) (sequence_stays tasks later bodies start (length tasks) (omega arith));
    }
