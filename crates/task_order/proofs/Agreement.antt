-- Each run agrees with the tasks one after the other.
use Rattle.std.proofs.Common.{suc, ◌<◌, List, length, sym, ◌∙◌, subst, arith}
use Rattle.std.proofs.lemmas.Bool.{false_from_ne_true}
use Rattle.task_order.specs.declared.access.Access.{Access}
use Rattle.task_order.specs.Sequence.{Memory, Bodies, KeepTo, has_started}
use Rattle.task_order.specs.Run.{TaskRun, IsRun, begins, starts, writes, ends, cancels}
use Rattle.task_order.specs.Laws.{RunsAreSequential}
use Rattle.task_order.proofs.Statuses.{started_is_past, over_is_past}
use Rattle.task_order.proofs.InOrder.{status_kept}
use Rattle.task_order.proofs.Runs.{IsKept, apart, kept_begun, kept_started, kept_written, kept_ended, kept_cancelled}

module _ {X : Type 0} (tasks : List (List Access)) (bodies : Bodies X) (start : Memory X) (keeps : KeepTo tasks bodies) where
  kept : {n : TaskRun X} → IsRun tasks bodies start n → IsKept tasks bodies start n
  kept (begins e) = subst (λ n. IsKept tasks bodies start n) (sym e) (kept_begun tasks bodies start keeps)
  kept (starts r i run due runs e) = subst (λ n. IsKept tasks bodies start n) (sym e) (kept_started tasks bodies start keeps r (kept run) i due runs)
  kept (writes r i memory run running own e) = subst (λ n. IsKept tasks bodies start n) (sym e) (kept_written tasks bodies start keeps r (kept run) i memory running own)
  kept (ends r i run running has_run e) = subst (λ n. IsKept tasks bodies start n) (sym e) (kept_ended tasks bodies start keeps r (kept run) i running has_run)
  kept (cancels r i run due lost e) = subst (λ n. IsKept tasks bodies start n) (sym e) (kept_cancelled tasks bodies start keeps r (kept run) i due lost)

pub runs_are_sequential : (X : Type 0) → RunsAreSequential X
runs_are_sequential X tasks bodies start r keeps run =
    let k : IsKept tasks bodies start r = kept tasks bodies start keeps run in
    record {
      ends = λ i over. k.ends i over ∙ sym (status_kept tasks bodies start (length tasks) (suc i) i (omega arith) (let below : i < length tasks = k.inserted i (over_is_past (r.status i) over) in omega arith));
      finds = k.finds;
      reads = k.reads;
      apart = apart tasks bodies start r k;
      settled = k.memory;
      memory = λ all p. k.memory (length tasks) p (record {
        before = λ i below changed. all i below;
        behind = λ i from changed. false_from_ne_true (has_started (r.status i)) (λ t.
            let below : i < length tasks = k.inserted i (started_is_past (r.status i) t) in absurd (omega arith));
      });
    }
