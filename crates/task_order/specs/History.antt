-- A history: a program inserts tasks one by one, and those that it has inserted go as in a run.
use Rattle.std.specs.Prelude.{◌≡◌, ℕ, true, false, List, [], ◌∷◌, ◌++◌}
use Rattle.task_order.specs.declared.access.Access.{Access}
use Rattle.task_order.specs.declared.status.Status.TheVariants.{Running, Cancelled}
use Rattle.task_order.specs.Sequence.{Memory, Bodies, is_cancelled, end_by}
use Rattle.task_order.specs.Run.{IsDue, TaskRun, begun, started, with_memory, ended, ChangesOwn, HasRun}

-- a history from this memory, with the tasks inserted so far: at first none; at any time one more is inserted behind them; else they start, change the memory, end and are cancelled as in a run of them
pub data IsHistory {X : Type 0} (bodies : Bodies X) (start : Memory X) : List (List Access) → TaskRun X → Type 0 where
  begins : {tasks : List (List Access)} → {n : TaskRun X} → tasks ≡ [] → n ≡ begun start → IsHistory bodies start tasks n
  inserts : {tasks : List (List Access)} → {n : TaskRun X} → (before : List (List Access)) → (r : TaskRun X) → (accesses : List Access) → IsHistory bodies start before r →
      tasks ≡ before ++ accesses ∷ [] → n ≡ r → IsHistory bodies start tasks n
  starts : {tasks : List (List Access)} → {n : TaskRun X} → (r : TaskRun X) → (i : ℕ) → IsHistory bodies start tasks r → IsDue tasks r.status i →
      is_cancelled tasks r.status i ≡ false → n ≡ started r i → IsHistory bodies start tasks n
  writes : {tasks : List (List Access)} → {n : TaskRun X} → (r : TaskRun X) → (i : ℕ) → (memory : Memory X) → IsHistory bodies start tasks r → r.status i ≡ Running →
      ChangesOwn tasks i r.memory memory → n ≡ with_memory r memory → IsHistory bodies start tasks n
  ends : {tasks : List (List Access)} → {n : TaskRun X} → (r : TaskRun X) → (i : ℕ) → IsHistory bodies start tasks r → r.status i ≡ Running →
      HasRun tasks bodies r i → n ≡ ended r i (end_by (bodies.fails i (r.found i))) → IsHistory bodies start tasks n
  cancels : {tasks : List (List Access)} → {n : TaskRun X} → (r : TaskRun X) → (i : ℕ) → IsHistory bodies start tasks r → IsDue tasks r.status i →
      is_cancelled tasks r.status i ≡ true → n ≡ ended r i Cancelled → IsHistory bodies start tasks n
