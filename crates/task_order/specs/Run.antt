-- A run of the tasks: they start once all that they depend on has ended, in any order and any number at once, change the memory step by step, and end.
use Rattle.std.specs.Prelude.{◌≡◌, ℕ, ◌<◌, ◌==◌, true, false, cond, List, length, IsTrue}
use Rattle.task_order.specs.declared.access.Access.{Access}
use Rattle.task_order.specs.declared.status.Status.{Status}
use Rattle.task_order.specs.declared.status.Status.TheVariants.{Waiting, Running, Cancelled}
use Rattle.task_order.specs.Tasks.{changes, accesses_of, depends}
use Rattle.task_order.specs.Sequence.{Memory, Bodies, is_over, is_cancelled, end_by, with_status}

-- task i may start: it waits, and each task that it depends on has ended
pub record IsDue (tasks : List (List Access)) (status : ℕ → Status) (i : ℕ) : Type 0 where
  pub inserted : i < length tasks
  pub waits : status i ≡ Waiting
  pub ready : (j : ℕ) → IsTrue (depends tasks j i) → IsTrue (is_over (status j))

-- how far each task has come, the memory, and what each found there when it started
pub record TaskRun (X : Type 0) : Type 0 where
  pub status : ℕ → Status
  pub memory : Memory X
  pub found : ℕ → Memory X

abbrev pub begun : {X : Type 0} → Memory X → TaskRun X
begun start = record { status = λ k. Waiting; memory = start; found = λ k. start }

abbrev pub started : {X : Type 0} → TaskRun X → ℕ → TaskRun X
started r i = record { status = with_status r.status i Running; memory = r.memory; found = λ k. cond (k == i) r.memory (r.found k) }

abbrev pub with_memory : {X : Type 0} → TaskRun X → Memory X → TaskRun X
with_memory r memory = record { status = r.status; memory = memory; found = r.found }

abbrev pub ended : {X : Type 0} → TaskRun X → ℕ → Status → TaskRun X
ended r i s = record { status = with_status r.status i s; memory = r.memory; found = r.found }

-- no piece differs but those that task i may change
abbrev pub ChangesOwn : {X : Type 0} → List (List Access) → ℕ → Memory X → Memory X → Type 0
ChangesOwn tasks i old new = (p : ℕ) → changes (accesses_of tasks i) p ≡ false → new p ≡ old p

-- the pieces that task i may change hold what its body leaves there of what it found
abbrev pub HasRun : {X : Type 0} → List (List Access) → Bodies X → TaskRun X → ℕ → Type 0
HasRun tasks bodies r i = (p : ℕ) → changes (accesses_of tasks i) p ≡ true → r.memory p ≡ bodies.leaves i (r.found i) p

-- a run from this memory: tasks start, those that run change the memory in any number of steps and end, and tasks are cancelled that depend on a lost one
pub data IsRun {X : Type 0} (tasks : List (List Access)) (bodies : Bodies X) (start : Memory X) : TaskRun X → Type 0 where
  begins : {n : TaskRun X} → n ≡ begun start → IsRun tasks bodies start n
  starts : {n : TaskRun X} → (r : TaskRun X) → (i : ℕ) → IsRun tasks bodies start r → IsDue tasks r.status i → is_cancelled tasks r.status i ≡ false →
      n ≡ started r i → IsRun tasks bodies start n
  writes : {n : TaskRun X} → (r : TaskRun X) → (i : ℕ) → (memory : Memory X) → IsRun tasks bodies start r → r.status i ≡ Running →
      ChangesOwn tasks i r.memory memory → n ≡ with_memory r memory → IsRun tasks bodies start n
  ends : {n : TaskRun X} → (r : TaskRun X) → (i : ℕ) → IsRun tasks bodies start r → r.status i ≡ Running →
      HasRun tasks bodies r i → n ≡ ended r i (end_by (bodies.fails i (r.found i))) → IsRun tasks bodies start n
  cancels : {n : TaskRun X} → (r : TaskRun X) → (i : ℕ) → IsRun tasks bodies start r → IsDue tasks r.status i → is_cancelled tasks r.status i ≡ true →
      n ≡ ended r i Cancelled → IsRun tasks bodies start n
