-- Windows of tasks by handles: what a handle holds, and what each call did.
use Rattle.std.specs.Prelude.{◌≡◌, ◌≢◌, ◌⊎◌, ℕ, ◌+◌, ◌^◌, ◌<◌, ◌≤◌, Bool, cond, not, List, [], ◌∷◌, ◌++◌, length, Option, Some, None, slice_set, IsTrue}
use Rattle.basics.specs.Lists.{count_below}
use Rattle.task_order.specs.declared.access.Access.{Access}
use Rattle.task_order.specs.declared.status.Status.{Status}
use Rattle.task_order.specs.declared.status.Status.TheVariants.{Waiting, Running, Done, Faulted, Cancelled}
use Rattle.task_order.specs.Sequence.{is_over, end_by}
use Rattle.task_window.specs.Pieces.{AreWithin}
use Rattle.task_window.specs.Waits.{status_at}
use Rattle.task_window.specs.Window.{WindowValue, NoneIsDue, Takes}
use Rattle.realm_tasks_c.specs.declared.status.TheConstants.{DONE, NONE, NO_MEMORY, RANGE, WORK_OUT}
use Rattle.realm_tasks_c.specs.declared.token.Token.{Token}
use Rattle.realm_tasks_c.specs.declared.token.Token.TheVariants as token

-- the handle holds a window, of which this is so
abbrev pub HoldsWindow : Option Token → (WindowValue → Type 0) → Type 0
HoldsWindow (Some (token.Window v)) f = f v
HoldsWindow _ f = ⊥

-- where it holds one, this is so of it
abbrev pub IfWindow : Option Token → (WindowValue → Type 0) → Type 0
IfWindow (Some (token.Window v)) f = f v
IfWindow _ f = Unit {0}

-- the handle holds nothing
abbrev pub IsEmpty : Option Token → Type 0
IsEmpty None = Unit {0}
IsEmpty (Some token.Empty) = Unit {0}
IsEmpty (Some (token.Window v)) = ⊥

-- the handle holds something
abbrev pub HoldsAny : Option Token → Type 0
HoldsAny o = (t : Token) × (o ≡ Some t)

-- the number of how far a task has come
abbrev pub status_number : Status → ℕ
status_number Waiting = 0
status_number Running = 1
status_number Done = 2
status_number Faulted = 3
status_number Cancelled = 4

abbrev pub number_of_bool : Bool → ℕ
number_of_bool b = cond b 1 0

-- a window without pieces and tasks
abbrev pub no_window : WindowValue
no_window = record { pieces = 0; tasks = []; status = [] }

-- how many tasks of a window have not ended
abbrev pub left_of : WindowValue → ℕ
left_of v = count_below (λ i. not (is_over (status_at v.status i))) (length v.tasks)

-- nothing changed, and this was answered
pub record Unchanged (v w : WindowValue) (number answer before after : ℕ) : Type 0 where
  pub number_is : number ≡ answer
  pub same : w ≡ v
  pub untold : after ≡ before

-- pieces were to be added
pub record PiecesAdded (v w : WindowValue) (count number before after : ℕ) : Type 0 where
  pub number_is : number ≡ DONE
  pub added : w ≡ record v { pieces = v.pieces + count }
  pub first : after ≡ v.pieces

abbrev pub AddedBy : WindowValue → WindowValue → ℕ → ℕ → ℕ → ℕ → Type 0
AddedBy v w count number before after = PiecesAdded v w count number before after
    ⊎ (Unchanged v w number NO_MEMORY before after ⊎ (Unchanged v w number RANGE before after × (2 ^ 32 ≤ v.pieces + count)))

-- a task was to be inserted
pub record TaskInserted (v w : WindowValue) (accesses : List Access) (number before after : ℕ) : Type 0 where
  pub number_is : number ≡ DONE
  pub within : AreWithin v.pieces accesses
  pub inserted : w ≡ record v { tasks = v.tasks ++ accesses ∷ []; status = v.status ++ Waiting ∷ [] }
  pub task : after ≡ length v.tasks

-- an access is of no piece, or there are as many tasks as may be
abbrev pub IsRefused : WindowValue → List Access → Type 0
IsRefused v accesses = (AreWithin v.pieces accesses → ⊥) ⊎ (2 ^ 31 ≤ length v.tasks)

abbrev pub InsertedBy : WindowValue → WindowValue → List Access → ℕ → ℕ → ℕ → Type 0
InsertedBy v w accesses number before after = TaskInserted v w accesses number before after
    ⊎ (Unchanged v w number NO_MEMORY before after ⊎ (Unchanged v w number RANGE before after × IsRefused v accesses))

-- a task that was due was taken: it runs, or is cancelled and so has ended
pub record TaskTaken (v w : WindowValue) (number task cancelled : ℕ) : Type 0 where
  pub number_is : number ≡ DONE
  pub is_cancelled : Bool
  pub told : cancelled ≡ number_of_bool is_cancelled
  pub taken : Takes v w task is_cancelled

-- no task is due, and nothing changed
pub record NoneTaken (v w : WindowValue) (number task task_before cancelled cancelled_before : ℕ) : Type 0 where
  pub number_is : number ≡ NONE
  pub none : NoneIsDue v
  pub same : w ≡ v
  pub task_is : task ≡ task_before
  pub cancelled_is : cancelled ≡ cancelled_before

abbrev pub TakenBy : WindowValue → WindowValue → ℕ → ℕ → ℕ → ℕ → ℕ → Type 0
TakenBy v w number task_before task cancelled_before cancelled = TaskTaken v w number task cancelled ⊎ NoneTaken v w number task task_before cancelled cancelled_before

-- a task that ran has ended
pub record TaskEnded (v w : WindowValue) (task : ℕ) (failed : Bool) (number : ℕ) : Type 0 where
  pub number_is : number ≡ DONE
  pub ran : status_at v.status task ≡ Running
  pub ended : w ≡ record v { status = slice_set v.status task (end_by failed) }

-- the task does not run, and nothing changed
pub record NotRunning (v w : WindowValue) (task number : ℕ) : Type 0 where
  pub number_is : number ≡ RANGE
  pub idle : status_at v.status task ≢ Running
  pub same : w ≡ v

abbrev pub EndedBy : WindowValue → WindowValue → ℕ → Bool → ℕ → Type 0
EndedBy v w task failed number = TaskEnded v w task failed number ⊎ NotRunning v w task number

-- how far a task has come was told, if there is such a task
pub record StatusTold (v : WindowValue) (task number before after : ℕ) : Type 0 where
  pub known : task < length v.tasks → (number ≡ DONE) × (after ≡ status_number (status_at v.status task))
  pub unknown : length v.tasks ≤ task → (number ≡ RANGE) × (after ≡ before)

-- all tasks were taken out, which have ended
pub record TasksCleared (v w : WindowValue) (number : ℕ) : Type 0 where
  pub number_is : number ≡ DONE
  pub over : (i : ℕ) → i < length v.tasks → IsTrue (is_over (status_at v.status i))
  pub cleared : w ≡ record v { tasks = []; status = [] }

-- a task is left, and nothing changed
pub record TasksLeft (v w : WindowValue) (number : ℕ) : Type 0 where
  pub number_is : number ≡ WORK_OUT
  pub task : ℕ
  pub known : task < length v.tasks
  pub left : IsTrue (not (is_over (status_at v.status task)))
  pub same : w ≡ v

abbrev pub ClearedBy : WindowValue → WindowValue → ℕ → Type 0
ClearedBy v w number = TasksCleared v w number ⊎ TasksLeft v w number
