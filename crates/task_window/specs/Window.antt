-- A window of tasks.
use Rattle.std.specs.Prelude.{◌≡◌, ◌≢◌, ℕ, ◌<◌, Bool, true, false, cond, List, length, IsTrue, slice_set}
use Rattle.task_order.specs.declared.access.Access.{Access}
use Rattle.task_order.specs.declared.status.Status.{Status}
use Rattle.task_order.specs.declared.status.Status.TheVariants.{Waiting, Running, Cancelled}
use Rattle.task_order.specs.Tasks.{depends}
use Rattle.task_order.specs.Sources.{IsSource}
use Rattle.task_order.specs.Sequence.{is_over, is_cancelled}
use Rattle.task_order.specs.Run.{IsDue}
use Rattle.task_window.specs.declared.pieces.Pieces.{Pieces}
use Rattle.task_window.specs.declared.queue.Queue.{Queue}
use Rattle.task_window.specs.Chains.{link_at}
use Rattle.task_window.specs.Waits.{status_at, IsAtRest}
use Rattle.task_window.specs.Pieces.{tasks_of, IsLinked, ArePieces}

-- how many pieces there are, the accesses of the tasks, and how far each has come
pub record WindowValue : Type 0 where
  pub pieces : ℕ
  pub tasks : List (List Access)
  pub status : List Status

-- tasks that have come as far as they may: what a task depends on that waits no more is over, and it is cancelled exactly where it depends on a lost one
pub record IsWindow (tasks : List (List Access)) (status : ℕ → Status) : Type 0 where
  pub started : (i j : ℕ) → IsTrue (depends tasks i j) → status j ≢ Waiting → IsTrue (is_over (status i))
  pub cancelled : (j : ℕ) → status j ≡ Cancelled → is_cancelled tasks status j ≡ true
  pub others : (j : ℕ) → status j ≢ Waiting → status j ≢ Cancelled → is_cancelled tasks status j ≡ false

-- a window tells how far each of its tasks has come
pub record IsSound (v : WindowValue) : Type 0 where
  pub size : length v.status ≡ length v.tasks
  pub window : IsWindow v.tasks (status_at v.status)

-- no task is due
abbrev pub NoneIsDue : WindowValue → Type 0
NoneIsDue v = (i : ℕ) → IsDue v.tasks (status_at v.status) i → ⊥

-- a task that was due runs, or is over where it is cancelled
pub record Takes (old new : WindowValue) (task : ℕ) (cancelled : Bool) : Type 0 where
  pub due : IsDue old.tasks (status_at old.status) task
  pub cancelled_is : cancelled ≡ is_cancelled old.tasks (status_at old.status) task
  pub after : new ≡ record old { status = slice_set old.status task (cond cancelled Cancelled Running) }

-- what a window keeps
pub record IsKept (p : Pieces) (q : Queue) : Type 0 where
  pub pieces : ArePieces p
  pub rest : IsAtRest q
  pub size : length q.status.items ≡ length (tasks_of p)
  pub linked : (i j : ℕ) → IsSource (tasks_of p) i j → IsLinked q.links.links i j
  pub sourced : (x : ℕ) → x < length q.links.links → IsSource (tasks_of p) (link_at q.links.links x).key (link_at q.links.links x).value
  pub window : IsWindow (tasks_of p) (status_at q.status.items)
