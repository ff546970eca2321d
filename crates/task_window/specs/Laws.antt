-- What the calls of a window say of the run that its bodies make.
use Rattle.std.specs.Prelude.{◌≡◌, ℕ, Bool, true, false, List, [], ◌∷◌, ◌++◌, length, slice_set}
use Rattle.task_order.specs.declared.access.Access.{Access}
use Rattle.task_order.specs.declared.status.Status.TheVariants.{Waiting, Running, Cancelled}
use Rattle.task_order.specs.Sequence.{Memory, Bodies, end_by}
use Rattle.task_order.specs.Run.{TaskRun, IsRun, ChangesOwn, HasRun, begun, started, ended, with_memory}
use Rattle.task_window.specs.Waits.{status_at}
use Rattle.task_window.specs.Window.{WindowValue, Takes}

-- the tasks of a window have made this run: each has come as far in it as the window tells
pub record Follows {X : Type 0} (bodies : Bodies X) (start : Memory X) (r : TaskRun X) (v : WindowValue) : Type 0 where
  pub size : length v.status ≡ length v.tasks
  pub run : IsRun v.tasks bodies start r
  pub status : (k : ℕ) → r.status k ≡ status_at v.status k

-- nothing has run in a window without tasks
abbrev pub RunsBegin : Type 0 → Type 0
RunsBegin X = (bodies : Bodies X) (start : Memory X) (v : WindowValue) → v.tasks ≡ [] → v.status ≡ [] → Follows bodies start (begun start) v

-- a task that is inserted has not started
abbrev pub InsertsKeepRuns : Type 0 → Type 0
InsertsKeepRuns X = (bodies : Bodies X) (start : Memory X) (r : TaskRun X) (old new : WindowValue) (accesses : List Access) → Follows bodies start r old →
    new ≡ record old { tasks = old.tasks ++ accesses ∷ []; status = old.status ++ Waiting ∷ [] } → Follows bodies start r new

-- a task that is taken starts, or is cancelled
abbrev pub TakesStart : Type 0 → Type 0
TakesStart X = (bodies : Bodies X) (start : Memory X) (r : TaskRun X) (old new : WindowValue) (i : ℕ) → Follows bodies start r old → Takes old new i false → Follows bodies start (started r i) new

abbrev pub TakesCancel : Type 0 → Type 0
TakesCancel X = (bodies : Bodies X) (start : Memory X) (r : TaskRun X) (old new : WindowValue) (i : ℕ) → Follows bodies start r old → Takes old new i true → Follows bodies start (ended r i Cancelled) new

-- a task that runs changes what it may
abbrev pub BodiesWrite : Type 0 → Type 0
BodiesWrite X = (bodies : Bodies X) (start : Memory X) (r : TaskRun X) (v : WindowValue) (i : ℕ) (memory : Memory X) → Follows bodies start r v → status_at v.status i ≡ Running →
    ChangesOwn v.tasks i r.memory memory → Follows bodies start (with_memory r memory) v

-- a task whose body has returned ends
abbrev pub EndsEnd : Type 0 → Type 0
EndsEnd X = (bodies : Bodies X) (start : Memory X) (r : TaskRun X) (old new : WindowValue) (i : ℕ) (failed : Bool) → Follows bodies start r old → status_at old.status i ≡ Running →
    HasRun old.tasks bodies r i → failed ≡ bodies.fails i (r.found i) → new ≡ record old { status = slice_set old.status i (end_by failed) } → Follows bodies start (ended r i (end_by failed)) new
