-- What holds of tasks and of each run of them whose bodies keep to their accesses.
use Rattle.std.specs.Prelude.{◌≡◌, ◌≢◌, ◌⊎◌, ℕ, ◌<◌, ◌≤◌, ◌↔◌, true, false, List, ◌++◌, length, IsTrue}
use Rattle.task_order.specs.declared.access.Access.{Access}
use Rattle.task_order.specs.declared.status.Status.{Status}
use Rattle.task_order.specs.declared.status.Status.TheVariants.{Waiting, Running, Cancelled}
use Rattle.task_order.specs.Tasks.{uses, changes, accesses_of, depends, ConflictAt, Chain}
use Rattle.task_order.specs.Sources.{IsSource, Path}
use Rattle.task_order.specs.Sequence.{Memory, Bodies, KeepTo, is_over, has_started, is_lost, is_cancelled, sequence}
use Rattle.task_order.specs.Run.{IsDue, TaskRun, IsRun}
use Rattle.task_order.specs.History.{IsHistory}

-- a task uses each piece that it may change
abbrev pub ChangedIsUsed : Type 0
ChangedIsUsed = (accesses : List Access) (p : ℕ) → changes accesses p ≡ true → uses accesses p ≡ true

-- a task depends on those before it with which it conflicts at some piece
abbrev pub DependsByPieces : Type 0
DependsByPieces = (tasks : List (List Access)) (i j : ℕ) → IsTrue (depends tasks i j) ↔ ((i < j) × ((p : ℕ) × ConflictAt tasks i j p))

-- sources lead from one task to another exactly where dependences do
abbrev pub PathsAreChains : Type 0
PathsAreChains = (tasks : List (List Access)) (i j : ℕ) → Path tasks i j ↔ Chain tasks i j

-- a task depends on each of its sources
abbrev pub SourcesAreDependences : Type 0
SourcesAreDependences = (tasks : List (List Access)) (i j : ℕ) → IsSource tasks i j → IsTrue (depends tasks i j)

-- what is tested over all tasks before task j: it depends on a lost one
abbrev pub CancelledByLost : Type 0
CancelledByLost = (tasks : List (List Access)) (status : ℕ → Status) (j : ℕ) → (is_cancelled tasks status j ≡ true) ↔ ((i : ℕ) × IsTrue (depends tasks i j) × IsTrue (is_lost (status i)))

-- each source of a task that waits no more has ended
abbrev pub StartsAfterSources : List (List Access) → (ℕ → Status) → Type 0
StartsAfterSources tasks status = (i j : ℕ) → IsSource tasks i j → status j ≢ Waiting → IsTrue (is_over (status i))

-- then, where all sources of task j have ended, each task that it depends on has
abbrev pub SourcesSuffice : Type 0
SourcesSuffice = (tasks : List (List Access)) (status : ℕ → Status) → StartsAfterSources tasks status →
    (j : ℕ) → ((i : ℕ) → IsSource tasks i j → IsTrue (is_over (status i))) → (i : ℕ) → IsTrue (depends tasks i j) → IsTrue (is_over (status i))

-- and where each task that has ended and depends on a lost one was cancelled, task j depends on a lost one exactly where one of its sources is lost
abbrev pub LostBySources : Type 0
LostBySources = (tasks : List (List Access)) (status : ℕ → Status) → StartsAfterSources tasks status →
    ((k : ℕ) → IsTrue (is_over (status k)) → is_cancelled tasks status k ≡ true → status k ≡ Cancelled) →
    (j : ℕ) → ((i : ℕ) → IsSource tasks i j → IsTrue (is_over (status i))) →
    (is_cancelled tasks status j ≡ true) ↔ ((i : ℕ) × IsSource tasks i j × IsTrue (is_lost (status i)))

-- all tasks have ended
abbrev pub AllOver : List (List Access) → (ℕ → Status) → Type 0
AllOver tasks status = (k : ℕ) → k < length tasks → IsTrue (is_over (status k))

-- piece p is settled after the first n tasks: of the tasks that may change it, those have ended, and the others have not started
pub record IsSettled (tasks : List (List Access)) (status : ℕ → Status) (n p : ℕ) : Type 0 where
  pub before : (k : ℕ) → k < n → changes (accesses_of tasks k) p ≡ true → IsTrue (is_over (status k))
  pub behind : (k : ℕ) → n ≤ k → changes (accesses_of tasks k) p ≡ true → has_started (status k) ≡ false

-- the run agrees with the tasks one after the other
pub record Agrees {X : Type 0} (tasks : List (List Access)) (bodies : Bodies X) (start : Memory X) (r : TaskRun X) : Type 0 where
  -- each task that has ended did so as there
  pub ends : (i : ℕ) → IsTrue (is_over (r.status i)) → r.status i ≡ (sequence tasks bodies start (length tasks)).status i
  -- a task that runs found there what it finds one after the other, in each piece that it uses
  pub finds : (i p : ℕ) → r.status i ≡ Running → uses (accesses_of tasks i) p ≡ true → r.found i p ≡ (sequence tasks bodies start i).memory p
  -- what it only reads stays as it found it
  pub reads : (i p : ℕ) → r.status i ≡ Running → uses (accesses_of tasks i) p ≡ true → changes (accesses_of tasks i) p ≡ false → r.memory p ≡ r.found i p
  -- no other task that runs uses a piece that it may change
  pub apart : (i j p : ℕ) → r.status i ≡ Running → r.status j ≡ Running → i ≢ j → changes (accesses_of tasks i) p ≡ true → uses (accesses_of tasks j) p ≡ false
  -- a piece that is settled after the first n tasks holds what they leave there
  pub settled : (n p : ℕ) → IsSettled tasks r.status n p → r.memory p ≡ (sequence tasks bodies start n).memory p
  -- where all tasks have ended, the memory is as they leave it one after the other
  pub memory : AllOver tasks r.status → (p : ℕ) → r.memory p ≡ (sequence tasks bodies start (length tasks)).memory p

-- so does each run, whatever the memory held at first
abbrev pub RunsAreSequential : Type 0 → Type 0
RunsAreSequential X = (tasks : List (List Access)) (bodies : Bodies X) (start : Memory X) (r : TaskRun X) → KeepTo tasks bodies → IsRun tasks bodies start r → Agrees tasks bodies start r

-- where no task runs, one may start or be cancelled, or all have ended
abbrev pub RunsGoOn : Type 0
RunsGoOn = (tasks : List (List Access)) (status : ℕ → Status) → ((k : ℕ) → status k ≢ Running) → ((i : ℕ) × IsDue tasks status i) ⊎ AllOver tasks status

-- whatever the bodies do, some run ends
abbrev pub SomeRunEnds : Type 0 → Type 0
SomeRunEnds X = (tasks : List (List Access)) (bodies : Bodies X) (start : Memory X) → (r : TaskRun X) × IsRun tasks bodies start r × AllOver tasks r.status

-- a run of tasks is a run of these and of any later ones
abbrev pub RunsStay : Type 0 → Type 0
RunsStay X = (tasks later : List (List Access)) (bodies : Bodies X) (start : Memory X) (r : TaskRun X) → IsRun tasks bodies start r → IsRun (tasks ++ later) bodies start r

-- each history of tasks is a run of them
abbrev pub HistoriesAreRuns : Type 0 → Type 0
HistoriesAreRuns X = (tasks : List (List Access)) (bodies : Bodies X) (start : Memory X) (r : TaskRun X) → IsHistory bodies start tasks r → IsRun tasks bodies start r

-- the tasks have left all as they do one after the other
pub record EndsInOrder {X : Type 0} (tasks : List (List Access)) (bodies : Bodies X) (start : Memory X) (r : TaskRun X) : Type 0 where
  pub ends : (i : ℕ) → i < length tasks → r.status i ≡ (sequence tasks bodies start (length tasks)).status i
  pub memory : (p : ℕ) → r.memory p ≡ (sequence tasks bodies start (length tasks)).memory p

-- so it is in a history whenever all tasks inserted so far have ended, where the bodies of these and of those that come later keep to their accesses
abbrev pub HistoriesAreSequential : Type 0 → Type 0
HistoriesAreSequential X = (tasks later : List (List Access)) (bodies : Bodies X) (start : Memory X) (r : TaskRun X) → KeepTo (tasks ++ later) bodies →
    IsHistory bodies start tasks r → AllOver tasks r.status → EndsInOrder tasks bodies start r
