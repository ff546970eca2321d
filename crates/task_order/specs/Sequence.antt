-- The tasks one after the other, in the order in which they were inserted. One that depends on a task that faulted or was cancelled is cancelled.
use Rattle.std.specs.Prelude.{◌≡◌, ℕ, zero, suc, ◌==◌, ◌&&◌, Bool, true, false, cond, List}
use Rattle.std.specs.List.{list_any}
use Rattle.basics.specs.Lists.{numbers_below}
use Rattle.task_order.specs.declared.access.Access.{Access}
use Rattle.task_order.specs.declared.status.Status.{Status}
use Rattle.task_order.specs.declared.status.Status.TheVariants.{Waiting, Running, Done, Faulted, Cancelled}
use Rattle.task_order.specs.Tasks.{uses, changes, accesses_of, depends}

-- the memory, by piece; what a piece holds is of any type
abbrev pub Memory : Type 0 → Type 0
Memory X = ℕ → X

-- what the bodies of the tasks do: how they leave the memory that they find, and whether they say that they failed
pub record Bodies (X : Type 0) : Type 0 where
  pub leaves : ℕ → Memory X → Memory X
  pub fails : ℕ → Memory X → Bool

-- two memories hold the same in the pieces that task i uses
abbrev pub SameWhereUsed : {X : Type 0} → List (List Access) → ℕ → Memory X → Memory X → Type 0
SameWhereUsed tasks i m n = (p : ℕ) → uses (accesses_of tasks i) p ≡ true → m p ≡ n p

-- the bodies keep to the accesses: they change no piece but those that they may, and what they do depends on the pieces alone that they use
pub record KeepTo {X : Type 0} (tasks : List (List Access)) (bodies : Bodies X) : Type 0 where
  pub untouched : (i : ℕ) (m : Memory X) (p : ℕ) → changes (accesses_of tasks i) p ≡ false → bodies.leaves i m p ≡ m p
  pub leaves : (i : ℕ) (m n : Memory X) → SameWhereUsed tasks i m n → (p : ℕ) → changes (accesses_of tasks i) p ≡ true → bodies.leaves i m p ≡ bodies.leaves i n p
  pub fails : (i : ℕ) (m n : Memory X) → SameWhereUsed tasks i m n → bodies.fails i m ≡ bodies.fails i n

-- a task has ended, and it has ended without being done
abbrev pub is_over : Status → Bool
is_over Waiting = false
is_over Running = false
is_over Done = true
is_over Faulted = true
is_over Cancelled = true

abbrev pub is_lost : Status → Bool
is_lost Waiting = false
is_lost Running = false
is_lost Done = false
is_lost Faulted = true
is_lost Cancelled = true

-- its body runs or has run
abbrev pub has_started : Status → Bool
has_started Waiting = false
has_started Running = true
has_started Done = true
has_started Faulted = true
has_started Cancelled = false

-- how a body ends that says whether it failed
abbrev pub end_by : Bool → Status
end_by failed = cond failed Faulted Done

-- task i depends on one that is lost
abbrev pub is_cancelled : List (List Access) → (ℕ → Status) → ℕ → Bool
is_cancelled tasks status i = list_any (λ j. depends tasks j i && is_lost (status j)) (numbers_below i)

-- how the tasks have ended so far, and the memory as they left it
pub record Past (X : Type 0) : Type 0 where
  pub status : ℕ → Status
  pub memory : Memory X

abbrev pub with_status : (ℕ → Status) → ℕ → Status → ℕ → Status
with_status status i s k = cond (k == i) s (status k)

-- task i after those before it
abbrev pub after_body : {X : Type 0} → Bodies X → Past X → ℕ → Past X
after_body bodies past i = record { status = with_status past.status i (end_by (bodies.fails i past.memory)); memory = bodies.leaves i past.memory }

abbrev pub after_none : {X : Type 0} → Past X → ℕ → Past X
after_none past i = record { status = with_status past.status i Cancelled; memory = past.memory }

abbrev pub after_task : {X : Type 0} → List (List Access) → Bodies X → Past X → ℕ → Past X
after_task tasks bodies past i = cond (is_cancelled tasks past.status i) (after_none past i) (after_body bodies past i)

-- the first n tasks, one after the other, from this memory
abbrev pub sequence : {X : Type 0} → List (List Access) → Bodies X → Memory X → ℕ → Past X
sequence tasks bodies start zero = record { status = λ k. Waiting; memory = start }
sequence tasks bodies start (suc n) = after_task tasks bodies (sequence tasks bodies start n) n
