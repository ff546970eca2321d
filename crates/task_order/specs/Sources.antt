-- The tasks that a task waits for: of those that it depends on, the ones behind which no other has changed the piece.
use Rattle.std.specs.Prelude.{◌≡◌, ◌⊎◌, ℕ, ◌<◌, true, false, List}
use Rattle.task_order.specs.declared.access.Access.{Access}
use Rattle.task_order.specs.Tasks.{uses, changes, accesses_of}

-- task i is a source of task j by piece p: both use it, one of them may change it, and no task between them may
pub record IsSourceBy (tasks : List (List Access)) (i j p : ℕ) : Type 0 where
  pub before : i < j
  pub one : uses (accesses_of tasks i) p ≡ true
  pub other : uses (accesses_of tasks j) p ≡ true
  pub change : (changes (accesses_of tasks i) p ≡ true) ⊎ (changes (accesses_of tasks j) p ≡ true)
  pub next : (k : ℕ) → i < k → k < j → changes (accesses_of tasks k) p ≡ false

abbrev pub IsSource : List (List Access) → ℕ → ℕ → Type 0
IsSource tasks i j = (p : ℕ) × IsSourceBy tasks i j p

-- sources lead from one task to another
pub data Path (tasks : List (List Access)) : ℕ → ℕ → Type 0 where
  last : {i j : ℕ} → IsSource tasks i j → Path tasks i j
  first : {i k j : ℕ} → IsSource tasks i k → Path tasks k j → Path tasks i j
