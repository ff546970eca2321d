-- Tasks by what they use of memory, in the order in which they were inserted, and which depends on which. Memory is cut into pieces, which have numbers.
use Rattle.std.specs.Prelude.{◌≡◌, ◌⊎◌, ℕ, ◌+◌, ◌&&◌, ◌||◌, nat_le, nat_lt, Bool, true, List, [], IsTrue, slice_index_or}
use Rattle.std.specs.List.{list_any}
use Rattle.task_order.specs.declared.access.Access.{Access}

-- an access is of piece p
abbrev pub covers : ℕ → Access → Bool
covers p a = nat_le a.first p && nat_lt p (a.first + a.count)

-- a task with these accesses uses piece p, and may change it
abbrev pub uses : List Access → ℕ → Bool
uses accesses p = list_any (covers p) accesses

abbrev pub changes : List Access → ℕ → Bool
changes accesses p = list_any (λ (a : Access). a.writes && covers p a) accesses

-- the accesses of task i
abbrev pub accesses_of : List (List Access) → ℕ → List Access
accesses_of tasks i = slice_index_or tasks i []

-- two accesses are of a common piece that one of them may change
abbrev pub meets : Access → Access → Bool
meets a b = (a.writes || b.writes) && ((nat_lt 0 a.count && nat_lt 0 b.count) && (nat_lt a.first (b.first + b.count) && nat_lt b.first (a.first + a.count)))

-- task j depends on task i: i was inserted before, and they use a common piece that one of them may change
abbrev pub depends : List (List Access) → ℕ → ℕ → Bool
depends tasks i j = nat_lt i j && list_any (λ a. list_any (meets a) (accesses_of tasks j)) (accesses_of tasks i)

-- two tasks conflict at piece p: both use it, and one of them may change it
pub record ConflictAt (tasks : List (List Access)) (i j p : ℕ) : Type 0 where
  pub one : uses (accesses_of tasks i) p ≡ true
  pub other : uses (accesses_of tasks j) p ≡ true
  pub change : (changes (accesses_of tasks i) p ≡ true) ⊎ (changes (accesses_of tasks j) p ≡ true)

-- tasks each of which depends on the one before it lead from one task to another
pub data Chain (tasks : List (List Access)) : ℕ → ℕ → Type 0 where
  last : {i j : ℕ} → IsTrue (depends tasks i j) → Chain tasks i j
  first : {i k j : ℕ} → IsTrue (depends tasks i k) → Chain tasks k j → Chain tasks i j
