-- How the passes at a deque come back to its owner.
use Rattle.std.specs.Prelude.{◌≡◌, ℕ, ◌+◌, ◌^◌, ◌<◌, ◌≤◌, All, List, length, slice_index_or}
use Rattle.std.specs.Prelude.{Vec}
use Rattle.std.specs.declared.alloc.Global.{Global}
use Rattle.crossbeam_deque.specs.Handles.{worker_deque, worker_flavor, worker_view}
use Rattle.basics.specs.Sums.{total}
use Rattle.home_queues.specs.Parts.{Owner, deque_of, stolen, IsStealRight}
use Rattle.home_queues.specs.declared.deque.StealRight.{StealRight}

-- the weight of what an owner's pass put in and took
abbrev pub put_by : (ℕ → ℕ) → Owner → ℕ
put_by h w = total h (worker_view w).put

abbrev pub taken_by : (ℕ → ℕ) → Owner → ℕ
taken_by h w = total h (worker_view w).taken

-- it owns a deque of this bound, with some share, and has put in no more than it may
pub record IsOwner (n : ℕ) (w : Owner) : Type 0 where
  pub flavor : worker_flavor w ≡ 0
  pub lines : (worker_view w).lines ≡ n
  pub some_share : 0 < (worker_view w).shares
  pub most : length (worker_view w).put ≤ 2 ^ 60

-- each right of the row is one to steal from the deque at its place
abbrev pub Meets : List StealRight → List Owner → Type 0
Meets row owners = (k : ℕ) (r : StealRight) (w : Owner) → k < length row → deque_of (slice_index_or row k r) ≡ worker_deque (slice_index_or owners k w)

-- the owners of the same deques, of which those from the j-th on got one share more
pub record Gains (j k : ℕ) (old new : Owner) : Type 0 where
  pub deque : worker_deque new ≡ worker_deque old
  pub before : k < j → (worker_view new).shares ≡ (worker_view old).shares
  pub from : j ≤ k → (worker_view new).shares ≡ (worker_view old).shares + 1

abbrev pub Gained : ℕ → List Owner → List Owner → Type 0
Gained j olds news = (length news ≡ length olds) × ((k : ℕ) (w : Owner) → k < length olds → Gains j k (slice_index_or olds k w) (slice_index_or news k w))

-- each owner has so many shares
abbrev pub AllHave : ℕ → List Owner → Type 0
AllHave shares owners = All (λ (w : Owner). (worker_view w).shares ≡ shares) owners

-- the weight of what was stolen by a row
abbrev pub row_taken : (ℕ → ℕ) → Vec StealRight Global → ℕ
row_taken h row = total (stolen h) row.items

-- a row of rights to steal from these deques, and rows of them
pub record IsRowFor (n : ℕ) (owners : List Owner) (row : Vec StealRight Global) : Type 0 where
  pub len : length row.items ≡ length owners
  pub meets : Meets row.items owners
  pub right : All (IsStealRight n) row.items

abbrev pub AllMeet : ℕ → List (Vec StealRight Global) → List Owner → Type 0
AllMeet n rows owners = All (IsRowFor n owners) rows
