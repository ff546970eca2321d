-- Owners and rows that nobody used yet.
use Rattle.std.specs.Prelude.{◌≡◌, ℕ, ◌≤◌, All, List, [], ◌∷◌, map}
use Rattle.std.specs.Prelude.{Vec}
use Rattle.std.specs.declared.alloc.Global.{Global}
use Rattle.crossbeam_deque.specs.Handles.{worker_deque, worker_flavor, worker_view, worker_capacity, worker_index, view}
use Rattle.home_queues.specs.Hints.{Deque}
use Rattle.home_queues.specs.Room.{room_for}
use Rattle.home_queues.specs.Parts.{Owner, deques_of, IsStealRight}
use Rattle.home_queues.specs.declared.deque_view.DequeView.{DequeView}
use Rattle.home_queues.specs.declared.deque.StealRight.{StealRight}

abbrev pub fresh_view : ℕ → ℕ → DequeView
fresh_view n shares = record { lines = n; shares = shares; put = []; taken = [] }

-- an owner of an empty deque, with so many shares
pub record IsFresh (n shares : ℕ) (w : Owner) : Type 0 where
  pub flavor : worker_flavor w ≡ 0
  pub capacity : room_for n ≤ worker_capacity w
  pub index : worker_index w ≡ 0
  pub known : worker_view w ≡ fresh_view n shares

-- a right to steal by which nothing was stolen
pub record IsNewRight (n : ℕ) (r : StealRight) : Type 0 where
  pub right : IsStealRight n r
  pub taken : (view r.pass).taken ≡ []

abbrev pub owner_deques : List Owner → List Deque
owner_deques ws = map (λ w. worker_deque w) ws

-- a row of such rights, one for each of these deques
pub record IsRow (n : ℕ) (deques : List Deque) (row : Vec StealRight Global) : Type 0 where
  pub deques_are : deques_of row.items ≡ deques
  pub right : All (IsNewRight n) row.items

abbrev pub first_shares : List Owner → ℕ
first_shares [] = 0
first_shares (w ∷ ws) = (worker_view w).shares
