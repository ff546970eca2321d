-- What holds of a part: of its own deque, and of those from which it may steal.
use Rattle.std.specs.Prelude.{◌≡◌, ℕ, ◌+◌, ◌^◌, ◌<◌, ◌≤◌, All, List, [], map, length, slice_get, slice_index, Some}
use Rattle.std.specs.declared.alloc.Global.{Global}
use Rattle.crossbeam_deque.specs.Handles.{IsPassOf, stealer_deque, worker_deque, worker_flavor, worker_view, worker_capacity, worker_index, view}
use Rattle.crossbeam_deque.specs.declared.handles.Worker.{Worker}
use Rattle.basics.specs.Sums.{total, only}
use Rattle.home_queues.specs.Counts.{CountsValue}
use Rattle.home_queues.specs.Hints.{Deque}
use Rattle.home_queues.specs.Room.{room_for}
use Rattle.home_queues.specs.declared.deque_view.DequeView.{DequeView}
use Rattle.home_queues.specs.declared.deque_rule.DequeRule.{DequeRule}
use Rattle.home_queues.specs.declared.deque.StealRight.{StealRight}

abbrev pub Owner : Type 0
Owner = Worker ℕ Global DequeView DequeRule

abbrev pub deque_of : StealRight → Deque
deque_of r = stealer_deque r.stealer

abbrev pub deques_of : List StealRight → List Deque
deques_of rs = map deque_of rs

-- the weight of what was stolen by this right
abbrev pub stolen : (ℕ → ℕ) → StealRight → ℕ
stolen h r = total h (view r.pass).taken

-- a right to steal from a deque of this bound, by which nothing was put in
pub record IsStealRight (n : ℕ) (r : StealRight) : Type 0 where
  pub at : IsPassOf (deque_of r) r.pass
  pub share : (view r.pass).shares ≡ 1
  pub lines : (view r.pass).lines ≡ n
  pub put : (view r.pass).put ≡ []

-- it owns a deque of this bound, with so many shares
pub record IsOwnerWith (n shares : ℕ) (w : Owner) : Type 0 where
  pub flavor : worker_flavor w ≡ 0
  pub lines : (worker_view w).lines ≡ n
  pub shares_is : (worker_view w).shares ≡ shares

-- the part with this number, of this bound: its deque is among the eight, and the counts are those of what it put in, and of what it took from any of them
pub record IsPart (number n : ℕ) (own : Owner) (rights : List StealRight) (pushed taken : CountsValue) : Type 0 where
  pub below : number < 8
  pub eight : length rights ≡ 8
  pub deque : slice_get (deques_of rights) number ≡ Some (worker_deque own)
  pub owner : IsOwnerWith n 1 own
  pub right : All (IsStealRight n) rights
  pub capacity : room_for n ≤ worker_capacity own
  pub index : worker_index own ≤ pushed.all
  pub pushed_most : pushed.all ≤ 2 ^ 60
  pub put_len : length (worker_view own).put ≡ pushed.all
  pub most : taken.all ≤ 2 ^ 60
  pub pushed_len : length pushed.each ≡ n
  pub taken_len : length taken.each ≡ n
  pub put : (x : ℕ) → x < n → slice_index pushed.each x ≡ total (only x) (worker_view own).put
  pub took : (x : ℕ) → x < n → slice_index taken.each x ≡ total (only x) (worker_view own).taken + total (stolen (only x)) rights
