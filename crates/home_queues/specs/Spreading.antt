-- Parts that were taken apart.
use Rattle.std.specs.Prelude.{◌≡◌, ℕ, ◌+◌, ◌<◌, ◌≤◌, All, Some, List, [], length, slice_get, slice_index, slice_index_or, Vec, vec_capacity}
use Rattle.std.specs.declared.alloc.Global.{Global}
use Rattle.crossbeam_deque.specs.Handles.{worker_deque, worker_view}
use Rattle.basics.specs.Sums.{total, only}
use Rattle.home_queues.specs.Hints.{Deque, HintsValue, IsPartAt}
use Rattle.home_queues.specs.Parts.{Owner, deques_of, IsStealRight}
use Rattle.home_queues.specs.Closing.{IsOwner, put_by, taken_by, row_taken}
use Rattle.home_queues.specs.Tallies.{IsCounted}
use Rattle.home_queues.specs.declared.deque.StealRight.{StealRight}
use Rattle.home_queues.specs.declared.tally.PartCounts.{PartCounts}

-- a vector with room for eight
abbrev pub IsRoom : {A : Type 0} → Vec A Global → Type 0
IsRoom v = (v.items ≡ []) × (8 ≤ vec_capacity v)

-- an owner of the deque at this place, with one share
pub record IsOwnerAt (n : ℕ) (deques : List Deque) (k : ℕ) (w : Owner) : Type 0 where
  pub owner : IsOwner n w
  pub share : (worker_view w).shares ≡ 1
  pub deque : slice_get deques k ≡ Some (worker_deque w)

pub record IsRowOf (n : ℕ) (deques : List Deque) (row : Vec StealRight Global) : Type 0 where
  pub deques_are : deques_of row.items ≡ deques
  pub len : length row.items ≡ 8
  pub right : All (IsStealRight n) row.items

-- all parts but the last ones were taken apart, and nothing was lost
pub record Spread (n : ℕ) (parts last : List HintsValue) (owners : List Owner) (rows : List (Vec StealRight Global)) (counts : List PartCounts) : Type 0 where
  pub deques : List Deque
  pub tied : (k : ℕ) (h : HintsValue) → k < 8 → IsPartAt n deques k (slice_index_or parts k h)
  pub owners_len : length owners + length last ≡ 8
  pub rows_len : length rows + length last ≡ 8
  pub counts_len : length counts + length last ≡ 8
  pub each_owner : (k : ℕ) (w : Owner) → k < length owners → IsOwnerAt n deques k (slice_index_or owners k w)
  pub each_row : All (IsRowOf n deques) rows
  pub each_count : All (IsCounted n) counts
  pub pushed : (x : ℕ) → total (λ c. slice_index c.pushed.each x) counts + total (λ p. slice_index p.pushed x) last ≡ total (λ p. slice_index p.pushed x) parts
  pub taken : (x : ℕ) → total (λ c. slice_index c.taken.each x) counts + total (λ p. slice_index p.taken x) last ≡ total (λ p. slice_index p.taken x) parts
  pub put : (x : ℕ) → x < n → total (put_by (only x)) owners + total (λ p. slice_index p.pushed x) last ≡ total (λ p. slice_index p.pushed x) parts
  pub took : (x : ℕ) → x < n → total (taken_by (only x)) owners + total (row_taken (only x)) rows + total (λ p. slice_index p.taken x) last ≡ total (λ p. slice_index p.taken x) parts
