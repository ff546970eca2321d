-- The rule of a deque of hints. What all passes have put in is what they have taken and what the deque holds, whatever the weight of each number, and each is below the bound.
use Rattle.std.specs.Prelude.{◌≡◌, ℕ, ◌+◌, ◌-◌, ◌<◌, ◌≤◌, All, List, [], ◌++◌, length}
use mathlib.Core.Option.{some}
use lib.ListN.{get_elem?}
use Rattle.basics.specs.Sums.{total}
use Rattle.home_queues.specs.declared.deque_view.DequeView.{DequeView}

-- one for the owner, and one for each of the eight rights to steal
abbrev pub all_shares : ℕ
all_shares = 9

abbrev pub first_view : DequeView
first_view = record { lines = 0; shares = 9; put = []; taken = [] }

-- a pass that has no share
abbrev pub spent_view : DequeView
spent_view = record { lines = 0; shares = 0; put = []; taken = [] }

abbrev pub with_lines : ℕ → DequeView → DequeView
with_lines n v = record { lines = n; shares = v.shares; put = v.put; taken = v.taken }

abbrev pub without_share : DequeView → DequeView
without_share v = record { lines = v.lines; shares = v.shares - 1; put = v.put; taken = v.taken }

abbrev pub one_share : DequeView → DequeView
one_share v = record { lines = v.lines; shares = 1; put = []; taken = [] }

abbrev pub joined : DequeView → DequeView → DequeView
joined v w = record { lines = v.lines; shares = v.shares + w.shares; put = v.put ++ w.put; taken = v.taken ++ w.taken }

abbrev pub with_put : DequeView → List ℕ → DequeView
with_put v xs = record { lines = v.lines; shares = v.shares; put = v.put ++ xs; taken = v.taken }

abbrev pub with_taken : DequeView → List ℕ → DequeView
with_taken v xs = record { lines = v.lines; shares = v.shares; put = v.put; taken = v.taken ++ xs }

pub record Holds (items : List ℕ) (views : List DequeView) : Type 0 where
  pub lines : ℕ
  pub below : All (λ x. x < lines) items
  -- each pass with a share knows the bound, and there is one pass alone until it is set
  pub same : (p : ℕ) (v : DequeView) → get_elem? views p ≡ some v → 0 < v.shares → v.lines ≡ lines
  pub alone : lines ≡ 0 → length views ≡ 1
  pub whole : total (λ v. v.shares) views ≡ all_shares
  pub idle : (p : ℕ) (v : DequeView) → get_elem? views p ≡ some v → v.shares ≡ 0 → (v.put ≡ []) × (v.taken ≡ [])
  pub balanced : (h : ℕ → ℕ) → total (λ v. total h v.put) views ≡ total (λ v. total h v.taken) views + total h items

-- at one moment the deque was empty under its rule, with a pass that knew this
unfoldable pub SawEmpty : DequeView → Type 0
SawEmpty v = (views : List DequeView) × (p : ℕ) × Holds [] views × (get_elem? views p ≡ some v)

-- all that was put in was taken
abbrev pub IsDrained : DequeView → Type 0
IsDrained v = v.shares ≡ all_shares → (h : ℕ → ℕ) → total h v.put ≡ total h v.taken

-- a number below the bound was taken by the pass that has all shares, and no more were taken than put in
abbrev pub DrainsOne : DequeView → List ℕ → DequeView → Type 0
DrainsOne v xs w = (w ≡ with_taken v xs) × All (λ x. x < v.lines) xs × (v.shares ≡ all_shares → length w.taken ≤ length w.put)
