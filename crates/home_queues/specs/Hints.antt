-- What contracts see of a worker's hints.
use Rattle.std.specs.Prelude.{◌≡◌, ℕ, ◌+◌, ◌<◌, List, length, replicate, slice_index_or}
use Rattle.std.specs.declared.alloc.Global.{Global}
use Rattle.realm_io.specs.Counts.{next_count}
use Rattle.home_queues.specs.Counts.{one_more}

-- which deque it is
abbrev pub Deque : Type 0
Deque = (ℕ × ℕ) × Global

-- which deques it takes from and which of them is its own, the bound, how often each number was put in here, how many in all, how often each was taken here, how many in all, how many pops found its own deque empty, and how many pushes found no free slot there
pub record HintsValue : Type 0 where
  pub deques : List Deque
  pub number : ℕ
  pub lines : ℕ
  pub pushed : List ℕ
  pub pushes : ℕ
  pub taken : List ℕ
  pub takes : ℕ
  pub empty : ℕ
  pub full : ℕ

-- after one number was put in, after one was taken, after its own deque was found empty, and after no free slot was found there
abbrev pub after_pushed : HintsValue → ℕ → HintsValue
after_pushed h x = record h { pushed = one_more h.pushed x; pushes = h.pushes + 1 }

abbrev pub after_taken : HintsValue → ℕ → HintsValue
after_taken h x = record h { taken = one_more h.taken x; takes = h.takes + 1 }

abbrev pub after_empty : HintsValue → HintsValue
after_empty h = record h { empty = next_count h.empty }

abbrev pub after_full : HintsValue → HintsValue
after_full h = record h { full = next_count h.full }

-- nothing was put in or taken here
abbrev pub IsNew : ℕ → HintsValue → Type 0
IsNew n h = (h.pushed ≡ replicate n 0) × (h.pushes ≡ 0) × (h.taken ≡ replicate n 0) × (h.takes ≡ 0) × (h.empty ≡ 0) × (h.full ≡ 0)

-- the part with this number, of this bound and these deques
pub record IsPartAt (n : ℕ) (deques : List Deque) (k : ℕ) (h : HintsValue) : Type 0 where
  pub deques_are : h.deques ≡ deques
  pub number : h.number ≡ k
  pub lines : h.lines ≡ n

-- eight parts that take from the same deques, in order
pub record IsListOf (n : ℕ) (parts : List HintsValue) : Type 0 where
  pub deques : List Deque
  pub eight : length parts ≡ 8
  pub each : (k : ℕ) (h : HintsValue) → k < 8 → IsPartAt n deques k (slice_index_or parts k h)

-- the same part, whatever it did in between
pub record IsSame (old new : HintsValue) : Type 0 where
  pub deques_are : new.deques ≡ old.deques
  pub number : new.number ≡ old.number
  pub lines : new.lines ≡ old.lines

pub record AreSame (olds news : List HintsValue) : Type 0 where
  pub len : length news ≡ length olds
  pub each : (k : ℕ) (h : HintsValue) → k < length olds → IsSame (slice_index_or olds k h) (slice_index_or news k h)
