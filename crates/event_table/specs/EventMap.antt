-- A table of events as a finite map from handles to answers, with the waiters that are placed and caught.
use Rattle.std.specs.Prelude.{◌≡◌, ℕ, ◌+◌, ◌<◌, ◌≤◌, ◌⊎◌, Bool, true, false, ◌&&◌, ◌==◌, nat_lt, cond, List, [], ◌∷◌, ◌++◌, length, map, replicate, slice_index_or, slice_set, Contains, Option, Some, None}
use Rattle.basics.specs.Sums.{total, only}
use Rattle.event_table.specs.declared.handle.Handle.{Handle}
use Rattle.event_table.specs.declared.handle.Fate.{Fate}
use Rattle.event_table.specs.declared.handle.Fate.TheVariants.{Ok, Poison}
use Rattle.event_table.specs.declared.handle.Answer.{Answer}
use Rattle.event_table.specs.declared.handle.Answer.TheVariants.{Pending, Triggered, Poisoned}
use Rattle.event_table.specs.declared.handle.WatchNow.{WatchNow}
use Rattle.event_table.specs.declared.handle.WatchNow.TheVariants.{Placed, Over}

-- the handle of no slot. It is in no map
abbrev pub no_event : Handle
no_event = record { slot = 4294967295; gen_ = 0 }

abbrev pub answer_of : Fate → Answer
answer_of Ok = Triggered
answer_of Poison = Poisoned

-- What has become of a slot: how its generations ended, from generation 0 on; whether the next one is pending; and the waiters placed on that one, the last that was placed first
pub record SlotLife : Type 0 where
  pub fates : List Fate
  pub is_pending : Bool
  pub waiting : List ℕ

-- of a slot that has not served yet
abbrev pub unused : SlotLife
unused = record { fates = []; is_pending = false; waiting = [] }

-- the waiters that were caught stand in the order in which they will be given, each with the handle that it was placed on
pub record EventMap : Type 0 where
  pub waiters : ℕ
  pub last_gen : ℕ
  pub slots : List SlotLife
  pub caught : List (ℕ × Handle)

abbrev pub life_at : EventMap → ℕ → SlotLife
life_at m i = slice_index_or m.slots i unused

-- THE MAP. The answer for a handle, or None where it was not created
abbrev pub answer_in : SlotLife → ℕ → Option Answer
answer_in life g = cond (nat_lt g (length life.fates)) (Some (answer_of (slice_index_or life.fates g Ok))) (cond (life.is_pending && (g == length life.fates)) (Some Pending) None)

abbrev pub answer : EventMap → Handle → Option Answer
answer m h = answer_in (life_at m h.slot) h.gen_

abbrev pub HasEnded : EventMap → Handle → Type 0
HasEnded m h = (f : Fate) × (answer m h ≡ Some (answer_of f))

-- the handle was created. NO_EVENT counts as created
pub record IsCreated (m : EventMap) (h : Handle) : Type 0 where
  pub created : (h ≡ no_event) ⊎ ((a : Answer) × (answer m h ≡ Some a))

-- what was created stays so
abbrev pub KeepsCreated : EventMap → EventMap → Type 0
KeepsCreated m n = (h : Handle) → IsCreated m h → IsCreated n h

-- the waiter stands on the handle, which is pending
pub record IsPlaced (m : EventMap) (k : ℕ) (h : Handle) : Type 0 where
  pub pending : answer m h ≡ Some Pending
  pub stands : Contains (life_at m h.slot).waiting k

-- it is a number of a waiter that is not placed and not caught
pub record IsFree (m : EventMap) (k : ℕ) : Type 0 where
  pub number : k < m.waiters
  pub unplaced : (i : ℕ) → Contains (life_at m i).waiting k → ⊥
  pub uncaught : (h : Handle) → Contains m.caught (k, h) → ⊥

-- each waiter that was free still is
abbrev pub KeepsFree : EventMap → EventMap → Type 0
KeepsFree m n = (k : ℕ) → IsFree m k → IsFree n k

-- the slot may serve once more
pub record MayServe (m : EventMap) (i : ℕ) : Type 0 where
  pub near : i < length m.slots
  pub idle : (life_at m i).is_pending ≡ false
  pub left : length (life_at m i).fates ≤ m.last_gen

-- the slot is retired: its last generation has ended
pub record IsRetired (m : EventMap) (i : ℕ) : Type 0 where
  pub near : i < length m.slots
  pub over : m.last_gen < length (life_at m i).fates

-- each slot is pending or retired
abbrev pub IsFull : EventMap → Type 0
IsFull m = (i : ℕ) → MayServe m i → ⊥

-- THE STEPS. A table in which nothing was created
abbrev pub fresh : ℕ → ℕ → ℕ → EventMap
fresh slots waiters last_gen = record { waiters = waiters; last_gen = last_gen; slots = replicate slots unused; caught = [] }

abbrev pub with_life : EventMap → ℕ → SlotLife → EventMap
with_life m i life = record { waiters = m.waiters; last_gen = m.last_gen; slots = slice_set m.slots i life; caught = m.caught }

-- the next generation of a slot
abbrev pub next_handle : EventMap → ℕ → Handle
next_handle m i = record { slot = i; gen_ = length (life_at m i).fates }

-- that generation becomes pending
abbrev pub created_at : EventMap → ℕ → EventMap
created_at m i = with_life m i (record { fates = (life_at m i).fates; is_pending = true; waiting = (life_at m i).waiting })

-- the waiter is placed on the pending handle
abbrev pub placed_on : EventMap → Handle → ℕ → EventMap
placed_on m h k = with_life m h.slot (record { fates = (life_at m h.slot).fates; is_pending = (life_at m h.slot).is_pending; waiting = k ∷ (life_at m h.slot).waiting })

abbrev pub all_on : Handle → List ℕ → List (ℕ × Handle)
all_on h ks = map (λ k. (k, h)) ks

-- the pending handle ends with this fate, and its waiters are caught
abbrev pub ended_with : EventMap → Handle → Fate → EventMap
ended_with m h f = record {
  waiters = m.waiters;
  last_gen = m.last_gen;
  slots = slice_set m.slots h.slot (record { fates = (life_at m h.slot).fates ++ f ∷ []; is_pending = false; waiting = [] });
  caught = all_on h (life_at m h.slot).waiting ++ m.caught;
}

-- the first of those that are caught is given
abbrev pub Gives : EventMap → ℕ → EventMap → Type 0
Gives m k n = (h : Handle) × (m.caught ≡ (k, h) ∷ n.caught) × (n.waiters ≡ m.waiters) × (n.last_gen ≡ m.last_gen) × (n.slots ≡ m.slots)

-- what watching a handle by the waiter k did
abbrev pub WatchedNow : EventMap → EventMap → Handle → ℕ → WatchNow → Type 0
WatchedNow m n h k Placed = (answer m h ≡ Some Pending) × (n ≡ placed_on m h k)
WatchedNow m n h k (Over f) = (n ≡ m) × (((h ≡ no_event) × (f ≡ Ok)) ⊎ (answer m h ≡ Some (answer_of f)))

-- the same map, in which no waiter is placed or caught
abbrev pub without_waiters : SlotLife → SlotLife
without_waiters life = record { fates = life.fates; is_pending = life.is_pending; waiting = [] }

abbrev pub all_free : EventMap → EventMap
all_free m = record { waiters = m.waiters; last_gen = m.last_gen; slots = map without_waiters m.slots; caught = [] }

-- the same map where slots serve until this generation
abbrev pub up_to_gen : ℕ → EventMap → EventMap
up_to_gen last m = record { waiters = m.waiters; last_gen = last; slots = m.slots; caught = m.caught }

-- WHAT HOLDS OF EACH TABLE. A waiter is weighed as often as it is placed or caught
abbrev pub weight : (ℕ → ℕ) → EventMap → ℕ
weight f m = total (λ (l : SlotLife). total f l.waiting) m.slots + total (λ (p : ℕ × Handle). f p.0) m.caught

pub record IsEventMap (m : EventMap) : Type 0 where
  -- each slot has generations from 0 up to some one, or none, and none is above last_gen
  pub bounded : (h : Handle) (a : Answer) → answer m h ≡ Some a → (h.slot < length m.slots) × (h.gen_ ≤ m.last_gen)
  pub whole : (h : Handle) (a : Answer) (g : ℕ) → answer m h ≡ Some a → g < h.gen_ → (f : Fate) × (answer m (record { slot = h.slot; gen_ = g }) ≡ Some (answer_of f))
  -- a waiter is placed or caught at most once, and a placed one stands on a pending handle
  pub waiter : (k : ℕ) → 0 < weight (only k) m → k < m.waiters
  pub once : (k : ℕ) → weight (only k) m ≤ 1
  pub pending : (i k : ℕ) → Contains (life_at m i).waiting k → answer m (next_handle m i) ≡ Some Pending
