-- What holds of the tasks that wait and of those that are ready.
use Rattle.std.specs.Prelude.{◌≡◌, ◌≢◌, ℕ, ◌+◌, ◌^◌, ◌==◌, ◌<◌, ◌≤◌, nat_lt, ◌&&◌, ◌||◌, not, Bool, true, false, List, length, map, slice_index, slice_index_or, slice_set}
use Rattle.std.specs.Vec.{vec_capacity}
use Rattle.basics.specs.Lists.{count_below}
use Rattle.task_order.specs.declared.status.Status.{Status}
use Rattle.task_order.specs.declared.status.Status.TheVariants.{Waiting, Running}
use Rattle.task_order.specs.Sequence.{is_over, is_lost}
use Rattle.task_window.specs.declared.links.Link.{Link}
use Rattle.task_window.specs.declared.queue.Queue.{Queue}
use Rattle.task_window.specs.Chains.{link_at}

-- how far task i has come; one that was not inserted waits
abbrev pub status_at : List Status → ℕ → Status
status_at status i = slice_index_or status i Waiting

abbrev pub spoiled_at : List Bool → ℕ → Bool
spoiled_at spoiled i = slice_index_or spoiled i false

-- link x leads to task j and is pending
abbrev pub leads : List Link → (ℕ → Bool) → ℕ → ℕ → Bool
leads links pending j x = ((link_at links x).value == j) && pending x

-- a link leads to task j that a lost task spoils
abbrev pub IsSpoiled : List Link → (ℕ → Bool) → ℕ → Type 0
IsSpoiled links spoils j = (x : ℕ) × (x < length links) × ((link_at links x).value ≡ j) × (spoils x ≡ true)

-- n tasks that have come so far, where these of the links are pending, and these spoil
pub record IsQueue (links : List Link) (n : ℕ) (status : ℕ → Status) (pending spoils : ℕ → Bool) (waits : List ℕ) (spoiled : List Bool) (ready : List ℕ) (started count : ℕ) : Type 0 where
  pub waits_size : n ≤ length waits
  pub spoiled_size : n ≤ length spoiled
  pub ready_size : n ≤ length ready
  pub counts : (j : ℕ) → j < n → slice_index waits j ≡ count_below (leads links pending j) (length links)
  pub spoils_some : (j : ℕ) → j < n → spoiled_at spoiled j ≡ true → IsSpoiled links spoils j
  pub spoils_all : (j : ℕ) → j < n → IsSpoiled links spoils j → spoiled_at spoiled j ≡ true
  pub size : count ≡ count_below (λ j. slice_index waits j == 0) n
  pub within : started ≤ count
  pub listed : (k : ℕ) → k < count → (slice_index ready k < n) × (slice_index waits (slice_index ready k) ≡ 0)
  pub all : (j : ℕ) → j < n → slice_index waits j ≡ 0 → (k : ℕ) × (k < count) × (slice_index ready k ≡ j)
  pub distinct : (k m : ℕ) → k < m → m < count → slice_index ready k ≢ slice_index ready m
  pub begun : (k : ℕ) → k < started → status (slice_index ready k) ≢ Waiting
  pub due : (k : ℕ) → started ≤ k → k < count → status (slice_index ready k) ≡ Waiting
  pub waiting : (j : ℕ) → j < n → 0 < slice_index waits j → status j ≡ Waiting

-- a link from a task that is not over, and from one that is lost
abbrev pub is_pending : List Link → (ℕ → Status) → ℕ → Bool
is_pending links status x = not (is_over (status (link_at links x).key))

abbrev pub is_spoiling : List Link → (ℕ → Status) → ℕ → Bool
is_spoiling links status x = is_lost (status (link_at links x).key)

-- the link is from a task that is just over, and below e: it has not been passed
abbrev pub is_ahead : List Link → ℕ → ℕ → ℕ → Bool
is_ahead links task e x = ((link_at links x).key == task) && nat_lt x e

abbrev pub IsQueueOf : Queue → (ℕ → Bool) → (ℕ → Bool) → Type 0
IsQueueOf q pending spoils = IsQueue q.links.links (length q.status.items) (status_at q.status.items) pending spoils q.waits.items q.spoiled.items q.ready.items q.started q.count

pub record IsSized (q : Queue) : Type 0 where
  pub few : length q.status.items ≤ 2 ^ 31
  pub keys : length q.status.items ≤ q.links.keys
  pub left : q.left ≡ count_below (λ j. not (is_over (status_at q.status.items j))) (length q.status.items)
  pub links : length q.links.links < 2 ^ 32
  pub ends : (x : ℕ) → x < length q.links.links → ((link_at q.links.links x).key < length q.status.items) × ((link_at q.links.links x).value < length q.status.items)

pub record IsAtRest (q : Queue) : Type 0 where
  pub sized : IsSized q
  pub queue : IsQueueOf q (is_pending q.links.links (status_at q.status.items)) (is_spoiling q.links.links (status_at q.status.items))

-- task is just over, and its links below e have not been passed
pub record IsPassing (q : Queue) (task e : ℕ) : Type 0 where
  pub sized : IsSized q
  pub queue : IsQueueOf q (λ x. is_pending q.links.links (status_at q.status.items) x || is_ahead q.links.links task e x)
      (λ x. is_spoiling q.links.links (status_at q.status.items) x && not (is_ahead q.links.links task e x))

-- the first task that was ready and had not started runs now
pub record Starts (old new : Queue) (i : ℕ) : Type 0 where
  pub known : i < length old.status.items
  pub waits : status_at old.status.items i ≡ Waiting
  pub none : slice_index old.waits.items i ≡ 0
  pub status : new.status.items ≡ slice_set old.status.items i Running
  pub links : new.links ≡ old.links
  pub spoiled : new.spoiled ≡ old.spoiled

-- room for one more task with so many links
pub record HasRoom (q : Queue) (more : ℕ) : Type 0 where
  pub status : length q.status.items < vec_capacity q.status
  pub links : length q.links.links + more ≤ q.links.room
  pub keys : length q.status.items < q.links.keys
  pub waits : length q.status.items < length q.waits.items
  pub spoiled : length q.status.items < length q.spoiled.items
  pub ready : length q.status.items < length q.ready.items

-- a link from each of these to a task
abbrev pub links_to : ℕ → List ℕ → List Link
links_to task sources = map (λ (i : ℕ). record { key = i; value = task }) sources
