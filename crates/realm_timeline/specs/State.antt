-- The state of a simulation in virtual time, and what holds of it between two steps.
use Rattle.std.specs.Prelude.{◌≡◌, ℕ, ◌+◌, ◌*◌, ◌<◌, ◌≤◌, ◌==◌, ◌⊎◌, ◌↔◌, Bool, true, false, cond, not, ◌&&◌, ◌||◌, List, [], length, take, Contains, Option, Some, None, slice_index, count_by}
use Rattle.std.specs.Option.{option_map_or}
use Rattle.std.specs.List.{list_any, slice_index_or}
use Rattle.graph_terms.specs.declared.verb.Access.{Access}
use Rattle.graph_terms.specs.Access.{accesses, is_read}
use Rattle.realm_timeline.specs.Columns.{Collide, AreApart, AreFreeFor, IsFirstFor}
use Rattle.graph_terms.specs.declared.verb.Edge.{Edge}
use Rattle.graph_terms.specs.declared.verb.Verb.{Verb}
use Rattle.graph_terms.specs.declared.verb.Verb.TheVariants.{Acquire}
use Rattle.graph_terms.specs.Graph.{GraphValue, verb_at, line_passes, never_comes, locks, columns}
use Rattle.graph_terms.specs.Edges.{edges}
use Rattle.graph_terms.specs.Reservations.{Releases}
use Rattle.basics.specs.Lists.{count_below}
use Rattle.realm_timeline.specs.declared.slot.Slot.{Slot}
use Rattle.realm_timeline.specs.declared.simulation.Simulation.{Simulation}
use Rattle.realm_timeline.specs.Plan.{slot_at, HasSlot, IsPartialPlan, FinishedBy, ReleasedBy, Exclude, IsValid, IsMoment, IsReadyAt, IsFreeFor, MayStart, StartsAt}
use Rattle.realm_timeline.specs.Queue.{QueueValue, queue_at, has_line, IsUnheld, AllHeldOrEmpty}

-- whether columns keep lines apart, the time, the slots so far, the lines that have one in the order of their starts, whether each line has finished, how many edges it waits for, the queues, and the line that each processor runs
pub record State : Type 0 where
  pub by_columns : Bool
  pub time : ℕ
  pub slots : List (Option Slot)
  pub order : List ℕ
  pub done : List Bool
  pub left : List ℕ
  pub queues : List QueueValue
  pub running : List (Option ℕ)

-- the state of a simulation, as plain data
abbrev pub state_of : Simulation → State
state_of r = record { by_columns = r.by_columns; time = r.time; slots = r.slots.items; order = r.order.items; done = r.done.items; left = r.left.items; queues = r.queues.items; running = r.running.items }

-- the numbers of the queues of a reservation: of its acquires that are not shared, and of those that are
abbrev pub exclusive_queue : ℕ → ℕ
exclusive_queue l = 2 * l + 1

abbrev pub shared_queue : ℕ → ℕ
shared_queue l = 2 * l + 2

-- the number of the queue of a line: queue 0 is for all lines but acquires
abbrev pub verb_queue : Verb → ℕ
verb_queue (Acquire l true) = shared_queue l
verb_queue (Acquire l false) = exclusive_queue l
verb_queue _ = 0

abbrev pub queue_of : GraphValue → ℕ → ℕ
queue_of g i = option_map_or verb_queue (verb_at g i) 0

-- whether a line, once it holds its reservation, keeps those of a queue from starting: a shared acquire keeps only those from it that are not shared
abbrev pub verb_bars : ℕ → Verb → Bool
verb_bars q (Acquire l true) = q == exclusive_queue l
verb_bars q (Acquire l false) = (q == exclusive_queue l) || (q == shared_queue l)
verb_bars q _ = false

abbrev pub bars : GraphValue → ℕ → ℕ → Bool
bars g k q = line_passes (verb_bars q) g k

-- the queues of a column, which are numbered behind those of reservations: of the lines that change it, and of those that only read it
abbrev pub changing_queue : GraphValue → ℕ → ℕ
changing_queue g c = exclusive_queue (length (locks g) + c)

abbrev pub reading_queue : GraphValue → ℕ → ℕ
reading_queue g c = shared_queue (length (locks g) + c)

-- the queue of a column in which a line waits for an access
abbrev pub access_queue : GraphValue → Access → ℕ
access_queue g a = cond (is_read a.mode) (reading_queue g a.column) (changing_queue g a.column)

-- whether an access keeps the lines of a queue from starting: one that only reads keeps only those that change its column
abbrev pub access_bars : GraphValue → ℕ → Access → Bool
access_bars g q a = (q == changing_queue g a.column) || (not (is_read a.mode) && (q == reading_queue g a.column))

-- whether a line has to wait in a queue while that is held: for its reservation, or for a column where these keep lines apart
abbrev pub joins : GraphValue → Bool → ℕ → ℕ → Bool
joins g by_columns i q = (q == queue_of g i) || (by_columns && list_any (λ a. q == access_queue g a) (accesses g i))

-- whether a line that runs keeps the lines of a queue from starting, by a column
abbrev pub uses_bar : GraphValue → Bool → ℕ → ℕ → Bool
uses_bar g by_columns k q = by_columns && list_any (access_bars g q) (accesses g k)

-- the queues that a line holds once it has started
abbrev pub held_by : GraphValue → Bool → ℕ → ℕ → Bool
held_by g by_columns k q = bars g k q || uses_bar g by_columns k q

-- how many queues there are
abbrev pub count_of_queues : GraphValue → Bool → ℕ
count_of_queues g by_columns = 2 * (length (locks g) + cond by_columns (length (columns g)) 0) + 1

-- two lines that keep each other from starting: by their reservation, or by a column where these keep lines apart
abbrev pub Hinder : GraphValue → Bool → ℕ → ℕ → Type 0
Hinder g by_columns i k = Exclude g i k ⊎ ((by_columns ≡ true) × Collide g i k)

-- whether a line has finished
abbrev pub is_done : List Bool → ℕ → Bool
is_done done i = slice_index_or done i false

-- the line that a processor runs
abbrev pub runs_at : List (Option ℕ) → ℕ → Option ℕ
runs_at running q = slice_index_or running q None

-- an edge into line i from a line that has not finished
abbrev pub waits_for : List Bool → ℕ → Edge → Bool
waits_for done i e = (e.to == i) && not (is_done done e.from)

-- a line that stands in a queue: it comes, waits for no edge, and has not started
pub record IsQueued (g : GraphValue) (s : State) (i : ℕ) : Type 0 where
  pub line : i < length g.lines
  pub free : slice_index s.left i ≡ 0
  pub comes : never_comes g i ≡ false
  pub waits : slot_at s.slots i ≡ None

-- line k has started, and no release of it has finished
pub record Holds (g : GraphValue) (slots : List (Option Slot)) (done : List Bool) (k : ℕ) : Type 0 where
  pub slot : Slot
  pub has : HasSlot slots k slot
  pub unreleased : (r : ℕ) → Releases g r k → is_done done r ≡ false

-- line k runs
pub record Runs (slots : List (Option Slot)) (done : List Bool) (k : ℕ) : Type 0 where
  pub slot : Slot
  pub has : HasSlot slots k slot
  pub undone : is_done done k ≡ false

-- line k holds a queue: by its reservation, or by a column
abbrev pub IsHolder : GraphValue → State → ℕ → ℕ → Type 0
IsHolder g s k q = ((bars g k q ≡ true) × Holds g s.slots s.done k) ⊎ ((uses_bar g s.by_columns k q ≡ true) × Runs s.slots s.done k)

-- the tables agree with the slots and with the lines that have finished; the edges of `rest` are still counted, though their sources have finished
pub record IsConsistent (g : GraphValue) (processors : ℕ) (s : State) (rest : List Edge) : Type 0 where
  -- there is an entry for each line, two queues for each reservation and, where columns keep lines apart, for each column, one queue more, and an entry for each processor
  pub slot_count : length s.slots ≡ length g.lines
  pub done_count : length s.done ≡ length g.lines
  pub left_count : length s.left ≡ length g.lines
  pub queue_count : length s.queues ≡ count_of_queues g s.by_columns
  pub processor_count : length s.running ≡ processors
  -- each line waits for the edges from lines that have not finished; one that has started waits for none
  pub left : (i : ℕ) → slice_index s.left i ≡ count_by (waits_for s.done i) (edges g) + count_by (λ (e : Edge). e.to == i) rest
  pub started_free : (i : ℕ) (x : Slot) → HasSlot s.slots i x → slice_index s.left i ≡ 0
  pub finished_started : (i : ℕ) → is_done s.done i ≡ true → (x : Slot) × HasSlot s.slots i x
  -- each line that waits in a queue stands in one of those in which it may have to wait, or in queue 0
  pub queued : (q i : ℕ) → has_line (queue_at s.queues q).lines i ≡ true → IsQueued g s i × (joins g s.by_columns i q ≡ true)
  pub one_place : (q r i : ℕ) → has_line (queue_at s.queues q).lines i ≡ true → has_line (queue_at s.queues r).lines i ≡ true → q ≡ r
  pub all_queued : (i : ℕ) → IsQueued g s i → (q : ℕ) × (has_line (queue_at s.queues q).lines i ≡ true)
  -- the holders of a queue are exactly the lines that hold it by a reservation or by a column
  pub holders : (q k : ℕ) → (has_line (queue_at s.queues q).holders k ≡ true) ↔ IsHolder g s k q
  -- a processor runs a line exactly while the line has started and not finished
  pub runs : (q k : ℕ) → runs_at s.running q ≡ Some k → (is_done s.done k ≡ false) × ((x : Slot) × HasSlot s.slots k x × (x.processor ≡ q))
  pub running : (k : ℕ) (x : Slot) → HasSlot s.slots k x → is_done s.done k ≡ false → runs_at s.running x.processor ≡ Some k
  -- the order has the lines that have started, each once and after its sources
  pub ordered : (i : ℕ) → Contains s.order i ↔ ((x : Slot) × HasSlot s.slots i x)
  pub once : (a b : ℕ) → a < b → b < length s.order → slice_index s.order a ≡ slice_index s.order b → ⊥
  pub before : (p : ℕ) → p < length s.order → (e : Edge) → Contains (edges g) e → e.to ≡ slice_index s.order p → Contains (take p s.order) e.from

-- a line that is ready at time u, and may start then, with its columns free for it where these keep lines apart
pub record MayStartNow (g : GraphValue) (by_columns : Bool) (processors : ℕ) (plan : List (Option Slot)) (u i : ℕ) : Type 0 where
  pub ready : IsReadyAt g plan u i
  pub may : MayStart g processors plan u i
  pub free : by_columns ≡ true → AreFreeFor g plan u i
  pub first : by_columns ≡ true → IsFirstFor g plan u i

-- each line that may start at time u does
abbrev pub IsGreedyAt : GraphValue → Bool → ℕ → List (Option Slot) → ℕ → Type 0
IsGreedyAt g by_columns processors plan u = IsMoment plan u → (i : ℕ) → MayStartNow g by_columns processors plan u i → StartsAt plan u i

-- the slots so far are those of a plan that is valid, and greedy before time t
pub record IsGreedyUpTo (g : GraphValue) (by_columns : Bool) (processors : ℕ) (plan : List (Option Slot)) (t : ℕ) : Type 0 where
  pub some : IsPartialPlan g processors plan
  pub valid : IsValid g plan
  pub apart : by_columns ≡ true → AreApart g plan
  pub moments : (i : ℕ) (s : Slot) → HasSlot plan i s → IsMoment plan s.start
  pub free : (i : ℕ) (s : Slot) → HasSlot plan i s → IsFreeFor plan s.start i s.processor
  pub lowest : (i : ℕ) (s : Slot) → HasSlot plan i s → (q : ℕ) → IsFreeFor plan s.start i q → s.processor ≤ q
  pub early : (i : ℕ) (s : Slot) → HasSlot plan i s → s.start ≤ t
  pub moment : IsMoment plan t
  pub greedy : (u : ℕ) → u < t → IsGreedyAt g by_columns processors plan u

-- the lines that are marked as finished are those whose finish is not later than now
pub record DoneAreFinished (s : State) : Type 0 where
  pub finished : (i : ℕ) → is_done s.done i ≡ true → FinishedBy s.slots s.time i
  pub marked : (i : ℕ) → FinishedBy s.slots s.time i → is_done s.done i ≡ true

-- no line that has started before now keeps line i from starting: each acquire that it excludes has been released, and its columns are free for it
pub record NoneOlder (g : GraphValue) (s : State) (i : ℕ) : Type 0 where
  pub released : (m : ℕ) → Exclude g i m → (y : Slot) → HasSlot s.slots m y → y.start < s.time → ReleasedBy g s.slots s.time m
  pub free : s.by_columns ≡ true → AreFreeFor g s.slots s.time i

-- a line below line i, which keeps it from starting, has started now
abbrev pub StartsNowBelow : GraphValue → State → ℕ → Type 0
StartsNowBelow g s i = (m : ℕ) × (y : Slot) × Hinder g s.by_columns i m × HasSlot s.slots m y × (y.start ≡ s.time) × (m < i)

-- a line that started now is below each line that is left in a queue that is not held; and where a line waits that one which started now keeps from starting, but none that started earlier does, a lower one that started now does
pub record StartsLowestFirst (g : GraphValue) (s : State) : Type 0 where
  pub lower : (k : ℕ) (x : Slot) → HasSlot s.slots k x → x.start ≡ s.time → (q i : ℕ) → has_line (queue_at s.queues q).lines i ≡ true → IsUnheld (queue_at s.queues q) → k < i
  pub hinders : (k : ℕ) (x : Slot) → HasSlot s.slots k x → x.start ≡ s.time → (i : ℕ) → IsQueued g s i → Hinder g s.by_columns i k → NoneOlder g s i → StartsNowBelow g s i

-- how many of the first n lines have not finished
abbrev pub undone : List Bool → ℕ → ℕ
undone done n = count_below (λ k. not (is_done done k)) n

-- no time is above 2 ^ 52, since no line takes more than 2 ^ 36
pub record HasSmallTimes (s : State) (n : ℕ) : Type 0 where
  pub time : s.time + 68719476736 * undone s.done n ≤ 68719476736 * n
  pub finishes : (k : ℕ) (x : Slot) → HasSlot s.slots k x → is_done s.done k ≡ false → x.finish + 68719476736 * undone s.done n ≤ 68719476736 * n + 68719476736

-- what holds of a simulation between two steps
pub record IsSimulation (g : GraphValue) (processors : ℕ) (s : State) : Type 0 where
  pub consistent : IsConsistent g processors s []
  pub up_to_now : IsGreedyUpTo g s.by_columns processors s.slots s.time
  pub done_lines : DoneAreFinished s
  pub lowest_first : StartsLowestFirst g s
  pub small : HasSmallTimes s (length g.lines)

-- each processor runs a line
abbrev pub AllBusy : List (Option ℕ) → Type 0
AllBusy running = (q : ℕ) → q < length running → (k : ℕ) × (runs_at running q ≡ Some k)

-- no more line may start now
pub record HasStartedAll (g : GraphValue) (processors : ℕ) (s : State) : Type 0 where
  pub simulation : IsSimulation g processors s
  pub greedy : IsGreedyAt g s.by_columns processors s.slots s.time
  pub none_starts : AllBusy s.running ⊎ AllHeldOrEmpty s.queues
