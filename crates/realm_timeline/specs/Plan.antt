-- Plans: for each line that is planned a processor, a start and a finish, in virtual time.
use Rattle.std.specs.Prelude.{◌≡◌, ◌≢◌, ℕ, false, ◌+◌, ◌<◌, ◌≤◌, ◌⊎◌, ◌↔◌, max, List, [], ◌∷◌, length, sum_by, Contains, Option, Some, None}
use Rattle.std.specs.Option.{option_map_or}
use Rattle.std.specs.List.{slice_index_or}
use Rattle.basics.specs.Lists.{numbers_below}
use Rattle.index_spaces.specs.Space.{space_size}
use Rattle.graph_terms.specs.declared.verb.Access.{Access}
use Rattle.graph_terms.specs.declared.verb.Edge.{Edge}
use Rattle.graph_terms.specs.Graph.{GraphValue, space_at}
use Rattle.graph_terms.specs.Edges.{edges}
use Rattle.graph_meaning.specs.Path.{Reached}
use Rattle.graph_terms.specs.Access.{all_accesses}
use Rattle.graph_terms.specs.Reservations.{Acquires, Releases, both_shared}
use Rattle.realm_timeline.specs.declared.slot.Slot.{Slot}

-- how many points an access is of
abbrev pub access_size : GraphValue → Access → ℕ
access_size g a = space_size (space_at g a.space)

-- how long a line takes: 1, and 1 more for each point of each access, those to data counted too
abbrev pub cost : GraphValue → ℕ → ℕ
cost g i = 1 + sum_by (access_size g) (all_accesses g i)

-- the lines to plan: those that no line which never comes reaches
pub record Planned (g : GraphValue) (i : ℕ) : Type 0 where
  pub line : i < length g.lines
  pub comes : Reached g i → ⊥

-- the slot of a line, where it has one
abbrev pub slot_at : List (Option Slot) → ℕ → Option Slot
slot_at plan i = slice_index_or plan i None

-- a line has this slot
abbrev pub HasSlot : List (Option Slot) → ℕ → Slot → Type 0
HasSlot plan i s = slot_at plan i ≡ Some s

-- a plan of some of these lines: each has a processor below the given number, and takes its cost
pub record IsPartialPlan (g : GraphValue) (processors : ℕ) (plan : List (Option Slot)) : Type 0 where
  pub each_line : length plan ≡ length g.lines
  pub planned : (i : ℕ) (s : Slot) → HasSlot plan i s → Planned g i
  pub processor : (i : ℕ) (s : Slot) → HasSlot plan i s → s.processor < processors
  pub finish : (i : ℕ) (s : Slot) → HasSlot plan i s → s.finish ≡ s.start + cost g i

-- a plan of all of them
pub record IsPlan (g : GraphValue) (processors : ℕ) (plan : List (Option Slot)) : Type 0 where
  pub some : IsPartialPlan g processors plan
  pub all : (i : ℕ) → Planned g i → (s : Slot) × HasSlot plan i s

-- the finish of a line, and 0 for one that is not planned
abbrev pub finish_or_0 : Option Slot → ℕ
finish_or_0 None = 0
finish_or_0 (Some s) = s.finish

-- the length of a plan: the greatest finish, or 0
abbrev pub plan_length : List (Option Slot) → ℕ
plan_length [] = 0
plan_length (o ∷ plan) = max (finish_or_0 o) (plan_length plan)

-- the cost of a line with a slot, and 0 for any other
abbrev pub planned_cost : GraphValue → List (Option Slot) → ℕ → ℕ
planned_cost g plan i = option_map_or (λ (s : Slot). cost g i) (slot_at plan i) 0

-- the costs of the lines with a slot, added up
abbrev pub total_cost : GraphValue → List (Option Slot) → ℕ
total_cost g plan = sum_by (planned_cost g plan) (numbers_below (length g.lines))

-- a line has finished by time t
abbrev pub FinishedBy : List (Option Slot) → ℕ → ℕ → Type 0
FinishedBy plan t i = (s : Slot) × HasSlot plan i s × (s.finish ≤ t)

-- the release of an acquire has finished by time t
abbrev pub ReleasedBy : GraphValue → List (Option Slot) → ℕ → ℕ → Type 0
ReleasedBy g plan t q = (r : ℕ) × Releases g r q × FinishedBy plan t r

-- two acquires of one reservation that are not both shared, so that only one of them may hold it at a time
pub record Exclude (g : GraphValue) (i k : ℕ) : Type 0 where
  pub different : i ≢ k
  pub apart : both_shared g i k ≡ false
  pub lock : ℕ
  pub one : Acquires g i lock
  pub other : Acquires g k lock

-- a plan that can be carried out
pub record IsValid (g : GraphValue) (plan : List (Option Slot)) : Type 0 where
  -- two lines on one processor do not overlap
  pub apart : (i k : ℕ) (s t : Slot) → HasSlot plan i s → HasSlot plan k t → i ≢ k → s.processor ≡ t.processor → (s.finish ≤ t.start) ⊎ (t.finish ≤ s.start)
  -- a line starts at or after the finish of each source
  pub sources : (e : Edge) → Contains (edges g) e → (s : Slot) → HasSlot plan e.to s → FinishedBy plan s.start e.from
  -- of two acquires of one reservation, not both shared, the release of one finishes at or before the start of the other
  pub sections : (i k : ℕ) → Exclude g i k → (s t : Slot) → HasSlot plan i s → HasSlot plan k t → ReleasedBy g plan t.start i ⊎ ReleasedBy g plan s.start k

-- a moment at which lines may start: time 0, or the finish of a line
abbrev pub IsMoment : List (Option Slot) → ℕ → Type 0
IsMoment plan t = (t ≡ 0) ⊎ ((k : ℕ) × (s : Slot) × HasSlot plan k s × (s.finish ≡ t))

-- a line is ready at time t
pub record IsReadyAt (g : GraphValue) (plan : List (Option Slot)) (t i : ℕ) : Type 0 where
  pub planned : Planned g i
  -- it has not started before
  pub waits : (s : Slot) → HasSlot plan i s → t ≤ s.start
  -- each of its sources has finished
  pub sources : (e : Edge) → Contains (edges g) e → e.to ≡ i → FinishedBy plan t e.from
  -- each acquire of its reservation, not both shared, that has started before has been released
  pub unheld : (k : ℕ) → Exclude g i k → (s : Slot) → HasSlot plan k s → s.start < t → ReleasedBy g plan t k

-- a processor is free for line i at time t: no line on it started before and finishes after, and no line below i starts on it then
pub record IsFreeFor (plan : List (Option Slot)) (t i q : ℕ) : Type 0 where
  pub before : (k : ℕ) (s : Slot) → HasSlot plan k s → s.processor ≡ q → s.start < t → s.finish ≤ t
  pub beside : (k : ℕ) (s : Slot) → HasSlot plan k s → s.processor ≡ q → s.start ≡ t → i ≤ k

-- a processor is free for line i at time t, and no lower acquire of its reservation, not both shared, starts then
pub record MayStart (g : GraphValue) (processors : ℕ) (plan : List (Option Slot)) (t i : ℕ) : Type 0 where
  pub processor : ℕ
  pub known : processor < processors
  pub free : IsFreeFor plan t i processor
  pub first : (k : ℕ) → Exclude g i k → k < i → (s : Slot) → HasSlot plan k s → s.start ≢ t

-- a line starts at time t
abbrev pub StartsAt : List (Option Slot) → ℕ → ℕ → Type 0
StartsAt plan t i = (s : Slot) × HasSlot plan i s × (s.start ≡ t)

-- a plan in which each line that is ready starts as soon as it may, the lower one first
pub record IsGreedy (g : GraphValue) (processors : ℕ) (plan : List (Option Slot)) : Type 0 where
  pub moments : (i : ℕ) (s : Slot) → HasSlot plan i s → IsMoment plan s.start
  pub each : (t i : ℕ) → IsMoment plan t → IsReadyAt g plan t i → StartsAt plan t i ↔ MayStart g processors plan t i
  -- on the lowest processor that is free for it
  pub free : (i : ℕ) (s : Slot) → HasSlot plan i s → IsFreeFor plan s.start i s.processor
  pub lowest : (i : ℕ) (s : Slot) → HasSlot plan i s → (q : ℕ) → IsFreeFor plan s.start i q → s.processor ≤ q
