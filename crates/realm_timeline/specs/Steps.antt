-- The steps of a simulation: a line starts, finishes, or waits for one edge fewer.
use Rattle.std.specs.Prelude.{◌≡◌, ℕ, ◌+◌, ◌-◌, ◌<◌, ◌≤◌, ◌==◌, ◌⊎◌, Bool, true, false, not, ◌&&◌, ◌||◌, List, [], ◌∷◌, ◌++◌, length, Option, Some, None, slice_index, slice_set, map}
use Rattle.graph_terms.specs.declared.verb.Edge.{Edge}
use Rattle.graph_terms.specs.Graph.{GraphValue, never_comes}
use Rattle.graph_terms.specs.declared.verb.EdgeKind.TheVariants as kind
use Rattle.graph_terms.specs.Edges.{edge}
use Rattle.basics.specs.Lists.{numbers_below}
use Rattle.graph_terms.specs.Reservations.{Releases}
use Rattle.realm_timeline.specs.declared.slot.Slot.{Slot}
use Rattle.realm_timeline.specs.Plan.{cost}
use Rattle.realm_timeline.specs.Queue.{QueueValue, queue_at, has_line, IsUnheld, is_unheld, ChangesQueue, WithLine, WithoutLine}
use Rattle.realm_timeline.specs.State.{State, queue_of, bars, uses_bar, joins, held_by, runs_at}

-- the lowest processor that runs no line
pub record IsFirstIdle (running : List (Option ℕ)) (q : ℕ) : Type 0 where
  pub known : q < length running
  pub idle : runs_at running q ≡ None
  pub busy : (p : ℕ) → p < q → (k : ℕ) × (runs_at running p ≡ Some k)

-- a line is put into its queue, or is not
abbrev pub IsOffered : GraphValue → List QueueValue → List QueueValue → ℕ → Bool → Type 0
IsOffered g old new line true = ChangesQueue old new (queue_of g line) (WithLine line)
IsOffered g old new line false = new ≡ old

-- a line waits for one edge fewer, and is put into its queue where that was the last one and it comes
pub record CountsDown (g : GraphValue) (old new : State) (line : ℕ) : Type 0 where
  pub by_columns : new.by_columns ≡ old.by_columns
  pub time : new.time ≡ old.time
  pub slots : new.slots ≡ old.slots
  pub order : new.order ≡ old.order
  pub done : new.done ≡ old.done
  pub running : new.running ≡ old.running
  pub left : new.left ≡ slice_set old.left line (slice_index old.left line - 1)
  pub queue_count : length new.queues ≡ length old.queues
  pub queues : IsOffered g old.queues new.queues line ((slice_index old.left line - 1 == 0) && not (never_comes g line))

-- line k holds the queues that pass a test, besides those that it held
pub record Adds (test : ℕ → Bool) (old new : List QueueValue) (k : ℕ) : Type 0 where
  pub lines : (q : ℕ) → (queue_at new q).lines ≡ (queue_at old q).lines
  pub holders : (q i : ℕ) → has_line (queue_at new q).holders i ≡ (((i == k) && test q) || has_line (queue_at old q).holders i)

-- and holds them no longer
pub record Removes (test : ℕ → Bool) (old new : List QueueValue) (k : ℕ) : Type 0 where
  pub lines : (q : ℕ) → (queue_at new q).lines ≡ (queue_at old q).lines
  pub holders : (q i : ℕ) → has_line (queue_at new q).holders i ≡ (not ((i == k) && test q) && has_line (queue_at old q).holders i)

-- the acquire that a line releases holds its reservation no longer
abbrev pub Frees : GraphValue → ℕ → List QueueValue → List QueueValue → Option ℕ → Type 0
Frees g line old new None = ((k : ℕ) → Releases g line k → ⊥) × (new ≡ old)
Frees g line old new (Some k) = Releases g line k × Removes (bars g k) old new k

-- a line is marked as finished, its processor runs none, and its columns and the reservation that it releases are free
pub record MarksFinished (g : GraphValue) (old new : State) (processor line : ℕ) : Type 0 where
  pub by_columns : new.by_columns ≡ old.by_columns
  pub time : new.time ≡ old.time
  pub slots : new.slots ≡ old.slots
  pub order : new.order ≡ old.order
  pub left : new.left ≡ old.left
  pub running : new.running ≡ slice_set old.running processor None
  pub done : new.done ≡ slice_set old.done line true
  pub queue_count : length new.queues ≡ length old.queues
  pub between : List QueueValue
  pub uses : Removes (uses_bar g old.by_columns line) old.queues between line
  pub acquire : Option ℕ
  pub frees : Frees g line between new.queues acquire

-- a line has finished, and is counted no more for the lines that wait for it
pub record Finishes (g : GraphValue) (old new : State) (processor line : ℕ) : Type 0 where
  pub by_columns : new.by_columns ≡ old.by_columns
  pub time : new.time ≡ old.time
  pub slots : new.slots ≡ old.slots
  pub running : new.running ≡ slice_set old.running processor None
  pub done : new.done ≡ slice_set old.done line true

-- the slot of a line that starts now
abbrev pub slot_of : GraphValue → State → ℕ → ℕ → Slot
slot_of g s processor line = record { «processor» = processor; start = s.time; finish = s.time + cost g line }

-- the lowest line of a queue starts on a processor
pub record Starts (g : GraphValue) (old new : State) (place processor line : ℕ) : Type 0 where
  pub listed : has_line (queue_at old.queues place).lines line ≡ true
  pub lowest : (i : ℕ) → has_line (queue_at old.queues place).lines i ≡ true → line ≤ i
  pub by_columns : new.by_columns ≡ old.by_columns
  pub time : new.time ≡ old.time
  pub slots : new.slots ≡ slice_set old.slots line (Some (slot_of g old processor line))
  pub order : new.order ≡ old.order ++ line ∷ []
  pub done : new.done ≡ old.done
  pub left : new.left ≡ old.left
  pub running : new.running ≡ slice_set old.running processor (Some line)
  pub queue_count : length new.queues ≡ length old.queues
  -- none of the queues in which it may have to wait is held
  pub unheld : (q : ℕ) → joins g old.by_columns line q ≡ true → IsUnheld (queue_at old.queues q)
  pub queues : (between : List QueueValue) × ChangesQueue old.queues between place (WithoutLine line) × Adds (held_by g old.by_columns line) between new.queues line
  pub few : cost g line ≤ 68719476736

-- the lowest line of a queue goes to another queue in which it has to wait, since that is held
pub record Moves (g : GraphValue) (old new : State) (place other line : ℕ) : Type 0 where
  pub listed : has_line (queue_at old.queues place).lines line ≡ true
  pub joined : joins g old.by_columns line other ≡ true
  pub held : is_unheld (queue_at old.queues other) ≡ false
  pub by_columns : new.by_columns ≡ old.by_columns
  pub time : new.time ≡ old.time
  pub slots : new.slots ≡ old.slots
  pub order : new.order ≡ old.order
  pub done : new.done ≡ old.done
  pub left : new.left ≡ old.left
  pub running : new.running ≡ old.running
  pub queue_count : length new.queues ≡ length old.queues
  pub queues : (between : List QueueValue) × ChangesQueue old.queues between place (WithoutLine line) × ChangesQueue between new.queues other (WithLine line)

-- one of the two
abbrev pub GoesOn : GraphValue → State → State → ℕ → ℕ → ℕ → Type 0
GoesOn g old new place processor line = Starts g old new place processor line ⊎ ((other : ℕ) × Moves g old new place other line)

-- one edge more into each line, which is counted until the line is offered for the first time
abbrev pub first_edges : GraphValue → List Edge
first_edges g = map (λ i. edge i i kind.Passes) (numbers_below (length g.lines))
