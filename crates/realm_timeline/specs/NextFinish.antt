-- When the next lines finish, processor by processor.
use Rattle.std.specs.Prelude.{◌≡◌, ◌≢◌, ℕ, ◌<◌, ◌≤◌, ◌⊎◌, true, false, List, [], Option, Some, None, MatchOption}
use Rattle.graph_terms.specs.Graph.{GraphValue}
use Rattle.realm_timeline.specs.declared.slot.Slot.{Slot}
use Rattle.realm_timeline.specs.Plan.{HasSlot, FinishedBy}
use Rattle.realm_timeline.specs.State.{State, is_done, runs_at, IsConsistent}

-- the finish of a line that runs, with no earlier one
pub record IsNextFinish (s : State) (next : ℕ) : Type 0 where
  pub line : ℕ
  pub slot : Slot
  pub has : HasSlot s.slots line slot
  pub runs : is_done s.done line ≡ false
  pub finish : slot.finish ≡ next
  pub least : (k : ℕ) (x : Slot) → HasSlot s.slots k x → is_done s.done k ≡ false → next ≤ x.finish

-- the earliest finish of the lines on the first n processors
pub record IsSoonestOf (slots : List (Option Slot)) (running : List (Option ℕ)) (n t : ℕ) : Type 0 where
  pub least : (q k : ℕ) (x : Slot) → q < n → runs_at running q ≡ Some k → HasSlot slots k x → t ≤ x.finish
  pub processor : ℕ
  pub line : ℕ
  pub slot : Slot
  pub runs : runs_at running processor ≡ Some line
  pub has : HasSlot slots line slot
  pub finish : slot.finish ≡ t

-- the same, and none where these run no line
abbrev pub IsSoonest : List (Option Slot) → List (Option ℕ) → ℕ → Option ℕ → Type 0
IsSoonest slots running n next = MatchOption next ((q k : ℕ) → q < n → runs_at running q ≡ Some k → ⊥) (IsSoonestOf slots running n)

-- each line that runs has a slot
abbrev pub RunsHaveSlots : List (Option Slot) → List (Option ℕ) → Type 0
RunsHaveSlots slots running = (q k : ℕ) → runs_at running q ≡ Some k → (x : Slot) × HasSlot slots k x

-- the finish of the line on a processor, and none where it runs no line
abbrev pub IsFinishOn : List (Option Slot) → List (Option ℕ) → ℕ → Option ℕ → Type 0
IsFinishOn slots running q finish = MatchOption finish (runs_at running q ≡ None) (λ t. (k : ℕ) × (x : Slot) × (runs_at running q ≡ Some k) × HasSlot slots k x × (x.finish ≡ t))

-- the line on a processor has finished if its finish is this time
pub record FinishesOn (old new : State) (processor next : ℕ) : Type 0 where
  pub by_columns : new.by_columns ≡ old.by_columns
  pub time : new.time ≡ old.time
  pub slots : new.slots ≡ old.slots
  pub done : (i : ℕ) → is_done new.done i ≡ true → (is_done old.done i ≡ true) ⊎ FinishedBy old.slots next i
  pub keeps : (i : ℕ) → is_done old.done i ≡ true → is_done new.done i ≡ true
  pub others : (r k : ℕ) → r ≢ processor → runs_at new.running r ≡ Some k → runs_at old.running r ≡ Some k
  pub here : (k : ℕ) → runs_at new.running processor ≡ Some k → (x : Slot) → HasSlot old.slots k x → x.finish ≢ next

-- the lines on the first n processors whose finish is this time have finished
pub record IsFinishing (g : GraphValue) (processors : ℕ) (start now : State) (n next : ℕ) : Type 0 where
  pub consistent : IsConsistent g processors now []
  pub by_columns : now.by_columns ≡ start.by_columns
  pub slots : now.slots ≡ start.slots
  pub finished : (i : ℕ) → is_done now.done i ≡ true → FinishedBy start.slots next i
  pub keeps : (i : ℕ) → is_done start.done i ≡ true → is_done now.done i ≡ true
  pub passed : (r k : ℕ) → r < n → runs_at now.running r ≡ Some k → (x : Slot) → HasSlot start.slots k x → x.finish ≢ next
