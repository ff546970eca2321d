-- Plans in which a line that changes a column runs beside no other that uses it.
use Rattle.std.specs.Prelude.{◌≡◌, ◌≢◌, ℕ, true, ◌<◌, ◌≤◌, ◌⊎◌, ◌↔◌, List, Contains, Option}
use Rattle.graph_terms.specs.declared.verb.Access.{Access}
use Rattle.graph_terms.specs.Graph.{GraphValue}
use Rattle.graph_terms.specs.Access.{accesses, modes_clash}
use Rattle.realm_timeline.specs.declared.slot.Slot.{Slot}
use Rattle.realm_timeline.specs.Plan.{HasSlot, IsMoment, IsReadyAt, IsFreeFor, MayStart, StartsAt}

-- two lines that use one column, not both to read it
pub record Collide (g : GraphValue) (i k : ℕ) : Type 0 where
  pub different : i ≢ k
  pub one : Access
  pub other : Access
  pub one_in : Contains (accesses g i) one
  pub other_in : Contains (accesses g k) other
  pub column : one.column ≡ other.column
  pub clash : modes_clash one.mode other.mode ≡ true

-- two such lines do not overlap
abbrev pub AreApart : GraphValue → List (Option Slot) → Type 0
AreApart g plan = (i k : ℕ) → Collide g i k → (s t : Slot) → HasSlot plan i s → HasSlot plan k t → (s.finish ≤ t.start) ⊎ (t.finish ≤ s.start)

-- at time t the columns of line i are free for it: each line with which it collides, and which has started before, has finished
abbrev pub AreFreeFor : GraphValue → List (Option Slot) → ℕ → ℕ → Type 0
AreFreeFor g plan t i = (k : ℕ) → Collide g i k → (s : Slot) → HasSlot plan k s → s.start < t → s.finish ≤ t

-- no lower line with which it collides starts then
abbrev pub IsFirstFor : GraphValue → List (Option Slot) → ℕ → ℕ → Type 0
IsFirstFor g plan t i = (k : ℕ) → Collide g i k → k < i → (s : Slot) → HasSlot plan k s → s.start ≢ t

-- a plan in which each line that is ready, and whose columns are free for it, starts as soon as it may, the lower one first
pub record IsGreedyByColumns (g : GraphValue) (processors : ℕ) (plan : List (Option Slot)) : Type 0 where
  pub moments : (i : ℕ) (s : Slot) → HasSlot plan i s → IsMoment plan s.start
  pub each : (t i : ℕ) → IsMoment plan t → IsReadyAt g plan t i → AreFreeFor g plan t i → StartsAt plan t i ↔ (MayStart g processors plan t i × IsFirstFor g plan t i)
  -- on the lowest processor that is free for it
  pub free : (i : ℕ) (s : Slot) → HasSlot plan i s → IsFreeFor plan s.start i s.processor
  pub lowest : (i : ℕ) (s : Slot) → HasSlot plan i s → (q : ℕ) → IsFreeFor plan s.start i q → s.processor ≤ q
