-- Tokens at their table, and what a call tells by them.
use Rattle.std.specs.Prelude.{◌≡◌, ◌≢◌, ℕ, ◌+◌, ◌*◌, ◌<◌, ◌≤◌, ◌⊎◌, List, [], ◌∷◌, ◌++◌, length, Contains}
use Rattle.std.specs.List.{slice_index_or}
use Rattle.atomic_table.specs.declared.shared.Seat as table
use Rattle.event_table.specs.Words.{turns_of}
use Rattle.shared_events.specs.Seats.{Knows, IsPast, FoundPending, no_event}
pub use Rattle.event_table.specs.EventMap.{answer_of}
use Rattle.event_table.specs.declared.handle.Handle.{Handle}
use Rattle.event_table.specs.declared.handle.Fate.{Fate}
use Rattle.event_table.specs.declared.handle.Fate.TheVariants.{Ok}
use Rattle.event_table.specs.declared.handle.Shape.{Shape}
use Rattle.shared_events.specs.declared.view.View.{View}
use Rattle.shared_events.specs.declared.tokens.Seat.{Seat}
use Rattle.shared_events.specs.declared.tokens.Maker.{Maker}
use Rattle.shared_events.specs.declared.tokens.Pending.{Pending}
use Rattle.shared_events.specs.declared.tokens.Waiter.{Waiter}
use Rattle.shared_events.specs.declared.tokens.Receipt.{Receipt}
use Rattle.shared_events.specs.declared.tokens.Caught.{Caught}
use Rattle.shared_events.specs.declared.tokens.WaiterSet.{WaiterSet}
use Rattle.shared_events.specs.declared.tokens.Watch.{Watch}
use Rattle.shared_events.specs.declared.tokens.Watch.TheVariants.{Placed, Over, Moved}
use Rattle.shared_events.specs.declared.events.Events.{Events}

abbrev pub IsOf : Events → table.Seat (Unit {0}) View → Type 0
IsOf e s = (s.table_id ≡ e.table.shared.table_id) × (s.me.0.keys ≡ e.shape ∷ [])

abbrev pub lists : Seat → View
lists s = s.inner.me.0

abbrev pub IsAt : Events → Seat → Type 0
IsAt e s = IsOf e s.inner

-- No slot served twice before each had served once: the first handles are of the slots in order, and a handle of a later generation has as many handles before it as there are slots, and one for each generation between
pub record GoesRound (slots next : ℕ) (made : List Handle) : Type 0 where
  pub first : length made < slots → (next ≡ length made) × ((h : Handle) → Contains made h → h.slot < next)
  pub later : (k : ℕ) (h : Handle) → k < length made → slice_index_or made k h ≡ h → 0 < h.gen_ → h.gen_ + slots ≤ k + 1

-- between two calls it has told all that it found, and no slot served twice before each had served
abbrev pub IsMakerOf : Events → Maker → Type 0
IsMakerOf e s = IsOf e s.inner × (s.inner.me.0.saw ≡ []) × GoesRound e.shape.slots s.next s.inner.me.0.made

abbrev pub IsPendingOf : Events → Pending → Type 0
IsPendingOf e s = IsOf e s.inner

abbrev pub IsWaiterOf : Events → Waiter → Type 0
IsWaiterOf e s = IsOf e s.inner

abbrev pub IsReceiptOf : Events → Receipt → Type 0
IsReceiptOf e s = IsOf e s.inner

abbrev pub IsCaughtOf : Events → Caught → Type 0
IsCaughtOf e s = IsOf e s.inner

abbrev pub IsSetOf : Events → WaiterSet → Type 0
IsSetOf e s = IsOf e s.inner

-- what the tokens name
abbrev pub shape_of : Events → Shape
shape_of e = e.shape

abbrev pub handle_of : Pending → Handle
handle_of s = s.handle

abbrev pub number_of : Waiter → ℕ
number_of s = s.number

abbrev pub ended_by : Receipt → Handle
ended_by s = s.handle

abbrev pub fate_of : Receipt → Fate
fate_of s = s.fate

abbrev pub caught_on : Caught → Handle
caught_on s = s.handle

-- how many waiters were taken of a set, and how many there are in all
abbrev pub taken_of : WaiterSet → ℕ
taken_of s = s.next

abbrev pub size_of : WaiterSet → ℕ
size_of s = s.count

-- what the seat of a chain has seen, knows and was given
abbrev pub caught_lists : Caught → View
caught_lists s = s.inner.me.0

-- what a chain has given, in order
abbrev pub given_by : Caught → List (ℕ × Handle)
given_by s = s.inner.me.0.given

-- what the Maker made, in order
abbrev pub made_by : Maker → List Handle
made_by s = s.inner.me.0.made

abbrev pub maker_lists : Maker → View
maker_lists s = s.inner.me.0

abbrev pub IsWithin : Shape → Handle → Type 0
IsWithin shape h = (h.slot < shape.slots) × (h.gen_ ≤ shape.last_gen)

-- the handles of the list at the slot i, of generations below g, were found to have ended
abbrev pub ArePast : List Handle → View → ℕ → ℕ → Type 0
ArePast made w i g = (h : Handle) → Contains made h → h.slot ≡ i → h.gen_ < g → IsPast w h

-- the handle stands at the end of the Maker's list, and was not there before
abbrev pub IsNew : List Handle → List Handle → Handle → Type 0
IsNew old new h = (new ≡ old ++ h ∷ []) × (Contains old h → ⊥)

-- the word of the slot i showed a handle of the list pending there, or ended as the last of the slot
abbrev pub IsTaken : Shape → List Handle → ℕ → ℕ → Type 0
IsTaken shape made i r = (h : Handle) × (h.slot ≡ i) × Contains made h × ((turns_of r ≡ 2 * h.gen_ + 1) ⊎ ((h.gen_ ≡ shape.last_gen) × (turns_of r ≡ 2 * h.gen_ + 2)))

-- a handle of the list is the last of the slot i, or is one there that was not found to have ended
abbrev pub IsHeld : Shape → List Handle → View → ℕ → Type 0
IsHeld shape made v i = (h : Handle) × (h.slot ≡ i) × Contains made h × ((h.gen_ ≡ shape.last_gen) ⊎ (IsPast v h → ⊥))

-- in between, each slot from low on and below high was looked at, and found taken
abbrev pub Scanned : Shape → List Handle → View → View → ℕ → ℕ → Type 0
Scanned shape made v w low high = (found : List (ℕ × ℕ)) × (w.saw ≡ v.saw ++ found)
    × ((i : ℕ) → low ≤ i → i < high → (r : ℕ) × Contains found (i, r) × IsTaken shape made i r)

-- each slot from low on and below high is held so
abbrev pub AreHeld : Shape → List Handle → View → ℕ → ℕ → Type 0
AreHeld shape made v low high = (i : ℕ) → low ≤ i → i < high → IsHeld shape made v i

-- the slot is the next one, unless that has served already
abbrev pub ComesNext : List Handle → ℕ → ℕ → Type 0
ComesNext made next i = (i ≡ next) ⊎ ((h : Handle) × (h.slot ≡ next) × Contains made h)

abbrev pub IsFull : Shape → List Handle → View → View → Type 0
IsFull shape made v w = (found : List (ℕ × ℕ)) × (w.saw ≡ v.saw ++ found)
    × ((i : ℕ) → i < shape.slots → (r : ℕ) × Contains found (i, r) × IsTaken shape made i r)

-- each slot has a handle of the list that is the last of the slot, or whose end the seat does not know
abbrev pub AreTaken : Shape → List Handle → View → Type 0
AreTaken shape made v = (i : ℕ) → i < shape.slots
    → (h : Handle) × (h.slot ≡ i) × Contains made h × ((h.gen_ ≡ shape.last_gen) ⊎ ((f : Fate) → Knows v h f → ⊥))

-- the older handles of its slot are those of the generations below, and the seat has found each of them past
pub record ComesAfter (made : List Handle) (w : View) (h : Handle) : Type 0 where
  pub older : (x : Handle) → Contains made x → x.slot ≡ h.slot → (x.gen_ < h.gen_) × IsPast w x
  pub whole : (g : ℕ) → g < h.gen_ → Contains made (record { slot = h.slot; gen_ = g })

-- the waiters that stood on the handle and were not given yet, in the order in which they will be
abbrev pub rest_of : Caught → List ℕ
rest_of s = s.inner.me.0.caught

-- it is the same waiter again
abbrev pub IsSame : Events → Waiter → Waiter → Type 0
IsSame e k l = (number_of l ≡ number_of k) × IsWaiterOf e l

-- the seat found the handle pending twice, under two words
abbrev pub FoundMoved : View → View → Handle → Type 0
FoundMoved v w h = (r r' : ℕ) × (w.saw ≡ v.saw ++ (h.slot, r) ∷ (h.slot, r') ∷ []) × (turns_of r ≡ 2 * h.gen_ + 1) × (turns_of r' ≡ 2 * h.gen_ + 1) × (r ≢ r')

-- the handle was over, with this fate, and the waiter came back
abbrev pub IsOver : Fate → Watch → Type 0
IsOver f watch = (l : Waiter) × (watch ≡ Over f l)

abbrev pub Watched : Events → View → View → Handle → Waiter → Watch → Type 0
Watched e v w h k Placed = FoundPending v w h × (w.placed ≡ v.placed ++ (number_of k, h) ∷ [])
Watched e v w h k (Over f l) = (((h ≡ no_event) × (f ≡ Ok)) ⊎ Knows w h f) × (w.placed ≡ v.placed) × IsSame e k l
Watched e v w h k (Moved l) = FoundMoved v w h × (w.placed ≡ v.placed) × IsSame e k l

-- the same, once the handle was found pending under the word r
abbrev pub Attached : Events → View → View → Handle → ℕ → Waiter → Watch → Type 0
Attached e v w h r k Placed = (w.saw ≡ v.saw) × (w.placed ≡ v.placed ++ (number_of k, h) ∷ [])
Attached e v w h r k (Over f l) = Knows w h f × (w.placed ≡ v.placed) × IsSame e k l
Attached e v w h r k (Moved l) = (r' : ℕ) × (w.saw ≡ v.saw ++ (h.slot, r') ∷ []) × (turns_of r' ≡ 2 * h.gen_ + 1) × (r ≢ r') × (w.placed ≡ v.placed) × IsSame e k l
