-- What a call on a table of events does to the lists of a seat, from v before to w after.
use Rattle.std.specs.Prelude.{◌≡◌, ◌≢◌, ℕ, ◌≤◌, ◌⊎◌, List, [], ◌∷◌, ◌++◌, length, Contains, Some}
use Rattle.basics.specs.Sums.{total, below}
use Rattle.event_table.specs.EventMap.{EventMap, answer, IsEventMap, IsCreated, IsPlaced, HasEnded}
use Rattle.shared_events.specs.Plays.{Coherent}
use Rattle.shared_events.specs.Seats.{HasSeen, Knows, IsPast, Grows, Keeps, IsBare, SamePlacings, SameGiven, FoundPending, no_event}
use Rattle.shared_events.specs.Views.{answer_of, caught_lists, caught_on, ended_by, fate_of, given_by, rest_of, shape_of, AreTaken, ComesAfter, IsFull, IsNew, IsOver, IsWithin, Watched}
use Rattle.shared_events.specs.declared.events.Events.{Events}
use Rattle.event_table.specs.declared.handle.Answer.{Answer}
use Rattle.event_table.specs.declared.handle.Answer.TheVariants.{Pending, Triggered, Poisoned}
use Rattle.event_table.specs.declared.handle.Fate.{Fate}
use Rattle.event_table.specs.declared.handle.Fate.TheVariants.{Ok, Poison}
use Rattle.event_table.specs.declared.handle.Handle.{Handle}
use Rattle.event_table.specs.declared.handle.Shape.{Shape}
use Rattle.shared_events.specs.declared.tokens.Caught.{Caught}
use Rattle.shared_events.specs.declared.tokens.Receipt.{Receipt}
use Rattle.shared_events.specs.declared.tokens.Waiter.{Waiter}
use Rattle.shared_events.specs.declared.tokens.Watch.{Watch}
use Rattle.shared_events.specs.declared.tokens.Watch.TheVariants.{Over}
use Rattle.shared_events.specs.declared.view.View.{View}

-- a second seat x was split off
pub record Splits (v w x : View) : Type 0 where
  pub same : w ≡ v
  pub kept : Keeps v w × Keeps v x
  pub copied : (x.seen ≡ v.seen) × (x.known ≡ v.known) × (x.left ≡ v.left)
  pub past : x.past ≡ v.past
  pub bare : IsBare x

-- the seat x was joined into it, and used up
pub record Joins (v x w : View) : Type 0 where
  pub coherent : Coherent w
  pub kept : Keeps v w × Keeps x w
  pub seen : w.seen ≡ v.seen ++ x.seen
  pub known : w.known ≡ v.known ++ x.known
  pub placed : w.placed ≡ v.placed ++ x.placed
  pub given : w.given ≡ v.given ++ x.given
  pub emptied : w.emptied ≡ v.emptied ++ x.emptied
  pub left : w.left ≡ v.left ++ x.left
  pub past : w.past ≡ v.past ++ x.past
  pub saw : w.saw ≡ v.saw ++ x.saw

-- it looked at the handle h, and this was answered
pub record Looks (v w : View) (h : Handle) (a : Answer) : Type 0 where
  pub grows : Grows v w
  pub kept : Keeps v w
  pub pending : a ≡ Pending → FoundPending v w h × ((f : Fate) → Knows v h f → ⊥)
  pub triggered : a ≡ Triggered → (h ≡ no_event) ⊎ Knows w h Ok
  pub poisoned : a ≡ Poisoned → Knows w h Poison
  pub left : h ≢ no_event → Contains v.left h → a ≡ Pending
  pub none : h ≡ no_event → a ≡ Triggered
  pub known : (f : Fate) → h ≢ no_event → Knows v h f → a ≡ answer_of f
  pub past : h ≢ no_event → IsPast v h → a ≢ Pending
  pub emptied : h ≢ no_event → Contains v.emptied h → a ≢ Pending
  pub coherent : h ≢ no_event → Coherent w
  pub still : h ≡ no_event → w ≡ v
  pub same_seen : w.seen ≡ v.seen
  pub same_placings : SamePlacings v w
  pub same_left : w.left ≡ v.left

-- it watched the handle h by the waiter k, and this was answered
pub record Watches (e : Events) (v w : View) (h : Handle) (k : Waiter) (watch : Watch) : Type 0 where
  pub grows : Grows v w
  pub kept : Keeps v w
  pub told : Watched e v w h k watch
  pub none : h ≡ no_event → watch ≡ Over Ok k
  pub still : h ≡ no_event → w ≡ v
  pub known : (f : Fate) → h ≢ no_event → Knows v h f → IsOver f watch
  pub past : h ≢ no_event → IsPast v h → (f : Fate) × IsOver f watch
  pub emptied : h ≢ no_event → Contains v.emptied h → (f : Fate) × IsOver f watch
  pub left : (f : Fate) → h ≢ no_event → Contains v.left h → IsOver f watch → ⊥
  pub same_seen : w.seen ≡ v.seen
  pub same_given : SameGiven v w

-- it learned from a receipt that the handle h ended with the fate f
pub record Learns (v w : View) (h : Handle) (f : Fate) : Type 0 where
  pub grows : Grows v w
  pub kept : Keeps v w
  pub seen : HasSeen w h
  pub known : Knows w h f
  pub more_seen : w.seen ≡ v.seen ++ h ∷ []
  pub more_known : w.known ≡ v.known ++ (h, f) ∷ []
  pub same_placings : SamePlacings v w
  pub same_left : w.left ≡ v.left
  pub same_saw : w.saw ≡ v.saw

-- the right to end the handle h was given up
pub record Leaves (v w : View) (h : Handle) : Type 0 where
  pub grows : Grows v w
  pub kept : Keeps v w
  pub seen : HasSeen w h
  pub left : Contains w.left h
  pub more_seen : w.seen ≡ v.seen ++ h ∷ []
  pub more_left : w.left ≡ v.left ++ h ∷ []
  pub same_known : w.known ≡ v.known
  pub same_placings : SamePlacings v w
  pub same_saw : w.saw ≡ v.saw

-- the handle h was created, where the Maker had made the one list and then has the other
pub record Creates (shape : Shape) (made new : List Handle) (v w : View) (h : Handle) : Type 0 where
  pub grows : Grows v w
  pub kept : Keeps v w
  pub is_new : IsNew made new h
  pub seen : HasSeen w h
  pub real : h ≢ no_event
  pub within : IsWithin shape h
  pub after : ComesAfter made w h
  pub more_seen : w.seen ≡ v.seen ++ new
  pub same_known : w.known ≡ v.known
  pub same_placings : SamePlacings v w
  pub same_left : w.left ≡ v.left

-- each slot was found retired or pending, by a handle of whose end the seat did not know, and nothing was created
pub record FindsFull (shape : Shape) (made new : List Handle) (v w : View) : Type 0 where
  pub grows : Grows v w
  pub kept : Keeps v w
  pub none : new ≡ made
  pub full : IsFull shape made v w
  pub taken : AreTaken shape made v
  pub more_seen : w.seen ≡ v.seen ++ new
  pub same_known : w.known ≡ v.known
  pub same_placings : SamePlacings v w
  pub same_left : w.left ≡ v.left

-- the handle h was ended with the fate f, which gave this receipt and this chain of waiters
pub record Ends (e : Events) (v w : View) (h : Handle) (f : Fate) (r : Receipt) (c : Caught) : Type 0 where
  pub grows : Grows v w
  pub kept : Keeps v w
  pub seen : HasSeen w h
  pub known : Knows w h f
  pub receipt : (ended_by r ≡ h) × (fate_of r ≡ f)
  pub caught : caught_on c ≡ h
  pub waiters : (k : ℕ) → Contains w.placed (k, h) → Contains (rest_of c) k
  pub once : (count : ℕ → ℕ) → total count (rest_of c) ≤ below count (shape_of e).waiters
  pub given : given_by c ≡ v.given
  pub caught_seen : (caught_lists c).seen ≡ w.seen
  pub caught_known : (caught_lists c).known ≡ w.known
  pub more_seen : w.seen ≡ v.seen ++ h ∷ []
  pub more_known : w.known ≡ v.known ++ (h, f) ∷ []
  pub same_placings : SamePlacings v w
  pub same_left : w.left ≡ v.left
  pub same_saw : w.saw ≡ v.saw

-- the chain b gave the waiter of this number, and is then c
pub record Gives (v w : View) (b c : Caught) (number : ℕ) : Type 0 where
  pub first : rest_of b ≡ number ∷ rest_of c
  pub given : given_by c ≡ given_by b ++ (number, caught_on b) ∷ []
  pub same : caught_on c ≡ caught_on b
  pub still : w ≡ v
  pub same_seen : (caught_lists c).seen ≡ (caught_lists b).seen
  pub same_known : (caught_lists c).known ≡ (caught_lists b).known

-- the chain b had given all
pub record Empties (v w : View) (b : Caught) : Type 0 where
  pub grows : Grows v w
  pub kept : Keeps v w
  pub none : rest_of b ≡ []
  pub emptied : Contains w.emptied (caught_on b)
  pub coherent : Coherent w
  pub more_given : w.given ≡ v.given ++ given_by b
  pub more_emptied : w.emptied ≡ v.emptied ++ caught_on b ∷ []
  pub more_seen : w.seen ≡ v.seen ++ (caught_lists b).seen
  pub more_known : w.known ≡ v.known ++ (caught_lists b).known
  pub same_placed : w.placed ≡ v.placed
  pub same_left : w.left ≡ v.left
  pub same_saw : w.saw ≡ v.saw

-- the map that a table leaves whose Maker had made this list, closed by a seat with these lists
pub record Closes (shape : Shape) (made : List Handle) (v : View) (m : EventMap) : Type 0 where
  pub is_map : IsEventMap m × (m.caught ≡ [])
  pub sized : (length m.slots ≡ shape.slots) × (m.waiters ≡ shape.waiters) × (m.last_gen ≡ shape.last_gen)
  pub made_all : (h : Handle) → Contains made h → (a : Answer) × (answer m h ≡ Some a)
  pub only : (h : Handle) (a : Answer) → answer m h ≡ Some a → Contains made h
  pub seen : (h : Handle) → HasSeen v h → IsCreated m h
  pub known : (h : Handle) (f : Fate) → Knows v h f → answer m h ≡ Some (answer_of f)
  pub placed : (k : ℕ) (h : Handle) → Contains v.placed (k, h) → IsPlaced m k h ⊎ ((f : Fate) × (answer m h ≡ Some (answer_of f)))
  pub given : (k : ℕ) (h : Handle) → Contains v.given (k, h) → HasEnded m h
  pub emptied : (h : Handle) → Contains v.emptied h → HasEnded m h
  pub past : (h : Handle) → IsPast v h → HasEnded m h
  pub left : (h : Handle) → Contains v.left h → answer m h ≡ Some Pending
