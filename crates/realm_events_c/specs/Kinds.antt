-- What a handle of C holds, and the numbers that C is answered.
use Rattle.std.specs.Prelude.{◌≡◌, ℕ, ◌+◌, ◌*◌, ◌<◌, ◌≤◌, Option, Some, None, cond, ◌==◌}
use Rattle.event_table.specs.EventMap.{EventMap}
use Rattle.event_table.specs.declared.handle.Answer.{Answer}
use Rattle.event_table.specs.declared.handle.Answer.TheVariants.{Pending, Triggered, Poisoned}
use Rattle.event_table.specs.declared.handle.Fate.{Fate}
use Rattle.event_table.specs.declared.handle.Fate.TheVariants.{Ok, Poison}
use Rattle.event_table.specs.declared.handle.Handle.{Handle}
use Rattle.event_table.specs.declared.limits.TheConstants.{MAX_HANDLES, MAX_SLOTS, MAX_WAITERS}
use Rattle.shared_events.specs.declared.tokens.Receipt.{Receipt}
use Rattle.shared_events.specs.declared.tokens.Waiter.{Waiter}
use Rattle.shared_events.specs.declared.tokens.Watch.{Watch}
use Rattle.shared_events.specs.declared.tokens.Watch.TheVariants.{Placed, Over, Moved}
use Rattle.realm_events_c.specs.declared.exports.RealmHandle.{RealmHandle}
use Rattle.realm_events_c.specs.declared.owed.Ended.{Ended}
use Rattle.realm_events_c.specs.declared.owed.Owed.{Owed}
use Rattle.realm_events_c.specs.declared.owner.Owner.{Owner}
use Rattle.realm_events_c.specs.declared.place.Place.{Place}
use Rattle.realm_events_c.specs.declared.token.Token.{Token}
use Rattle.realm_events_c.specs.declared.token.Token.TheVariants as token

-- the handle holds something of that kind, of which this is so
abbrev pub HoldsPlace : Option Token → (Place → Type 0) → Type 0
HoldsPlace (Some (token.Place p)) f = f p
HoldsPlace _ f = ⊥

abbrev pub HoldsOwner : Option Token → (Owner → Type 0) → Type 0
HoldsOwner (Some (token.Owner o)) f = f o
HoldsOwner _ f = ⊥

abbrev pub HoldsPending : Option Token → (Owed → Type 0) → Type 0
HoldsPending (Some (token.Pending p)) f = f p
HoldsPending _ f = ⊥

abbrev pub HoldsWaiter : Option Token → (Waiter → Type 0) → Type 0
HoldsWaiter (Some (token.Waiter w)) f = f w
HoldsWaiter _ f = ⊥

abbrev pub HoldsReceipt : Option Token → (Receipt → Type 0) → Type 0
HoldsReceipt (Some (token.Receipt r)) f = f r
HoldsReceipt _ f = ⊥

abbrev pub HoldsEnded : Option Token → (Ended → Type 0) → Type 0
HoldsEnded (Some (token.Ended e)) f = f e
HoldsEnded _ f = ⊥

abbrev pub HoldsClosed : Option Token → (EventMap → Type 0) → Type 0
HoldsClosed (Some (token.Closed m)) f = f m
HoldsClosed _ f = ⊥

-- it holds a place, by itself or with the rights of an owner, of which this is so
abbrev pub HasPlace : Option Token → (Place → Type 0) → Type 0
HasPlace (Some (token.Place p)) f = f p
HasPlace (Some (token.Owner o)) f = f o.place
HasPlace _ f = ⊥

-- it still holds what it did, but for its seat: a place at the same table, with the same rights where it is an owner
abbrev pub SameButSeat : Option Token → Option Token → Type 0
SameButSeat (Some (token.Place p)) (Some (token.Place q)) = q.events ≡ p.events
SameButSeat (Some (token.Owner o)) (Some (token.Owner p)) = (p.place.events ≡ o.place.events) × (p.maker ≡ o.maker) × (p.waiters ≡ o.waiters)
SameButSeat _ _ = ⊥

-- the handle holds something
abbrev pub HoldsAny : Option Token → Type 0
HoldsAny o = (t : Token) × (o ≡ Some t)

-- what a handle holds that a value was put into, where it is one
abbrev pub held_of : Token → Option Token
held_of token.Empty = None
held_of t = Some t

-- the handle of a waiter holds it again unless it was placed
abbrev pub IsBack : Watch → Option Token → Type 0
IsBack Placed o = o ≡ None
IsBack (Over f w) o = o ≡ Some (token.Waiter w)
IsBack (Moved w) o = o ≡ Some (token.Waiter w)

-- a table may have so many slots, waiters and generations
pub record IsTableSize (slots waiters last_gen : ℕ) : Type 0 where
  pub some : 0 < slots
  pub few_slots : slots ≤ MAX_SLOTS
  pub few_waiters : waiters ≤ MAX_WAITERS
  pub few_handles : slots * (last_gen + 1) ≤ MAX_HANDLES

-- the handle of an event as C has it
abbrev pub event : RealmHandle → Handle
event h = record { slot = h.slot; gen_ = h.gen_ }

-- the number of an answer
abbrev pub answer_number : Answer → ℕ
answer_number Triggered = 0
answer_number Poisoned = 1
answer_number Pending = 2

-- the number of a fate
abbrev pub fate_number : Fate → ℕ
fate_number Ok = 0
fate_number Poison = 1

-- the fate with a number: 1 is Poison, each other number Ok
abbrev pub fate_by : ℕ → Fate
fate_by n = cond (n == 1) Poison Ok

-- the number of what watching did
abbrev pub watch_number : Watch → ℕ
watch_number Placed = 0
watch_number (Over Ok w) = 1
watch_number (Over Poison w) = 2
watch_number (Moved w) = 3
