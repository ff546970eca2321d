-- What a watch did, by the number that was answered and by what the handle of the waiter holds.
use Rattle.std.specs.Prelude.{◌≡◌, ℕ, Option}
use Rattle.shared_events.specs.declared.events.Events.{Events}
use Rattle.event_table.specs.declared.handle.Handle.{Handle}
use Rattle.shared_events.specs.declared.tokens.Waiter.{Waiter}
use Rattle.shared_events.specs.declared.tokens.Watch.{Watch}
use Rattle.shared_events.specs.declared.view.View.{View}
use Rattle.realm_events_c.specs.Calls.{Watches}
use Rattle.realm_events_c.specs.Kinds.{IsBack, watch_number}
use Rattle.realm_events_c.specs.declared.token.Token.{Token}

-- the handle h was watched by the waiter k, which its handle holds again unless it was placed
pub record WatchedBy (e : Events) (v w : View) (h : Handle) (k : Waiter) (number : ℕ) (left : Option Token) : Type 0 where
  pub watch : Watch
  pub number_is : number ≡ watch_number watch
  pub back : IsBack watch left
  pub watches : Watches e v w h k watch
