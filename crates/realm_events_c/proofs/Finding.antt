-- Where no event was created, each slot was found retired or pending, at a table that is the same.
use Rattle.std.proofs.Common.{◌≡◌, List, ◌++◌, subst}
use Rattle.std.specs.Prelude.{Option, Some, None, IfNone}
use Rattle.shared_events.specs.Seats.{Grows, Keeps, SamePlacings}
use Rattle.shared_events.specs.Views.{shape_of, AreTaken, IsFull}
use Rattle.shared_events.specs.declared.events.Events.{Events}
use Rattle.event_table.specs.declared.handle.Handle.{Handle}
use Rattle.shared_events.specs.declared.view.View.{View}
use Rattle.realm_events_c.specs.Calls.{FindsFull}

pub finds_full : {X : Type 0} (r : Option X) (d e : Events) (made new : List Handle) (v w : View) → d ≡ e → Grows v w → Keeps v w → IfNone r (new ≡ made) → IfNone r (IsFull (shape_of d) made v w) → IfNone r (AreTaken (shape_of d) made v)
    → w.seen ≡ v.seen ++ new → w.known ≡ v.known → SamePlacings v w → w.left ≡ v.left → IfNone r (FindsFull (shape_of e) made new v w)
finds_full None d e made new v w same grows kept none full taken seen known placings left = record {
  «grows» = grows;
  «kept» = kept;
  «none» = none;
  full = subst (λ x. IsFull (shape_of x) made v w) same full;
  taken = subst (λ x. AreTaken (shape_of x) made v) same taken;
  more_seen = seen;
  same_known = known;
  same_placings = placings;
  same_left = left;
}
finds_full (Some p) d e made new v w same grows kept none full taken seen known placings left = tt
