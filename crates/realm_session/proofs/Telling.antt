-- What a seat goes on to tell of.
use Rattle.std.proofs.Common.{◌≡◌, List, ◌++◌, sym, refl, subst, Option, Some, None}
use Rattle.std.specs.Prelude.{Contains}
use Rattle.std.proofs.lemmas.List.Elements.{Contains-append_left}
use Rattle.event_table.specs.declared.handle.Handle.{Handle}
use Rattle.event_table.specs.declared.handle.Answer.{Answer}
use Rattle.event_table.specs.declared.handle.Answer.TheVariants.{Pending}
use Rattle.event_table.specs.declared.handle.Fate.{Fate}
use Rattle.shared_events.specs.declared.tokens.Seat.{Seat}
use Rattle.event_table.specs.EventMap.{answer_of}
use Rattle.shared_events.specs.Seats.{Keeps}
use Rattle.shared_events.specs.Views.{lists}
use Rattle.graph_terms.specs.declared.outcome.End.{End}
use Rattle.graph_terms.specs.declared.outcome.End.TheVariants.{Done, Faulted, Cancelled, Waiting}
use Rattle.realm_session.specs.declared.line.Line.{Line}
use Rattle.realm_session.specs.Recorded.{answer_for, ends_for}
use Rattle.realm_session.specs.Sessions.{Tells}

-- a seat that has lost nothing
pub tells_on : (s t : Seat) → Keeps (lists s) (lists t) → ((h : Handle) → Contains (lists s).left h → Contains (lists t).left h) → (x : Line) → Tells s x → Tells t x
tells_on s t keeps left x a = record {
  seen = keeps.0 x.handle a.seen;
  left = λ e. left x.handle (a.left e);
  known = λ f e. keeps.1 x.handle f (a.known f e);
  real = a.real;
}

pub tells_more : (s t : Seat) (hs : List Handle) → Keeps (lists s) (lists t) → (lists t).left ≡ (lists s).left ++ hs → (x : Line) → Tells s x → Tells t x
tells_more s t hs keeps more = tells_on s t keeps (λ h c. subst (λ l. Contains l h) (sym more) (Contains-append_left (lists s).left hs h c))

pub tells_same : (s t : Seat) → Keeps (lists s) (lists t) → (lists t).left ≡ (lists s).left → (x : Line) → Tells s x → Tells t x
tells_same s t keeps same = tells_on s t keeps (λ h c. subst (λ l. Contains l h) (sym same) c)

some_none : (f : Fate) → Some f ≡ None → ⊥
some_none f e = cc

-- the answer by the line's end, by what the seat's lists say
pub answers : (e : End) (a : Answer) → (ends_for e ≡ None → a ≡ Pending) → ((f : Fate) → ends_for e ≡ Some f → a ≡ answer_of f) → a ≡ answer_for e
answers Done a w k = k _ refl
answers Faulted a w k = k _ refl
answers Cancelled a w k = k _ refl
answers Waiting a w k = w refl

-- the same, of what is left
pub closes : (e : End) (o : Option Answer) → (ends_for e ≡ None → o ≡ Some Pending) → ((f : Fate) → ends_for e ≡ Some f → o ≡ Some (answer_of f)) → o ≡ Some (answer_for e)
closes Done o w k = k _ refl
closes Faulted o w k = k _ refl
closes Cancelled o w k = k _ refl
closes Waiting o w k = w refl
