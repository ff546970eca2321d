-- What a seat at the events keeps over several steps.
use Rattle.std.proofs.Common.{◌≡◌, List, [], ◌++◌, sym, ◌∙◌, ap, append_assoc}
use Rattle.std.proofs.lemmas.List.{append-nil}
use Rattle.shared_events.specs.Seats.{Begins, Grows}
use Rattle.shared_events.specs.declared.view.View.{View}

begins_same : {X : Type 0} (xs : List X) → Begins xs xs
begins_same xs = ([], sym (append-nil xs))

begins_then : {X : Type 0} (xs ys zs : List X) → Begins xs ys → Begins ys zs → Begins xs zs
begins_then xs ys zs a b = (a.0 ++ b.0, b.1 ∙ (ap (λ l. l ++ b.0) a.1 ∙ append_assoc xs a.0 b.0))

pub grows_same : (v : View) → Grows v v
grows_same v = (begins_same v.seen, begins_same v.known, begins_same v.placed, begins_same v.given, begins_same v.emptied, begins_same v.left, begins_same v.saw, begins_same v.past)

pub grows_then : (v u w : View) → Grows v u → Grows u w → Grows v w
grows_then v u w a b = (
  begins_then v.seen u.seen w.seen a.0 b.0,
  begins_then v.known u.known w.known a.1 b.1,
  begins_then v.placed u.placed w.placed a.2 b.2,
  begins_then v.given u.given w.given a.3 b.3,
  begins_then v.emptied u.emptied w.emptied a.4 b.4,
  begins_then v.left u.left w.left a.5 b.5,
  begins_then v.saw u.saw w.saw a.6 b.6,
  begins_then v.past u.past w.past a.7 b.7,
)

-- a list that one was joined to that was empty
pub joined_bare : {X : Type 0} (xs ys zs : List X) → zs ≡ xs ++ ys → ys ≡ [] → zs ≡ xs
joined_bare xs ys zs q none = q ∙ (ap (λ l. xs ++ l) none ∙ append-nil xs)
