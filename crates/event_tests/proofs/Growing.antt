-- What a seat has seen and knows, over two calls; and a list of handles to which one is added, where memory is there.
use Rattle.std.proofs.Common.{◌≡◌, Bool, true, false, cond, List, [], ◌∷◌, ◌++◌, sym, subst}
use Rattle.std.specs.Prelude.{All}
use Rattle.std.proofs.lemmas.List.Elements.{All-push}
use Rattle.event_table.specs.declared.handle.Handle.{Handle}
use Rattle.shared_events.specs.declared.view.View.{View}
use Rattle.shared_events.specs.Seats.{Keeps}

pub keeps_on : (v u w : View) → Keeps v u → Keeps u w → Keeps v w
keeps_on v u w a b = (λ h s. b.0 h (a.0 h s), λ h f k. b.1 h f (a.1 h f k))

pub pushed : (P : Handle → Type 0) (xs ys : List Handle) (h : Handle) (b : Bool) → ys ≡ cond b (xs ++ h ∷ []) xs → All P xs → P h → All P ys
pushed P xs ys h true e a p = subst (All P) (sym e) (All-push P xs h a p)
pushed P xs ys h false e a p = subst (All P) (sym e) a
