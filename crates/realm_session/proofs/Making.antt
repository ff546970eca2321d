-- One line more is recorded.
use Rattle.std.proofs.Common.{◌≡◌, ◌≢◌, ℕ, zero, suc, ◌<◌, ◌⊎◌, List, [], ◌∷◌, ◌++◌, length, map, sym, refl, ap, ◌∙◌, subst, inl, inr, ⊎_elim, arith, Some, None}
use Rattle.std.proofs.lemmas.List.{map-append}
use Rattle.std.specs.Prelude.{Contains, slice_get}
use Rattle.std.proofs.lemmas.List.Elements.{Contains-append_left, Contains-append_right, Contains-push_cases}
use Rattle.basics.proofs.ListFacts.{contains_map, got_contains}
use Rattle.event_table.specs.declared.handle.Handle.{Handle}
use Rattle.shared_events.specs.declared.tokens.Seat.{Seat}
use Rattle.realm_session.specs.declared.line.Line.{Line}
use Rattle.realm_session.specs.Recorded.{handle_in, AreNew}
use Rattle.shared_events.specs.declared.tokens.Maker.{Maker}
use Rattle.shared_events.specs.Views.{IsMakerOf, made_by}
use Rattle.realm_session.specs.declared.recorder.Recorder.{Recorder}
use Rattle.realm_session.specs.declared.session.Session.{Session}
use Rattle.realm_session.specs.Sessions.{HasMade, IsSeatOf, Tells}

pub made_more : (done : List Line) (x : Line) (made now : List Handle) → made ≡ map handle_in done → now ≡ made ++ x.handle ∷ [] → now ≡ map handle_in (done ++ x ∷ [])
made_more done x made now same more = more ∙ (ap (λ l. l ++ x.handle ∷ []) same ∙ sym (map-append handle_in done (x ∷ [])))

-- the new handle is of no line that was recorded
pub is_other : (done : List Line) (made : List Handle) (h : Handle) → made ≡ map handle_in done → (Contains made h → ⊥) → (x : Line) → Contains done x → x.handle ≢ h
is_other done made h same new x c e = new (subst (Contains made) e (subst (λ l. Contains l x.handle) (sym same) (contains_map handle_in done x c)))

pub tells_push : (s u : Seat) (done : List Line) (x : Line) → ((y : Line) → Contains done y → Tells s y) → ((y : Line) → Tells s y → Tells u y) → Tells u x → (y : Line) → Contains (done ++ x ∷ []) y → Tells u y
tells_push s u done x all kept this y c = ⊎_elim (λ d. kept y (all y d)) (λ e. subst (Tells u) e this) (Contains-push_cases done x y c)

none_some : (x : Line) → None ≡ Some x → ⊥
none_some x e = cc

push_cases : (xs : List Line) (y : Line) (i : ℕ) (a : Line) → slice_get (xs ++ y ∷ []) i ≡ Some a → (slice_get xs i ≡ Some a) ⊎ ((i ≡ length xs) × (y ≡ a))
push_cases [] y zero a e = inr (refl, cc)
push_cases [] y (suc i) a e = absurd (none_some a e)
push_cases (x ∷ xs) y zero a e = inl e
push_cases (x ∷ xs) y (suc i) a e = ⊎_elim (λ z. inl z) (λ z. inr (ap suc z.0, z.1)) (push_cases xs y i a e)

pub none_new : (slots : ℕ) (old : List Line) → AreNew slots old []
none_new slots old = record {
  within = λ x c. absurd (let h = c.1 in omega arith);
  apart = λ i j x y a b e. absurd (none_some x a);
  other = λ x y c d. absurd (let h = c.1 in omega arith);
}

pub new_more : (slots : ℕ) (old new : List Line) (x : Line) → AreNew slots old new → x.handle.slot < slots → ((y : Line) → Contains (old ++ new) y → y.handle ≢ x.handle) → AreNew slots old (new ++ x ∷ [])
new_more slots old new x are near other = record {
  within = λ y c. ⊎_elim (λ d. are.within y d) (λ (e : x ≡ y). subst (λ (z : Line). z.handle.slot < slots) e near) (Contains-push_cases new x y c);
  apart = λ i j a b p q same. ⊎_elim
      (λ p'. ⊎_elim (λ q'. are.apart i j a b p' q' same) (λ q'. absurd (other a (Contains-append_right old new a (got_contains new i a p')) (same ∙ sym (ap (λ (z : Line). z.handle) q'.1)))) (push_cases new x j b q))
      (λ p'. ⊎_elim (λ q'. absurd (other b (Contains-append_right old new b (got_contains new j b q')) (sym same ∙ sym (ap (λ (z : Line). z.handle) p'.1)))) (λ q'. p'.0 ∙ sym q'.0) (push_cases new x j b q))
      (push_cases new x i a p);
  other = λ y z c d same. ⊎_elim (λ c'. are.other y z c' d same) (λ (e : x ≡ y). other z (Contains-append_left old new z d) (sym same ∙ sym (ap (λ (w : Line). w.handle) e))) (Contains-push_cases new x y c);
}

-- what a recorder has made, by its parts
pub made_by_parts : (s : Session) (r r' : Recorder) (xs ys : List Line) → r'.maker ≡ r.maker → r'.seat ≡ r.seat → r'.slots ≡ r.slots → ys ≡ xs → HasMade s r xs → HasMade s r' ys
made_by_parts s r r' xs ys maker seat slots same m = record {
  maker = subst (λ (k : Maker). IsMakerOf s.events k) (sym maker) m.maker;
  seat = subst (λ (k : Seat). IsSeatOf s k) (sym seat) m.seat;
  slots = slots ∙ m.slots;
  made = ap made_by maker ∙ (m.made ∙ ap (map handle_in) (sym same));
  tells = λ x c. subst (λ (k : Seat). Tells k x) (sym seat) (m.tells x (subst (λ l. Contains l x) same c));
}
