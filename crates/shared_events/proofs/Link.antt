-- The steps on a waiter: it is linked, placed on a handle, and given again.
use Rattle.std.proofs.Common.{◌≡◌, ℕ, ◌+◌, ◌<◌, ◌≢◌, List, [], ◌∷◌, get_or, set, sym, refl, ap, ◌∙◌, subst, ⊎_elim, arith, length-set, get_or-set_other, get_or-set_same}
use Rattle.std.specs.Prelude.{Contains}
use mathlib.Core.Option.{some}
use lib.ListN.{get_elem?}
use Rattle.atomic_table.specs.Table.{keeps, Allows}
use Rattle.event_table.specs.declared.handle.Handle.{Handle}
use Rattle.event_table.specs.declared.handle.Shape.{Shape}
use Rattle.shared_events.specs.declared.view.View.{View}
use Rattle.basics.specs.Sums.{total}
use Rattle.event_table.specs.Words.{mark}
use Rattle.shared_events.specs.Rule.{held, Fits, Orderly}
use Rattle.shared_events.specs.Plays.{Sat, first_to, linked_to, relinked}
use Rattle.basics.proofs.ListFacts.{contains_none, contains_cases, contains_here, contains_there}
use Rattle.shared_events.proofs.Frames.{Leaves, steady}
use Rattle.event_table.proofs.Public.{marks_low}
use Rattle.shared_events.proofs.Apart.{St, not_in_rest, not_my_catch, not_their_hand, not_their_catch, not_placed, linked_else}
use Rattle.shared_events.proofs.Parts.{HandFits, whole, facts_fit, placings_fit, rights_fit, chase_fits, making_fits}
use Rattle.shared_events.proofs.Steps.{board, each_after, writes}

-- The waiter k, first in hand, is linked to x
module _ (key : Shape) (s : St) (o : Orderly key s) (id : ℕ) (v : View) (k c x : ℕ) (ps : List (ℕ × ℕ)) (me : get_elem? s.views id ≡ some v) (hand : v.hand ≡ (k, c) ∷ ps) where
  fits : Fits key s.words o.turns o.log v
  fits = o.each_view id v me

  is_waiter : k < key.waiters
  is_waiter = (fits.hand (k, c) (subst (λ l. Contains l (k, c)) (sym hand) (contains_here (k, c) ps))).0

  abbrev ws' : List ℕ
  ws' = set s.words (key.slots + k) x

  abbrev w : View
  w = linked_to v x

  hand' : w.hand ≡ (k, x) ∷ ps
  hand' = ap (λ l. first_to l x) hand

  here : get_or ws' (key.slots + k) 0 ≡ x
  here = get_or-set_same s.words (key.slots + k) x 0 (let a = o.wide in let b = is_waiter in omega arith)

  there : (j : ℕ) → j ≢ key.slots + k → get_or ws' j 0 ≡ get_or s.words j 0
  there j n = get_or-set_other s.words (key.slots + k) j x 0 n

  low_bit : (y : Handle) → mark key ws' y ≡ mark key s.words y
  low_bit y = marks_low key s.words (key.slots + k) x y (let a = is_waiter in omega arith)

  leaves : (u : View) → Fits key s.words o.turns o.log u → ((p : ℕ × ℕ) → Contains u.hand p → p.0 ≢ k) → (Contains u.caught k → ⊥) → Leaves key s.words ws' o.turns o.turns o.log o.log u
  leaves u f no_hand no_catch = record {
    rises = λ i. omega arith;
    longer = λ p d. d;
    old = λ y z d e. d;
    still = λ y d. refl;
    hand = λ p d. there (key.slots + p.0) (λ e. no_hand p d (omega arith));
    caught = linked_else key s.words u.caught k x no_catch f.caught;
    bits = λ y d. low_bit y;
    stay = λ y d. low_bit y ∙ d;
    made = λ m y d. d;
    spare = λ m p d. let z = (f.spare m p d).0 in (there p.0 (λ e. omega arith), refl);
  }

  mine : Fits key ws' o.turns o.log w
  mine =
      let v₀ : View = record v { hand = [] } in
      let f₀ : Fits key s.words o.turns o.log v₀ = whole v₀ (facts_fit fits) fits.saw (placings_fit fits) (rights_fit fits) (λ p d. absurd (contains_none p d)) (chase_fits fits) (making_fits fits) in
      let f = steady key s.words ws' o.turns o.turns o.log o.log v₀ f₀ (leaves v₀ f₀ (λ p d. absurd (contains_none p d)) (not_my_catch key s o id v k c ps me hand)) in
      let in_hand : HandFits key ws' w.hand = λ p d. ⊎_elim (λ (e : (k, x) ≡ p). subst (λ (q : ℕ × ℕ). (q.0 < key.waiters) × (get_or ws' (key.slots + q.0) 0 ≡ q.1)) e (is_waiter, here))
      (λ z. let old = fits.hand p (subst (λ l. Contains l p) (sym hand) (contains_there (k, c) ps p z)) in (old.0, there (key.slots + p.0) (λ e. not_in_rest key s o id v k c ps me hand p z (omega arith)) ∙ old.1))
      (contains_cases (k, x) ps p (subst (λ l. Contains l p) hand' d)) in
      whole w (facts_fit f) f.saw (placings_fit f) (rights_fit f) in_hand (chase_fits f) (making_fits f)

  weighs : (f : ℕ → ℕ) → held f w ≡ held f v
  weighs f = omega (arith, ap (total (λ (p : ℕ × ℕ). f p.0)) hand, ap (total (λ (p : ℕ × ℕ). f p.0)) hand')

  pub links_rule : Orderly key (board ws' s.homes (set s.views id w))
  links_rule = writes key s o id v w me refl refl ws' (length-set s.words (key.slots + k) x) (λ y a b n. low_bit y)
      (λ j l. (there j (λ e. omega arith), linked_else key s.words (get_or o.chains j []) k x (not_placed key s o id v k c ps me hand j l) (o.each_slot j l).1))
      (each_after key s o id w ws' o.turns o.log mine (λ j u apart at. leaves u (o.each_view j u at) (not_their_hand key s o id v k c ps me hand j u apart at) (not_their_catch key s o id v k c ps me hand j u apart at)))
      weighs refl

pub links : (key : Shape) (n id i : ℕ) (m : Sat) (k c x : ℕ) (ps : List (ℕ × ℕ)) → m.0.hand ≡ (k, c) ∷ ps → i ≡ key.slots + k → Allows (Orderly key) n id m i (λ _. x) (λ _. relinked x m)
links key n id i m k c x ps hand at s o wide me _ = (
  linked_to m.0 x,
  keeps,
  tt,
  subst (λ j. Orderly key (board (set s.words j x) s.homes (set s.views id (linked_to m.0 x)))) (sym at) (links_rule key s o id m.0 k c x ps me hand),
  refl,
)
