-- A slot is free for the next event.
use Rattle.std.proofs.Common.{◌≡◌, ℕ, zero, suc, ◌+◌, ◌<◌, ◌≤◌, List, [], ◌∷◌, length, refl, ap, ◌∙◌, subst, ⊎_elim, arith, Some}
use Rattle.std.specs.Prelude.{Contains, map}
use Rattle.basics.specs.Sums.{total, below, only}
use Rattle.basics.proofs.Sums.{item_le, only-same, below-once}
use Rattle.basics.proofs.ListFacts.{map_contains}
use Rattle.event_table.specs.declared.handle.Handle.{Handle}
use Rattle.event_table.specs.declared.handle.Fate.{Fate}
use Rattle.event_table.specs.declared.handle.Fate.TheVariants.{Ok, Poison}
use Rattle.event_table.specs.declared.handle.Shape.{Shape}
use Rattle.shared_events.specs.declared.view.View.{View}
use Rattle.shared_events.specs.Seats.{Knows}
use Rattle.shared_events.specs.Views.{GoesRound, AreTaken}
use Rattle.graph_terms.specs.declared.outcome.End.{End}
use Rattle.graph_terms.specs.declared.outcome.End.TheVariants.{Done, Faulted, Cancelled, Waiting}
use Rattle.realm_session.specs.declared.line.Line.{Line}
use Rattle.realm_session.specs.Recorded.{ends_for, handle_in, waiting_in, waits}

-- 1 for a line that waits at the slot i
weight : End → ℕ → ℕ → ℕ
weight Done s i = 0
weight Faulted s i = 0
weight Cancelled s i = 0
weight Waiting s i = only s i

none_below : (n : ℕ) → below (λ _. 0) n ≡ 0
none_below zero = refl
none_below (suc n) = omega (arith, none_below n)

below_add : (f g : ℕ → ℕ) (n : ℕ) → below (λ i. f i + g i) n ≡ below f n + below g n
below_add f g zero = refl
below_add f g (suc n) = omega (arith, below_add f g n)

each_below : (f : ℕ → ℕ) (n : ℕ) → ((i : ℕ) → i < n → 1 ≤ f i) → n ≤ below f n
each_below f zero h = omega arith
each_below f (suc n) h = omega (arith, each_below f n (λ i l. h i (omega arith)), h n (omega arith))

-- a line waits at one slot
weight_once : (e : End) (s n : ℕ) → below (weight e s) n ≤ waits e
unfolding weight
weight_once Done s n = omega (arith, none_below n)
weight_once Faulted s n = omega (arith, none_below n)
weight_once Cancelled s n = omega (arith, none_below n)
weight_once Waiting s n = below-once s n

at_slot : ℕ → Line → ℕ
at_slot i x = weight x.end x.handle.slot i

-- so the lines that wait at the slots below n are no more than all that wait
all_slots : (xs : List Line) (n : ℕ) → below (λ i. total (at_slot i) xs) n ≤ waiting_in xs
unfolding at_slot
all_slots [] n = omega (arith, none_below n)
all_slots (x ∷ xs) n = omega (arith, below_add (weight x.end x.handle.slot) (λ i. total (at_slot i) xs) n, weight_once x.end x.handle.slot n, all_slots xs n)

waits_here : (i : ℕ) (x : Line) → x.handle.slot ≡ i → x.end ≡ Waiting → at_slot i x ≡ 1
unfolding weight at_slot
waits_here i x at is = ap (λ e. weight e x.handle.slot i) is ∙ (ap (λ s. only s i) at ∙ only-same i)

-- where each of n slots has a line that waits, n lines wait
pub all_wait : (n : ℕ) (xs : List Line) → ((i : ℕ) → i < n → (x : Line) × Contains xs x × (x.handle.slot ≡ i) × (x.end ≡ Waiting)) → n ≤ waiting_in xs
all_wait n xs h = omega (arith, all_slots xs n, each_below (λ i. total (at_slot i) xs) n (λ i l. let t = h i l in let one = waits_here i t.0 t.2 t.3 in let some = item_le (at_slot i) xs t.0 t.1 in omega (arith, one, some)))

-- a line whose event does not end waits
pub no_end : (e : End) → ((f : Fate) → ends_for e ≡ Some f → ⊥) → e ≡ Waiting
no_end Done h = absurd (h Ok refl)
no_end Faulted h = absurd (h Poison refl)
no_end Cancelled h = absurd (h Poison refl)
no_end Waiting h = refl

module _ (shape : Shape) (next : ℕ) (made : List Handle) (xs : List Line) (v : View) (same : made ≡ map handle_in xs) (round : GoesRound shape.slots next made) (last : shape.last_gen ≡ 8191) (few : length made < 8191)
    (tells : (x : Line) → Contains xs x → (f : Fate) → ends_for x.end ≡ Some f → Knows v x.handle f) where
  -- no slot serves so often
  not_last : (h : Handle) → Contains made h → h.gen_ ≡ shape.last_gen → ⊥
  not_last h c e = let a = round.later c.0 h c.1 c.2 (omega arith) in omega (arith, a, c.1)

  -- a handle whose end is not known is that of a line that waits
  waits_for : (h : Handle) → Contains made h → ((f : Fate) → Knows v h f → ⊥) → (x : Line) × Contains xs x × (x.handle ≡ h) × (x.end ≡ Waiting)
  waits_for h c n = let t = map_contains handle_in xs h (subst (λ l. Contains l h) same c) in
      (t.0, t.1, t.2, no_end t.0.end (λ f e. n f (subst (λ k. Knows v k f) t.2 (tells t.0 t.1 f e))))

  pub slot_free : AreTaken shape made v → 1 + waiting_in xs ≤ shape.slots → ⊥
  slot_free taken room = omega (
    arith,
    all_wait shape.slots xs (λ i l. let t = taken i l in
        let w = waits_for t.0 t.2 (⊎_elim (λ e. absurd (not_last t.0 t.2 e)) (λ n. n) t.3) in (w.0, w.1, ap (λ (k : Handle). k.slot) w.2 ∙ t.1, w.3)),
  )
