-- What `attach` leaves.
use Rattle.std.proofs.Common.{◌≡◌, ◌≢◌, ℕ, ◌+◌, ◌*◌, ◌/◌, ◌%◌, ◌<◌, ◌≤◌, List, [], ◌∷◌, ◌++◌, sym, refl, ap, ◌∙◌, subst, arith, map}
use Rattle.std.specs.Prelude.{Contains}
use Rattle.std.proofs.lemmas.List.Elements.{Contains-append_left, Contains-append_right}
use mathlib.Core.Logic.{dite}
use native.Mathlib.Decide.{ℕ_discrete}
use Rattle.event_table.specs.declared.handle.Handle.{Handle}
use Rattle.event_table.specs.declared.handle.Shape.{Shape}
use Rattle.event_table.specs.Words.{turns_of, handle_at}
use Rattle.shared_events.specs.Plays.{Sat, first_to, first_of, but_first, relinked, with_first, placed_on, looked, found_at, ends_of, joined, dealt, dealer}
use Rattle.shared_events.specs.Seats.{Rights, IsPlain, IsWaiter, SameGiven, Grows, waiters_of}
use Rattle.event_table.proofs.Public.{turns_if}
use Rattle.shared_events.proofs.Found.{ends_has}
use Rattle.shared_events.proofs.Growing.{same_begins, grows_on}
use Rattle.shared_events.proofs.Apart.{same_handle}
use Rattle.shared_events.proofs.Takes.{map_nil, one_in_hand, adds_none}

-- a word that shows an odd number of turns
pub odd_word : (w g : ℕ) → turns_of w ≡ 2 * g + 1 → (w / 4294967296 ≡ g) × (w % 4294967296 ≢ 0) × (w % 4294967296 ≢ 4294967295)
odd_word w g e = dite (ℕ_discrete (w % 4294967296) 0)
    (λ z. let t : turns_of w ≡ 2 * (w / 4294967296) = turns_if w (2 * (w / 4294967296)) (λ _. refl) (λ y. absurd (omega arith)) (λ y₁ y₂. absurd (omega arith)) in absurd (omega arith))
    (λ n. dite (ℕ_discrete (w % 4294967296) 4294967295)
    (λ z. let t : turns_of w ≡ 2 * (w / 4294967296) + 2 = turns_if w (2 * (w / 4294967296) + 2) (λ y. absurd (omega arith)) (λ _. refl) (λ y₁ y₂. absurd (omega arith)) in absurd (omega arith))
    (λ m. let t : turns_of w ≡ 2 * (w / 4294967296) + 1 = turns_if w (2 * (w / 4294967296) + 1) (λ y. absurd (n y)) (λ y. absurd (m y)) (λ _ _. refl) in (omega arith, n, m)))

pub handle_is : (h : Handle) (w : ℕ) → turns_of w ≡ 2 * h.gen_ + 1 → handle_at h.slot (w / 4294967296) ≡ h
handle_is h w e = sym (same_handle h h.slot (w / 4294967296) refl (sym (odd_word w h.gen_ e).0))

-- what the seat n has of v besides its hand
abbrev pub Kept : Sat → Sat → Type 0
Kept v n = record {
  caught : n.0.caught ≡ [];
  placed : n.0.placed ≡ v.0.placed;
  saw : n.0.saw ≡ v.0.saw;
  keys : n.0.keys ≡ v.0.keys;
  seen : (h : Handle) → Contains v.0.seen h → Contains n.0.seen h;
  same_seen : n.0.seen ≡ v.0.seen;
  same_given : SameGiven v.0 n.0;
  grows : Grows v.0 n.0;
}

-- the seat with the waiter k in hand, linked to d
pub record Ready (k d : ℕ) (v n : Sat) : Type 0 where
  pub hand : n.0.hand ≡ (k, d) ∷ []
  pub rights : Rights n 0 [] (k ∷ []) []
  pub kept : Kept v n

pub in_hand : (k : ℕ) (v u m : Sat) → IsPlain v → IsWaiter u k → m ≡ (joined v.0 u.0, v.1) → (c : ℕ) × Ready k c v m
in_hand k v u m p q e =
    let bare = map_nil (λ (p : ℕ × ℕ). p.0) v.0.hand p.0.3 in
    let one = one_in_hand u.0.hand k q.0.3 in
    let w : Sat = (joined v.0 u.0, v.1) in
    let hand : v.0.hand ++ u.0.hand ≡ (k, one.0) ∷ [] = λ t. bare t ++ one.1 t in (
      one.0,
      subst (Ready k one.0 v) (sym e) (record {
        hand = hand;
        rights = (p.0.0, (let a = p.0.1 in let b = q.0.1 in omega arith), (λ t. p.0.2 t ++ q.0.2 t), ap (map (λ (p : ℕ × ℕ). p.0)) hand, p.0.4, (λ t. p.0.5 t ++ q.0.5 t));
        kept = record {
          caught = p.1;
          placed = adds_none v.0.placed u.0.placed q.4.0;
          saw = adds_none v.0.saw u.0.saw q.4.3;
          keys = refl;
          seen = λ h c. Contains-append_left v.0.seen u.0.seen h c;
          same_seen = adds_none v.0.seen u.0.seen q.5;
          same_given = (adds_none v.0.given u.0.given q.4.1, adds_none v.0.emptied u.0.emptied q.4.2, adds_none v.0.left u.0.left q.7);
          grows = ((u.0.seen, refl), (u.0.known, refl), (u.0.placed, refl), (u.0.given, refl), (u.0.emptied, refl), (u.0.left, refl), (u.0.saw, refl), (u.0.past, refl));
        };
      }),
    )

pub linked_now : (k c d : ℕ) (v m n : Sat) → Ready k c v m → relinked d m n → Ready k d v n
linked_now k c d v m n r t =
    let hand : first_to m.0.hand d ≡ (k, d) ∷ [] = ap (λ l. first_to l d) r.hand in
    subst (Ready k d v) (sym t) (record { hand = hand; rights = (r.rights.0, r.rights.1, r.rights.2, ap (map (λ (p : ℕ × ℕ). p.0)) hand, r.rights.4, r.rights.5); kept = r.kept })

-- the waiter was joined in and linked
pub ready_now : (k d : ℕ) (v u m n : Sat) → IsPlain v → IsWaiter u k → m ≡ (joined v.0 u.0, v.1) → relinked d m n → Ready k d v n
ready_now k d v u m n p q e t = let r = in_hand k v u m p q e in linked_now k r.0 d v m n r.1 t

-- the waiter was placed
pub placed_now : (k d : ℕ) (h : Handle) (found : ℕ) (v m n : Sat) → Ready k d v m → turns_of found ≡ 2 * h.gen_ + 1 → n ≡ (placed_on m.0 (handle_at h.slot (found / 4294967296)), m.1)
    → IsPlain n × (n.0.placed ≡ v.0.placed ++ (k, h) ∷ []) × (n.0.saw ≡ v.0.saw) × (n.0.seen ≡ v.0.seen) × SameGiven v.0 n.0
placed_now k d h found v m n r odd e =
    let h' : Handle = handle_at h.slot (found / 4294967296) in
    let firsts : with_first h' m.0.hand ≡ (k, h) ∷ [] = ap (with_first h') r.hand ∙ ap (λ (x : Handle). (k, x) ∷ []) (handle_is h found odd) in
    subst (λ (x : Sat). IsPlain x × (x.0.placed ≡ v.0.placed ++ (k, h) ∷ []) × (x.0.saw ≡ v.0.saw) × (x.0.seen ≡ v.0.seen) × SameGiven v.0 x.0) (sym e) (
      ((r.rights.0, r.rights.1, r.rights.2, ap (λ (l : List (ℕ × ℕ)). map (λ (p : ℕ × ℕ). p.0) (but_first l)) r.hand, r.rights.4, r.rights.5), r.kept.caught),
      (λ t. r.kept.placed t ++ firsts t),
      r.kept.saw,
      r.kept.same_seen,
      r.kept.same_given,
    )

-- the waiter comes back
pub record Back (k : ℕ) (h : Handle) (again : ℕ) (v n q : Sat) : Type 0 where
  pub plain : IsPlain n
  pub waiter : IsWaiter q k
  pub grows : Grows v.0 n.0
  pub keys : q.0.keys ≡ v.0.keys
  pub placed : n.0.placed ≡ v.0.placed
  pub saw : n.0.saw ≡ v.0.saw ++ (h.slot, again) ∷ []
  pub same_seen : n.0.seen ≡ v.0.seen
  pub same_given : SameGiven v.0 n.0
  pub ended : 2 * h.gen_ + 2 ≤ turns_of again → Contains n.0.past h
  pub pending : turns_of again < 2 * h.gen_ + 2 → turns_of again ≡ 2 * h.gen_ + 1

pub comes_back : (k d : ℕ) (h : Handle) (again : ℕ) (v m n n' q : Sat) (x : Shape) → Ready k d v m → Contains v.0.seen h → v.0.keys ≡ x ∷ [] → k < x.waiters → x.waiters ≤ 65536 → looked h.slot m again n → n' ≡ (dealer n.0, n.1) → q ≡ (dealt n.0, [])
    → Back k h again v n' q
comes_back k d h again v m n n' q x r seen keys few small t left right =
    let seen' = r.kept.seen h seen in
    let w : Sat = (found_at m.0 h.slot again, m.1) in
    let agrees = t.1.0 h seen' refl in
    let all : waiters_of m.0.keys ≡ x.waiters = ap waiters_of (r.kept.keys ∙ keys) in
    let base : Back k h again v (dealer w.0, w.1) (dealt w.0, []) = record {
      plain = ((r.rights.0, r.rights.1, r.rights.2, ap (λ (l : List (ℕ × ℕ)). map (λ (p : ℕ × ℕ). p.0) (but_first l)) r.hand, r.rights.4, r.rights.5), r.kept.caught);
      waiter = ((refl, refl, refl, ap (λ (l : List (ℕ × ℕ)). map (λ (p : ℕ × ℕ). p.0) (first_of l)) r.hand, refl, refl), refl, omega arith, omega arith, (refl, refl, refl, refl), refl, refl, refl);
      grows = grows_on v.0 m.0 w.0 r.kept.grows (same_begins m.0.seen m.0.seen refl, same_begins m.0.known m.0.known refl, same_begins m.0.placed m.0.placed refl, same_begins m.0.given m.0.given refl, same_begins m.0.emptied m.0.emptied refl, same_begins m.0.left m.0.left refl, ((h.slot, again) ∷ [], refl), (ends_of h.slot (turns_of again) m.0.seen, refl));
      keys = r.kept.keys;
      placed = r.kept.placed;
      saw = ap (λ l. l ++ (h.slot, again) ∷ []) r.kept.saw;
      same_seen = r.kept.same_seen;
      same_given = r.kept.same_given;
      ended = λ past. Contains-append_right m.0.past (ends_of h.slot (turns_of again) m.0.seen) h (ends_has h.slot (turns_of again) m.0.seen h seen' refl past);
      pending = λ l. omega arith;
    } in
    subst (λ (y : Sat). Back k h again v y q) (sym (left ∙ ap (λ (y : Sat). (dealer y.0, y.1)) t.0)) (subst (λ (y : Sat). Back k h again v (dealer w.0, w.1) y) (sym (right ∙ ap (λ (y : Sat). (dealt y.0, [])) t.0)) base)

-- the same from the call's beginning
pub came_back : (k d : ℕ) (h : Handle) (again : ℕ) (v u m l n n' q : Sat) (x : Shape) → IsPlain v → IsWaiter u k → v.0.keys ≡ x ∷ [] → u.0.keys ≡ x ∷ [] → x.waiters ≤ 65536 → m ≡ (joined v.0 u.0, v.1) → relinked d m l → Contains v.0.seen h
    → looked h.slot l again n → n' ≡ (dealer n.0, n.1) → q ≡ (dealt n.0, []) → Back k h again v n' q
came_back k d h again v u m l n n' q x plain waiter keys keys' small join link seen t left right =
    let all : waiters_of u.0.keys ≡ x.waiters = ap waiters_of keys' in
    let few = waiter.2 in
    comes_back k d h again v l n n' q x (ready_now k d v u m l plain waiter join link) seen keys (omega arith) small t left right
