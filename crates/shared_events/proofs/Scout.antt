-- The load of the Maker, and what it finds at all slots.
use Rattle.std.proofs.Common.{◌≡◌, ℕ, zero, suc, ◌+◌, ◌-◌, ◌*◌, ◌/◌, ◌%◌, ◌<◌, ◌≤◌, ◌≢◌, ◌⊎◌, List, [], ◌∷◌, ◌++◌, length, get_or, set, sym, refl, ap, ◌∙◌, subst, inl, inr, ⊎_elim, arith, cond, Bool, true, false, eqb, eq-eqb, ne_eqb, length-set, get_or-set_other, get_or-set_same, eqb-true}
use Rattle.std.specs.Prelude.{Contains}
use Rattle.std.proofs.lemmas.List.{append-nil}
use Rattle.std.proofs.lemmas.List.Elements.{Contains-append_left, Contains-append_right, Contains-push}
use mathlib.Core.Logic.{dite}
use native.Mathlib.Decide.{ℕ_discrete, dec_le}
use Rattle.atomic_table.specs.Table.{keeps, Allows}
use Rattle.event_table.specs.declared.handle.Handle.{Handle}
use Rattle.event_table.specs.declared.handle.Fate.{Fate}
use Rattle.event_table.specs.declared.handle.Shape.{Shape}
use Rattle.shared_events.specs.declared.view.View.{View}
use Rattle.event_table.specs.Words.{turns_of, code, Shows, handle_at}
use Rattle.shared_events.specs.Rule.{Fits, Orderly}
use Rattle.shared_events.specs.Plays.{Sat, ends_of, scouted_at, Accounts, HadEnded, scouted, made_at, AreBelow, created, granter, granted}
use Rattle.shared_events.specs.Seats.{IsMaker, IsPending, IsPast, Knows, slots_of, last_gen_of}
use Rattle.shared_events.specs.Views.{IsTaken, IsHeld, Scanned, AreHeld, AreTaken, IsFull, ArePast, ComesNext}
use Rattle.basics.proofs.ListFacts.{contains_none, contains_here, contains_one as Contains-one}
use Rattle.event_table.proofs.Public.{code_le, turns_if}
use Rattle.basics.proofs.Choices.{by_test}
use Rattle.shared_events.proofs.Found.{ends_has}
use Rattle.shared_events.proofs.Parts.{whole, facts_fit, placings_fit, rights_fit, chase_fits}
use Rattle.shared_events.proofs.Steps.{shown, found_fits, own, kept_word}

-- a free word is at an even turn
even_at : (last t : ℕ) (c : List ℕ) (w : ℕ) → Shows last t c w → code c ≤ 65536 → w % 4294967296 ≡ 0 → t % 2 ≡ 0
even_at last t c w s low zero-low = dite (ℕ_discrete (t % 2) 1) (λ odd. let p = s.pending odd in absurd (omega arith)) (λ ne. omega arith)

-- the low half tells which of the three it is
parts : (last t : ℕ) (c : List ℕ) (w : ℕ) → Shows last t c w → code c ≤ 65536 → (w % 4294967296 ≡ 4294967295 → t ≡ 2 * last + 2) × (w % 4294967296 ≢ 0 → w % 4294967296 ≢ 4294967295 → t ≡ 2 * (w / 4294967296) + 1)
parts last t c w s low = let few = s.few in dite (ℕ_discrete (t % 2) 1) (λ odd. let p = s.pending odd in ((λ z. absurd (omega arith)), λ z₁ z₂. omega arith))
    (λ ne. let ev : t % 2 ≡ 0 = omega arith in dite (ℕ_discrete t (2 * last + 2)) (λ e. let q = s.retired e in ((λ _. e), λ z₁ z₂. absurd (z₂ (omega arith))))
    (λ n. let q = s.free ev (omega arith) in ((λ z. absurd (omega arith)), λ z₁ z₂. absurd (z₁ (omega arith)))))

pub scouts : (key : Shape) (n id i : ℕ) (m : Sat) → i < key.slots → Allows (Orderly key) n id m i (λ x. x) (scouted i m)
scouts key n id i m near s o wide me _ =
    let r : ℕ = get_or s.words i 0 in
    let v : View = m.0 in
    let w : View = scouted_at v i r in
    let e = shown key s o i near in
    let fits = o.each_view id v me in
    let slot = o.each_slot i near in
    let low : code (get_or o.chains i []) ≤ 65536 = let a = code_le key s.words (get_or o.chains i []) slot.1 in let b = o.small in omega arith in
    let f = found_fits key s.words o.turns o.log v i r e fits in
    let Q : ℕ × ℕ → Type 0 = λ p. (p.0 < key.slots) × (get_or s.words p.0 0 ≡ p.1) × (get_or o.turns p.0 0 % 2 ≡ 0) in
    let spare' : (p : ℕ × ℕ) → Contains w.spare p → Q p = λ p c. by_test (eqb (r % 4294967296) 0)
    (λ b. subst Q (Contains-one (i, r) p (subst (λ x. Contains (cond x ((i, r) ∷ []) []) p) b c)) (near, refl, even_at key.last_gen (get_or o.turns i 0) (get_or o.chains i []) r slot.0 low (eqb-true (r % 4294967296) 0 b)))
    (λ b. absurd (contains_none p (subst (λ x. Contains (cond x ((i, r) ∷ []) []) p) b c))) in
    let fits' : Fits key s.words o.turns o.log w = whole w (facts_fit f) f.saw (placings_fit f) (rights_fit f) f.hand (chase_fits f) (record { own = f.own; made = f.made; spare = λ _ p c. spare' p c }) in
    let q = parts key.last_gen (get_or o.turns i 0) (get_or o.chains i []) r slot.0 low in (
      w,
      keeps,
      tt,
      kept_word key s i s.homes (set s.views id w) (own key s o id v w me fits' (λ f. refl) refl refl refl),
      (
        refl,
        λ x c makes. let k = fits.keys x c in (
          (λ z. let t = q.0 z in subst (λ (y : Shape). (turns_of r ≡ 2 * y.last_gen + 2) × Contains v.made (handle_at i y.last_gen)) (sym k) (e ∙ t, fits.made makes (handle_at i key.last_gen) (omega arith))),
          λ z₁ z₂. let t = q.1 z₁ z₂ in (e ∙ t, fits.made makes (handle_at i (r / 4294967296)) (omega arith)),
        ),
        λ h c at. let p = fits.past h c in let same : get_or o.turns h.slot 0 ≡ get_or o.turns i 0 = ap (λ x. get_or o.turns x 0) at in omega (arith, e, p, same),
      ),
    )

pub spare_has : (i r : ℕ) → r % 4294967296 ≡ 0 → Contains {X = ℕ × ℕ} (cond (eqb (r % 4294967296) 0) ((i, r) ∷ []) []) (i, r)
spare_has i r z = subst (λ (b : Bool). Contains {X = ℕ × ℕ} (cond b ((i, r) ∷ []) []) (i, r)) (sym (eq-eqb (r % 4294967296) 0 z)) (contains_here (i, r) [])

-- the older handles of a slot that is free were found to have ended
pub scout_past : (m n : Sat) (i r : ℕ) → scouted i m r n → m.0.seen ≡ m.0.made → r % 4294967296 ≡ 0 → ArePast n.0.made n.0 i (r / 4294967296)
scout_past m n i r t seen free h c at old =
    let turns : turns_of r ≡ 2 * (r / 4294967296) = turns_if r (2 * (r / 4294967296)) (λ _. refl) (λ z. absurd (omega arith)) (λ z₁ z₂. absurd (omega arith)) in
    let has : Contains m.0.seen h = subst (λ l. Contains l h) (ap (λ (x : Sat). x.0.made) t.0 ∙ sym seen) c in
    subst (λ (x : Sat). Contains x.0.past h) (sym t.0) (Contains-append_right m.0.past (ends_of i (turns_of r) m.0.seen) h (ends_has i (turns_of r) m.0.seen h has at (omega arith)))

-- One slot more was found taken
pub scans_more : (shape : Shape) (made : List Handle) (v w u : View) (low i r : ℕ) → w.made ≡ made → Scanned shape made v w low i → w.keys ≡ shape ∷ [] → w.makes ≡ 1 → u ≡ scouted_at w i r → Accounts w i r → r % 4294967296 ≢ 0 → Scanned shape made v u low (i + 1)
scans_more shape made v w u low i r same s keys makes is t busy =
    let found : List (ℕ × ℕ) = s.0 in
    let taken : IsTaken shape made i r = let q = t shape (subst (λ l. Contains l shape) (sym keys) (contains_here shape [])) makes in
    dite (ℕ_discrete (r % 4294967296) 4294967295) (λ e. let x = q.0 e in (handle_at i shape.last_gen, refl, subst (λ l. Contains l (handle_at i shape.last_gen)) same x.1, inr (refl, x.0))) (λ ne. let x = q.1 busy ne in (handle_at i (r / 4294967296), refl, subst (λ l. Contains l (handle_at i (r / 4294967296))) same x.1, inl x.0)) in
    subst (λ (y : View). Scanned shape made v y low (i + 1)) (sym is) (
      found ++ (i, r) ∷ [],
      (ap (λ l. l ++ (i, r) ∷ []) s.1 ∙ Rattle.std.proofs.Common.append_assoc v.saw found ((i, r) ∷ [])),
      λ j from l. dite (ℕ_discrete j i) (λ e. subst (λ x. (r' : ℕ) × Contains (found ++ (i, r) ∷ []) (x, r') × IsTaken shape made x r') (sym e) (r, Contains-push found (i, r), taken))
          (λ ne. let x = s.2 j from (omega arith) in (x.0, Contains-append_left found ((i, r) ∷ []) (j, x.0) x.1, x.2)),
    )

-- what was found past stays so
pub scout_keeps : (m n : Sat) (i r : ℕ) (h : Handle) → scouted i m r n → IsPast m.0 h → IsPast n.0 h
scout_keeps m n i r h t c = subst (λ (x : Sat). IsPast x.0 h) (sym t.0) (Contains-append_left m.0.past (ends_of i (turns_of r) m.0.seen) h c)

-- and it is held by no handle that was found past before
pub holds_more : (shape : Shape) (made : List Handle) (v w : View) (low i r : ℕ) → w.made ≡ made → AreHeld shape made v low i → ((h : Handle) → IsPast v h → IsPast w h) → w.keys ≡ shape ∷ [] → w.makes ≡ 1 → Accounts w i r → HadEnded w i r → r % 4294967296 ≢ 0 → AreHeld shape made v low (i + 1)
holds_more shape made v w low i r same held kept keys makes t over busy j from l =
    let this : IsHeld shape made v i = let q = t shape (subst (λ l. Contains l shape) (sym keys) (contains_here shape [])) makes in
    dite (ℕ_discrete (r % 4294967296) 4294967295) (λ e. (handle_at i shape.last_gen, refl, subst (λ l. Contains l (handle_at i shape.last_gen)) same (q.0 e).1, inl refl))
    (λ ne. let x = q.1 busy ne in let pending : turns_of r ≡ 2 * (r / 4294967296) + 1 = x.0 in
    (handle_at i (r / 4294967296), refl, subst (λ l. Contains l (handle_at i (r / 4294967296))) same x.1, inr (λ c. let b : 2 * (r / 4294967296) + 2 ≤ turns_of r = over (handle_at i (r / 4294967296)) (kept (handle_at i (r / 4294967296)) c) refl in omega (arith, pending, b)))) in
    dite (ℕ_discrete j i) (λ e. subst (IsHeld shape made v) (sym e) this) (λ ne. held j from (omega arith))

pub held_none : (shape : Shape) (made : List Handle) (v : View) (low : ℕ) → AreHeld shape made v low low
held_none shape made v low j from l = absurd (omega arith)

pub held_fewer : (shape : Shape) (made : List Handle) (v : View) (low i high : ℕ) → AreHeld shape made v low i → high ≤ i → AreHeld shape made v low high
held_fewer shape made v low i high held most j from l = held j from (omega arith)

-- the slots from `from` on, and then those below by a Maker that has found more past
pub held_round : (shape : Shape) (made : List Handle) (v w : View) (from : ℕ) → AreHeld shape made v from shape.slots → AreHeld shape made w 0 from → ((h : Handle) → IsPast v h → IsPast w h) → AreHeld shape made v 0 shape.slots
held_round shape made v w from high low kept j zero-on l = dite (dec_le (suc j) from)
    (λ below. let x = low j zero-on below in (x.0, x.1, x.2, ⊎_elim (λ e. inl e) (λ n. inr (λ c. n (kept x.0 c))) x.3))
    (λ above. high j (omega arith) l)

-- which says of a Maker that was told what a seat knows
pub held_taken : (shape : Shape) (made now : List Handle) (v s : View) → now ≡ made → ((h : Handle) (f : Fate) → Knows s h f → IsPast v h) → AreHeld shape now v 0 shape.slots → AreTaken shape made s
held_taken shape made now v s same told held j l = let x = held j (omega arith) l in
    (x.0, x.1, subst (λ l. Contains l x.0) same x.2, ⊎_elim (λ e. inl e) (λ n. inr (λ f k. n (told x.0 f k))) x.3)

-- so a slot that is taken has served
pub has_served : (shape : Shape) (made : List Handle) (v w : View) (low i : ℕ) → Scanned shape made v w low i → (k : ℕ) → low ≤ k → k < i → (h : Handle) × (h.slot ≡ k) × Contains made h
has_served shape made v w low i s k from near = let x = s.2 k from near in
    (x.2.0, x.2.1, x.2.2)

-- the first slot that isn't taken comes next, unless the slot from which it was sought has served
pub comes_next : (shape : Shape) (made now : List Handle) (v w : View) (low i : ℕ) → Scanned shape made v w low i → low ≤ i → now ≡ made → ComesNext now low i
comes_next shape made now v w low i s from same = subst (λ l. ComesNext l low i) (sym same) (dite (ℕ_discrete i low) (λ e. inl e) (λ n. inr (has_served shape made v w low i s low (omega arith) (omega arith))))

-- no slot is looked at yet
pub scans_none : (shape : Shape) (made : List Handle) (v : View) (low : ℕ) → Scanned shape made v v low low
scans_none shape made v low = ([], sym (append-nil v.saw), λ i from near. absurd (omega arith))

pub scans_fewer : (shape : Shape) (made : List Handle) (v w : View) (low i high : ℕ) → Scanned shape made v w low i → high ≤ i → Scanned shape made v w low high
scans_fewer shape made v w low i high s most = (s.0, s.1, λ j from near. s.2 j from (omega arith))

-- the slots from `from` on were found taken, and then those below
pub full_round : (shape : Shape) (made : List Handle) (v w u : View) (from : ℕ) → Scanned shape made v w from shape.slots → Scanned shape made w u 0 from → IsFull shape made v u
full_round shape made v w u from high low = (
  high.0 ++ low.0,
  (low.1 ∙ (ap (λ l. l ++ low.0) high.1 ∙ Rattle.std.proofs.Common.append_assoc v.saw high.0 low.0)),
  λ i near. dite (dec_le (suc i) from)
      (λ below. let x = low.2 i (omega arith) below in (x.0, Contains-append_right high.0 low.0 (i, x.0) x.1, x.2))
      (λ above. let x = high.2 i (omega arith) near in (x.0, Contains-append_left high.0 low.0 (i, x.0) x.1, x.2)),
)

-- the seat t shows what the Maker found, once it has told the seat s
pub full_shown : (shape : Shape) (made : List Handle) (v w s t : View) → IsFull shape made v w → v.saw ≡ [] → t.saw ≡ s.saw ++ w.saw → IsFull shape made s t
full_shown shape made v w s t c none e = (c.0, e ∙ ap (λ l. s.saw ++ l) (c.1 ∙ ap (λ l. l ++ c.0) none), c.2)

-- What `make` leaves: the Maker n' once the handle h was created as n, and the pending's seat q
pub record Makes (h : Handle) (m n' q : Sat) : Type 0 where
  pub maker : IsMaker n'
  pub made : n'.0.made ≡ m.0.made ++ h ∷ []
  pub seen : n'.0.seen ≡ m.0.seen ++ h ∷ []
  pub keys : n'.0.keys ≡ m.0.keys
  pub pending : IsPending q h
  pub keys' : q.0.keys ≡ m.0.keys
  pub new : Contains m.0.made h → ⊥
  pub past : n'.0.past ≡ m.0.past
  pub low : h.gen_ ≤ last_gen_of m.0.keys
  pub below : AreBelow m.0.made h.slot h.gen_

pub makes_handle : (i old r : ℕ) (x : Shape) (m n n' q : Sat) → IsMaker m → m.0.keys ≡ x ∷ [] → i < x.slots → created i old m r n → n' ≡ (granter n.0, n.1) → q ≡ (granted n.0, []) → Makes (handle_at i (old / 4294967296)) m n' q
makes_handle i old r x m n n' q is keys near t left right =
    let h : Handle = handle_at i (old / 4294967296) in
    let w : Sat = (made_at m.0 h, m.1) in
    let k : slots_of m.0.keys ≡ x.slots = ap slots_of keys in
    let l : last_gen_of m.0.keys ≡ x.last_gen = ap last_gen_of keys in
    let few : old / 4294967296 ≤ x.last_gen = t.3 x (subst (λ y. Contains y x) (sym keys) (contains_here x [])) in
    let base : Makes h m (granter w.0, w.1) (granted w.0, []) = record {
      maker = (is.0, is.1, ap (λ l. l ++ h ∷ []) is.2, is.3, is.4);
      made = refl;
      seen = refl;
      keys = refl;
      pending = ((refl, refl, refl, refl, refl, is.0.5), refl, omega arith, omega arith, refl, refl, refl, (refl, refl, refl, refl));
      keys' = refl;
      new = t.2;
      past = refl;
      low = omega arith;
      below = t.4;
    } in
    subst (λ (y : Sat). Makes h m y q) (sym (left ∙ ap (λ (y : Sat). (granter y.0, y.1)) t.1)) (subst (λ (y : Sat). Makes h m (granter w.0, w.1) y) (sym (right ∙ ap (λ (y : Sat). (granted y.0, [])) t.1)) base)
