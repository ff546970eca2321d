-- Which of the handles that were seen a load finds to have ended, and with which fates.
use Rattle.std.proofs.Common.{◌≡◌, ℕ, ◌+◌, ◌*◌, ◌<◌, ◌≤◌, ◌⊎◌, List, [], ◌∷◌, sym, ap, ◌∙◌, subst, ⊎_elim, arith, cond, eqb, eq-eqb, eqb-true, Bool, true, ◌-◌, ◌%◌, refl}
use Rattle.std.specs.Prelude.{Contains, nat_lt}
use borrow.Author.Tests.{ltb-true}
use Rattle.event_table.specs.declared.handle.Handle.{Handle}
use Rattle.shared_events.specs.Plays.{ends_of, fates_by}
use Rattle.event_table.specs.Words.{fate_by, place_of, mark_word}
use Rattle.basics.proofs.ListFacts.{contains_cases, contains_none, contains_here, contains_there}
use Rattle.basics.proofs.Choices.{by_test}
use Rattle.std.specs.Int.{bit_at}
use Rattle.event_table.specs.declared.handle.Fate.{Fate}
use Rattle.event_table.specs.declared.handle.Shape.{Shape}

-- which handles a load shows to have ended
pub ends_in : (i t : ℕ) (hs : List Handle) (h : Handle) → Contains (ends_of i t hs) h → Contains hs h × (h.slot ≡ i) × (2 * h.gen_ + 2 ≤ t)
ends_in i t [] h c = absurd (contains_none h c)
ends_in i t (x ∷ xs) h c =
    let R : Type 0 = Contains (x ∷ xs) h × (h.slot ≡ i) × (2 * h.gen_ + 2 ≤ t) in
    let rest : List Handle = ends_of i t xs in
    let later : Contains rest h → R = λ d. let q = ends_in i t xs h d in (contains_there x xs h q.0, q.1, q.2) in
    let C : Bool → Bool → Type 0 = λ a b. Contains (cond a (cond b (x ∷ rest) rest) rest) h in
    let b₁ : Bool = eqb x.slot i in
    let b₂ : Bool = nat_lt (2 * x.gen_ + 1) t in
    by_test b₁ (λ e₁. by_test b₂ (λ e₂. ⊎_elim (λ (same : x ≡ h).
    let at : x.slot ≡ i = eqb-true x.slot i e₁ in let past = ltb-true (2 * x.gen_ + 1) t e₂ in
    (subst (Contains (x ∷ xs)) same (contains_here x xs), ap (λ (y : Handle). y.slot) (sym same) ∙ at, subst (λ (y : Handle). 2 * y.gen_ + 2 ≤ t) same (omega arith)))
    later (contains_cases x rest h (subst (λ b. C true b) e₂ (subst (λ a. C a b₂) e₁ c))))
    (λ e₂. later (subst (λ b. C true b) e₂ (subst (λ a. C a b₂) e₁ c)))) (λ e₁. later (subst (λ a. C a b₂) e₁ c))

pub ends_has : (i t : ℕ) (hs : List Handle) (h : Handle) → Contains hs h → h.slot ≡ i → 2 * h.gen_ + 2 ≤ t → Contains (ends_of i t hs) h
ends_has i t [] h c at past = absurd (contains_none h c)
ends_has i t (x ∷ xs) h c at past =
    let rest : List Handle = ends_of i t xs in
    let C : Bool → Bool → Type 0 = λ a b. Contains (cond a (cond b (x ∷ rest) rest) rest) h in
    let b₁ : Bool = eqb x.slot i in
    let b₂ : Bool = nat_lt (2 * x.gen_ + 1) t in
    ⊎_elim (λ (e : x ≡ h). let s : x.slot ≡ i = ap (λ (y : Handle). y.slot) e ∙ at in let g = ap (λ (y : Handle). y.gen_) e in
    subst (λ a. C a b₂) (sym (eq-eqb x.slot i s)) (subst (λ b. C true b) (sym (let l : 2 * x.gen_ + 1 < t = omega arith in Rattle.std.proofs.Common.lt-ltb (2 * x.gen_ + 1) t l)) (subst (λ (y : Handle). Contains (x ∷ rest) y) e (contains_here x rest))))
    (λ d. let l = ends_has i t xs h d at past in
    by_test b₁ (λ e₁. subst (λ a. C a b₂) (sym e₁) (by_test b₂ (λ e₂. subst (λ b. C true b) (sym e₂) (contains_there x rest h l)) (λ e₂. subst (λ b. C true b) (sym e₂) l)))
    (λ e₁. subst (λ a. C a b₂) (sym e₁) l))
    (contains_cases x xs h c)

pub fates_in : (x : Shape) (w r : ℕ) (hs : List Handle) (h : Handle) (f : Fate) → Contains (fates_by x w r hs) (h, f) → Contains hs h × (mark_word x h ≡ w) × (f ≡ fate_by (bit_at r (place_of x.last_gen h % 64)))
fates_in x w r [] h f c = absurd (contains_none {X = Handle × Fate} (h, f) c)
fates_in x w r (y ∷ ys) h f c =
    let rest : List (Handle × Fate) = fates_by x w r ys in
    let g : Fate = fate_by (bit_at r (place_of x.last_gen y % 64)) in
    let R : Handle × Fate → Type 0 = λ p. Contains (y ∷ ys) p.0 × (mark_word x p.0 ≡ w) × (p.1 ≡ fate_by (bit_at r (place_of x.last_gen p.0 % 64))) in
    let later : Contains rest (h, f) → R (h, f) = λ d. let q = fates_in x w r ys h f d in (contains_there y ys h q.0, q.1, q.2) in
    let C : Bool → Type 0 = λ a. Contains {X = Handle × Fate} (cond a ((y, g) ∷ rest) rest) (h, f) in
    by_test (eqb (mark_word x y) w) (λ e. ⊎_elim (λ (q : (y, g) ≡ (h, f)). subst R q (contains_here y ys, eqb-true (mark_word x y) w e, refl)) later (contains_cases {X = Handle × Fate} (y, g) rest (h, f) (subst C e c))) (λ e. later (subst C e c))

pub fates_has : (x : Shape) (w r : ℕ) (hs : List Handle) (h : Handle) → Contains hs h → mark_word x h ≡ w → Contains (fates_by x w r hs) (h, fate_by (bit_at r (place_of x.last_gen h % 64)))
fates_has x w r [] h c at = absurd (contains_none h c)
fates_has x w r (y ∷ ys) h c at =
    let rest : List (Handle × Fate) = fates_by x w r ys in
    let g : Handle → Fate = λ z. fate_by (bit_at r (place_of x.last_gen z % 64)) in
    let C : Bool → Type 0 = λ a. Contains {X = Handle × Fate} (cond a ((y, g y) ∷ rest) rest) (h, g h) in
    ⊎_elim (λ (e : y ≡ h). subst C (sym (eq-eqb (mark_word x y) w (ap (mark_word x) e ∙ at))) (subst (λ (z : Handle). Contains {X = Handle × Fate} ((y, g y) ∷ rest) (z, g z)) e (contains_here {X = Handle × Fate} (y, g y) rest)))
    (λ d. let l = fates_has x w r ys h d at in by_test (eqb (mark_word x y) w) (λ e. subst C (sym e) (contains_there {X = Handle × Fate} (y, g y) rest (h, g h) l)) (λ e. subst C (sym e) l))
    (contains_cases y ys h c)
