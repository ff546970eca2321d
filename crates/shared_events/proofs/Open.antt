-- The table at the start.
use Rattle.std.proofs.Common.{◌≡◌, ℕ, zero, suc, ◌+◌, ◌%◌, ◌<◌, ◌≤◌, List, [], ◌∷◌, length, get_or, sym, refl, ap, ◌∙◌, subst, ⊎_elim, arith, replicate}
use Rattle.std.specs.Prelude.{Contains}
use mathlib.Core.Option.{some, some-ne-none}
use lib.ListN.{get_elem?}
use Rattle.atomic_table.proofs.Lists.{at_snoc}
use Rattle.event_table.specs.declared.handle.Handle.{Handle}
use Rattle.event_table.specs.declared.handle.Shape.{Shape}
use Rattle.shared_events.specs.declared.view.View.{View}
use Rattle.basics.specs.Sums.{total, below}
use Rattle.event_table.specs.Words.{place_of, mark_words, mark_word, IsMade, Linked, Shows}
use Rattle.shared_events.specs.Rule.{Fits, Orderly, undealt, opener}
use Rattle.std.specs.Int.{bit_at}
use Rattle.std.proofs.lemmas.Nat.Bits.{bit_at-zero}
use Rattle.std.proofs.lemmas.List.{length-replicate}
use Rattle.atomic_table.specs.Table.{opening}
use Rattle.basics.proofs.ListFacts.{contains_none, contains_cases, contains_one as Contains-one}
use Rattle.shared_events.proofs.Parts.{HandFits, whole, seen_alone, no_placings, no_rights, no_chase}

pub zero_at : (n i : ℕ) → get_or (replicate {A = ℕ} n 0) i 0 ≡ 0
zero_at zero i = refl
zero_at (suc n) zero = refl
zero_at (suc n) (suc i) = zero_at n i

none_at : (n i : ℕ) → get_or (replicate {A = List ℕ} n []) i [] ≡ []
none_at zero i = refl
none_at (suc n) zero = refl
none_at (suc n) (suc i) = none_at n i

weightless : (f : ℕ → ℕ) (n : ℕ) → total (total f) (replicate {A = List ℕ} n []) ≡ 0
weightless f zero = refl
weightless f (suc n) = omega (arith, weightless f n)

-- the waiters from k on, m of them
dealt_weigh : (f : ℕ → ℕ) (k m : ℕ) → below f k + total (λ (p : ℕ × ℕ). f p.0) (undealt k m) ≡ below f (k + m)
dealt_weigh f k zero = let e : k + 0 ≡ k = omega arith in omega (arith, ap (below f) e)
dealt_weigh f k (suc m) = let e : (k + 1) + m ≡ k + suc m = omega arith in let d : k + 1 ≡ suc k = omega arith in omega (arith, dealt_weigh f (k + 1) m, ap (below f) e, ap (below f) d)

all_new : (k m : ℕ) (p : ℕ × ℕ) → Contains (undealt k m) p → (p.0 < k + m) × (p.1 ≡ 0)
all_new k zero p c = absurd (contains_none p c)
all_new k (suc m) p c = ⊎_elim (λ (e : (k, 0) ≡ p). subst (λ (q : ℕ × ℕ). (q.0 < k + suc m) × (q.1 ≡ 0)) e (omega arith, refl)) (λ d. let t = all_new (k + 1) m p d in let a = t.0 in (omega arith, t.1)) (contains_cases (k, 0) (undealt (k + 1) m) p c)

pub opens : (key : Shape) (ws : List ℕ) → ws ≡ replicate (key.slots + key.waiters + mark_words key) 0 → key.waiters ≤ 65536 → Orderly key (opening {S = Unit {0}} ws [] (opener key))
opens key ws is small =
    let v : View = opener key in
    let n : ℕ = key.slots in
    let ts : List ℕ = replicate n 0 in
    let cs : List (List ℕ) = replicate n [] in
    let word : (i : ℕ) → get_or ws i 0 ≡ 0 = λ i. ap (λ l. get_or l i 0) is ∙ zero_at (n + key.waiters + mark_words key) i in
    let unmade : (h : Handle) → IsMade ts h → ⊥ = λ h m. let z = zero_at n h.slot in omega arith in
    let one : (j : ℕ) (u : View) → get_elem? (v ∷ []) j ≡ some u → v ≡ u = λ j u e. ⊎_elim (λ (x : get_elem? {A = View} [] j ≡ some u). absurd (some-ne-none u (sym x))) (λ x. x) (at_snoc [] v u j e) in
    let hand : HandFits key ws v.hand = λ p c. let t = all_new 0 key.waiters p c in let a = t.0 in (omega arith, word (key.slots + p.0) ∙ sym t.1) in
    let fits : Fits key ws ts [] v = whole v (seen_alone (λ x c. sym (Contains-one key x c)) (λ h c. absurd (contains_none h c))) (λ p c. absurd (contains_none p c)) no_placings no_rights hand no_chase
    (record { own = λ h c. absurd (contains_none h c); made = λ _ h c. absurd (unmade h c); spare = λ _ p c. absurd (contains_none p c) }) in
    record {
      turns = ts;
      chains = cs;
      log = [];
      wide = ap length is ∙ length-replicate (n + key.waiters + mark_words key) 0;
      high = length-replicate n 0;
      rows = length-replicate n [];
      small = small;
      clean = λ h a b m. ap (λ w. bit_at w (place_of key.last_gen h % 64)) (word (mark_word key h)) ∙ bit_at-zero (place_of key.last_gen h % 64);
      each_slot = λ i l. (
        subst (λ t. Shows key.last_gen t (get_or cs i []) (get_or ws i 0)) (sym (zero_at n i)) (let w = word i in record {
          few = omega arith;
          free = λ _ _. omega arith;
          pending = λ z. absurd (omega arith);
          retired = λ z. absurd (omega arith);
          bare = λ _. none_at n i;
        }),
        subst (Linked key ws) (sym (none_at n i)) tt,
      );
      each_view = λ j u e. subst (Fits key ws ts []) (one j u e) fits;
      once = λ f. let e : 0 + key.waiters ≡ key.waiters = omega arith in omega (arith, weightless f n, dealt_weigh f 0 key.waiters, ap (below f) e);
      one_maker = omega arith;
      one_right = λ i. omega arith;
      no_right = λ j u h e c. absurd (contains_none h (subst (λ (y : View). Contains y.left h) (sym (one j u e)) c));
      stands = λ k h c. absurd (contains_none {X = ℕ × Handle} (k, h) c);
      stood = λ k h p c. absurd (contains_none k (subst (λ l. Contains l k) (none_at n h.slot) c));
    }
