-- Each step keeps the rule of a deque.
use Rattle.std.proofs.Common.{◌≡◌, ◌≢◌, ℕ, ◌+◌, ◌<◌, All, List, [], ◌∷◌, ◌++◌, length, set, sym, refl, ap, ◌∙◌, ⊎_elim, arith, length-set, length-append}
use Rattle.std.proofs.lemmas.List.Elements.{All-append, All-take, All-drop, All-nil, All-weaker}
use lib.Seq.{take-append_seam, drop-append_seam}
use mathlib.Core.Option.{some, some-ne-none}
use lib.ListN.{get_elem?}
use Rattle.std.proofs.Common.{subst}
use Rattle.crossbeam_deque.specs.Tasks.{Pushes, Takes, Finds, Forks, Merges}
use Rattle.crossbeam_deque.proofs.Lists.{at_set, at_snoc}
use Rattle.basics.specs.Sums.{total}
use Rattle.home_queues.specs.DequeRule.{Holds, SawEmpty, IsDrained, DrainsOne, all_shares, first_view, spent_view, with_lines, without_share, one_share, joined, with_put, with_taken}
use Rattle.home_queues.specs.declared.deque_view.DequeView.{DequeView}
use Rattle.basics.proofs.Sums.{total-append, total-set, total-one}
use Rattle.home_queues.proofs.Totals.{total_one, there_below}

-- what holds of each view
abbrev Each : (DequeView → Type 0) → List DequeView → Type 0
Each P views = (p : ℕ) (v : DequeView) → get_elem? views p ≡ some v → P v

each_set : (P : DequeView → Type 0) (p : ℕ) (w : DequeView) (views : List DequeView) → P w → Each P views → Each P (set views p w)
each_set P p w views mine others j u e = ⊎_elim (λ (x : (j ≡ p) × (w ≡ u)). subst P x.1 mine) (λ (x : (j ≢ p) × (get_elem? views j ≡ some u)). others j u x.1) (at_set views p j w u e)

each_more : (P : DequeView → Type 0) (w : DequeView) (views : List DequeView) → P w → Each P views → Each P (views ++ w ∷ [])
each_more P w views mine others j u e = ⊎_elim (λ x. others j u x) (λ (x : w ≡ u). subst P x mine) (at_snoc views w u j e)

abbrev Knows : ℕ → DequeView → Type 0
Knows n v = 0 < v.shares → v.lines ≡ n

abbrev IsIdle : DequeView → Type 0
IsIdle v = v.shares ≡ 0 → (v.put ≡ []) × (v.taken ≡ [])

puts_of : (ℕ → ℕ) → DequeView → ℕ
puts_of h v = total h v.put

pub begins : Holds [] (first_view ∷ [])
begins = record {
  lines = 0;
  below = All-nil (λ x. x < 0);
  same = each_more (Knows 0) first_view [] (λ _. refl) (λ p v e. absurd (some-ne-none v (sym e)));
  alone = λ _. refl;
  whole = refl;
  idle = each_more IsIdle first_view [] (λ z. absurd (omega arith)) (λ p v e. absurd (some-ne-none v (sym e)));
  balanced = λ h. refl;
}

pub puts : (port : ℕ) (v : DequeView) (xs : List ℕ) → 0 < v.shares → All (λ x. x < v.lines) xs → Pushes Holds port v xs (λ w. w ≡ with_put v xs)
puts port v xs some_share small items views h at =
    let w : DequeView = with_put v xs in let known : v.lines ≡ h.lines = h.same port v at some_share in (
      w,
      record {
        lines = h.lines;
        below = All-append (λ y. y < h.lines) items xs h.below (subst (λ (n : ℕ). All (λ y. y < n) xs) known small);
        same = each_set (Knows h.lines) port w views (λ _. known) h.same;
        alone = λ z. omega (arith, length-set {A = DequeView}, h.alone z);
        whole = let a = total-set (λ (u : DequeView). u.shares) views port v w at in let b = h.whole in omega arith;
        idle = each_set IsIdle port w views (λ z. absurd (omega arith)) h.idle;
        balanced = λ f.
            let a = total-set (λ (u : DequeView). total f u.put) views port v w at in
            let b = total-set (λ (u : DequeView). total f u.taken) views port v w at in
            let c = total-append f v.put xs in
            let d = total-append f items xs in
            let e = h.balanced f in omega arith;
      },
      refl,
    )

left : (P : ℕ → Type 0) (xs ys : List ℕ) → All P (xs ++ ys) → All P xs
left P xs ys h = subst (All P) (take-append_seam xs ys) (All-take P (length xs) (xs ++ ys) h)

right : (P : ℕ → Type 0) (xs ys : List ℕ) → All P (xs ++ ys) → All P ys
right P xs ys h = subst (All P) (drop-append_seam xs ys) (All-drop P (length xs) (xs ++ ys) h)

after_takes : (port : ℕ) (v : DequeView) (xs items : List ℕ) (views : List DequeView) → 0 < v.shares → Holds (xs ++ items) views → get_elem? views port ≡ some v → Holds items (set views port (with_taken v xs))
after_takes port v xs items views some_share h at =
    let w : DequeView = with_taken v xs in let known : v.lines ≡ h.lines = h.same port v at some_share in
    record {
      lines = h.lines;
      below = right (λ y. y < h.lines) xs items h.below;
      same = each_set (Knows h.lines) port w views (λ _. known) h.same;
      alone = λ z. omega (arith, length-set {A = DequeView}, h.alone z);
      whole = let a = total-set (λ (u : DequeView). u.shares) views port v w at in let b = h.whole in omega arith;
      idle = each_set IsIdle port w views (λ z. absurd (omega arith)) h.idle;
      balanced = λ f.
          let a = total-set (λ (u : DequeView). total f u.put) views port v w at in
          let b = total-set (λ (u : DequeView). total f u.taken) views port v w at in
          let c = total-append f v.taken xs in
          let d = total-append f xs items in
          let e = h.balanced f in omega arith;
    }

small_of : (port : ℕ) (v : DequeView) (xs items : List ℕ) (views : List DequeView) → 0 < v.shares → Holds (xs ++ items) views → get_elem? views port ≡ some v → All (λ x. x < v.lines) xs
small_of port v xs items views some_share h at = subst (λ (n : ℕ). All (λ y. y < n) xs) (sym (h.same port v at some_share)) (left (λ y. y < h.lines) xs items h.below)

pub takes : (port : ℕ) (v : DequeView) → 0 < v.shares → Takes Holds port v 1 (λ xs w. (w ≡ with_taken v xs) × All (λ x. x < v.lines) xs)
takes port v some_share xs items views _ _ h at = (with_taken v xs, after_takes port v xs items views some_share h at, (refl, small_of port v xs items views some_share h at))

pub saw_empty : (port : ℕ) (v : DequeView) → Finds Holds port v (SawEmpty v)
unfolding SawEmpty
saw_empty port v views h at = (views, port, h, at)

-- what the pass with all shares has done is what was done in all
all_put : (port : ℕ) (v : DequeView) (items : List ℕ) (views : List DequeView) → Holds items views → get_elem? views port ≡ some v → v.shares ≡ all_shares → (f : ℕ → ℕ) → total f v.put ≡ total f v.taken + total f items
all_put port v items views h at all f =
    let mine : total (λ (u : DequeView). u.shares) views ≡ v.shares = h.whole ∙ sym all in
    let a = total_one (λ (u : DequeView). total f u.put) (λ (u : DequeView). u.shares) views port v at mine (λ k u e z. ap (total f) (h.idle k u e z).0) in
    let b = total_one (λ (u : DequeView). total f u.taken) (λ (u : DequeView). u.shares) views port v at mine (λ k u e z. ap (total f) (h.idle k u e z).1) in
    let e = h.balanced f in omega arith

pub drained : (port : ℕ) (v : DequeView) → Finds Holds port v (IsDrained v)
drained port v views h at all f = let e = all_put port v [] views h at all f in omega arith

pub drains : (port : ℕ) (v : DequeView) → 0 < v.shares → Takes Holds port v 1 (DrainsOne v)
drains port v some_share xs items views _ _ h at = (
  with_taken v xs,
  after_takes port v xs items views some_share h at,
  (
    refl,
    small_of port v xs items views some_share h at,
    λ all. let e = all_put port v (xs ++ items) views h at all (λ _. 1) in
        let p = total-one v.put in let t = total-one v.taken in let r = total-one (xs ++ items) in
        omega (arith, length-append v.taken xs, length-append xs items),
  ),
)

pub cuts : (port : ℕ) (v : DequeView) → 0 < v.lines → 1 < v.shares → Forks Holds port v (without_share v) (one_share v)
cuts port v some_line more items views h at =
    let l : DequeView = without_share v in let r : DequeView = one_share v in let known : v.lines ≡ h.lines = h.same port v at (omega arith) in let vs : List DequeView = set views port l in
    record {
      lines = h.lines;
      below = h.below;
      same = each_more (Knows h.lines) r vs (λ _. known) (each_set (Knows h.lines) port l views (λ _. known) h.same);
      alone = λ z. absurd (omega arith);
      whole =
          let a = total-set (λ (u : DequeView). u.shares) views port v l at in
          let b = total-append (λ (u : DequeView). u.shares) vs (r ∷ []) in
          let c = h.whole in omega arith;
      idle = each_more IsIdle r vs (λ z. absurd (omega arith)) (each_set IsIdle port l views (λ z. absurd (omega arith)) h.idle);
      balanced = λ f.
          let a = total-set (λ (u : DequeView). total f u.put) views port v l at in
          let b = total-set (λ (u : DequeView). total f u.taken) views port v l at in
          let c = total-append (λ (u : DequeView). total f u.put) vs (r ∷ []) in
          let d = total-append (λ (u : DequeView). total f u.taken) vs (r ∷ []) in
          let e = h.balanced f in omega arith;
    }

pub sets : (port n : ℕ) → 0 < n → Forks Holds port first_view (with_lines n first_view) spent_view
sets port n some_line items views h at =
    let w : DequeView = with_lines n first_view in let s : DequeView = spent_view in let none : 0 ≡ h.lines = h.same port first_view at (omega arith) in let one : length views ≡ 1 = h.alone (sym none) in
    let vs : List DequeView = set views port w in let here = there_below views port first_view at in
    record {
      lines = n;
      below = All-weaker (λ x. x < h.lines) (λ x. x < n) (λ x b. absurd (omega arith)) items h.below;
      same = each_more (Knows n) s vs (λ z. absurd (omega arith)) (λ j u e. ⊎_elim (λ (x : (j ≡ port) × (w ≡ u)) _. ap (λ (y : DequeView). y.lines) (sym x.1))
          (λ (x : (j ≢ port) × (get_elem? views j ≡ some u)) _. let there = there_below views j u x.1 in absurd (x.0 (omega arith))) (at_set views port j w u e));
      alone = λ z. absurd (omega arith);
      whole =
          let a = total-set (λ (u : DequeView). u.shares) views port first_view w at in
          let b = total-append (λ (u : DequeView). u.shares) vs (s ∷ []) in
          let c = h.whole in omega arith;
      idle = each_more IsIdle s vs (λ _. (refl, refl)) (each_set IsIdle port w views (λ z. absurd (omega arith)) h.idle);
      balanced = λ f.
          let a = total-set (λ (u : DequeView). total f u.put) views port first_view w at in
          let b = total-set (λ (u : DequeView). total f u.taken) views port first_view w at in
          let c = total-append (λ (u : DequeView). total f u.put) vs (s ∷ []) in
          let d = total-append (λ (u : DequeView). total f u.taken) vs (s ∷ []) in
          let e = h.balanced f in omega arith;
    }

pub merges : (port : ℕ) (v : DequeView) (other : ℕ) (u : DequeView) → 0 < v.shares → Merges Holds port v other u (joined v u) spent_view
merges port v other u some_share items views h at two at' =
    let w : DequeView = joined v u in let vs : List DequeView = set views port w in let known : v.lines ≡ h.lines = h.same port v at some_share in
    let mid : Each (Knows h.lines) vs = each_set (Knows h.lines) port w views (λ _. known) h.same in
    record {
      lines = h.lines;
      below = h.below;
      same = each_set (Knows h.lines) other spent_view vs (λ z. absurd (omega arith)) mid;
      alone = λ z. omega (arith, length-set {A = DequeView}, h.alone z);
      whole =
          let a = total-set (λ (y : DequeView). y.shares) views port v w at in
          let b = total-set (λ (y : DequeView). y.shares) vs other u spent_view at' in
          let c = h.whole in omega arith;
      idle = each_set IsIdle other spent_view vs (λ _. (refl, refl)) (each_set IsIdle port w views (λ z. absurd (omega arith)) h.idle);
      balanced = λ f.
          let a = total-set (λ (y : DequeView). total f y.put) views port v w at in
          let b = total-set (λ (y : DequeView). total f y.taken) views port v w at in
          let c = total-set (λ (y : DequeView). total f y.put) vs other u spent_view at' in
          let d = total-set (λ (y : DequeView). total f y.taken) vs other u spent_view at' in
          let i = total-append f v.put u.put in
          let j = total-append f v.taken u.taken in
          let e = h.balanced f in omega arith;
    }
