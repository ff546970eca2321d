-- What a part is after it put one number in, and after it took one.
use Rattle.std.proofs.Common.{◌≡◌, ◌≢◌, ℕ, ◌+◌, ◌^◌, ◌<◌, ◌≤◌, All, cond, List, [], ◌∷◌, length, sym, refl, ap, ◌∙◌, subst, arith, length-set, length-append, get_or-set_same, get_or-set_other, eq-eqb, ne_eqb, Some}
use Rattle.std.proofs.lemmas.List.{length-map}
use Rattle.std.specs.Prelude.{slice_index, slice_get}
use mathlib.Core.Logic.{dite}
use native.Mathlib.Decide.{ℕ_discrete}
use Rattle.crossbeam_deque.specs.Handles.{worker_deque, worker_view, worker_index, SameWorker}
use Rattle.basics.specs.Sums.{total, only}
use Rattle.home_queues.specs.DequeRule.{with_put, with_taken}
use Rattle.home_queues.specs.Counts.{CountsValue, one_more, counted}
use Rattle.home_queues.specs.Parts.{Owner, deque_of, deques_of, stolen, IsOwnerWith, IsStealRight, IsPart}
use Rattle.home_queues.specs.declared.deque_view.DequeView.{DequeView}
use Rattle.home_queues.specs.declared.deque.StealRight.{StealRight}
use Rattle.basics.proofs.Sums.{total-append}

-- a count after one more
pub one_more-get : (counts : List ℕ) (x y : ℕ) → x < length counts → slice_index (one_more counts x) y ≡ slice_index counts y + only y x
one_more-get counts x y lt = dite (ℕ_discrete y x)
    (λ (e : y ≡ x). let here = get_or-set_same counts x (slice_index counts x + 1) 0 lt in
    let one : only x x ≡ 1 = ap (λ b. cond b 1 0) (eq-eqb x x refl) in
    let at : slice_index (one_more counts x) x ≡ slice_index counts x + only x x = omega arith in
    subst (λ (z : ℕ). slice_index (one_more counts x) z ≡ slice_index counts z + only z x) (sym e) at)
    (λ (ne : y ≢ x). let there = get_or-set_other counts x y (slice_index counts x + 1) 0 ne in
    let none : only y x ≡ 0 = ap (λ b. cond b 1 0) (ne_eqb x y (λ e. ne (sym e))) in omega arith)

pub same_owner : (n shares : ℕ) (v w : Owner) → IsOwnerWith n shares v → SameWorker v w → (worker_view w).lines ≡ (worker_view v).lines → (worker_view w).shares ≡ (worker_view v).shares → IsOwnerWith n shares w
same_owner n shares v w h same lines share = record { flavor = same.1 ∙ h.flavor; lines = lines ∙ h.lines; shares_is = share ∙ h.shares_is }

pub puts_one : (number n : ℕ) (own next : Owner) (rs : List StealRight) (p t : CountsValue) (x : ℕ) → IsPart number n own rs p t → x < n → p.all < 2 ^ 60
    → SameWorker own next → worker_index next ≡ worker_index own + 1 → worker_view next ≡ with_put (worker_view own) (x ∷ [])
    → IsPart number n next rs (counted p x) t
puts_one number n own next rs p t x h below room same index is =
    let lt : x < length p.each = omega (arith, h.pushed_len) in
    record {
      below = h.below;
      eight = h.eight;
      deque = h.deque ∙ ap Some (sym same.0);
      owner = same_owner n 1 own next h.owner same (ap (λ (v : DequeView). v.lines) is) (ap (λ (v : DequeView). v.shares) is);
      right = h.right;
      capacity = omega (arith, same.3, h.capacity);
      index = omega (arith, h.index);
      pushed_most = omega arith;
      put_len = ap (λ (v : DequeView). length v.put) is ∙ omega (arith, length-append (worker_view own).put (x ∷ []), h.put_len);
      most = h.most;
      pushed_len = omega (arith, length-set {A = ℕ}, h.pushed_len);
      taken_len = h.taken_len;
      put = λ y small.
          let a = one_more-get p.each x y lt in let b = h.put y small in
          let c = total-append (only y) (worker_view own).put (x ∷ []) in
          let d : total (only y) (worker_view next).put ≡ total (only y) (with_put (worker_view own) (x ∷ [])).put = ap (λ (v : DequeView). total (only y) v.put) is in omega arith;
      took = λ y small.
          let b = h.took y small in
          let d : total (only y) (worker_view next).taken ≡ total (only y) (worker_view own).taken = ap (λ (v : DequeView). total (only y) v.taken) is in omega arith;
    }

-- it took one number of its own deque
pub takes_one : (number n : ℕ) (own next : Owner) (rs : List StealRight) (p t : CountsValue) (x : ℕ) → IsPart number n own rs p t → x < n → t.all < 2 ^ 60
    → SameWorker own next → worker_index next ≤ worker_index own → worker_view next ≡ with_taken (worker_view own) (x ∷ [])
    → IsPart number n next rs p (counted t x)
takes_one number n own next rs p t x h below most same index is =
    let lt : x < length t.each = omega (arith, h.taken_len) in
    record {
      below = h.below;
      eight = h.eight;
      deque = h.deque ∙ ap Some (sym same.0);
      owner = same_owner n 1 own next h.owner same (ap (λ (v : DequeView). v.lines) is) (ap (λ (v : DequeView). v.shares) is);
      right = h.right;
      capacity = omega (arith, same.3, h.capacity);
      index = omega (arith, h.index);
      pushed_most = h.pushed_most;
      put_len = ap (λ (v : DequeView). length v.put) is ∙ h.put_len;
      most = omega arith;
      pushed_len = h.pushed_len;
      taken_len = omega (arith, length-set {A = ℕ}, h.taken_len);
      put = λ y small.
          let b = h.put y small in
          let d : total (only y) (worker_view next).put ≡ total (only y) (worker_view own).put = ap (λ (v : DequeView). total (only y) v.put) is in omega arith;
      took = λ y small.
          let a = one_more-get t.each x y lt in let b = h.took y small in
          let c = total-append (only y) (worker_view own).taken (x ∷ []) in
          let d : total (only y) (worker_view next).taken ≡ total (only y) (with_taken (worker_view own) (x ∷ [])).taken = ap (λ (v : DequeView). total (only y) v.taken) is in omega arith;
    }

eight_of : (rs ss : List StealRight) → deques_of ss ≡ deques_of rs → length rs ≡ 8 → length ss ≡ 8
eight_of rs ss e h = omega (arith, length-map rs deque_of, length-map ss deque_of, ap length e)

-- it took none of its own deque, and none of the others
pub takes_none : (number n : ℕ) (own next : Owner) (rs ss : List StealRight) (p t : CountsValue) → IsPart number n own rs p t
    → SameWorker own next → worker_index next ≤ worker_index own → worker_view next ≡ worker_view own
    → deques_of ss ≡ deques_of rs → All (IsStealRight n) ss → ((h : ℕ → ℕ) → total (stolen h) ss ≡ total (stolen h) rs)
    → IsPart number n next ss p t
takes_none number n own next rs ss p t h same index is deques right totals =
    record {
      below = h.below;
      eight = eight_of rs ss deques h.eight;
      deque = subst (λ ds. slice_get ds number ≡ Some (worker_deque next)) (sym deques) (h.deque ∙ ap Some (sym same.0));
      owner = same_owner n 1 own next h.owner same (ap (λ (v : DequeView). v.lines) is) (ap (λ (v : DequeView). v.shares) is);
      right = right;
      capacity = omega (arith, same.3, h.capacity);
      index = omega (arith, h.index);
      pushed_most = h.pushed_most;
      put_len = ap (λ (v : DequeView). length v.put) is ∙ h.put_len;
      most = h.most;
      pushed_len = h.pushed_len;
      taken_len = h.taken_len;
      put = λ y small.
          let b = h.put y small in
          let d : total (only y) (worker_view next).put ≡ total (only y) (worker_view own).put = ap (λ (v : DequeView). total (only y) v.put) is in omega arith;
      took = λ y small.
          let b = h.took y small in let e = totals (only y) in
          let d : total (only y) (worker_view next).taken ≡ total (only y) (worker_view own).taken = ap (λ (v : DequeView). total (only y) v.taken) is in omega arith;
    }

-- it found no free slot in its own deque
pub puts_none : (number n : ℕ) (own next : Owner) (rs : List StealRight) (p t : CountsValue) → IsPart number n own rs p t
    → SameWorker own next → worker_index next ≡ worker_index own → worker_view next ≡ worker_view own
    → IsPart number n next rs p t
puts_none number n own next rs p t h same index is =
    takes_none number n own next rs rs p t h same (omega arith) is refl h.right (λ f. refl)

-- it stole one number
pub steals_one : (number n : ℕ) (own : Owner) (rs ss : List StealRight) (p t : CountsValue) (x : ℕ) → IsPart number n own rs p t → x < n → t.all < 2 ^ 60
    → deques_of ss ≡ deques_of rs → All (IsStealRight n) ss → ((h : ℕ → ℕ) → total (stolen h) ss ≡ total (stolen h) rs + h x)
    → IsPart number n own ss p (counted t x)
steals_one number n own rs ss p t x h below most deques right totals =
    let lt : x < length t.each = omega (arith, h.taken_len) in
    record {
      below = h.below;
      eight = eight_of rs ss deques h.eight;
      deque = subst (λ ds. slice_get ds number ≡ Some (worker_deque own)) (sym deques) h.deque;
      owner = h.owner;
      right = right;
      capacity = h.capacity;
      index = h.index;
      pushed_most = h.pushed_most;
      put_len = h.put_len;
      most = omega arith;
      pushed_len = h.pushed_len;
      taken_len = omega (arith, length-set {A = ℕ}, h.taken_len);
      put = h.put;
      took = λ y small. let a = one_more-get t.each x y lt in let b = h.took y small in let e = totals (only y) in omega arith;
    }

pub steals_next : (number n : ℕ) (own next : Owner) (rs ss : List StealRight) (p t : CountsValue) (x : ℕ) → IsPart number n own rs p t → x < n → t.all < 2 ^ 60
    → SameWorker own next → worker_index next ≤ worker_index own → worker_view next ≡ worker_view own
    → deques_of ss ≡ deques_of rs → All (IsStealRight n) ss → ((h : ℕ → ℕ) → total (stolen h) ss ≡ total (stolen h) rs + h x)
    → IsPart number n next ss p (counted t x)
steals_next number n own next rs ss p t x h below most same index is =
    steals_one number n next rs ss p t x (takes_none number n own next rs rs p t h same index is refl h.right (λ f. refl)) below most
