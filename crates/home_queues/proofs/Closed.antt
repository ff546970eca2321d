-- How parts are taken apart, and how their deques are emptied, one by one.
use Rattle.std.proofs.Common.{◌≡◌, ℕ, zero, suc, ◌+◌, ◌<◌, All, Some, List, [], ◌∷◌, ◌++◌, length, get_or, drop, Vec, sum_by, sym, refl, ap, ◌∙◌, subst, arith, length-append}
use Rattle.std.proofs.lemmas.List.{get_or_append_left}
use Rattle.std.proofs.lemmas.List.Elements.{All-push, All-nil, All-weaker}
use Rattle.std.proofs.lemmas.List.Sums.{sum_by-cons}
use Rattle.std.proofs.Math.Seq.{get_or-append_seam}
use Rattle.std.specs.Prelude.{slice_get, slice_index}
use mathlib.Core.Logic.{dite}
use native.Mathlib.Decide.{ℕ_discrete}
use Rattle.std.specs.declared.alloc.Global.{Global}
use Rattle.crossbeam_deque.specs.Handles.{worker_deque, worker_view}
use Rattle.basics.specs.Sums.{total, only}
use Rattle.home_queues.specs.Hints.{Deque, HintsValue, IsListOf, IsPartAt}
use Rattle.home_queues.specs.Parts.{Owner, deque_of, deques_of, IsOwnerWith, IsPart}
use Rattle.home_queues.specs.Closing.{IsOwner, Gained, put_by, taken_by, row_taken, AllHave, IsRowFor, AllMeet}
use Rattle.home_queues.specs.Tallies.{IsCounted}
use Rattle.home_queues.specs.Spreading.{IsOwnerAt, IsRowOf, Spread}
use Rattle.home_queues.specs.declared.deque.StealRight.{StealRight}
use Rattle.home_queues.specs.declared.tally.PartCounts.{PartCounts}
use Rattle.basics.proofs.Sums.{total-append}
use Rattle.home_queues.proofs.Opened.{drop_first}

module _ {A : Type 0} where
  pub all_front : (P : A → Type 0) (xs ys : List A) (x : A) → xs ≡ ys ++ x ∷ [] → All P xs → All P ys
  all_front P xs ys x e h k d lt = subst P (ap (λ (l : List A). get_or l k d) e ∙ get_or_append_left ys (x ∷ []) d k lt) (h k d (omega (arith, ap length e, length-append ys (x ∷ []))))

  pub all_last : (P : A → Type 0) (xs ys : List A) (x : A) → xs ≡ ys ++ x ∷ [] → All P xs → P x
  all_last P xs ys x e h = subst P (ap (λ (l : List A). get_or l (length ys) x) e ∙ get_or-append_seam ys x [] x) (h (length ys) x (omega (arith, ap length e, length-append ys (x ∷ []))))

  pub length_last : (xs ys : List A) (x : A) → xs ≡ ys ++ x ∷ [] → length xs ≡ length ys + 1
  length_last xs ys x e = ap length e ∙ length-append ys (x ∷ [])

  pub total_last : (f : A → ℕ) (xs ys : List A) (x : A) → xs ≡ ys ++ x ∷ [] → total f xs ≡ total f ys + f x
  total_last f xs ys x e = let a = ap (total f) e in let b = total-append f ys (x ∷ []) in omega arith

  pub total-sum_by : (f : A → ℕ) (xs : List A) → sum_by f xs ≡ total f xs
  total-sum_by f [] = refl
  total-sum_by f (x ∷ xs) = sum_by-cons f x xs ∙ ap (λ n. f x + n) (total-sum_by f xs)

pub full_owner : (n : ℕ) (w : Owner) → IsOwner n w → (worker_view w).shares ≡ 9 → IsOwnerWith n 9 w
full_owner n w o all = record { flavor = o.flavor; lines = o.lines; shares_is = all }

-- ---- rows
-- what holds of owners and rows before and after a row came back
pub meets_still : (n : ℕ) (olds news : List Owner) (rows : List (Vec StealRight Global)) → Gained 0 olds news → AllMeet n rows olds → AllMeet n rows news
meets_still n olds news rows g meet = All-weaker (IsRowFor n olds) (IsRowFor n news) (λ row h. record {
  len = h.len ∙ sym g.0;
  meets = λ k r w lt. h.meets k r w lt ∙ sym (g.1 k w (omega (arith, h.len))).deque;
  right = h.right;
}) rows meet

pub have_more : (j k : ℕ) (olds news : List Owner) → Gained 0 olds news → AllHave j olds → k ≡ j + 1 → AllHave k news
have_more j k olds news g h e i w lt =
    let step = (g.1 i w (omega (arith, g.0))).from (omega arith) in step ∙ (ap (λ (m : ℕ). m + 1) (h i w (omega (arith, g.0))) ∙ sym e)

-- ---- parts
deque_get : (rs : List StealRight) (k : ℕ) (r : StealRight) (d : Deque) → k < length rs → slice_get (deques_of rs) k ≡ Some d → deque_of (get_or rs k r) ≡ d
deque_get [] k r d lt e = absurd (omega arith)
deque_get (x ∷ xs) zero r d lt e = cc
deque_get (x ∷ xs) (suc k) r d lt e = deque_get xs k r d (omega arith) e

-- rows of the same deques as the owners, which stand in order
pub meets_all : (n : ℕ) (deques : List Deque) (owners : List Owner) (rows : List (Vec StealRight Global)) → length owners ≡ 8 → ((k : ℕ) (w : Owner) → k < length owners → IsOwnerAt n deques k (get_or owners k w)) → All (IsRowOf n deques) rows → AllMeet n rows owners
meets_all n deques owners rows eight each h = All-weaker (IsRowOf n deques) (IsRowFor n owners) (λ row o. record {
  len = o.len ∙ sym eight;
  meets = λ k r w lt. deque_get row.items k r (worker_deque (get_or owners k w)) lt (ap (λ ds. slice_get ds k) o.deques_are ∙ (each k w (omega (arith, o.len))).deque);
  right = o.right;
}) rows h

pub spread_starts : (n : ℕ) (parts : List HintsValue) (owners : List Owner) (rows : List (Vec StealRight Global)) (counts : List PartCounts) → IsListOf n parts → owners ≡ [] → rows ≡ [] → counts ≡ [] → Spread n parts parts owners rows counts
spread_starts n parts owners rows counts l h r c = record {
  deques = l.deques;
  tied = l.each;
  owners_len = omega (arith, ap length h, l.eight);
  rows_len = omega (arith, ap length r, l.eight);
  counts_len = omega (arith, ap length c, l.eight);
  each_owner = λ k w lt. absurd (omega (arith, ap length h));
  each_row = subst (All (IsRowOf n l.deques)) (sym r) (All-nil (IsRowOf n l.deques));
  each_count = subst (All (IsCounted n)) (sym c) (All-nil (IsCounted n));
  pushed = λ x. let a = ap (total (λ (k : PartCounts). slice_index k.pushed.each x)) c in omega arith;
  taken = λ x. let a = ap (total (λ (k : PartCounts). slice_index k.taken.each x)) c in omega arith;
  put = λ x lt. let a = ap (total (put_by (only x))) h in omega arith;
  took = λ x lt. let a = ap (total (taken_by (only x))) h in let b = ap (total (row_taken (only x))) r in omega arith;
}

pub spread_grows : (n k : ℕ) (parts rest more : List HintsValue) (owners owners' : List Owner) (rows rows' : List (Vec StealRight Global)) (counts counts' : List PartCounts)
    (own : Owner) (row : Vec StealRight Global) (c : PartCounts) (number lines : ℕ) (h : HintsValue)
    → Spread n parts rest owners rows counts → k ≡ length owners → rest ≡ drop k parts → rest ≡ h ∷ more
    → h.deques ≡ deques_of row.items → h.number ≡ number → h.lines ≡ lines → h.pushed ≡ c.pushed.each → h.taken ≡ c.taken.each
    → IsPart number lines own row.items c.pushed c.taken
    → owners' ≡ owners ++ own ∷ [] → rows' ≡ rows ++ row ∷ [] → counts' ≡ counts ++ c ∷ []
    → Spread n parts more owners' rows' counts'
spread_grows n k parts rest more owners owners' rows rows' counts counts' own row c number lines h s at dropped first deques num lin pushed taken part hs rs cs =
    let r = drop_first parts k h more (sym dropped ∙ first) in
    let one : length rest ≡ length more + 1 = omega (arith, ap length first) in
    let tie : IsPartAt n s.deques k h = subst (IsPartAt n s.deques k) (sym r.1) (s.tied k h (omega (arith, s.owners_len))) in
    let is_k : number ≡ k = sym num ∙ tie.number in
    let is_n : lines ≡ n = sym lin ∙ tie.lines in
    let same : deques_of row.items ≡ s.deques = sym deques ∙ tie.deques_are in
    let mine : IsPart k n own row.items c.pushed c.taken = subst (λ (q : ℕ × ℕ). IsPart q.0 q.1 own row.items c.pushed c.taken) (λ i. (is_k i, is_n i)) part in
    let owner : IsOwner n own = record { flavor = mine.owner.flavor; lines = mine.owner.lines; some_share = omega (arith, mine.owner.shares_is); most = omega (arith, mine.put_len, mine.pushed_most) } in
    let here : IsOwnerAt n s.deques k own = record { owner = owner; share = mine.owner.shares_is; deque = ap (λ ds. slice_get ds k) (sym same) ∙ mine.deque } in
    let len : length owners' ≡ length owners + 1 = length_last owners' owners own hs in
    record {
      deques = s.deques;
      tied = s.tied;
      owners_len = omega (arith, s.owners_len);
      rows_len = omega (arith, length_last rows' rows row rs, s.rows_len);
      counts_len = omega (arith, length_last counts' counts c cs, s.counts_len);
      each_owner = λ j w lt. dite (ℕ_discrete j k)
          (λ (e : j ≡ k).
          let there : get_or owners' j w ≡ own = ap (λ (l : List Owner). get_or l j w) hs ∙ (ap (λ i. get_or (owners ++ own ∷ []) i w) (e ∙ at) ∙ get_or-append_seam owners own [] w) in
          subst (IsOwnerAt n s.deques j) (sym there) (subst (λ i. IsOwnerAt n s.deques i own) (sym e) here))
          (λ (ne : j ≡ k → ⊥).
          let below : j < length owners = omega arith in
          let there : get_or owners' j w ≡ get_or owners j w = ap (λ (l : List Owner). get_or l j w) hs ∙ get_or_append_left owners (own ∷ []) w j below in
          subst (IsOwnerAt n s.deques j) (sym there) (s.each_owner j w below));
      each_row = subst (All (IsRowOf n s.deques)) (sym rs) (All-push (IsRowOf n s.deques) rows row s.each_row (record { deques_are = same; len = mine.eight; right = mine.right }));
      each_count = subst (All (IsCounted n)) (sym cs) (All-push (IsCounted n) counts c s.each_count (record { pushed_len = mine.pushed_len; taken_len = mine.taken_len; pushed_most = mine.pushed_most; taken_most = mine.most }));
      pushed = λ x.
          let a = total_last (λ (q : PartCounts). slice_index q.pushed.each x) counts' counts c cs in
          let b = ap (total (λ (p : HintsValue). slice_index p.pushed x)) first in
          let d = ap (λ (l : List ℕ). slice_index l x) pushed in
          let e = s.pushed x in omega arith;
      taken = λ x.
          let a = total_last (λ (q : PartCounts). slice_index q.taken.each x) counts' counts c cs in
          let b = ap (total (λ (p : HintsValue). slice_index p.taken x)) first in
          let d = ap (λ (l : List ℕ). slice_index l x) taken in
          let e = s.taken x in omega arith;
      put = λ x small.
          let a = total_last (put_by (only x)) owners' owners own hs in
          let b = ap (total (λ (p : HintsValue). slice_index p.pushed x)) first in
          let d = ap (λ (l : List ℕ). slice_index l x) pushed in
          let f = mine.put x small in
          let e = s.put x small in omega arith;
      took = λ x small.
          let a = total_last (taken_by (only x)) owners' owners own hs in
          let g = total_last (row_taken (only x)) rows' rows row rs in
          let b = ap (total (λ (p : HintsValue). slice_index p.taken x)) first in
          let d = ap (λ (l : List ℕ). slice_index l x) taken in
          let f = mine.took x small in
          let e = s.took x small in omega arith;
    }

pub next_dropped : (k : ℕ) (parts rest more : List HintsValue) (h : HintsValue) → rest ≡ drop k parts → rest ≡ h ∷ more → more ≡ drop (k + 1) parts
next_dropped k parts rest more h dropped first = (drop_first parts k h more (sym dropped ∙ first)).2

pub all_one : (n : ℕ) (parts : List HintsValue) (owners : List Owner) (rows : List (Vec StealRight Global)) (counts : List PartCounts) → Spread n parts [] owners rows counts → All (IsOwner n) owners × AllHave 1 owners × AllMeet n rows owners
all_one n parts owners rows counts s = ((λ k w lt. (s.each_owner k w lt).owner), (λ k w lt. (s.each_owner k w lt).share), meets_all n s.deques owners rows (omega (arith, s.owners_len)) s.each_owner s.each_row)
