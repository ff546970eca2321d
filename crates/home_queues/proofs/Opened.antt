-- How owners, rows and parts are made, one by one.
use Rattle.std.proofs.Common.{◌≡◌, ◌≢◌, ℕ, zero, suc, ◌+◌, ◌-◌, ◌<◌, ◌≤◌, All, Some, List, [], ◌∷◌, ◌++◌, length, get_or, set, take, drop, replicate, Vec, sym, refl, ap, ◌∙◌, subst, arith, length-set, length-append, get_or-set_same, get_or-set_other}
use Rattle.std.proofs.lemmas.List.{take_all, length-drop, get_or_append_left, length-map, length-replicate, get_or-map, map-append}
use Rattle.std.proofs.lemmas.List.Elements.{All-push, All-head, All-tail, All-weaker, All-nil}
use Rattle.std.proofs.Math.Seq.{get_or-append_seam, map-set_same, take-suc}
use Rattle.std.specs.Prelude.{slice_get, slice_index}
use Rattle.std.specs.declared.alloc.Global.{Global}
use mathlib.Core.Logic.{dite}
use native.Mathlib.Decide.{ℕ_discrete}
use Rattle.crossbeam_deque.specs.Handles.{IsPassOf, worker_deque, worker_index, worker_view, view, SameWorker}
use Rattle.basics.specs.Sums.{total, only}
use Rattle.home_queues.specs.DequeRule.{without_share, one_share}
use Rattle.home_queues.specs.Counts.{CountsValue, no_counts}
use Rattle.home_queues.specs.Hints.{HintsValue, IsNew, IsPartAt, IsListOf}
use Rattle.home_queues.specs.Parts.{Owner, deque_of, deques_of, stolen, IsStealRight, IsPart}
use Rattle.home_queues.specs.Opening.{fresh_view, IsFresh, IsNewRight, IsRow, owner_deques, first_shares}
use Rattle.home_queues.specs.declared.deque_view.DequeView.{DequeView}
use Rattle.home_queues.specs.declared.deque.StealRight.{StealRight}

-- ---- a row
-- k of the owners have given a share to the row
pub record RowOf (n shares k : ℕ) (olds owners : List Owner) (row : List StealRight) : Type 0 where
  pub len : length owners ≡ length olds
  pub deques : owner_deques owners ≡ owner_deques olds
  pub done : (i : ℕ) (w : Owner) → i < k → IsFresh n (shares - 1) (get_or owners i w)
  pub rest : (i : ℕ) (w : Owner) → k ≤ i → i < length owners → IsFresh n shares (get_or owners i w)
  pub row_deques : deques_of row ≡ take k (owner_deques olds)
  pub right : All (IsNewRight n) row

pub row_starts : (n shares : ℕ) (owners : List Owner) (row : List StealRight) → All (IsFresh n shares) owners → row ≡ [] → RowOf n shares 0 owners owners row
row_starts n shares owners row fresh none = record {
  len = refl;
  deques = refl;
  done = λ i w lt. absurd (omega arith);
  rest = λ i w _ lt. fresh i w lt;
  row_deques = ap deques_of none;
  right = subst (All (IsNewRight n)) (sym none) (All-nil (IsNewRight n));
}

cut_owner : (n shares : ℕ) (w v : Owner) → IsFresh n shares w → SameWorker w v → worker_index v ≡ worker_index w → worker_view v ≡ without_share (worker_view w) → IsFresh n (shares - 1) v
cut_owner n shares w v h same index is = record {
  flavor = same.1 ∙ h.flavor;
  capacity = omega (arith, same.3, h.capacity);
  index = index ∙ h.index;
  known = is ∙ ap without_share h.known;
}

cut_right : (n shares : ℕ) (w : Owner) (r : StealRight) → IsFresh n shares w → IsPassOf (deque_of r) r.pass → view r.pass ≡ one_share (worker_view w) → IsNewRight n r
cut_right n shares w r h at is = let e : view r.pass ≡ one_share (fresh_view n shares) = is ∙ ap one_share h.known in record {
  right = record { at = at; share = ap (λ (u : DequeView). u.shares) e; lines = ap (λ (u : DequeView). u.lines) e; put = ap (λ (u : DequeView). u.put) e };
  taken = ap (λ (u : DequeView). u.taken) e;
}

pub row_grows : (n shares k : ℕ) (olds owners : List Owner) (row next : List StealRight) (w v : Owner) (r : StealRight) → RowOf n shares k olds owners row → k < length owners
    → w ≡ get_or owners k w → SameWorker w v → worker_index v ≡ worker_index w → worker_view v ≡ without_share (worker_view w)
    → deque_of r ≡ worker_deque w → IsPassOf (deque_of r) r.pass → view r.pass ≡ one_share (worker_view w) → next ≡ row ++ r ∷ []
    → RowOf n shares (k + 1) olds (set owners k v) next
row_grows n shares k olds owners row next w v r h lt here same index is deque at pass more =
    let fresh : IsFresh n shares w = subst (IsFresh n shares) (sym here) (h.rest k w (omega arith) lt) in
    let one : k + 1 ≡ suc k = omega arith in
    let deque_here : get_or (owner_deques olds) k (worker_deque w) ≡ deque_of r =
    ap (λ ds. get_or ds k (worker_deque w)) (sym h.deques) ∙ (get_or-map (λ (y : Owner). worker_deque y) owners k w (worker_deque w) lt ∙ (ap (λ (y : Owner). worker_deque y) (sym here) ∙ sym deque)) in
    record {
      len = omega (arith, length-set {A = Owner}, h.len);
      deques = map-set_same (λ (y : Owner). worker_deque y) owners k v w (same.0 ∙ ap (λ (y : Owner). worker_deque y) here) ∙ h.deques;
      done = λ i u below. dite (ℕ_discrete i k)
          (λ (e : i ≡ k). subst (IsFresh n (shares - 1)) (sym (ap (λ (j : ℕ). get_or (set owners k v) j u) e ∙ get_or-set_same owners k v u lt)) (cut_owner n shares w v fresh same index is))
          (λ (ne : i ≢ k). subst (IsFresh n (shares - 1)) (sym (get_or-set_other owners k i v u ne)) (h.done i u (omega arith)));
      rest = λ i u above within.
          let ne : i ≢ k = λ e. omega arith in
          subst (IsFresh n shares) (sym (get_or-set_other owners k i v u ne)) (h.rest i u (omega arith) (omega (arith, length-set {A = Owner})));
      row_deques = ap deques_of more ∙ (map-append deque_of row (r ∷ []) ∙ (λ i. h.row_deques i ++ sym deque_here i ∷ []) ∙ sym (take-suc (owner_deques olds) k (worker_deque w) (omega (arith, h.len, length-map olds (λ (y : Owner). worker_deque y)))) ∙ ap (λ j. take j (owner_deques olds)) (sym one));
      right = subst (All (IsNewRight n)) (sym more) (All-push (IsNewRight n) row r h.right (cut_right n shares w r fresh at pass));
    }

pub row_ends : (n shares k : ℕ) (olds owners : List Owner) (row : Vec StealRight Global) → RowOf n shares k olds owners row.items → length olds ≤ k → All (IsFresh n (shares - 1)) owners × IsRow n (owner_deques olds) row
row_ends n shares k olds owners row h all = (
  (λ i w lt. h.done i w (omega (arith, h.len))),
  record {
    deques_are = h.row_deques ∙ take_all k (owner_deques olds) (omega (arith, length-map olds (λ (y : Owner). worker_deque y)));
    right = h.right;
  },
)

-- ---- all rows
pub first_is : (n shares : ℕ) (owners : List Owner) → 0 < length owners → All (IsFresh n shares) owners → first_shares owners ≡ shares
first_is n shares [] some h = absurd (omega arith)
first_is n shares (w ∷ ws) some h = let f : IsFresh n shares w = All-head (IsFresh n shares) w ws h in ap (λ (u : DequeView). u.shares) f.known

-- ---- the parts
pub zero_at : (n x : ℕ) → slice_index (replicate n 0) x ≡ 0
zero_at zero x = refl
zero_at (suc n) zero = refl
zero_at (suc n) (suc x) = zero_at n x

none_stolen : (n : ℕ) (h : ℕ → ℕ) (row : List StealRight) → All (IsNewRight n) row → total (stolen h) row ≡ 0
none_stolen n h [] new = refl
none_stolen n h (r ∷ rs) new =
    let first : IsNewRight n r = All-head (IsNewRight n) r rs new in
    let a : total h (view r.pass).taken ≡ 0 = ap (total h) first.taken in
    let b = none_stolen n h rs (All-tail (IsNewRight n) r rs new) in omega arith

deque_at : (owners : List Owner) (k : ℕ) (w : Owner) → k < length owners → w ≡ get_or owners k w → slice_get (owner_deques owners) k ≡ Some (worker_deque w)
deque_at [] k w lt e = absurd (omega arith)
deque_at (x ∷ xs) zero w lt e = ap (λ (y : Owner). Some (worker_deque y)) (sym e)
deque_at (x ∷ xs) (suc k) w lt e = deque_at xs k w (omega arith) e

pub new_part : (number n : ℕ) (owners : List Owner) (own : Owner) (row : Vec StealRight Global) (p t : CountsValue) → number < 8 → length owners ≡ 8 → IsFresh n 1 own → own ≡ get_or owners number own → IsRow n (owner_deques owners) row
    → p ≡ no_counts n → t ≡ no_counts n → IsPart number n own row.items p t
new_part number n owners own row p t below eight fresh here h pe te =
    let len : length row.items ≡ 8 = omega (arith, length-map row.items deque_of, length-map owners (λ (y : Owner). worker_deque y), ap length h.deques_are) in
    let new : IsPart number n own row.items (no_counts n) (no_counts n) = record {
      below = below;
      eight = len;
      deque = ap (λ ds. slice_get ds number) h.deques_are ∙ deque_at owners number own (omega arith) here;
      owner = record { flavor = fresh.flavor; lines = ap (λ (u : DequeView). u.lines) fresh.known; shares_is = ap (λ (u : DequeView). u.shares) fresh.known };
      right = All-weaker (IsNewRight n) (IsStealRight n) (λ r new. new.right) row.items h.right;
      capacity = fresh.capacity;
      index = omega (arith, fresh.index);
      pushed_most = omega arith;
      put_len = ap (λ (u : DequeView). length u.put) fresh.known;
      most = omega arith;
      pushed_len = length-replicate n 0;
      taken_len = length-replicate n 0;
      put = λ x lt. zero_at n x ∙ sym (ap (λ (u : DequeView). total (only x) u.put) fresh.known);
      took = λ x lt.
          let a = zero_at n x in
          let b : total (only x) (worker_view own).taken ≡ 0 = ap (λ (u : DequeView). total (only x) u.taken) fresh.known in
          let c = none_stolen n (only x) row.items h.right in omega arith;
    } in
    subst (λ (q : CountsValue × CountsValue). IsPart number n own row.items q.0 q.1) (λ i. (sym pe i, sym te i)) new

-- the owners from the k-th on are still there, and the rows for them, and k parts were made
pub record PartsOf (n k : ℕ) (owners rest : List Owner) (rows : List (Vec StealRight Global)) (parts : List HintsValue) : Type 0 where
  pub rest_is : rest ≡ drop k owners
  pub within : k ≤ 8
  pub rows_len : length rows + k ≡ 8
  pub each_row : All (IsRow n (owner_deques owners)) rows
  pub parts_len : length parts ≡ k
  pub each : (j : ℕ) (h : HintsValue) → j < k → IsPartAt n (owner_deques owners) j (get_or parts j h)
  pub new : All (IsNew n) parts

pub parts_start : (n : ℕ) (owners rest : List Owner) (rows : List (Vec StealRight Global)) (parts : List HintsValue) → rest ≡ owners → length rows ≡ 8 → All (IsRow n (owner_deques owners)) rows → parts ≡ [] → PartsOf n 0 owners rest rows parts
parts_start n owners rest rows parts all eight each none = record {
  rest_is = all;
  within = omega arith;
  rows_len = omega arith;
  each_row = each;
  parts_len = ap length none;
  each = λ j h lt. absurd (omega arith);
  new = subst (All (IsNew n)) (sym none) (All-nil (IsNew n));
}

-- the first of what is left of a list
pub drop_first : {A : Type 0} (xs : List A) (k : ℕ) (x : A) (ys : List A) → drop k xs ≡ x ∷ ys → (k < length xs) × (x ≡ get_or xs k x) × (ys ≡ drop (k + 1) xs)
drop_first [] zero x ys e = absurd (cc)
drop_first [] (suc k) x ys e = absurd (cc)
drop_first (z ∷ zs) zero x ys e = (omega arith, (let f : z ≡ x = cc in sym f), (let f : zs ≡ ys = cc in sym f))
drop_first (z ∷ zs) (suc k) x ys e =
    let r = drop_first zs k x ys e in (omega (arith, r.0), r.1, r.2 ∙ ap (λ j. drop j (z ∷ zs)) (let o : suc (k + 1) ≡ suc k + 1 = omega arith in o))

pub parts_grow : (n k : ℕ) (owners rest more : List Owner) (rows left : List (Vec StealRight Global)) (parts next : List HintsValue) (own : Owner) (row : Vec StealRight Global) (h : HintsValue) → PartsOf n k owners rest rows parts
    → length owners ≡ 8 → rest ≡ own ∷ more → rows ≡ left ++ row ∷ [] → next ≡ parts ++ h ∷ [] → IsPartAt n (owner_deques owners) k h → IsNew n h
    → PartsOf n (k + 1) owners more left next
parts_grow n k owners rest more rows left parts next own row h o eight first last grown at new =
    let r = drop_first owners k own more (sym o.rest_is ∙ first) in
    let len : length rows ≡ length left + 1 = ap length last ∙ length-append left (row ∷ []) in
    record {
      rest_is = r.2;
      within = omega (arith, r.0);
      rows_len = omega (arith, o.rows_len);
      each_row = λ j d lt. subst (IsRow n (owner_deques owners)) (ap (λ (l : List (Vec StealRight Global)). get_or l j d) last ∙ get_or_append_left left (row ∷ []) d j lt) (o.each_row j d (omega arith));
      parts_len = ap length grown ∙ (length-append parts (h ∷ []) ∙ ap (λ j. j + 1) o.parts_len);
      each = λ j d lt. dite (ℕ_discrete j k)
          (λ (e : j ≡ k).
          let here : get_or next j d ≡ h = ap (λ (l : List HintsValue). get_or l j d) grown ∙ (ap (λ i. get_or (parts ++ h ∷ []) i d) (e ∙ sym o.parts_len) ∙ get_or-append_seam parts h [] d) in
          subst (IsPartAt n (owner_deques owners) j) (sym here) (subst (λ i. IsPartAt n (owner_deques owners) i h) (sym e) at))
          (λ (ne : j ≢ k).
          let n' : j ≡ k → ⊥ = ne in let lt' : j < k = omega arith in
          let here : get_or next j d ≡ get_or parts j d = ap (λ (l : List HintsValue). get_or l j d) grown ∙ get_or_append_left parts (h ∷ []) d j (omega (arith, o.parts_len)) in
          subst (IsPartAt n (owner_deques owners) j) (sym here) (o.each j d lt'));
      new = subst (All (IsNew n)) (sym grown) (All-push (IsNew n) parts h o.new new);
    }

pub last_row : (n k : ℕ) (owners rest : List Owner) (rows left : List (Vec StealRight Global)) (parts : List HintsValue) (row : Vec StealRight Global) → PartsOf n k owners rest rows parts → rows ≡ left ++ row ∷ [] → IsRow n (owner_deques owners) row
last_row n k owners rest rows left parts row o last =
    let at : get_or rows (length left) row ≡ row = ap (λ (l : List (Vec StealRight Global)). get_or l (length left) row) last ∙ get_or-append_seam left row [] row in
    subst (IsRow n (owner_deques owners)) at (o.each_row (length left) row (omega (arith, ap length last, length-append left (row ∷ []))))

pub none_left : (n k : ℕ) (owners rest : List Owner) (rows : List (Vec StealRight Global)) (parts : List HintsValue) → PartsOf n k owners rest rows parts → length owners ≡ 8 → length rest ≡ 0 → IsListOf n parts
none_left n k owners rest rows parts o eight none =
    let all : k ≡ 8 = omega (arith, o.within, length-drop k owners, ap length o.rest_is) in record {
      deques = owner_deques owners;
      eight = o.parts_len ∙ all;
      each = λ j h lt. o.each j h (omega arith);
    }
