-- What the counts of the rule keep apart.
use Rattle.std.proofs.Common.{◌≡◌, ℕ, suc, ◌+◌, ◌%◌, ◌<◌, ◌≤◌, ◌≢◌, ◌⊎◌, List, [], ◌∷◌, get_or, set, sym, refl, ap, ◌∙◌, subst, inl, ⊎_elim, arith, cond, Bool, eq-eqb, ne_eqb, get_or-set_other}
use Rattle.std.specs.Prelude.{Contains}
use mathlib.Core.Option.{some}
use lib.ListN.{get_elem?}
use Rattle.atomic_table.specs.Table.{State}
use Rattle.event_table.specs.declared.handle.Handle.{Handle}
use Rattle.event_table.specs.declared.handle.Shape.{Shape}
use Rattle.shared_events.specs.declared.view.View.{View}
use Rattle.basics.specs.Sums.{total}
use Rattle.event_table.specs.Words.{IsPending, Linked}
use Rattle.shared_events.specs.Rule.{held, ends_at, rights_at, maker, Orderly}
use Rattle.basics.proofs.Sums.{term_le, terms_le, entry_le, item_le, only, only-same, below-once, in_list}
use Rattle.basics.proofs.ListFacts.{contains_here, contains_there}

abbrev pub St : Type 0
St = State Unit View

-- a handle by its parts
pub same_handle : (h : Handle) (i g : ℕ) → h.slot ≡ i → h.gen_ ≡ g → h ≡ record { slot = i; gen_ = g }
same_handle h i g a b k = record { slot = a k; gen_ = b k }

ends_here : (i : ℕ) (h : Handle) → h.slot ≡ i → ends_at i h ≡ 1
ends_here i h e = ap (λ b. cond b 1 0) (eq-eqb h.slot i e)

pub ends_there : (i : ℕ) (h : Handle) → h.slot ≢ i → ends_at i h ≡ 0
ends_there i h n = ap (λ b. cond b 1 0) (ne_eqb h.slot i n)

pub right_counts : (h : Handle) (v : View) → Contains v.rights h → 1 ≤ rights_at h.slot v
right_counts h v c = omega (arith, item_le (ends_at h.slot) v.rights h c, ends_here h.slot h refl)

pub no_rights : (i : ℕ) (hs : List Handle) → ((h : Handle) → Contains hs h → h.slot ≢ i) → total (ends_at i) hs ≡ 0
no_rights i [] f = refl
no_rights i (x ∷ xs) f = let a = ends_there i x (f x (contains_here x xs)) in omega (arith, no_rights i xs (λ h c. f h (contains_there x xs h c)))

pub all_zero : {A : Type 0} (g : A → ℕ) (l : List A) → ((j : ℕ) (v : A) → get_elem? l j ≡ some v → g v ≡ 0) → total g l ≡ 0
all_zero g [] f = refl
all_zero g (x ∷ xs) f = let a = f 0 x refl in omega (arith, all_zero g xs (λ j v e. f (suc j) v e))

-- who else has a right has it at another slot
pub right_apart : (key : Shape) (s : St) (o : Orderly key s) (id j : ℕ) (v u : View) (h h' : Handle) → j ≢ id → get_elem? s.views id ≡ some v → get_elem? s.views j ≡ some u → Contains v.rights h → Contains u.rights h' → h'.slot ≢ h.slot
right_apart key s o id j v u h h' apart me them mine theirs e =
    let b : 1 ≤ rights_at h.slot u = subst (λ i. 1 ≤ rights_at i u) e (right_counts h' u theirs) in
    omega (arith, o.one_right h.slot, terms_le (rights_at h.slot) s.views id j v u apart me them, right_counts h v mine)

-- a handle that was left is at a slot where nobody has a right
pub left_apart : (key : Shape) (s : St) (o : Orderly key s) (id j : ℕ) (v u : View) (h h' : Handle) → get_elem? s.views id ≡ some v → get_elem? s.views j ≡ some u → Contains v.rights h → Contains u.left h' → h'.slot ≢ h.slot
left_apart key s o id j v u h h' me them mine theirs e =
    let none-there = o.no_right j u h' them theirs in
    let b : 1 ≤ rights_at h'.slot v = subst (λ i. 1 ≤ rights_at i v) (sym e) (right_counts h v mine) in
    omega (arith, term_le (rights_at h'.slot) s.views id v me)

-- where a slot's turns are even, nobody has a right there, and none was left
pub even_apart : (key : Shape) (s : St) (o : Orderly key s) (j : ℕ) (u : View) (i : ℕ) (h : Handle) → get_or o.turns i 0 % 2 ≡ 0 → get_elem? s.views j ≡ some u → Contains u.rights h ⊎ Contains u.left h → h.slot ≢ i
even_apart key s o j u i h even at c e =
    let is : IsPending o.turns h = ⊎_elim (λ d. (o.each_view j u at).rights h d) (λ d. (o.each_view j u at).left h d) c in
    let same : get_or o.turns h.slot 0 ≡ get_or o.turns i 0 = ap (λ x. get_or o.turns x 0) e in
    omega arith

pub no_right_at : (key : Shape) (s : St) (o : Orderly key s) (i : ℕ) → get_or o.turns i 0 % 2 ≡ 0 → total (rights_at i) s.views ≡ 0
no_right_at key s o i even = all_zero (rights_at i) s.views (λ j u at. no_rights i u.rights (λ h c. even_apart key s o j u i h even at (inl c)))

pub other_maker : (key : Shape) (s : St) (o : Orderly key s) (id j : ℕ) (v u : View) → j ≢ id → get_elem? s.views id ≡ some v → get_elem? s.views j ≡ some u → v.makes ≡ 1 → u.makes ≡ 1 → ⊥
other_maker key s o id j v u apart me them a b = omega (arith, o.one_maker, terms_le maker s.views id j v u apart me them)

-- a waiter in hand
pub in_hand : (v : View) (p : ℕ × ℕ) → Contains v.hand p → 1 ≤ total (λ (q : ℕ × ℕ). only p.0 q.0) v.hand
in_hand v p c = omega (arith, item_le (λ (q : ℕ × ℕ). only p.0 q.0) v.hand p c, only-same p.0)

-- Somebody has the waiter k in hand, with the rest of the hand ps
module _ (key : Shape) (s : St) (o : Orderly key s) (id : ℕ) (v : View) (k c : ℕ) (ps : List (ℕ × ℕ)) (me : get_elem? s.views id ≡ some v) (hand : v.hand ≡ (k, c) ∷ ps) where
  counted : (total (λ (q : ℕ × ℕ). only k q.0) ps + total (only k) v.caught + 1 ≡ held (only k) v)
  counted = omega (arith, ap (total (λ (q : ℕ × ℕ). only k q.0)) hand, only-same k)

  pub not_else : (j : ℕ) (u : View) → j ≢ id → get_elem? s.views j ≡ some u → held (only k) u ≡ 0
  not_else j u apart them = omega (arith, o.once (only k), below-once k key.waiters, terms_le (held (only k)) s.views id j v u apart me them, counted)

  pub not_in_rest : (p : ℕ × ℕ) → Contains ps p → p.0 ≢ k
  not_in_rest p d e =
      let one : 1 ≤ total (λ (q : ℕ × ℕ). only k q.0) ps = omega (arith, item_le (λ (q : ℕ × ℕ). only k q.0) ps p d, ap {B = ℕ} (λ (b : Bool). cond b 1 0) (eq-eqb p.0 k e)) in
      omega (arith, o.once (only k), below-once k key.waiters, term_le (held (only k)) s.views id v me, counted)

  pub not_my_catch : Contains v.caught k → ⊥
  not_my_catch d = omega (arith, o.once (only k), below-once k key.waiters, term_le (held (only k)) s.views id v me, counted, in_list k v.caught d)

  pub not_their_hand : (j : ℕ) (u : View) → j ≢ id → get_elem? s.views j ≡ some u → (p : ℕ × ℕ) → Contains u.hand p → p.0 ≢ k
  not_their_hand j u apart them p d e =
      let one : 1 ≤ total (λ (q : ℕ × ℕ). only k q.0) u.hand = subst (λ x. 1 ≤ total (λ (q : ℕ × ℕ). only x q.0) u.hand) e (in_hand u p d) in
      omega (arith, not_else j u apart them)

  pub not_their_catch : (j : ℕ) (u : View) → j ≢ id → get_elem? s.views j ≡ some u → Contains u.caught k → ⊥
  not_their_catch j u apart them d = omega (arith, not_else j u apart them, in_list k u.caught d)

  pub not_placed : (i : ℕ) → i < key.slots → Contains (get_or o.chains i []) k → ⊥
  not_placed i near d = omega (arith, o.once (only k), below-once k key.waiters, term_le (held (only k)) s.views id v me, counted, entry_le (total (only k)) o.chains i [] (omega (arith, o.rows)), in_list k (get_or o.chains i []) d)

pub linked_else : (key : Shape) (ws c : List ℕ) (k x : ℕ) → (Contains c k → ⊥) → Linked key ws c → Linked key (set ws (key.slots + k) x) c
linked_else key ws [] k x f l = tt
linked_else key ws (j ∷ js) k x f l = let apart : j ≢ k = λ e. f (subst (λ y. Contains (j ∷ js) y) e (contains_here j js)) in
    (l.0, get_or-set_other ws (key.slots + k) (key.slots + j) x 0 (λ e. apart (omega arith)) ∙ l.1, linked_else key ws js k x (λ d. f (contains_there j js k d)) l.2)
