-- A step of a one-thread table keeps that its words show its map.
use Rattle.std.proofs.Common.{◌≡◌, ◌≢◌, ℕ, zero, suc, ◌+◌, ◌-◌, ◌<◌, ◌≤◌, true, false, cond, List, [], ◌∷◌, ◌++◌, length, get_or, sym, refl, ap, ◌∙◌, subst, ⊎_elim, arith, eqb, eq-eqb, ne_eqb, append_assoc}
use Rattle.std.specs.Prelude.{Contains, nat_lt}
use Rattle.std.proofs.lemmas.Bool.{lt-ltb, false≢true}
use Rattle.std.proofs.lemmas.List.{length-set, append-nil}
use Rattle.std.proofs.lemmas.List.Elements.{Contains-append_left, Contains-append_right, Contains-append_cases}
use mathlib.Core.Logic.{dite}
use native.Mathlib.Decide.{ℕ_discrete}
use Rattle.basics.specs.Sums.{total, below, only}
use Rattle.event_table.specs.Words.{mark, code, Linked, Shows, handle_at}
use Rattle.event_table.specs.EventMap.{EventMap, SlotLife, unused, with_life, all_on, weight, IsFree, MayServe}
use Rattle.event_table.specs.Kept.{turns_in, IsSlot, AreCaught, AreFree}
use Rattle.event_table.specs.declared.handle.Handle.{Handle}
use Rattle.event_table.specs.declared.handle.Shape.{Shape}
use Rattle.event_table.specs.declared.chain.Chain.{Chain}
use Rattle.basics.proofs.Sums.{total-append, total-one, below-one, below-once, item_le, only-same}
use Rattle.basics.proofs.ListFacts.{contains_none, contains_here, contains_there, contains_cases, contains_one as Contains-one}
use Rattle.event_table.proofs.ChainSteps.{linked_all}
use Rattle.event_table.proofs.MapAnswers.{all_in, life_here, life_there}

-- WEIGHTS. f without k
abbrev pub but : (ℕ → ℕ) → ℕ → ℕ → ℕ
but f k x = cond (eqb x k) 0 (f x)

but_other : (f : ℕ → ℕ) (k x : ℕ) → x ≢ k → but f k x ≡ f x
but_other f k x n = ap (λ b. cond b 0 (f x)) (ne_eqb x k n)

but_same : (f : ℕ → ℕ) (k : ℕ) → but f k k ≡ 0
but_same f k = ap (λ b. cond b 0 (f k)) (eq-eqb k k refl)

but_below : (f : ℕ → ℕ) (k n : ℕ) → n ≤ k → below (but f k) n ≡ below f n
but_below f k zero l = refl
but_below f k (suc n) l = let a = but_other f k n (λ e. omega arith) in omega (arith, but_below f k n (omega arith))

below_but : (f : ℕ → ℕ) (k n : ℕ) → k < n → below (but f k) n + f k ≡ below f n
below_but f k zero l = absurd (omega arith)
below_but f k (suc n) l = dite (ℕ_discrete n k)
    (λ e. let a : but f k n ≡ 0 = ap (but f k) e ∙ but_same f k in let b : f n ≡ f k = ap f e in let c = but_below f k n (omega arith) in omega arith)
    (λ ne. let a = but_other f k n ne in omega (arith, below_but f k n (omega arith)))

pub total_but : (f : ℕ → ℕ) (k : ℕ) (xs : List ℕ) → (Contains xs k → ⊥) → total (but f k) xs ≡ total f xs
total_but f k [] n = refl
total_but f k (x ∷ xs) n = let a = but_other f k x (λ e. n (subst (Contains (x ∷ xs)) e (contains_here x xs))) in omega (arith, total_but f k xs (λ c. n (contains_there x xs k c)))

-- one more than a list that has each number at most once
pub one_more : (xs : List ℕ) (n k : ℕ) → k < n → (Contains xs k → ⊥) → ((f : ℕ → ℕ) → total f xs ≤ below f n) → (f : ℕ → ℕ) → total f xs + f k ≤ below f n
one_more xs n k l out once f = omega (arith, once (but f k), total_but f k xs out, below_but f k n l)

lives_but : (f : ℕ → ℕ) (k : ℕ) (ls : List SlotLife) → ((i : ℕ) → Contains (get_or ls i unused).waiting k → ⊥) → total (λ (l : SlotLife). total (but f k) l.waiting) ls ≡ total (λ (l : SlotLife). total f l.waiting) ls
lives_but f k [] n = refl
lives_but f k (l ∷ ls) n = omega (arith, total_but f k l.waiting (n 0), lives_but f k ls (λ i. n (suc i)))

caught_but : (f : ℕ → ℕ) (k : ℕ) (ps : List (ℕ × Handle)) → ((h : Handle) → Contains ps (k, h) → ⊥) → total (λ (p : ℕ × Handle). but f k p.0) ps ≡ total (λ (p : ℕ × Handle). f p.0) ps
caught_but f k [] n = refl
caught_but f k (p ∷ ps) n = let a = but_other f k p.0 (λ e. n p.1 (subst (λ x. Contains (p ∷ ps) (x, p.1)) e (contains_here {X = ℕ × Handle} p ps))) in omega (arith, caught_but f k ps (λ h c. n h (contains_there {X = ℕ × Handle} p ps (k, h) c)))

-- FRAMES. What a chain's links are
pub linked_same : (key : Shape) (ws ws' c : List ℕ) → ((k : ℕ) → Contains c k → get_or ws' (key.slots + k) 0 ≡ get_or ws (key.slots + k) 0) → Linked key ws c → Linked key ws' c
linked_same key ws ws' [] f l = tt
linked_same key ws ws' (k ∷ ks) f l = (l.0, f k (contains_here k ks) ∙ l.1, linked_same key ws ws' ks (λ j c. f j (contains_there k ks j c)) l.2)

pub slot_same : (key : Shape) (ws ws' : List ℕ) (i : ℕ) (life : SlotLife) → get_or ws' i 0 ≡ get_or ws i 0 → ((k : ℕ) → Contains life.waiting k → get_or ws' (key.slots + k) 0 ≡ get_or ws (key.slots + k) 0)
    → ((g : ℕ) → g < length life.fates → mark key ws' (handle_at i g) ≡ mark key ws (handle_at i g)) → IsSlot key ws i life → IsSlot key ws' i life
slot_same key ws ws' i life w links marks o = record {
  word = subst (Shows key.last_gen (turns_in life) life.waiting) (sym w) o.word;
  linked = linked_same key ws ws' life.waiting links o.linked;
  marks = λ g l. marks g l ∙ o.marks g l;
}

all_has : (h : Handle) (ks : List ℕ) (k : ℕ) → Contains ks k → Contains (all_on h ks) (k, h)
all_has h [] k c = absurd (contains_none k c)
all_has h (j ∷ js) k c = ⊎_elim (λ (e : j ≡ k). subst (λ x. Contains (all_on h (j ∷ js)) (x, h)) e (contains_here {X = ℕ × Handle} (j, h) (all_on h js))) (λ d. contains_there {X = ℕ × Handle} (j, h) (all_on h js) (k, h) (all_has h js k d)) (contains_cases j js k c)

pub caught_same : (key : Shape) (ws ws' : List ℕ) (cs : List Chain) (ps : List (ℕ × Handle)) → ((k : ℕ) (h : Handle) → Contains ps (k, h) → get_or ws' (key.slots + k) 0 ≡ get_or ws (key.slots + k) 0) → AreCaught key ws cs ps → AreCaught key ws' cs ps
caught_same key ws ws' [] ps f o = o
caught_same key ws ws' (c ∷ cs) ps f (ks, rest, e, linked, more) =
    let here : (k : ℕ) (h : Handle) → Contains (rest ++ all_on c.handle (c.first ∷ ks)) (k, h) → get_or ws' (key.slots + k) 0 ≡ get_or ws (key.slots + k) 0 = λ k h d. f k h (subst (λ (l : List (ℕ × Handle)). Contains l (k, h)) (sym e) d) in (
      ks,
      rest,
      e,
      linked_same key ws ws' (c.first ∷ ks) (λ k d. here k c.handle (Contains-append_right {X = ℕ × Handle} rest (all_on c.handle (c.first ∷ ks)) (k, c.handle) (all_has c.handle (c.first ∷ ks) k d))) linked,
      caught_same key ws ws' cs rest (λ k h d. here k h (Contains-append_left {X = ℕ × Handle} rest (all_on c.handle (c.first ∷ ks)) (k, h) d)) more,
    )

-- A chain is put behind the others, and is then given first
pub caught_more : (key : Shape) (ws : List ℕ) (cs : List Chain) (ps : List (ℕ × Handle)) (h : Handle) (k : ℕ) (ks : List ℕ) → Linked key ws (k ∷ ks) → AreCaught key ws cs ps → AreCaught key ws (cs ++ record { handle = h; first = k } ∷ []) (all_on h (k ∷ ks) ++ ps)
caught_more key ws [] ps h k ks l o = (ks, [], (λ t. all_on h (k ∷ ks) ++ o t) ∙ append-nil (all_on h (k ∷ ks)), l, refl)
caught_more key ws (c ∷ cs) ps h k ks l (js, rest, e, linked, more) = (js, all_on h (k ∷ ks) ++ rest, (λ t. all_on h (k ∷ ks) ++ e t) ∙ sym (append_assoc (all_on h (k ∷ ks)) rest (all_on c.handle (c.first ∷ js))), linked, caught_more key ws cs rest h k ks l more)

-- The last chain gives its first waiter
pub record TakesOne (key : Shape) (ws : List ℕ) (cs : List Chain) (c : Chain) (ps : List (ℕ × Handle)) : Type 0 where
  pub left : List ℕ
  pub rest : List (ℕ × Handle)
  pub parts : ps ≡ all_on c.handle (c.first ∷ left) ++ rest
  pub linked : Linked key ws (c.first ∷ left)
  pub more : AreCaught key ws cs rest

pub caught_last : (key : Shape) (ws : List ℕ) (cs : List Chain) (c : Chain) (ps : List (ℕ × Handle)) → AreCaught key ws (cs ++ c ∷ []) ps → TakesOne key ws cs c ps
caught_last key ws [] c ps (ks, rest, e, linked, more) = record { left = ks; rest = []; parts = e ∙ (λ t. more t ++ all_on c.handle (c.first ∷ ks)) ∙ sym (append-nil (all_on c.handle (c.first ∷ ks))); linked = linked; more = refl }
caught_last key ws (b ∷ bs) c ps (ks, rest, e, linked, more) =
    let o = caught_last key ws bs c rest more in
    record {
      left = o.left;
      rest = o.rest ++ all_on b.handle (b.first ∷ ks);
      parts = e ∙ (λ t. o.parts t ++ all_on b.handle (b.first ∷ ks)) ∙ append_assoc (all_on c.handle (c.first ∷ o.left)) o.rest (all_on b.handle (b.first ∷ ks));
      linked = o.linked;
      more = (ks, o.rest, refl, linked, o.more);
    }

pub caught_low : (key : Shape) (ws : List ℕ) (cs : List Chain) (ps : List (ℕ × Handle)) → AreCaught key ws cs ps → (k : ℕ) (h : Handle) → Contains ps (k, h) → k < key.waiters
caught_low key ws [] ps o k h d = absurd (contains_none {X = ℕ × Handle} (k, h) (subst (λ (l : List (ℕ × Handle)). Contains l (k, h)) o d))
caught_low key ws (c ∷ cs) ps (ks, rest, e, linked, more) k h d = ⊎_elim (caught_low key ws cs rest more k h) (λ z. linked_all key ws (c.first ∷ ks) linked k (all_in c.handle (c.first ∷ ks) k h z))
    (Contains-append_cases {X = ℕ × Handle} rest (all_on c.handle (c.first ∷ ks)) (k, h) (subst (λ (l : List (ℕ × Handle)). Contains l (k, h)) e d))

-- each chain has a waiter
pub chains_few : (key : Shape) (ws : List ℕ) (cs : List Chain) (ps : List (ℕ × Handle)) → AreCaught key ws cs ps → length cs ≤ total (λ (p : ℕ × Handle). 1) ps
chains_few key ws [] ps o = omega arith
chains_few key ws (c ∷ cs) ps (ks, rest, e, linked, more) =
    let size = ap (total (λ (p : ℕ × Handle). 1)) e in
    let parts = total-append (λ (p : ℕ × Handle). 1) rest (all_on c.handle (c.first ∷ ks)) in
    omega (arith, chains_few key ws cs rest more)

-- the rest of a chain goes back
pub more_chains : (key : Shape) (ws : List ℕ) (cs : List Chain) (ps : List (ℕ × Handle)) (h : Handle) (c : List ℕ) → Linked key ws c → AreCaught key ws cs ps → AreCaught key ws (cond (nat_lt 0 (code c)) (cs ++ record { handle = h; first = code c - 1 } ∷ []) cs) (all_on h c ++ ps)
more_chains key ws cs ps h [] l o = o
more_chains key ws cs ps h (k ∷ ks) l o =
    let e : k ≡ k + 1 - 1 = omega arith in
    subst (λ b. AreCaught key ws (cond b (cs ++ record { handle = h; first = k + 1 - 1 } ∷ []) cs) (all_on h (k ∷ ks) ++ ps)) (sym (lt-ltb 0 (k + 1) (omega arith)))
    (subst (λ n. AreCaught key ws (cs ++ record { handle = h; first = n } ∷ []) (all_on h (k ∷ ks) ++ ps)) e (caught_more key ws cs ps h k ks l o))

-- THE FREE SLOTS
module _ (m : EventMap) (i : ℕ) (life : SlotLife) where
  pub may_there : (j : ℕ) → j ≢ i → MayServe m j → MayServe (with_life m i life) j
  may_there j n o = record {
    near = subst (λ l. j < l) (sym (length-set m.slots i life)) o.near;
    idle = ap (λ (s : SlotLife). s.is_pending) (life_there m i life j n) ∙ o.idle;
    left = subst (λ (s : SlotLife). length s.fates ≤ m.last_gen) (sym (life_there m i life j n)) o.left;
  }

  pub may_back : (j : ℕ) → j ≢ i → MayServe (with_life m i life) j → MayServe m j
  may_back j n o = record {
    near = subst (λ l. j < l) (length-set m.slots i life) o.near;
    idle = ap (λ (s : SlotLife). s.is_pending) (sym (life_there m i life j n)) ∙ o.idle;
    left = subst (λ (s : SlotLife). length s.fates ≤ m.last_gen) (life_there m i life j n) o.left;
  }

  pub may_here : MayServe (with_life m i life) i → i < length m.slots → (life.is_pending ≡ false) × (length life.fates ≤ m.last_gen)
  may_here o near = (ap (λ (s : SlotLife). s.is_pending) (sym (life_here m i life near)) ∙ o.idle, subst (λ (s : SlotLife). length s.fates ≤ m.last_gen) (life_here m i life near) o.left)

  pub may_now : i < length m.slots → life.is_pending ≡ false → length life.fates ≤ m.last_gen → MayServe (with_life m i life) i
  may_now near idle left = record {
    near = subst (λ l. i < l) (sym (length-set m.slots i life)) near;
    idle = ap (λ (s : SlotLife). s.is_pending) (life_here m i life near) ∙ idle;
    left = subst (λ (s : SlotLife). length s.fates ≤ m.last_gen) (sym (life_here m i life near)) left;
  }

  module _ (slots : ℕ) (free : List ℕ) (near : i < length m.slots) where
    -- the slot that was last among the free ones begins to serve
    pub free_less : AreFree slots m (free ++ i ∷ []) → life.is_pending ≡ true → AreFree slots (with_life m i life) free
    free_less o p =
        let out : Contains free i → ⊥ = λ c. let one = item_le (only i) free i c in let me = only-same i in omega (arith, o.apart (only i), total-append (only i) free (i ∷ []), below-once i slots) in
        record {
          served = λ j c. may_there j (λ e. out (subst (Contains free) e c)) (o.served j (Contains-append_left free (i ∷ []) j c));
          spare = λ j d. let n : j ≢ i = λ e. false≢true (sym (may_here (subst (MayServe (with_life m i life)) e d) near).0 ∙ p) in
              ⊎_elim (λ c. c) (λ c. absurd (n (sym (Contains-one i j c)))) (Contains-append_cases free (i ∷ []) j (o.spare j (may_back j n d)));
          apart = λ f. omega (arith, o.apart f, total-append f free (i ∷ []));
        }

    -- the slot was not free, and is not free
    pub free_same : AreFree slots m free → (MayServe m i → ⊥) → (life.is_pending ≡ false → length life.fates ≤ m.last_gen → ⊥) → AreFree slots (with_life m i life) free
    free_same o was is = record {
      served = λ j c. may_there j (λ e. was (subst (MayServe m) e (o.served j c))) (o.served j c);
      spare = λ j d. let n : j ≢ i = λ e. let t = may_here (subst (MayServe (with_life m i life)) e d) near in is t.0 t.1 in o.spare j (may_back j n d);
      apart = o.apart;
    }

    -- the slot was not free, and becomes so
    pub free_more : AreFree slots m free → i < slots → (MayServe m i → ⊥) → life.is_pending ≡ false → length life.fates ≤ m.last_gen → AreFree slots (with_life m i life) (free ++ i ∷ [])
    free_more o low was idle left =
        let out : Contains free i → ⊥ = λ c. was (o.served i c) in
        record {
          served = λ j c. ⊎_elim (λ d. may_there j (λ e. out (subst (Contains free) e d)) (o.served j d)) (λ d. subst (MayServe (with_life m i life)) (Contains-one i j d) (may_now near idle left)) (Contains-append_cases free (i ∷ []) j c);
          spare = λ j d. dite (ℕ_discrete j i) (λ e. subst (Contains (free ++ i ∷ [])) (sym e) (Contains-append_right free (i ∷ []) i (contains_here i []))) (λ n. Contains-append_left free (i ∷ []) j (o.spare j (may_back j n d)));
          apart = λ f. let all = one_more free slots i low out o.apart f in omega (arith, total-append f free (i ∷ []));
        }

    pub free_room : AreFree slots m free → i < slots → (MayServe m i → ⊥) → length free < slots
    free_room o low was = let all = one_more free slots i low (λ c. was (o.served i c)) o.apart (λ _. 1) in omega (arith, total-one free, below-one slots)

-- a free waiter may be weighed too
pub weight_more : (m : EventMap) (k n : ℕ) → k < n → IsFree m k → ((f : ℕ → ℕ) → weight f m ≤ below f n) → (f : ℕ → ℕ) → weight f m + f k ≤ below f n
weight_more m k n l o once f = omega (arith, once (but f k), lives_but f k m.slots o.unplaced, caught_but f k m.caught o.uncaught, below_but f k n l)
