-- Placing a waiter on a pending handle of a one-thread table.
use Rattle.std.proofs.Common.{◌≡◌, ◌≢◌, ℕ, ◌+◌, ◌-◌, ◌*◌, ◌%◌, ◌<◌, ◌≤◌, true, cond, List, ◌∷◌, length, get_or, set, sym, ap, ◌∙◌, subst, arith, get_or-set_same, get_or-set_other, Some}
use Rattle.std.specs.Prelude.{Contains}
use Rattle.std.proofs.lemmas.Bool.{false≢true}
use Rattle.std.proofs.lemmas.List.{length-set}
use Rattle.basics.specs.Sums.{total}
use Rattle.event_table.specs.Words.{mark, code, Shows, handle_at}
use Rattle.event_table.specs.EventMap.{EventMap, SlotLife, unused, life_at, with_life, answer, placed_on, IsFree, MayServe}
use Rattle.event_table.specs.Kept.{turns_in, map_in, IsSlot, AreFree, AreKept, IsSized}
use Rattle.event_table.specs.declared.handle.Handle.{Handle}
use Rattle.event_table.specs.declared.handle.Answer.TheVariants.{Pending}
use Rattle.event_table.specs.declared.handle.Shape.{Shape}
use Rattle.event_table.specs.declared.chain.Chain.{Chain}
use Rattle.basics.proofs.Sums.{total-put}
use Rattle.event_table.proofs.Words.{code_le}
use Rattle.event_table.proofs.Marks.{marks_low}
use Rattle.event_table.proofs.Reading.{map_read, as_read}
use Rattle.event_table.proofs.TableCreate.{gens_low}
use Rattle.event_table.proofs.MapAnswers.{at_slot, is_now}
use Rattle.event_table.specs.Maps.{IsNow}
use Rattle.event_table.proofs.TableSteps.{weight_more, linked_same, slot_same, caught_same, free_same}

-- the word of a pending slot
pub pending_word : (key : Shape) (words : List ℕ) (i : ℕ) (life : SlotLife) → IsSlot key words i life → life.is_pending ≡ true → (get_or words i 0 ≡ length life.fates * 4294967296 + 1 + code life.waiting) × (code life.waiting ≤ key.waiters) × (length life.fates ≤ key.last_gen)
pending_word key words i life o p =
    let t : turns_in life ≡ 2 * length life.fates + 1 = ap (λ b. 2 * length life.fates + cond b 1 0) p in
    let w = o.word.pending (omega arith) in
    let f = o.word.few in
    (omega arith, code_le key words life.waiting o.linked, omega arith)

module _ (key : Shape) (words free : List ℕ) (cs : List Chain) (m : EventMap) (h : Handle) (k x y : ℕ) (o : AreKept key words free cs m) (now : IsNow m h) (idle : IsFree m k)
    (link : y ≡ code (life_at m h.slot).waiting) (word : x ≡ length (life_at m h.slot).fates * 4294967296 + (k + 2)) where
  near : h.slot < key.slots
  near = omega (arith, now.near, o.shown.high)

  low : k < key.waiters
  low = omega (arith, idle.number, o.shown.waiters)

  links : (j : ℕ) → j ≢ k → get_or (set (set words (key.slots + k) y) h.slot x) (key.slots + j) 0 ≡ get_or words (key.slots + j) 0
  links j n = let l = near in get_or-set_other (set words (key.slots + k) y) h.slot (key.slots + j) x 0 (λ e. omega arith) ∙ get_or-set_other words (key.slots + k) (key.slots + j) y 0 (λ e. n (omega arith))

  link_here : get_or (set (set words (key.slots + k) y) h.slot x) (key.slots + k) 0 ≡ y
  link_here = let l = near in let w = low in get_or-set_other (set words (key.slots + k) y) h.slot (key.slots + k) x 0 (λ e. omega arith) ∙ get_or-set_same words (key.slots + k) y 0 (omega (arith, o.shown.wide))

  here : get_or (set (set words (key.slots + k) y) h.slot x) h.slot 0 ≡ x
  here = let l = near in get_or-set_same (set words (key.slots + k) y) h.slot x 0 (omega (arith, o.shown.wide, length-set words (key.slots + k) y))

  there : (j : ℕ) → j < key.slots → j ≢ h.slot → get_or (set (set words (key.slots + k) y) h.slot x) j 0 ≡ get_or words j 0
  there j l n = get_or-set_other (set words (key.slots + k) y) h.slot j x 0 n ∙ get_or-set_other words (key.slots + k) j y 0 (λ e. omega arith)

  marks : (z : Handle) → mark key (set (set words (key.slots + k) y) h.slot x) z ≡ mark key words z
  marks z = let l = near in let w = low in marks_low key (set words (key.slots + k) y) h.slot x z (omega arith) ∙ marks_low key words (key.slots + k) y z (omega arith)

  shows : Shows key.last_gen (turns_in (life_at m h.slot)) (k ∷ (life_at m h.slot).waiting) x
  shows =
      let old = (o.shown.each h.slot near).word in
      let t : turns_in (life_at m h.slot) ≡ 2 * length (life_at m h.slot).fates + 1 = ap (λ b. 2 * length (life_at m h.slot).fates + cond b 1 0) now.pending in
      record {
        few = old.few;
        free = λ e _. absurd (omega arith);
        pending = λ _. omega (arith, word);
        retired = λ e. absurd (omega arith);
        bare = λ e. absurd (omega arith);
      }

  pub placed_kept : AreKept key (set (set words (key.slots + k) y) h.slot x) free cs (placed_on m h k)
  placed_kept =
      let i : ℕ = h.slot in
      let old : SlotLife = life_at m h.slot in
      let new : SlotLife = record { fates = (life_at m h.slot).fates; is_pending = (life_at m h.slot).is_pending; waiting = k ∷ (life_at m h.slot).waiting } in
      let ws : List ℕ = set (set words (key.slots + k) y) h.slot x in
      let out : (j : ℕ) → (r : ℕ) → Contains (life_at m j).waiting r → r ≢ k = λ j r c e. idle.unplaced j (subst (Contains (life_at m j).waiting) e c) in
      let was : MayServe m h.slot → ⊥ = λ s. false≢true (sym s.idle ∙ now.pending) in
      let some : AreFree key.slots (with_life m h.slot new) free = free_same m h.slot new key.slots free now.near o.frees was (λ e _. false≢true (sym e ∙ now.pending)) in
      record {
        shown = record {
          waiters = o.shown.waiters;
          last = o.shown.last;
          wide = omega (arith, length-set (set words (key.slots + k) y) h.slot x, length-set words (key.slots + k) y, o.shown.wide);
          high = length-set m.slots h.slot new ∙ o.shown.high;
          each = at_slot m h.slot new (λ j s. j < key.slots → IsSlot key ws j s) now.near
              (λ l. record {
                word = subst (Shows key.last_gen (turns_in old) (k ∷ old.waiting)) (sym here) shows;
                linked = (low, link_here ∙ link, linked_same key words ws old.waiting (λ r c. links r (out i r c)) (o.shown.each i l).linked);
                marks = λ g d. marks (handle_at i g) ∙ (o.shown.each i l).marks g d;
              })
              (λ j n l. slot_same key words ws j (life_at m j) (there j l n) (λ r c. links r (out j r c)) (λ g _. marks (handle_at j g)) (o.shown.each j l));
          chains = caught_same key words ws cs m.caught (λ r z c. links r (λ e. idle.uncaught z (subst (λ (a : ℕ). Contains {X = ℕ × Handle} m.caught (a, z)) e c))) o.shown.chains;
          once = λ f. omega (arith, weight_more m k key.waiters low idle o.shown.once f, total-put (λ (l : SlotLife). total f l.waiting) m.slots h.slot new unused now.near);
        };
        frees = some;
      }

-- what placing the waiter k did
pub record Places (key : Shape) (words free : List ℕ) (cs : List Chain) (m : EventMap) (h : Handle) (k : ℕ) : Type 0 where
  pub kept : AreKept key words free cs (map_in key words cs)
  pub map : map_in key words cs ≡ placed_on m h k

-- a pending handle is of a slot of the table, and its word is among the words
pub now_inside : (key : Shape) (words free : List ℕ) (cs : List Chain) (h : Handle) (m : EventMap) → AreKept key words free cs (map_in key words cs) → map_in key words cs ≡ m → answer m h ≡ Some Pending → (h.slot < key.slots) × (h.slot < length words)
now_inside key words free cs h m o view is =
    let now : IsNow (map_in key words cs) h = subst (λ n. IsNow n h) (sym view) (is_now m h is) in
    let n = now.near in
    (omega (arith, o.shown.high), omega (arith, o.shown.high, o.shown.wide))

module _ (key : Shape) (words free : List ℕ) (cs : List Chain) (h : Handle) (k w : ℕ) (sized : IsSized key) (o : AreKept key words free cs (map_in key words cs)) (m : EventMap) (view : map_in key words cs ≡ m) (is : answer m h ≡ Some Pending) (idle : IsFree m k) (word : w ≡ get_or words h.slot 0) where
  now : IsNow (map_in key words cs) h
  now = subst (λ n. IsNow n h) (sym view) (is_now m h is)

  -- where it is, and what its word is
  pub record PlaceAt : Type 0 where
    pub near : h.slot < key.slots
    pub low : k < key.waiters
    pub head : w % 4294967296 ≡ 1 + code (life_at (map_in key words cs) h.slot).waiting
    pub small : code (life_at (map_in key words cs) h.slot).waiting ≤ 65536
    pub base : w ≡ length (life_at (map_in key words cs) h.slot).fates * 4294967296 + 1 + code (life_at (map_in key words cs) h.slot).waiting
    pub few : length (life_at (map_in key words cs) h.slot).fates < 536870912

  pub place_at : PlaceAt
  place_at =
      let n = now.near in
      let l : h.slot < key.slots = omega (arith, o.shown.high) in
      let t = pending_word key words h.slot (life_at (map_in key words cs) h.slot) (o.shown.each h.slot l) now.pending in
      let g = gens_low key h.slot sized l in
      let c = sized.2 in
      let top = t.1 in
      let last = t.2 in
      record {
        near = l;
        low = let x = idle.number in omega (arith, ap (λ (n : EventMap). n.waiters) view);
        head = omega (arith, t.0);
        small = omega arith;
        base = omega (arith, t.0);
        few = omega arith;
      }

  pub place_done : Places key (set (set words (key.slots + k) (w % 4294967296 - 1)) h.slot (w - w % 4294967296 + (k + 2))) free cs m h k
  place_done =
      let p = place_at in
      let link : w % 4294967296 - 1 ≡ code (life_at (map_in key words cs) h.slot).waiting = omega (arith, p.head) in
      let head : w - w % 4294967296 + (k + 2) ≡ length (life_at (map_in key words cs) h.slot).fates * 4294967296 + (k + 2) = omega (arith, p.head, p.base) in
      let kept = placed_kept key words free cs (map_in key words cs) h k (w - w % 4294967296 + (k + 2)) (w % 4294967296 - 1) o now (subst (λ n. IsFree n k) (sym view) idle) link head in
      record {
        kept = as_read key (set (set words (key.slots + k) (w % 4294967296 - 1)) h.slot (w - w % 4294967296 + (k + 2))) sized.2 free cs (placed_on (map_in key words cs) h k) kept;
        map = map_read key (set (set words (key.slots + k) (w % 4294967296 - 1)) h.slot (w - w % 4294967296 + (k + 2))) sized.2 cs (placed_on (map_in key words cs) h k) kept.shown ∙ ap (λ n. placed_on n h k) view;
      }
