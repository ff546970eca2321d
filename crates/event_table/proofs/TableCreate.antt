-- Creating at a free slot of a one-thread table.
use Rattle.std.proofs.Common.{◌≡◌, ℕ, ◌+◌, ◌*◌, ◌/◌, ◌<◌, ◌≤◌, true, false, cond, List, [], ◌∷◌, ◌++◌, length, get_or, set, sym, refl, ap, ◌∙◌, subst, arith, get_or-set_same, get_or-set_other, mul-le-mul_right}
use Rattle.std.proofs.lemmas.List.{length-set}
use Rattle.std.proofs.lemmas.List.Elements.{Contains-append_right}
use Rattle.basics.specs.Sums.{total}
use Rattle.event_table.specs.Words.{mark, code, Shows, handle_at}
use Rattle.event_table.specs.EventMap.{EventMap, SlotLife, unused, life_at, with_life, next_handle, created_at, no_event, MayServe}
use Rattle.event_table.specs.Kept.{turns_in, map_in, IsSlot, AreFree, AreKept, IsSized}
use Rattle.event_table.specs.declared.handle.Handle.{Handle}
use Rattle.event_table.specs.declared.handle.Shape.{Shape}
use Rattle.event_table.specs.declared.chain.Chain.{Chain}
use Rattle.basics.proofs.Sums.{total-put}
use Rattle.basics.proofs.ListFacts.{contains_here}
use Rattle.event_table.proofs.ChainSteps.{linked_low}
use Rattle.event_table.proofs.Marks.{marks_low}
use Rattle.event_table.proofs.Reading.{map_read, as_read}
use Rattle.event_table.proofs.MapAnswers.{at_slot}
use Rattle.event_table.proofs.TableSteps.{slot_same, caught_same, free_less}

-- the word of an idle slot that is not retired
pub idle_word : (key : Shape) (words : List ℕ) (i : ℕ) (life : SlotLife) → IsSlot key words i life → life.is_pending ≡ false → length life.fates ≤ key.last_gen → (get_or words i 0 ≡ length life.fates * 4294967296) × (life.waiting ≡ [])
idle_word key words i life o idle left =
    let t : turns_in life ≡ 2 * length life.fates + 0 = ap (λ b. 2 * length life.fates + cond b 1 0) idle in
    let w = o.word.free (omega arith) (omega arith) in
    (omega arith, o.word.bare (omega arith))

module _ (key : Shape) (words free : List ℕ) (cs : List Chain) (m : EventMap) (i x : ℕ) (o : AreKept key words (free ++ i ∷ []) cs m) (is : x ≡ get_or words i 0 + 1) where
  pub last_free : MayServe m i
  last_free = o.frees.served i (Contains-append_right free (i ∷ []) i (contains_here i []))

  pub last_near : i < key.slots
  last_near = omega (arith, last_free.near, o.shown.high)

  -- its word has the next generation
  pub last_word : (get_or words i 0 ≡ length (life_at m i).fates * 4294967296) × ((life_at m i).waiting ≡ [])
  last_word = idle_word key words i (life_at m i) (o.shown.each i last_near) last_free.idle (omega (arith, last_free.left, o.shown.last))

  serving : SlotLife
  serving = record { fates = (life_at m i).fates; is_pending = true; waiting = (life_at m i).waiting }

  shows : Shows key.last_gen (2 * length (life_at m i).fates + 1) (life_at m i).waiting x
  shows = let w = last_word in let n = ap code w.1 in let l = last_free.left in let g = o.shown.last in record {
    few = omega arith;
    free = λ e _. absurd (omega arith);
    pending = λ _. omega (arith, w.0);
    retired = λ e. absurd (omega arith);
    bare = λ e. absurd (omega arith);
  }

  links : (k : ℕ) → get_or (set words i x) (key.slots + k) 0 ≡ get_or words (key.slots + k) 0
  links k = get_or-set_other words i (key.slots + k) x 0 (λ e. let l = last_near in omega arith)

  marks : (h : Handle) → mark key (set words i x) h ≡ mark key words h
  marks h = marks_low key words i x h (let l = last_near in omega arith)

  inside : i < length words
  inside = let l = last_near in omega (arith, o.shown.wide)

  pub created_kept : AreKept key (set words i x) free cs (created_at m i)
  created_kept =
      let new : SlotLife = record { fates = (life_at m i).fates; is_pending = true; waiting = (life_at m i).waiting } in
      let some : AreFree key.slots (with_life m i new) free = free_less m i new key.slots free last_free.near o.frees refl in
      record {
        shown = record {
          waiters = o.shown.waiters;
          last = o.shown.last;
          wide = omega (arith, length-set words i x, o.shown.wide);
          high = length-set m.slots i new ∙ o.shown.high;
          each = at_slot m i new (λ j s. j < key.slots → IsSlot key (set words i x) j s) last_free.near
              (λ l. record {
                word = subst (Shows key.last_gen (2 * length (life_at m i).fates + 1) (life_at m i).waiting) (sym (get_or-set_same words i x 0 inside)) shows;
                linked = linked_low key words (life_at m i).waiting i x l (o.shown.each i l).linked;
                marks = λ g d. marks (handle_at i g) ∙ (o.shown.each i l).marks g d;
              })
              (λ j n l. slot_same key words (set words i x) j (life_at m j) (get_or-set_other words i j x 0 n) (λ k _. links k) (λ g _. marks (handle_at j g)) (o.shown.each j l));
          chains = caught_same key words (set words i x) cs m.caught (λ k _ _. links k) o.shown.chains;
          once = λ f. omega (arith, o.shown.once f, total-put (λ (l : SlotLife). total f l.waiting) m.slots i new unused last_free.near);
        };
        frees = some;
      }

-- a generation has at most 26 bits
pub gens_low : (key : Shape) (i : ℕ) → IsSized key → i < key.slots → key.last_gen < 536870912
gens_low key i sized near = let a : 1 * (key.last_gen + 1) ≤ key.slots * (key.last_gen + 1) = mul-le-mul_right (key.last_gen + 1) sized.0 in omega (arith, sized.3)

-- what `create` did at the slot i, where it found the word w
pub record Creates (key : Shape) (words free : List ℕ) (cs : List Chain) (m : EventMap) (i w : ℕ) : Type 0 where
  pub kept : AreKept key words free cs (map_in key words cs)
  pub map : map_in key words cs ≡ created_at m i
  pub handle : ◌≡◌ {A = Handle} (record { slot = i; gen_ = w / 4294967296 }) (next_handle m i)
  pub may : MayServe m i
  pub real : ◌≡◌ {A = Handle} (record { slot = i; gen_ = w / 4294967296 }) no_event → ⊥

module _ (key : Shape) (words all free : List ℕ) (cs : List Chain) (i w : ℕ) (sized : IsSized key) (o : AreKept key words all cs (map_in key words cs)) (popped : all ≡ free ++ i ∷ []) where
  before : AreKept key words (free ++ i ∷ []) cs (map_in key words cs)
  before = subst (λ l. AreKept key words l cs (map_in key words cs)) popped o

  pub create_near : i < key.slots
  create_near = last_near key words free cs (map_in key words cs) i (get_or words i 0 + 1) before refl

  pub create_low : w ≡ get_or words i 0 → w + 1 < 18446744073709551616
  create_low is = let t = last_word key words free cs (map_in key words cs) i (w + 1) before (ap (λ n. n + 1) is) in
      let l = gens_low key i sized create_near in
      let f = (last_free key words free cs (map_in key words cs) i (w + 1) before (ap (λ n. n + 1) is)).left in
      omega (arith, t.0)

  pub create_done : (m : EventMap) → map_in key words cs ≡ m → w ≡ get_or words i 0 → Creates key (set words i (w + 1)) free cs m i w
  create_done m view is =
      let now : w + 1 ≡ get_or words i 0 + 1 = ap (λ n. n + 1) is in
      let k = created_kept key words free cs (map_in key words cs) i (w + 1) before now in
      let f = last_free key words free cs (map_in key words cs) i (w + 1) before now in
      let t = last_word key words free cs (map_in key words cs) i (w + 1) before now in
      let low = create_near in
      let few = sized.1 in
      record {
        kept = as_read key (set words i (w + 1)) sized.2 free cs (created_at (map_in key words cs) i) k;
        map = map_read key (set words i (w + 1)) sized.2 cs (created_at (map_in key words cs) i) k.shown ∙ ap (λ n. created_at n i) view;
        handle = ap (λ (g : ℕ). record { slot = i; gen_ = g }) (let z : w / 4294967296 ≡ length (life_at (map_in key words cs) i).fates = omega (arith, t.0) in z) ∙ ap (λ n. next_handle n i) view;
        may = subst (λ n. MayServe n i) view f;
        real = λ e. let z = ap (λ (h : Handle). h.slot) e in omega arith;
      }
