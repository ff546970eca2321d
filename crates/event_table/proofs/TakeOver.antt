-- The words of a closed table, without its waiters, become those of a table of one thread.
use Rattle.std.proofs.Common.{◌≡◌, ℕ, zero, suc, ◌+◌, ◌*◌, ◌%◌, ◌<◌, ◌≤◌, false, List, [], ◌∷◌, length, map, get_or, sym, refl, ap, ◌∙◌, subst, arith}
use Rattle.std.specs.Prelude.{Contains}
use Rattle.std.proofs.lemmas.List.{length-replicate}
use mathlib.Core.Logic.{dite}
use native.Mathlib.Decide.{dec_le}
use Rattle.basics.specs.Sums.{total, below}
use Rattle.event_table.specs.Words.{turns_of, Shows}
use Rattle.event_table.specs.EventMap.{EventMap, SlotLife, unused, life_at, answer, answer_in, without_waiters, all_free, up_to_gen, fresh, IsFree, KeepsCreated, MayServe}
use Rattle.event_table.specs.Kept.{turns_in, life_in, map_in, IsSlot, AreShown, AreKept, IsSized, IsTakenOver}
use Rattle.event_table.specs.declared.handle.Handle.{Handle}
use Rattle.event_table.specs.declared.handle.Shape.{Shape}
use Rattle.event_table.specs.declared.chain.Chain.{Chain}
use Rattle.basics.proofs.ListFacts.{contains_none}
use Rattle.basics.proofs.Choices.{by_test}
use Rattle.event_table.proofs.MapAnswers.{keeps_answers}
use Rattle.event_table.proofs.Reading.{read_length, turns_at, map_read, as_read}
use Rattle.event_table.proofs.TableCreate.{idle_word}
use Rattle.event_table.proofs.TablePlace.{pending_word}
use Rattle.event_table.proofs.TableLook.{idle_turns, turns_high, chain_short}

length-map' : (f : SlotLife → SlotLife) (ls : List SlotLife) → length (map f ls) ≡ length ls
length-map' f [] = refl
length-map' f (l ∷ ls) = ap suc (length-map' f ls)

lives_freed : (ls : List SlotLife) (i : ℕ) → get_or (map without_waiters ls) i unused ≡ without_waiters (get_or ls i unused)
lives_freed [] i = refl
lives_freed (l ∷ ls) zero = refl
lives_freed (l ∷ ls) (suc i) = lives_freed ls i

weightless : (f : ℕ → ℕ) (ls : List SlotLife) → total (λ (l : SlotLife). total f l.waiting) (map without_waiters ls) ≡ 0
weightless f [] = refl
weightless f (l ∷ ls) = omega (arith, weightless f ls)

module _ (from to : Shape) (old words : List ℕ) (m : EventMap) (small : from.waiters ≤ 65536) (o : AreShown from old [] m) where
  slot_turns : (i : ℕ) → i < from.slots → turns_of (get_or old i 0) ≡ turns_in (life_at m i)
  slot_turns i near = turns_at from old small i (life_at m i) (o.each i near) (chain_short from old [] m o i)

  pub turns_bounded : (i : ℕ) → i < from.slots → turns_of (get_or old i 0) ≤ 2 * from.last_gen + 2
  turns_bounded i near = let few = (o.each i near).word.few in omega (arith, slot_turns i near)

module _ (from to : Shape) (old words : List ℕ) (m : EventMap) (small : from.waiters ≤ 65536) (o : AreShown from old [] m) (slots : to.slots ≡ from.slots) (waiters : to.waiters ≡ from.waiters)
    (wide : to.slots + to.waiters ≤ length words) (taken : (i : ℕ) → i < to.slots → IsTakenOver to from words old i) where
  slot_freed : (i : ℕ) → i < to.slots → IsSlot to words i (without_waiters (life_at m i))
  slot_freed i near =
      let near' : i < from.slots = omega arith in
      let t = slot_turns from to old words m small o i near' in
      record {
        word = subst (λ n. Shows to.last_gen n [] (get_or words i 0)) t (taken i near).word;
        linked = tt;
        marks = λ g l. (taken i near).marks g (let h = turns_high (life_at m i) in omega arith) ∙ (o.each i near').marks g l;
      }

  pub freed_shown : AreShown to words [] (up_to_gen to.last_gen (all_free m))
  freed_shown = record {
    waiters = o.waiters ∙ sym waiters;
    last = refl;
    wide = wide;
    high = length-map' without_waiters m.slots ∙ (o.high ∙ sym slots);
    each = λ i l. subst (IsSlot to words i) (sym (lives_freed m.slots i)) (slot_freed i l);
    chains = refl;
    once = λ f. omega (arith, weightless f m.slots);
  }

  -- a slot may serve where its word's low half is 0
  may_serve : (i : ℕ) → i < to.slots → get_or words i 0 % 4294967296 ≡ 0 → MayServe (up_to_gen to.last_gen (all_free m)) i
  may_serve i near zero-low =
      let s = slot_freed i near in
      let life : SlotLife = life_at m i in
      let idle : life.is_pending ≡ false = by_test life.is_pending (λ p. absurd (let w = pending_word to words i (without_waiters life) s p in omega (arith, w.0))) (λ p. p) in
      let t = idle_turns life idle in
      let few = s.word.few in
      let left : length life.fates ≤ to.last_gen = dite (dec_le (length life.fates) to.last_gen) (λ l. l) (λ n. absurd (let w = s.word.retired (omega arith) in omega arith)) in
      record {
        near = omega (arith, length-map' without_waiters m.slots, o.high);
        idle = ap (λ (l : SlotLife). l.is_pending) (lives_freed m.slots i) ∙ idle;
        left = subst (λ (l : SlotLife). length l.fates ≤ to.last_gen) (sym (lives_freed m.slots i)) left;
      }

  low_zero : (i : ℕ) → MayServe (up_to_gen to.last_gen (all_free m)) i → get_or words i 0 % 4294967296 ≡ 0
  low_zero i may =
      let near : i < to.slots = omega (arith, may.near, length-map' without_waiters m.slots, o.high) in
      let idle : (life_at m i).is_pending ≡ false = ap (λ (l : SlotLife). l.is_pending) (sym (lives_freed m.slots i)) ∙ may.idle in
      let left : length (life_at m i).fates ≤ to.last_gen = subst (λ (l : SlotLife). length l.fates ≤ to.last_gen) (lives_freed m.slots i) may.left in
      let w = idle_word to words i (without_waiters (life_at m i)) (slot_freed i near) idle left in
      omega (arith, w.0)

  pub freed_kept : (free : List ℕ) → ((i : ℕ) → Contains free i → (i < to.slots) × (get_or words i 0 % 4294967296 ≡ 0)) → ((i : ℕ) → i < to.slots → get_or words i 0 % 4294967296 ≡ 0 → Contains free i) → ((f : ℕ → ℕ) → total f free ≤ below f to.slots) → AreKept to words free [] (up_to_gen to.last_gen (all_free m))
  freed_kept free low all apart = record {
    shown = freed_shown;
    frees = record {
      served = λ i c. let t = low i c in may_serve i t.0 t.1;
      spare = λ i s. all i (omega (arith, s.near, length-map' without_waiters m.slots, o.high)) (low_zero i s);
      apart = apart;
    };
  }

-- the sizes of a table in which nothing was created
pub fresh_sizes : (key : Shape) (words : List ℕ) (cs : List Chain) (slots waiters last : ℕ) → map_in key words cs ≡ fresh slots waiters last → (key.slots ≡ slots) × (key.waiters ≡ waiters) × (key.last_gen ≡ last)
fresh_sizes key words cs slots waiters last e =
    (sym (read_length (life_in key words) 0 key.slots) ∙ ap (λ (m : EventMap). length m.slots) e ∙ length-replicate slots unused, ap (λ (m : EventMap). m.waiters) e, ap (λ (m : EventMap). m.last_gen) e)

-- what taking the words over did
pub record TakesOver (key : Shape) (words free : List ℕ) (cs : List Chain) (m : EventMap) : Type 0 where
  pub kept : AreKept key words free cs (map_in key words cs)
  pub map : map_in key words cs ≡ up_to_gen key.last_gen (all_free m)

pub takes_over : (from to : Shape) (old words shown free : List ℕ) (cs : List Chain) → IsSized from → (to.slots ≡ from.slots) × (to.waiters ≡ from.waiters) → AreShown from old [] (map_in from old []) → to.slots + to.waiters ≤ length words
    → ((i : ℕ) → i < to.slots → IsTakenOver to from words old i) → shown ≡ words → cs ≡ []
    → ((i : ℕ) → Contains free i → (i < from.slots) × (get_or shown i 0 % 4294967296 ≡ 0)) → ((i : ℕ) → i < from.slots → get_or shown i 0 % 4294967296 ≡ 0 → Contains free i) → ((f : ℕ → ℕ) → total f free ≤ below f from.slots)
    → TakesOver to words free cs (map_in from old [])
takes_over from to old words shown free cs sized same-size o wide taken same none low all apart =
    let m : EventMap = map_in from old [] in
    let small : from.waiters ≤ 65536 = sized.2 in
    let slots = same-size.0 in
    let at : (i : ℕ) → get_or shown i 0 ≡ get_or words i 0 = λ i. ap (λ l. get_or l i 0) same in
    let kept = freed_kept from to old words m small o slots same-size.1 wide taken free (λ i c. let t = low i c in (omega (arith, t.0), ap (λ w. w % 4294967296) (sym (at i)) ∙ t.1)) (λ i l z. all i (omega arith) (ap (λ w. w % 4294967296) (at i) ∙ z)) (λ f. subst (λ n. total f free ≤ below f n) (sym slots) (apart f)) in
    subst (λ (l : List Chain). TakesOver to words free l m) (sym none)
    (record { kept = as_read to words (omega (arith, same-size.1)) free [] (up_to_gen to.last_gen (all_free m)) kept; map = map_read to words (omega (arith, same-size.1)) [] (up_to_gen to.last_gen (all_free m)) kept.shown })

-- what the table then tells
pub record FreedTells (m n : EventMap) : Type 0 where
  pub answers : (h : Handle) → answer n h ≡ answer m h
  pub keeps : KeepsCreated m n
  pub free : (k : ℕ) → k < m.waiters → IsFree n k

pub freed_tells : (m n : EventMap) (last : ℕ) → n ≡ up_to_gen last (all_free m) → FreedTells m n
freed_tells m n last e =
    let same : (h : Handle) → answer (up_to_gen last (all_free m)) h ≡ answer m h = λ h. ap (λ l. answer_in l h.gen_) (lives_freed m.slots h.slot) in
    subst (FreedTells m) (sym e) (record {
      answers = same;
      keeps = keeps_answers m (up_to_gen last (all_free m)) same;
      free = λ k l. record {
        number = l;
        unplaced = λ i c. contains_none k (subst (λ (s : SlotLife). Contains s.waiting k) (lives_freed m.slots i) c);
        uncaught = λ h c. contains_none {X = ℕ × Handle} (k, h) c;
      };
    })
