-- What the words of a one-thread table answer.
use Rattle.std.proofs.Common.{◌≡◌, ◌≢◌, ℕ, zero, suc, ◌+◌, ◌*◌, ◌%◌, ◌<◌, ◌≤◌, true, false, cond, List, [], length, get_or, sym, refl, ap, ◌∙◌, subst, ⊎_elim, arith, Some}
use Rattle.std.specs.Prelude.{Contains, replicate}
use Rattle.std.proofs.lemmas.List.{get_or_past, length-replicate}
use mathlib.Core.Logic.{dite}
use native.Mathlib.Decide.{dec_le}
use Rattle.basics.specs.Sums.{total, below, only}
use Rattle.event_table.specs.Words.{turns_of, mark, fate_code, fate_by}
use Rattle.event_table.specs.EventMap.{EventMap, SlotLife, unused, life_at, answer_in, answer, answer_of, fresh, no_event, weight, IsCreated, IsEventMap}
use Rattle.event_table.specs.Kept.{turns_in, map_in, IsSlot, AreShown, AreKept}
use Rattle.event_table.specs.declared.handle.Handle.{Handle}
use Rattle.event_table.specs.declared.handle.Fate.{Fate}
use Rattle.event_table.specs.declared.handle.Fate.TheVariants.{Ok}
use Rattle.event_table.specs.declared.handle.Answer.{Answer}
use Rattle.event_table.specs.declared.handle.Answer.TheVariants.{Pending}
use Rattle.event_table.specs.declared.handle.Shape.{Shape}
use Rattle.event_table.specs.declared.chain.Chain.{Chain}
use Rattle.basics.proofs.Sums.{below-once, below-only, below-one, total-one, entry_le}
use Rattle.basics.proofs.ListFacts.{contains_none}
use Rattle.basics.proofs.Choices.{by_test}
use Rattle.event_table.proofs.Marks.{code_answer, one_code}
use Rattle.event_table.proofs.Reading.{turns_at, map_read, as_read}
use Rattle.event_table.proofs.MapAnswers.{in_ended, in_pending, in_cases, near_some}

-- the turns of a slot, by its life
pub idle_turns : (life : SlotLife) → life.is_pending ≡ false → turns_in life ≡ 2 * length life.fates
idle_turns life p = ap (λ b. 2 * length life.fates + cond b 1 0) p ∙ (let z : 2 * length life.fates + 0 ≡ 2 * length life.fates = omega arith in z)

pub open_turns : (life : SlotLife) → life.is_pending ≡ true → turns_in life ≡ 2 * length life.fates + 1
open_turns life p = ap (λ b. 2 * length life.fates + cond b 1 0) p

pub turns_high : (life : SlotLife) → 2 * length life.fates ≤ turns_in life
turns_high life = by_test life.is_pending (λ p. let e = open_turns life p in omega arith) (λ p. let e = idle_turns life p in omega arith)

-- a chain has no more waiters than there are
pub chain_short : (key : Shape) (words : List ℕ) (cs : List Chain) (m : EventMap) → AreShown key words cs m → (i : ℕ) → length (life_at m i).waiting ≤ key.waiters
chain_short key words cs m o i = dite (dec_le (length m.slots) i)
    (λ l. subst (λ (s : SlotLife). length s.waiting ≤ key.waiters) (sym (get_or_past m.slots i unused l)) (omega arith))
    (λ n. let all = o.once (λ _. 1) in let w = entry_le (λ (s : SlotLife). total (λ _. 1) s.waiting) m.slots i unused (omega arith) in omega (arith, total-one (life_at m i).waiting, below-one key.waiters))

module _ (life : SlotLife) (g : ℕ) (a : Answer) (e : answer_in life g ≡ Some a) where
  -- few turns: it is pending
  pub few_turns : turns_in life < 2 * g + 2 → a ≡ Pending
  few_turns l = ⊎_elim (λ t. let z = turns_high life in absurd (omega (arith, t.0))) (λ t. t.2) (in_cases life g a e)

  -- many: it has ended
  pub many_turns : 2 * g + 2 ≤ turns_in life → (g < length life.fates) × (a ≡ answer_of (get_or life.fates g Ok))
  many_turns l = ⊎_elim (λ t. t) (λ t. let z = open_turns life t.0 in absurd (omega (arith, t.1))) (in_cases life g a e)

module _ (key : Shape) (words : List ℕ) (cs : List Chain) (m : EventMap) (small : key.waiters ≤ 65536) (o : AreShown key words cs m) (h : Handle) (a : Answer) (e : answer m h ≡ Some a) where
  pub look_near : h.slot < key.slots
  look_near = let n = near_some m h a e in omega (arith, o.high)

  short : length (life_at m h.slot).waiting ≤ key.waiters
  short = chain_short key words cs m o h.slot

  pub look_turns : turns_of (get_or words h.slot 0) ≡ turns_in (life_at m h.slot)
  look_turns = turns_at key words small h.slot (life_at m h.slot) (o.each h.slot look_near) short

  pub look_low : h.gen_ ≤ key.last_gen
  look_low = let few = (o.each h.slot look_near).word.few in ⊎_elim (λ t. omega (arith, t.0)) (λ t. let z = open_turns (life_at m h.slot) t.0 in omega (arith, t.1)) (in_cases (life_at m h.slot) h.gen_ a e)

  pub look_pending : turns_of (get_or words h.slot 0) < 2 * h.gen_ + 2 → answer m h ≡ Some Pending
  look_pending l = e ∙ ap (λ x. Some x) (few_turns (life_at m h.slot) h.gen_ a e (let t = look_turns in omega arith))

  pub look_ended : 2 * h.gen_ + 2 ≤ turns_of (get_or words h.slot 0) → answer m h ≡ Some (answer_of (fate_by (mark key words h)))
  look_ended l =
      let t = many_turns (life_at m h.slot) h.gen_ a e (let t = look_turns in omega arith) in
      e ∙ ap (λ x. Some x) (t.1 ∙ ap answer_of (sym (code_answer (mark key words h) (get_or (life_at m h.slot).fates h.gen_ Ok) ((o.each h.slot look_near).marks h.gen_ t.0))))

-- WHAT HOLDS OF EACH TABLE
module _ (key : Shape) (words : List ℕ) (cs : List Chain) (m : EventMap) (small : key.waiters ≤ 65536) (o : AreShown key words cs m) where
  all_weights : (f : ℕ → ℕ) → weight f m ≤ below f m.waiters
  all_weights f = subst (λ w. weight f m ≤ below f w) (sym o.waiters) (o.once f)

  pub is_map : IsEventMap m
  is_map = record {
    bounded = λ h a e. (near_some m h a e, let l = look_low key words cs m small o h a e in omega (arith, o.last));
    whole = λ h a g e l. let life : SlotLife = life_at m h.slot in
        let below-it : g < length life.fates = ⊎_elim (λ t. omega (arith, t.0)) (λ t. omega (arith, t.1)) (in_cases life h.gen_ a e) in
        (get_or life.fates g Ok, in_ended life g below-it);
    waiter = λ k l. dite (dec_le m.waiters k) (λ n. let all = all_weights (only k) in let none = (below-only k m.waiters).1 n in absurd (omega arith)) (λ n. omega arith);
    once = λ k. let all = all_weights (only k) in let one = below-once k m.waiters in omega arith;
    pending = λ i k c. let life : SlotLife = life_at m i in by_test life.is_pending
        (λ p. in_pending life (length life.fates) p refl)
        (λ p. absurd (dite (dec_le (length m.slots) i)
        (λ l. contains_none k (subst (λ (s : SlotLife). Contains s.waiting k) (get_or_past m.slots i unused l) c))
        (λ n. let t = idle_turns life p in contains_none k (subst (λ l. Contains l k) ((o.each i (omega (arith, o.high))).word.bare (omega arith)) c))));
  }

-- A TABLE IN WHICH NOTHING WAS CREATED
unused_at : (n i : ℕ) → get_or (replicate {A = SlotLife} n unused) i unused ≡ unused
unused_at zero i = refl
unused_at (suc n) zero = refl
unused_at (suc n) (suc i) = unused_at n i

unweighed : (f : ℕ → ℕ) (n : ℕ) → total (λ (l : SlotLife). total f l.waiting) (replicate {A = SlotLife} n unused) ≡ 0
unweighed f zero = refl
unweighed f (suc n) = omega (arith, unweighed f n)

pub fresh_kept : (key : Shape) (words free : List ℕ) → ((i : ℕ) → get_or words i 0 ≡ 0) → key.slots + key.waiters ≤ length words
    → ((i : ℕ) → Contains free i → i < key.slots) → ((i : ℕ) → i < key.slots → Contains free i) → ((f : ℕ → ℕ) → total f free ≤ below f key.slots)
    → AreKept key words free [] (fresh key.slots key.waiters key.last_gen)
fresh_kept key words free word wide low all apart =
    let size : length (replicate {A = SlotLife} key.slots unused) ≡ key.slots = length-replicate key.slots unused in
    record {
      shown = record {
        waiters = refl;
        last = refl;
        wide = wide;
        high = size;
        each = λ i l. subst (IsSlot key words i) (sym (unused_at key.slots i)) (record {
          word = let w = word i in record { few = omega arith; free = λ _ _. omega arith; pending = λ z. absurd (omega arith); retired = λ z. absurd (omega arith); bare = λ _. refl };
          linked = tt;
          marks = λ g d. absurd (omega arith);
        });
        chains = refl;
        once = λ f. omega (arith, unweighed f key.slots);
      };
      frees = record {
        served = λ i c. record { near = omega (arith, low i c); idle = ap (λ (s : SlotLife). s.is_pending) (unused_at key.slots i); left = subst (λ (s : SlotLife). length s.fates ≤ key.last_gen) (sym (unused_at key.slots i)) (omega arith) };
        spare = λ i s. all i (omega (arith, s.near));
        apart = apart;
      };
    }

-- what was created has an answer
pub has_answer : (m : EventMap) (h : Handle) → IsCreated m h → h ≢ no_event → (a : Answer) × (answer m h ≡ Some a)
has_answer m h o n = ⊎_elim (λ e. absurd (n e)) (λ t. t) o.created

-- what the words of a table tell of a handle that was created
pub record Looks (key : Shape) (words : List ℕ) (m : EventMap) (h : Handle) : Type 0 where
  pub near : h.slot < key.slots
  pub low : h.gen_ ≤ key.last_gen
  pub pending : turns_of (get_or words h.slot 0) < 2 * h.gen_ + 2 → answer m h ≡ Some Pending
  pub ended : 2 * h.gen_ + 2 ≤ turns_of (get_or words h.slot 0) → answer m h ≡ Some (answer_of (fate_by (mark key words h)))

pub looks : (key : Shape) (words : List ℕ) (cs : List Chain) (m : EventMap) (h : Handle) → key.waiters ≤ 65536 → AreShown key words cs (map_in key words cs) → map_in key words cs ≡ m → IsCreated m h → h ≢ no_event → Looks key words m h
looks key words cs m h small o view is n =
    let t = has_answer m h is n in
    let e : answer (map_in key words cs) h ≡ Some t.0 = ap (λ x. answer x h) view ∙ t.1 in
    subst (λ x. Looks key words x h) view (record {
      near = look_near key words cs (map_in key words cs) small o h t.0 e;
      low = look_low key words cs (map_in key words cs) small o h t.0 e;
      pending = look_pending key words cs (map_in key words cs) small o h t.0 e;
      ended = look_ended key words cs (map_in key words cs) small o h t.0 e;
    })

pub record Opens (key : Shape) (words free : List ℕ) (cs : List Chain) : Type 0 where
  pub kept : AreKept key words free cs (map_in key words cs)
  pub map : map_in key words cs ≡ fresh key.slots key.waiters key.last_gen

pub opens : (key : Shape) (words shown free : List ℕ) (cs : List Chain) → key.waiters ≤ 65536 → ((i : ℕ) → get_or words i 0 ≡ 0) → key.slots + key.waiters ≤ length words → shown ≡ words → cs ≡ []
    → ((i : ℕ) → Contains free i → (i < key.slots) × (get_or shown i 0 % 4294967296 ≡ 0)) → ((i : ℕ) → i < key.slots → get_or shown i 0 % 4294967296 ≡ 0 → Contains free i) → ((f : ℕ → ℕ) → total f free ≤ below f key.slots)
    → Opens key words free cs
opens key words shown free cs small word wide same none low all apart =
    let zero : (i : ℕ) → get_or shown i 0 % 4294967296 ≡ 0 = λ i. ap (λ l. get_or l i 0 % 4294967296) same ∙ ap (λ n. n % 4294967296) (word i) in
    let kept = fresh_kept key words free word wide (λ i c. (low i c).0) (λ i l. all i l (zero i)) apart in
    subst (Opens key words free) (sym none) (record { kept = as_read key words small free [] (fresh key.slots key.waiters key.last_gen) kept; map = map_read key words small [] (fresh key.slots key.waiters key.last_gen) kept.shown })

-- WHAT THE WORDS ANSWER FOR A HANDLE
module _ (key : Shape) (words : List ℕ) (cs : List Chain) (m : EventMap) (small : key.waiters ≤ 65536) (o : AreShown key words cs m) (h : Handle) where
  module _ (near : h.slot < key.slots) where
    shown_turns : turns_of (get_or words h.slot 0) ≡ turns_in (life_at m h.slot)
    shown_turns = turns_at key words small h.slot (life_at m h.slot) (o.each h.slot near) (chain_short key words cs m o h.slot)

    pub shown_pending : turns_of (get_or words h.slot 0) ≡ 2 * h.gen_ + 1 → answer m h ≡ Some Pending
    shown_pending e = let life : SlotLife = life_at m h.slot in let t = shown_turns in by_test life.is_pending
        (λ p. let n = open_turns life p in in_pending life h.gen_ p (omega arith))
        (λ p. let n = idle_turns life p in absurd (omega arith))

    pub shown_ended : (f : Fate) → 2 * h.gen_ + 2 ≤ turns_of (get_or words h.slot 0) → mark key words h ≡ fate_code f → answer m h ≡ Some (answer_of f)
    shown_ended f l e = let life : SlotLife = life_at m h.slot in let t = shown_turns in
        let low : h.gen_ < length life.fates = by_test life.is_pending (λ p. let n = open_turns life p in omega arith) (λ p. let n = idle_turns life p in omega arith) in
        in_ended life h.gen_ low ∙ ap (λ x. Some (answer_of x)) (one_code (get_or life.fates h.gen_ Ok) f (sym ((o.each h.slot near).marks h.gen_ low) ∙ e))

  pub shown_made : (a : Answer) → answer m h ≡ Some a → (h.slot < key.slots) × (2 * h.gen_ + 1 ≤ turns_of (get_or words h.slot 0))
  shown_made a e =
      let near = look_near key words cs m small o h a e in
      let life : SlotLife = life_at m h.slot in
      let t = shown_turns near in
      (near, ⊎_elim (λ z. let n = turns_high life in omega (arith, z.0)) (λ z. let n = open_turns life z.0 in omega (arith, z.1)) (in_cases life h.gen_ a e))
