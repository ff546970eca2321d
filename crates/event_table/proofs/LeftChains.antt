-- Who is placed where, by the words of a closed table.
use Rattle.std.proofs.Common.{◌≡◌, true, ℕ, ◌+◌, ◌-◌, ◌*◌, ◌/◌, ◌%◌, ◌<◌, ◌≤◌, List, [], cond, get_or, sym, ap, ◌∙◌, subst, arith, eq-eqb}
use Rattle.std.specs.Prelude.{Contains}
use Rattle.event_table.specs.Words.{turns_of}
use Rattle.event_table.specs.Chains.{chain_in, chain_at, AreWaiters}
use Rattle.event_table.specs.EventMap.{EventMap, SlotLife, unused, life_at, IsPlaced}
use Rattle.event_table.specs.Kept.{life_in, map_in, AreShown}
use Rattle.event_table.specs.declared.handle.Handle.{Handle}
use Rattle.event_table.specs.declared.handle.Shape.{Shape}
use Rattle.event_table.proofs.ChainSteps.{linked_all}
use Rattle.event_table.proofs.Words.{odd_turns}
use Rattle.event_table.proofs.Reading.{read_from_start, turns_at}
use Rattle.event_table.proofs.MapAnswers.{is_now}
use Rattle.event_table.proofs.TableLook.{chain_short, open_turns, shown_pending}

-- what `place_of` knows of the slot i, whose word is w
module _ (key : Shape) (words : List ℕ) (m : EventMap) (small : key.waiters ≤ 65536) (shown : AreShown key words [] (map_in key words [])) (view : map_in key words [] ≡ m) where
  o : AreShown key words [] m
  o = subst (AreShown key words []) view shown

  chain_left : (i : ℕ) → i < key.slots → turns_of (get_or words i 0) % 2 ≡ 1 → (life_at m i).waiting ≡ chain_at key words i
  chain_left i near odd = ap (λ (n : EventMap). (life_at n i).waiting) (sym view) ∙ ap (λ (l : SlotLife). l.waiting) (read_from_start (life_in key words) key.slots i unused near)
      ∙ ap (λ b. cond b (chain_at key words i) []) (eq-eqb (turns_of (get_or words i 0) % 2) 1 odd)

  module _ (i w : ℕ) (near : i < key.slots) (is : w ≡ get_or words i 0) where
    low : chain_at key words i ≡ chain_in key.waiters key.slots words (w % 4294967296 - 1)
    low = ap (λ x. chain_in key.waiters key.slots words (x % 4294967296 - 1)) (sym is)

    odd_is' : turns_of w % 2 ≡ 1 → turns_of (get_or words i 0) % 2 ≡ 1
    odd_is' odd = ap (λ x. turns_of x % 2) (sym is) ∙ odd

    pub all_waiters : turns_of w % 2 ≡ 1 → AreWaiters key (chain_in key.waiters key.slots words (w % 4294967296 - 1))
    all_waiters odd = subst (AreWaiters key) (chain_left i near (odd_is' odd) ∙ low) (linked_all key words (life_at m i).waiting (o.each i near).linked)

    -- it is placed where its chain has it
    pub placed_is : (k : ℕ) (h : Handle) → turns_of w % 2 ≡ 1 → h.slot ≡ i → h.gen_ ≡ w / 4294967296 → Contains (chain_in key.waiters key.slots words (w % 4294967296 - 1)) k → IsPlaced m k h
    placed_is k h odd a b c =
        let t : turns_of (get_or words h.slot 0) ≡ 2 * h.gen_ + 1 = ap (λ x. turns_of (get_or words x 0)) a ∙ ap turns_of (sym is) ∙ (odd_turns w odd ∙ ap (λ g. 2 * g + 1) (sym b)) in
        record {
          pending = shown_pending key words [] m small o h (subst (λ x. x < key.slots) (sym a) near) t;
          stands = subst (λ x. Contains (life_at m x).waiting k) (sym a) (subst (λ l. Contains l k) (sym (chain_left i near (odd_is' odd) ∙ low)) c);
        }

    -- and nowhere else
    pub placed_odd : (k : ℕ) (h : Handle) → h.slot ≡ i → IsPlaced m k h → (turns_of w % 2 ≡ 1) × Contains (chain_in key.waiters key.slots words (w % 4294967296 - 1)) k
    placed_odd k h a p =
        let now = is_now m h p.pending in
        let pend = subst (λ x. (life_at m x).is_pending ≡ true) a now.pending in
        let t = turns_at key words small i (life_at m i) (o.each i near) (chain_short key words [] m o i) in
        let n = open_turns (life_at m i) pend in
        let odd : turns_of w % 2 ≡ 1 = ap (λ x. turns_of x % 2) is ∙ (let z : turns_of (get_or words i 0) % 2 ≡ 1 = omega arith in z) in
        (odd, subst (λ l. Contains l k) (chain_left i near (odd_is' odd) ∙ low) (subst (λ x. Contains (life_at m x).waiting k) a p.stands))
