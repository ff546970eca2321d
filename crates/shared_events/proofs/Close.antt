-- The table at the end.
use Rattle.std.proofs.Common.{◌≡◌, ℕ, ◌+◌, ◌-◌, ◌*◌, ◌%◌, ◌<◌, ◌≤◌, ◌⊎◌, List, [], cond, length, get_or, sym, refl, ap, ◌∙◌, subst, inl, inr, arith, eqb, eqb-true, Some}
use Rattle.std.specs.Prelude.{Contains}
use Rattle.std.proofs.lemmas.Nat.Bits.{bit_at-lt}
use Rattle.std.proofs.lemmas.Bool.{eqb-false}
use Rattle.std.proofs.lemmas.List.Elements.{Contains-append_right}
use mathlib.Core.Logic.{dite}
use native.Mathlib.Decide.{ℕ_discrete}
use Rattle.event_table.specs.declared.handle.Handle.{Handle}
use Rattle.event_table.specs.declared.handle.Fate.{Fate}
use Rattle.event_table.specs.declared.handle.Answer.{Answer}
use Rattle.event_table.specs.declared.handle.Answer.TheVariants.{Pending}
use Rattle.event_table.specs.declared.handle.Shape.{Shape}
use Rattle.shared_events.specs.declared.view.View.{View}
use Rattle.basics.specs.Sums.{total}
use Rattle.event_table.specs.Words.{turns_of, mark, mark_word, place_of, fate_code, IsMade, code, Linked, Shows, fate_by}
use Rattle.shared_events.specs.Rule.{Fits, Orderly}
use Rattle.atomic_table.specs.Table.{Final, Seen}
use Rattle.shared_events.specs.Plays.{gathered}
use Rattle.event_table.specs.Chains.{chain_in, chain_at}
use Rattle.event_table.specs.EventMap.{EventMap, SlotLife, unused, answer, answer_of, IsPlaced, HasEnded}
use Rattle.shared_events.specs.Seats.{IsPast}
use Rattle.event_table.specs.Kept.{read, life_in, map_in, IsSlot, AreShown}
use Rattle.basics.proofs.Sums.{entry_le, total-one, below-one}
use Rattle.event_table.proofs.Public.{code_le, follows, coded}
use Rattle.basics.proofs.Choices.{by_test}
use Rattle.shared_events.proofs.Apart.{St}
use Rattle.shared_events.proofs.Steps.{shown, made_in}
use Rattle.event_table.proofs.Reading.{read_length, read_from_start, read_total, slot_read}
use Rattle.event_table.proofs.TableLook.{shown_pending, shown_ended, shown_made}

module _ (key : Shape) (s : St) (o : Orderly key s) (words : List ℕ) (is : s.words ≡ words) where
  word_at : (i : ℕ) → get_or s.words i 0 ≡ get_or words i 0
  word_at i = ap (λ l. get_or l i 0) is

  turns_at_end : (i : ℕ) → i < key.slots → turns_of (get_or words i 0) ≡ get_or o.turns i 0
  turns_at_end i l = ap turns_of (sym (word_at i)) ∙ shown key s o i l

  -- the words give each chain back
  waits : (i : ℕ) → i < key.slots → (life_in key words i).waiting ≡ get_or o.chains i []
  waits i near =
      let slot = o.each_slot i near in
      let ch : List ℕ = get_or o.chains i [] in
      let t = turns_at_end i near in
      by_test (eqb (turns_of (get_or words i 0) % 2) 1)
      (λ e. let shows = slot.0.pending (let odd = eqb-true (turns_of (get_or words i 0) % 2) 1 e in omega arith) in
      let few = code_le key s.words ch slot.1 in
      let small = o.small in
      let low : get_or s.words i 0 % 4294967296 - 1 ≡ code ch = omega arith in
      let long : length ch ≤ key.waiters = omega (arith, total-one ch, entry_le (total (λ _. 1)) o.chains i [] (omega (arith, near, o.rows)), o.once (λ _. 1), below-one key.waiters) in
      ap (λ b. cond b (chain_at key words i) []) e ∙ ap (λ l. chain_at key l i) (sym is) ∙ ap (chain_in key.waiters key.slots s.words) low ∙ follows key s.words ch key.waiters slot.1 long)
      (λ e. let even : get_or o.turns i 0 % 2 ≡ 0 = let odd = eqb-false (turns_of (get_or words i 0) % 2) 1 e in omega arith in
      ap (λ b. cond b (chain_at key words i) []) e ∙ sym (slot.0.bare even))

  slot_at_end : (i : ℕ) → i < key.slots → IsSlot key words i (life_in key words i)
  slot_at_end i near =
      let slot = o.each_slot i near in
      let w = sym (waits i near) in
      slot_read key words i
      (subst (λ c. Shows key.last_gen (turns_of (get_or words i 0)) c (get_or words i 0)) w
      (subst (λ t. Shows key.last_gen t (get_or o.chains i []) (get_or words i 0)) (sym (turns_at_end i near))
      (subst (Shows key.last_gen (get_or o.turns i 0) (get_or o.chains i [])) (word_at i) slot.0)))
      (subst (Linked key words) w (subst (λ ws. Linked key ws (get_or o.chains i [])) is slot.1))

  pub shown_at_end : AreShown key words [] (map_in key words [])
  shown_at_end = record {
    waiters = refl;
    last = refl;
    wide = omega (arith, ap length is, o.wide);
    high = read_length (life_in key words) 0 key.slots;
    each = λ i l. subst (IsSlot key words i) (sym (read_from_start (life_in key words) key.slots i unused l)) (slot_at_end i l);
    chains = refl;
    once = λ f. let same : total (λ (l : SlotLife). total f l.waiting) (read (life_in key words) 0 key.slots) ≡ total (total f) o.chains =
        ap (λ n. total (λ (l : SlotLife). total f l.waiting) (read (life_in key words) 0 n)) (sym o.rows) ∙ read_total (life_in key words) (λ (l : SlotLife). total f l.waiting) (total f) 0 o.chains []
        (λ k l. let at : 0 + k ≡ k = omega arith in ap (λ j. total f (life_in key words j).waiting) at ∙ ap (total f) (waits k (omega (arith, o.rows)))) in
        omega (arith, o.once f);
  }

-- what the map of the words says once the last seat has the Maker's view v and the view u
pub record Closes (key : Shape) (words : List ℕ) (m : EventMap) (v u : View) : Type 0 where
  pub shown : AreShown key words [] (map_in key words [])
  pub made : (h : Handle) → Contains v.made h → (a : Answer) × (answer m h ≡ Some a)
  pub only : (h : Handle) (a : Answer) → answer m h ≡ Some a → Contains v.made h
  pub seen : (h : Handle) → Contains u.seen h → (a : Answer) × (answer m h ≡ Some a)
  pub known : (h : Handle) (f : Fate) → Contains u.known (h, f) → answer m h ≡ Some (answer_of f)
  pub placed : (k : ℕ) (h : Handle) → Contains u.placed (k, h) → IsPlaced m k h ⊎ ((f : Fate) × (answer m h ≡ Some (answer_of f)))
  pub given : (k : ℕ) (h : Handle) → Contains u.given (k, h) → HasEnded m h
  pub emptied : (h : Handle) → Contains u.emptied h → HasEnded m h
  pub past : (h : Handle) → IsPast u h → HasEnded m h
  pub left : (h : Handle) → Contains u.left h → answer m h ≡ Some Pending

pub closes : (key : Shape) (id : ℕ) (v u w : View) (words : List ℕ) (xs : List (Unit {0})) → v.makes ≡ 1 → u.makes ≡ 0 → w ≡ gathered v u → Final (Seen (Orderly key) id w) words xs → Closes key words (map_in key words []) v u
closes key id v u w words xs m z is t =
    let s : St = t.0 in
    let o : Orderly key s = t.1.0 in
    let f : Fits key s.words o.turns o.log (gathered v u) = subst (Fits key s.words o.turns o.log) is (o.each_view id w t.1.1) in
    let small = o.small in
    let shown : AreShown key words [] (map_in key words []) = shown_at_end key s o words t.2 in
    let turns = turns_at_end key s o words t.2 in
    let marks : (h : Handle) → mark key s.words h ≡ mark key words h = λ h. ap (λ ws. mark key ws h) t.2 in
    let pending : (h : Handle) → IsMade o.turns h → get_or o.turns h.slot 0 ≡ 2 * h.gen_ + 1 → answer (map_in key words []) h ≡ Some Pending = λ h y p.
    let l = made_in key s o h y in shown_pending key words [] (map_in key words []) small shown h l (turns h.slot l ∙ p) in
    let ended : (h : Handle) → IsMade o.turns h → 2 * h.gen_ + 2 ≤ get_or o.turns h.slot 0 → (f : Fate) → mark key words h ≡ fate_code f → answer (map_in key words []) h ≡ Some (answer_of f) = λ h y p g e.
    let l = made_in key s o h y in let n = turns h.slot l in shown_ended key words [] (map_in key words []) small shown h l g (omega arith) e in
    let over : (h : Handle) → IsMade o.turns h → 2 * h.gen_ + 2 ≤ get_or o.turns h.slot 0 → (f : Fate) × (answer (map_in key words []) h ≡ Some (answer_of f)) = λ h y p.
    let g : Fate = fate_by (mark key words h) in (g, ended h y p g (coded (mark key words h) (bit_at-lt (get_or words (mark_word key h) 0) (place_of key.last_gen h % 64)))) in
    let some : (h : Handle) → IsMade o.turns h → (a : Answer) × (answer (map_in key words []) h ≡ Some a) = λ h y.
    dite (ℕ_discrete (get_or o.turns h.slot 0) (2 * h.gen_ + 1)) (λ p. (Pending, pending h y p)) (λ n. let r = over h y (omega arith) in (answer_of r.0, r.1)) in
    record {
      shown = shown;
      made = λ h c. some h (f.own h c);
      only = λ h a e. let r = shown_made key words [] (map_in key words []) small shown h a e in let q = turns h.slot r.0 in f.made (omega arith) h (omega (arith, r.1));
      seen = λ h c. some h (f.seen h (Contains-append_right v.seen u.seen h c));
      known = λ h g c. let y = f.known h g (Contains-append_right v.known u.known (h, g) c) in ended h (omega (arith, y.0)) y.0 g (sym (marks h) ∙ y.1);
      placed = λ k h c.
          let old = o.stands k h (f.placed (k, h) (Contains-append_right v.placed u.placed (k, h) c)) in
          let near = made_in key s o h old.0 in
          dite (ℕ_discrete (get_or o.turns h.slot 0) (2 * h.gen_ + 1))
          (λ p. inl (record {
            pending = pending h old.0 p;
            stands = subst (λ (l : SlotLife). Contains l.waiting k) (sym (read_from_start (life_in key words) key.slots h.slot unused near)) (subst (λ l. Contains l k) (sym (waits key s o words t.2 h.slot near)) (old.1 p));
          }))
          (λ n. let y = old.0 in inr (over h old.0 (omega arith)));
      given = λ k h c. let y = (f.given (k, h) (Contains-append_right v.given u.given (k, h) c)).1 in over h (omega arith) y;
      emptied = λ h c. let y = (f.emptied h (Contains-append_right v.emptied u.emptied h c)).0 in over h (omega arith) y;
      past = λ h c. let y = f.past h (Contains-append_right v.past u.past h c) in over h (omega arith) y;
      left = λ h c. let y = f.left h (Contains-append_right v.left u.left h c) in pending h (omega arith) y;
    }
