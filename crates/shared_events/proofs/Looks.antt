-- What a load tells of one handle.
use Rattle.std.proofs.Common.{◌≡◌, ℕ, ◌+◌, ◌*◌, ◌%◌, ◌<◌, ◌≤◌, [], ◌∷◌, ◌++◌, sym, ap, ◌∙◌, subst, ⊎_elim, arith}
use Rattle.std.specs.Prelude.{Contains}
use Rattle.std.proofs.lemmas.List.Elements.{Contains-append_right}
use Rattle.event_table.specs.declared.handle.Handle.{Handle}
use Rattle.event_table.specs.declared.handle.Fate.{Fate}
use Rattle.event_table.specs.declared.handle.Shape.{Shape}
use Rattle.event_table.specs.Words.{turns_of, mark_word, place_of, fate_by}
use Rattle.std.specs.Int.{bit_at}
use Rattle.shared_events.proofs.Found.{fates_has, ends_has}
use Rattle.shared_events.specs.Plays.{Sat, ends_of, looked, reads, fates_by, fates_of}
use Rattle.shared_events.specs.Seats.{HasSeen, Knows, no_event}
use Rattle.basics.proofs.ListFacts.{contains_here}

-- what the load of its slot's word tells of a handle that the seat has seen, and that is not NO_EVENT
pub record Finds (h : Handle) (x : Shape) (m n : Sat) (r : ℕ) : Type 0 where
  pub seen : Contains m.0.seen h
  pub within : (h.slot < x.slots) × (h.gen_ ≤ x.last_gen)
  -- what the seat knows already
  pub known_ended : (f : Fate) → Knows m.0 h f → 2 * h.gen_ + 2 ≤ turns_of r
  pub past_ended : Contains m.0.past h → 2 * h.gen_ + 2 ≤ turns_of r
  pub emptied_ended : Contains m.0.emptied h → 2 * h.gen_ + 2 ≤ turns_of r
  -- what it finds
  pub ended : 2 * h.gen_ + 2 ≤ turns_of r → Contains n.0.past h
  pub unleft : 2 * h.gen_ + 2 ≤ turns_of r → Contains m.0.left h → ⊥
  pub pending : turns_of r < 2 * h.gen_ + 2 → (turns_of r ≡ 2 * h.gen_ + 1) × (n.0.saw ≡ m.0.saw ++ (h.slot, r) ∷ [])

pub finds : (i r : ℕ) (m n : Sat) (h : Handle) (x : Shape) → looked i m r n → m.0.keys ≡ x ∷ [] → (h ≡ no_event → ⊥) → HasSeen m.0 h → (h.slot < x.slots → i ≡ h.slot) → Finds h x m n r
finds i r m n h x t keys some has same =
    let seen : Contains m.0.seen h = ⊎_elim (λ e. absurd (some e)) (λ c. c) has.seen in
    let within = t.2 x h (subst (λ l. Contains l x) (sym keys) (contains_here x [])) seen in
    let at : i ≡ h.slot = same within.0 in
    let ended : 2 * h.gen_ + 2 ≤ turns_of r → Contains n.0.past h = λ past. subst (λ (y : Sat). Contains y.0.past h) (sym t.0) (Contains-append_right m.0.past (ends_of i (turns_of r) m.0.seen) h (ends_has i (turns_of r) m.0.seen h seen (sym at) past)) in
    record {
      seen = seen;
      within = within;
      known_ended = λ f k. t.1.1 h f k.known (sym at);
      past_ended = λ p. t.1.2 h p (sym at);
      emptied_ended = λ e. t.1.4 h e (sym at);
      ended = ended;
      unleft = λ past left. t.3.left_not_past h (subst (λ l. Contains l h) (sym (ap (λ (y : Sat). y.0.left) t.0)) left) (ended past);
      pending = λ now. let a = t.1.0 h seen (sym at) in (omega arith, ap (λ (y : Sat). y.0.saw) t.0 ∙ ap (λ (j : ℕ). m.0.saw ++ (j, r) ∷ []) at);
    }

-- what a poison word tells of a handle that has ended
pub read_fate : (x : Shape) (w : ℕ) (m n : Sat) (r : ℕ) (h : Handle) → reads w m r n → m.0.keys ≡ x ∷ [] → Contains m.0.past h → w ≡ mark_word x h → Contains n.0.known (h, fate_by (bit_at r (place_of x.last_gen h % 64)))
read_fate x w m n r h t keys past at =
    let g : Fate = fate_by (bit_at r (place_of x.last_gen h % 64)) in
    let all : m.0.known ++ fates_of m.0.keys w r m.0.past ≡ m.0.known ++ fates_by x w r m.0.past = ap (λ ks. m.0.known ++ fates_of ks w r m.0.past) keys in
    subst (λ (y : Sat). Contains y.0.known (h, g)) (sym t.0) (subst (λ l. Contains l (h, g)) (sym all) (Contains-append_right m.0.known (fates_by x w r m.0.past) (h, g) (fates_has x w r m.0.past h past (sym at))))
