-- Where the handles of a table are these, as many slots are pending as there are handles that are.
use Rattle.std.proofs.Common.{◌≡◌, ℕ, zero, suc, ◌+◌, ◌<◌, ◌≤◌, Bool, true, false, ◌&&◌, cond, inl, inr, List, [], ◌∷◌, length, refl, sym, ◌∙◌, ap, subst, arith}
use Rattle.std.specs.Prelude.{◌==◌, nat_lt, Option, Contains, Some, None, slice_get, slice_index_or}
use Rattle.std.proofs.lemmas.Bool.{cases_lt, lt-ltb, ltb-true, false_from_ne_true, eq-eqb}
use Rattle.std.proofs.lemmas.List.{get_or_past}
use Rattle.basics.specs.Sums.{total}
use Rattle.event_table.specs.declared.handle.Handle.{Handle}
use Rattle.event_table.specs.declared.handle.Fate.{Fate}
use Rattle.event_table.specs.declared.handle.Fate.TheVariants.{Ok, Poison}
use Rattle.event_table.specs.declared.handle.Answer.{Answer}
use Rattle.event_table.specs.declared.handle.Answer.TheVariants.{Pending, Triggered, Poisoned}
use Rattle.event_table.specs.EventMap.{EventMap, SlotLife, unused, life_at, answer, answer_of, answer_in}
use Rattle.basics.specs.Lists.{count_below}
use Rattle.run_parts.specs.LineEvents.{created_in, pending_in}
use Rattle.word_parts.proofs.HandleCounts.{same_total, once_distinct}
use Rattle.word_parts.proofs.CreatedCounts.{handles_in, handles_from, in_all, all_has, distinct_all, total_both, answered_by, created}

-- 1 for an answer that is Pending
abbrev pub pend : Option Answer → ℕ
pend None = 0
pend (Some Pending) = 1
pend (Some Triggered) = 0
pend (Some Poisoned) = 0

pend_of : (f : Fate) → pend (Some (answer_of f)) ≡ 0
pend_of Ok = refl
pend_of Poison = refl

not_below : (n : ℕ) → nat_lt n n ≡ false
not_below n = false_from_ne_true (nat_lt n n) (λ h. (let z : n < n = ltb-true n n h in absurd (omega (arith, z))))

module _ (m : EventMap) where
  abbrev weigh : Handle → ℕ
  weigh h = pend (answer m h)

  module _ (i : ℕ) (life : SlotLife) (same : (g : ℕ) → answer m (record { slot = i; gen_ = g }) ≡ answer_in life g) where
    below : (g : ℕ) → g < length life.fates → weigh (record { slot = i; gen_ = g }) ≡ 0
    below g b = ap pend (same g ∙ ap (λ c. cond c (Some (answer_of (slice_index_or life.fates g Ok))) (cond (life.is_pending && (g == length life.fates)) (Some Pending) None)) (lt-ltb g (length life.fates) b)) ∙ pend_of (slice_index_or life.fates g Ok)

    none_low : (n : ℕ) → n ≤ length life.fates → total weigh (handles_in i n) ≡ 0
    none_low zero b = refl
    none_low (suc n) b = (let a = below n (omega (arith, b)) in let c = none_low n (omega (arith, b)) in omega (arith, a, c))

    by_pending : (p : Bool) → life.is_pending ≡ p → total weigh (handles_in i (length life.fates + cond p 1 0)) ≡ cond p 1 0
    by_pending false e = subst (λ n. total weigh (handles_in i n) ≡ 0) (let z : length life.fates ≡ length life.fates + 0 = omega arith in z) (none_low (length life.fates) (omega arith))
    by_pending true e = subst (λ n. total weigh (handles_in i n) ≡ 1) (let z : suc (length life.fates) ≡ length life.fates + 1 = omega arith in z)
        (let a : weigh (record { slot = i; gen_ = length life.fates }) ≡ 1 = ap pend (same (length life.fates)
        ∙ (λ t. cond (not_below (length life.fates) t) (Some (answer_of (slice_index_or life.fates (length life.fates) Ok))) (cond (e t && eq-eqb (length life.fates) (length life.fates) refl t) (Some Pending) None))) in
        let c = none_low (length life.fates) (omega arith) in omega (arith, a, c))

    slot_pending : total weigh (handles_in i (created_in life)) ≡ pending_in life
    slot_pending = by_pending life.is_pending refl

  from_pending : (i : ℕ) (ls : List SlotLife) → ((k g : ℕ) → answer m (record { slot = i + k; gen_ = g }) ≡ answer_in (slice_index_or ls k unused) g) → total weigh (handles_from i ls) ≡ total pending_in ls
  from_pending i [] same = refl
  from_pending i (l ∷ ls) same =
      let a = total_both weigh (handles_in i (created_in l)) (handles_from (i + 1) ls) in
      let b = slot_pending i l (λ g. subst (λ z. answer m (record { slot = z; gen_ = g }) ≡ answer_in l g) (let z : i + 0 ≡ i = omega arith in z) (same 0 g)) in
      let c = from_pending (i + 1) ls (λ k g. subst (λ z. answer m (record { slot = z; gen_ = g }) ≡ answer_in (slice_index_or ls k unused) g) (let z : i + suc k ≡ i + 1 + k = omega arith in z) (same (suc k) g)) in
      omega (arith, a, b, c)

  first_below : (t : ℕ → Bool) (n : ℕ) → count_below t (suc n) ≡ cond (t 0) 1 0 + count_below (λ k. t (suc k)) n
  first_below t zero = refl
  first_below t (suc n) = (let e : count_below t (suc n) ≡ cond (t 0) 1 0 + count_below (λ k. t (suc k)) n = first_below t n in omega (arith, e))

  by_items : (hs : List Handle) (t : ℕ → Bool) → ((k : ℕ) (h : Handle) → slice_get hs k ≡ Some h → weigh h ≡ cond (t k) 1 0) → total weigh hs ≡ count_below t (length hs)
  by_items [] t each = refl
  by_items (h ∷ hs) t each = (let a = each 0 h refl in let b = by_items hs (λ k. t (suc k)) (λ k x at. each (suc k) x at) in let c = first_below t (length hs) in omega (arith, a, b, c))

  pub pending_count : (handles : List Handle) → ((a b : ℕ) (h : Handle) → slice_get handles a ≡ Some h → slice_get handles b ≡ Some h → a ≡ b) →
      ((h : Handle) → Contains handles h → (a : Answer) × (answer m h ≡ Some a)) → ((h : Handle) (a : Answer) → answer m h ≡ Some a → Contains handles h) →
      (t : ℕ → Bool) → ((k : ℕ) (h : Handle) → slice_get handles k ≡ Some h → pend (answer m h) ≡ cond (t k) 1 0) → total pending_in m.slots ≡ count_below t (length handles)
  pending_count handles once made only t each =
      sym (from_pending 0 m.slots (λ k g. ap (λ z. answer m (record { slot = z; gen_ = g })) (let z : 0 + k ≡ k = omega arith in z)))
      ∙ (same_total weigh (handles_from 0 m.slots) handles (distinct_all 0 m.slots) (once_distinct handles once)
      (λ h c. (let k = in_all 0 m.slots h c in
      let z : h.slot ≡ k.at = (let y : h.slot ≡ 0 + k.at = k.slot_is in omega (arith, y)) in
      let a = answered_by (life_at m k.at) h.gen_ (nat_lt h.gen_ (length (life_at m k.at).fates)) (life_at m k.at).is_pending refl refl k.below in
      only h a.0 (ap (λ s. answer_in (life_at m s) h.gen_) z ∙ a.1)))
      (λ h c. (let a = made h c in
      let b = created (life_at m h.slot) h.gen_ a.0 a.1 in
      elim (cases_lt h.slot (length m.slots)) [
        | inl near ↦ all_has 0 m.slots h (record { at = h.slot; near = near; slot_is = (let z : h.slot ≡ 0 + h.slot = omega arith in z); below = b })
        | inr far ↦ (let z : h.gen_ < 0 = subst (λ (l : SlotLife). h.gen_ < created_in l) (get_or_past m.slots h.slot unused far) b in absurd (omega (arith, z)))
      ]))
      ∙ by_items handles t each)
