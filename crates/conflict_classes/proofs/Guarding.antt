-- The guards of classes, one access more at a time.
use Rattle.std.proofs.Common.{◌≡◌, ℕ, ◌+◌, ◌<◌, ◌≤◌, true, false, min, inl, inr, List, length, sym, ◌∙◌, ap, subst, arith}
use Rattle.std.specs.Prelude.{Option, Some, None, slice_get, slice_set, slice_index}
use Rattle.std.proofs.lemmas.Bool.{cases_lt, cases_eq, cases_Bool, and_parts, cond-true}
use Rattle.std.proofs.lemmas.Option.{none-some, same_Some, slice_get_within}
use Rattle.std.proofs.lemmas.List.{get_or-set_same, get_or-set_other}
use Rattle.graph_terms.specs.declared.verb.Access.{Access}
use Rattle.graph_terms.specs.Graph.{GraphValue, line_passes, is_shared}
use Rattle.graph_terms.specs.Reservations.{both_shared}
use Rattle.sweep_base.specs.declared.line_sections.Held.{Held}
use Rattle.conflict_classes.specs.Classes.{kept_at, place_at}
use Rattle.conflict_classes.specs.Guards.{AreGuards, AreOpened, IsBeforeStart, slot_of}
use Rattle.sweep_base.specs.Held.{IsHeld, acquire_in}
use Rattle.sweep_base.proofs.Public.{kept_apart}

module _ (g : GraphValue) (h : Held) (lines classes sites : List ℕ) (guards : List (Option ℕ)) (openings : List ℕ) (m : ℕ) (opened : AreOpened g h lines classes sites guards openings m) where
  -- an access without a class, or of a class without a guard
  pub opened_unguarded : ((d l : ℕ) → slice_get classes m ≡ Some d → kept_at guards d ≡ Some l → ⊥) → AreOpened g h lines classes sites guards openings (m + 1)
  opened_unguarded none r d l low class lock = elim (cases_lt r m) [
    | inl before ↦ opened r d l before class lock
    | inr up ↦ (let same : r ≡ m = omega arith in absurd (none d l (subst (λ z. slice_get classes z ≡ Some d) same class) lock))
  ]

  module _ (c : ℕ) (own : slice_get classes m ≡ Some c) where
    -- a class that has a member outside of its guard loses it
    pub opened_lost : c < length guards → AreOpened g h lines classes sites (slice_set guards c None) openings (m + 1)
    opened_lost small r d l low class lock = elim (cases_eq d c) [
      | inl same ↦ absurd (none-some l (sym (get_or-set_same guards c None None small) ∙ subst (λ z. kept_at (slice_set guards c None) z ≡ Some l) same lock))
      | inr apart ↦ elim (cases_lt r m) [
        | inl before ↦ opened r d l before class (sym (get_or-set_other guards c d None None apart) ∙ lock)
        | inr up ↦ (let same : r ≡ m = omega arith in absurd (apart (same_Some d c (sym class ∙ subst (λ z. slice_get classes z ≡ Some c) (sym same) own))))
      ]
    ]

    -- a section is opened at the place of a member
    pub opened_more : (l q p opening : ℕ) → kept_at guards c ≡ Some l → acquire_in h l (slice_index lines (place_at sites m)) ≡ Some q → p ≡ slot_of g l q → p < length openings → opening ≡ slice_index openings p → AreOpened g h lines classes sites guards (slice_set openings p (min opening (place_at sites m))) (m + 1)
    opened_more l q p opening guard at slot small is r d k low class lock = elim (cases_lt r m) [
      | inl before ↦ (let old = opened r d k before class lock in (old.0, old.1, lower (slot_of g k old.0) (place_at sites r) old.2))
      | inr up ↦ (
          let same : r ≡ m = omega arith in
          let here : place_at sites r ≡ place_at sites m = ap (place_at sites) same in
          let one : d ≡ c = same_Some d c (sym class ∙ subst (λ z. slice_get classes z ≡ Some c) (sym same) own) in
          let other : k ≡ l = same_Some k l (sym lock ∙ subst (λ z. kept_at guards z ≡ Some l) (sym one) guard) in (
            q,
            subst (λ z. acquire_in h k (slice_index lines (place_at sites z)) ≡ Some q) (sym same) (subst (λ z. acquire_in h z (slice_index lines (place_at sites m)) ≡ Some q) (sym other) at),
            subst (λ z. slice_index (slice_set openings p (min opening (place_at sites m))) (slot_of g z q) ≤ place_at sites r) (sym other) (subst (λ z. slice_index (slice_set openings p (min opening (place_at sites m))) z ≤ place_at sites r) slot
                (let e : slice_index (slice_set openings p (min opening (place_at sites m))) p ≡ min opening (place_at sites m) = get_or-set_same openings p (min opening (place_at sites m)) 0 small in omega arith)),
          ))
    ]
      where
        lower : (o x : ℕ) → slice_index openings o ≤ x → slice_index (slice_set openings p (min opening (place_at sites m))) o ≤ x
        lower o x low = elim (cases_eq o p) [
          | inl same ↦ (
              let e : slice_index (slice_set openings p (min opening (place_at sites m))) o ≡ min opening (place_at sites m) = ap (slice_index (slice_set openings p (min opening (place_at sites m)))) same ∙ get_or-set_same openings p (min opening (place_at sites m)) 0 small in
              let f : slice_index openings o ≡ opening = ap (slice_index openings) same ∙ sym is in omega arith)
          | inr apart ↦ (let e : slice_index (slice_set openings p (min opening (place_at sites m))) o ≡ slice_index openings o = get_or-set_other openings p o (min opening (place_at sites m)) 0 apart in omega arith)
        ]

-- the starts before a number are found
abbrev pub AreStarts : GraphValue → Held → List ℕ → List ℕ → List ℕ → List (Option ℕ) → List ℕ → List ℕ → ℕ → Type 0
AreStarts g h lines classes sites guards openings starts m = (r x : ℕ) → r < m → x < slice_index starts r → IsBeforeStart g h lines classes sites guards openings r x

-- acquires that are both shared have one slot
shared_slots : (g : GraphValue) (l q k : ℕ) → both_shared g q k ≡ true → slot_of g l q ≡ slot_of g l k
shared_slots g l q k h =
    let both = and_parts (line_passes is_shared g q) (line_passes is_shared g k) h in
    cond-true (line_passes is_shared g q) (length g.lines + l) q both.0 ∙ sym (cond-true (line_passes is_shared g k) (length g.lines + l) k both.1)

slots_apart : (g : GraphValue) (l q k : ℕ) → (slot_of g l q ≡ slot_of g l k → ⊥) → both_shared g q k ≡ false
slots_apart g l q k apart = elim (cases_Bool (both_shared g q k)) [ inl both ↦ absurd (apart (shared_slots g l q k both)) | inr alone ↦ alone ]

-- two members of classes of one guard, of which one lies before the start of the other, lie apart
pub guards_by : (g : GraphValue) (h : Held) → IsHeld g h → (lines : List ℕ) (keys : List Access) (classes sites : List ℕ) (guards : List (Option ℕ)) (openings starts : List ℕ) → length guards ≡ length keys → length starts ≡ length classes →
    AreOpened g h lines classes sites guards openings (length classes) → AreStarts g h lines classes sites guards openings starts (length classes) → AreGuards g lines keys classes sites guards starts
guards_by g h is lines keys classes sites guards openings starts size numbers opened started = record {
  size = size;
  numbers = numbers;
  apart = λ r s c d one two both before. (
      let x = place_at sites r in
      let u = place_at sites s in
      let b = started s x (slice_get_within classes s c two) before in
      let class : b.class ≡ c = same_Some b.class c (sym b.class_is ∙ two) in
      let lock : b.lock ≡ both.lock = same_Some b.lock both.lock (sym b.lock_is ∙ (ap (kept_at guards) class ∙ both.guards_one)) in
      let o = opened r d both.lock (slice_get_within classes r d one) one both.guards_other in
      let low : slice_index openings (slot_of g both.lock o.0) ≤ x = o.2 in
      let up : x < slice_index openings (slot_of g both.lock b.acquire) = subst (λ z. x < slice_index openings (slot_of g z b.acquire)) lock b.before in
      let differ : slot_of g both.lock o.0 ≡ slot_of g both.lock b.acquire → ⊥ = (λ same. (let e : slice_index openings (slot_of g both.lock o.0) ≡ slice_index openings (slot_of g both.lock b.acquire) = ap (slice_index openings) same in absurd (omega arith))) in
      kept_apart g h is both.lock (slice_index lines x) (slice_index lines u) o.0 b.acquire o.1 (subst (λ z. acquire_in h z (slice_index lines u) ≡ Some b.acquire) lock b.acquire_is) (λ same. differ (ap (slot_of g both.lock) same)) (slots_apart g both.lock o.0 b.acquire differ));
}
