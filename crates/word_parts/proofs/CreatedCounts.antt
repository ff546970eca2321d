-- Where the handles of a table are these, as many generations were created as there are handles.
use Rattle.std.proofs.Common.{◌≡◌, ℕ, zero, suc, ◌+◌, ◌<◌, ◌≤◌, Bool, true, false, ◌&&◌, cond, inl, inr, List, [], ◌∷◌, ◌++◌, length, refl, sym, ◌∙◌, ap, subst, arith}
use Rattle.std.specs.Prelude.{◌==◌, nat_lt, Contains, Some, None, slice_get, slice_index_or}
use Rattle.std.proofs.lemmas.Bool.{cases_eq, cases_lt, ltb-true, ltb-false, eqb-true, eq-eqb}
use Rattle.std.proofs.lemmas.List.{get_or_past}
use Rattle.std.proofs.lemmas.List.Elements.{Contains-append_left, Contains-append_right, Contains-append_cases}
use Rattle.std.proofs.lemmas.Option.{none-some}
use Rattle.basics.specs.Sums.{total}
use Rattle.event_table.specs.declared.handle.Handle.{Handle}
use Rattle.event_table.specs.declared.handle.Answer.{Answer}
use Rattle.event_table.specs.declared.handle.Answer.TheVariants.{Pending}
use Rattle.event_table.specs.declared.handle.Fate.TheVariants.{Ok}
use Rattle.event_table.specs.EventMap.{EventMap, SlotLife, unused, life_at, answer, answer_of, answer_in}
use Rattle.basics.proofs.ListFacts.{contains_cases, contains_here, contains_there, contains_none}
use Rattle.run_parts.specs.LineEvents.{created_in}
use Rattle.word_parts.proofs.HandleCounts.{Distinct, same_total, once_distinct}

-- the handles of a slot, and of all slots from the i-th on
abbrev pub handles_in : ℕ → ℕ → List Handle
handles_in i zero = []
handles_in i (suc n) = record { slot = i; gen_ = n } ∷ handles_in i n

abbrev pub handles_from : ℕ → List SlotLife → List Handle
handles_from i [] = []
handles_from i (l ∷ ls) = handles_in i (created_in l) ++ handles_from (i + 1) ls

in_slot : (i n : ℕ) (h : Handle) → Contains (handles_in i n) h → (h.slot ≡ i) × (h.gen_ < n)
in_slot i zero h c = absurd (contains_none h c)
in_slot i (suc n) h c = elim (contains_cases (record { slot = i; gen_ = n }) (handles_in i n) h c) [
  | inl e ↦ (sym (ap (λ (x : Handle). x.slot) e), (let z : n ≡ h.gen_ = ap (λ (x : Handle). x.gen_) e in omega (arith, z)))
  | inr r ↦ (let k = in_slot i n h r in (k.0, (let z : h.gen_ < n = k.1 in omega (arith, z))))
]

slot_has : (i n : ℕ) (h : Handle) → h.slot ≡ i → h.gen_ < n → Contains (handles_in i n) h
slot_has i zero h e b = absurd (omega (arith, b))
slot_has i (suc n) h e b = elim (cases_eq h.gen_ n) [
  | inl same ↦ subst (λ z. Contains (record { slot = i; gen_ = n } ∷ handles_in i n) z) (λ t. record { slot = sym e t; gen_ = sym same t }) (contains_here (record { slot = i; gen_ = n }) (handles_in i n))
  | inr other ↦ contains_there (record { slot = i; gen_ = n }) (handles_in i n) h (slot_has i n h e (omega (arith, b, other)))
]

pub record InSlot (i : ℕ) (ls : List SlotLife) (h : Handle) : Type 0 where
  pub at : ℕ
  pub near : at < length ls
  pub slot_is : h.slot ≡ i + at
  pub below : h.gen_ < created_in (slice_index_or ls at unused)

pub in_all : (i : ℕ) (ls : List SlotLife) (h : Handle) → Contains (handles_from i ls) h → InSlot i ls h
in_all i [] h c = absurd (contains_none h c)
in_all i (l ∷ ls) h c = elim (Contains-append_cases (handles_in i (created_in l)) (handles_from (i + 1) ls) h c) [
  | inl here ↦ (let k = in_slot i (created_in l) h here in record { at = 0; near = omega arith; slot_is = k.0 ∙ (let z : i ≡ i + 0 = omega arith in z); below = k.1 })
  | inr later ↦ (let k = in_all (i + 1) ls h later in record { at = suc k.at; near = (let z = k.near in omega (arith, z)); slot_is = (let z : h.slot ≡ i + 1 + k.at = k.slot_is in omega (arith, z)); below = k.below })
]

pub all_has : (i : ℕ) (ls : List SlotLife) (h : Handle) → InSlot i ls h → Contains (handles_from i ls) h
all_has i ls h k = go i ls k.at k.near k.slot_is k.below
  where
    go : (i : ℕ) (ls : List SlotLife) (at : ℕ) → at < length ls → h.slot ≡ i + at → h.gen_ < created_in (slice_index_or ls at unused) → Contains (handles_from i ls) h
    go i [] at near e b = absurd (omega (arith, near))
    go i (l ∷ ls) zero near e b = Contains-append_left (handles_in i (created_in l)) (handles_from (i + 1) ls) h (slot_has i (created_in l) h (let z : h.slot ≡ i = omega (arith, e) in z) b)
    go i (l ∷ ls) (suc at) near e b = Contains-append_right (handles_in i (created_in l)) (handles_from (i + 1) ls) h (go (i + 1) ls at (omega (arith, near)) (omega (arith, e)) b)

distinct_in : (i n : ℕ) → Distinct (handles_in i n)
distinct_in i zero = tt
distinct_in i (suc n) = (λ c. (let z : n < n = (in_slot i n (record { slot = i; gen_ = n }) c).1 in absurd (omega (arith, z))), distinct_in i n)

distinct_both : (xs ys : List Handle) → Distinct xs → Distinct ys → ((h : Handle) → Contains xs h → Contains ys h → ⊥) → Distinct (xs ++ ys)
distinct_both [] ys d e apart = e
distinct_both (x ∷ xs) ys d e apart = (
  λ c. elim (Contains-append_cases xs ys x c) [ inl l ↦ d.0 l | inr r ↦ apart x (contains_here x xs) r ],
  distinct_both xs ys d.1 e (λ h l r. apart h (contains_there x xs h l) r),
)

pub distinct_all : (i : ℕ) (ls : List SlotLife) → Distinct (handles_from i ls)
distinct_all i [] = tt
distinct_all i (l ∷ ls) = distinct_both (handles_in i (created_in l)) (handles_from (i + 1) ls) (distinct_in i (created_in l)) (distinct_all (i + 1) ls)
    (λ h a b. (let z : h.slot ≡ i = (in_slot i (created_in l) h a).0 in let k = in_all (i + 1) ls h b in let y : h.slot ≡ i + 1 + k.at = k.slot_is in absurd (omega (arith, z, y))))

total_length : (hs : List Handle) → total (λ (h : Handle). 1) hs ≡ length hs
total_length [] = refl
total_length (h ∷ hs) = let z : total (λ (h : Handle). 1) hs ≡ length hs = total_length hs in omega (arith, z)

pub total_both : (w : Handle → ℕ) (xs ys : List Handle) → total w (xs ++ ys) ≡ total w xs + total w ys
total_both w [] ys = (let z : total w ys ≡ 0 + total w ys = omega arith in z)
total_both w (x ∷ xs) ys = let z : total w (xs ++ ys) ≡ total w xs + total w ys = total_both w xs ys in omega (arith, z)

slot_total : (i n : ℕ) → total (λ (h : Handle). 1) (handles_in i n) ≡ n
slot_total i zero = refl
slot_total i (suc n) = let z : total (λ (h : Handle). 1) (handles_in i n) ≡ n = slot_total i n in omega (arith, z)

all_total : (i : ℕ) (ls : List SlotLife) → total (λ (h : Handle). 1) (handles_from i ls) ≡ total created_in ls
all_total i [] = refl
all_total i (l ∷ ls) =
    let a = total_both (λ (h : Handle). 1) (handles_in i (created_in l)) (handles_from (i + 1) ls) in
    let b = slot_total i (created_in l) in
    let c = all_total (i + 1) ls in
    a ∙ (ap (λ n. n + total (λ (h : Handle). 1) (handles_from (i + 1) ls)) b ∙ ap (λ n. created_in l + n) c)

-- a handle was created exactly where its generation is below those created
created_by : (life : SlotLife) (g : ℕ) (a : Answer) (low pending last : Bool) → nat_lt g (length life.fates) ≡ low → life.is_pending ≡ pending → (g == length life.fates) ≡ last → answer_in life g ≡ Some a → g < created_in life
created_by life g a true pending last el ep ex e = let z : g < length life.fates = ltb-true g (length life.fates) el in omega (arith, z)
created_by life g a false true true el ep ex e = (let z : g ≡ length life.fates = eqb-true g (length life.fates) ex in subst (λ p. g < length life.fates + cond p 1 0) (sym ep) (omega (arith, z)))
created_by life g a false true false el ep ex e = absurd (none-some a (sym ((λ t. cond (el t) (Some (answer_of (slice_index_or life.fates g Ok))) (cond (ep t && ex t) (Some Pending) None))) ∙ e))
created_by life g a false false last el ep ex e = absurd (none-some a (sym ((λ t. cond (el t) (Some (answer_of (slice_index_or life.fates g Ok))) (cond (ep t && ex t) (Some Pending) None))) ∙ e))

pub created : (life : SlotLife) (g : ℕ) (a : Answer) → answer_in life g ≡ Some a → g < created_in life
created life g a e = created_by life g a (nat_lt g (length life.fates)) life.is_pending (g == length life.fates) refl refl refl e

pub answered_by : (life : SlotLife) (g : ℕ) (low pending : Bool) → nat_lt g (length life.fates) ≡ low → life.is_pending ≡ pending → g < created_in life → (a : Answer) × (answer_in life g ≡ Some a)
answered_by life g true pending el ep b = (answer_of (slice_index_or life.fates g Ok), ap (λ c. cond c (Some (answer_of (slice_index_or life.fates g Ok))) (cond (life.is_pending && (g == length life.fates)) (Some Pending) None)) el)
answered_by life g false true el ep b =
    let far : length life.fates ≤ g = ltb-false g (length life.fates) el in
    let c : g < length life.fates + 1 = subst (λ p. g < length life.fates + cond p 1 0) ep b in
    let same : g ≡ length life.fates = omega (arith, far, c) in
    let x = eq-eqb g (length life.fates) same in
    (Pending, λ t. cond (el t) (Some (answer_of (slice_index_or life.fates g Ok))) (cond (ep t && x t) (Some Pending) None))
answered_by life g false false el ep b =
    let far : length life.fates ≤ g = ltb-false g (length life.fates) el in
    let c : g < length life.fates + 0 = subst (λ p. g < length life.fates + cond p 1 0) ep b in
    absurd (omega (arith, far, c))

-- THE COUNT
pub created_count : (m : EventMap) (handles : List Handle) → ((a b : ℕ) (h : Handle) → slice_get handles a ≡ Some h → slice_get handles b ≡ Some h → a ≡ b) →
    ((h : Handle) → Contains handles h → (a : Answer) × (answer m h ≡ Some a)) → ((h : Handle) (a : Answer) → answer m h ≡ Some a → Contains handles h) → total created_in m.slots ≡ length handles
created_count m handles once made only =
    sym (all_total 0 m.slots)
    ∙ (same_total (λ (h : Handle). 1) (handles_from 0 m.slots) handles (distinct_all 0 m.slots) (once_distinct handles once)
    (λ h c. (let k = in_all 0 m.slots h c in
    let z : h.slot ≡ k.at = (let y : h.slot ≡ 0 + k.at = k.slot_is in omega (arith, y)) in
    let a = answered_by (life_at m k.at) h.gen_ (nat_lt h.gen_ (length (life_at m k.at).fates)) (life_at m k.at).is_pending refl refl k.below in
    only h a.0 (ap (λ s. answer_in (life_at m s) h.gen_) z ∙ a.1)))
    (λ h c. (let a = made h c in
    let b = created (life_at m h.slot) h.gen_ a.0 a.1 in
    elim (cases_lt h.slot (length m.slots)) [
      | inl near ↦ all_has 0 m.slots h (record { at = h.slot; near = near; slot_is = (let z : h.slot ≡ 0 + h.slot = omega arith in z); below = b })
      | inr far ↦ (let z : h.gen_ < 0 = subst (λ (l : SlotLife). h.gen_ < created_in l) (get_or_past m.slots h.slot unused far) b in absurd (omega (arith, z)))
    ]))
    ∙ total_length handles)
