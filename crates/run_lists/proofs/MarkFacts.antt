-- The waiters that are busy go with the table.
use Rattle.std.proofs.Common.{◌≡◌, ℕ, Bool, ◌<◌, ◌≤◌, true, false, inl, inr, List, [], ◌∷◌, ◌++◌, length, refl, sym, ◌∙◌, ap, subst, arith}
use Rattle.std.specs.Prelude.{◌≢◌, Option, Some, None, IsSome, Contains, slice_get, slice_index_or, slice_set}
use Rattle.std.proofs.lemmas.Bool.{true≢false, false≢true, cases_eq}
use Rattle.std.proofs.lemmas.List.{get_or-set_same, get_or-set_other, length-set}
use Rattle.std.proofs.lemmas.Option.{same_Some, slice_get-get_or}
use Rattle.std.proofs.lemmas.List.Elements.{Contains-append_left, Contains-append_right}
use Rattle.event_table.specs.declared.handle.Handle.{Handle}
use Rattle.event_table.specs.declared.handle.Fate.{Fate}
use Rattle.event_table.specs.declared.handle.Answer.{Answer}
use Rattle.event_table.specs.declared.handle.Answer.TheVariants.{Pending}
use Rattle.event_table.specs.EventMap.{EventMap, SlotLife, unused, life_at, created_at, placed_on, ended_with, IsFree, Gives, KeepsFree, with_life, answer, all_on, no_event, IsCreated, IsPlaced, WatchedNow, answer_of}
use Rattle.event_table.specs.declared.handle.WatchNow.TheVariants.{Over}
use Rattle.basics.proofs.ListFacts.{contains_there, contains_cases, contains_map, set_get, set_get_other}
use Rattle.event_table.proofs.Public.{answer_apart, near_some}
use Rattle.run_lists.specs.Events.{EventsValue, IsBusy, AreMarked}

-- WHERE THOSE THAT WERE BUSY STAY SO, and those that were free too
pub marked_kept : (m n : EventMap) (busy : List Bool) → n.waiters ≡ m.waiters → KeepsFree m n → ((k : ℕ) → IsBusy m k → IsBusy n k) → AreMarked m busy → AreMarked n busy
marked_kept m n busy same free stays marked = record {
  each = marked.each ∙ sym same;
  free = λ k at. free k (marked.free k at);
  placed = λ k at. stays k (marked.placed k at);
}

-- who waits, where one slot changes
waits_stay : (m : EventMap) (i : ℕ) (life : SlotLife) → i < length m.slots → ((k : ℕ) → Contains (life_at m i).waiting k → Contains life.waiting k) → (j k : ℕ) → Contains (life_at m j).waiting k → Contains (life_at (with_life m i life) j).waiting k
waits_stay m i life near grows j k c = elim (cases_eq j i) [
  | inl same ↦ subst (λ (l : SlotLife). Contains l.waiting k) (sym (ap (life_at (with_life m i life)) same ∙ get_or-set_same m.slots i life unused near)) (grows k (subst (λ x. Contains (life_at m x).waiting k) same c))
  | inr other ↦ subst (λ (l : SlotLife). Contains l.waiting k) (sym (get_or-set_other m.slots i j life unused other)) c
]

busy_created : (m : EventMap) (i : ℕ) → i < length m.slots → (k : ℕ) → IsBusy m k → IsBusy (created_at m i) k
busy_created m i near k b = elim b [
  | inl waits ↦ inl (waits.0, waits_stay m i (record { fates = (life_at m i).fates; is_pending = true; waiting = (life_at m i).waiting }) near (λ j c. c) waits.0 k waits.1)
  | inr caught ↦ inr caught
]

pub marked_created : (m n : EventMap) (busy : List Bool) (i : ℕ) → n ≡ created_at m i → i < length m.slots → KeepsFree m n → AreMarked m busy → AreMarked n busy
marked_created m n busy i is near free marked = marked_kept m n busy (ap (λ (t : EventMap). t.waiters) is) free (λ k b. subst (λ (t : EventMap). IsBusy t k) (sym is) (busy_created m i near k b)) marked

-- THE HANDLE ENDS: those that waited on it are caught
busy_ended : (m : EventMap) (h : Handle) (f : Fate) (k : ℕ) → IsBusy m k → IsBusy (ended_with m h f) k
busy_ended m h f k b = elim b [
  | inl waits ↦ (elim (cases_eq waits.0 h.slot) [
    | inl same ↦ inr (h, Contains-append_left {X = ℕ × Handle} (all_on h (life_at m h.slot).waiting) m.caught (k, h) (contains_map (λ (j : ℕ). (j, h)) (life_at m h.slot).waiting k (subst (λ x. Contains (life_at m x).waiting k) same waits.1)))
    | inr other ↦ inl (waits.0, subst (λ (l : SlotLife). Contains l.waiting k) (sym (get_or-set_other m.slots h.slot waits.0 (record { fates = (life_at m h.slot).fates ++ f ∷ []; is_pending = false; waiting = [] }) unused other)) waits.1)
  ])
  | inr caught ↦ inr (caught.0, Contains-append_right {X = ℕ × Handle} (all_on h (life_at m h.slot).waiting) m.caught (k, caught.0) caught.1)
]

pub marked_ended : (m n : EventMap) (busy : List Bool) (h : Handle) (f : Fate) → n ≡ ended_with m h f → KeepsFree m n → AreMarked m busy → AreMarked n busy
marked_ended m n busy h f is free marked = marked_kept m n busy (ap (λ (t : EventMap). t.waiters) is) free (λ k b. subst (λ (t : EventMap). IsBusy t k) (sym is) (busy_ended m h f k b)) marked

-- where another mark stands than the one that was set, the mark is an old one
old_mark : (busy : List Bool) (k : ℕ) (b : Bool) → k < length busy → (j : ℕ) (a : Bool) → a ≢ b → slice_get (slice_set busy k b) j ≡ Some a → (j ≢ k) × (slice_get busy j ≡ Some a)
old_mark busy k b near j a differ at =
    let other : j ≢ k = λ same. differ (same_Some a b (sym at ∙ (ap (slice_get (slice_set busy k b)) same ∙ set_get busy k b near))) in
    (other, sym (set_get_other busy k j b other) ∙ at)

busy_placed : (m : EventMap) (h : Handle) (i : ℕ) → h.slot < length m.slots → (k : ℕ) → IsBusy m k → IsBusy (placed_on m h i) k
busy_placed m h i near k b = elim b [
  | inl waits ↦ inl (waits.0, waits_stay m h.slot (record { fates = (life_at m h.slot).fates; is_pending = (life_at m h.slot).is_pending; waiting = i ∷ (life_at m h.slot).waiting }) near (λ j c. contains_there i (life_at m h.slot).waiting j c) waits.0 k waits.1)
  | inr caught ↦ inr caught
]

pub marked_placed : (m n : EventMap) (busy : List Bool) (h : Handle) (k : ℕ) → n ≡ placed_on m h k → answer m h ≡ Some Pending → k < m.waiters → IsPlaced n k h → ((j : ℕ) → j ≢ k → IsFree m j → IsFree n j) → AreMarked m busy → AreMarked n (slice_set busy k true)
marked_placed m n busy h k is pending line placed free marked =
    let near : k < length busy = subst (λ w. k < w) (sym marked.each) line in
    let slot = near_some m h Pending pending in
    record {
      each = length-set busy k true ∙ (marked.each ∙ sym (ap (λ (t : EventMap). t.waiters) is));
      free = λ j at. (let old = old_mark busy k true near j false false≢true at in free j old.0 (marked.free j old.1));
      placed = λ j at. (elim (cases_eq j k) [
        | inl same ↦ inl (h.slot, subst (Contains (life_at n h.slot).waiting) (sym same) placed.stands)
        | inr other ↦ subst (λ (t : EventMap). IsBusy t j) (sym is) (busy_placed m h k slot j (marked.placed j (sym (set_get_other busy k j true other) ∙ at)))
      ]);
    }

-- A WAITER IS GIVEN, and is free again
busy_given : (m n : EventMap) (k j : ℕ) → Gives m k n → j ≢ k → IsBusy m j → IsBusy n j
busy_given m n k j gives other b = elim b [
  | inl waits ↦ inl (waits.0, subst (λ (ls : List SlotLife). Contains (slice_index_or ls waits.0 unused).waiting j) (sym gives.4) waits.1)
  | inr caught ↦ (elim (contains_cases {X = ℕ × Handle} (k, gives.0) n.caught (j, caught.0) (subst (λ (l : List (ℕ × Handle)). Contains l (j, caught.0)) gives.1 caught.1)) [
    | inl first ↦ absurd (other (sym (ap (λ (p : ℕ × Handle). p.0) first)))
    | inr rest ↦ inr (caught.0, rest)
  ])
]

pub marked_given : (m n : EventMap) (busy : List Bool) (k : ℕ) → Gives m k n → IsFree n k → KeepsFree m n → AreMarked m busy → AreMarked n (slice_set busy k false)
marked_given m n busy k gives now free marked =
    let near : k < length busy = subst (λ w. k < w) (sym (marked.each ∙ sym gives.2)) now.number in
    record {
      each = length-set busy k false ∙ (marked.each ∙ sym gives.2);
      free = λ j at. (elim (cases_eq j k) [
        | inl same ↦ subst (IsFree n) (sym same) now
        | inr other ↦ free j (marked.free j (sym (set_get_other busy k j false other) ∙ at))
      ]);
      placed = λ j at. (let old = old_mark busy k false near j true true≢false at in busy_given m n k j gives old.0 (marked.placed j old.1));
    }

-- A HANDLE OF THE TABLE is not NO_EVENT
pub no_event_apart : (m : EventMap) (h : Handle) (a : Answer) → length m.slots ≤ 8192 → answer m h ≡ Some a → h ≢ no_event
no_event_apart m h a few at same =
    let near : h.slot < length m.slots = near_some m h a at in
    let far : h.slot ≡ 4294967295 = ap (λ (x : Handle). x.slot) same in
    absurd (omega (arith, near, far, few))

-- what watching a pending handle can't answer
pub never_over : (m n : EventMap) (h : Handle) (k : ℕ) (f : Fate) → WatchedNow m n h k (Over f) → answer m h ≡ Some Pending → length m.slots ≤ 8192 → ⊥
never_over m n h k f watched pending few = elim watched.1 [
  | inl none ↦ no_event_apart m h Pending few pending none.0
  | inr ended ↦ answer_apart f (same_Some Pending (answer_of f) (sym pending ∙ ended))
]

-- who is busy isn't free
pub busy_or_free : (m : EventMap) (busy : List Bool) (k : ℕ) → AreMarked m busy → slice_get busy k ≡ Some true → IsFree m k → ⊥
busy_or_free m busy k marked at free = elim (marked.placed k at) [
  | inl waits ↦ free.unplaced waits.0 waits.1
  | inr caught ↦ free.uncaught caught.0 caught.1
]

-- what is read of a list
pub read_at : {X : Type 0} (xs : List X) (i : ℕ) (x y : X) → i < length xs → x ≡ slice_index_or xs i x → x ≡ y → slice_get xs i ≡ Some y
read_at xs i x y near read is = slice_get-get_or xs i x near ∙ ap Some (sym read ∙ is)

-- THE EVENTS, as they are shown
pub pending_shown : (v now : EventsValue) → v ≡ now → (i : ℕ) (g : Handle) → slice_get v.handles i ≡ Some g → ((h : Handle) → slice_get now.handles i ≡ Some h → answer now.table h ≡ Some Pending) → answer v.table g ≡ Some Pending
pending_shown v now same i g at pending = subst (λ (x : EventsValue). ((h : Handle) → slice_get x.handles i ≡ Some h → answer x.table h ≡ Some Pending) → answer v.table g ≡ Some Pending) same (λ all. all g at) pending

abbrev with_map : EventsValue → EventMap → EventsValue
with_map v table = record { handles = v.handles; «table» = table }

pub placed_shown : (v now : EventsValue) → v ≡ now → (after : EventMap) (i k : ℕ) (g : Handle) → slice_get v.handles i ≡ Some g → after ≡ placed_on v.table g k →
    (h : Handle) → slice_get now.handles i ≡ Some h → ◌≡◌ {A = EventsValue} (record { handles = v.handles; table = after }) (record { handles = now.handles; table = placed_on now.table h k })
placed_shown v now same after i k g at is h read =
    subst (λ (x : EventsValue). slice_get x.handles i ≡ Some h → ◌≡◌ {A = EventsValue} (record { handles = v.handles; table = after }) (record { handles = x.handles; table = placed_on x.table h k })) same
    (λ here. ap (with_map v) (is ∙ ap (λ (x : Handle). placed_on v.table x k) (same_Some g h (sym at ∙ here)))) read

some_answer : (o : Option Answer) → IsSome o → (a : Answer) × (o ≡ Some a)
some_answer None is = absurd (false≢true is)
some_answer (Some a) is = (a, refl)

pub created_shown : (v now : EventsValue) → v ≡ now → (i : ℕ) (g : Handle) → slice_get v.handles i ≡ Some g → ((h : Handle) → slice_get now.handles i ≡ Some h → IsSome (answer now.table h)) → IsCreated v.table g
created_shown v now same i g at created =
    let some = subst (λ (x : EventsValue). ((h : Handle) → slice_get x.handles i ≡ Some h → IsSome (answer x.table h)) → IsSome (answer v.table g)) same (λ all. all g at) created in
    record { created = inr (some_answer (answer v.table g) some) }

pub answer_shown_at : (v now : EventsValue) → v ≡ now → (i : ℕ) (g : Handle) → slice_get v.handles i ≡ Some g → length v.table.slots ≤ 8192 → ((h : Handle) → slice_get now.handles i ≡ Some h → IsSome (answer now.table h)) →
    (a : Answer) → (g ≢ no_event → answer v.table g ≡ Some a) → (h : Handle) → slice_get now.handles i ≡ Some h → answer now.table h ≡ Some a
answer_shown_at v now same i g at few created a told h read =
    let some = some_answer (answer v.table g) (subst (λ (x : EventsValue). ((h : Handle) → slice_get x.handles i ≡ Some h → IsSome (answer x.table h)) → IsSome (answer v.table g)) same (λ all. all g at) created) in
    let is : answer v.table g ≡ Some a = told (no_event_apart v.table g some.0 few some.1) in
    subst (λ (x : EventsValue). slice_get x.handles i ≡ Some h → answer x.table h ≡ Some a) same (λ here. ap (answer v.table) (same_Some h g (sym here ∙ at)) ∙ is) read
