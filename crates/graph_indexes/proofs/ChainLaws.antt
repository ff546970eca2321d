-- Names in chains: one more name, another thing that a name stands for, the names in other chains.
use Rattle.std.proofs.Common.{◌≡◌, ◌≢◌, ℕ, zero, suc, ◌+◌, ◌<◌, ◌≤◌, Bool, true, false, cond, nat_eq, inl, inr, List, [], ◌∷◌, ◌++◌, length, get_or, take, slice_set, refl, sym, ◌∙◌, ap, subst, arith}
use Rattle.std.specs.Prelude.{Option, Some, None, slice_get, ◌⊎◌}
use Rattle.std.specs.Str.{bytes_eq}
use Rattle.std.proofs.lemmas.Bool.{cases_lt, true≢false}
use Rattle.std.proofs.lemmas.Bool.Decides.{eqb_tells}
use Rattle.std.proofs.lemmas.List.{get_or-set_other, length-append, length-set, get_or_push}
use Rattle.std.proofs.lemmas.Grind.{get_or-set_at}
use Rattle.std.proofs.lemmas.Option.{none-some, same_Some, slice_get_past, slice_get_within, slice_get_read, slice_get-get_or}
use Rattle.std.proofs.Math.ListN.{get_or-append}
use Rattle.std.proofs.lemmas.Slice.Eq.{bytes_eq-Decides}
use Rattle.graph_terms.specs.declared.found.Found.{Found}
use Rattle.graph_indexes.specs.declared.chains.Entry.{Entry}
use Rattle.graph_indexes.specs.declared.chains.Seat.{Seat}
use Rattle.graph_indexes.specs.declared.chains.Seat.TheVariants.{Own, Free, Full}
use Rattle.graph_indexes.specs.declared.chains.TheConstants.{STEPS}
use Rattle.graph_indexes.specs.Names.{ChainsValue, NamesValue, slot_of, seat_by, seat_in, seat_from, seat_of, mapped, told_by, next_by, told_at, told, told_or, named, IsWithin, AreChains, Copies}

same_name : (a b : List ℕ) → bytes_eq a b ≡ true → a ≡ b
same_name a b e = (bytes_eq-Decides a b).0 e

-- names in different slots differ
apart : (n : ℕ) (a b : List ℕ) → slot_of n a ≢ slot_of n b → bytes_eq a b ≡ false
apart n a b d = apart_by (bytes_eq a b) refl
  where
    apart_by : (t : Bool) → bytes_eq a b ≡ t → bytes_eq a b ≡ false
    apart_by true e = absurd (d (ap (slot_of n) (same_name a b e)))
    apart_by false e = e

-- an item behind others, and those before it
get_last : {X : Type 0} (xs : List X) (x : X) → slice_get (xs ++ x ∷ []) (length xs) ≡ Some x
get_last xs x = slice_get-get_or (xs ++ x ∷ []) (length xs) x (let n = length-append xs (x ∷ []) in omega arith) ∙ ap Some (get_or_push xs x x (length xs) refl)

get_kept : {X : Type 0} (xs : List X) (x : X) (k : ℕ) → k < length xs → slice_get (xs ++ x ∷ []) k ≡ slice_get xs k
get_kept xs x k h =
    slice_get-get_or (xs ++ x ∷ []) k x (let n = length-append xs (x ∷ []) in omega arith) ∙ (ap Some (get_or-append xs (x ∷ []) x k h) ∙ sym (slice_get-get_or xs k x h))

set_here : {X : Type 0} (entries : List X) (n : ℕ) (e : X) → n < length entries → slice_get (slice_set entries n e) n ≡ Some e
set_here entries n e h =
    slice_get-get_or (slice_set entries n e) n e (let l = length-set entries n e in omega arith) ∙ ap Some (get_or-set_at entries n n e e refl h)

set_there : {X : Type 0} (entries : List X) (n m : ℕ) (e : X) → m ≢ n → slice_get (slice_set entries n e) m ≡ slice_get entries m
set_there entries n m e other = elim (cases_lt m (length entries)) [
  | inl below ↦ (slice_get-get_or (slice_set entries n e) m e (let l = length-set entries n e in omega arith) ∙ (ap Some (get_or-set_other entries n m e e other) ∙ sym (slice_get-get_or entries m e below)))
  | inr past ↦ (slice_get_past (slice_set entries n e) m (let l = length-set entries n e in omega arith) ∙ sym (slice_get_past entries m past))
]

-- which variant a seat is, and its number
abbrev is_own : Seat → Bool
is_own (Own n) = true
is_own Free = false
is_own Full = false

abbrev is_free : Seat → Bool
is_free (Own n) = false
is_free Free = true
is_free Full = false

abbrev number : Seat → ℕ
number (Own n) = n
number Free = 0
number Full = 0

abbrev Linked : List Entry → Type 0
Linked es = (k : ℕ) (e : Entry) → slice_get es k ≡ Some e → IsWithin es e.next

-- a name that is in a chain has its own entry there
record IsOwnAt (es : List Entry) (q : List ℕ) (n : ℕ) : Type 0 where
  entry : Entry
  has : slice_get es n ≡ Some entry
  own : bytes_eq entry.name q ≡ true

own_is : (es : List Entry) (q : List ℕ) (k : ℕ) (link : Option ℕ) (n : ℕ) → seat_in es q k link ≡ Own n → IsOwnAt es q n
own_is es q zero link n e = absurd (true≢false (sym (ap is_own e)))
own_is es q (suc k) None n e = absurd (true≢false (sym (ap is_own e)))
own_is es q (suc k) (Some m) n e = by_entry (slice_get es m) refl (λ l. own_is es q k l n) e
  where
    by_name : (x : Entry) → slice_get es m ≡ Some x → (seat_in es q k x.next ≡ Own n → IsOwnAt es q n) → (b : Bool) → bytes_eq x.name q ≡ b → cond b (Own m) (seat_in es q k x.next) ≡ Own n → IsOwnAt es q n
    by_name x h ih true b e = record { entry = x; has = ap (slice_get es) (sym (ap number e)) ∙ h; own = b }
    by_name x h ih false b e = ih e

    by_entry : (o : Option Entry) → slice_get es m ≡ o → ((l : Option ℕ) → seat_in es q k l ≡ Own n → IsOwnAt es q n) → seat_by q m (seat_in es q k) o ≡ Own n → IsOwnAt es q n
    by_entry None h ih e = absurd (true≢false (sym (ap is_own e)))
    by_entry (Some x) h ih e = by_name x h (ih x.next) (bytes_eq x.name q) refl e

own_below : (es : List Entry) (q : List ℕ) (k : ℕ) (link : Option ℕ) (n : ℕ) → seat_in es q k link ≡ Own n → n < length es
own_below es q k link n e = let o = own_is es q k link n e in slice_get_within es n o.entry o.has

-- a step along a chain
pub seat_on : (es : List Entry) (q : List ℕ) (k j n : ℕ) (e : Entry) → k ≡ suc j → slice_get es n ≡ Some e → bytes_eq e.name q ≡ false → seat_in es q k (Some n) ≡ seat_in es q j e.next
seat_on es q k j n e s h o = ap (λ i. seat_in es q i (Some n)) s ∙ (ap (seat_by q n (seat_in es q j)) h ∙ ap (λ b. cond b (Own n) (seat_in es q j e.next)) o)

pub seat_own : (es : List Entry) (q : List ℕ) (k j n : ℕ) (e : Entry) → k ≡ suc j → slice_get es n ≡ Some e → bytes_eq e.name q ≡ true → seat_in es q k (Some n) ≡ Own n
seat_own es q k j n e s h o = ap (λ i. seat_in es q i (Some n)) s ∙ (ap (seat_by q n (seat_in es q j)) h ∙ ap (λ b. cond b (Own n) (seat_in es q j e.next)) o)

pub seat_past : (es : List Entry) (q : List ℕ) (k j n : ℕ) → k ≡ suc j → slice_get es n ≡ None → seat_in es q k (Some n) ≡ Free
seat_past es q k j n s h = ap (λ i. seat_in es q i (Some n)) s ∙ ap (seat_by q n (seat_in es q j)) h

pub seat_end : (es : List Entry) (q : List ℕ) (k j : ℕ) → k ≡ suc j → seat_in es q k None ≡ Free
seat_end es q k j s = ap (λ i. seat_in es q i None) s

-- one more entry changes no chain
seat_kept : (es : List Entry) (x : Entry) (q : List ℕ) (k : ℕ) (link : Option ℕ) → Linked es → IsWithin es link → seat_in (es ++ x ∷ []) q k link ≡ seat_in es q k link
seat_kept es x q zero link l h = refl
seat_kept es x q (suc k) None l h = refl
seat_kept es x q (suc k) (Some n) l h =
    ap (seat_by q n (seat_in (es ++ x ∷ []) q k)) (get_kept es x n (h n refl)) ∙ by_entry (slice_get es n) refl (λ link. seat_kept es x q k link l)
  where
    by_entry : (o : Option Entry) → slice_get es n ≡ o → ((link : Option ℕ) → IsWithin es link → seat_in (es ++ x ∷ []) q k link ≡ seat_in es q k link) →
        seat_by q n (seat_in (es ++ x ∷ []) q k) o ≡ seat_by q n (seat_in es q k) o
    by_entry None g ih = refl
    by_entry (Some e) g ih = ap (cond (bytes_eq e.name q) (Own n)) (ih e.next (l n e g))

-- where one name has a place at the end of a chain, another name is found one step sooner, or the chain ends just there
abbrev Sooner : List Entry → List ℕ → ℕ → Option ℕ → Type 0
Sooner es q k link = (seat_in es q (suc k) link ≡ seat_in es q k link) ⊎ ((seat_in es q (suc k) link ≡ Free) × (seat_in es q k link ≡ Full))

sooner : (es : List Entry) (name q : List ℕ) (k : ℕ) (link : Option ℕ) → seat_in es name (suc k) link ≡ Free → Sooner es q k link
sooner es name q zero None e = inr (refl, refl)
sooner es name q zero (Some n) e = by_entry (slice_get es n) e
  where
    not_free : (b : Bool) → cond b (Own n) Full ≡ Free → false ≡ true
    not_free true e = ap is_free e
    not_free false e = ap is_free e

    by_entry : (o : Option Entry) → seat_by name n (seat_in es name zero) o ≡ Free → (seat_by q n (seat_in es q zero) o ≡ Full) ⊎ ((seat_by q n (seat_in es q zero) o ≡ Free) × (Full ≡ Full))
    by_entry None e = inr (refl, refl)
    by_entry (Some x) e = absurd (true≢false (sym (not_free (bytes_eq x.name name) e)))
sooner es name q (suc k) None e = inl refl
sooner es name q (suc k) (Some n) e = by_entry (slice_get es n) (λ l. sooner es name q k l) e
  where
    step : (x : Entry) → Sooner es q k x.next → (b : Bool) →
        (cond b (Own n) (seat_in es q (suc k) x.next) ≡ cond b (Own n) (seat_in es q k x.next)) ⊎ ((cond b (Own n) (seat_in es q (suc k) x.next) ≡ Free) × (cond b (Own n) (seat_in es q k x.next) ≡ Full))
    step x (inl s) true = inl refl
    step x (inl s) false = inl s
    step x (inr s) true = inl refl
    step x (inr s) false = inr s

    by_name : (x : Entry) → (seat_in es name (suc k) x.next ≡ Free → Sooner es q k x.next) → (b : Bool) → cond b (Own n) (seat_in es name (suc k) x.next) ≡ Free →
        (cond (bytes_eq x.name q) (Own n) (seat_in es q (suc k) x.next) ≡ cond (bytes_eq x.name q) (Own n) (seat_in es q k x.next))
        ⊎ ((cond (bytes_eq x.name q) (Own n) (seat_in es q (suc k) x.next) ≡ Free) × (cond (bytes_eq x.name q) (Own n) (seat_in es q k x.next) ≡ Full))
    by_name x ih true e = absurd (true≢false (ap is_own e))
    by_name x ih false e = step x (ih e) (bytes_eq x.name q)

    by_entry : (o : Option Entry) → ((l : Option ℕ) → seat_in es name (suc k) l ≡ Free → Sooner es q k l) → seat_by name n (seat_in es name (suc k)) o ≡ Free →
        (seat_by q n (seat_in es q (suc k)) o ≡ seat_by q n (seat_in es q k) o) ⊎ ((seat_by q n (seat_in es q (suc k)) o ≡ Free) × (seat_by q n (seat_in es q k) o ≡ Full))
    by_entry None ih e = inl refl
    by_entry (Some x) ih e = by_name x (ih x.next) (bytes_eq x.name name) e

-- the seat of a name by the first entry of the chain of its slot
seat_at : (v : ChainsValue) (q : List ℕ) (s : ℕ) (first : Option ℕ) → slot_of v.size q ≡ s → slice_get v.slots s ≡ Some first → seat_of v q ≡ seat_in v.entries q STEPS first
seat_at v q s first same has = ap (seat_from v.entries q) (ap (slice_get v.slots) same ∙ has)

-- a name that has an entry has it in the chain of its slot
own_at : (v : ChainsValue) (q : List ℕ) (n : ℕ) → seat_of v q ≡ Own n → IsOwnAt v.entries q n
own_at v q n e = by_link (slice_get v.slots (slot_of v.size q)) e
  where
    by_link : (o : Option (Option ℕ)) → seat_from v.entries q o ≡ Own n → IsOwnAt v.entries q n
    by_link None e = absurd (true≢false (sym (ap is_own e)))
    by_link (Some first) e = own_is v.entries q STEPS first n e

pub own_number : (v : ChainsValue) (name : List ℕ) (n : ℕ) → seat_of v name ≡ Own n → n < length v.entries
own_number v name n e = let o = own_at v name n e in slice_get_within v.entries n o.entry o.has

-- a name that has a place has a slot
pub record HasSlot (v : ChainsValue) (name : List ℕ) : Type 0 where
  pub first : Option ℕ
  pub has : slice_get v.slots (slot_of v.size name) ≡ Some first

pub free_slot : (v : ChainsValue) (name : List ℕ) → seat_of v name ≡ Free → HasSlot v name
free_slot v name e = by_link (slice_get v.slots (slot_of v.size name)) refl e
  where
    by_link : (o : Option (Option ℕ)) → slice_get v.slots (slot_of v.size name) ≡ o → seat_from v.entries name o ≡ Free → HasSlot v name
    by_link None h e = absurd (true≢false (sym (ap is_free e)))
    by_link (Some first) h e = record { first = first; has = h }

pub free_within : (v : ChainsValue) (name : List ℕ) → seat_of v name ≡ Free → slot_of v.size name < length v.slots
free_within v name e = let h = free_slot v name e in slice_get_within v.slots (slot_of v.size name) h.first h.has

-- a name that had a place in its chain, before the others there
abbrev new_entry : List ℕ → Option Found → Option ℕ → Entry
new_entry name found first = record { name = name; found = found; next = first }

abbrev with_entry : ChainsValue → List ℕ → Option Found → Option ℕ → ChainsValue
with_entry v name found first =
    record { size = v.size; slots = slice_set v.slots (slot_of v.size name) (Some (length v.entries)); entries = v.entries ++ new_entry name found first ∷ [] }

module _ (v : ChainsValue) (name : List ℕ) (found : Option Found) (first : Option ℕ) (a : AreChains v) (has : slice_get v.slots (slot_of v.size name) ≡ Some first) where
  below : slot_of v.size name < length v.slots
  below = slice_get_within v.slots (slot_of v.size name) first has

  seat_here : (q : List ℕ) → slot_of v.size q ≡ slot_of v.size name →
      seat_of (with_entry v name found first) q ≡ cond (bytes_eq name q) (Own (length v.entries)) (seat_in v.entries q 7 first)
  seat_here q same =
      seat_at (with_entry v name found first) q (slot_of v.size name) (Some (length v.entries)) same (set_here v.slots (slot_of v.size name) (Some (length v.entries)) below)
      ∙ (ap (seat_by q (length v.entries) (seat_in (v.entries ++ new_entry name found first ∷ []) q 7)) (get_last v.entries (new_entry name found first))
      ∙ ap (cond (bytes_eq name q) (Own (length v.entries))) (seat_kept v.entries (new_entry name found first) q 7 first a.linked (a.within (slot_of v.size name) first has)))

  seat_there : (q : List ℕ) → slot_of v.size q ≢ slot_of v.size name → seat_of (with_entry v name found first) q ≡ seat_of v q
  seat_there q other =
      ap (seat_from (v.entries ++ new_entry name found first ∷ []) q) (set_there v.slots (slot_of v.size name) (slot_of v.size q) (Some (length v.entries)) other)
      ∙ by_link (slice_get v.slots (slot_of v.size q)) refl
    where
      by_link : (o : Option (Option ℕ)) → slice_get v.slots (slot_of v.size q) ≡ o → seat_from (v.entries ++ new_entry name found first ∷ []) q o ≡ seat_from v.entries q o
      by_link None h = refl
      by_link (Some link) h = seat_kept v.entries (new_entry name found first) q STEPS link a.linked (a.within (slot_of v.size q) link h)

  told_kept : (s : Seat) → ((n : ℕ) → s ≡ Own n → n < length v.entries) → told_at (v.entries ++ new_entry name found first ∷ []) s ≡ told_at v.entries s
  told_kept (Own n) h = ap (λ o. Some (told_by o)) (get_kept v.entries (new_entry name found first) n (h n refl))
  told_kept Free h = refl
  told_kept Full h = refl

  with_entry_told : seat_of v name ≡ Free → (q : List ℕ) → told (with_entry v name found first) q ≡ cond (bytes_eq name q) (Some found) (told v q)
  with_entry_told free q = elim (eqb_tells (slot_of v.size q) (slot_of v.size name)) [
    | inl same ↦ by_name same.1 (bytes_eq name q) refl
    | inr other ↦ (ap (told_at (v.entries ++ new_entry name found first ∷ [])) (seat_there q other.1)
        ∙ (told_kept (seat_of v q) (own_number v q)
        ∙ sym (ap (λ b. cond b (Some found) (told v q)) (apart v.size name q (λ e. other.1 (sym e))))))
  ]
    where
      by_sooner : slot_of v.size q ≡ slot_of v.size name → Sooner v.entries q 7 first → told_at v.entries (seat_in v.entries q 7 first) ≡ told v q
      by_sooner same (inl s) = ap (told_at v.entries) (sym s ∙ sym (seat_at v q (slot_of v.size name) first same has))
      by_sooner same (inr s) = ap (told_at v.entries) s.1 ∙ sym (ap (told_at v.entries) (seat_at v q (slot_of v.size name) first same has ∙ s.0))

      by_name : slot_of v.size q ≡ slot_of v.size name → (b : Bool) → bytes_eq name q ≡ b → told (with_entry v name found first) q ≡ cond b (Some found) (told v q)
      by_name same true e =
          ap (told_at (v.entries ++ new_entry name found first ∷ [])) (seat_here q same ∙ ap (λ b. cond b (Own (length v.entries)) (seat_in v.entries q 7 first)) e)
          ∙ ap (λ o. Some (told_by o)) (get_last v.entries (new_entry name found first))
      by_name same false e =
          ap (told_at (v.entries ++ new_entry name found first ∷ [])) (seat_here q same ∙ ap (λ b. cond b (Own (length v.entries)) (seat_in v.entries q 7 first)) e)
          ∙ (told_kept (seat_in v.entries q 7 first) (own_below v.entries q 7 first)
          ∙ by_sooner same (sooner v.entries name q 7 first (sym (seat_at v name (slot_of v.size name) first refl has) ∙ free)))

  with_entry_chains : AreChains (with_entry v name found first)
  with_entry_chains = record {
    within = λ t link g n l. within_by t link g n l (eqb_tells t (slot_of v.size name));
    linked = λ k e g n l. linked_by k e g n l (cases_lt k (length v.entries));
  }
    where
      grown : length (v.entries ++ new_entry name found first ∷ []) ≡ length v.entries + 1
      grown = length-append v.entries (new_entry name found first ∷ [])

      within_by : (t : ℕ) (link : Option ℕ) → slice_get (slice_set v.slots (slot_of v.size name) (Some (length v.entries))) t ≡ Some link → (n : ℕ) → link ≡ Some n →
          ((nat_eq t (slot_of v.size name) ≡ true) × (t ≡ slot_of v.size name)) ⊎ ((nat_eq t (slot_of v.size name) ≡ false) × (t ≢ slot_of v.size name)) → n < length (v.entries ++ new_entry name found first ∷ [])
      within_by t link g n l (inl same) =
          let is : Some (length v.entries) ≡ link = same_Some (Some (length v.entries)) link (sym (ap (slice_get (slice_set v.slots (slot_of v.size name) (Some (length v.entries)))) same.1 ∙ set_here v.slots (slot_of v.size name) (Some (length v.entries)) below) ∙ g) in
          let at : length v.entries ≡ n = same_Some (length v.entries) n (is ∙ l) in
          omega (arith, at, grown)
      within_by t link g n l (inr other) =
          let old : n < length v.entries = a.within t link (sym (set_there v.slots (slot_of v.size name) t (Some (length v.entries)) other.1) ∙ g) n l in
          omega (arith, old, grown)

      linked_by : (k : ℕ) (e : Entry) → slice_get (v.entries ++ new_entry name found first ∷ []) k ≡ Some e → (n : ℕ) → e.next ≡ Some n → (k < length v.entries) ⊎ (length v.entries ≤ k) → n < length (v.entries ++ new_entry name found first ∷ [])
      linked_by k e g n l (inl before) =
          let old : n < length v.entries = a.linked k e (sym (get_kept v.entries (new_entry name found first) k before) ∙ g) n l in
          omega (arith, old, grown)
      linked_by k e g n l (inr past) =
          let inside : k < length (v.entries ++ new_entry name found first ∷ []) = slice_get_within (v.entries ++ new_entry name found first ∷ []) k e g in
          let last : length v.entries ≡ k = omega (arith, inside, grown, past) in
          let own : new_entry name found first ≡ e = same_Some (new_entry name found first) e (sym (get_last v.entries (new_entry name found first)) ∙ (ap (slice_get (v.entries ++ new_entry name found first ∷ [])) last ∙ g)) in
          let old : n < length v.entries = a.within (slot_of v.size name) first has n (ap (λ (z : Entry). z.next) own ∙ l) in
          omega (arith, old, grown)

abbrev chains : ℕ → List (Option ℕ) → List Entry → ChainsValue
chains n slots es = record { size = n; slots = slots; entries = es }

-- the same by what the code has of it
abbrev pub made : List (Option ℕ) → List Entry → ChainsValue
made slots es = record { size = length slots; slots = slots; entries = es }

pub made_is : (v : ChainsValue) (name : List ℕ) (found : Option Found) (s n : ℕ) (first : Option ℕ) (slots : List (Option ℕ)) (es : List Entry) → length v.slots ≡ v.size → s ≡ slot_of v.size name → n ≡ length v.entries →
    slots ≡ slice_set v.slots s (Some n) → es ≡ v.entries ++ record { name = name; found = found; next = first } ∷ [] → made slots es ≡ with_entry v name found first
made_is v name found s n first slots es size e1 e2 e3 e4 =
    let is : slots ≡ slice_set v.slots (slot_of v.size name) (Some (length v.entries)) =
    e3 ∙ (ap (λ t. slice_set v.slots t (Some n)) e1 ∙ ap (λ m. slice_set v.slots (slot_of v.size name) (Some m)) e2) in
    let long : length slots ≡ v.size = ap length is ∙ (length-set v.slots (slot_of v.size name) (Some (length v.entries)) ∙ size) in
    same (length slots) v.size slots (slice_set v.slots (slot_of v.size name) (Some (length v.entries))) es (v.entries ++ new_entry name found first ∷ []) long is e4
  where
    same : (n m : ℕ) (a b : List (Option ℕ)) (c d : List Entry) → n ≡ m → a ≡ b → c ≡ d → chains n a c ≡ chains m b d
    same n m a b c d p q r = cc

seat_set : (es : List Entry) (n : ℕ) (old new : Entry) (q : List ℕ) → slice_get es n ≡ Some old → new.name ≡ old.name → new.next ≡ old.next → (k : ℕ) (link : Option ℕ) →
    seat_in (slice_set es n new) q k link ≡ seat_in es q k link
seat_set es n old new q has name next zero link = refl
seat_set es n old new q has name next (suc k) None = refl
seat_set es n old new q has name next (suc k) (Some m) = by_place (eqb_tells m n) (λ l. seat_set es n old new q has name next k l)
  where
    by_entry : (o : Option Entry) → ((l : Option ℕ) → seat_in (slice_set es n new) q k l ≡ seat_in es q k l) → seat_by q m (seat_in (slice_set es n new) q k) o ≡ seat_by q m (seat_in es q k) o
    by_entry None ih = refl
    by_entry (Some x) ih = ap (cond (bytes_eq x.name q) (Own m)) (ih x.next)

    by_place : ((nat_eq m n ≡ true) × (m ≡ n)) ⊎ ((nat_eq m n ≡ false) × (m ≢ n)) → ((l : Option ℕ) → seat_in (slice_set es n new) q k l ≡ seat_in es q k l) →
        seat_in (slice_set es n new) q (suc k) (Some m) ≡ seat_in es q (suc k) (Some m)
    by_place (inl same) ih =
        ap (seat_by q m (seat_in (slice_set es n new) q k)) (ap (slice_get (slice_set es n new)) same.1 ∙ set_here es n new (slice_get_within es n old has))
        ∙ (ap (λ w. cond (bytes_eq w q) (Own m) (seat_in (slice_set es n new) q k new.next)) name
        ∙ (ap (cond (bytes_eq old.name q) (Own m)) (ih new.next ∙ ap (seat_in es q k) next)
        ∙ sym (ap (seat_by q m (seat_in es q k)) (ap (slice_get es) same.1 ∙ has))))
    by_place (inr other) ih = ap (seat_by q m (seat_in (slice_set es n new) q k)) (set_there es n m new other.1) ∙ by_entry (slice_get es m) ih

-- another thing that the name of an entry stands for
abbrev pub with_found : ChainsValue → ℕ → Entry → ChainsValue
with_found v n e = record { size = v.size; slots = v.slots; entries = slice_set v.entries n e }

-- the name of the entry that a name has
own_name : (v : ChainsValue) (name : List ℕ) (n : ℕ) (old : Entry) → seat_of v name ≡ Own n → slice_get v.entries n ≡ Some old → name ≡ old.name
own_name v name n old own has =
    let o = own_at v name n own in
    sym (same_name o.entry.name name o.own) ∙ ap (λ (z : Entry). z.name) (same_Some o.entry old (sym o.has ∙ has))

-- a name that is elsewhere is another one
unlike : (v : ChainsValue) (a b : List ℕ) → seat_of v a ≢ seat_of v b → bytes_eq a b ≡ false
unlike v a b n = unlike_by (bytes_eq a b) refl
  where
    unlike_by : (t : Bool) → bytes_eq a b ≡ t → bytes_eq a b ≡ false
    unlike_by true e = absurd (n (ap (seat_of v) (same_name a b e)))
    unlike_by false e = e

seat_found : (v : ChainsValue) (n : ℕ) (old new : Entry) (q : List ℕ) → slice_get v.entries n ≡ Some old → new.name ≡ old.name → new.next ≡ old.next → seat_of (with_found v n new) q ≡ seat_of v q
seat_found v n old new q has name next = by_link (slice_get v.slots (slot_of v.size q))
  where
    by_link : (o : Option (Option ℕ)) → seat_from (slice_set v.entries n new) q o ≡ seat_from v.entries q o
    by_link None = refl
    by_link (Some first) = seat_set v.entries n old new q has name next STEPS first

with_found_told : (v : ChainsValue) (n : ℕ) (old : Entry) (name q : List ℕ) (found : Option Found) → seat_of v name ≡ Own n → slice_get v.entries n ≡ Some old →
    told (with_found v n (record { name = name; found = found; next = old.next })) q ≡ cond (bytes_eq name q) (Some found) (told v q)
with_found_told v n old name q found own has =
    ap (told_at (slice_set v.entries n new)) (seat_found v n old new q has (own_name v name n old own has) refl) ∙ by_seat (seat_of v q) refl
  where
    new : Entry
    new = record { name = name; found = found; next = old.next }

    at_number : (m : ℕ) → seat_of v q ≡ Own m → ((nat_eq m n ≡ true) × (m ≡ n)) ⊎ ((nat_eq m n ≡ false) × (m ≢ n)) →
        Some (told_by (slice_get (slice_set v.entries n new) m)) ≡ cond (bytes_eq name q) (Some found) (Some (told_by (slice_get v.entries m)))
    at_number m g (inl same) =
        let o = own_at v q m g in
        let is : o.entry ≡ old = same_Some o.entry old (sym o.has ∙ (ap (slice_get v.entries) same.1 ∙ has)) in
        let true_is : bytes_eq name q ≡ true = ap (λ w. bytes_eq w q) (own_name v name n old own has ∙ sym (ap (λ (z : Entry). z.name) is)) ∙ o.own in
        ap (λ o. Some (told_by o)) (ap (slice_get (slice_set v.entries n new)) same.1 ∙ set_here v.entries n new (slice_get_within v.entries n old has))
        ∙ sym (ap (λ b. cond b (Some found) (Some (told_by (slice_get v.entries m)))) true_is)
    at_number m g (inr other) =
        ap (λ o. Some (told_by o)) (set_there v.entries n m new other.1)
        ∙ sym (ap (λ b. cond b (Some found) (Some (told_by (slice_get v.entries m)))) (unlike v name q (λ e. other.1 (ap number (sym g ∙ (sym e ∙ own))))))

    by_seat : (s : Seat) → seat_of v q ≡ s → told_at (slice_set v.entries n new) s ≡ cond (bytes_eq name q) (Some found) (told_at v.entries s)
    by_seat (Own m) g = at_number m g (eqb_tells m n)
    by_seat Free g = sym (ap (λ b. cond b (Some found) None) (unlike v name q (λ e. true≢false (ap is_own (sym own ∙ (e ∙ g))))))
    by_seat Full g = sym (ap (λ b. cond b (Some found) None) (unlike v name q (λ e. true≢false (ap is_own (sym own ∙ (e ∙ g))))))

with_found_chains : (v : ChainsValue) (n : ℕ) (old : Entry) (name : List ℕ) (found : Option Found) → AreChains v → slice_get v.entries n ≡ Some old →
    AreChains (with_found v n (record { name = name; found = found; next = old.next }))
with_found_chains v n old name found a has = record {
  within = λ t link g m l. let b = a.within t link g m l in omega (arith, b, size);
  linked = λ k e g m l. linked_by k e g m l (eqb_tells k n);
}
  where
    new : Entry
    new = record { name = name; found = found; next = old.next }

    size : length (slice_set v.entries n new) ≡ length v.entries
    size = length-set v.entries n new

    linked_by : (k : ℕ) (e : Entry) → slice_get (slice_set v.entries n new) k ≡ Some e → (m : ℕ) → e.next ≡ Some m → ((nat_eq k n ≡ true) × (k ≡ n)) ⊎ ((nat_eq k n ≡ false) × (k ≢ n)) → m < length (slice_set v.entries n new)
    linked_by k e g m l (inl same) =
        let is : new ≡ e = same_Some new e (sym (ap (slice_get (slice_set v.entries n new)) same.1 ∙ set_here v.entries n new (slice_get_within v.entries n old has)) ∙ g) in
        let b : m < length v.entries = a.linked n old has m (ap (λ (z : Entry). z.next) is ∙ l) in
        omega (arith, b, size)
    linked_by k e g m l (inr other) =
        let b : m < length v.entries = a.linked k e (sym (set_there v.entries n k new other.1) ∙ g) m l in
        omega (arith, b, size)

-- the same by the number behind that entry
pub set_told : (v : ChainsValue) (n : ℕ) (name q : List ℕ) (found : Option Found) (next : Option ℕ) → seat_of v name ≡ Own n → next ≡ next_by (slice_get v.entries n) →
    told (with_found v n (record { name = name; found = found; next = next })) q ≡ cond (bytes_eq name q) (Some found) (told v q)
set_told v n name q found next own e =
    let o = own_at v name n own in
    ap (λ t. told (with_found v n (record { name = name; found = found; next = t })) q) (e ∙ ap next_by o.has) ∙ with_found_told v n o.entry name q found own o.has

pub set_chains : (v : ChainsValue) (n : ℕ) (name : List ℕ) (found : Option Found) (next : Option ℕ) → AreChains v → seat_of v name ≡ Own n → next ≡ next_by (slice_get v.entries n) →
    AreChains (with_found v n (record { name = name; found = found; next = next }))
set_chains v n name found next a own e =
    let o = own_at v name n own in
    subst (λ t. AreChains (with_found v n (record { name = name; found = found; next = t }))) (sym (e ∙ ap next_by o.has)) (with_found_chains v n o.entry name found a o.has)

-- one more name by what the code has of it
pub put_told : (v w : ChainsValue) (name : List ℕ) (found : Option Found) (s n : ℕ) (next : Option ℕ) (slots : List (Option ℕ)) (es : List Entry) → v ≡ w → length v.slots ≡ v.size → AreChains v → seat_of w name ≡ Free →
    s ≡ slot_of v.size name → n ≡ length v.entries → next ≡ get_or v.slots s next → slots ≡ slice_set v.slots s (Some n) → es ≡ v.entries ++ record { name = name; found = found; next = next } ∷ [] →
    (q : List ℕ) → told (made slots es) q ≡ cond (bytes_eq name q) (Some found) (told w q)
put_told v w name found s n next slots es e size a free slot number read set grown q =
    subst (λ (u : ChainsValue). seat_of u name ≡ Free → told (made slots es) q ≡ cond (bytes_eq name q) (Some found) (told u q)) e
    (λ free. ap (λ u. told u q) (made_is v name found s n next slots es size slot number set grown)
    ∙ with_entry_told v name found next a (slot_read v name s next slot read free) free q) free
  where
    slot_read : (v : ChainsValue) (name : List ℕ) (s : ℕ) (next : Option ℕ) → s ≡ slot_of v.size name → next ≡ get_or v.slots s next → seat_of v name ≡ Free → slice_get v.slots (slot_of v.size name) ≡ Some next
    slot_read v name s next slot read free = slice_get_read v.slots (length v.slots) (slot_of v.size name) next refl (free_within v name free) (read ∙ ap (λ t. get_or v.slots t next) slot)

pub put_chains : (v w : ChainsValue) (name : List ℕ) (found : Option Found) (s n : ℕ) (next : Option ℕ) (slots : List (Option ℕ)) (es : List Entry) → v ≡ w → length v.slots ≡ v.size → AreChains v → seat_of w name ≡ Free →
    s ≡ slot_of v.size name → n ≡ length v.entries → next ≡ get_or v.slots s next → slots ≡ slice_set v.slots s (Some n) → es ≡ v.entries ++ record { name = name; found = found; next = next } ∷ [] →
    AreChains (made slots es)
put_chains v w name found s n next slots es e size a free slot number read set grown =
    let here : seat_of v name ≡ Free = ap (λ u. seat_of u name) e ∙ free in
    let has : slice_get v.slots (slot_of v.size name) ≡ Some next =
    slice_get_read v.slots (length v.slots) (slot_of v.size name) next refl (free_within v name here) (read ∙ ap (λ t. get_or v.slots t next) slot) in
    subst AreChains (sym (made_is v name found s n next slots es size slot number set grown)) (with_entry_chains v name found next a has)

-- a name that no entry has is told nothing
pub free_told : (v : ChainsValue) (name : List ℕ) → seat_of v name ≡ Free → told v name ≡ None
free_told v name e = ap (told_at v.entries) e

pub full_told : (v : ChainsValue) (name : List ℕ) → seat_of v name ≡ Full → told v name ≡ None
full_told v name e = ap (told_at v.entries) e

pub other_told : (v : ChainsValue) (name : List ℕ) (s : Seat) → s ≡ seat_of v name → ((n : ℕ) → s ≢ Own n) → told v name ≡ None
other_told v name (Own n) e other = absurd (other n refl)
other_told v name Free e other = free_told v name (sym e)
other_told v name Full e other = full_told v name (sym e)

-- no slots, or slots without entries, tell nothing
pub empty_told : (slots : List (Option ℕ)) (q : List ℕ) → ((i : ℕ) (first : Option ℕ) → slice_get slots i ≡ Some first → first ≡ None) → told (made slots []) q ≡ None
empty_told slots q none = by_link (slice_get slots (slot_of (length slots) q)) refl
  where
    by_first : (first : Option ℕ) → first ≡ None → told_at [] (seat_in [] q STEPS first) ≡ None
    by_first None e = refl
    by_first (Some n) e = refl

    by_link : (o : Option (Option ℕ)) → slice_get slots (slot_of (length slots) q) ≡ o → told_at [] (seat_from [] q o) ≡ None
    by_link None e = refl
    by_link (Some first) e = by_first first (none (slot_of (length slots) q) first e)

-- the names that are copied so far: the others are told nothing, or the same
pub record AreCopied (from to : ChainsValue) (done : List Entry) : Type 0 where
  pub no_other : (q : List ℕ) → (told to q ≡ None) ⊎ (told to q ≡ told from q)
  pub each : (k : ℕ) (e : Entry) → slice_get done k ≡ Some e → told to e.name ≡ told from e.name

pub copied_none : (from to : ChainsValue) → ((q : List ℕ) → told to q ≡ None) → AreCopied from to []
copied_none from to none = record { no_other = λ q. inl (none q); each = λ k e g. absurd (none-some e g) }

pub copied_all : (from to : ChainsValue) → AreCopied from to from.entries → (q : List ℕ) → told to q ≡ told from q
copied_all from to c q = by_seat (seat_of from q) refl
  where
    by_none : (told to q ≡ None) ⊎ (told to q ≡ told from q) → told from q ≡ None → told to q ≡ told from q
    by_none (inl e) none = e ∙ sym none
    by_none (inr e) none = e

    by_seat : (s : Seat) → seat_of from q ≡ s → told to q ≡ told from q
    by_seat (Own n) g =
        let o = own_at from q n g in
        subst (λ w. told to w ≡ told from w) (same_name o.entry.name q o.own) (c.each n o.entry o.has)
    by_seat Free g = by_none (c.no_other q) (free_told from q g)
    by_seat Full g = by_none (c.no_other q) (full_told from q g)

pub copied_more : (from old new : ChainsValue) (done : List Entry) (e : Entry) → AreCopied from old done → Copies from old new e.name → AreCopied from new (done ++ e ∷ [])
copied_more from old new done e c p = record {
  no_other = λ q. other_by q (bytes_eq e.name q) refl (c.no_other q);
  each = λ k x g. each_by k x g (cases_lt k (length done));
}
  where
    here : (q : List ℕ) → bytes_eq e.name q ≡ true → told new q ≡ told from q
    here q t = p.puts q ∙ (ap (λ b. cond b (Some p.found) (told old q)) t ∙ (sym p.has ∙ ap (told from) (same_name e.name q t)))

    there : (q : List ℕ) → bytes_eq e.name q ≡ false → told new q ≡ told old q
    there q t = p.puts q ∙ ap (λ b. cond b (Some p.found) (told old q)) t

    other_by : (q : List ℕ) (b : Bool) → bytes_eq e.name q ≡ b → (told old q ≡ None) ⊎ (told old q ≡ told from q) → (told new q ≡ None) ⊎ (told new q ≡ told from q)
    other_by q true t o = inr (here q t)
    other_by q false t (inl o) = inl (there q t ∙ o)
    other_by q false t (inr o) = inr (there q t ∙ o)

    same_by : (x : Entry) (b : Bool) → bytes_eq e.name x.name ≡ b → told old x.name ≡ told from x.name → told new x.name ≡ told from x.name
    same_by x true t o = here x.name t
    same_by x false t o = there x.name t ∙ o

    each_by : (k : ℕ) (x : Entry) → slice_get (done ++ e ∷ []) k ≡ Some x → (k < length done) ⊎ (length done ≤ k) → told new x.name ≡ told from x.name
    each_by k x g (inl before) = same_by x (bytes_eq e.name x.name) refl (c.each k x (sym (get_kept done e k before) ∙ g))
    each_by k x g (inr past) =
        let inside : k < length (done ++ e ∷ []) = slice_get_within (done ++ e ∷ []) k x g in
        let long : length (done ++ e ∷ []) ≡ length done + 1 = length-append done (e ∷ []) in
        let last : length done ≡ k = omega (arith, inside, long, past) in
        let own : e ≡ x = same_Some e x (sym (get_last done e) ∙ (ap (slice_get (done ++ e ∷ [])) last ∙ g)) in
        here x.name (ap (λ (z : Entry). bytes_eq e.name z.name) (sym own) ∙ (bytes_eq-Decides e.name e.name).1 refl)

-- a change of the map at a name that no chain has
abbrev pub names : ChainsValue → List (List ℕ × Found) → NamesValue
names chains others = record { chains = chains; others = others }

pub beside_named : (v : ChainsValue) (old new : List (List ℕ × Found)) (name q : List ℕ) (x : Option Found) → told v name ≡ None → ((p : List ℕ) → mapped new p ≡ cond (bytes_eq name p) x (mapped old p)) →
    named (names v new) q ≡ cond (bytes_eq name q) x (named (names v old) q)
beside_named v old new name q x none h = ap (told_or (told v q)) (h q) ∙ by_name (bytes_eq name q) refl
  where
    same_by : (o : Option (Option Found)) → told_or o (mapped old q) ≡ told_or o (mapped old q)
    same_by o = refl

    by_name : (b : Bool) → bytes_eq name q ≡ b → told_or (told v q) (cond b x (mapped old q)) ≡ cond b x (told_or (told v q) (mapped old q))
    by_name true e = ap (λ o. told_or o x) (ap (told v) (sym (same_name name q e)) ∙ none)
    by_name false e = refl

-- a change of what the chains tell of a name
pub chained_named : (old new : ChainsValue) (others : List (List ℕ × Found)) (name q : List ℕ) (x : Option Found) → ((p : List ℕ) → told new p ≡ cond (bytes_eq name p) (Some x) (told old p)) →
    named (names new others) q ≡ cond (bytes_eq name q) x (named (names old others) q)
chained_named old new others name q x h = ap (λ o. told_or o (mapped others q)) (h q) ∙ by_name (bytes_eq name q)
  where
    by_name : (b : Bool) → told_or (cond b (Some x) (told old q)) (mapped others q) ≡ cond b x (told_or (told old q) (mapped others q))
    by_name true = refl
    by_name false = refl
