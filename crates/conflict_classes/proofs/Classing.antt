-- The classes of accesses, one more at a time.
use Rattle.std.proofs.Common.{◌≡◌, ℕ, ◌+◌, ◌*◌, ◌<◌, ◌≤◌, ◌⊎◌, inl, inr, List, [], ◌∷◌, ◌++◌, length, length-append, sym, ◌∙◌, ap, subst, arith}
use Rattle.std.specs.Prelude.{Contains, Some, slice_get, slice_index}
use Rattle.std.proofs.lemmas.Bool.{cases_lt}
use Rattle.std.proofs.lemmas.Option.{none-some, same_Some, slice_get-get_or, slice_get_within}
use Rattle.std.proofs.lemmas.List.{get_or_append_left, get_or_push}
use Rattle.graph_terms.specs.declared.verb.Access.{Access}
use Rattle.graph_terms.specs.Graph.{GraphValue}
use Rattle.graph_terms.specs.Access.{all_accesses}
use Rattle.graph_terms.specs.Fits.{IsGraph}
use Rattle.basics.proofs.ListFacts.{got_contains}
use Rattle.conflict_classes.specs.Classes.{IsBegin, HasNumber, AreOwn, AreClasses, AreClassesTo, place_at}
use Rattle.conflict_classes.proofs.AccessSteps.{few_accesses, no_access}
use Rattle.basics.proofs.ListFacts.{got_in}
use Rattle.basics.proofs.ListParts.{got_end, got_cases}

-- no access has a number
pub classes_none : (g : GraphValue) (limit : ℕ) (lines : List ℕ) (keys : List Access) (classes sites begins : List ℕ) → keys ≡ [] → classes ≡ [] → sites ≡ [] → begins ≡ 0 ∷ [] → AreClassesTo g limit lines keys classes sites begins 0 0
classes_none g limit lines keys classes sites begins no_keys no_classes no_sites zero' = record {
  numbered = record { size = none ∙ sym no_class; ascending = λ r s le low. absurd (omega (arith, none)) };
  within = λ r low. absurd (omega (arith, none));
  limited = λ r low. absurd (omega (arith, none));
  low = λ r low. absurd (omega (arith, none));
  begin_count = ap length zero';
  begin = λ q le. (
      let at : q ≡ 0 = omega arith in
      let is : slice_index begins q ≡ 0 = ap (λ xs. slice_index xs q) zero' ∙ ap (slice_index (0 ∷ [])) at in
      record { within = omega arith; before = λ r low. absurd (omega arith); behind = λ r up low. absurd (omega (arith, none)) });
  own = λ r c a class key. absurd (none-some c (sym (ap (λ xs. slice_get xs r) no_classes) ∙ class));
  each = λ q m a in' below before e. elim before [ inl low ↦ absurd (omega arith) | inr at ↦ (let low : m < 0 = at.1 in absurd (omega arith)) ];
  known = λ r c class. absurd (none-some c (sym (ap (λ xs. slice_get xs r) no_classes) ∙ class));
  few = (let no_key : length keys ≡ 0 = ap length no_keys in omega arith);
  count = omega (arith, no_class);
}
  where
    none : length sites ≡ 0
    none = ap length no_sites

    no_class : length classes ≡ 0
    no_class = ap length no_classes

-- one more access
module _ (g : GraphValue) (limit : ℕ) (lines : List ℕ) (keys more : List Access) (classes sites begins after places : List ℕ) (p k c : ℕ) (a : Access) (here : p < length lines) (under : slice_index lines p < limit) (access : slice_get (all_accesses g (slice_index lines p)) k ≡ Some a)
    (kept : (d : ℕ) (b : Access) → slice_get keys d ≡ Some b → slice_get more d ≡ Some b) (class : slice_get more c ≡ Some a) (grows : length more ≤ length keys + 1)
    (pushed : after ≡ classes ++ c ∷ []) (placed : places ≡ sites ++ p ∷ []) (t : AreClassesTo g limit lines keys classes sites begins p k) where
  same_size : length sites ≡ length classes
  same_size = t.numbered.size

  longer : length after ≡ length classes + 1
  longer = ap length pushed ∙ length-append classes (c ∷ [])

  wider : length places ≡ length sites + 1
  wider = ap length placed ∙ length-append sites (p ∷ [])

  old_place : (r : ℕ) → r < length sites → place_at places r ≡ place_at sites r
  old_place r low = ap (λ xs. slice_index xs r) placed ∙ get_or_append_left sites (p ∷ []) 0 r low

  new_place : (r : ℕ) → r ≡ length sites → place_at places r ≡ p
  new_place r last = ap (λ xs. slice_index xs r) placed ∙ get_or_push sites p 0 r (sym last)

  old_class : (r d : ℕ) → slice_get classes r ≡ Some d → slice_get after r ≡ Some d
  old_class r d e = ap (λ xs. slice_get xs r) pushed ∙ got_in classes (c ∷ []) r d e

  new_class : slice_get after (length classes) ≡ Some c
  new_class = ap (λ xs. slice_get xs (length classes)) pushed ∙ got_end classes c

  class_cases : (r d : ℕ) → slice_get after r ≡ Some d → (slice_get classes r ≡ Some d) ⊎ ((r ≡ length classes) × (c ≡ d))
  class_cases r d e = elim (got_cases classes c r d (ap (λ xs. slice_get xs r) (sym pushed) ∙ e)) [ inl old ↦ inl old.1 | inr new ↦ inr new ]

  numbered_low : (r d : ℕ) → slice_get classes r ≡ Some d → r < length sites
  numbered_low r d e = let low : r < length classes = slice_get_within classes r d e in omega (arith, same_size)

  key_back : (d : ℕ) (b : Access) → d < length keys → slice_get more d ≡ Some b → slice_get keys d ≡ Some b
  key_back d b low e = let at = slice_get-get_or keys d no_access low in at ∙ (sym (kept d _ at) ∙ e)

  key_grown : (d : ℕ) → d < length keys → d < length more
  key_grown d low = slice_get_within more d _ (kept d _ (slice_get-get_or keys d no_access low))

  known : (r d : ℕ) → slice_get after r ≡ Some d → d < length more
  known r d e = elim (class_cases r d e) [
    | inl was ↦ key_grown d (t.known r d was)
    | inr new ↦ slice_get_within more d a (subst (λ z. slice_get more z ≡ Some a) new.1 class)
  ]

  own : AreOwn g lines more after places
  own r d b e key = elim (class_cases r d e) [
    | inl was ↦ subst (λ z. Contains (all_accesses g (slice_index lines z)) b) (sym (old_place r (numbered_low r d was))) (t.own r d b was (key_back d b (t.known r d was) key))
    | inr new ↦ (
        let same : a ≡ b = same_Some a b (sym class ∙ (ap (slice_get more) new.1 ∙ key)) in
        subst (λ z. Contains (all_accesses g (slice_index lines z)) b) (sym (new_place r (new.0 ∙ sym same_size))) (subst (λ z. Contains (all_accesses g (slice_index lines p)) z) same (got_contains (all_accesses g (slice_index lines p)) k a access)))
  ]

  number_kept : (q : ℕ) (b : Access) → HasNumber keys classes sites q b → HasNumber more after places q b
  number_kept q b h = record {
    number = h.number;
    class = h.class;
    class_is = old_class h.number h.class h.class_is;
    key_is = kept h.class b h.key_is;
    place_is = old_place h.number (numbered_low h.number h.class h.class_is) ∙ h.place_is;
  }

  each : (q m : ℕ) (b : Access) → q < length lines → slice_index lines q < limit → (q < p) ⊎ ((q ≡ p) × (m < k + 1)) → slice_get (all_accesses g (slice_index lines q)) m ≡ Some b → HasNumber more after places q b
  each q m b in' below before e = elim before [
    | inl l ↦ number_kept q b (t.each q m b in' below (inl l) e)
    | inr at ↦ elim (cases_lt m k) [
      | inl l ↦ number_kept q b (t.each q m b in' below (inr (at.0, l)) e)
      | inr up ↦ (
          let low : m < k + 1 = at.1 in
          let last : m ≡ k = omega arith in
          let same : a ≡ b = same_Some a b (sym access ∙ (ap (λ z. slice_get (all_accesses g (slice_index lines z)) k) (sym at.0) ∙ (ap (slice_get (all_accesses g (slice_index lines q))) (sym last) ∙ e))) in
          record { number = length classes; class = c; class_is = new_class; key_is = class ∙ ap Some same; place_is = new_place (length classes) (sym same_size) ∙ sym at.0 })
    ]
  ]

  ascending : (r s : ℕ) → r ≤ s → s < length places → place_at places r ≤ place_at places s
  ascending r s le low = elim (cases_lt s (length sites)) [
    | inl l ↦ (
        let one : place_at places r ≡ place_at sites r = old_place r (omega arith) in
        let two : place_at places s ≡ place_at sites s = old_place s l in
        let up : place_at sites r ≤ place_at sites s = t.numbered.ascending r s le l in omega arith)
    | inr last ↦ (
        let two : place_at places s ≡ p = new_place s (omega (arith, wider)) in
        elim (cases_lt r (length sites)) [
          | inl l ↦ (let one : place_at places r ≡ place_at sites r = old_place r l in let up : place_at sites r ≤ p = t.low r l in omega arith)
          | inr same ↦ (let one : place_at places r ≡ p = new_place r (omega (arith, wider)) in omega arith)
        ])
  ]

  begin : (q : ℕ) → q ≤ p → IsBegin places q (slice_index begins q)
  begin q le =
      let b = t.begin q le in
      let low : slice_index begins q ≤ length sites = b.within in
      record {
        within = omega (arith, wider);
        before = λ r l. (let one : place_at places r ≡ place_at sites r = old_place r (omega arith) in let less : place_at sites r < q = b.before r l in omega arith);
        behind = λ r up l. elim (cases_lt r (length sites)) [
          | inl l' ↦ (let one : place_at places r ≡ place_at sites r = old_place r l' in let more' : q ≤ place_at sites r = b.behind r up l' in omega arith)
          | inr last ↦ (let one : place_at places r ≡ p = new_place r (omega (arith, wider)) in omega arith)
        ];
      }

  -- a place of the list is one of these
  place_cases : (P : ℕ → Type 0) → ((r : ℕ) → r < length sites → P (place_at sites r)) → P p → (r : ℕ) → r < length places → P (place_at places r)
  place_cases P old new r low = elim (cases_lt r (length sites)) [
    | inl l ↦ subst P (sym (old_place r l)) (old r l)
    | inr last ↦ subst P (sym (new_place r (omega (arith, wider)))) new
  ]

  pub classes_more : AreClassesTo g limit lines more after places begins p (k + 1)
  classes_more = record {
    numbered = record { size = omega (arith, wider, longer, same_size); ascending = ascending };
    within = place_cases (λ x. x < length lines) t.within here;
    limited = place_cases (λ x. slice_index lines x < limit) t.limited under;
    low = place_cases (λ x. x ≤ p) t.low (omega arith);
    begin_count = t.begin_count;
    begin = begin;
    own = own;
    each = each;
    known = known;
    few = (let f : length keys ≤ length classes = t.few in omega (arith, longer));
    count = (let f : length classes ≤ 8 * p + k = t.count in omega (arith, longer));
  }

module _ (g : GraphValue) (limit : ℕ) (lines : List ℕ) (keys : List Access) (classes sites begins : List ℕ) where
  -- a line has no more accesses
  pub classes_filled : (p k : ℕ) → k ≤ 8 → length (all_accesses g (slice_index lines p)) ≤ k → AreClassesTo g limit lines keys classes sites begins p k → AreClassesTo g limit lines keys classes sites begins p 8
  classes_filled p k most none t = record {
    numbered = t.numbered;
    within = t.within;
    limited = t.limited;
    low = t.low;
    begin_count = t.begin_count;
    begin = t.begin;
    own = t.own;
    each = λ q m a in' below before e. t.each q m a in' below (elim before [
      | inl l ↦ inl l
      | inr at ↦ (
          let low : m < length (all_accesses g (slice_index lines q)) = slice_get_within (all_accesses g (slice_index lines q)) m a e in
          let same : length (all_accesses g (slice_index lines q)) ≡ length (all_accesses g (slice_index lines p)) = ap (λ z. length (all_accesses g (slice_index lines z))) at.0 in
          inr (at.0, omega arith))
    ]) e;
    known = t.known;
    few = t.few;
    count = (let f : length classes ≤ 8 * p + k = t.count in omega arith);
  }

  -- a line from the limit on has none that count
  pub classes_passed : (p : ℕ) → limit ≤ slice_index lines p → AreClassesTo g limit lines keys classes sites begins p 0 → AreClassesTo g limit lines keys classes sites begins p 8
  classes_passed p over t = record {
    numbered = t.numbered;
    within = t.within;
    limited = t.limited;
    low = t.low;
    begin_count = t.begin_count;
    begin = t.begin;
    own = t.own;
    each = λ q m a in' below before e. t.each q m a in' below (elim before [ inl l ↦ inl l | inr at ↦ (let same : slice_index lines q ≡ slice_index lines p = ap (slice_index lines) at.0 in absurd (omega (arith, same, below, over))) ]) e;
    known = t.known;
    few = t.few;
    count = (let f : length classes ≤ 8 * p + 0 = t.count in omega arith);
  }

  -- the next line begins
  pub classes_next : IsGraph g → (p : ℕ) (after : List ℕ) → AreClassesTo g limit lines keys classes sites begins p 8 → after ≡ begins ++ length classes ∷ [] → AreClassesTo g limit lines keys classes sites after (p + 1) 0
  classes_next fits p after t pushed = record {
    numbered = t.numbered;
    within = t.within;
    limited = t.limited;
    low = λ r low. (let l : place_at sites r ≤ p = t.low r low in omega arith);
    begin_count = ap length pushed ∙ (length-append begins (length classes ∷ []) ∙ ap (λ n. n + 1) t.begin_count);
    begin = λ q le. elim (cases_lt q (p + 1)) [
      | inl l ↦ subst (IsBegin sites q) (sym (old q l)) (t.begin q (omega arith))
      | inr up ↦ subst (IsBegin sites q) (sym (new q (omega arith))) (record {
        within = omega (arith, same_size);
        before = λ r low. (let l : place_at sites r ≤ p = t.low r (omega (arith, same_size)) in omega arith);
        behind = λ r up low. absurd (omega (arith, same_size));
      })
    ];
    own = t.own;
    each = λ q m a in' below before e. elim before [
      | inr at ↦ (let low : m < 0 = at.1 in absurd (omega arith))
      | inl l ↦ elim (cases_lt q p) [
        | inl low ↦ t.each q m a in' below (inl low) e
        | inr up ↦ (
            let low : m < length (all_accesses g (slice_index lines q)) = slice_get_within (all_accesses g (slice_index lines q)) m a e in
            let few : length (all_accesses g (slice_index lines q)) ≤ 8 = few_accesses g fits (slice_index lines q) in
            let same : q ≡ p = omega arith in
            t.each q m a in' below (inr (same, omega arith)) e)
      ]
    ];
    known = t.known;
    few = t.few;
    count = (let f : length classes ≤ 8 * p + 8 = t.count in omega arith);
  }
    where
      same_size : length sites ≡ length classes
      same_size = t.numbered.size

      old : (q : ℕ) → q < p + 1 → slice_index after q ≡ slice_index begins q
      old q low = ap (λ xs. slice_index xs q) pushed ∙ get_or_append_left begins (length classes ∷ []) 0 q (let n : length begins ≡ p + 1 = t.begin_count in omega arith)

      new : (q : ℕ) → q ≡ p + 1 → slice_index after q ≡ length classes
      new q last = ap (λ xs. slice_index xs q) pushed ∙ get_or_push begins (length classes) 0 q (t.begin_count ∙ sym last)

  -- no line is left
  pub classes_all : (n : ℕ) → n ≡ length lines → AreClassesTo g limit lines keys classes sites begins n 0 → AreClasses g limit lines keys classes sites begins
  classes_all n all t = record {
    numbered = t.numbered;
    within = t.within;
    limited = t.limited;
    begin_count = t.begin_count ∙ ap (λ z. z + 1) all;
    begin = λ p le. t.begin p (omega (arith, all));
    own = t.own;
    each = λ p a in' below c. t.each p c.0 a in' below (inl (omega (arith, all))) (slice_get-get_or (all_accesses g (slice_index lines p)) c.0 a c.1 ∙ ap Some c.2);
    known = t.known;
    few = t.few;
    count = (let f : length classes ≤ 8 * n + 0 = t.count in omega (arith, all));
  }
