-- Words that were seen, one after the other.
use Rattle.std.proofs.Common.{◌≡◌, ℕ, ◌+◌, ◌<◌, Bool, true, false, cond, not, ◌||◌, ◌&&◌, inl, inr, List, [], ◌∷◌, ◌++◌, map, Bor, refl, sym, ◌∙◌, ap, subst, arith}
use Rattle.std.specs.Prelude.{Option, Some, None, Result, Ok, Err, IfOk, slice_index_or}
use Rattle.std.specs.List.{list_any}
use Rattle.std.specs.Str.{bytes_eq}
use Rattle.std.proofs.lemmas.Bool.{true≢false, and_parts, or_cases, cases_lt, cases_Bool}
use Rattle.std.proofs.lemmas.List.{map-append}
use Rattle.std.proofs.lemmas.List.Folds.{list_any-append}
use Rattle.graph_terms.specs.declared.format.Format.{Format}
use Rattle.graph_words.specs.Draft.{Place, EventName}
use Rattle.basics.proofs.TestedLists.{same_bytes, bytes_same, bytes_differ, any_map}
use Rattle.refused_words.specs.Places.{place_at}
use Rattle.refused_words.specs.Refused.{is_event, is_column, same_list, StandsBefore}
use Rattle.refused_words.specs.Repeats.{AreListed, AreSeen}

-- the keys of a set as words
abbrev pub key_words : List (Bor (List ℕ)) → List (List ℕ)
key_words ks = map (λ (k : Bor (List ℕ)). k.now) ks

pub listed_keys : (w : List ℕ) (ks : List (Bor (List ℕ))) → list_any (λ (k : Bor (List ℕ)). bytes_eq w k.now) ks ≡ list_any (bytes_eq w) (key_words ks)
listed_keys w ks = sym (any_map (bytes_eq w) (λ (k : Bor (List ℕ)). k.now) ks)

pub not_twice : (b c : Bool) → b ≡ not c → not b ≡ c
not_twice b true e = ap not e
not_twice b false e = ap not e

or_true : (b : Bool) → (b || true) ≡ true
or_true true = refl
or_true false = refl

or_none : (b : Bool) → (b || false) ≡ b
or_none true = refl
or_none false = refl

-- words and one more, where it is not among them
put_among : (b : Bool) (word w : List ℕ) (ks : List (List ℕ)) → list_any (bytes_eq word) ks ≡ b → list_any (bytes_eq w) (cond b ks (ks ++ word ∷ [])) ≡ (bytes_eq word w || list_any (bytes_eq w) ks)
put_among true word w ks e = elim (cases_Bool (bytes_eq word w)) [
  | inl same ↦ subst (λ z. list_any (bytes_eq z) ks ≡ true) (same_bytes word w same) e ∙ sym (ap (λ c. c || list_any (bytes_eq w) ks) same)
  | inr differ ↦ sym (ap (λ c. c || list_any (bytes_eq w) ks) differ)
]
put_among false word w ks e = list_any-append (bytes_eq w) ks (word ∷ []) ∙ elim (cases_Bool (bytes_eq word w)) [
  | inl same ↦ (
      let back : bytes_eq w word ≡ true = bytes_same w word (sym (same_bytes word w same)) in
      ap (λ c. list_any (bytes_eq w) ks || (c || false)) back ∙ (or_true (list_any (bytes_eq w) ks) ∙ sym (ap (λ c. c || list_any (bytes_eq w) ks) same)))
  | inr differ ↦ (
      let back : bytes_eq w word ≡ false = bytes_differ word w differ in
      ap (λ c. list_any (bytes_eq w) ks || (c || false)) back ∙ (or_none (list_any (bytes_eq w) ks) ∙ sym (ap (λ c. c || list_any (bytes_eq w) ks) differ)))
]

put_keys : (b : Bool) (word : Bor (List ℕ)) (ks : List (Bor (List ℕ))) → key_words (cond b ks (ks ++ word ∷ [])) ≡ cond b (key_words ks) (key_words ks ++ word.now ∷ [])
put_keys true word ks = refl
put_keys false word ks = map-append (λ (k : Bor (List ℕ)). k.now) ks (word ∷ [])

pub put_key : (word : Bor (List ℕ)) (w : List ℕ) (ks : List (Bor (List ℕ))) → list_any (bytes_eq w) (key_words (cond (list_any (λ (k : Bor (List ℕ)). bytes_eq word.now k.now) ks) ks (ks ++ word ∷ []))) ≡ (bytes_eq word.now w || list_any (bytes_eq w) (key_words ks))
put_key word w ks =
    ap (list_any (bytes_eq w)) (put_keys (list_any (λ (k : Bor (List ℕ)). bytes_eq word.now k.now) ks) word ks)
    ∙ put_among (list_any (λ (k : Bor (List ℕ)). bytes_eq word.now k.now) ks) word.now w (key_words ks) (sym (listed_keys word.now ks))

abbrev at : List (List ℕ) → ℕ → List ℕ
at ws j = slice_index_or ws j []

-- the number of a word below the next one
before_next : (P : ℕ → Type 0) (n : ℕ) → ((j : ℕ) → j < n → P j) → P n → (j : ℕ) → j < n + 1 → P j
before_next P n f here j l = elim (cases_lt j n) [ inl b ↦ f j b | inr c ↦ subst P (let e : n ≡ j = omega arith in e) here ]

module _ (is : Option Place → Bool) (fm : Format) (ws : List (List ℕ)) (n : ℕ) where
  pub listed_more : (old new : List (List ℕ)) (word : List ℕ) → word ≡ at ws n → is (place_at fm ws n) ≡ true → ((w : List ℕ) → list_any (bytes_eq w) new ≡ (bytes_eq word w || list_any (bytes_eq w) old)) →
      AreListed is fm ws n old → AreListed is fm ws (n + 1) new
  listed_more old new word e here all l = record {
    sound = λ w h. elim (or_cases (bytes_eq word w) (list_any (bytes_eq w) old) (sym (all w) ∙ h)) [
      | inl a ↦ (n, (let b : n < n + 1 = omega arith in b), here, sym e ∙ same_bytes word w a)
      | inr b ↦ (let r = l.sound w b in (r.0, (let below : r.0 < n = r.1 in let more : r.0 < n + 1 = omega arith in more), r.2, r.3))
    ];
    complete = before_next (λ j. is (place_at fm ws j) ≡ true → list_any (bytes_eq (at ws j)) new ≡ true) n
        (λ j b h. all (at ws j) ∙ (ap (λ c. bytes_eq word (at ws j) || c) (l.complete j b h) ∙ or_true (bytes_eq word (at ws j))))
        (λ h. all (at ws n) ∙ ap (λ c. c || list_any (bytes_eq (at ws n)) old) (bytes_same word (at ws n) e));
  }

  pub listed_same : (old : List (List ℕ)) → is (place_at fm ws n) ≡ false → AreListed is fm ws n old → AreListed is fm ws (n + 1) old
  listed_same old none l = record {
    sound = λ w h. (let r = l.sound w h in (r.0, (let below : r.0 < n = r.1 in let more : r.0 < n + 1 = omega arith in more), r.2, r.3));
    complete = before_next (λ j. is (place_at fm ws j) ≡ true → list_any (bytes_eq (at ws j)) old ≡ true) n l.complete (λ h. absurd (true≢false (sym h ∙ none)));
  }

  -- a word that is listed stands before it, where this makes two of one list
  pub listed_stands : (old : List (List ℕ)) (word : List ℕ) → word ≡ at ws n → is (place_at fm ws n) ≡ true → ((p q : Option Place) → is p ≡ true → is q ≡ true → same_list p q ≡ true) →
      AreListed is fm ws n old → list_any (bytes_eq word) old ≡ true → StandsBefore fm ws n
  listed_stands old word e here both l h = let r = l.sound word h in (r.0, r.1, both (place_at fm ws r.0) (place_at fm ws n) r.2 here, bytes_same (at ws r.0) (at ws n) (r.3 ∙ e))

  pub unlisted_stands : (old : List (List ℕ)) (word : List ℕ) → word ≡ at ws n → ((p : Option Place) → same_list p (place_at fm ws n) ≡ true → is p ≡ true) →
      AreListed is fm ws n old → list_any (bytes_eq word) old ≡ false → StandsBefore fm ws n → ⊥
  unlisted_stands old word e both l h s =
      let same : at ws s.0 ≡ word = same_bytes (at ws s.0) (at ws n) s.3 ∙ sym e in
      true≢false (sym (l.complete s.0 s.1 (both (place_at fm ws s.0) s.2)) ∙ (ap (λ w. list_any (bytes_eq w) old) same ∙ h))

pub event_no_column : (o : Option Place) → is_event o ≡ true → is_column o ≡ false
event_no_column None h = refl
event_no_column (Some EventName) h = refl
event_no_column (Some p) h = absurd (true≢false (sym h))

pub two_events : (p q : Option Place) → is_event p ≡ true → is_event q ≡ true → same_list p q ≡ true
two_events p q h k = ap (λ b. (b && is_event q) || (is_column p && is_column q)) h ∙ ap (λ b. b || (is_column p && is_column q)) k

pub two_columns : (p q : Option Place) → is_column p ≡ true → is_column q ≡ true → same_list p q ≡ true
two_columns p q h k = ap (λ b. (is_event p && is_event q) || (b && is_column q)) h ∙ (ap (λ b. (is_event p && is_event q) || b) k ∙ or_true (is_event p && is_event q))

pub with_event : (q p : Option Place) → is_event q ≡ true → same_list p q ≡ true → is_event p ≡ true
with_event q p k h = elim (or_cases (is_event p && is_event q) (is_column p && is_column q) h) [
  | inl a ↦ (and_parts (is_event p) (is_event q) a).0
  | inr b ↦ absurd (true≢false (sym (and_parts (is_column p) (is_column q) b).1 ∙ event_no_column q k))
]

pub with_column : (q p : Option Place) → is_event q ≡ false → same_list p q ≡ true → is_column p ≡ true
with_column q p k h = elim (or_cases (is_event p && is_event q) (is_column p && is_column q) h) [
  | inl a ↦ absurd (true≢false (sym (and_parts (is_event p) (is_event q) a).1 ∙ k))
  | inr b ↦ (and_parts (is_column p) (is_column q) b).0
]

pub if_ok : {X E : Type 0} (r : Result X E) (P Q : X → Type 0) → ((x : X) → P x → Q x) → IfOk r P → IfOk r Q
if_ok (Ok x) P Q f h = f x h
if_ok (Err e) P Q f h = tt

module _ (fm : Format) (ws : List (List ℕ)) (n : ℕ) (es cs : List (List ℕ)) (word : List ℕ) (is : word ≡ at ws n) (s : AreSeen fm ws n es cs) where
  pub event_there : is_event (place_at fm ws n) ≡ true → (b : Bool) → b ≡ list_any (bytes_eq word) es → b ≡ true → StandsBefore fm ws n
  event_there h b e t = listed_stands is_event fm ws n es word is h two_events s.events (sym e ∙ t)

  pub event_none : is_event (place_at fm ws n) ≡ true → (b : Bool) → b ≡ list_any (bytes_eq word) es → b ≡ false → StandsBefore fm ws n → ⊥
  event_none h b e t = unlisted_stands is_event fm ws n es word is (λ p. with_event (place_at fm ws n) p h) s.events (sym e ∙ t)

  pub event_seen : is_event (place_at fm ws n) ≡ true → (new : List (List ℕ)) → ((w : List ℕ) → list_any (bytes_eq w) new ≡ (bytes_eq word w || list_any (bytes_eq w) es)) → AreSeen fm ws (n + 1) new cs
  event_seen h new all = record { events = listed_more is_event fm ws n es new word is h all s.events; columns = listed_same is_column fm ws n cs (event_no_column (place_at fm ws n) h) s.columns }

  pub column_there : is_column (place_at fm ws n) ≡ true → (b : Bool) → b ≡ list_any (bytes_eq word) cs → b ≡ true → StandsBefore fm ws n
  column_there h b e t = listed_stands is_column fm ws n cs word is h two_columns s.columns (sym e ∙ t)

  pub column_none : is_event (place_at fm ws n) ≡ false → (b : Bool) → b ≡ list_any (bytes_eq word) cs → b ≡ false → StandsBefore fm ws n → ⊥
  column_none k b e t = unlisted_stands is_column fm ws n cs word is (λ p. with_column (place_at fm ws n) p k) s.columns (sym e ∙ t)

  pub column_seen : is_event (place_at fm ws n) ≡ false → is_column (place_at fm ws n) ≡ true → (new : List (List ℕ)) → ((w : List ℕ) → list_any (bytes_eq w) new ≡ (bytes_eq word w || list_any (bytes_eq w) cs)) → AreSeen fm ws (n + 1) es new
  column_seen k h new all = record { events = listed_same is_event fm ws n es k s.events; columns = listed_more is_column fm ws n cs new word is h all s.columns }
