-- A line that is refused for what it uses outside of a column, or for accesses that meet, has a refused word.
use Rattle.std.proofs.Common.{◌≡◌, ℕ, zero, suc, ◌+◌, ◌<◌, ◌≤◌, Bool, true, false, cond, inl, inr, List, [], ◌∷◌, length, map, take, drop, refl, sym, ◌∙◌, ap, arith}
use Rattle.std.specs.Prelude.{Option, Some, None, option_map, is_some, slice_get, find}
use Rattle.std.specs.List.{list_any, range_with_len}
use Rattle.std.specs.Option.{option_map_or}
use Rattle.std.proofs.lemmas.Bool.{true≢false, or_cases, cond-true, cond-false}
use Rattle.std.proofs.lemmas.Option.{none-some, same_Some, slice_get-map}
use Rattle.basics.specs.Lists.{numbers_below}
use Rattle.basics.proofs.Choices.{by_test}
use Rattle.graph_terms.specs.declared.decl.Decl.{Decl}
use Rattle.graph_terms.specs.declared.format.Format.TheVariants.{Three}
use Rattle.graph_terms.specs.Format.{has_since}
use Rattle.graph_terms.specs.declared.limits.TheConstants.{MAX_COMPARED_ACCESSES}
use Rattle.graph_terms.specs.declared.table.Kind.{Kind}
use Rattle.graph_terms.specs.declared.table.Kind.TheVariants as kinds
use Rattle.graph_terms.specs.declared.table.TheConstants.{KINDS}
use Rattle.graph_terms.specs.declared.verb.Access.{Access}
use Rattle.graph_terms.specs.declared.why.Why.{Why}
use Rattle.graph_terms.specs.declared.why.Why.TheVariants as reasons
use Rattle.graph_terms.specs.Access.{verb_accesses, call_accesses}
use Rattle.graph_terms.specs.Fits.{repeats, access_outside, data_outside, accesses_clash}
use Rattle.graph_terms.specs.Graph.{GraphValue}
use Rattle.graph_terms.specs.Table.{kind_words, verb_of}
use Rattle.graph_words.specs.Calls.{AccessWords, CallWords, call_words}
use Rattle.graph_words.specs.Draft.{Draft, draft, DataColumn, merge_draft, access_spelled, form_of, is_of_form}
use Rattle.graph_reader.specs.FirstFault.{words_fault}
use Rattle.graph_reader.specs.Kinds.{kind_draft, kind_verb}
use Rattle.graph_reader.specs.Merges.{merge_verb}
use Rattle.graph_reader.specs.Reading.{is_operation}
use Rattle.graph_reader.proofs.Public.{line_by_sign}
use Rattle.refused_words.specs.Meets.{is_data_column, word_access, access_at, both_clash}
use Rattle.refused_words.specs.Places.{is_merge, is_call}
use Rattle.refused_words.specs.Refused.{refuses_in, draft_accesses}
use Rattle.refused_words.specs.Laws.{HasRefusedWord}
use Rattle.refused_words.proofs.CallFacts.{after, after_later, access_stands, AccessStands}
use Rattle.refused_words.proofs.FormFacts.{form_cases, call_cases, declared, none_declared}
use Rattle.refused_words.proofs.PlaceFacts.{at, IsPlain}
use Rattle.refused_words.proofs.ReasonFacts.{item_test, draft_test, draft_passes}
use Rattle.refused_words.proofs.WordFacts.{outside_by_kind}

-- the first number below a bound that passes a test
find_by : (t : ℕ → Bool) (lo n i : ℕ) → i < n → ((k : ℕ) → lo ≤ k → k < lo + i → t k ≡ false) → t (lo + i) ≡ true → find t (range_with_len lo n) ≡ Some (lo + i)
find_by t lo zero i l none h = absurd (omega arith)
find_by t lo (suc n) zero l none h =
    let same : lo + 0 ≡ lo = omega arith in
    cond-true (t lo) (Some lo) _ (ap t (sym same) ∙ h) ∙ ap Some (sym same)
find_by t lo (suc n) (suc i) l none h =
    let same : lo + suc i ≡ (lo + 1) + i = omega arith in
    cond-false (t lo) (Some lo) _ (none lo (omega arith) (omega arith)) ∙ (find_by t (lo + 1) n i (omega arith) (λ k a b. none k (omega arith) (omega arith)) (ap t (sym same) ∙ h) ∙ ap Some (sym same))

pub first_below : (t : ℕ → Bool) (n i : ℕ) → i < n → ((k : ℕ) → k < i → t k ≡ false) → t i ≡ true → find t (numbers_below n) ≡ Some i
first_below t n i l none h =
    let same : 0 + i ≡ i = omega arith in
    find_by t 0 n i l (λ k a b. none k (omega arith)) (ap t same ∙ h) ∙ ap Some same

none_by : (t : ℕ → Bool) (lo n : ℕ) → ((k : ℕ) → k < lo + n → t k ≡ false) → find t (range_with_len lo n) ≡ None
none_by t lo zero none = refl
none_by t lo (suc n) none = cond-false (t lo) (Some lo) _ (none lo (omega arith)) ∙ none_by t (lo + 1) n (λ k l. none k (omega arith))

pub none_below : (t : ℕ → Bool) (n : ℕ) → ((k : ℕ) → k < n → t k ≡ false) → find t (numbers_below n) ≡ None
none_below t n none = none_by t 0 n (λ k l. none k (omega arith))

some_by : (t : ℕ → Bool) (lo n i : ℕ) → i < n → t (lo + i) ≡ true → is_some (find t (range_with_len lo n)) ≡ true
some_by t lo zero i l h = absurd (omega arith)
some_by t lo (suc n) zero l h = ap is_some (cond-true (t lo) (Some lo) _ (ap t (let same : lo ≡ lo + 0 = omega arith in same) ∙ h))
some_by t lo (suc n) (suc i) l h = either (t lo) (some_by t (lo + 1) n i (omega arith) (ap t (let same : (lo + 1) + i ≡ lo + suc i = omega arith in same) ∙ h))
  where
    either : (b : Bool) → is_some (find t (range_with_len (lo + 1) n)) ≡ true → is_some (cond b (Some lo) (find t (range_with_len (lo + 1) n))) ≡ true
    either true r = refl
    either false r = r

some_below : (t : ℕ → Bool) (n i : ℕ) → i < n → t i ≡ true → is_some (find t (numbers_below n)) ≡ true
some_below t n i l h = some_by t 0 n i l (ap t (let same : 0 + i ≡ i = omega arith in same) ∙ h)

pub none_is : {X : Type 0} (o : Option X) → is_some o ≡ false → o ≡ None
none_is None h = refl
none_is (Some x) h = absurd (true≢false h)

-- no access clashes with none
pub clash_none : (g : GraphValue) (a : Option Access) → both_clash g a None ≡ false
clash_none g None = refl
clash_none g (Some a) = refl

-- an element that passes stands at a number, and two that are alike at two
record IsAt (X : Type 0) (t : X → Bool) (xs : List X) : Type 0 where
  place : ℕ
  item : X
  is : slice_get xs place ≡ Some item
  passes : t item ≡ true

some_at : (X : Type 0) (t : X → Bool) (xs : List X) → list_any t xs ≡ true → IsAt X t xs
some_at X t [] h = absurd (true≢false (sym h))
some_at X t (x ∷ xs) h = elim (or_cases (t x) (list_any t xs) h) [
  | inl a ↦ record { place = 0; item = x; is = refl; passes = a }
  | inr b ↦ (let r = some_at X t xs b in record { place = suc r.place; item = r.item; is = r.is; passes = r.passes })
]

record AreAlike (X : Type 0) (eq : X → X → Bool) (xs : List X) : Type 0 where
  before : ℕ
  place : ℕ
  one : X
  other : X
  below : before < place
  one_is : slice_get xs before ≡ Some one
  other_is : slice_get xs place ≡ Some other
  alike : eq one other ≡ true

taken : {X : Type 0} (n : ℕ) (xs : List X) (i : ℕ) (x : X) → slice_get (take n xs) i ≡ Some x → slice_get xs i ≡ Some x
taken zero xs i x h = absurd (none-some x h)
taken (suc n) [] i x h = h
taken (suc n) (y ∷ xs) zero x h = h
taken (suc n) (y ∷ xs) (suc i) x h = taken n xs i x h

two_at : (X : Type 0) (eq : X → X → Bool) (n : ℕ) (xs : List X) → repeats eq (take n xs) ≡ true → AreAlike X eq xs
two_at X eq zero xs h = absurd (true≢false (sym h))
two_at X eq (suc n) [] h = absurd (true≢false (sym h))
two_at X eq (suc n) (x ∷ xs) h = elim (or_cases (list_any (eq x) (take n xs)) (repeats eq (take n xs)) h) [
  | inl a ↦ (
      let r = some_at X (eq x) (take n xs) a in
      record { before = 0; place = suc r.place; one = x; other = r.item; below = omega arith; one_is = refl; other_is = taken n xs r.place r.item r.is; alike = r.passes }
      )
  | inr b ↦ (
      let r = two_at X eq n xs b in
      record { before = suc r.before; place = suc r.place; one = r.one; other = r.other; below = (let l : r.before < r.place = r.below in omega arith); one_is = r.one_is; other_is = r.other_is; alike = r.alike }
      )
]

mapped_by : {X Y : Type 0} (f : X → Y) (o : Option X) (y : Y) → option_map f o ≡ Some y → (x : X) × (o ≡ Some x) × (f x ≡ y)
mapped_by f None y h = absurd (none-some y h)
mapped_by f (Some x) y h = (x, refl, same_Some (f x) y h)

mapped_at : {X Y : Type 0} (f : X → Y) (xs : List X) (i : ℕ) (y : Y) → slice_get (map f xs) i ≡ Some y → (x : X) × (slice_get xs i ≡ Some x) × (f x ≡ y)
mapped_at f xs i y h = mapped_by f (slice_get xs i) y (sym (slice_get-map f xs i) ∙ h)

-- the accesses of a call by their words
module _ (g : GraphValue) (ws : List (List ℕ)) (operation : is_operation ws ≡ true) (other : is_merge (drop 2 ws) ≡ false) (called : is_call (drop 2 ws) ≡ true) (three : has_since Three g.format ≡ true) (c : CallWords)
    (parts : call_words (drop 1 (drop 2 ws)) ≡ Some c) where
  abbrev number : ℕ → ℕ
  number j = after j 1 + (length c.values + 4)

  stands : (j : ℕ) (x : AccessWords) → slice_get c.accesses j ≡ Some x → AccessStands g.format ws operation other called three c parts x (number j)
  stands j x e = access_stands g.format ws operation other called three c parts j x e (number j) refl

  access_is : (j : ℕ) (x : AccessWords) → slice_get c.accesses j ≡ Some x → access_at g ws (number j) ≡ Some (access_spelled g x)
  access_is j x e =
      let s = stands j x e in
      ap (λ p. cond (is_data_column p) (word_access g ws (number j)) None) s.column_place
      ∙ (ap (option_map (λ m. access_spelled g (record { mode = m; column = at ws (number j); space = at ws (number j + 1) }))) s.mode
      ∙ (ap (λ w. Some (access_spelled g (record { mode = x.mode; column = w; space = at ws (number j + 1) }))) s.column ∙ ap (λ w. Some (access_spelled g (record { mode = x.mode; column = x.column; space = w }))) s.space))

  below : (j : ℕ) (x : AccessWords) → slice_get c.accesses j ≡ Some x → number j < length ws
  below j x e = let l : number j + 1 < length ws = (stands j x e).below in omega arith

  refused_at : (r : Why) (j : ℕ) (x : AccessWords) → slice_get c.accesses j ≡ Some x → refuses_in g ws r DataColumn (number j) ≡ true → HasRefusedWord g r ws
  refused_at r j x e h = (number j, below j x e, inl (ap (λ o. option_map_or (λ p. refuses_in g ws r p (number j)) o false) (stands j x e).column_place ∙ h))

  outside_call : list_any (data_outside g) (map (access_spelled g) c.accesses) ≡ true → HasRefusedWord g reasons.Outside ws
  outside_call h =
      let r = some_at Access (data_outside g) (map (access_spelled g) c.accesses) h in
      let m = mapped_at (access_spelled g) c.accesses r.place r.item r.is in
      refused_at reasons.Outside r.place m.0 m.1 (ap (λ o. option_map_or (data_outside g) o false) (access_is r.place m.0 m.1) ∙ (ap (data_outside g) m.2 ∙ r.passes))

  meeting_call : repeats (accesses_clash g) (take MAX_COMPARED_ACCESSES (map (access_spelled g) c.accesses)) ≡ true → HasRefusedWord g reasons.Meets ws
  meeting_call h =
      let r = two_at Access (accesses_clash g) MAX_COMPARED_ACCESSES (map (access_spelled g) c.accesses) h in
      let one = mapped_at (access_spelled g) c.accesses r.before r.one r.one_is in
      let two = mapped_at (access_spelled g) c.accesses r.place r.other r.other_is in
      let later : after r.before 1 < after r.place 1 = after_later r.before r.place r.below in
      refused_at reasons.Meets r.place two.0 two.1 (some_below (λ j. both_clash g (access_at g ws j) (access_at g ws (number r.place))) (number r.place) (number r.before) (omega arith)
      (ap (λ o. both_clash g o (access_at g ws (number r.place))) (access_is r.before one.0 one.1 ∙ ap Some one.2)
      ∙ (ap (λ o. both_clash g (Some r.one) o) (access_is r.place two.0 two.1 ∙ ap Some two.2) ∙ r.alike)))

-- what no line of a kind and no merge does
kind_calls : (kind : Kind) (ns : List ℕ) → call_accesses (verb_of kind ns) ≡ []
kind_calls kinds.User ns = refl
kind_calls kind ns = refl

by_draft : (g : GraphValue) (r : Why) (o p : Option Draft) → o ≡ p → draft_test g r o ≡ true → draft_test g r p ≡ true
by_draft g r o p e h = sym (ap (draft_test g r) e) ∙ h

merge_inside : (g : GraphValue) (name : List ℕ) (ignores : Bool) (es : List (List ℕ)) → draft_test g reasons.Outside (merge_draft g name (merge_verb ignores) es) ≡ false
merge_inside g name ignores [] = refl
merge_inside g name true (e ∷ es) = refl
merge_inside g name false (e ∷ es) = refl

merge_apart : (g : GraphValue) (name : List ℕ) (ignores : Bool) (es : List (List ℕ)) → draft_test g reasons.Meets (merge_draft g name (merge_verb ignores) es) ≡ false
merge_apart g name ignores [] = refl
merge_apart g name true (e ∷ es) = refl
merge_apart g name false (e ∷ es) = refl

-- by the form of the line
module _ (g : GraphValue) (ws : List (List ℕ)) (operation : is_operation ws ≡ true) where
  abbrev behind : List (List ℕ)
  behind = drop 2 ws

  abbrev name : List ℕ
  name = at ws 0

  outside_kind : (o : Option Kind) → find (λ k. is_of_form g.format behind (form_of k)) KINDS ≡ o → draft g ws ≡ option_map (λ k. kind_draft g k name (drop (length (form_of k).words) behind)) o → IsPlain behind →
      draft_test g reasons.Outside (draft g ws) ≡ true → HasRefusedWord g reasons.Outside ws
  outside_kind None found is plain h = absurd (true≢false (sym (by_draft g reasons.Outside (draft g ws) None is h)))
  outside_kind (Some kind) found is plain h =
      let verb = kind_verb g kind (drop (length (kind_words kind)) behind) in
      outside_by_kind g ws operation kind plain found (ap draft_accesses is)
      (ap (λ o. list_any (access_outside g) (draft_accesses o)) is
      ∙ elim (or_cases (list_any (access_outside g) (verb_accesses verb)) (list_any (data_outside g) (call_accesses verb)) (by_draft g reasons.Outside (draft g ws) _ is h)) [
        | inl a ↦ a
        | inr b ↦ absurd (true≢false (sym b ∙ ap (list_any (data_outside g)) (kind_calls kind _)))
      ])

  apart_kind : (o : Option Kind) → draft_test g reasons.Meets (option_map (λ k. kind_draft g k name (drop (length (form_of k).words) behind)) o) ≡ true → ⊥
  apart_kind None h = true≢false (sym h)
  apart_kind (Some kind) h = true≢false (sym h ∙ ap (λ xs. repeats (accesses_clash g) (take MAX_COMPARED_ACCESSES xs)) (kind_calls kind _))

  outside_line : draft_test g reasons.Outside (draft g ws) ≡ true → HasRefusedWord g reasons.Outside ws
  outside_line h = elim (form_cases g name behind) [
    | inl m ↦ absurd (true≢false (sym (by_draft g reasons.Outside _ _ (line_by_sign g ws operation ∙ m.1) h) ∙ merge_inside g name m.0 (drop 1 behind)))
    | inr later ↦ elim later [
      | inl k ↦ elim (call_cases g name (drop 1 behind)) [
        | inl none ↦ absurd (true≢false (sym (by_draft g reasons.Outside _ None (line_by_sign g ws operation ∙ (k.0 ∙ none)) h)))
        | inr p ↦ outside_call g ws operation k.1 k.2 p.three p.call p.parts (by_draft g reasons.Outside _ _ (line_by_sign g ws operation ∙ (k.0 ∙ p.spelled)) h)
      ]
      | inr k ↦ outside_kind k.0 k.1 (line_by_sign g ws operation ∙ k.2) k.3 h
    ]
  ]

  meeting_line : draft_test g reasons.Meets (draft g ws) ≡ true → HasRefusedWord g reasons.Meets ws
  meeting_line h = elim (form_cases g name behind) [
    | inl m ↦ absurd (true≢false (sym (by_draft g reasons.Meets _ _ (line_by_sign g ws operation ∙ m.1) h) ∙ merge_apart g name m.0 (drop 1 behind)))
    | inr later ↦ elim later [
      | inl k ↦ elim (call_cases g name (drop 1 behind)) [
        | inl none ↦ absurd (true≢false (sym (by_draft g reasons.Meets _ None (line_by_sign g ws operation ∙ (k.0 ∙ none)) h)))
        | inr p ↦ meeting_call g ws operation k.1 k.2 p.three p.call p.parts (by_draft g reasons.Meets _ _ (line_by_sign g ws operation ∙ (k.0 ∙ p.spelled)) h)
      ]
      | inr k ↦ absurd (apart_kind k.0 (by_draft g reasons.Meets _ _ (line_by_sign g ws operation ∙ k.2) h))
    ]
  ]

-- a declaration uses no column
not_declared : (g : GraphValue) (r : Why) (ws : List (List ℕ)) → ((d : Decl) → item_test g r (inl d) ≡ false) → is_operation ws ≡ false → draft_test g r (draft g ws) ≡ true → ⊥
not_declared g r ws none e h = true≢false (sym h ∙ none_declared (item_test g r) false (draft g ws) (declared g ws e) none)

pub outside_word : (g : GraphValue) (ws : List (List ℕ)) → words_fault g ws ≡ Some reasons.Outside → HasRefusedWord g reasons.Outside ws
outside_word g ws h =
    let t = draft_passes g reasons.Outside ws (λ e. cc) (λ ps. refl) h in
    by_test (is_operation ws) (λ e. outside_line g ws e t) (λ e. absurd (not_declared g reasons.Outside ws (λ d. refl) e t))

pub meeting_word : (g : GraphValue) (ws : List (List ℕ)) → words_fault g ws ≡ Some reasons.Meets → HasRefusedWord g reasons.Meets ws
meeting_word g ws h =
    let t = draft_passes g reasons.Meets ws (λ e. cc) (λ ps. refl) h in
    by_test (is_operation ws) (λ e. meeting_line g ws e t) (λ e. absurd (not_declared g reasons.Meets ws (λ d. refl) e t))
