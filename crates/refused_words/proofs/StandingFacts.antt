-- Each word that a line spells stands in its place at some number.
use Rattle.std.proofs.Common.{◌≡◌, ℕ, suc, ◌+◌, ◌-◌, ◌<◌, ◌≤◌, Bool, true, false, cond, ◌||◌, ◌⊎◌, inl, inr, List, [], ◌∷◌, ◌++◌, length, map, drop, refl, sym, ◌∙◌, ap, subst, arith}
use Rattle.std.specs.Prelude.{Option, Some, None, option_map, slice_get, find, codes, zip}
use Rattle.std.specs.Option.{option_map_or}
use Rattle.std.specs.List.{list_any}
use Rattle.std.proofs.lemmas.Bool.{true≢false, or_cases, cond-true, cond-false}
use Rattle.std.proofs.lemmas.List.{length-map, length-drop}
use Rattle.index_spaces.specs.declared.Op.{Op}
use Rattle.graph_terms.specs.declared.decl.Decl.{Decl}
use Rattle.graph_terms.specs.declared.verb.Line.{Line}
use Rattle.graph_terms.specs.declared.why.Why.{Why}
use Rattle.graph_terms.specs.declared.why.Why.TheVariants as reasons
use Rattle.graph_terms.specs.declared.table.Kind.{Kind}
use Rattle.graph_terms.specs.declared.table.Kind.TheVariants as kinds
use Rattle.graph_terms.specs.declared.table.Place as table
use Rattle.graph_terms.specs.declared.table.TheConstants.{KINDS}
use Rattle.graph_terms.specs.declared.format.Format.TheVariants.{Three}
use Rattle.graph_terms.specs.Format.{has_since}
use Rattle.graph_terms.specs.Graph.{GraphValue}
use Rattle.graph_terms.specs.Table.{kind_places, kind_words}
use Rattle.graph_words.specs.Calls.{AccessWords, CallWords, call_words}
use Rattle.graph_words.specs.Draft.{Place, NewName, CallName, SpaceName, EventName, DataColumn, Fields, Value, Count, Intervals, Placed, Draft, draft, as_place, form_of, has_on, values_placed, accesses_placed, events_placed, on_placed, is_of_form, same_word, merge_draft, call_with, line_draft, decl_draft_after, decl_draft, space_draft, inst_draft, data_draft, columns_with, lock_draft, barrier_draft, barrier_with, op_of}
use Rattle.graph_reader.specs.FirstFault.{words_fault}
use Rattle.word_meanings.specs.WordFaults.{misnamed, misordered}
use Rattle.graph_reader.specs.Kinds.{HasPlaces, kind_draft}
use Rattle.graph_reader.specs.Merges.{merge_verb}
use Rattle.graph_reader.specs.Reading.{is_operation}
use Rattle.graph_reader.proofs.Public.{places_there, line_by_sign, decl_by_sign}
use Rattle.basics.proofs.TestedLists.{found_passes}
use Rattle.refused_words.specs.Places.{is_merge, is_call, space_place, columns_place, data_place, lock_place, barrier_place, decl_place, place_at}
use Rattle.refused_words.specs.Refused.{is_phase_name, refuses, refuses_in, clashes}
use Rattle.refused_words.specs.Laws.{HasRefusedWord, has_word}
use Rattle.refused_words.proofs.CallFacts.{after, word_stands, value_stands, event_stands, access_stands}
use Rattle.refused_words.proofs.FormFacts.{form_cases, call_cases, declared, none_declared}
use Rattle.refused_words.proofs.MeetFacts.{outside_word, meeting_word}
use Rattle.refused_words.proofs.PlaceFacts.{at, IsPlain, place_of_operation, place_of_decl, verb_at, merge_at, on_at, at_behind, below_behind}
use Rattle.refused_words.proofs.ReasonFacts.{item_test, draft_test, draft_passes, words_pass}
use Rattle.refused_words.proofs.WordFacts.{first_place, word_at, word_below, word_place}

or_true : (b : Bool) → (b || true) ≡ true
or_true true = refl
or_true false = refl

or_last : (b : Bool) → (b || false) ≡ true → b ≡ true
or_last true h = refl
or_last false h = h

-- a word passes a test in the place in which it stands
abbrev Stands : GraphValue → List (List ℕ) → (Place → List ℕ → Bool) → Type 0
Stands g ws t = (k : ℕ) × (k < length ws) × (option_map_or (λ p. t p (at ws k)) (place_at g.format ws k) false ≡ true)

stands_at : (g : GraphValue) (ws : List (List ℕ)) (t : Place → List ℕ → Bool) (k : ℕ) (p : Place) (w : List ℕ) → k < length ws → place_at g.format ws k ≡ Some p → at ws k ≡ w → t p w ≡ true → Stands g ws t
stands_at g ws t k p w below is same h = (k, below, ap (λ o. option_map_or (λ q. t q (at ws k)) o false) is ∙ (ap (t p) same ∙ h))

abbrev passes : (Place → List ℕ → Bool) → List Placed → Bool
passes t xs = list_any (λ (x : Place × List ℕ). t x.0 x.1) xs

abbrev draft_placed : Option Draft → List Placed
draft_placed o = option_map_or (λ (d : Draft). d.placed) o []

-- where one of these words passes, one that stands in the line does
abbrev Shows : GraphValue → List (List ℕ) → (Place → List ℕ → Bool) → Option Draft → Type 0
Shows g ws t o = passes t (draft_placed o) ≡ true → Stands g ws t

either_shows : (g : GraphValue) (ws : List (List ℕ)) (t : Place → List ℕ → Bool) (b : Bool) (x y : Option Draft) → (b ≡ true → Shows g ws t x) → (b ≡ false → Shows g ws t y) → Shows g ws t (cond b x y)
either_shows g ws t true x y f h = f refl
either_shows g ws t false x y f h = h refl

-- a declaration
module _ (g : GraphValue) (w : List ℕ) (t : Place → List ℕ → Bool) where
  space_shows : (ws : List (List ℕ)) → ((k : ℕ) → k < length (w ∷ ws) → place_at g.format (w ∷ ws) k ≡ space_place k) → Shows g (w ∷ ws) t (space_draft g ws)
  space_shows [] is h = absurd (true≢false (sym h))
  space_shows (a ∷ []) is h = absurd (true≢false (sym h))
  space_shows (a ∷ b ∷ []) is h = elim (or_cases (t NewName a) (t Intervals b || false) h) [
    | inl p ↦ stands_at g (w ∷ a ∷ b ∷ []) t 1 NewName a (omega arith) (is 1 (omega arith)) refl p
    | inr q ↦ stands_at g (w ∷ a ∷ b ∷ []) t 2 Intervals b (omega arith) (is 2 (omega arith)) refl (or_last (t Intervals b) q)
  ]
  space_shows (a ∷ b ∷ c ∷ cs) is h = absurd (true≢false (sym h))

  columns_shows : (hosted : Bool) (a b c : List ℕ) → ((k : ℕ) → k < length (w ∷ a ∷ b ∷ c ∷ []) → place_at g.format (w ∷ a ∷ b ∷ c ∷ []) k ≡ columns_place k) → Shows g (w ∷ a ∷ b ∷ c ∷ []) t (Some (columns_with g hosted a b c))
  columns_shows hosted a b c is h = elim (or_cases (t NewName a) (t SpaceName b || (t Fields c || false)) h) [
    | inl p ↦ stands_at g (w ∷ a ∷ b ∷ c ∷ []) t 1 NewName a (omega arith) (is 1 (omega arith)) refl p
    | inr q ↦ elim (or_cases (t SpaceName b) (t Fields c || false) q) [
      | inl p ↦ stands_at g (w ∷ a ∷ b ∷ c ∷ []) t 2 SpaceName b (omega arith) (is 2 (omega arith)) refl p
      | inr r ↦ stands_at g (w ∷ a ∷ b ∷ c ∷ []) t 3 Fields c (omega arith) (is 3 (omega arith)) refl (or_last (t Fields c) r)
    ]
  ]

  inst_shows : (ws : List (List ℕ)) → ((k : ℕ) → k < length (w ∷ ws) → place_at g.format (w ∷ ws) k ≡ columns_place k) → Shows g (w ∷ ws) t (inst_draft g ws)
  inst_shows [] is h = absurd (true≢false (sym h))
  inst_shows (a ∷ []) is h = absurd (true≢false (sym h))
  inst_shows (a ∷ b ∷ []) is h = absurd (true≢false (sym h))
  inst_shows (a ∷ b ∷ c ∷ []) is h = columns_shows false a b c is h
  inst_shows (a ∷ b ∷ c ∷ d ∷ ds) is h = absurd (true≢false (sym h))

  data_by : (three : Bool) (a b c : List ℕ) → has_since Three g.format ≡ three → ((k : ℕ) → k < length (w ∷ a ∷ b ∷ c ∷ []) → place_at g.format (w ∷ a ∷ b ∷ c ∷ []) k ≡ data_place g.format k) → Shows g (w ∷ a ∷ b ∷ c ∷ []) t (cond three (Some (columns_with g true a b c)) None)
  data_by false a b c e is h = absurd (true≢false (sym h))
  data_by true a b c e is h = columns_shows true a b c (λ k l. is k l ∙ cond-true (has_since Three g.format) (columns_place k) None e) h

  data_shows : (ws : List (List ℕ)) → ((k : ℕ) → k < length (w ∷ ws) → place_at g.format (w ∷ ws) k ≡ data_place g.format k) → Shows g (w ∷ ws) t (data_draft g ws)
  data_shows [] is h = absurd (true≢false (sym h))
  data_shows (a ∷ []) is h = absurd (true≢false (sym h))
  data_shows (a ∷ b ∷ []) is h = absurd (true≢false (sym h))
  data_shows (a ∷ b ∷ c ∷ []) is h = data_by (has_since Three g.format) a b c refl is h
  data_shows (a ∷ b ∷ c ∷ d ∷ ds) is h = absurd (true≢false (sym h))

  lock_shows : (ws : List (List ℕ)) → ((k : ℕ) → k < length (w ∷ ws) → place_at g.format (w ∷ ws) k ≡ lock_place k) → Shows g (w ∷ ws) t (lock_draft g ws)
  lock_shows [] is h = absurd (true≢false (sym h))
  lock_shows (a ∷ []) is h = stands_at g (w ∷ a ∷ []) t 1 NewName a (omega arith) (is 1 (omega arith)) refl (or_last (t NewName a) h)
  lock_shows (a ∷ b ∷ bs) is h = absurd (true≢false (sym h))

  barrier_by : (a b c d : List ℕ) (o : Option Op) → ((k : ℕ) → k < length (w ∷ a ∷ b ∷ c ∷ d ∷ []) → place_at g.format (w ∷ a ∷ b ∷ c ∷ d ∷ []) k ≡ barrier_place k) → Shows g (w ∷ a ∷ b ∷ c ∷ d ∷ []) t (option_map (λ op. barrier_with g.format a b op d) o)
  barrier_by a b c d None is h = absurd (true≢false (sym h))
  barrier_by a b c d (Some op) is h = elim (or_cases (t NewName a) (t Count b || (t Value d || false)) h) [
    | inl p ↦ stands_at g (w ∷ a ∷ b ∷ c ∷ d ∷ []) t 1 NewName a (omega arith) (is 1 (omega arith)) refl p
    | inr q ↦ elim (or_cases (t Count b) (t Value d || false) q) [
      | inl p ↦ stands_at g (w ∷ a ∷ b ∷ c ∷ d ∷ []) t 2 Count b (omega arith) (is 2 (omega arith)) refl p
      | inr r ↦ stands_at g (w ∷ a ∷ b ∷ c ∷ d ∷ []) t 4 Value d (omega arith) (is 4 (omega arith)) refl (or_last (t Value d) r)
    ]
  ]

  barrier_shows : (ws : List (List ℕ)) → ((k : ℕ) → k < length (w ∷ ws) → place_at g.format (w ∷ ws) k ≡ barrier_place k) → Shows g (w ∷ ws) t (barrier_draft g ws)
  barrier_shows [] is h = absurd (true≢false (sym h))
  barrier_shows (a ∷ []) is h = absurd (true≢false (sym h))
  barrier_shows (a ∷ b ∷ []) is h = absurd (true≢false (sym h))
  barrier_shows (a ∷ b ∷ c ∷ []) is h = absurd (true≢false (sym h))
  barrier_shows (a ∷ b ∷ c ∷ d ∷ []) is h = barrier_by a b c d (op_of c) is h
  barrier_shows (a ∷ b ∷ c ∷ d ∷ e ∷ es) is h = absurd (true≢false (sym h))

  decl_shows : (ws : List (List ℕ)) → is_operation (w ∷ ws) ≡ false → Shows g (w ∷ ws) t (decl_draft g (w ∷ ws))
  decl_shows ws other =
      let is : (k : ℕ) → k < length (w ∷ ws) → place_at g.format (w ∷ ws) k ≡ decl_place g.format w k = λ k l. place_of_decl g.format (w ∷ ws) k l other in
      either_shows g (w ∷ ws) t (same_word w (codes "space")) _ _
      (λ a. space_shows ws (λ k l. is k l ∙ cond-true (same_word w (codes "space")) (space_place k) _ a))
      (λ a. either_shows g (w ∷ ws) t (same_word w (codes "inst")) _ _
      (λ b. inst_shows ws (λ k l. is k l ∙ (cond-false (same_word w (codes "space")) (space_place k) _ a ∙ cond-true (same_word w (codes "inst")) (columns_place k) _ b)))
      (λ b. either_shows g (w ∷ ws) t (same_word w (codes "lock")) _ _
      (λ c. lock_shows ws (λ k l. is k l ∙ (cond-false (same_word w (codes "space")) (space_place k) _ a ∙ (cond-false (same_word w (codes "inst")) (columns_place k) _ b ∙ cond-true (same_word w (codes "lock")) (lock_place k) _ c))))
      (λ c. either_shows g (w ∷ ws) t (same_word w (codes "barrier")) _ _
      (λ d. barrier_shows ws (λ k l. is k l
      ∙ (cond-false (same_word w (codes "space")) (space_place k) _ a ∙ (cond-false (same_word w (codes "inst")) (columns_place k) _ b ∙ (cond-false (same_word w (codes "lock")) (lock_place k) _ c ∙ cond-true (same_word w (codes "barrier")) (barrier_place k) _ d)))))
      (λ d. either_shows g (w ∷ ws) t (same_word w (codes "data")) (data_draft g ws) None
      (λ e. data_shows ws (λ k l. is k l
      ∙ (cond-false (same_word w (codes "space")) (space_place k) _ a ∙ (cond-false (same_word w (codes "inst")) (columns_place k) _ b ∙ (cond-false (same_word w (codes "lock")) (lock_place k) _ c
      ∙ (cond-false (same_word w (codes "barrier")) (barrier_place k) _ d ∙ cond-true (same_word w (codes "data")) (data_place g.format k) None e))))))
      (λ e h. absurd (true≢false (sym h)))))))

after_shows : (g : GraphValue) (ws : List (List ℕ)) (t : Place → List ℕ → Bool) (ls : List Line) → is_operation ws ≡ false → Shows g ws t (decl_draft_after g ls ws)
after_shows g [] t [] other h = absurd (true≢false (sym h))
after_shows g (w ∷ ws) t [] other h = decl_shows g w t ws other h
after_shows g ws t (l ∷ ls) other h = absurd (true≢false (sym h))

-- a word of several that all stand in one place, and one of several that stand each in its own
some_of : (t : Place → List ℕ → Bool) (p : Place) (ws : List (List ℕ)) → passes t (map (λ w. (p, w)) ws) ≡ true → (i : ℕ) × (i < length ws) × (t p (at ws i) ≡ true)
some_of t p [] h = absurd (true≢false (sym h))
some_of t p (w ∷ ws) h = elim (or_cases (t p w) (passes t (map (λ x. (p, x)) ws)) h) [
  | inl a ↦ (0, omega arith, a)
  | inr b ↦ (let r = some_of t p ws b in (suc r.0, (let below : r.0 < length ws = r.1 in let more : suc r.0 < suc (length ws) = omega arith in more), r.2))
]

-- a word of one access of several
record HasPassed (t : Place → List ℕ → Bool) (xs : List AccessWords) : Type 0 where
  place : ℕ
  access : AccessWords
  is : slice_get xs place ≡ Some access
  passes_one : (t DataColumn access.column ≡ true) ⊎ (t SpaceName access.space ≡ true)

some_access : (t : Place → List ℕ → Bool) (xs : List AccessWords) → passes t (accesses_placed xs) ≡ true → HasPassed t xs
some_access t [] h = absurd (true≢false (sym h))
some_access t (x ∷ xs) h = elim (or_cases (t DataColumn x.column) (t SpaceName x.space || passes t (accesses_placed xs)) h) [
  | inl a ↦ record { place = 0; access = x; is = refl; passes_one = inl a }
  | inr b ↦ elim (or_cases (t SpaceName x.space) (passes t (accesses_placed xs)) b) [
    | inl c ↦ record { place = 0; access = x; is = refl; passes_one = inr c }
    | inr d ↦ (let r = some_access t xs d in record { place = suc r.place; access = r.access; is = r.is; passes_one = r.passes_one })
  ]
]

some_in : (t : Place → List ℕ → Bool) (ps : List table.Place) (ws : List (List ℕ)) → passes t (zip (map as_place ps) ws) ≡ true →
    (i : ℕ) × (i < length ps) × (i < length ws) × (option_map_or (λ p. t p (at ws i)) (option_map as_place (slice_get ps i)) false ≡ true)
some_in t [] ws h = absurd (true≢false (sym h))
some_in t (p ∷ ps) [] h = absurd (true≢false (sym h))
some_in t (p ∷ ps) (w ∷ ws) h = elim (or_cases (t (as_place p) w) (passes t (zip (map as_place ps) ws)) h) [
  | inl a ↦ (0, omega arith, omega arith, a)
  | inr b ↦ (let r = some_in t ps ws b in (
    suc r.0,
    (let below : r.0 < length ps = r.1 in let more : suc r.0 < suc (length ps) = omega arith in more),
    (let below : r.0 < length ws = r.2 in let more : suc r.0 < suc (length ws) = omega arith in more),
    r.3,
  ))
]

either_part : (t : Place → List ℕ → Bool) (xs ys : List Placed) → passes t (xs ++ ys) ≡ true → (passes t xs ≡ true) ⊎ (passes t ys ≡ true)
either_part t [] ys h = inr h
either_part t (x ∷ xs) ys h = elim (or_cases (t x.0 x.1) (passes t (xs ++ ys)) h) [
  | inl a ↦ inl (ap (λ b. b || passes t xs) a)
  | inr b ↦ elim (either_part t xs ys b) [
    | inl c ↦ inl (ap (λ b. t x.0 x.1 || b) c ∙ or_true (t x.0 x.1))
    | inr d ↦ inr d
  ]
]

-- an operation
module _ (g : GraphValue) (ws : List (List ℕ)) (t : Place → List ℕ → Bool) (operation : is_operation ws ≡ true) (some : 0 < length ws) where
  name_shows : t NewName (at ws 0) ≡ true → Stands g ws t
  name_shows h = stands_at g ws t 0 NewName (at ws 0) some (first_place g ws operation) refl h

  merged_at : (es : List (List ℕ)) (i : ℕ) → es ≡ drop 1 (drop 2 ws) → is_merge (drop 2 ws) ≡ true → i < length es → t EventName (at es i) ≡ true → Stands g ws t
  merged_at es i same m inside h =
      let below : i < length (drop 1 (drop 2 ws)) = subst (λ xs. i < length xs) same inside in
      let first : i + 1 < length (drop 2 ws) = below_behind (drop 2 ws) 1 i (i + 1) (omega arith) below in
      let second : i + 1 + 2 < length ws = below_behind ws 2 (i + 1) (i + 1 + 2) (omega arith) first in
      stands_at g ws t (i + 1 + 2) EventName (at es i) second
      (place_of_operation g.format ws (i + 1 + 2) second operation ∙ (verb_at g.format ws (i + 1 + 2) (i + 1) refl ∙ merge_at g.format (drop 2 ws) i m))
      (sym (at_behind ws 2 (i + 1) (i + 1 + 2) (omega arith)) ∙ (sym (at_behind (drop 2 ws) 1 i (i + 1) (omega arith)) ∙ ap (λ xs. at xs i) (sym same)))
      h

  merged : (es : List (List ℕ)) → es ≡ drop 1 (drop 2 ws) → is_merge (drop 2 ws) ≡ true → (t NewName (at ws 0) || passes t (map (λ w. (EventName, w)) es)) ≡ true → Stands g ws t
  merged es same m h = elim (or_cases (t NewName (at ws 0)) (passes t (map (λ w. (EventName, w)) es)) h) [
    | inl a ↦ name_shows a
    | inr b ↦ (let r = some_of t EventName es b in merged_at es r.0 same m r.1 r.2)
  ]

  merge_shows : (ignores : Bool) (es : List (List ℕ)) → es ≡ drop 1 (drop 2 ws) → is_merge (drop 2 ws) ≡ true → Shows g ws t (merge_draft g (at ws 0) (merge_verb ignores) es)
  merge_shows ignores [] same m h = absurd (true≢false (sym h))
  merge_shows ignores (e ∷ es) same m h = merged (e ∷ es) same m h

  module _ (kind : Kind) (other : IsPlain (drop 2 ws)) (found : find (λ k. is_of_form g.format (drop 2 ws) (form_of k)) KINDS ≡ Some kind) where
    abbrev rest : List (List ℕ)
    rest = drop (length (kind_words kind)) (drop 2 ws)

    fixed : 0 < length rest → length (kind_words kind) ≤ length (drop 2 ws)
    fixed l = let s : length rest ≡ length (drop 2 ws) - length (kind_words kind) = length-drop (length (kind_words kind)) (drop 2 ws) in omega arith

    on_stands : (i : ℕ) → length (kind_places kind) < i → i < length rest → has_on g.format (form_of kind) rest ≡ true → t EventName (at rest i) ≡ true → Stands g ws t
    on_stands i past l e h =
        let long : length (kind_words kind) ≤ length (drop 2 ws) = fixed (omega arith) in
        let below : i + length (kind_words kind) + 2 < length ws = word_below g ws operation kind other found long i l in
        stands_at g ws t (i + length (kind_words kind) + 2) EventName (at rest i) below
        (place_of_operation g.format ws (i + length (kind_words kind) + 2) below operation
        ∙ (verb_at g.format ws (i + length (kind_words kind) + 2) (i + length (kind_words kind)) refl ∙ on_at g.format kind (drop 2 ws) other found long (i + length (kind_words kind)) i refl past e))
        (sym (word_at g ws operation kind other found long i))
        h

    on_shows : (b : Bool) → has_on g.format (form_of kind) rest ≡ b → passes t (events_placed (cond b (drop (length (form_of kind).places + 1) rest) [])) ≡ true → Stands g ws t
    on_shows false e h = absurd (true≢false (sym h))
    on_shows true e h =
        let m : ℕ = length (form_of kind).places + 1 in
        let r = some_of t EventName (drop m rest) h in
        let places : length (form_of kind).places ≡ length (kind_places kind) = length-map (kind_places kind) as_place in
        on_stands (m + r.0) (omega arith) (below_behind rest m r.0 (m + r.0) refl r.1) e (ap (t EventName) (sym (at_behind rest m r.0 (m + r.0) refl)) ∙ r.2)

    place_stands : (i : ℕ) → i < length (kind_places kind) → i < length rest → option_map_or (λ p. t p (at rest i)) (option_map as_place (slice_get (kind_places kind) i)) false ≡ true → Stands g ws t
    place_stands i within l h =
        let long : length (kind_words kind) ≤ length (drop 2 ws) = fixed (omega arith) in (
          i + length (kind_words kind) + 2,
          word_below g ws operation kind other found long i l,
          ap (λ o. option_map_or (λ p. t p (at ws (i + length (kind_words kind) + 2))) o false) (word_place g ws operation kind other found long i l within)
              ∙ (ap (λ w. option_map_or (λ p. t p w) (option_map as_place (slice_get (kind_places kind) i)) false) (sym (word_at g ws operation kind other found long i)) ∙ h),
        )

    kind_shows : Shows g ws t (Some (kind_draft g kind (at ws 0) rest))
    kind_shows h = elim (or_cases (t NewName (at ws 0)) (passes t (zip (map as_place (kind_places kind)) rest ++ on_placed g.format (form_of kind) rest)) h) [
      | inl a ↦ name_shows a
      | inr b ↦ elim (either_part t (zip (map as_place (kind_places kind)) rest) (on_placed g.format (form_of kind) rest) b) [
        | inl c ↦ (let r = some_in t (kind_places kind) rest c in place_stands r.0 r.1 r.2 r.3)
        | inr d ↦ on_shows (has_on g.format (form_of kind) rest) refl d
      ]
    ]

  -- of a call
  module _ (merge : is_merge (drop 2 ws) ≡ false) (called : is_call (drop 2 ws) ≡ true) (three : has_since Three g.format ≡ true) (c : CallWords) (parts : call_words (drop 1 (drop 2 ws)) ≡ Some c) where
    value_shows : passes t (values_placed c.values) ≡ true → Stands g ws t
    value_shows h =
        let r = some_of t Value c.values h in
        let s = value_stands g.format ws operation merge called three c parts r.0 r.1 in
        stands_at g ws t (r.0 + 4) Value (at c.values r.0) s.0 s.1 s.2 r.2

    access_shows : passes t (accesses_placed c.accesses) ≡ true → Stands g ws t
    access_shows h =
        let r = some_access t c.accesses h in
        let n : ℕ = after r.place 1 + (length c.values + 4) in
        let s = access_stands g.format ws operation merge called three c parts r.place r.access r.is n refl in
        let last : n + 1 < length ws = s.below in
        elim r.passes_one [
          | inl a ↦ stands_at g ws t n DataColumn r.access.column (omega arith) s.column_place s.column a
          | inr b ↦ stands_at g ws t (n + 1) SpaceName r.access.space last s.space_place s.space b
        ]

    events_show : passes t (events_placed c.events) ≡ true → Stands g ws t
    events_show h =
        let r = some_of t EventName c.events h in
        let n : ℕ = after (length c.accesses) (suc r.0) + (length c.values + 4) in
        let s = event_stands g.format ws operation merge called three c parts r.0 r.1 n refl in
        stands_at g ws t n EventName (at c.events r.0) s.0 s.1 s.2 r.2

    call_shows : Shows g ws t (Some (call_with g (at ws 0) c))
    call_shows h = elim (or_cases (t NewName (at ws 0)) _ h) [
      | inl a ↦ name_shows a
      | inr b ↦ elim (or_cases (t CallName c.word) _ b) [
        | inl a ↦ (let s = word_stands g.format ws operation merge called three c parts in stands_at g ws t 3 CallName c.word s.0 s.1 s.2 a)
        | inr d ↦ elim (either_part t (values_placed c.values) (accesses_placed c.accesses ++ events_placed c.events) d) [
          | inl a ↦ value_shows a
          | inr e ↦ elim (either_part t (accesses_placed c.accesses) (events_placed c.events) e) [
            | inl a ↦ access_shows a
            | inr f ↦ events_show f
          ]
        ]
      ]
    ]

  shows_by : (o p : Option Draft) → o ≡ p → Shows g ws t p → Shows g ws t o
  shows_by o p e f h = f (sym (ap (λ x. passes t (draft_placed x)) e) ∙ h)

  nothing_shows : Shows g ws t None
  nothing_shows h = absurd (true≢false (sym h))

  found_shows : (o : Option Kind) → find (λ k. is_of_form g.format (drop 2 ws) (form_of k)) KINDS ≡ o → IsPlain (drop 2 ws) → Shows g ws t (option_map (λ k. kind_draft g k (at ws 0) (drop (length (form_of k).words) (drop 2 ws))) o)
  found_shows None found plain = nothing_shows
  found_shows (Some kind) found plain = kind_shows kind plain found

  operation_shows : Shows g ws t (draft g ws)
  operation_shows = elim (form_cases g (at ws 0) (drop 2 ws)) [
    | inl m ↦ shows_by _ _ (line_by_sign g ws operation ∙ m.1) (merge_shows m.0 (drop 1 (drop 2 ws)) refl m.2)
    | inr later ↦ elim later [
      | inl k ↦ elim (call_cases g (at ws 0) (drop 1 (drop 2 ws))) [
        | inl none ↦ shows_by _ None (line_by_sign g ws operation ∙ (k.0 ∙ none)) nothing_shows
        | inr p ↦ shows_by _ _ (line_by_sign g ws operation ∙ (k.0 ∙ p.spelled)) (call_shows k.1 k.2 p.three p.call p.parts)
      ]
      | inr k ↦ shows_by _ _ (line_by_sign g ws operation ∙ k.2) (found_shows k.0 k.1 k.3)
    ]
  ]

draft_by : (g : GraphValue) (ws : List (List ℕ)) (t : Place → List ℕ → Bool) (b : Bool) → is_operation ws ≡ b → Shows g ws t (draft g ws)
draft_by g [] t true e h = absurd (true≢false (sym e))
draft_by g (w ∷ ws) t true e h = operation_shows g (w ∷ ws) t e (omega arith) h
draft_by g ws t false e h = after_shows g ws t g.lines e (sym (ap (λ x. passes t (draft_placed x)) (decl_by_sign g ws e)) ∙ h)

draft_shows : (g : GraphValue) (ws : List (List ℕ)) (t : Place → List ℕ → Bool) → list_any (λ (x : Place × List ℕ). t x.0 x.1) (draft_placed (draft g ws)) ≡ true → Stands g ws t
draft_shows g ws t h = draft_by g ws t (is_operation ws) refl h

-- a word that is refused by what stands in its place
refused_in : (g : GraphValue) (ws : List (List ℕ)) (reason : Why) (k : ℕ) (o : Option Place) → option_map_or (λ p. refuses g reason p (at ws k)) o false ≡ true → option_map_or (λ p. refuses_in g ws reason p k) o false ≡ true
refused_in g ws reason k None h = absurd (true≢false (sym h))
refused_in g ws reason k (Some p) h = ap (λ b. b || clashes g ws reason p k) h

stands_refused : (g : GraphValue) (ws : List (List ℕ)) (reason : Why) → Stands g ws (refuses g reason) → HasRefusedWord g reason ws
stands_refused g ws reason s = (s.0, s.1, inl (refused_in g ws reason s.0 (place_at g.format ws s.0) s.2))

no_name : (g : GraphValue) (i : Decl ⊎ Line) → item_test g reasons.Name i ≡ false
no_name g (inl d) = refl
no_name g (inr l) = refl

no_order : (g : GraphValue) (i : Decl ⊎ Line) → item_test g reasons.Space i ≡ false
no_order g (inl d) = refl
no_order g (inr l) = refl

name_word : (g : GraphValue) (ws : List (List ℕ)) → words_fault g ws ≡ Some reasons.Name → HasRefusedWord g reasons.Name ws
name_word g ws h = stands_refused g ws reasons.Name (draft_shows g ws (misnamed g.format) (words_pass g reasons.Name ws (λ e. cc) (no_name g) h))

space_word : (g : GraphValue) (ws : List (List ℕ)) → words_fault g ws ≡ Some reasons.Space → HasRefusedWord g reasons.Space ws
space_word g ws h = stands_refused g ws reasons.Space (draft_shows g ws misordered (words_pass g reasons.Space ws (λ e. cc) (no_order g) h))

-- an arrival names a phase
abbrev phase_test : Place → List ℕ → Bool
phase_test p w = is_phase_name p

abbrev NamesPhase : GraphValue → Option Draft → Type 0
NamesPhase g o = draft_test g reasons.Arrivals o ≡ true → passes phase_test (draft_placed o) ≡ true

kind_late : (g : GraphValue) (kind : Kind) (name : List ℕ) (rest : List (List ℕ)) → HasPlaces kind rest → NamesPhase g (Some (kind_draft g kind name rest))
kind_late g kinds.Arrive name [] there h = absurd (let l : 2 ≤ 0 = there in omega arith)
kind_late g kinds.Arrive name (w ∷ ws) there h = refl
kind_late g kinds.ArriveTimes name [] there h = absurd (let l : 4 ≤ 0 = there in omega arith)
kind_late g kinds.ArriveTimes name (w ∷ ws) there h = refl
kind_late g kind name ws there h = absurd (true≢false (sym h))

merge_late : (g : GraphValue) (name : List ℕ) (ignores : Bool) (es : List (List ℕ)) → NamesPhase g (merge_draft g name (merge_verb ignores) es)
merge_late g name ignores [] h = absurd (true≢false (sym h))
merge_late g name true (e ∷ es) h = absurd (true≢false (sym h))
merge_late g name false (e ∷ es) h = absurd (true≢false (sym h))

late_by : (g : GraphValue) (o p : Option Draft) → o ≡ p → NamesPhase g p → NamesPhase g o
late_by g o p e f = subst (λ x. NamesPhase g x) (sym e) f

none_late : (g : GraphValue) → NamesPhase g None
none_late g h = absurd (true≢false (sym h))

found_late : (g : GraphValue) (name : List ℕ) (ws : List (List ℕ)) (o : Option Kind) → find (λ k. is_of_form g.format ws (form_of k)) KINDS ≡ o → NamesPhase g (option_map (λ k. kind_draft g k name (drop (length (form_of k).words) ws)) o)
found_late g name ws None found = none_late g
found_late g name ws (Some kind) found = kind_late g kind name (drop (length (form_of kind).words) ws) (places_there g.format kind ws (found_passes (λ x. is_of_form g.format ws (form_of x)) KINDS kind found))

line_late : (g : GraphValue) (name : List ℕ) (ws : List (List ℕ)) → NamesPhase g (line_draft g name ws)
line_late g name ws = elim (form_cases g name ws) [
  | inl m ↦ late_by g _ _ m.1 (merge_late g name m.0 (drop 1 ws))
  | inr later ↦ elim later [
    | inl k ↦ elim (call_cases g name (drop 1 ws)) [
      | inl none ↦ late_by g _ None (k.0 ∙ none) (none_late g)
      | inr p ↦ late_by g _ _ (k.0 ∙ p.spelled) (λ h. absurd (true≢false (sym h)))
    ]
    | inr k ↦ late_by g _ _ k.2 (found_late g name ws k.0 k.1)
  ]
]

draft_phase : (g : GraphValue) (ws : List (List ℕ)) (b : Bool) → is_operation ws ≡ b → NamesPhase g (draft g ws)
draft_phase g ws true e h = late_by g _ _ (line_by_sign g ws e) (line_late g (at ws 0) (drop 2 ws)) h
draft_phase g ws false e h = absurd (true≢false (sym h ∙ none_declared (item_test g reasons.Arrivals) false (draft g ws) (declared g ws e) (λ d. refl)))

arrivals_word : (g : GraphValue) (ws : List (List ℕ)) → words_fault g ws ≡ Some reasons.Arrivals → HasRefusedWord g reasons.Arrivals ws
arrivals_word g ws h = stands_refused g ws reasons.Arrivals (draft_shows g ws phase_test (draft_phase g ws (is_operation ws) refl (draft_passes g reasons.Arrivals ws (λ e. cc) (λ ps. refl) h)))

pub refused_word : (g : GraphValue) (reason : Why) (ws : List (List ℕ)) → has_word reason ≡ true → words_fault g ws ≡ Some reason → HasRefusedWord g reason ws
refused_word g reasons.Name ws is h = name_word g ws h
refused_word g reasons.Space ws is h = space_word g ws h
refused_word g reasons.Outside ws is h = outside_word g ws h
refused_word g reasons.Meets ws is h = meeting_word g ws h
refused_word g reasons.Arrivals ws is h = arrivals_word g ws h
refused_word g reason ws is h = absurd (true≢false (sym is))
