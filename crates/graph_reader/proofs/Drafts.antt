-- What no reason refuses: each word in its place, no event and no column twice, and the item itself.
use Rattle.std.proofs.Common.{◌≡◌, ℕ, suc, ◌+◌, ◌<◌, ◌≤◌, Bool, true, false, ◌||◌, List, [], ◌∷◌, ◌++◌, length, drop, map, refl, sym, ◌∙◌, ap, arith}
use Rattle.std.specs.Prelude.{Option, Some, None, bytes_eq, nat_eq, filter_map, zip, slice_index_or}
use Rattle.std.specs.List.{list_any, list_all, AllByRecursion, cons_option}
use Rattle.std.proofs.lemmas.Bool.{or_parts, or_from, and_parts, false_from_ne_true, eqb-false}
use Rattle.std.proofs.lemmas.Option.{none-some}
use Rattle.graph_terms.specs.declared.why.Why.{Why}
use Rattle.graph_terms.specs.Graph.{GraphValue}
use Rattle.graph_terms.specs.Spelling.{column_name}
use Rattle.graph_terms.specs.Fits.{first_reason, repeats}
use Rattle.graph_words.specs.Words.{pieces}
use Rattle.graph_words.specs.Draft.{Place, NewName, SpaceName, LockName, BarrierName, UserName, PhaseName, AcquireName, EventName, CallName, Column, DataColumn, Fields, Value, Times, Weight, Shared, Count, Intervals, Placed, events_placed, is_own_word, Draft, number_in, column_number_of}
use Rattle.graph_reader.specs.FirstFault.{event_word, column_word, item_fault, or_else, draft_tests, draft_fault}
use Rattle.word_meanings.specs.WordFaults.{misnamed, unknown, twice, unlike, misnumbered, misordered}
use Rattle.word_meanings.specs.Words.{is_word, IsWord}
use Rattle.graph_words.proofs.Public.{each_fails, none_where_each_fails}
use Rattle.basics.proofs.TestedLists.{same_bytes, each_from_none}
use Rattle.word_meanings.specs.Names.{IsNamed}
use Rattle.word_meanings.specs.Places.{spell, IsFine, FitsPlace, IsNumbered, IsBounded}
use Rattle.word_meanings.proofs.Public.{place_reads, place_spelled, word_by_test}

abbrev pub EachFine : GraphValue → List Placed → Type 0
EachFine g ps = AllByRecursion (λ (p : Placed). IsFine g p.0 p.1) ps

abbrev pub event_words : List Placed → List (List ℕ)
event_words ps = filter_map (λ (p : Placed). event_word p.0 p.1) ps

abbrev pub column_words : List Placed → List (List ℕ)
column_words ps = filter_map (λ (p : Placed). column_word p.0 p.1) ps

pub record IsFineDraft (g : GraphValue) (d : Draft) : Type 0 where
  pub each : EachFine g d.placed
  pub events : repeats bytes_eq (event_words d.placed) ≡ false
  pub columns : repeats bytes_eq (column_words d.placed) ≡ false
  pub item : item_fault g d.item ≡ None

or_else_none : (a b : Option Why) → or_else a b ≡ None → (a ≡ None) × (b ≡ None)
or_else_none None b h = (refl, h)
or_else_none (Some w) b h = absurd (none-some w (sym h))

each_fine : (g : GraphValue) (ps : List Placed) → AllByRecursion (λ (p : Placed). misnamed g.format p.0 p.1 ≡ false) ps → AllByRecursion (λ (p : Placed). twice g p.0 p.1 ≡ false) ps → AllByRecursion (λ (p : Placed). unknown g p.0 p.1 ≡ false) ps →
    AllByRecursion (λ (p : Placed). unlike g p.0 p.1 ≡ false) ps → AllByRecursion (λ (p : Placed). misnumbered g.format p.0 p.1 ≡ false) ps → AllByRecursion (λ (p : Placed). misordered p.0 p.1 ≡ false) ps → EachFine g ps
each_fine g [] a b c d e f = tt
each_fine g (p ∷ ps) a b c d e f = (record { named = a.0; once = b.0; known = c.0; alike = d.0; numbered = e.0; ordered = f.0 }, each_fine g ps a.1 b.1 c.1 d.1 e.1 f.1)

pub fine_draft : (g : GraphValue) (d : Draft) → draft_fault g d ≡ None → IsFineDraft g d
fine_draft g d h =
    let o = or_else_none (first_reason (draft_tests g d)) (item_fault g d.item) h in
    let t = each_fails (draft_tests g d) o.0 in
    let u = or_parts (list_any (λ (p : Placed). twice g p.0 p.1) d.placed) (repeats bytes_eq (event_words d.placed) || repeats bytes_eq (column_words d.placed)) t.1.0 in
    let v = or_parts (repeats bytes_eq (event_words d.placed)) (repeats bytes_eq (column_words d.placed)) u.1 in
    record {
      each = each_fine g d.placed (each_from_none (λ (p : Placed). misnamed g.format p.0 p.1) d.placed t.0) (each_from_none (λ (p : Placed). twice g p.0 p.1) d.placed u.0) (each_from_none (λ (p : Placed). unknown g p.0 p.1) d.placed t.1.1.0)
          (each_from_none (λ (p : Placed). unlike g p.0 p.1) d.placed t.1.1.1.0) (each_from_none (λ (p : Placed). misnumbered g.format p.0 p.1) d.placed t.1.1.1.1.0) (each_from_none (λ (p : Placed). misordered p.0 p.1) d.placed t.1.1.1.1.1.0);
      events = v.0;
      columns = v.1;
      item = o.1;
    }

fine_none : (g : GraphValue) (t : Place → List ℕ → Bool) → ((p : Place) (w : List ℕ) → IsFine g p w → t p w ≡ false) → (ps : List Placed) → EachFine g ps → list_any (λ (p : Placed). t p.0 p.1) ps ≡ false
fine_none g t f [] h = refl
fine_none g t f (p ∷ ps) h = or_from (t p.0 p.1) (list_any (λ (q : Placed). t q.0 q.1) ps) (f p.0 p.1 h.0) (fine_none g t f ps h.1)

-- words that are fine leave the reasons of what they spell
pub fine_words : (g : GraphValue) (d : Draft) → EachFine g d.placed → repeats bytes_eq (event_words d.placed) ≡ false → repeats bytes_eq (column_words d.placed) ≡ false → draft_fault g d ≡ item_fault g d.item
fine_words g d each events columns =
    ap (λ o. or_else o (item_fault g d.item)) (none_where_each_fails (draft_tests g d) (
      fine_none g (misnamed g.format) (λ p w k. k.named) d.placed each,
      (
        or_from (list_any (λ (p : Placed). twice g p.0 p.1) d.placed) (repeats bytes_eq (event_words d.placed) || repeats bytes_eq (column_words d.placed)) (fine_none g (twice g) (λ p w k. k.once) d.placed each)
            (or_from (repeats bytes_eq (event_words d.placed)) (repeats bytes_eq (column_words d.placed)) events columns),
        (
          fine_none g (unknown g) (λ p w k. k.known) d.placed each,
          (
            fine_none g (unlike g) (λ p w k. k.alike) d.placed each,
            (
              fine_none g (misnumbered g.format) (λ p w k. k.numbered) d.placed each,
              (fine_none g misordered (λ p w k. k.ordered) d.placed each, tt),
            ),
          ),
        ),
      ),
    ))

pub no_draft_fault : (g : GraphValue) (d : Draft) → IsFineDraft g d → draft_fault g d ≡ None
no_draft_fault g d h = fine_words g d h.each h.events h.columns ∙ h.item

-- the words of numbers in their places
abbrev pub spell_list : GraphValue → List Place → List ℕ → List (List ℕ)
spell_list g [] ns = []
spell_list g (p ∷ ps) [] = []
spell_list g (p ∷ ps) (n ∷ ns) = spell g p n ∷ spell_list g ps ns

abbrev pub FitPlaces : GraphValue → List Place → List ℕ → Type 0
FitPlaces g [] [] = Unit {0}
FitPlaces g [] (n ∷ ns) = ⊥
FitPlaces g (p ∷ ps) [] = ⊥
FitPlaces g (p ∷ ps) (n ∷ ns) = FitsPlace g p n × FitPlaces g ps ns

pub placed_fine : (g : GraphValue) → IsNamed g → (ps : List Place) (ns : List ℕ) (more : List (List ℕ)) → FitPlaces g ps ns → EachFine g (zip ps (spell_list g ps ns ++ more))
placed_fine g h [] [] more f = tt
placed_fine g h [] (n ∷ ns) more f = absurd f
placed_fine g h (p ∷ ps) [] more f = absurd f
placed_fine g h (p ∷ ps) (n ∷ ns) more f = let r = place_reads g h p n f.0 in (r.fine, placed_fine g h ps ns more f.1)

pub placed_numbers : (g : GraphValue) → IsNamed g → (ps : List Place) (ns : List ℕ) (more : List (List ℕ)) → FitPlaces g ps ns → map (number_in g) (zip ps (spell_list g ps ns ++ more)) ≡ ns
placed_numbers g h [] [] more f = refl
placed_numbers g h [] (n ∷ ns) more f = absurd f
placed_numbers g h (p ∷ ps) [] more f = absurd f
placed_numbers g h (p ∷ ps) (n ∷ ns) more f = let r = place_reads g h p n f.0 in
    ap (λ x. x ∷ map (number_in g) (zip ps (spell_list g ps ns ++ more))) r.number_is ∙ ap (λ xs. n ∷ xs) (placed_numbers g h ps ns more f.1)

pub placed_words : (g : GraphValue) → IsNamed g → (ps : List Place) (ns : List ℕ) → FitPlaces g ps ns → AllByRecursion IsWord (spell_list g ps ns)
placed_words g h [] [] f = tt
placed_words g h [] (n ∷ ns) f = tt
placed_words g h (p ∷ ps) [] f = tt
placed_words g h (p ∷ ps) (n ∷ ns) f = let r = place_reads g h p n f.0 in (r.word, placed_words g h ps ns f.1)

-- the columns among numbers in their places
abbrev pub columns_in : List Place → List ℕ → List ℕ
columns_in [] ns = []
columns_in (p ∷ ps) [] = []
columns_in (Column ∷ ps) (n ∷ ns) = n ∷ columns_in ps ns
columns_in (p ∷ ps) (n ∷ ns) = columns_in ps ns

-- a place that is no event's
abbrev pub IsNoEvent : Place → Type 0
IsNoEvent p = (w : List ℕ) → event_word p w ≡ None

pub placed_events : (g : GraphValue) (ps : List Place) (ws : List (List ℕ)) → AllByRecursion IsNoEvent ps → event_words (zip ps ws) ≡ []
placed_events g [] ws h = refl
placed_events g (p ∷ ps) [] h = refl
placed_events g (p ∷ ps) (w ∷ ws) h = ap (λ o. cons_option o (event_words (zip ps ws))) (h.0 w) ∙ placed_events g ps ws h.1

pub placed_columns : (g : GraphValue) (ps : List Place) (ns : List ℕ) (more : List (List ℕ)) → FitPlaces g ps ns → column_words (zip ps (spell_list g ps ns ++ more)) ≡ map (column_name g) (columns_in ps ns)
placed_columns g [] [] more f = refl
placed_columns g [] (n ∷ ns) more f = absurd f
placed_columns g (p ∷ ps) [] more f = absurd f
placed_columns g (Column ∷ ps) (n ∷ ns) more f = ap (λ xs. column_name g n ∷ xs) (placed_columns g ps ns more f.1)
placed_columns g (SpaceName ∷ ps) (n ∷ ns) more f = placed_columns g ps ns more f.1
placed_columns g (LockName ∷ ps) (n ∷ ns) more f = placed_columns g ps ns more f.1
placed_columns g (BarrierName ∷ ps) (n ∷ ns) more f = placed_columns g ps ns more f.1
placed_columns g (UserName ∷ ps) (n ∷ ns) more f = placed_columns g ps ns more f.1
placed_columns g (PhaseName ∷ ps) (n ∷ ns) more f = placed_columns g ps ns more f.1
placed_columns g (AcquireName ∷ ps) (n ∷ ns) more f = placed_columns g ps ns more f.1
placed_columns g (EventName ∷ ps) (n ∷ ns) more f = placed_columns g ps ns more f.1
placed_columns g (CallName ∷ ps) (n ∷ ns) more f = placed_columns g ps ns more f.1
placed_columns g (DataColumn ∷ ps) (n ∷ ns) more f = placed_columns g ps ns more f.1
placed_columns g (Value ∷ ps) (n ∷ ns) more f = placed_columns g ps ns more f.1
placed_columns g (Times ∷ ps) (n ∷ ns) more f = placed_columns g ps ns more f.1
placed_columns g (Shared ∷ ps) (n ∷ ns) more f = placed_columns g ps ns more f.1
placed_columns g (Weight ∷ ps) (n ∷ ns) more f = placed_columns g ps ns more f.1
placed_columns g (Count ∷ ps) (n ∷ ns) more f = placed_columns g ps ns more f.1
placed_columns g (NewName ∷ ps) (n ∷ ns) more f = placed_columns g ps ns more f.1
placed_columns g (Fields ∷ ps) (n ∷ ns) more f = placed_columns g ps ns more f.1
placed_columns g (Intervals ∷ ps) (n ∷ ns) more f = placed_columns g ps ns more f.1

-- the words of events in their places
pub events_listed : (ws : List (List ℕ)) → event_words (events_placed ws) ≡ ws
events_listed [] = refl
events_listed (w ∷ ws) = ap (λ xs. w ∷ xs) (events_listed ws)

pub events_no_columns : (ws : List (List ℕ)) → column_words (events_placed ws) ≡ []
events_no_columns [] = refl
events_no_columns (w ∷ ws) = events_no_columns ws

-- names that are read back repeat no more than their numbers
names_unlisted : (name : ℕ → List ℕ) (number : List ℕ → ℕ) (n : ℕ) (ns : List ℕ) → number (name n) ≡ n → AllByRecursion (λ k. number (name k) ≡ k) ns → list_any (nat_eq n) ns ≡ false → list_any (bytes_eq (name n)) (map name ns) ≡ false
names_unlisted name number n [] e h k = refl
names_unlisted name number n (m ∷ ms) e h k = let p = or_parts (nat_eq n m) (list_any (nat_eq n) ms) k in
    or_from (bytes_eq (name n) (name m)) (list_any (bytes_eq (name n)) (map name ms))
    (false_from_ne_true (bytes_eq (name n) (name m)) (λ s. eqb-false n m p.0 (sym e ∙ (ap number (same_bytes (name n) (name m) s) ∙ h.0))))
    (names_unlisted name number n ms e h.1 p.1)

pub names_repeat : (name : ℕ → List ℕ) (number : List ℕ → ℕ) (ns : List ℕ) → AllByRecursion (λ k. number (name k) ≡ k) ns → repeats nat_eq ns ≡ false → repeats bytes_eq (map name ns) ≡ false
names_repeat name number [] h r = refl
names_repeat name number (n ∷ ns) h r = let p = or_parts (list_any (nat_eq n) ns) (repeats nat_eq ns) r in
    or_from (list_any (bytes_eq (name n)) (map name ns)) (repeats bytes_eq (map name ns)) (names_unlisted name number n ns h.0 h.1 p.0) (names_repeat name number ns h.1 p.1)

pub columns_read : (g : GraphValue) → IsNamed g → (ps : List Place) (ns : List ℕ) → FitPlaces g ps ns → AllByRecursion (λ c. column_number_of g (pieces 46 (column_name g c)) ≡ c) (columns_in ps ns)
columns_read g h [] ns f = tt
columns_read g h (p ∷ ps) [] f = tt
columns_read g h (Column ∷ ps) (n ∷ ns) f = let r = place_reads g h Column n f.0 in (r.number_is, columns_read g h ps ns f.1)
columns_read g h (SpaceName ∷ ps) (n ∷ ns) f = columns_read g h ps ns f.1
columns_read g h (LockName ∷ ps) (n ∷ ns) f = columns_read g h ps ns f.1
columns_read g h (BarrierName ∷ ps) (n ∷ ns) f = columns_read g h ps ns f.1
columns_read g h (UserName ∷ ps) (n ∷ ns) f = columns_read g h ps ns f.1
columns_read g h (PhaseName ∷ ps) (n ∷ ns) f = columns_read g h ps ns f.1
columns_read g h (AcquireName ∷ ps) (n ∷ ns) f = columns_read g h ps ns f.1
columns_read g h (EventName ∷ ps) (n ∷ ns) f = columns_read g h ps ns f.1
columns_read g h (CallName ∷ ps) (n ∷ ns) f = columns_read g h ps ns f.1
columns_read g h (DataColumn ∷ ps) (n ∷ ns) f = columns_read g h ps ns f.1
columns_read g h (Value ∷ ps) (n ∷ ns) f = columns_read g h ps ns f.1
columns_read g h (Times ∷ ps) (n ∷ ns) f = columns_read g h ps ns f.1
columns_read g h (Shared ∷ ps) (n ∷ ns) f = columns_read g h ps ns f.1
columns_read g h (Weight ∷ ps) (n ∷ ns) f = columns_read g h ps ns f.1
columns_read g h (Count ∷ ps) (n ∷ ns) f = columns_read g h ps ns f.1
columns_read g h (NewName ∷ ps) (n ∷ ns) f = columns_read g h ps ns f.1
columns_read g h (Fields ∷ ps) (n ∷ ns) f = columns_read g h ps ns f.1
columns_read g h (Intervals ∷ ps) (n ∷ ns) f = columns_read g h ps ns f.1

-- the words that the numbers of words spell are those words
abbrev pub Bounded : List Place → List ℕ → Type 0
Bounded [] ns = Unit {0}
Bounded (p ∷ ps) [] = Unit {0}
Bounded (p ∷ ps) (n ∷ ns) = IsBounded p n × Bounded ps ns

-- each word is the one that its place takes, where that takes one word alone
abbrev pub are_own_words : List Placed → Bool
are_own_words ps = list_all (λ (p : Placed). is_own_word p.0 p.1) ps

abbrev pub numbers_of : GraphValue → List Place → List (List ℕ) → List ℕ
numbers_of g ps ws = map (number_in g) (zip ps ws)

pub numbers_long : (g : GraphValue) (ps : List Place) (ws : List (List ℕ)) → length ps ≤ length ws → length (numbers_of g ps ws) ≡ length ps
numbers_long g [] ws l = refl
numbers_long g (p ∷ ps) [] l = absurd (omega arith)
numbers_long g (p ∷ ps) (w ∷ ws) l = ap suc (numbers_long g ps ws (omega arith))

pub spells_exactly : (g : GraphValue) (ps : List Place) (ws : List (List ℕ)) → AllByRecursion IsNumbered ps → are_own_words (zip ps ws) ≡ true → EachFine g (zip ps ws) → length ws ≡ length ps → spell_list g ps (numbers_of g ps ws) ≡ ws
spells_exactly g [] [] n o f l = refl
spells_exactly g [] (w ∷ ws) n o f l = absurd (omega arith)
spells_exactly g (p ∷ ps) [] n o f l = absurd (omega arith)
spells_exactly g (p ∷ ps) (w ∷ ws) n o f l = let own = and_parts (is_own_word p w) (are_own_words (zip ps ws)) o in let s = place_spelled g p w n.0 own.0 f.0 in
    ap (λ x. x ∷ spell_list g ps (numbers_of g ps ws)) s.word_is ∙ ap (λ xs. w ∷ xs) (spells_exactly g ps ws n.1 own.1 f.1 (omega arith))

pub spells_more : (g : GraphValue) (ps : List Place) (ws : List (List ℕ)) → AllByRecursion IsNumbered ps → are_own_words (zip ps ws) ≡ true → EachFine g (zip ps ws) → length ps < length ws →
    spell_list g ps (numbers_of g ps ws) ++ slice_index_or ws (length ps) [] ∷ drop (length ps + 1) ws ≡ ws
spells_more g [] [] n o f l = absurd (omega arith)
spells_more g [] (w ∷ ws) n o f l = refl
spells_more g (p ∷ ps) [] n o f l = absurd (omega arith)
spells_more g (p ∷ ps) (w ∷ ws) n o f l = let own = and_parts (is_own_word p w) (are_own_words (zip ps ws)) o in let s = place_spelled g p w n.0 own.0 f.0 in
    ap (λ x. x ∷ (spell_list g ps (numbers_of g ps ws) ++ slice_index_or ws (length ps) [] ∷ drop (suc (length ps) + 1) (w ∷ ws))) s.word_is
    ∙ (ap (λ k. w ∷ (spell_list g ps (numbers_of g ps ws) ++ slice_index_or ws (length ps) [] ∷ drop k (w ∷ ws))) (let e : suc (length ps) + 1 ≡ suc (length ps + 1) = omega arith in e)
    ∙ ap (λ xs. w ∷ xs) (spells_more g ps ws n.1 own.1 f.1 (omega arith)))

pub bounded_by : (g : GraphValue) (ps : List Place) (ws : List (List ℕ)) → AllByRecursion IsNumbered ps → are_own_words (zip ps ws) ≡ true → EachFine g (zip ps ws) → Bounded ps (numbers_of g ps ws)
bounded_by g [] ws n o f = tt
bounded_by g (p ∷ ps) [] n o f = tt
bounded_by g (p ∷ ps) (w ∷ ws) n o f = let own = and_parts (is_own_word p w) (are_own_words (zip ps ws)) o in let s = place_spelled g p w n.0 own.0 f.0 in (s.bounded, bounded_by g ps ws n.1 own.1 f.1)

pub words_by_test : (ws : List (List ℕ)) → list_all is_word ws ≡ true → AllByRecursion IsWord ws
words_by_test [] h = tt
words_by_test (w ∷ ws) h = let p = and_parts (is_word w) (list_all is_word ws) h in (word_by_test w p.0, words_by_test ws p.1)
