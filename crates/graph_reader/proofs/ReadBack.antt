-- An item that fits is read back from its words, and no reason refuses them.
use Rattle.std.proofs.Common.{◌≡◌, ℕ, ◌<◌, ◌≤◌, Bool, true, false, not, ◌⊎◌, inl, inr, List, [], ◌∷◌, ◌++◌, length, map, ◌&&◌, refl, sym, ◌∙◌, ap, subst, append-nil, arith}
use Rattle.std.specs.Prelude.{Option, Some, None, is_some, codes, bytes_eq, nat_eq, nat_lt, zip, flat_map, decimal, unwrap_or, option_map}
use Rattle.std.specs.Option.{option_map_or}
use Rattle.std.specs.List.{list_any, list_all, AllByRecursion}
use Rattle.std.proofs.lemmas.Bool.{true≢false, or_parts, and_parts, false_from_ne_true, not_from_true, not-false, and_from, cond-true, cond-false, ltb-false, leb-false, lt-ltb}
use Rattle.std.proofs.lemmas.List.Elements.{filter_map-append}
use Rattle.index_spaces.specs.declared.Op.{Op}
use Rattle.index_spaces.specs.declared.Op.TheVariants as op
use Rattle.graph_terms.specs.declared.format.Format.{Format}
use Rattle.graph_terms.specs.declared.format.Format.TheVariants.{One, Two, Three}
use Rattle.graph_terms.specs.declared.decl.Decl.{Decl}
use Rattle.graph_terms.specs.declared.decl.Decl.TheVariants as decl
use Rattle.graph_terms.specs.declared.verb.Line.{Line}
use Rattle.graph_terms.specs.declared.verb.Verb.{Verb}
use Rattle.graph_terms.specs.declared.verb.Verb.TheVariants.{Merge, MergeIgnore, Call}
use Rattle.graph_terms.specs.declared.verb.Access.{Access}
use Rattle.graph_terms.specs.declared.call.CallParts.{CallParts}
use Rattle.graph_terms.specs.Format.{has_since}
use Rattle.graph_terms.specs.declared.why.Why.TheVariants.{Syntax}
use Rattle.graph_terms.specs.Limits.{limits}
use Rattle.graph_terms.specs.Name.{is_name_in}
use Rattle.graph_terms.specs.Graph.{GraphValue, named_spaces}
use Rattle.graph_terms.specs.Spelling.{space_name, line_name, column_name, access_words, op_word, interval_word, comma_word, decl_words, verb_words, on_words, line_words}
use Rattle.graph_terms.specs.Fits.{repeats, is_used, takes_no_on, on_unlike, decl_fault, line_fault, IsDecl, is_decl_named, IsLine, IsGraph}
use Rattle.graph_words.specs.Words.{pieces, intervals_of, ascend_from, is_fields}
use Rattle.graph_words.specs.Draft.{EventName, number_in_place, NewName, SpaceName, Fields, Value, Count, Intervals, Placed, Draft, Form, number_in, same_word, on_events, events_placed, form_draft, merge_draft, line_number, space_number, column_number_of, op_of, barrier_with, columns_decl, columns_with, call_with, access_spelled, values_placed, accesses_placed, decl_draft, decl_draft_after, draft}
use Rattle.graph_words.specs.Calls.{CallWords}
use Rattle.graph_reader.specs.FirstFault.{event_word, column_word, item_fault, draft_fault, words_fault}
use Rattle.word_meanings.specs.Words.{is_empty, IsWord}
use Rattle.basics.proofs.TestedLists.{same_bytes, none_from_each, each_append, each_weaker}
use Rattle.word_meanings.proofs.Public.{name_is_word, intervals_of-word, intervals_is_word, intervals_bounded, ascends, field_pieces, names_each, joined_is_word, is_named, place_reads, word_by_test}
use Rattle.word_meanings.specs.Names.{IsNamed}
use Rattle.word_meanings.specs.Places.{IsFine}
use Rattle.graph_reader.proofs.Drafts.{EachFine, event_words, column_words, IsFineDraft, no_draft_fault, IsNoEvent, spell_list, FitPlaces, placed_fine, placed_numbers, placed_words, columns_in, placed_events, placed_columns, events_listed, events_no_columns, names_repeat, columns_read}
use Rattle.graph_words.proofs.Public.{known_line_of, known_decl_of}
use Rattle.graph_words.specs.Known.{IsKnownLine, IsKnownDecl}
use Rattle.graph_reader.proofs.VerbForms.{IsFormed, formed, each_value}
use Rattle.graph_reader.proofs.CallForms.{written_parts, call_read, values_back, accesses_back, values_fine, accesses_fine, values_are_words, accesses_are_words, values_no_events, accesses_no_events, format_three}

-- an item of a graph: a declaration or a line
abbrev pub Item : Type 0
Item = Decl ⊎ Line

-- the words of an item after this graph
abbrev pub item_words : GraphValue → Item → List (List ℕ)
item_words g (inl d) = decl_words g d
item_words g (inr l) = line_words g l

-- what the types say of an item, that its names are names of the format, and that no declaration follows a line
abbrev pub IsItem : GraphValue → Item → Type 0
IsItem g (inl d) = IsDecl d × (g.lines ≡ []) × (is_decl_named g.format d ≡ true)
IsItem g (inr l) = IsLine l × (is_name_in g.format l.name ≡ true)

-- the item fits after this graph
pub record ItemFits (g : GraphValue) (item : Item) : Type 0 where
  pub is_item : IsItem g item
  pub no_fault : item_fault g item ≡ None

-- the words of the item are read as it, and no reason refuses them
pub record ReadsBack (g : GraphValue) (item : Item) : Type 0 where
  pub drafted : Draft
  pub is_draft : draft g (item_words g item) ≡ Some drafted
  pub item_is : drafted.item ≡ item
  pub no_reason : words_fault g (item_words g item) ≡ None
  pub words : AllByRecursion IsWord (item_words g item)
  pub two : 2 ≤ length (item_words g item)

words_some : (ws : List (List ℕ)) → AllByRecursion IsWord ws → list_any is_empty ws ≡ false
words_some ws h = none_from_each is_empty ws (each_weaker IsWord (λ w. is_empty w ≡ false) (λ w i. i.some) ws h)

-- a fine draft of the words is all that is needed
back_from : (g : GraphValue) (item : Item) (d : Draft) → draft g (item_words g item) ≡ Some d → d.item ≡ item → IsFineDraft g d → AllByRecursion IsWord (item_words g item) → 2 ≤ length (item_words g item) → ReadsBack g item
back_from g item d is same fine words two = record {
  drafted = d;
  is_draft = is;
  item_is = same;
  no_reason = cond-false (list_any is_empty (item_words g item)) _ _ (words_some (item_words g item) words)
      ∙ (ap (λ (o : Option Draft). option_map_or (draft_fault g) o (Some Syntax)) is ∙ no_draft_fault g d fine);
  words = words;
  two = two;
}

new_name : (g : GraphValue) (name : List ℕ) → is_name_in g.format name ≡ true → is_used g name ≡ false → IsFine g NewName name
new_name g name h u = record { named = not_from_true (is_name_in g.format name) h; once = u; known = refl; alike = refl; numbered = refl; ordered = refl }

-- lines by their forms
abbrev make_line : List ℕ → Verb → List ℕ → Line
make_line name verb on = record { name = name; verb = verb; on = on }

abbrev make_call : List ℕ → List ℕ → List Access → Verb
make_call w vs xs = Call (record { word = w; values = vs; accesses = xs })

abbrev line_item : Line → Item
line_item l = inr l

abbrev placed_on : GraphValue → List ℕ → List Placed
placed_on g on = events_placed (map (line_name g) on)

events_fine : (g : GraphValue) → IsNamed g → (es : List ℕ) → AllByRecursion (λ i. i < length g.lines) es → EachFine g (placed_on g es)
events_fine g n [] b = tt
events_fine g n (e ∷ es) b = ((place_reads g n EventName e b.0).fine, events_fine g n es b.1)

events_read : (g : GraphValue) → IsNamed g → (es : List ℕ) → AllByRecursion (λ i. i < length g.lines) es → AllByRecursion (λ e. line_number g (line_name g e) ≡ e) es
events_read g n [] b = tt
events_read g n (e ∷ es) b = ((place_reads g n EventName e b.0).number_is, events_read g n es b.1)

events_numbers : (g : GraphValue) (es : List ℕ) → AllByRecursion (λ e. line_number g (line_name g e) ≡ e) es → map (line_number g) (map (line_name g) es) ≡ es
events_numbers g [] b = refl
events_numbers g (e ∷ es) b = ap (λ x. x ∷ map (line_number g) (map (line_name g) es)) b.0 ∙ ap (λ xs. e ∷ xs) (events_numbers g es b.1)

events_words : (g : GraphValue) → IsNamed g → (es : List ℕ) → AllByRecursion (λ i. i < length g.lines) es → AllByRecursion IsWord (map (line_name g) es)
events_words g n [] b = tt
events_words g n (e ∷ es) b = ((place_reads g n EventName e b.0).word, events_words g n es b.1)

on_words_are : (g : GraphValue) → IsNamed g → (on : List ℕ) → AllByRecursion (λ i. i < length g.lines) on → AllByRecursion IsWord (on_words g on)
on_words_are g n [] b = tt
on_words_are g n (e ∷ es) b = (word_by_test (codes "on") refl, events_words g n (e ∷ es) b)

-- the words that stand in places, of a draft by a form
form_placed : (g : GraphValue) → IsNamed g → (name : List ℕ) (f : Form) (ns : List ℕ) (on : List ℕ) (ps : List Placed) → IsFine g NewName name → FitPlaces g f.places ns → AllByRecursion IsNoEvent f.places →
    repeats nat_eq (columns_in f.places ns) ≡ false → AllByRecursion (λ i. i < length g.lines) on → repeats nat_eq on ≡ false → ps ≡ (NewName, name) ∷ zip f.places (spell_list g f.places ns ++ on_words g on) ++ placed_on g on →
    EachFine g ps × (repeats bytes_eq (event_words ps) ≡ false) × (repeats bytes_eq (column_words ps) ≡ false)
form_placed g n name f ns on ps new fits none once b apart e =
    let front : List Placed = zip f.places (spell_list g f.places ns ++ on_words g on) in
    let events : event_words (front ++ placed_on g on) ≡ event_words (placed_on g on) =
    filter_map-append (λ (p : Placed). event_word p.0 p.1) front (placed_on g on) ∙ ap (λ xs. xs ++ event_words (placed_on g on)) (placed_events g f.places (spell_list g f.places ns ++ on_words g on) none) in
    let cols : column_words (front ++ placed_on g on) ≡ map (column_name g) (columns_in f.places ns) =
    filter_map-append (λ (p : Placed). column_word p.0 p.1) front (placed_on g on)
    ∙ (ap (λ xs. column_words front ++ xs) (events_no_columns (map (line_name g) on)) ∙ (append-nil (column_words front) ∙ placed_columns g f.places ns (on_words g on) fits)) in (
      subst (EachFine g) (sym e) (new, each_append (λ (p : Placed). IsFine g p.0 p.1) front (placed_on g on) (placed_fine g n f.places ns (on_words g on) fits) (events_fine g n on b)),
      ap (λ qs. repeats bytes_eq (event_words qs)) e ∙ (ap (repeats bytes_eq) (events ∙ events_listed (map (line_name g) on)) ∙ names_repeat (line_name g) (line_number g) on (events_read g n on b) apart),
      ap (λ qs. repeats bytes_eq (column_words qs)) e ∙ (ap (repeats bytes_eq) cols ∙ names_repeat (column_name g) (λ w. column_number_of g (pieces 46 w)) (columns_in f.places ns) (columns_read g n f.places ns fits) once),
    )

line_by_form : (g : GraphValue) → IsNamed g → (l : Line) → is_name_in g.format l.name ≡ true → line_fault g l ≡ None → IsKnownLine g l → IsFormed g l.verb → ReadsBack g (inr l)
line_by_form g n l is fits k f =
    let d = f.drafts l.name l.on k.takes_on in
    let rest : List (List ℕ) = spell_list g f.form.places f.numbers ++ on_words g l.on in
    let draft_is : Draft = form_draft g l.name rest f.form in
    let verb : f.form.verb (map (number_in g) (zip f.form.places rest)) ≡ l.verb = ap f.form.verb (placed_numbers g n f.form.places f.numbers (on_words g l.on) f.fits) ∙ f.verb_is in
    let on : map (line_number g) (on_events g.format f.form rest) ≡ l.on = ap (map (line_number g)) d.events ∙ events_numbers g l.on (events_read g n l.on k.on_below) in
    let same : draft_is.item ≡ inr l =
    ap (λ v. line_item (make_line l.name v (map (line_number g) (on_events g.format f.form rest)))) verb ∙ ap (λ o. line_item (make_line l.name l.verb o)) on in
    let placed = form_placed g n l.name f.form f.numbers l.on draft_is.placed (new_name g l.name is k.new) f.fits f.no_events f.columns_once k.on_below k.on_once
    (ap (λ ws. (NewName, l.name) ∷ zip f.form.places rest ++ events_placed ws) d.events) in
    back_from g (inr l) draft_is d.is same
    (record { each = placed.0; events = placed.1; columns = placed.2; item = ap (item_fault g) same ∙ fits }) (
      name_is_word g.format l.name is,
      (
        word_by_test (codes "=") refl,
        each_append IsWord (verb_words g l.verb) (on_words g l.on)
            (subst (AllByRecursion IsWord) (sym f.words_are) (each_append IsWord f.form.words (spell_list g f.form.places f.numbers) f.fixed (placed_words g n f.form.places f.numbers f.fits))) (on_words_are g n l.on k.on_below),
      ),
    )
    (omega arith)

-- merges
-- a draft of a merge
pub record IsMergeDraft (g : GraphValue) (name : List ℕ) (mk : List ℕ → Verb) (es : List ℕ) : Type 0 where
  pub drafted : Draft
  pub is : merge_draft g name mk (map (line_name g) es) ≡ Some drafted
  pub item_is : drafted.item ≡ inr (make_line name (mk es) [])
  pub each : EachFine g drafted.placed
  pub events : repeats bytes_eq (event_words drafted.placed) ≡ false
  pub columns : repeats bytes_eq (column_words drafted.placed) ≡ false

merge_drafted : (g : GraphValue) → IsNamed g → (name : List ℕ) (mk : List ℕ → Verb) (es : List ℕ) → IsFine g NewName name → 0 < length es → AllByRecursion (λ i. i < length g.lines) es → repeats nat_eq es ≡ false → IsMergeDraft g name mk es
merge_drafted g n name mk [] new some b once = absurd (omega arith)
merge_drafted g n name mk (e ∷ es) new some b once =
    let placed : List Placed = (NewName, name) ∷ placed_on g (e ∷ es) in
    record {
      drafted = record { placed = placed; item = inr (make_line name (mk (map (line_number g) (map (line_name g) (e ∷ es)))) []) };
      is = refl;
      item_is = ap (λ ns. line_item (make_line name (mk ns) [])) (events_numbers g (e ∷ es) (events_read g n (e ∷ es) b));
      each = (new, events_fine g n (e ∷ es) b);
      events = ap (repeats bytes_eq) (events_listed (map (line_name g) (e ∷ es))) ∙ names_repeat (line_name g) (line_number g) (e ∷ es) (events_read g n (e ∷ es) b) once;
      columns = ap (repeats bytes_eq) (events_no_columns (map (line_name g) (e ∷ es)));
    }

some_events : (es : List ℕ) → nat_lt (length es) 1 ≡ false → 0 < length es
some_events es h = let l : 1 ≤ length es = ltb-false (length es) 1 h in omega arith

no_on : (g : GraphValue) (v : Verb) (on : List ℕ) → takes_no_on v ≡ true → on_unlike g.format v on ≡ false → on ≡ []
no_on g v [] t h = refl
no_on g v (e ∷ es) t h =
    let some : nat_lt 0 (length (e ∷ es)) ≡ true = lt-ltb 0 (length (e ∷ es)) (omega arith) in
    let none = or_parts (takes_no_on v && nat_lt 0 (length (e ∷ es))) _ h in
    absurd (true≢false (sym (and_from (takes_no_on v) (nat_lt 0 (length (e ∷ es))) t some) ∙ none.0))

merge_reads : (g : GraphValue) → IsNamed g → (name : List ℕ) (es : List ℕ) (on : List ℕ) → is_name_in g.format name ≡ true → line_fault g (make_line name (Merge es) on) ≡ None → IsKnownLine g (make_line name (Merge es) on) → on ≡ [] →
    ReadsBack g (inr (make_line name (Merge es) on))
merge_reads g n name es (e ∷ on) is fits k none = absurd (cc)
merge_reads g n name es [] is fits k none =
    let m = merge_drafted g n name Merge es (new_name g name is k.new) (some_events es k.verb.counted) k.verb.events k.verb.once in
    back_from g (inr (make_line name (Merge es) [])) m.drafted
    (ap (λ ws. merge_draft g name Merge ws) (append-nil (map (line_name g) es)) ∙ m.is) m.item_is
    (record { each = m.each; events = m.events; columns = m.columns; item = ap (item_fault g) m.item_is ∙ fits })
    (name_is_word g.format name is, (word_by_test (codes "=") refl, (word_by_test (codes "merge") refl, each_append IsWord (map (line_name g) es) [] (events_words g n es k.verb.events) tt)))
    (omega arith)

mergei_reads : (g : GraphValue) → IsNamed g → (name : List ℕ) (es : List ℕ) (on : List ℕ) → is_name_in g.format name ≡ true → line_fault g (make_line name (MergeIgnore es) on) ≡ None → IsKnownLine g (make_line name (MergeIgnore es) on) → on ≡ [] →
    ReadsBack g (inr (make_line name (MergeIgnore es) on))
mergei_reads g n name es (e ∷ on) is fits k none = absurd (cc)
mergei_reads g n name es [] is fits k none =
    let m = merge_drafted g n name MergeIgnore es (new_name g name is k.new) (some_events es k.verb.counted) k.verb.events k.verb.once in
    back_from g (inr (make_line name (MergeIgnore es) [])) m.drafted
    (ap (λ ws. merge_draft g name MergeIgnore ws) (append-nil (map (line_name g) es)) ∙ m.is) m.item_is
    (record { each = m.each; events = m.events; columns = m.columns; item = ap (item_fault g) m.item_is ∙ fits })
    (name_is_word g.format name is, (word_by_test (codes "=") refl, (word_by_test (codes "mergei") refl, each_append IsWord (map (line_name g) es) [] (events_words g n es k.verb.events) tt)))
    (omega arith)

-- calls
call_names : (fm : Format) (w : List ℕ) → has_since Three fm ≡ true → is_name_in Three w ≡ true → is_name_in fm w ≡ true
call_names fm w h k = ap (λ f. is_name_in f w) (format_three fm h) ∙ k

call_reads : (g : GraphValue) → IsNamed g → (name : List ℕ) (c : CallParts) (on : List ℕ) → is_name_in g.format name ≡ true → line_fault g (make_line name (Call c) on) ≡ None → IsKnownLine g (make_line name (Call c) on) → ReadsBack g (inr (make_line name (Call c) on))
call_reads g n name c on is fits k =
    let values = each_value c.values k.verb.values in
    let three : has_since Three g.format ≡ true = not-false (has_since Three g.format) k.verb.there in
    let own : is_name_in g.format c.word ≡ true = call_names g.format c.word three k.verb.called in
    let parts : CallWords = written_parts g c.word c.values c.accesses on in
    let d : Draft = call_with g name parts in
    let read : draft g (item_words g (inr (make_line name (Call c) on))) ≡ Some d =
    cond-true (has_since Three g.format) _ None three ∙ ap (option_map (call_with g name)) (call_read g c.word c.values c.accesses on values k.verb.counted) in
    let same : d.item ≡ line_item (make_line name (Call c) on) =
    ap (λ vs. line_item (make_line name (make_call c.word vs (map (access_spelled g) parts.accesses)) (map (line_number g) parts.events))) (values_back c.values values)
    ∙ (ap (λ xs. line_item (make_line name (make_call c.word c.values xs) (map (line_number g) parts.events))) (accesses_back g n c.accesses k.verb.data_accesses)
    ∙ ap (λ es. line_item (make_line name (Call c) es)) (events_numbers g on (events_read g n on k.on_below))) in
    let behind : List Placed = accesses_placed parts.accesses ++ placed_on g on in
    let v = values_no_events parts.values behind in
    let a = accesses_no_events parts.accesses (placed_on g on) in
    let fine : EachFine g d.placed = (
      new_name g name is k.new,
      (
        record { named = not_from_true (is_name_in g.format c.word) own; once = refl; known = refl; alike = refl; numbered = refl; ordered = refl },
        each_append (λ (p : Placed). IsFine g p.0 p.1) (values_placed parts.values) behind (values_fine g n c.values values)
            (each_append (λ (p : Placed). IsFine g p.0 p.1) (accesses_placed parts.accesses) (placed_on g on) (accesses_fine g n c.accesses k.verb.data_accesses) (events_fine g n on k.on_below)),
      ),
    ) in
    back_from g (inr (make_line name (Call c) on)) d read same
    (record {
      each = fine;
      events = ap (repeats bytes_eq) (v.0 ∙ (a.0 ∙ events_listed (map (line_name g) on))) ∙ names_repeat (line_name g) (line_number g) on (events_read g n on k.on_below) k.on_once;
      columns = ap (repeats bytes_eq) (v.1 ∙ (a.1 ∙ events_no_columns (map (line_name g) on)));
      item = ap (item_fault g) same ∙ fits;
    }) (
      name_is_word g.format name is,
      (
        word_by_test (codes "=") refl,
        (
          word_by_test (codes "call") refl,
          (
            name_is_word g.format c.word own,
            each_append IsWord (map decimal c.values ++ flat_map (access_words g) c.accesses) (on_words g on)
                (each_append IsWord (map decimal c.values) (flat_map (access_words g) c.accesses) (values_are_words g n c.values values) (accesses_are_words g n c.accesses k.verb.data_accesses)) (on_words_are g n on k.on_below),
          ),
        ),
      ),
    )
    (omega arith)

line_reads_by : (g : GraphValue) → IsNamed g → (name : List ℕ) (v : Verb) (on : List ℕ) → is_name_in g.format name ≡ true → line_fault g (make_line name v on) ≡ None → IsKnownLine g (make_line name v on) → ReadsBack g (inr (make_line name v on))
line_reads_by g n name (Merge es) on is fits k = merge_reads g n name es on is fits k (no_on g (Merge es) on refl k.takes_on)
line_reads_by g n name (MergeIgnore es) on is fits k = mergei_reads g n name es on is fits k (no_on g (MergeIgnore es) on refl k.takes_on)
line_reads_by g n name (Call c) on is fits k = call_reads g n name c on is fits k
line_reads_by g n name v on is fits k = line_by_form g n (make_line name v on) is fits k (formed g v _ refl k.verb)

pub line_reads : (g : GraphValue) → IsNamed g → (l : Line) → IsItem g (inr l) → line_fault g l ≡ None → ReadsBack g (inr l)
line_reads g n l is fits = line_reads_by g n l.name l.verb l.on is.1 fits (known_line_of g l is.0 fits)

-- declarations
sign_unnamed : (fm : Format) → is_name_in fm (codes "=") ≡ false
sign_unnamed One = refl
sign_unnamed Two = refl
sign_unnamed Three = refl

not_sign : (fm : Format) (name : List ℕ) → is_name_in fm name ≡ true → same_word name (codes "=") ≡ false
not_sign fm name h = false_from_ne_true (same_word name (codes "=")) (λ e. true≢false (sym h ∙ (ap (is_name_in fm) (same_bytes name (codes "=") e) ∙ sign_unnamed fm)))

decl_drafted : (g : GraphValue) (w name : List ℕ) (rest : List (List ℕ)) → is_name_in g.format name ≡ true → g.lines ≡ [] → draft g (w ∷ name ∷ rest) ≡ decl_draft g (w ∷ name ∷ rest)
decl_drafted g w name rest h e = cond-false (same_word name (codes "=")) _ _ (not_sign g.format name h) ∙ ap (λ ls. decl_draft_after g ls (w ∷ name ∷ rest)) e

abbrev decl_item : Decl → Item
decl_item d = inl d

space_back : (g : GraphValue) (name : List ℕ) (s : List (ℕ × ℕ)) → IsItem g (inl (decl.Space name s)) → decl_fault g (decl.Space name s) ≡ None → IsKnownDecl g (decl.Space name s) → ReadsBack g (inl (decl.Space name s))
space_back g name s is fits k =
    let word : List ℕ = comma_word (map interval_word s) in
    let read : intervals_of word ≡ Some s = intervals_of-word s is.0.1.0 (intervals_bounded 0 s is.0.1.1) in
    let placed : List Placed = (NewName, name) ∷ (Intervals, word) ∷ [] in
    let same : decl_item (decl.Space name (unwrap_or (intervals_of word) [])) ≡ decl_item (decl.Space name s) = ap (λ (o : Option (List (ℕ × ℕ))). decl_item (decl.Space name (unwrap_or o []))) read in
    back_from g (inl (decl.Space name s)) (record { placed = placed; item = inl (decl.Space name (unwrap_or (intervals_of word) [])) })
    (decl_drafted g (codes "space") name (word ∷ []) is.2 is.1) same
    (record {
      each = (
        new_name g name is.2 k.new,
        (
          record {
            named = refl;
            once = refl;
            known = refl;
            alike = refl;
            numbered = ap (λ (o : Option (List (ℕ × ℕ))). not (is_some o)) read;
            ordered = ap (λ (o : Option (List (ℕ × ℕ))). not (option_map_or (ascend_from 0) o true)) read ∙ not_from_true (ascend_from 0 s) (ascends 0 s is.0.1.1);
          },
          tt,
        ),
      );
      events = refl;
      columns = refl;
      item = ap (item_fault g) same ∙ fits;
    })
    (word_by_test (codes "space") refl, (name_is_word g.format name is.2, (intervals_is_word s is.0.1.0 (intervals_bounded 0 s is.0.1.1), tt)))
    (omega arith)

-- an instance, or data of which the host keeps the memory
abbrev pub first_word : Bool → List ℕ
first_word false = codes "inst"
first_word true = codes "data"

-- what is known of the columns that a declaration gives
record AreColumns (g : GraphValue) (hosted : Bool) (name : List ℕ) (s : ℕ) (fields : List (List ℕ)) : Type 0 where
  known : s < length (named_spaces g)
  some : 1 ≤ length fields
  named : is_name_in g.format name ≡ true
  spelled : list_all (is_name_in g.format) fields ≡ true
  once : repeats bytes_eq fields ≡ false
  new : is_used g name ≡ false
  first : g.lines ≡ []
  fits : decl_fault g (columns_decl hosted name s fields) ≡ None
  drafts : (space fields : List ℕ) → draft g (first_word hosted ∷ name ∷ space ∷ fields ∷ []) ≡ Some (columns_with g hosted name space fields)

pub columns_words : (g : GraphValue) (hosted : Bool) (name : List ℕ) (s : ℕ) (fields : List (List ℕ)) → decl_words g (columns_decl hosted name s fields) ≡ first_word hosted ∷ name ∷ space_name g s ∷ comma_word fields ∷ []
columns_words g false name s fields = refl
columns_words g true name s fields = refl

first_is_word : (hosted : Bool) → IsWord (first_word hosted)
first_is_word false = word_by_test (codes "inst") refl
first_is_word true = word_by_test (codes "data") refl

columns_back : (g : GraphValue) → IsNamed g → (hosted : Bool) (name : List ℕ) (s : ℕ) (fields : List (List ℕ)) → AreColumns g hosted name s fields → ReadsBack g (inl (columns_decl hosted name s fields))
columns_back g n hosted name s fields k =
    let read : pieces 44 (comma_word fields) ≡ fields = field_pieces g.format fields k.some k.spelled in
    let r = place_reads g n SpaceName s k.known in
    let placed : List Placed = (NewName, name) ∷ (SpaceName, space_name g s) ∷ (Fields, comma_word fields) ∷ [] in
    let same : decl_item (columns_decl hosted name (space_number g (space_name g s)) (pieces 44 (comma_word fields))) ≡ decl_item (columns_decl hosted name s fields) =
    ap (λ m. decl_item (columns_decl hosted name m (pieces 44 (comma_word fields)))) r.number_is ∙ ap (λ fs. decl_item (columns_decl hosted name s fs)) read in
    let words = columns_words g hosted name s fields in
    let long : 2 ≤ length (first_word hosted ∷ name ∷ space_name g s ∷ comma_word fields ∷ []) = omega arith in
    back_from g (inl (columns_decl hosted name s fields)) (columns_with g hosted name (space_name g s) (comma_word fields))
    (ap (draft g) words ∙ k.drafts (space_name g s) (comma_word fields)) same
    (record {
      each = (
        new_name g name k.named k.new,
        (
          r.fine,
          (
            record {
              named = not_from_true (is_fields g.format (comma_word fields)) (ap (list_all (is_name_in g.format)) read ∙ k.spelled);
              once = ap (repeats bytes_eq) read ∙ k.once;
              known = refl;
              alike = refl;
              numbered = refl;
              ordered = refl;
            },
            tt,
          ),
        ),
      );
      events = refl;
      columns = refl;
      item = ap (item_fault g) same ∙ k.fits;
    })
    (subst (AllByRecursion IsWord) (sym words)
    (first_is_word hosted, (name_is_word g.format name k.named, (r.word, (joined_is_word 44 fields (omega arith) k.some (each_weaker (λ f. is_name_in g.format f ≡ true) IsWord (name_is_word g.format) fields (names_each g.format fields k.spelled)), tt)))))
    (subst (λ ws. 2 ≤ length ws) (sym words) long)

inst_back : (g : GraphValue) → IsNamed g → (name : List ℕ) (s : ℕ) (fields : List (List ℕ)) → IsItem g (inl (decl.Inst name s fields)) → decl_fault g (decl.Inst name s fields) ≡ None → IsKnownDecl g (decl.Inst name s fields) → ReadsBack g (inl (decl.Inst name s fields))
inst_back g n name s fields is fits k =
    let some : 1 ≤ length fields = ltb-false (length fields) 1 k.counted in
    let named = and_parts (is_name_in g.format name) (list_all (is_name_in g.format) fields) is.2 in
    columns_back g n false name s fields (record {
      known = leb-false (length (named_spaces g)) s k.known;
      some = some;
      named = named.0;
      spelled = named.1;
      once = k.once;
      new = k.new;
      first = is.1;
      fits = fits;
      drafts = λ space word. decl_drafted g (codes "inst") name (space ∷ word ∷ []) named.0 is.1;
    })

data_back : (g : GraphValue) → IsNamed g → (name : List ℕ) (s : ℕ) (fields : List (List ℕ)) → IsItem g (inl (decl.Data name s fields)) → decl_fault g (decl.Data name s fields) ≡ None → IsKnownDecl g (decl.Data name s fields) → ReadsBack g (inl (decl.Data name s fields))
data_back g n name s fields is fits k =
    let some : 1 ≤ length fields = ltb-false (length fields) 1 k.counted in
    let named = and_parts (is_name_in g.format name) (list_all (is_name_in g.format) fields) is.2 in
    let three : has_since Three g.format ≡ true = not-false (has_since Three g.format) k.there in
    columns_back g n true name s fields (record {
      known = leb-false (length (named_spaces g)) s k.known;
      some = some;
      named = named.0;
      spelled = named.1;
      once = k.once;
      new = k.new;
      first = is.1;
      fits = fits;
      drafts = λ space word. decl_drafted g (codes "data") name (space ∷ word ∷ []) named.0 is.1 ∙ cond-true (has_since Three g.format) (Some (columns_with g true name space word)) None three;
    })

lock_back : (g : GraphValue) (name : List ℕ) → IsItem g (inl (decl.Lock name)) → decl_fault g (decl.Lock name) ≡ None → IsKnownDecl g (decl.Lock name) → ReadsBack g (inl (decl.Lock name))
lock_back g name is fits k =
    back_from g (inl (decl.Lock name)) (record { placed = (NewName, name) ∷ []; item = inl (decl.Lock name) })
    (decl_drafted g (codes "lock") name [] is.2 is.1) refl
    (record { each = (new_name g name is.2 k.new, tt); events = refl; columns = refl; item = fits })
    (word_by_test (codes "lock") refl, (name_is_word g.format name is.2, tt))
    (omega arith)

op_read : (o : Op) → op_of (op_word o) ≡ Some o
op_read op.Sum = refl
op_read op.Min = refl
op_read op.Max = refl

op_is_word : (o : Op) → IsWord (op_word o)
op_is_word op.Sum = word_by_test (codes "sum") refl
op_is_word op.Min = word_by_test (codes "min") refl
op_is_word op.Max = word_by_test (codes "max") refl

barrier_back : (g : GraphValue) → IsNamed g → (name : List ℕ) (count : ℕ) (o : Op) (first : ℕ) → IsItem g (inl (decl.Barrier name count o first)) → decl_fault g (decl.Barrier name count o first) ≡ None → IsKnownDecl g (decl.Barrier name count o first) →
    ReadsBack g (inl (decl.Barrier name count o first))
barrier_back g n name count o first is fits k =
    let c = or_parts (nat_lt count 1) (nat_lt (limits g.format).count count) k.counted in
    let some : 1 ≤ count = ltb-false count 1 c.0 in
    let few : count ≤ (limits g.format).count = ltb-false (limits g.format).count count c.1 in
    let r = place_reads g n Count count (some, few) in
    let q = place_reads g n Value first is.0.2 in
    let d : Draft = barrier_with g.format name (decimal count) o (decimal first) in
    let same : d.item ≡ decl_item (decl.Barrier name count o first) = ap (λ m. decl_item (decl.Barrier name m o (number_in_place g Value (decimal first)))) r.number_is ∙ ap (λ m. decl_item (decl.Barrier name count o m)) q.number_is in
    back_from g (inl (decl.Barrier name count o first)) d
    (decl_drafted g (codes "barrier") name (decimal count ∷ op_word o ∷ decimal first ∷ []) is.2 is.1 ∙ ap (λ p. option_map (λ x. barrier_with g.format name (decimal count) x (decimal first)) p) (op_read o)) same
    (record { each = (new_name g name is.2 k.new, (r.fine, (q.fine, tt))); events = refl; columns = refl; item = ap (item_fault g) same ∙ fits })
    (word_by_test (codes "barrier") refl, (name_is_word g.format name is.2, (r.word, (op_is_word o, (q.word, tt)))))
    (omega arith)

decl_reads_by : (g : GraphValue) → IsNamed g → (d : Decl) → IsItem g (inl d) → decl_fault g d ≡ None → IsKnownDecl g d → ReadsBack g (inl d)
decl_reads_by g n (decl.Space name s) is fits k = space_back g name s is fits k
decl_reads_by g n (decl.Inst name s fields) is fits k = inst_back g n name s fields is fits k
decl_reads_by g n (decl.Data name s fields) is fits k = data_back g n name s fields is fits k
decl_reads_by g n (decl.Lock name) is fits k = lock_back g name is fits k
decl_reads_by g n (decl.Barrier name count o first) is fits k = barrier_back g n name count o first is fits k

reads_named : (g : GraphValue) → IsNamed g → (item : Item) → ItemFits g item → ReadsBack g item
reads_named g n (inl d) f = decl_reads_by g n d f.is_item f.no_fault (known_decl_of g d f.no_fault)
reads_named g n (inr l) f = line_reads g n l f.is_item f.no_fault

-- an item that fits is read back from its words
pub reads_back : (g : GraphValue) → IsGraph g → (item : Item) → ItemFits g item → ReadsBack g item
reads_back g h item f = reads_named g (is_named g h) item f
