-- What a graph says itself of a line of a kind of which no reason refuses a word: what stands there twice.
use Rattle.std.proofs.Common.{◌≡◌, ◌≤◌, ℕ, Bool, true, false, ◌||◌, inl, inr, List, [], ◌∷◌, ◌++◌, length, drop, map, refl, sym, ◌∙◌, ap, subst, arith, eq-eqb}
use Rattle.std.specs.Prelude.{Some, bytes_eq, nat_eq, slice_index_or, codes, find, unwrap_or, IsTrue}
use Rattle.std.specs.List.{list_any, starts_with}
use Rattle.std.proofs.lemmas.Bool.{or_cases, or_left, or_right, and_parts, cond-true}
use Rattle.std.proofs.lemmas.Slice.Eq.{bytes_eq-Decides, starts_is}
use Rattle.basics.proofs.TestedLists.{same_bytes, found_passes}
use Rattle.graph_terms.specs.declared.table.Kind.{Kind}
use Rattle.graph_terms.specs.declared.table.Kind.TheVariants as kinds
use Rattle.graph_terms.specs.declared.table.TheConstants.{KINDS}
use Rattle.graph_terms.specs.Table.{kind_words, kind_places, parts_from, parts_of, verb_of}
use Rattle.graph_terms.specs.declared.verb.Access.{Access}
use Rattle.graph_terms.specs.declared.table.Parts.{Parts}
use Rattle.graph_terms.specs.declared.table.Place as table
use Rattle.graph_terms.specs.declared.verb.Line.{Line}
use Rattle.graph_terms.specs.declared.verb.Verb.{Verb}
use Rattle.graph_terms.specs.declared.why.Why.TheVariants as why
use Rattle.graph_terms.specs.Access.{verb_accesses}
use Rattle.graph_terms.specs.Graph.{GraphValue}
use Rattle.graph_terms.specs.Name.{is_name_in}
use Rattle.graph_terms.specs.Fits.{repeats, is_used, verb_repeats, line_fault}
use Rattle.graph_words.specs.Words.{pieces, value_of, weight_of}
use Rattle.graph_words.specs.Draft.{number_in, words_in, column_number_of, form_of, line_number, on_events, events_placed, same_word, fits_behind, is_of_form, line_draft}
use Rattle.graph_reader.specs.FirstFault.{draft_fault}
use Rattle.graph_reader.specs.Kinds.{kind_draft, kind_on, kind_placed, kind_verb, kind_line, column_words, form_placed, form_repeats, HasPlaces}
use Rattle.word_meanings.specs.Telling.{AllTell, no_faults}
use Rattle.graph_terms.proofs.Public.{arrive_accesses}
use Rattle.word_meanings.proofs.Public.{all_tell_both}
use Rattle.graph_reader.proofs.LineShapes.{line_kind}
use Rattle.graph_reader.proofs.FormFaults.{refused_word, twice_reason, left_reason, left_fault}

-- no kind begins as a merge or a call
abbrev Apart : List ℕ → Type 0
Apart v = (bytes_eq v (codes "merge") ≡ false) × (bytes_eq v (codes "mergei") ≡ false) × (bytes_eq v (codes "call") ≡ false)

apart : (k : Kind) (rest : List (List ℕ)) → Apart (slice_index_or (kind_words k ++ rest) 0 [])
apart kinds.User rest = (refl, refl, refl)
apart kinds.Trigger rest = (refl, refl, refl)
apart kinds.Cancel rest = (refl, refl, refl)
apart kinds.Phase rest = (refl, refl, refl)
apart kinds.Arrive rest = (refl, refl, refl)
apart kinds.ArriveTimes rest = (refl, refl, refl)
apart kinds.Acquire rest = (refl, refl, refl)
apart kinds.AcquireShared rest = (refl, refl, refl)
apart kinds.Release rest = (refl, refl, refl)
apart kinds.Fill rest = (refl, refl, refl)
apart kinds.Copy rest = (refl, refl, refl)
apart kinds.ReduceSum rest = (refl, refl, refl)
apart kinds.ReduceMin rest = (refl, refl, refl)
apart kinds.ReduceMax rest = (refl, refl, refl)
apart kinds.Iota rest = (refl, refl, refl)
apart kinds.Axpy rest = (refl, refl, refl)
apart kinds.Stencil rest = (refl, refl, refl)
apart kinds.Scan rest = (refl, refl, refl)
apart kinds.Hist rest = (refl, refl, refl)
apart kinds.Dot rest = (refl, refl, refl)
apart kinds.Expect rest = (refl, refl, refl)
apart kinds.Gather rest = (refl, refl, refl)

-- the draft of a line of the kind that was found
pub kind_found : (g : GraphValue) (name : List ℕ) (ws : List (List ℕ)) (k : Kind) → find (λ x. is_of_form g.format ws (form_of x)) KINDS ≡ Some k → line_draft g name ws ≡ Some (kind_draft g k name (drop (length (form_of k).words) ws))
kind_found g name ws k h =
    let of : is_of_form g.format ws (form_of k) ≡ true = found_passes (λ x. is_of_form g.format ws (form_of x)) KINDS k h in
    let begins = and_parts (starts_with same_word ws (kind_words k)) (fits_behind g.format (form_of k) (drop (length (kind_words k)) ws)) of in
    let cut : ws ≡ kind_words k ++ drop (length (kind_words k)) ws = (starts_is (λ a b. bytes_eq-Decides a b) ws (kind_words k) (starts_with same_word ws (kind_words k)) refl).0 begins.0 in
    let a = apart k (drop (length (kind_words k)) ws) in
    let first : slice_index_or (kind_words k ++ drop (length (kind_words k)) ws) 0 [] ≡ slice_index_or ws 0 [] = ap (λ xs. slice_index_or xs 0 []) (sym cut) in
    line_kind g name ws (slice_index_or (kind_words k ++ drop (length (kind_words k)) ws) 0 []) (Some k) first a.0 a.1 a.2 h

-- the numbers of words that stand twice stand there twice
among_numbers : (f : List ℕ → ℕ) (a : List ℕ) (es : List (List ℕ)) → list_any (bytes_eq a) es ≡ true → list_any (nat_eq (f a)) (map f es) ≡ true
among_numbers f a [] h = h
among_numbers f a (e ∷ es) h = elim (or_cases (bytes_eq a e) (list_any (bytes_eq a) es) h) [
  | inl s ↦ or_left (nat_eq (f a) (f e)) (list_any (nat_eq (f a)) (map f es)) (eq-eqb (f a) (f e) (ap f (same_bytes a e s)))
  | inr s ↦ or_right (nat_eq (f a) (f e)) (list_any (nat_eq (f a)) (map f es)) (among_numbers f a es s)
]

numbers_twice : (f : List ℕ → ℕ) (es : List (List ℕ)) → repeats bytes_eq es ≡ true → repeats nat_eq (map f es) ≡ true
numbers_twice f [] h = h
numbers_twice f (e ∷ es) h = elim (or_cases (list_any (bytes_eq e) es) (repeats bytes_eq es) h) [
  | inl s ↦ or_left (list_any (nat_eq (f e)) (map f es)) (repeats nat_eq (map f es)) (among_numbers f e es s)
  | inr s ↦ or_right (list_any (nat_eq (f e)) (map f es)) (repeats nat_eq (map f es)) (numbers_twice f es s)
]

-- the first words, and those behind them
one_cut : (ws : List (List ℕ)) → 1 ≤ length ws → ws ≡ slice_index_or ws 0 [] ∷ drop 1 ws
one_cut [] h = absurd (omega arith)
one_cut (a ∷ ws) h = refl

two_cut : (ws : List (List ℕ)) → 2 ≤ length ws → ws ≡ slice_index_or ws 0 [] ∷ slice_index_or ws 1 [] ∷ drop 2 ws
two_cut [] h = absurd (omega arith)
two_cut (a ∷ []) h = absurd (omega arith)
two_cut (a ∷ b ∷ ws) h = refl

three_cut : (ws : List (List ℕ)) → 3 ≤ length ws → ws ≡ slice_index_or ws 0 [] ∷ slice_index_or ws 1 [] ∷ slice_index_or ws 2 [] ∷ drop 3 ws
three_cut [] h = absurd (omega arith)
three_cut (a ∷ []) h = absurd (omega arith)
three_cut (a ∷ b ∷ []) h = absurd (omega arith)
three_cut (a ∷ b ∷ c ∷ ws) h = refl

four_cut : (ws : List (List ℕ)) → 4 ≤ length ws → ws ≡ slice_index_or ws 0 [] ∷ slice_index_or ws 1 [] ∷ slice_index_or ws 2 [] ∷ slice_index_or ws 3 [] ∷ drop 4 ws
four_cut [] h = absurd (omega arith)
four_cut (a ∷ []) h = absurd (omega arith)
four_cut (a ∷ b ∷ []) h = absurd (omega arith)
four_cut (a ∷ b ∷ c ∷ []) h = absurd (omega arith)
four_cut (a ∷ b ∷ c ∷ d ∷ ws) h = refl

five_cut : (ws : List (List ℕ)) → 5 ≤ length ws → ws ≡ slice_index_or ws 0 [] ∷ slice_index_or ws 1 [] ∷ slice_index_or ws 2 [] ∷ slice_index_or ws 3 [] ∷ slice_index_or ws 4 [] ∷ drop 5 ws
five_cut [] h = absurd (omega arith)
five_cut (a ∷ []) h = absurd (omega arith)
five_cut (a ∷ b ∷ []) h = absurd (omega arith)
five_cut (a ∷ b ∷ c ∷ []) h = absurd (omega arith)
five_cut (a ∷ b ∷ c ∷ d ∷ []) h = absurd (omega arith)
five_cut (a ∷ b ∷ c ∷ d ∷ e ∷ ws) h = refl

-- the columns of the verb of a kind are those that its words name
abbrev Agree : GraphValue → Kind → List (List ℕ) → Type 0
Agree g k ws = map (λ (a : Access). a.column) (verb_accesses (kind_verb g k ws)) ≡ map (λ w. column_number_of g (pieces 46 w)) (column_words (kind_placed k ws))

columns_agree : (g : GraphValue) (k : Kind) (ws : List (List ℕ)) → HasPlaces k ws → Agree g k ws
columns_agree g kinds.User ws h = refl
columns_agree g kinds.Trigger ws h = subst (Agree g kinds.Trigger) (sym (one_cut ws h)) refl
columns_agree g kinds.Cancel ws h = subst (Agree g kinds.Cancel) (sym (one_cut ws h)) refl
columns_agree g kinds.Phase ws h = subst (Agree g kinds.Phase) (sym (one_cut ws h)) refl
columns_agree g kinds.Acquire ws h = subst (Agree g kinds.Acquire) (sym (one_cut ws h)) refl
columns_agree g kinds.Release ws h = subst (Agree g kinds.Release) (sym (one_cut ws h)) refl
columns_agree g kinds.Arrive ws h = subst (Agree g kinds.Arrive) (sym (two_cut ws h)) refl
columns_agree g kinds.AcquireShared ws h = subst (Agree g kinds.AcquireShared) (sym (two_cut ws h)) refl
columns_agree g kinds.Fill ws h = subst (Agree g kinds.Fill) (sym (three_cut ws h)) refl
columns_agree g kinds.Copy ws h = subst (Agree g kinds.Copy) (sym (three_cut ws h)) refl
columns_agree g kinds.ReduceSum ws h = subst (Agree g kinds.ReduceSum) (sym (three_cut ws h)) refl
columns_agree g kinds.ReduceMin ws h = subst (Agree g kinds.ReduceMin) (sym (three_cut ws h)) refl
columns_agree g kinds.ReduceMax ws h = subst (Agree g kinds.ReduceMax) (sym (three_cut ws h)) refl
columns_agree g kinds.Iota ws h = subst (Agree g kinds.Iota) (sym (three_cut ws h)) refl
columns_agree g kinds.Scan ws h = subst (Agree g kinds.Scan) (sym (three_cut ws h)) refl
columns_agree g kinds.ArriveTimes ws h = subst (Agree g kinds.ArriveTimes) (sym (four_cut ws h))
    (ap (map (λ (a : Access). a.column)) (arrive_accesses (line_number g (slice_index_or ws 0 [])) (unwrap_or (value_of (slice_index_or ws 1 [])) 0) (unwrap_or (weight_of g.format (slice_index_or ws 3 [])) 0)))
columns_agree g kinds.Axpy ws h = subst (Agree g kinds.Axpy) (sym (four_cut ws h)) refl
columns_agree g kinds.Stencil ws h = subst (Agree g kinds.Stencil) (sym (four_cut ws h)) refl
columns_agree g kinds.Hist ws h = subst (Agree g kinds.Hist) (sym (four_cut ws h)) refl
columns_agree g kinds.Expect ws h = subst (Agree g kinds.Expect) (sym (four_cut ws h)) refl
columns_agree g kinds.Dot ws h = subst (Agree g kinds.Dot) (sym (five_cut ws h)) refl
columns_agree g kinds.Gather ws h = subst (Agree g kinds.Gather) (sym (five_cut ws h)) refl

-- no reason refuses a word in its place, nor one behind `on`
pub form_told : (g : GraphValue) (kind : Kind) (ws : List (List ℕ)) → AllTell g (kind_placed kind ws) no_faults → AllTell g (events_placed (on_events g.format (form_of kind) ws)) no_faults → AllTell g (form_placed g.format kind ws) no_faults
unfolding form_placed
form_told g kind ws h k = all_tell_both g (kind_placed kind ws) (events_placed (on_events g.format (form_of kind) ws)) no_faults no_faults no_faults h k refl refl refl refl refl

-- a graph refuses a line in which an event or a column stands twice
twice_fault : (g : GraphValue) (name : List ℕ) (verb : Verb) (on : List ℕ) → (repeats nat_eq (map (λ (a : Access). a.column) (verb_accesses verb)) || repeats nat_eq on) ≡ true → line_fault g (record { name = name; verb = verb; on = on }) ≡ Some why.Twice
twice_fault g name verb on h =
    cond-true (is_used g name || (verb_repeats g verb || (repeats nat_eq (map (λ (a : Access). a.column) (verb_accesses verb)) || repeats nat_eq on))) (Some why.Twice) _
    (or_right (is_used g name) (verb_repeats g verb || (repeats nat_eq (map (λ (a : Access). a.column) (verb_accesses verb)) || repeats nat_eq on))
    (or_right (verb_repeats g verb) (repeats nat_eq (map (λ (a : Access). a.column) (verb_accesses verb)) || repeats nat_eq on) h))

module _ (g : GraphValue) (kind : Kind) (name : List ℕ) (ws : List (List ℕ)) (there : HasPlaces kind ws) (named : is_name_in g.format name ≡ true) (tell : AllTell g (form_placed g.format kind ws) no_faults) where
  abbrev columns_twice : Bool
  columns_twice = repeats nat_eq (map (λ (a : Access). a.column) (verb_accesses (kind_verb g kind ws)))

  abbrev events_twice : Bool
  events_twice = repeats nat_eq (map (line_number g) (on_events g.format (form_of kind) ws))

  repeated_fault : form_repeats g.format kind ws ≡ true → line_fault g (kind_line g kind name ws) ≡ Some why.Twice
  repeated_fault h = twice_fault g name (kind_verb g kind ws) (map (line_number g) (on_events g.format (form_of kind) ws)) (elim (or_cases (repeats bytes_eq (on_events g.format (form_of kind) ws)) (repeats bytes_eq (column_words (kind_placed kind ws))) h) [
    | inl s ↦ or_right columns_twice events_twice (numbers_twice (line_number g) (on_events g.format (form_of kind) ws) s)
    | inr s ↦ or_left columns_twice events_twice (ap (repeats nat_eq) (columns_agree g kind ws there) ∙ numbers_twice (λ w. column_number_of g (pieces 46 w)) (column_words (kind_placed kind ws)) s)
  ])

  fault_by : (b : Bool) → form_repeats g.format kind ws ≡ b → draft_fault g (kind_draft g kind name ws) ≡ line_fault g (kind_line g kind name ws)
  fault_by true h = refused_word g kind name ws why.Twice named (twice_reason g kind name ws no_faults tell refl h) ∙ sym (repeated_fault h)
  fault_by false h = left_fault g kind name ws named (left_reason g kind name ws no_faults tell refl h)

  -- the graph says itself what refuses the line
  pub known_fault : draft_fault g (kind_draft g kind name ws) ≡ line_fault g (kind_line g kind name ws)
  known_fault = fault_by (form_repeats g.format kind ws) refl

abbrev pub line_with : List ℕ → Verb → List ℕ → Line
line_with name verb on = record { name = name; verb = verb; on = on }

-- the line of parts that are known, and what the graph says of it
pub known_line : (g : GraphValue) (kind : Kind) (name new : List ℕ) (ws es : List (List ℕ)) (ps : List table.Place) (parts : Parts) (verb : Verb) (on : List ℕ) → HasPlaces kind ws → (new ≡ name) × IsTrue (is_name_in g.format name) → ps ≡ kind_places kind →
    (parts_from 0 ps parts ≡ map (number_in g) (words_in ps ws)) × AllTell g (words_in ps ws) no_faults → verb ≡ verb_of kind (parts_of kind parts) → es ≡ on_events g.format (form_of kind) ws → (on ≡ map (line_number g) es) × AllTell g (events_placed es) no_faults →
    (draft_fault g (kind_draft g kind name ws) ≡ line_fault g (line_with new verb on)) × ((kind_draft g kind name ws).item ≡ inr (line_with new verb on))
known_line g kind name new ws es ps parts verb on there named places seen verb_is events_are events =
    let v : verb ≡ kind_verb g kind ws = verb_is ∙ ap (verb_of kind) (subst (λ x. parts_from 0 x parts ≡ map (number_in g) (words_in x ws)) places seen.0) in
    let o : on ≡ kind_on g kind ws = events.0 ∙ ap (map (line_number g)) events_are in
    let same : line_with new verb on ≡ kind_line g kind name ws =
    ap (λ n. line_with n verb on) named.0 ∙ (ap (λ x. line_with name x on) v ∙ ap (line_with name (kind_verb g kind ws)) o) in
    let told : AllTell g (form_placed g.format kind ws) no_faults = form_told g kind ws (subst (λ x. AllTell g (words_in x ws) no_faults) places seen.1) (subst (λ x. AllTell g (events_placed x) no_faults) events_are events.1) in
    (known_fault g kind name ws there named.1 told ∙ ap (line_fault g) (sym same), ap inr (sym same))
