-- What refuses the words of a line of a kind.
use Rattle.std.proofs.Common.{◌≡◌, ◌≤◌, ℕ, Bool, length, arith, true, false, cond, not, ◌&&◌, ◌||◌, List, [], ◌∷◌, ◌++◌, refl, sym, ◌∙◌, ap, inr, append-nil}
use Rattle.std.specs.Prelude.{Option, Some, None, Ok, bytes_eq, filter_map}
use Rattle.std.specs.List.{list_any, list_all, cons_option}
use Rattle.std.proofs.lemmas.List.Folds.{list_any-append}
use Rattle.std.proofs.lemmas.Bool.{cond-true, not-false}
use Rattle.graph_terms.specs.declared.verb.Line.{Line}
use Rattle.graph_terms.specs.declared.why.Why.{Why}
use Rattle.graph_terms.specs.declared.why.Why.TheVariants as why
use Rattle.graph_terms.specs.Graph.{GraphValue}
use Rattle.graph_terms.specs.Name.{is_name_in}
use Rattle.graph_terms.specs.Fits.{repeats, first_reason, is_used, line_fault}
use Rattle.graph_words.specs.Draft.{Place, NewName, EventName, Placed, Draft, form_of, on_events, events_placed, on_placed, words_in}
use Rattle.graph_reader.specs.FirstFault.{event_word, column_word, draft_tests, draft_fault, or_else, item_fault}
use Rattle.word_meanings.specs.WordFaults.{misnamed, twice, unknown, unlike, misnumbered, misordered}
use Rattle.graph_terms.specs.declared.table.Kind.{Kind}
use Rattle.graph_terms.specs.declared.table.Place as table
use Rattle.graph_terms.specs.declared.table.Place.TheVariants as places
use Rattle.graph_terms.specs.Table.{kind_places}
use Rattle.graph_reader.specs.Kinds.{kind_draft, kind_placed, form_placed, form_reason, form_repeats, column_words, kind_line, later_reason}
use Rattle.word_meanings.specs.Telling.{AllTell}
use Rattle.graph_reader.specs.Reading.{IsLineRead}
use Rattle.word_meanings.specs.declared.faults.Faults.{Faults}
use Rattle.basics.proofs.Choices.{or_true}
use Rattle.basics.proofs.TestedLists.{any_map, any_right}
use Rattle.graph_reader.proofs.Drafts.{event_words, placed_events, events_listed, events_no_columns}
use Rattle.std.proofs.Math.Bool.{or_assoc}
use Rattle.graph_reader.proofs.VerbForms.{no_events}

-- the places of a kind take no intervals
quiet : (ps : List table.Place) (ws : List (List ℕ)) → list_any (λ (p : Placed). misordered p.0 p.1) (words_in ps ws) ≡ false
quiet [] ws = refl
quiet (p ∷ ps) [] = refl
quiet (places.User ∷ ps) (w ∷ ws) = quiet ps ws
quiet (p ∷ ps) (w ∷ ws) = quiet ps ws

pub none_of : (es : List (List ℕ)) → list_any (λ w. false) es ≡ false
none_of [] = refl
none_of (e ∷ es) = none_of es

-- one event does not stand there twice
pub few_events : (es : List (List ℕ)) → length es ≤ 1 → repeats bytes_eq es ≡ false
few_events [] h = refl
few_events (e ∷ []) h = refl
few_events (e ∷ f ∷ es) h = absurd (omega (arith, h))

not_and : (b c d : Bool) → c ≡ not d → (not b || c) ≡ not (b && d)
not_and true c d h = h
not_and false c d h = refl

-- some fail where not all pass
pub some_fail : (t : List ℕ → Bool) (es : List (List ℕ)) → list_any (λ w. not (t w)) es ≡ not (list_all t es)
some_fail t [] = refl
some_fail t (e ∷ es) = not_and (t e) (list_any (λ w. not (t w)) es) (list_all t es) (some_fail t es)

-- words behind others
mapped_by : {X Y : Type 0} (f : X → Option Y) (xs ys : List X) (o : Option Y) → filter_map f (xs ++ ys) ≡ filter_map f xs ++ filter_map f ys → cons_option o (filter_map f (xs ++ ys)) ≡ cons_option o (filter_map f xs) ++ filter_map f ys
mapped_by f xs ys None h = h
mapped_by f xs ys (Some y) h = ap (λ zs. y ∷ zs) h

mapped_append : {X Y : Type 0} (f : X → Option Y) (xs ys : List X) → filter_map f (xs ++ ys) ≡ filter_map f xs ++ filter_map f ys
mapped_append f [] ys = refl
mapped_append f (x ∷ xs) ys = mapped_by f xs ys (f x) (mapped_append f xs ys)

six_to_five : (a b x y c d e f : Bool) → a ≡ b → x ≡ y → f ≡ false →
    first_reason ((a, why.Name) ∷ (x, why.Twice) ∷ (c, why.Unknown) ∷ (d, why.Kind) ∷ (e, why.Number) ∷ (f, why.Space) ∷ [])
    ≡ first_reason ((b, why.Name) ∷ (y, why.Twice) ∷ (c, why.Unknown) ∷ (d, why.Kind) ∷ (e, why.Number) ∷ [])
six_to_five a b x y c d e f n h k = ap (λ z. first_reason ((z, why.Name) ∷ (x, why.Twice) ∷ (c, why.Unknown) ∷ (d, why.Kind) ∷ (e, why.Number) ∷ (f, why.Space) ∷ [])) n
    ∙ (ap (λ z. first_reason ((b, why.Name) ∷ (z, why.Twice) ∷ (c, why.Unknown) ∷ (d, why.Kind) ∷ (e, why.Number) ∷ (f, why.Space) ∷ [])) h
    ∙ ap (λ z. cond b (Some why.Name) (cond y (Some why.Twice) (cond c (Some why.Unknown) (cond d (Some why.Kind) (cond e (Some why.Number) (cond z (Some why.Space) None)))))) k)

abbrev pub fails : (Place → List ℕ → Bool) → List Placed → Bool
fails t ps = list_any (λ (p : Placed). t p.0 p.1) ps

-- the tests of words of which the first is a new name
pub reason_by : (g : GraphValue) (d : Draft) (name : List ℕ) (ps : List Placed) (e c : Bool) → d.placed ≡ (NewName, name) ∷ ps → is_name_in g.format name ≡ true → repeats bytes_eq (event_words ps) ≡ e →
    repeats bytes_eq (column_words ps) ≡ c → fails misordered ps ≡ false →
    first_reason (draft_tests g d) ≡ first_reason ((fails (misnamed g.format) ps, why.Name) ∷ (is_used g name || (fails (twice g) ps || (e || c)), why.Twice) ∷ (fails (unknown g) ps, why.Unknown) ∷ (fails (unlike g) ps, why.Kind) ∷ (fails (misnumbered g.format) ps, why.Number) ∷ [])
reason_by g d name ps e c placed n events columns ordered =
    ap (λ x. first_reason (draft_tests g (record { placed = x; item = d.item }))) placed
    ∙ six_to_five (not (is_name_in g.format name) || fails (misnamed g.format) ps) (fails (misnamed g.format) ps) _ (is_used g name || (fails (twice g) ps || (e || c))) (fails (unknown g) ps) (fails (unlike g) ps) (fails (misnumbered g.format) ps) (fails misordered ps)
    (ap (λ b. not b || fails (misnamed g.format) ps) n)
    (or_assoc (is_used g name) (fails (twice g) ps) _ ∙ (ap (λ x. is_used g name || (fails (twice g) ps || (x || repeats bytes_eq (column_words ps)))) events ∙ ap (λ x. is_used g name || (fails (twice g) ps || (e || x))) columns)) ordered

pub used_first : (u x : Bool) (r : Option Why) → or_else (cond u (Some why.Twice) None) (cond (u || x) (Some why.Twice) r) ≡ cond (u || x) (Some why.Twice) r
used_first true x r = refl
used_first false x r = refl

pub or_false : (b : Bool) → (b || false) ≡ b
or_false true = refl
or_false false = refl

pub twice_by : (a u b : Bool) (r : Option Why) → a ≡ false → b ≡ true → cond a (Some why.Name) (cond (u || b) (Some why.Twice) r) ≡ Some why.Twice
twice_by a u b r h k = ap (λ x. cond x (Some why.Name) (cond (u || b) (Some why.Twice) r)) h ∙ ap (λ x. cond x (Some why.Twice) r) (ap (λ x. u || x) k ∙ or_true u)

pub left_by : (a u b : Bool) (r : Option Why) → a ≡ false → b ≡ false → cond a (Some why.Name) (cond (u || b) (Some why.Twice) r) ≡ cond u (Some why.Twice) r
left_by a u b r h k = ap (λ x. cond x (Some why.Name) (cond (u || b) (Some why.Twice) r)) h ∙ ap (λ x. cond x (Some why.Twice) r) (ap (λ x. u || x) k ∙ or_false u)

module _ (g : GraphValue) (kind : Kind) (name : List ℕ) (ws : List (List ℕ)) where
  abbrev events : List (List ℕ)
  events = on_events g.format (form_of kind) ws

  abbrev rest_placed : List Placed
  rest_placed = kind_placed kind ws ++ events_placed events

  events_are : event_words rest_placed ≡ events
  events_are = mapped_append (λ (p : Placed). event_word p.0 p.1) (kind_placed kind ws) (events_placed events)
      ∙ (ap (λ xs. xs ++ event_words (events_placed events)) (placed_events g (form_of kind).places ws (no_events (kind_places kind))) ∙ events_listed events)

  columns_are : column_words rest_placed ≡ column_words (kind_placed kind ws)
  columns_are = mapped_append (λ (p : Placed). column_word p.0 p.1) (kind_placed kind ws) (events_placed events)
      ∙ (ap (λ xs. column_words (kind_placed kind ws) ++ xs) (events_no_columns events) ∙ append-nil (column_words (kind_placed kind ws)))

  all_ordered : list_any (λ (p : Placed). misordered p.0 p.1) rest_placed ≡ false
  all_ordered = list_any-append (λ (p : Placed). misordered p.0 p.1) (kind_placed kind ws) (events_placed events)
      ∙ (ap (λ b. b || list_any (λ (p : Placed). misordered p.0 p.1) (events_placed events)) (quiet (kind_places kind) ws) ∙ (any_map (λ (p : Placed). misordered p.0 p.1) (λ w. (EventName, w)) events ∙ none_of events))

  -- the first reason that refuses a word
  pub reason_is : is_name_in g.format name ≡ true → first_reason (draft_tests g (kind_draft g kind name ws)) ≡ form_reason g kind name ws
  unfolding form_reason form_placed
  reason_is n = reason_by g (kind_draft g kind name ws) name rest_placed (repeats bytes_eq events) (repeats bytes_eq (column_words (kind_placed kind ws))) refl n (ap (repeats bytes_eq) events_are) (ap (repeats bytes_eq) columns_are) all_ordered

  pub refused_word : (w : Why) → is_name_in g.format name ≡ true → form_reason g kind name ws ≡ Some w → draft_fault g (kind_draft g kind name ws) ≡ Some w
  refused_word w n h = ap (λ r. or_else r (item_fault g (kind_draft g kind name ws).item)) (reason_is n ∙ h)

  -- a name in use is the first reason of the line itself
  pub left_fault : is_name_in g.format name ≡ true → form_reason g kind name ws ≡ cond (is_used g name) (Some why.Twice) None → draft_fault g (kind_draft g kind name ws) ≡ line_fault g (kind_line g kind name ws)
  left_fault n h = ap (λ r. or_else r (line_fault g (kind_line g kind name ws))) (reason_is n ∙ h) ∙ used_first (is_used g name) _ _

  pub read_as : (line : Line) → is_name_in g.format name ≡ true → form_reason g kind name ws ≡ cond (is_used g name) (Some why.Twice) None → line ≡ kind_line g kind name ws → IsLineRead g (kind_draft g kind name ws) (Ok line)
  read_as line n h e = (left_fault n h ∙ ap (line_fault g) (sym e), ap inr (sym e))

  module _ (f : Faults) (tell : AllTell g (form_placed g.format kind ws) f) where
    later_is : first_reason ((fails (unknown g) (form_placed g.format kind ws), why.Unknown) ∷ (fails (unlike g) (form_placed g.format kind ws), why.Kind) ∷ (fails (misnumbered g.format) (form_placed g.format kind ws), why.Number) ∷ []) ≡ later_reason f
    later_is = ap (λ x. first_reason ((x, why.Unknown) ∷ (fails (unlike g) (form_placed g.format kind ws), why.Kind) ∷ (fails (misnumbered g.format) (form_placed g.format kind ws), why.Number) ∷ [])) (sym tell.unknown)
        ∙ (ap (λ x. first_reason ((f.unknown, why.Unknown) ∷ (x, why.Kind) ∷ (fails (misnumbered g.format) (form_placed g.format kind ws), why.Number) ∷ [])) (sym tell.unlike)
        ∙ ap (λ x. first_reason ((f.unknown, why.Unknown) ∷ (f.unlike, why.Kind) ∷ (x, why.Number) ∷ [])) (sym tell.misnumbered))

    -- where no word is misnamed, each event is spelled as a name
    pub events_named : f.misnamed ≡ false → list_all (is_name_in g.format) (on_events g.format (form_of kind) ws) ≡ true
    unfolding form_placed
    events_named h = not-false (list_all (is_name_in g.format) events) (sym (some_fail (is_name_in g.format) events)
        ∙ (sym (any_map (λ (p : Placed). misnamed g.format p.0 p.1) (λ w. (EventName, w)) events)
        ∙ any_right (λ (p : Placed). misnamed g.format p.0 p.1) (kind_placed kind ws) (events_placed events) (sym tell.misnamed ∙ h)))

    pub misnamed_reason : f.misnamed ≡ true → form_reason g kind name ws ≡ Some why.Name
    unfolding form_reason
    misnamed_reason h = cond-true (fails (misnamed g.format) (form_placed g.format kind ws)) (Some why.Name) _ (sym tell.misnamed ∙ h)

    pub twice_reason : f.misnamed ≡ false → (f.twice || form_repeats g.format kind ws) ≡ true → form_reason g kind name ws ≡ Some why.Twice
    unfolding form_reason
    twice_reason h k = twice_by (fails (misnamed g.format) (form_placed g.format kind ws)) (is_used g name) _ _ (sym tell.misnamed ∙ h) (ap (λ b. b || form_repeats g.format kind ws) (sym tell.twice) ∙ k)

    -- what is left where each word is spelled and nothing stands there twice
    pub left_reason : f.misnamed ≡ false → (f.twice || form_repeats g.format kind ws) ≡ false → form_reason g kind name ws ≡ cond (is_used g name) (Some why.Twice) (later_reason f)
    unfolding form_reason
    left_reason h k = left_by (fails (misnamed g.format) (form_placed g.format kind ws)) (is_used g name) _ _ (sym tell.misnamed ∙ h) (ap (λ b. b || form_repeats g.format kind ws) (sym tell.twice) ∙ k)
        ∙ ap (λ r. cond (is_used g name) (Some why.Twice) r) later_is

-- a word that is misnamed refuses first
pub first_fails : (g : GraphValue) (d : Draft) → fails (misnamed g.format) d.placed ≡ true → draft_fault g d ≡ Some why.Name
first_fails g d h = or_first _ _ (item_fault g d.item) (cond-true (fails (misnamed g.format) d.placed) (Some why.Name) _ h)
  where
    or_first : (r : Option Why) (w : Why) (o : Option Why) → r ≡ Some w → or_else r o ≡ Some w
    or_first r w o e = ap (λ x. or_else x o) e

pub misnamed_first : (g : GraphValue) (kind : Kind) (name : List ℕ) (ws : List (List ℕ)) → is_name_in g.format name ≡ false → draft_fault g (kind_draft g kind name ws) ≡ Some why.Name
misnamed_first g kind name ws h = first_fails g (kind_draft g kind name ws) (ap (λ b. not b || fails (misnamed g.format) (kind_placed kind ws ++ on_placed g.format (form_of kind) ws)) h)
