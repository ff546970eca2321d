-- What refuses the words of a merge.
use Rattle.std.proofs.Common.{◌≡◌, ℕ, Bool, true, false, cond, not, ◌||◌, List, [], ◌∷◌, map, eq-eqb, eqb-true, refl, sym, ◌∙◌, ap}
use Rattle.std.proofs.lemmas.Bool.{and_parts, and_from}
use Rattle.std.specs.Cmp.Derive.{one_truth}
use Rattle.std.specs.Prelude.{Option, Some, None, Err, nat_eq, bytes_eq}
use Rattle.std.specs.List.{list_any, list_all}
use Rattle.graph_terms.specs.declared.verb.Verb.{Verb}
use Rattle.graph_terms.specs.declared.why.Why.{Why}
use Rattle.graph_terms.specs.declared.why.Why.TheVariants as why
use Rattle.graph_terms.specs.Graph.{GraphValue}
use Rattle.graph_terms.specs.Spelling.{line_name}
use Rattle.graph_terms.specs.Name.{is_name_in}
use Rattle.graph_terms.specs.Fits.{IsGraph, first_reason, repeats, is_used, line_fault}
use Rattle.graph_words.specs.Draft.{Place, EventName, Placed, events_placed, merge_with, line_number}
use Rattle.graph_reader.specs.FirstFault.{draft_tests, draft_fault, or_else, item_fault}
use Rattle.word_meanings.specs.WordFaults.{misnamed, twice, unknown, unlike, misnumbered, misordered, is_line_name}
use Rattle.graph_reader.specs.Merges.{merge_verb, merge_line, merge_reason, all_lines, IsMergeError}
use Rattle.graph_reader.specs.Reading.{IsDone}
use Rattle.graph_reader.specs.declared.item.ItemError.{ItemError}
use Rattle.graph_reader.specs.declared.item.ItemError.TheVariants as errors
use Rattle.basics.proofs.TestedLists.{same_bytes, bytes_same, any_map}
use Rattle.word_meanings.proofs.Public.{line_as, line_used, line_named}
use Rattle.basics.proofs.Choices.{or_true}
use Rattle.graph_reader.proofs.Drafts.{events_listed, events_no_columns}
use Rattle.graph_reader.proofs.FormFaults.{first_fails, or_false, none_of, some_fail}

all_also : (s t : List ℕ → Bool) → ((w : List ℕ) → s w ≡ true → t w ≡ true) → (es : List (List ℕ)) → list_all s es ≡ true → list_all t es ≡ true
all_also s t k [] h = refl
all_also s t k (e ∷ es) h = let p = and_parts (s e) (list_all s es) h in and_from (t e) (list_all t es) (k e p.0) (all_also s t k es p.1)

-- words that name lines are the same where their numbers are
number_same : (g : GraphValue) (a b : List ℕ) → is_line_name g a ≡ true → is_line_name g b ≡ true → nat_eq (line_number g a) (line_number g b) ≡ bytes_eq a b
number_same g a b h k = one_truth (nat_eq (line_number g a) (line_number g b)) (bytes_eq a b)
    (λ e. bytes_same a b (sym (line_as g a h) ∙ (ap (line_name g) (eqb-true (line_number g a) (line_number g b) e) ∙ line_as g b k)))
    (λ e. eq-eqb (line_number g a) (line_number g b) (ap (line_number g) (same_bytes a b e)))

numbers_among : (g : GraphValue) (a : List ℕ) (es : List (List ℕ)) → is_line_name g a ≡ true → all_lines g es ≡ true → list_any (nat_eq (line_number g a)) (map (line_number g) es) ≡ list_any (bytes_eq a) es
numbers_among g a [] h k = refl
numbers_among g a (e ∷ es) h k =
    let p = and_parts (is_line_name g e) (all_lines g es) k in
    ap (λ b. b || list_any (nat_eq (line_number g a)) (map (line_number g) es)) (number_same g a e h p.0) ∙ ap (λ b. bytes_eq a e || b) (numbers_among g a es h p.1)

numbers_repeat : (g : GraphValue) (es : List (List ℕ)) → all_lines g es ≡ true → repeats nat_eq (map (line_number g) es) ≡ repeats bytes_eq es
numbers_repeat g [] k = refl
numbers_repeat g (e ∷ es) k =
    let p = and_parts (is_line_name g e) (all_lines g es) k in
    ap (λ b. b || repeats nat_eq (map (line_number g) es)) (numbers_among g e es p.0 p.1) ∙ ap (λ b. list_any (bytes_eq e) es || b) (numbers_repeat g es p.1)

or_merge : (u t r c : Bool) → t ≡ false → c ≡ false → ((u || t) || (r || c)) ≡ (u || r)
or_merge true t r c a b = refl
or_merge false t true c a b = ap (λ x. x || true) a
or_merge false t false c a b = ap (λ x. x || c) a ∙ b

six_to_four : (a x b y c z d w e f : Bool) → a ≡ x → b ≡ y → c ≡ z → d ≡ w → e ≡ false → f ≡ false →
    first_reason ((a, why.Name) ∷ (b, why.Twice) ∷ (c, why.Unknown) ∷ (d, why.Kind) ∷ (e, why.Number) ∷ (f, why.Space) ∷ []) ≡ first_reason ((x, why.Name) ∷ (y, why.Twice) ∷ (z, why.Unknown) ∷ (w, why.Kind) ∷ [])
six_to_four a x b y c z d w e f p q r s t u =
    ap (λ m. first_reason ((m, why.Name) ∷ (b, why.Twice) ∷ (c, why.Unknown) ∷ (d, why.Kind) ∷ (e, why.Number) ∷ (f, why.Space) ∷ [])) p
    ∙ (ap (λ m. first_reason ((x, why.Name) ∷ (m, why.Twice) ∷ (c, why.Unknown) ∷ (d, why.Kind) ∷ (e, why.Number) ∷ (f, why.Space) ∷ [])) q
    ∙ (ap (λ m. first_reason ((x, why.Name) ∷ (y, why.Twice) ∷ (m, why.Unknown) ∷ (d, why.Kind) ∷ (e, why.Number) ∷ (f, why.Space) ∷ [])) r
    ∙ (ap (λ m. first_reason ((x, why.Name) ∷ (y, why.Twice) ∷ (z, why.Unknown) ∷ (m, why.Kind) ∷ (e, why.Number) ∷ (f, why.Space) ∷ [])) s
    ∙ (ap (λ m. first_reason ((x, why.Name) ∷ (y, why.Twice) ∷ (z, why.Unknown) ∷ (w, why.Kind) ∷ (m, why.Number) ∷ (f, why.Space) ∷ [])) t
    ∙ ap (λ m. cond x (Some why.Name) (cond y (Some why.Twice) (cond z (Some why.Unknown) (cond w (Some why.Kind) (cond m (Some why.Space) None))))) u))))

module _ (g : GraphValue) (name : List ℕ) (verb : List ℕ → Verb) (es : List (List ℕ)) where
  abbrev at_events : (Place → List ℕ → Bool) → Bool
  at_events t = list_any (λ (p : Placed). t p.0 p.1) (events_placed es)

  mapped : (t : Place → List ℕ → Bool) → at_events t ≡ list_any (λ w. t EventName w) es
  mapped t = any_map (λ (p : Placed). t p.0 p.1) (λ w. (EventName, w)) es

  pub merge_reason_is : is_name_in g.format name ≡ true → first_reason (draft_tests g (merge_with g name verb es)) ≡ merge_reason g name es
  unfolding merge_reason
  merge_reason_is n = six_to_four (not (is_name_in g.format name) || at_events (misnamed g.format)) (not (list_all (is_name_in g.format) es)) _ (is_used g name || repeats bytes_eq es) (at_events (unknown g)) (list_any (λ w. not (is_used g w)) es)
      (at_events (unlike g)) (list_any (λ w. not (is_line_name g w)) es) (at_events (misnumbered g.format)) (at_events misordered)
      (ap (λ b. not b || at_events (misnamed g.format)) n ∙ (mapped (misnamed g.format) ∙ some_fail (is_name_in g.format) es))
      (or_merge (is_used g name) (at_events (twice g)) _ _ (mapped (twice g) ∙ none_of es) (ap (repeats bytes_eq) (events_no_columns es)) ∙ ap (λ x. is_used g name || repeats bytes_eq x) (events_listed es))
      (mapped (unknown g)) (mapped (unlike g)) (mapped (misnumbered g.format) ∙ none_of es) (mapped misordered ∙ none_of es)

  pub merge_refused : (w : Why) → is_name_in g.format name ≡ true → merge_reason g name es ≡ Some w → draft_fault g (merge_with g name verb es) ≡ Some w
  merge_refused w n h = ap (λ r. or_else r (item_fault g (merge_with g name verb es).item)) (merge_reason_is n ∙ h)

  pub merge_misnamed : is_name_in g.format name ≡ false → draft_fault g (merge_with g name verb es) ≡ Some why.Name
  merge_misnamed n = first_fails g (merge_with g name verb es) (ap (λ b. not b || at_events (misnamed g.format)) n)

reason_by : (a b c d : Bool) → a ≡ false → c ≡ false → d ≡ false → first_reason ((a, why.Name) ∷ (b, why.Twice) ∷ (c, why.Unknown) ∷ (d, why.Kind) ∷ []) ≡ cond b (Some why.Twice) None
reason_by a b c d p q r = ap (λ x. cond x (Some why.Name) (cond b (Some why.Twice) (cond c (Some why.Unknown) (cond d (Some why.Kind) None)))) p
    ∙ (ap (λ x. cond b (Some why.Twice) (cond x (Some why.Unknown) (cond d (Some why.Kind) None))) q ∙ ap (λ x. cond b (Some why.Twice) (cond x (Some why.Kind) None)) r)

twice_first : (b c : Bool) (rest : Option Why) → c ≡ b → or_else (cond b (Some why.Twice) None) (cond c (Some why.Twice) rest) ≡ cond c (Some why.Twice) rest
twice_first true c rest e = sym (ap (λ x. cond x (Some why.Twice) rest) e)
twice_first false c rest e = refl

kind_by : (a b c d : Bool) → a ≡ false → b ≡ false → c ≡ false → d ≡ true → first_reason ((a, why.Name) ∷ (b, why.Twice) ∷ (c, why.Unknown) ∷ (d, why.Kind) ∷ []) ≡ Some why.Kind
kind_by a b c d p q r s = ap (λ x. cond x (Some why.Name) (cond b (Some why.Twice) (cond c (Some why.Unknown) (cond d (Some why.Kind) None)))) p
    ∙ (ap (λ x. cond x (Some why.Twice) (cond c (Some why.Unknown) (cond d (Some why.Kind) None))) q
    ∙ (ap (λ x. cond x (Some why.Unknown) (cond d (Some why.Kind) None)) r ∙ ap (λ x. cond x (Some why.Kind) None) s))

-- one word names an item that is no line
pub kind_left : (g : GraphValue) (name : List ℕ) (es : List (List ℕ)) → list_all (is_name_in g.format) es ≡ true → (is_used g name || repeats bytes_eq es) ≡ false → list_any (λ w. not (is_used g w)) es ≡ false → all_lines g es ≡ false → merge_reason g name es ≡ Some why.Kind
unfolding merge_reason
kind_left g name es p q r s = kind_by (not (list_all (is_name_in g.format) es)) (is_used g name || repeats bytes_eq es) (list_any (λ w. not (is_used g w)) es) (list_any (λ w. not (is_line_name g w)) es) (ap not p) q r (some_fail (is_line_name g) es ∙ ap not s)

module _ (g : GraphValue) (name : List ℕ) (es : List (List ℕ)) (n : IsGraph g) (lines : all_lines g es ≡ true) where
  -- what is left where all words name lines
  lines_reason : merge_reason g name es ≡ cond (is_used g name || repeats bytes_eq es) (Some why.Twice) None
  unfolding merge_reason
  lines_reason = reason_by (not (list_all (is_name_in g.format) es)) (is_used g name || repeats bytes_eq es) (list_any (λ w. not (is_used g w)) es) (list_any (λ w. not (is_line_name g w)) es)
      (ap not (all_also (is_line_name g) (is_name_in g.format) (λ w h. line_named g w n h) es lines))
      (some_fail (is_used g) es ∙ ap not (all_also (is_line_name g) (is_used g) (line_used g) es lines))
      (some_fail (is_line_name g) es ∙ ap not lines)

  pub lines_twice : repeats bytes_eq es ≡ true → merge_reason g name es ≡ Some why.Twice
  lines_twice h = lines_reason ∙ ap (λ b. cond b (Some why.Twice) None) (ap (λ b. is_used g name || b) h ∙ or_true (is_used g name))

  same_twice : (is_used g name || (repeats nat_eq (map (line_number g) es) || false)) ≡ (is_used g name || repeats bytes_eq es)
  same_twice = ap (λ b. is_used g name || b) (or_false (repeats nat_eq (map (line_number g) es)) ∙ numbers_repeat g es lines)

  left_by : (ignores : Bool) → or_else (cond (is_used g name || repeats bytes_eq es) (Some why.Twice) None) (line_fault g (merge_line g ignores name es)) ≡ line_fault g (merge_line g ignores name es)
  left_by true = twice_first (is_used g name || repeats bytes_eq es) (is_used g name || (repeats nat_eq (map (line_number g) es) || false)) _ same_twice
  left_by false = twice_first (is_used g name || repeats bytes_eq es) (is_used g name || (repeats nat_eq (map (line_number g) es) || false)) _ same_twice

  -- the graph says itself what refuses a merge of words that all name lines
  pub lines_fault : (ignores : Bool) → is_name_in g.format name ≡ true → draft_fault g (merge_with g name (merge_verb ignores) es) ≡ line_fault g (merge_line g ignores name es)
  lines_fault ignores h = ap (λ r. or_else r (line_fault g (merge_line g ignores name es))) (merge_reason_is g name (merge_verb ignores) es h ∙ lines_reason) ∙ left_by ignores

pub error_read : (g : GraphValue) (verb : List ℕ → Verb) (name new : List ℕ) (es : List (List ℕ)) (e : ItemError) → is_name_in g.format name ≡ true → new ≡ name → IsMergeError g new es e → IsDone {T = Unit {0}} g (merge_with g name verb es) g (Err e)
error_read g verb name new es (errors.Refused w) n k h = (merge_refused g name verb es w n (ap (λ x. merge_reason g x es) (sym k) ∙ h), refl)
error_read g verb name new es errors.NoMemory n k h = refl
