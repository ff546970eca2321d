-- Which test gave the reason that refuses a line.
use Rattle.std.proofs.Common.{◌≡◌, ℕ, Bool, true, false, cond, ◌||◌, ◌⊎◌, inl, inr, List, [], map, refl, sym, ◌∙◌, ap, subst}
use Rattle.std.specs.Prelude.{Option, Some, None, filter_map, nat_eq}
use Rattle.std.specs.List.{list_any}
use Rattle.std.specs.Option.{option_map_or}
use Rattle.std.specs.Str.{bytes_eq}
use Rattle.std.proofs.lemmas.Bool.{true≢false}
use Rattle.std.proofs.lemmas.Option.{none-some, same_Some}
use Rattle.basics.proofs.Choices.{chosen}
use Rattle.graph_terms.specs.declared.decl.Decl.{Decl}
use Rattle.graph_terms.specs.declared.verb.Access.{Access}
use Rattle.graph_terms.specs.declared.verb.Line.{Line}
use Rattle.graph_terms.specs.declared.why.Why.{Why}
use Rattle.graph_terms.specs.declared.why.Why.TheVariants as reasons
use Rattle.graph_terms.specs.Access.{verb_accesses, call_accesses}
use Rattle.graph_terms.specs.Fits.{repeats, is_used, with_decl, with_line, decl_repeats, decl_unknown, decl_lacks, decl_misnumbered, is_large, is_beyond, verb_repeats, line_unknown, verb_unlike, on_unlike, format_lacks, verb_misnumbered, access_outside, data_outside, verb_meets, arrives_late, names_many, accesses_many}
use Rattle.graph_terms.specs.Graph.{GraphValue, decl_name}
use Rattle.graph_words.specs.Draft.{Placed, Draft, draft}
use Rattle.graph_reader.specs.FirstFault.{event_word, column_word, draft_fault, item_fault, words_fault, or_else}
use Rattle.word_meanings.specs.WordFaults.{misnamed, twice, unknown, unlike, misnumbered, misordered}
use Rattle.word_meanings.specs.Words.{is_empty}

-- of tests in the order of those of a line, the one that gives a reason
abbrev line_test : (a b c d e f h i : Bool) → Why → Bool
line_test a b c d e f h i reasons.Twice = a
line_test a b c d e f h i reasons.Unknown = b
line_test a b c d e f h i reasons.Kind = c
line_test a b c d e f h i reasons.Number = d
line_test a b c d e f h i reasons.Outside = e
line_test a b c d e f h i reasons.Meets = f
line_test a b c d e f h i reasons.Arrivals = h
line_test a b c d e f h i reasons.Limit = i
line_test a b c d e f h i _ = false

line_by : (a b c d e f h i : Bool) (r : Why) →
    cond a (Some reasons.Twice) (cond b (Some reasons.Unknown) (cond c (Some reasons.Kind) (cond d (Some reasons.Number) (cond e (Some reasons.Outside) (cond f (Some reasons.Meets) (cond h (Some reasons.Arrivals) (cond i (Some reasons.Limit) None))))))) ≡ Some r →
    line_test a b c d e f h i r ≡ true
line_by true b c d e f h i r k = subst (λ x. line_test true b c d e f h i x ≡ true) (same_Some reasons.Twice r k) refl
line_by false true c d e f h i r k = subst (λ x. line_test false true c d e f h i x ≡ true) (same_Some reasons.Unknown r k) refl
line_by false false true d e f h i r k = subst (λ x. line_test false false true d e f h i x ≡ true) (same_Some reasons.Kind r k) refl
line_by false false false true e f h i r k = subst (λ x. line_test false false false true e f h i x ≡ true) (same_Some reasons.Number r k) refl
line_by false false false false true f h i r k = subst (λ x. line_test false false false false true f h i x ≡ true) (same_Some reasons.Outside r k) refl
line_by false false false false false true h i r k = subst (λ x. line_test false false false false false true h i x ≡ true) (same_Some reasons.Meets r k) refl
line_by false false false false false false true i r k = subst (λ x. line_test false false false false false false true i x ≡ true) (same_Some reasons.Arrivals r k) refl
line_by false false false false false false false true r k = subst (λ x. line_test false false false false false false false true x ≡ true) (same_Some reasons.Limit r k) refl
line_by false false false false false false false false r k = absurd (none-some r k)

-- the same of a declaration
abbrev decl_test : (a b c d e : Bool) → Why → Bool
decl_test a b c d e reasons.Twice = a
decl_test a b c d e reasons.Unknown = b
decl_test a b c d e reasons.Kind = c
decl_test a b c d e reasons.Number = d
decl_test a b c d e reasons.Limit = e
decl_test a b c d e _ = false

decl_by : (a b c d e : Bool) (r : Why) → cond a (Some reasons.Twice) (cond b (Some reasons.Unknown) (cond c (Some reasons.Kind) (cond d (Some reasons.Number) (cond e (Some reasons.Limit) None)))) ≡ Some r → decl_test a b c d e r ≡ true
decl_by true b c d e r k = subst (λ x. decl_test true b c d e x ≡ true) (same_Some reasons.Twice r k) refl
decl_by false true c d e r k = subst (λ x. decl_test false true c d e x ≡ true) (same_Some reasons.Unknown r k) refl
decl_by false false true d e r k = subst (λ x. decl_test false false true d e x ≡ true) (same_Some reasons.Kind r k) refl
decl_by false false false true e r k = subst (λ x. decl_test false false false true e x ≡ true) (same_Some reasons.Number r k) refl
decl_by false false false false true r k = subst (λ x. decl_test false false false false true x ≡ true) (same_Some reasons.Limit r k) refl
decl_by false false false false false r k = absurd (none-some r k)

-- the same of words in their places, where an item may give the reason besides
abbrev word_test : (a b c d e f : Bool) → Why → Bool
word_test a b c d e f reasons.Name = a
word_test a b c d e f reasons.Twice = b
word_test a b c d e f reasons.Unknown = c
word_test a b c d e f reasons.Kind = d
word_test a b c d e f reasons.Number = e
word_test a b c d e f reasons.Space = f
word_test a b c d e f _ = false

word_by : (a b c d e f : Bool) (item : Option Why) (r : Why) →
    or_else (cond a (Some reasons.Name) (cond b (Some reasons.Twice) (cond c (Some reasons.Unknown) (cond d (Some reasons.Kind) (cond e (Some reasons.Number) (cond f (Some reasons.Space) None)))))) item ≡ Some r → (word_test a b c d e f r ≡ true) ⊎ (item ≡ Some r)
word_by true b c d e f item r k = inl (subst (λ x. word_test true b c d e f x ≡ true) (same_Some reasons.Name r k) refl)
word_by false true c d e f item r k = inl (subst (λ x. word_test false true c d e f x ≡ true) (same_Some reasons.Twice r k) refl)
word_by false false true d e f item r k = inl (subst (λ x. word_test false false true d e f x ≡ true) (same_Some reasons.Unknown r k) refl)
word_by false false false true e f item r k = inl (subst (λ x. word_test false false false true e f x ≡ true) (same_Some reasons.Kind r k) refl)
word_by false false false false true f item r k = inl (subst (λ x. word_test false false false false true f x ≡ true) (same_Some reasons.Number r k) refl)
word_by false false false false false true item r k = inl (subst (λ x. word_test false false false false false true x ≡ true) (same_Some reasons.Space r k) refl)
word_by false false false false false false item r k = inr k

-- whether an item passes the test of a reason
abbrev pub item_test : GraphValue → Why → Decl ⊎ Line → Bool
item_test g r (inl d) = decl_test (is_used g (decl_name d) || decl_repeats d) (decl_unknown g d) (decl_lacks g.format d) (decl_misnumbered g.format d) (is_large g.format d || is_beyond (with_decl g d)) r
item_test g r (inr l) = line_test (is_used g l.name || (verb_repeats g l.verb || (repeats nat_eq (map (λ (a : Access). a.column) (verb_accesses l.verb)) || repeats nat_eq l.on))) (line_unknown g l) (verb_unlike g l.verb || (on_unlike g.format l.verb l.on || format_lacks g.format l.verb))
    (verb_misnumbered g.format l.verb) (list_any (access_outside g) (verb_accesses l.verb) || list_any (data_outside g) (call_accesses l.verb)) (verb_meets g l.verb) (arrives_late g l.verb) (names_many g.format l.verb l.on || (accesses_many l.verb || is_beyond (with_line g l))) r

pub item_told : (g : GraphValue) (r : Why) (i : Decl ⊎ Line) → item_fault g i ≡ Some r → item_test g r i ≡ true
item_told g r (inl d) h = decl_by _ _ _ _ _ r h
item_told g r (inr l) h = line_by _ _ _ _ _ _ _ _ r h

-- whether words in their places pass it
abbrev pub placed_test : GraphValue → Why → List Placed → Bool
placed_test g r ps = word_test (list_any (λ (p : Placed). misnamed g.format p.0 p.1) ps)
    (list_any (λ (p : Placed). twice g p.0 p.1) ps || (repeats bytes_eq (filter_map (λ (p : Placed). event_word p.0 p.1) ps) || repeats bytes_eq (filter_map (λ (p : Placed). column_word p.0 p.1) ps)))
    (list_any (λ (p : Placed). unknown g p.0 p.1) ps) (list_any (λ (p : Placed). unlike g p.0 p.1) ps) (list_any (λ (p : Placed). misnumbered g.format p.0 p.1) ps) (list_any (λ (p : Placed). misordered p.0 p.1) ps) r

-- what a refused line spells, of which a test passes or the item is refused
pub record IsTold (g : GraphValue) (r : Why) (ws : List (List ℕ)) : Type 0 where
  pub spelled : Draft
  pub is : draft g ws ≡ Some spelled
  pub told : (placed_test g r spelled.placed ≡ true) ⊎ (item_fault g spelled.item ≡ Some r)

told_by : (g : GraphValue) (r : Why) (ws : List (List ℕ)) (o : Option Draft) → (reasons.Syntax ≡ r → ⊥) → draft g ws ≡ o → option_map_or (draft_fault g) o (Some reasons.Syntax) ≡ Some r → IsTold g r ws
told_by g r ws None other e h = absurd (other (same_Some reasons.Syntax r h))
told_by g r ws (Some d) other e h = record { spelled = d; is = e; told = word_by _ _ _ _ _ _ (item_fault g d.item) r h }

fault_told : (g : GraphValue) (r : Why) (ws : List (List ℕ)) → (reasons.Syntax ≡ r → ⊥) → words_fault g ws ≡ Some r → IsTold g r ws
fault_told g r ws other h = elim (chosen (list_any is_empty ws) (Some reasons.Syntax) _ (Some r) h) [
  | inl e ↦ absurd (other (same_Some reasons.Syntax r e.1))
  | inr e ↦ told_by g r ws (draft g ws) other refl e.1
]

-- the item of a line that is refused for what no word alone is
pub record IsItemRefused (g : GraphValue) (r : Why) (ws : List (List ℕ)) : Type 0 where
  pub spelled : Draft
  pub is : draft g ws ≡ Some spelled
  pub refused : item_fault g spelled.item ≡ Some r

pub item_refused : (g : GraphValue) (r : Why) (ws : List (List ℕ)) → (reasons.Syntax ≡ r → ⊥) → ((ps : List Placed) → placed_test g r ps ≡ false) → words_fault g ws ≡ Some r → IsItemRefused g r ws
item_refused g r ws other none h =
    let t = fault_told g r ws other h in
    record { spelled = t.spelled; is = t.is; refused = elim t.told [ inl a ↦ absurd (true≢false (sym a ∙ none t.spelled.placed)) | inr b ↦ b ] }

abbrev pub draft_test : GraphValue → Why → Option Draft → Bool
draft_test g r o = option_map_or (λ (d : Draft). item_test g r d.item) o false

pub draft_passes : (g : GraphValue) (r : Why) (ws : List (List ℕ)) → (reasons.Syntax ≡ r → ⊥) → ((ps : List Placed) → placed_test g r ps ≡ false) → words_fault g ws ≡ Some r → draft_test g r (draft g ws) ≡ true
draft_passes g r ws other none h = let t = item_refused g r ws other none h in ap (draft_test g r) t.is ∙ item_told g r t.spelled.item t.refused

-- the words of a line that is refused for what no item is
pub words_pass : (g : GraphValue) (r : Why) (ws : List (List ℕ)) → (reasons.Syntax ≡ r → ⊥) → ((i : Decl ⊎ Line) → item_test g r i ≡ false) → words_fault g ws ≡ Some r → placed_test g r (option_map_or (λ (d : Draft). d.placed) (draft g ws) []) ≡ true
words_pass g r ws other none h =
    let t = fault_told g r ws other h in
    ap (λ o. placed_test g r (option_map_or (λ (d : Draft). d.placed) o [])) t.is ∙ elim t.told [
      | inl a ↦ a
      | inr b ↦ absurd (true≢false (sym (item_told g r t.spelled.item b) ∙ none t.spelled.item))
    ]
