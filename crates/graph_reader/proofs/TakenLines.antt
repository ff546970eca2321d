-- What is done with the words of a line.
use Rattle.std.proofs.Common.{◌≡◌, ℕ, Bool, true, false, ◌⊎◌, inl, inr, List, refl, sym, ◌∙◌, ap, subst, drop, length}
use Rattle.std.specs.Prelude.{Option, Some, None, Result, Ok, Err, OnOk, OnErr, IfErr}
use Rattle.std.specs.Option.{option_map_or}
use Rattle.std.specs.List.{list_any}
use Rattle.graph_terms.specs.declared.decl.Decl.{Decl}
use Rattle.graph_terms.specs.declared.table.Kind.{Kind}
use Rattle.graph_terms.specs.declared.verb.Line.{Line}
use Rattle.graph_terms.specs.declared.why.Why.TheVariants as why
use Rattle.graph_terms.specs.Graph.{GraphValue}
use Rattle.graph_terms.specs.Fits.{line_fault}
use Rattle.graph_words.specs.Draft.{Draft, draft, form_of, is_of_form, merge_draft, call_draft}
use Rattle.word_meanings.specs.Words.{is_empty}
use Rattle.graph_reader.specs.Kinds.{kind_draft}
use Rattle.graph_reader.specs.Merges.{merge_verb}
use Rattle.graph_reader.specs.FirstFault.{draft_fault, item_fault}
use Rattle.graph_reader.specs.declared.item.ItemError.{ItemError}
use Rattle.graph_reader.specs.declared.item.ItemError.TheVariants as errors
use Rattle.graph_reader.specs.Reading.{IsWordsError, IsTaken, IsLineRead, IsLineOf, IsTakable, IsOffered, IsDone, IsDoneOf, IsWordsDone, MayFollow, with_value}
use Rattle.graph_reader.proofs.Drafts.{fine_draft}
use Rattle.graph_reader.proofs.ReadBack.{IsItem}
use Rattle.graph_reader.proofs.Spelled.{form_spelled, merge_spelled, mergei_spelled, call_spelled}
use Rattle.graph_reader.proofs.LineShapes.{filled, syntax_fault}

-- what no reason refuses may follow
pub takable_form : (g : GraphValue) (name : List ℕ) (ws : List (List ℕ)) (k : Kind) → is_of_form g.format ws (form_of k) ≡ true → IsTakable g (kind_draft g k name (drop (length (form_of k).words) ws))
unfolding IsTakable
takable_form g name ws k of none = λ no_fault. (form_spelled g name ws k of (fine_draft g (kind_draft g k name (drop (length (form_of k).words) ws)) none)).is_item

item_follows : (g : GraphValue) (i : Decl ⊎ Line) → IsItem g i → item_fault g i ≡ None → MayFollow g i
item_follows g (inl d) h f = (h.0, h.1, f, h.2)
item_follows g (inr l) h f = λ no_fault. h

pub takable_merge : (g : GraphValue) (name : List ℕ) (ignores : Bool) (es : List (List ℕ)) (d : Draft) → merge_draft g name (merge_verb ignores) es ≡ Some d → IsTakable g d
unfolding IsTakable
takable_merge g name true es d e none = let f = fine_draft g d none in item_follows g d.item (mergei_spelled g name es d e f).is_item f.item
takable_merge g name false es d e none = let f = fine_draft g d none in item_follows g d.item (merge_spelled g name es d e f).is_item f.item

takable_call : (g : GraphValue) (name : List ℕ) (ws : List (List ℕ)) (d : Draft) → call_draft g name ws ≡ Some d → IsTakable g d
unfolding IsTakable
takable_call g name ws d e none = let f = fine_draft g d none in item_follows g d.item (call_spelled g name ws d e f).is_item f.item

pub line_follows : (g : GraphValue) (d : Draft) (l : Line) → IsTakable g d → IsLineRead g d (Ok l) → MayFollow g (inr l)
unfolding IsTakable
line_follows g d l t h = λ none. subst (MayFollow g) h.1 (t (h.0 ∙ none)) none

pub call_follows : (g : GraphValue) (name : List ℕ) (ws : List (List ℕ)) (l : Line) → IsLineOf g (call_draft g name ws) (Ok l) → MayFollow g (inr l)
call_follows g name ws l h = by (call_draft g name ws) refl h
  where
    by : (o : Option Draft) → call_draft g name ws ≡ o → IsLineOf g o (Ok l) → MayFollow g (inr l)
    by None e h = absurd h
    by (Some d) e h = line_follows g d l (takable_call g name ws d e) h

-- a line whose words no reason refuses, by what the graph says of it
pub line_taken : (g : GraphValue) (d : Draft) (l : Line) → IsTakable g d → draft_fault g d ≡ line_fault g l → d.item ≡ inr l → MayFollow g (inr l)
unfolding IsTakable
line_taken g d l t f is = λ none. subst (MayFollow g) is (t (f ∙ none)) none

-- what is done with a line by the graph, by what was read of it
pub offered : {T : Type 0} (g new : GraphValue) (d : Draft) (l : Line) (r : Result T ItemError) → draft_fault g d ≡ line_fault g l → d.item ≡ inr l → IsOffered g l new r → IsDone g d new r
offered g new d l (Ok u) f is h = (f ∙ h.0, h.1 ∙ ap (with_value g) (sym is))
offered g new d l (Err (errors.Refused w)) f is h = (f ∙ h.0, h.1)
offered g new d l (Err errors.NoMemory) f is h = h

pub offered_of : {T : Type 0} (g new : GraphValue) (o : Option Draft) (l : Line) (r : Result T ItemError) → IsLineOf g o (Ok l) → IsOffered g l new r → IsDoneOf g o new r
offered_of g new None l r h a = absurd h
offered_of g new (Some d) l r h a = offered g new d l r h.0 h.1 a

-- nothing is done where no line was read
pub not_read : (T : Type 0) (g : GraphValue) (o : Option Draft) (e : ItemError) → IsLineOf g o (Err e) → IsDoneOf {T = T} g o g (Err e)
not_read T g None (errors.Refused w) h = (h, refl)
not_read T g None errors.NoMemory h = refl
not_read T g (Some d) (errors.Refused w) h = (h, refl)
not_read T g (Some d) errors.NoMemory h = refl

-- what is done with the words of an operation line
pub line_done : {T : Type 0} (g new : GraphValue) (ws : List (List ℕ)) (o : Option Draft) (r : Result T ItemError) → list_any is_empty ws ≡ false → draft g ws ≡ o → IsDoneOf g o new r → IsWordsDone g ws new r
line_done g new ws None (Ok u) f e h = absurd h
line_done g new ws None (Err (errors.Refused w)) f e h = (syntax_fault g ws f e ∙ ap Some (sym h.0), h.1)
line_done g new ws None (Err errors.NoMemory) f e h = h
line_done g new ws (Some d) (Ok u) f e h = (filled g ws f ∙ (ap (λ o. option_map_or (draft_fault g) o (Some why.Syntax)) e ∙ h.0), d, e, h.1)
line_done g new ws (Some d) (Err (errors.Refused w)) f e h = (filled g ws f ∙ (ap (λ o. option_map_or (draft_fault g) o (Some why.Syntax)) e ∙ h.0), h.1)
line_done g new ws (Some d) (Err errors.NoMemory) f e h = h

-- the parts of what is done with words
pub words_taken : {T : Type 0} (g new : GraphValue) (ws : List (List ℕ)) (r : Result T ItemError) → IsWordsDone g ws new r → OnOk r (IsTaken g ws new)
words_taken g new ws (Ok u) h = h
words_taken g new ws (Err e) h = tt

pub words_refused : {T : Type 0} (g new : GraphValue) (ws : List (List ℕ)) (r : Result T ItemError) → IsWordsDone g ws new r → IfErr r (IsWordsError g ws)
words_refused g new ws (Ok u) h = tt
words_refused g new ws (Err (errors.Refused w)) h = h.0
words_refused g new ws (Err errors.NoMemory) h = tt

pub words_stay : {T : Type 0} (g new : GraphValue) (ws : List (List ℕ)) (r : Result T ItemError) → IsWordsDone g ws new r → OnErr r (new ≡ g)
words_stay g new ws (Ok u) h = tt
words_stay g new ws (Err (errors.Refused w)) h = h.1
words_stay g new ws (Err errors.NoMemory) h = h
