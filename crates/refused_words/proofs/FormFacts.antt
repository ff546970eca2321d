-- Which form the words of a line have.
use Rattle.std.proofs.Common.{◌≡◌, ℕ, Bool, true, false, cond, ◌||◌, ◌⊎◌, inl, inr, List, [], ◌∷◌, length, drop, refl, sym, ◌∙◌, ap, subst}
use Rattle.std.specs.Prelude.{Option, Some, None, option_map, bytes_eq, codes, find, slice_index_or}
use Rattle.std.specs.Option.{option_map_or}
use Rattle.std.proofs.lemmas.Bool.{true≢false, cond-true, cond-false}
use Rattle.graph_terms.specs.declared.decl.Decl.{Decl}
use Rattle.graph_terms.specs.declared.format.Format.TheVariants.{Three}
use Rattle.graph_terms.specs.declared.table.Kind.{Kind}
use Rattle.graph_terms.specs.declared.table.TheConstants.{KINDS}
use Rattle.graph_terms.specs.declared.verb.Line.{Line}
use Rattle.graph_terms.specs.declared.verb.Verb.TheVariants.{Merge, MergeIgnore}
use Rattle.graph_terms.specs.Format.{has_since}
use Rattle.graph_terms.specs.Graph.{GraphValue}
use Rattle.graph_words.specs.Calls.{CallWords, call_words}
use Rattle.graph_words.specs.Draft.{Draft, draft, form_of, is_of_form, line_draft, merge_draft, call_draft, call_with, decl_draft_after, decl_draft, space_draft, inst_draft, data_draft, columns_with, lock_draft, barrier_draft, barrier_with, op_of, same_word}
use Rattle.graph_reader.specs.Kinds.{kind_draft}
use Rattle.graph_reader.specs.Merges.{merge_verb}
use Rattle.graph_reader.specs.Reading.{is_operation}
use Rattle.graph_reader.proofs.Public.{line_kind, line_call, decl_by_sign}
use Rattle.index_spaces.specs.declared.Op.{Op}
use Rattle.refused_words.specs.Places.{is_merge, is_call}
use Rattle.refused_words.proofs.PlaceFacts.{at, IsPlain}

-- a line that begins so is a merge
pub as_merge : (g : GraphValue) (name : List ℕ) (ws : List (List ℕ)) (v : List ℕ) → v ≡ slice_index_or ws 0 [] → bytes_eq v (codes "merge") ≡ true → line_draft g name ws ≡ merge_draft g name (merge_verb false) (drop 1 ws)
as_merge g name [] v e b = absurd (true≢false (sym b ∙ ap (λ x. bytes_eq x (codes "merge")) e))
as_merge g name (w ∷ ws) v e b = cond-true (bytes_eq w (codes "merge")) (merge_draft g name Merge ws) _ (ap (λ x. bytes_eq x (codes "merge")) (sym e) ∙ b)

pub as_mergei : (g : GraphValue) (name : List ℕ) (ws : List (List ℕ)) (v : List ℕ) → v ≡ slice_index_or ws 0 [] → bytes_eq v (codes "merge") ≡ false → bytes_eq v (codes "mergei") ≡ true → line_draft g name ws ≡ merge_draft g name (merge_verb true) (drop 1 ws)
as_mergei g name [] v e b c = absurd (true≢false (sym c ∙ ap (λ x. bytes_eq x (codes "mergei")) e))
as_mergei g name (w ∷ ws) v e b c = cond-false (bytes_eq w (codes "merge")) (merge_draft g name Merge ws) _ (ap (λ x. bytes_eq x (codes "merge")) (sym e) ∙ b)
    ∙ cond-true (bytes_eq w (codes "mergei")) (merge_draft g name MergeIgnore ws) _ (ap (λ x. bytes_eq x (codes "mergei")) (sym e) ∙ c)

-- the words behind the sign are those of a merge, of a call, or of a kind
abbrev pub AsMerge : GraphValue → List ℕ → List (List ℕ) → Type 0
AsMerge g name ws = (ignores : Bool) × (line_draft g name ws ≡ merge_draft g name (merge_verb ignores) (drop 1 ws)) × (is_merge ws ≡ true)

abbrev pub AsCall : GraphValue → List ℕ → List (List ℕ) → Type 0
AsCall g name ws = (line_draft g name ws ≡ call_draft g name (drop 1 ws)) × (is_merge ws ≡ false) × (is_call ws ≡ true)

abbrev pub AsKind : GraphValue → List ℕ → List (List ℕ) → Type 0
AsKind g name ws = (o : Option Kind) × (find (λ k. is_of_form g.format ws (form_of k)) KINDS ≡ o) × (line_draft g name ws ≡ option_map (λ k. kind_draft g k name (drop (length (form_of k).words) ws)) o) × IsPlain ws

form_by : (g : GraphValue) (name : List ℕ) (ws : List (List ℕ)) (m i c : Bool) → same_word (at ws 0) (codes "merge") ≡ m → same_word (at ws 0) (codes "mergei") ≡ i → is_call ws ≡ c → AsMerge g name ws ⊎ (AsCall g name ws ⊎ AsKind g name ws)
form_by g name ws true i c e f h = inl (false, as_merge g name ws (at ws 0) refl e, ap (λ b. b || same_word (at ws 0) (codes "mergei")) e)
form_by g name ws false true c e f h = inl (true, as_mergei g name ws (at ws 0) refl e f, ap (λ b. b || same_word (at ws 0) (codes "mergei")) e ∙ f)
form_by g name ws false false true e f h = inr (inl (line_call g name ws (at ws 0) refl e f h, ap (λ b. b || same_word (at ws 0) (codes "mergei")) e ∙ f, h))
form_by g name ws false false false e f h = inr (inr (
  find (λ k. is_of_form g.format ws (form_of k)) KINDS,
  refl,
  line_kind g name ws (at ws 0) _ refl e f h refl,
  record { merge = ap (λ b. b || same_word (at ws 0) (codes "mergei")) e ∙ f; call = h },
))

pub form_cases : (g : GraphValue) (name : List ℕ) (ws : List (List ℕ)) → AsMerge g name ws ⊎ (AsCall g name ws ⊎ AsKind g name ws)
form_cases g name ws = form_by g name ws _ _ _ refl refl refl

-- the words of a call have parts, or spell nothing
pub record HasParts (g : GraphValue) (name : List ℕ) (ws : List (List ℕ)) : Type 0 where
  pub call : CallWords
  pub three : has_since Three g.format ≡ true
  pub parts : call_words ws ≡ Some call
  pub spelled : call_draft g name ws ≡ Some (call_with g name call)

parts_by : (g : GraphValue) (name : List ℕ) (ws : List (List ℕ)) (b : Bool) (o : Option CallWords) → has_since Three g.format ≡ b → call_words ws ≡ o → (call_draft g name ws ≡ None) ⊎ HasParts g name ws
parts_by g name ws false o e h = inl (cond-false (has_since Three g.format) _ _ e)
parts_by g name ws true None e h = inl (cond-true (has_since Three g.format) _ _ e ∙ ap (option_map (call_with g name)) h)
parts_by g name ws true (Some c) e h = inr (record { call = c; three = e; parts = h; spelled = cond-true (has_since Three g.format) _ _ e ∙ ap (option_map (call_with g name)) h })

pub call_cases : (g : GraphValue) (name : List ℕ) (ws : List (List ℕ)) → (call_draft g name ws ≡ None) ⊎ HasParts g name ws
call_cases g name ws = parts_by g name ws _ _ refl refl

-- words without the sign spell a declaration, or nothing
abbrev pub IsDeclared : Option Draft → Type 0
IsDeclared None = Unit {0}
IsDeclared (Some d) = (x : Decl) × (d.item ≡ inl x)

space_declared : (g : GraphValue) (ws : List (List ℕ)) → IsDeclared (space_draft g ws)
space_declared g [] = tt
space_declared g (a ∷ []) = tt
space_declared g (a ∷ b ∷ []) = (_, refl)
space_declared g (a ∷ b ∷ c ∷ cs) = tt

inst_declared : (g : GraphValue) (ws : List (List ℕ)) → IsDeclared (inst_draft g ws)
inst_declared g [] = tt
inst_declared g (a ∷ []) = tt
inst_declared g (a ∷ b ∷ []) = tt
inst_declared g (a ∷ b ∷ c ∷ []) = (_, refl)
inst_declared g (a ∷ b ∷ c ∷ d ∷ ds) = tt

either_declared : (b : Bool) (x y : Option Draft) → IsDeclared x → IsDeclared y → IsDeclared (cond b x y)
either_declared true x y h k = h
either_declared false x y h k = k

data_declared : (g : GraphValue) (ws : List (List ℕ)) → IsDeclared (data_draft g ws)
data_declared g [] = tt
data_declared g (a ∷ []) = tt
data_declared g (a ∷ b ∷ []) = tt
data_declared g (a ∷ b ∷ c ∷ []) = either_declared (has_since Three g.format) (Some (columns_with g true a b c)) None (_, refl) tt
data_declared g (a ∷ b ∷ c ∷ d ∷ ds) = tt

lock_declared : (g : GraphValue) (ws : List (List ℕ)) → IsDeclared (lock_draft g ws)
lock_declared g [] = tt
lock_declared g (a ∷ []) = (_, refl)
lock_declared g (a ∷ b ∷ bs) = tt

barrier_by : (g : GraphValue) (a b d : List ℕ) (o : Option Op) → IsDeclared (option_map (λ op. barrier_with g.format a b op d) o)
barrier_by g a b d None = tt
barrier_by g a b d (Some op) = (_, refl)

barrier_declared : (g : GraphValue) (ws : List (List ℕ)) → IsDeclared (barrier_draft g ws)
barrier_declared g [] = tt
barrier_declared g (a ∷ []) = tt
barrier_declared g (a ∷ b ∷ []) = tt
barrier_declared g (a ∷ b ∷ c ∷ []) = tt
barrier_declared g (a ∷ b ∷ c ∷ d ∷ []) = barrier_by g a b d (op_of c)
barrier_declared g (a ∷ b ∷ c ∷ d ∷ e ∷ es) = tt

decl_declared : (g : GraphValue) (ws : List (List ℕ)) → IsDeclared (decl_draft g ws)
decl_declared g [] = tt
decl_declared g (w ∷ ws) =
    either_declared (same_word w (codes "space")) _ _ (space_declared g ws)
    (either_declared (same_word w (codes "inst")) _ _ (inst_declared g ws)
    (either_declared (same_word w (codes "lock")) _ _ (lock_declared g ws)
    (either_declared (same_word w (codes "barrier")) _ _ (barrier_declared g ws)
    (either_declared (same_word w (codes "data")) _ _ (data_declared g ws) tt))))

after_declared : (g : GraphValue) (ls : List Line) (ws : List (List ℕ)) → IsDeclared (decl_draft_after g ls ws)
after_declared g [] ws = decl_declared g ws
after_declared g (l ∷ ls) ws = tt

pub declared : (g : GraphValue) (ws : List (List ℕ)) → is_operation ws ≡ false → IsDeclared (draft g ws)
declared g ws h = subst IsDeclared (sym (decl_by_sign g ws h)) (after_declared g g.lines ws)

-- of which a test of lines says nothing
pub none_declared : {X : Type 0} (f : Decl ⊎ Line → X) (x : X) (o : Option Draft) → IsDeclared o → ((d : Decl) → f (inl d) ≡ x) → option_map_or (λ (d : Draft). f d.item) o x ≡ x
none_declared f x None h k = refl
none_declared f x (Some d) h k = ap f h.1 ∙ k h.0
