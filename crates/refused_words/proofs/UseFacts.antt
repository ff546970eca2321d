-- The columns that a line of a kind uses, place by place.
use Rattle.std.proofs.Common.{◌≡◌, ℕ, zero, suc, ◌<◌, ◌≤◌, Bool, true, false, not, ◌||◌, inl, inr, List, [], ◌∷◌, length, map, drop, refl, sym, ◌∙◌, ap, arith}
use Rattle.std.specs.Prelude.{Option, Some, None, slice_index, slice_get, slice_index_or, filter_map, zip, ◌==◌, ◌&&◌, nat_lt}
use Rattle.std.specs.Option.{option_map_or}
use Rattle.std.specs.List.{list_any, list_all}
use Rattle.std.proofs.lemmas.Bool.{true≢false, or_cases, false_from_ne_true, eq-eqb, lt-ltb}
use Rattle.std.proofs.lemmas.Option.{none-some, same_Some, slice_get-get_or}
use Rattle.std.proofs.lemmas.List.{length-map}
use Rattle.index_spaces.specs.Space.{has_point, points}
use Rattle.graph_terms.specs.declared.verb.Access.{Access}
use Rattle.graph_terms.specs.declared.verb.Mode.{Mode}
use Rattle.graph_terms.specs.declared.table.Kind.{Kind}
use Rattle.graph_terms.specs.declared.table.Kind.TheVariants as kinds
use Rattle.graph_terms.specs.declared.table.Place as table
use Rattle.graph_terms.specs.declared.table.Place.TheVariants.{Space, Column}
use Rattle.graph_terms.specs.Access.{access, access_at, accesses_of, verb_accesses}
use Rattle.graph_terms.specs.Fits.{access_outside}
use Rattle.graph_terms.specs.Graph.{GraphValue, space_at, column_space}
use Rattle.graph_terms.specs.Table.{Placed, kind_places, arrive_kind, arrive_parts, verb_parts, verb_of, is_row, NumbersFit}
use Rattle.graph_terms.proofs.Public.{each_is_row, over_space, kind_again, parts_again}
use Rattle.graph_words.specs.Draft.{as_place, number_in, number_in_place, column_number_of, space_number, draft, line_draft, merge_draft, words_in}
use Rattle.graph_reader.specs.Kinds.{HasPlaces, kind_verb}
use Rattle.graph_reader.specs.Merges.{merge_verb}
use Rattle.graph_reader.specs.Reading.{is_operation}
use Rattle.graph_words.specs.Words.{pieces}
use Rattle.graph_reader.proofs.Drafts.{numbers_long}
use Rattle.refused_words.specs.Places.{is_merge}
use Rattle.refused_words.specs.Refused.{item_accesses, draft_accesses, leaves_column}
use Rattle.refused_words.specs.Uses.{use_in, use_at}
use Rattle.refused_words.proofs.FormFacts.{form_cases, declared, none_declared}

-- the verb of a kind uses the columns in the places of this kind
by_fit : (k : Kind) (ns : List ℕ) → NumbersFit k ns → length ns ≡ length (kind_places k) → verb_accesses (verb_of k ns) ≡ accesses_of (kind_places k) ns
by_fit k ns f l = ap (λ o. accesses_of (option_map_or kind_places o []) (verb_parts (verb_of k ns))) (kind_again k ns f) ∙ ap (accesses_of (kind_places k)) (parts_again k ns f l)

no_arrival : (b : Bool) (p v w : ℕ) → accesses_of (kind_places (arrive_kind b)) (arrive_parts b p v w) ≡ []
no_arrival true p v w = refl
no_arrival false p v w = refl

none_by_weight : (ns : List ℕ) → accesses_of (kind_places kinds.ArriveTimes) ns ≡ []
none_by_weight [] = refl
none_by_weight (a ∷ []) = refl
none_by_weight (a ∷ b ∷ []) = refl
none_by_weight (a ∷ b ∷ c ∷ []) = refl
none_by_weight (a ∷ b ∷ c ∷ d ∷ ds) = refl

none_shared : (ns : List ℕ) → accesses_of (kind_places kinds.AcquireShared) ns ≡ []
none_shared [] = refl
none_shared (a ∷ []) = refl
none_shared (a ∷ b ∷ bs) = refl

kind_uses : (k : Kind) (ns : List ℕ) → length ns ≡ length (kind_places k) → verb_accesses (verb_of k ns) ≡ accesses_of (kind_places k) ns
kind_uses kinds.ArriveTimes ns l = no_arrival (slice_index ns 3 == 1) (slice_index ns 0) (slice_index ns 1) (slice_index ns 3) ∙ sym (none_by_weight ns)
kind_uses kinds.AcquireShared ns l = sym (none_shared ns)
kind_uses k ns l = by_fit k ns tt l

-- the access in a place, where there is one
abbrev at_place : List ℕ → Option table.Place → ℕ → Option Access
at_place ns None n = None
at_place ns (Some p) n = access_at ns p n

abbrev listed : List ℕ → List table.Place → List ℕ → List Access
listed ns ps ms = filter_map (λ (p : Placed). access_at ns p.0 p.1) (zip ps ms)

or_true : (b : Bool) → (b || true) ≡ true
or_true true = refl
or_true false = refl

placed_passes : (t : Access → Bool) (ns : List ℕ) (ps : List table.Place) (ms : List ℕ) (k : ℕ) → length ps ≤ length ms → option_map_or t (at_place ns (slice_get ps k) (slice_index ms k)) false ≡ true → list_any t (listed ns ps ms) ≡ true
placed_passes t ns [] ms k l h = absurd (true≢false (sym h))
placed_passes t ns (p ∷ ps) [] k l h = absurd (omega arith)
placed_passes t ns (Column mode over ∷ ps) (m ∷ ms) zero l h = ap (λ b. b || list_any t (listed ns ps ms)) h
placed_passes t ns (Column mode over ∷ ps) (m ∷ ms) (suc k) l h = ap (λ b. t (access m (slice_index ns over) mode) || b) (placed_passes t ns ps ms k (omega arith) h) ∙ or_true (t (access m (slice_index ns over) mode))
placed_passes t ns (p ∷ ps) (m ∷ ms) zero l h = absurd (true≢false (sym h))
placed_passes t ns (p ∷ ps) (m ∷ ms) (suc k) l h = placed_passes t ns ps ms k (omega arith) h

placed_some : (t : Access → Bool) (ns : List ℕ) (ps : List table.Place) (ms : List ℕ) → list_any t (listed ns ps ms) ≡ true → (k : ℕ) × (k < length ps) × (option_map_or t (at_place ns (slice_get ps k) (slice_index ms k)) false ≡ true)
placed_some t ns [] ms h = absurd (true≢false (sym h))
placed_some t ns (p ∷ ps) [] h = absurd (true≢false (sym h))
placed_some t ns (Column mode over ∷ ps) (m ∷ ms) h = elim (or_cases (t (access m (slice_index ns over) mode)) (list_any t (listed ns ps ms)) h) [
  | inl a ↦ (0, omega arith, a)
  | inr b ↦ (let r = placed_some t ns ps ms b in (suc r.0, (let below : r.0 < length ps = r.1 in let more : suc r.0 < suc (length ps) = omega arith in more), r.2))
]
placed_some t ns (p ∷ ps) (m ∷ ms) h = let r = placed_some t ns ps ms h in (suc r.0, (let below : r.0 < length ps = r.1 in let more : suc r.0 < suc (length ps) = omega arith in more), r.2)

number_at : (g : GraphValue) (ps : List table.Place) (ws : List (List ℕ)) (k : ℕ) (p : table.Place) → length ps ≤ length ws → slice_get ps k ≡ Some p → slice_index (map (number_in g) (words_in ps ws)) k ≡ number_in_place g (as_place p) (slice_index_or ws k [])
number_at g [] ws k p l e = absurd (none-some p e)
number_at g (q ∷ ps) [] k p l e = absurd (omega arith)
number_at g (q ∷ ps) (w ∷ ws) zero p l e = ap (λ x. number_in_place g (as_place x) w) (same_Some q p e)
number_at g (q ∷ ps) (w ∷ ws) (suc k) p l e = number_at g ps ws k p (omega arith) e

use_by : (g : GraphValue) (ps : List table.Place) (ws : List (List ℕ)) (k : ℕ) (o : Option table.Place) → is_row ps ≡ true → length ps ≤ length ws → slice_get ps k ≡ o →
    at_place (map (number_in g) (words_in ps ws)) o (slice_index (map (number_in g) (words_in ps ws)) k) ≡ use_in g ws k o
use_by g ps ws k None r l e = refl
use_by g ps ws k (Some (Column mode over)) r l e =
    ap (λ c. Some (access c (slice_index (map (number_in g) (words_in ps ws)) over) mode)) (number_at g ps ws k (Column mode over) l e)
    ∙ ap (λ s. Some (access (column_number_of g (pieces 46 (slice_index_or ws k []))) s mode)) (number_at g ps ws over Space l (over_space ps r k mode over e))
use_by g ps ws k (Some p) r l e = refl

module _ (t : Access → Bool) (g : GraphValue) (kind : Kind) (ws : List (List ℕ)) (there : HasPlaces kind ws) where
  abbrev ns : List ℕ
  ns = map (number_in g) (words_in (kind_places kind) ws)

  long : length (kind_places kind) ≤ length ws
  long = let same : length (map as_place (kind_places kind)) ≡ length (kind_places kind) = length-map (kind_places kind) as_place in let h : length (map as_place (kind_places kind)) ≤ length ws = there in omega arith

  size : length ns ≡ length (kind_places kind)
  size = numbers_long g (map as_place (kind_places kind)) ws there ∙ length-map (kind_places kind) as_place

  same : (k : ℕ) → at_place ns (slice_get (kind_places kind) k) (slice_index ns k) ≡ use_at g (kind_places kind) ws k
  same k = use_by g (kind_places kind) ws k (slice_get (kind_places kind) k) (each_is_row kind) long refl

  pub any_use : (k : ℕ) → option_map_or t (use_at g (kind_places kind) ws k) false ≡ true → list_any t (verb_accesses (kind_verb g kind ws)) ≡ true
  any_use k h = ap (list_any t) (kind_uses kind ns size) ∙ placed_passes t ns (kind_places kind) ns k (let e : length ns ≡ length (kind_places kind) = size in omega arith) (ap (λ o. option_map_or t o false) (same k) ∙ h)

  pub some_use : list_any t (verb_accesses (kind_verb g kind ws)) ≡ true → (k : ℕ) × (k < length (kind_places kind)) × (option_map_or t (use_at g (kind_places kind) ws k) false ≡ true)
  some_use h = let r = placed_some t ns (kind_places kind) ns (sym (ap (list_any t) (kind_uses kind ns size)) ∙ h) in (r.0, r.1, sym (ap (λ o. option_map_or t o false) (same r.0)) ∙ r.2)

  pub no_use : ((k : ℕ) → k < length (kind_places kind) → option_map_or t (use_at g (kind_places kind) ws k) false ≡ false) → list_any t (verb_accesses (kind_verb g kind ws)) ≡ false
  no_use none = false_from_ne_true (list_any t (verb_accesses (kind_verb g kind ws))) (λ h. let r = some_use h in true≢false (sym r.2 ∙ none r.0 r.1))

-- no point lies in a column that is not there
pub none_within : (ps : List ℕ) → nat_lt 0 (length ps) ≡ not (list_all (has_point []) ps)
none_within [] = refl
none_within (p ∷ ps) = lt-ltb 0 (length (p ∷ ps)) (omega arith)

-- whether a word names a column that is used there so
pub use_found : (g : GraphValue) (column : ℕ) (ps : List table.Place) (ws : List (List ℕ)) (k : ℕ) (mode : Mode) (over : ℕ) (d : table.Place) (named space : ℕ) (out : Bool) → k < length ps → slice_index_or ps k d ≡ Column mode over →
    named ≡ column_number_of g (pieces 46 (slice_index_or ws k [])) → space ≡ space_number g (slice_index_or ws over []) → named ≡ column → out ≡ not (list_all (has_point (column_space g column)) (points (space_at g space))) →
    out ≡ option_map_or (leaves_column g column) (use_at g ps ws k) false
use_found g column ps ws k mode over d named space out below is is_named is_space same o =
    o ∙ (ap (λ c. not (list_all (has_point (column_space g c)) (points (space_at g space)))) (sym same)
    ∙ (ap (λ b. b && access_outside g (access named space mode)) (sym (eq-eqb named column same))
    ∙ (ap (λ n. leaves_column g column (access n space mode)) is_named
    ∙ (ap (λ s. leaves_column g column (access (column_number_of g (pieces 46 (slice_index_or ws k []))) s mode)) is_space
    ∙ ap (λ o. option_map_or (leaves_column g column) (use_in g ws k o) false) (sym (slice_get-get_or ps k d below ∙ ap Some is))))))

no_column : (g : GraphValue) (column : ℕ) (ws : List (List ℕ)) (k : ℕ) (p : table.Place) → ((mode : Mode) (over : ℕ) → p ≡ Column mode over → ⊥) → false ≡ option_map_or (leaves_column g column) (use_in g ws k (Some p)) false
no_column g column ws k (Column mode over) other = absurd (other mode over refl)
no_column g column ws k p other = refl

pub no_use_at : (g : GraphValue) (column : ℕ) (ps : List table.Place) (ws : List (List ℕ)) (k : ℕ) (d : table.Place) → k < length ps → ((mode : Mode) (over : ℕ) → slice_index_or ps k d ≡ Column mode over → ⊥) →
    false ≡ option_map_or (leaves_column g column) (use_at g ps ws k) false
no_use_at g column ps ws k d below other = no_column g column ws k (slice_index_or ps k d) other ∙ ap (λ o. option_map_or (leaves_column g column) (use_in g ws k o) false) (sym (slice_get-get_or ps k d below))

-- a declaration uses no column
pub declared_none : (g : GraphValue) (ws : List (List ℕ)) → is_operation ws ≡ false → draft_accesses (draft g ws) ≡ []
declared_none g ws h = none_declared item_accesses [] (draft g ws) (declared g ws h) (λ d. refl)

-- nor does a merge
merge_uses : (g : GraphValue) (name : List ℕ) (ignores : Bool) (es : List (List ℕ)) → draft_accesses (merge_draft g name (merge_verb ignores) es) ≡ []
merge_uses g name ignores [] = refl
merge_uses g name true (e ∷ es) = refl
merge_uses g name false (e ∷ es) = refl

pub merged_none : (g : GraphValue) (name : List ℕ) (ws : List (List ℕ)) → is_merge ws ≡ true → draft_accesses (line_draft g name ws) ≡ []
merged_none g name ws merge = elim (form_cases g name ws) [
  | inl m ↦ ap draft_accesses m.1 ∙ merge_uses g name m.0 (drop 1 ws)
  | inr later ↦ elim later [
    | inl k ↦ absurd (true≢false (sym merge ∙ k.1))
    | inr k ↦ absurd (true≢false (sym merge ∙ k.3.merge))
  ]
]
