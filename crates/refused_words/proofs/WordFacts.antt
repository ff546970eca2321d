-- A line that a reason of a word refuses has a refused word.
use Rattle.std.proofs.Common.{◌≡◌, ℕ, ◌+◌, ◌-◌, ◌<◌, ◌≤◌, true, false, ◌&&◌, inl, List, length, map, drop, refl, sym, ◌∙◌, ap, subst, arith}
use Rattle.std.specs.Prelude.{Option, Some, None, option_map, slice_get, find}
use Rattle.std.specs.Option.{option_map_or}
use Rattle.std.specs.List.{list_any}
use Rattle.std.proofs.lemmas.Bool.{true≢false, eq-eqb}
use Rattle.std.proofs.lemmas.List.{length-map, length-drop}
use Rattle.graph_terms.specs.declared.why.Why.TheVariants as reasons
use Rattle.graph_terms.specs.declared.table.Kind.{Kind}
use Rattle.graph_terms.specs.declared.table.Place as table
use Rattle.graph_terms.specs.declared.table.Place.TheVariants as places
use Rattle.graph_terms.specs.declared.table.TheConstants.{KINDS}
use Rattle.graph_terms.specs.Access.{access, verb_accesses}
use Rattle.graph_terms.specs.Fits.{access_outside}
use Rattle.graph_terms.specs.Graph.{GraphValue}
use Rattle.graph_terms.specs.Table.{kind_places, kind_words}
use Rattle.graph_words.specs.Draft.{NewName, draft, as_place, form_of, is_of_form, column_number_of, space_number}
use Rattle.graph_reader.specs.Kinds.{HasPlaces, kind_verb}
use Rattle.graph_reader.specs.Reading.{is_operation}
use Rattle.graph_words.specs.Words.{pieces}
use Rattle.graph_reader.proofs.Public.{places_there, operation_long}
use Rattle.basics.proofs.TestedLists.{found_passes}
use Rattle.refused_words.specs.Places.{place_at}
use Rattle.refused_words.specs.Refused.{refuses_in, draft_accesses, leaves_column}
use Rattle.refused_words.specs.Uses.{use_in}
use Rattle.refused_words.specs.Laws.{HasRefusedWord}
use Rattle.refused_words.proofs.UseFacts.{any_use, some_use}
use Rattle.refused_words.proofs.PlaceFacts.{at, IsPlain, place_of_operation, verb_at, column_at, at_behind, below_behind}

-- an operation line
module _ (g : GraphValue) (ws : List (List ℕ)) (operation : is_operation ws ≡ true) where
  abbrev behind : List (List ℕ)
  behind = drop 2 ws

  pub first_place : place_at g.format ws 0 ≡ Some NewName
  first_place = place_of_operation g.format ws 0 (let l : 2 ≤ length ws = operation_long ws operation in omega arith) operation

  -- of a kind
  module _ (kind : Kind) (other : IsPlain behind) (found : find (λ k. is_of_form g.format behind (form_of k)) KINDS ≡ Some kind) (long : length (kind_words kind) ≤ length behind) where
    abbrev words : List (List ℕ)
    words = drop (length (kind_words kind)) behind

    pub word_at : (i : ℕ) → at words i ≡ at ws (i + length (kind_words kind) + 2)
    word_at i = at_behind behind (length (kind_words kind)) i (i + length (kind_words kind)) (omega arith) ∙ at_behind ws 2 (i + length (kind_words kind)) (i + length (kind_words kind) + 2) (omega arith)

    pub word_below : (i : ℕ) → i < length words → i + length (kind_words kind) + 2 < length ws
    word_below i l = below_behind ws 2 (i + length (kind_words kind)) (i + length (kind_words kind) + 2) (omega arith) (below_behind behind (length (kind_words kind)) i (i + length (kind_words kind)) (omega arith) l)

    pub word_place : (i : ℕ) → i < length words → i < length (kind_places kind) → place_at g.format ws (i + length (kind_words kind) + 2) ≡ option_map as_place (slice_get (kind_places kind) i)
    word_place i l m =
        place_of_operation g.format ws (i + length (kind_words kind) + 2) (word_below i l) operation
        ∙ (verb_at g.format ws (i + length (kind_words kind) + 2) (i + length (kind_words kind)) refl ∙ column_at g.format kind behind other found long (i + length (kind_words kind)) i refl m)

-- where the line uses the columns of a kind, the first of these that is outside
module _ (g : GraphValue) (ws : List (List ℕ)) (operation : is_operation ws ≡ true) (kind : Kind) (other : IsPlain (drop 2 ws)) (found : find (λ k. is_of_form g.format (drop 2 ws) (form_of k)) KINDS ≡ Some kind)
    (drafted : draft_accesses (draft g ws) ≡ verb_accesses (kind_verb g kind (drop (length (kind_words kind)) (drop 2 ws)))) where
  abbrev named : List (List ℕ)
  named = drop (length (kind_words kind)) (drop 2 ws)

  there : HasPlaces kind named
  there = subst (λ n. HasPlaces kind (drop n (drop 2 ws))) refl (places_there g.format kind (drop 2 ws) (found_passes (λ k. is_of_form g.format (drop 2 ws) (form_of k)) KINDS kind found))

  enough : (i : ℕ) → i < length (kind_places kind) → i < length named
  enough i l =
      let places : length (map as_place (kind_places kind)) ≤ length named = there in
      let same : length (map as_place (kind_places kind)) ≡ length (kind_places kind) = length-map (kind_places kind) as_place in
      omega arith

  fixed : (i : ℕ) → i < length (kind_places kind) → length (kind_words kind) ≤ length (drop 2 ws)
  fixed i l = let m : i < length named = enough i l in let s : length named ≡ length (drop 2 ws) - length (kind_words kind) = length-drop (length (kind_words kind)) (drop 2 ws) in omega arith

  leaves : (i : ℕ) (o : Option table.Place) → slice_get (kind_places kind) i ≡ o → option_map_or (access_outside g) (use_in g named i o) false ≡ true → (n : ℕ) → at named i ≡ at ws n →
      option_map_or (λ p. refuses_in g ws reasons.Outside p n) (option_map as_place o) false ≡ true
  leaves i None e h n same = absurd (true≢false (sym h))
  leaves i (Some (places.Column mode over)) e h n same =
      let c : ℕ = column_number_of g (pieces 46 (at named i)) in
      ap (λ v. list_any (leaves_column g (column_number_of g (pieces 46 v))) (draft_accesses (draft g ws))) (sym same)
      ∙ (ap (list_any (leaves_column g c)) drafted
      ∙ any_use (leaves_column g c) g kind named there i (ap (λ o. option_map_or (leaves_column g c) (use_in g named i o) false) e ∙ (ap (λ b. b && access_outside g (access c (space_number g (at named over)) mode)) (eq-eqb c c refl) ∙ h)))
  leaves i (Some p) e h n same = absurd (true≢false (sym h))

  pub outside_by_kind : list_any (access_outside g) (draft_accesses (draft g ws)) ≡ true → HasRefusedWord g reasons.Outside ws
  outside_by_kind h =
      let r = some_use (access_outside g) g kind named there (sym (ap (list_any (access_outside g)) drafted) ∙ h) in
      let l : r.0 < length named = enough r.0 r.1 in
      let long = fixed r.0 r.1 in
      let n : ℕ = r.0 + length (kind_words kind) + 2 in (
        n,
        word_below g ws operation kind other found long r.0 l,
        inl (ap (λ o. option_map_or (λ p. refuses_in g ws reasons.Outside p n) o false) (word_place g ws operation kind other found long r.0 l r.1)
            ∙ leaves r.0 (slice_get (kind_places kind) r.0) refl r.2 n (word_at g ws operation kind other found long r.0)),
      )
