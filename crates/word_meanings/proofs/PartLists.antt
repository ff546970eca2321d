-- Words that stand twice, and the numbers among the words of a line, place by place.
use Rattle.std.proofs.Common.{◌≡◌, ℕ, zero, suc, ◌+◌, ◌<◌, ◌≤◌, Bool, false, ◌||◌, List, [], ◌∷◌, length, drop, map, refl, sym, inl, inr, ◌∙◌, ap, arith}
use Rattle.std.specs.Prelude.{bytes_eq, slice_index, slice_index_or, slice_set}
use Rattle.std.specs.List.{list_any}
use Rattle.std.proofs.lemmas.List.{get_or-set_same, get_or-set_other}
use Rattle.std.proofs.lemmas.Bool.{cases_eq}
use Rattle.graph_terms.specs.declared.table.Place as table
use Rattle.graph_terms.specs.declared.table.Place.TheVariants as places
use Rattle.graph_terms.specs.Table.{part_in, parts_from}
use Rattle.graph_terms.specs.declared.table.Parts.{Parts}
use Rattle.graph_terms.specs.Graph.{GraphValue}
use Rattle.graph_terms.specs.Fits.{repeats}
use Rattle.graph_words.specs.Draft.{as_place, number_in_place, number_in, words_in}
use Rattle.word_meanings.specs.Telling.{named_number, placed_value}

-- words that stand twice, from one place on
abbrev pub stands_later : List (List ℕ) → ℕ → Bool
stands_later ws i = list_any (bytes_eq (slice_index_or ws i [])) (drop (i + 1) ws)

pub repeats_next : (ws : List (List ℕ)) (i : ℕ) → i < length ws → repeats bytes_eq (drop i ws) ≡ (stands_later ws i || repeats bytes_eq (drop (i + 1) ws))
repeats_next [] i h = absurd (omega arith)
repeats_next (w ∷ ws) zero h = refl
repeats_next (w ∷ ws) (suc i) h = repeats_next ws i (omega arith)
    ∙ ap (λ m. list_any (bytes_eq (slice_index_or ws i [])) (drop m (w ∷ ws)) || repeats bytes_eq (drop m (w ∷ ws))) (let e : suc (i + 1) ≡ suc i + 1 = omega arith in e)

pub repeats_over : (ws : List (List ℕ)) (i : ℕ) → length ws ≤ i → repeats bytes_eq (drop i ws) ≡ false
repeats_over [] zero h = refl
repeats_over [] (suc i) h = refl
repeats_over (w ∷ ws) zero h = absurd (omega arith)
repeats_over (w ∷ ws) (suc i) h = repeats_over ws i (omega arith)

-- one more number
pub set_next : (f : ℕ → ℕ) (xs : List ℕ) (i x : ℕ) → i < length xs → ((j : ℕ) → j < i → slice_index xs j ≡ f j) → x ≡ f i → (j : ℕ) → j < i + 1 → slice_index (slice_set xs i x) j ≡ f j
set_next f xs i x l h e j b = elim (cases_eq j i) [
  | inl s ↦ ap (λ k. slice_index (slice_set xs i x) k) s ∙ (get_or-set_same xs i x 0 l ∙ (e ∙ ap f (sym s)))
  | inr n ↦ get_or-set_other xs i j x 0 n ∙ h j (omega (arith, n))
]

-- what stands in places, as the code keeps it
placed_part : (g : GraphValue) (p : table.Place) (w : List ℕ) (n : ℕ) (parts : Parts) → slice_index parts.numbers n ≡ named_number g (as_place p) w → slice_index parts.values n ≡ placed_value (as_place p) w → part_in p n parts ≡ number_in_place g (as_place p) w
placed_part g places.Value w n parts h k = k
placed_part g p w n parts h k = h

parts_at : (g : GraphValue) (parts : Parts) (ps : List table.Place) (ws : List (List ℕ)) (n : ℕ) → length ps ≤ length ws →
    ((j : ℕ) → j < length ps → slice_index parts.numbers (n + j) ≡ named_number g (as_place (slice_index_or ps j places.User)) (slice_index_or ws j [])) →
    ((j : ℕ) → j < length ps → slice_index parts.values (n + j) ≡ placed_value (as_place (slice_index_or ps j places.User)) (slice_index_or ws j [])) →
    parts_from n ps parts ≡ map (number_in g) (words_in ps ws)
parts_at g parts [] ws n l h k = refl
parts_at g parts (p ∷ ps) [] n l h k = absurd (omega arith)
parts_at g parts (p ∷ ps) (w ∷ ws) n l h k =
    let zeroth : n ≡ n + 0 = omega arith in
    ap (λ x. x ∷ parts_from (n + 1) ps parts) (placed_part g p w n parts (ap (slice_index parts.numbers) zeroth ∙ h 0 (omega arith)) (ap (slice_index parts.values) zeroth ∙ k 0 (omega arith)))
    ∙ ap (λ xs. number_in_place g (as_place p) w ∷ xs) (parts_at g parts ps ws (n + 1) (omega arith)
    (λ j b. ap (slice_index parts.numbers) (let e : (n + 1) + j ≡ n + suc j = omega arith in e) ∙ h (suc j) (omega arith))
    (λ j b. ap (slice_index parts.values) (let e : (n + 1) + j ≡ n + suc j = omega arith in e) ∙ k (suc j) (omega arith)))

pub parts_are : (g : GraphValue) (parts : Parts) (ps : List table.Place) (ws : List (List ℕ)) → length ps ≤ length ws →
    ((j : ℕ) → j < length ps → slice_index parts.numbers j ≡ named_number g (as_place (slice_index_or ps j places.User)) (slice_index_or ws j [])) →
    ((j : ℕ) → j < length ps → slice_index parts.values j ≡ placed_value (as_place (slice_index_or ps j places.User)) (slice_index_or ws j [])) →
    parts_from 0 ps parts ≡ map (number_in g) (words_in ps ws)
parts_are g parts ps ws l h k = parts_at g parts ps ws 0 l (λ j b. ap (slice_index parts.numbers) (let e : 0 + j ≡ j = omega arith in e) ∙ h j b) (λ j b. ap (slice_index parts.values) (let e : 0 + j ≡ j = omega arith in e) ∙ k j b)
