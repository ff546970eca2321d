-- The columns among the words of a line, place by place.
use Rattle.std.proofs.Common.{◌≡◌, ℕ, zero, suc, ◌+◌, ◌<◌, ◌≤◌, Bool, false, ◌&&◌, ◌||◌, List, [], ◌∷◌, length, drop, refl, ◌∙◌, ap, arith, Bor}
use Rattle.std.specs.Prelude.{bytes_eq, zip, slice_index_or}
use Rattle.std.specs.List.{list_any}
use Rattle.graph_terms.specs.declared.table.Place as table
use Rattle.graph_terms.specs.declared.table.Place.TheVariants as places
use Rattle.graph_terms.specs.Table.{is_column}
use Rattle.graph_terms.specs.Fits.{repeats}
use Rattle.graph_words.specs.Draft.{words_in}
use Rattle.graph_reader.specs.Kinds.{column_words}
use Rattle.graph_words.specs.Words.{words_of}

-- a word in the place of a column
pub column_listed : (v : List ℕ) (ps : List table.Place) (ws : List (Bor (List ℕ))) → list_any (λ (p : table.Place × Bor (List ℕ)). is_column p.0 && bytes_eq v p.1.now) (zip ps ws) ≡ list_any (bytes_eq v) (column_words (words_in ps (words_of ws)))
column_listed v [] ws = refl
column_listed v (p ∷ ps) [] = refl
column_listed v (places.Column mode over ∷ ps) (w ∷ ws) = ap (λ b. bytes_eq v w.now || b) (column_listed v ps ws)
column_listed v (p ∷ ps) (w ∷ ws) = column_listed v ps ws

-- columns that stand twice, from one place on
abbrev pub columns_twice : List table.Place → List (List ℕ) → Bool
columns_twice ps ws = repeats bytes_eq (column_words (words_in ps ws))

abbrev pub is_again : List table.Place → List (List ℕ) → ℕ → Bool
is_again ps ws i = is_column (slice_index_or ps i places.User) && list_any (bytes_eq (slice_index_or ws i [])) (column_words (words_in (drop (i + 1) ps) (drop (i + 1) ws)))

pub columns_next : (ps : List table.Place) (ws : List (List ℕ)) (i : ℕ) → i < length ps → i < length ws → columns_twice (drop i ps) (drop i ws) ≡ (is_again ps ws i || columns_twice (drop (i + 1) ps) (drop (i + 1) ws))
columns_next [] ws i h k = absurd (omega arith)
columns_next (p ∷ ps) [] i h k = absurd (omega arith)
columns_next (places.Column mode over ∷ ps) (w ∷ ws) zero h k = refl
columns_next (p ∷ ps) (w ∷ ws) zero h k = refl
columns_next (p ∷ ps) (w ∷ ws) (suc i) h k =
    let n : suc (i + 1) ≡ suc i + 1 = omega arith in
    columns_next ps ws i (omega arith) (omega arith)
    ∙ ap (λ m. (is_column (slice_index_or ps i places.User) && list_any (bytes_eq (slice_index_or ws i [])) (column_words (words_in (drop m (p ∷ ps)) (drop m (w ∷ ws))))) || columns_twice (drop m (p ∷ ps)) (drop m (w ∷ ws))) n

none_left : (ps : List table.Place) (i : ℕ) → length ps ≤ i → drop i ps ≡ []
none_left [] zero h = refl
none_left [] (suc i) h = refl
none_left (p ∷ ps) zero h = absurd (omega arith)
none_left (p ∷ ps) (suc i) h = none_left ps i (omega arith)

pub columns_over : (ps : List table.Place) (ws : List (List ℕ)) (i : ℕ) → length ps ≤ i → columns_twice (drop i ps) (drop i ws) ≡ false
columns_over ps ws i h = ap (λ qs. columns_twice qs (drop i ws)) (none_left ps i h)
