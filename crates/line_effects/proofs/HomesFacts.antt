-- Columns at home, and the list of them.
use Rattle.std.proofs.Common.{◌≡◌, ℕ, suc, ◌+◌, ◌≤◌, List, [], ◌∷◌, ◌++◌, length, map, replicate, Option, Some, None, All, IsSome, refl, sym, ap, ◌∙◌, arith}
use Rattle.std.specs.List.{filter_map}
use Rattle.std.proofs.lemmas.List.FromFn.{map-range_with_len_more}
use Rattle.std.proofs.lemmas.Bool.{false≢true}
use Rattle.std.proofs.lemmas.List.Elements.{filter_map-append}
use Rattle.index_spaces.specs.Space.{points, space_size}
use Rattle.basics.specs.Lists.{numbers_below}
use Rattle.index_spaces.specs.Column.{ColumnValue}
use Rattle.graph_terms.specs.Graph.{GraphValue, column_space}
use Rattle.graph_meaning.specs.Effect.{zero_cells}
use Rattle.graph_meaning.specs.Evaluation.{column_of}

zeros : (ps : List ℕ) → replicate {A = ℕ} (length ps) 0 ≡ map (λ p. 0) ps
zeros [] = refl
zeros (p ∷ ps) = ap (λ xs. 0 ∷ xs) (zeros ps)

-- a zeroed column of a graph
pub zeroed_column : (g : GraphValue) (c : ℕ) (x : ColumnValue) (s : List (ℕ × ℕ)) → s ≡ column_space g c → x.space ≡ s → x.cells ≡ replicate (space_size s) 0 → x ≡ column_of g zero_cells c
zeroed_column g c x s e f h =
    let over : x.space ≡ column_space g c = f ∙ e in
    let cells : x.cells ≡ map (zero_cells c) (points (column_space g c)) = h ∙ zeros (points s) ∙ ap (λ t. map (λ p. 0) (points t)) e in
    λ i. record { space = over i; cells = cells i }

-- one more column at home
pub home_more : (g : GraphValue) (places now : List (Option ColumnValue)) (x : ColumnValue) (n : ℕ) → places ≡ map (λ c. Some (column_of g zero_cells c)) (numbers_below n) → now ≡ places ++ Some x ∷ [] → x ≡ column_of g zero_cells n →
    now ≡ map (λ c. Some (column_of g zero_cells c)) (numbers_below (n + 1))
home_more g places now x n e f h =
    f ∙ ap (λ ps. ps ++ Some x ∷ []) e
    ∙ ap (λ y. map (λ c. Some (column_of g zero_cells c)) (numbers_below n) ++ Some y ∷ []) h
    ∙ sym (map-range_with_len_more (λ c. Some (column_of g zero_cells c)) 0 n n (omega arith))

-- what stands at home
pub length-home : (ps : List (Option ColumnValue)) → length (filter_map (λ x. x) ps) ≤ length ps
length-home [] = omega arith
length-home (None ∷ ps) = let rest = length-home ps in omega arith
length-home (Some x ∷ ps) = let rest = length-home ps in omega arith

pub all_stand : (ps : List (Option ColumnValue)) → All (λ place. IsSome place) ps → ps ≡ map (λ x. Some x) (filter_map (λ x. x) ps)
all_stand [] a = refl
all_stand (None ∷ ps) a = absurd (false≢true (a 0 None (omega arith)))
all_stand (Some x ∷ ps) a = ap (λ qs. Some x ∷ qs) (all_stand ps (λ k d h. a (suc k) d (omega arith)))

pub home_push : (ps : List (Option ColumnValue)) (x : Option ColumnValue) (column : ColumnValue) → x ≡ Some column → filter_map (λ y. y) (ps ++ x ∷ []) ≡ filter_map (λ y. y) ps ++ column ∷ []
home_push ps x column e = ap (λ y. filter_map (λ z. z) (ps ++ y ∷ [])) e ∙ filter_map-append (λ y. y) ps (Some column ∷ [])
