-- A column that stands in a line twice.
use Rattle.std.specs.Prelude.{ℕ, ◌==◌, Bool, cond, ◌&&◌, List, [], ◌∷◌, codes, Option, Some, None, bytes_eq}
use Rattle.std.specs.Option.{option_map_or}
use Rattle.std.specs.List.{list_any, concat, slice_index_or}

abbrev pub has_dot : List ℕ → Bool
has_dot w = list_any (λ b. b == 46) w

-- a word with a dot in it stands among others
abbrev pub stands_again : List ℕ → List (List ℕ) → Bool
stands_again w ws = has_dot w && list_any (bytes_eq w) ws

-- the first one that stands behind it again
abbrev pub repeated_column : List (List ℕ) → Option (List ℕ)
repeated_column [] = None
repeated_column (w ∷ ws) = cond (stands_again w ws) (Some w) (repeated_column ws)

-- words of a line with a kernel
abbrev pub is_task : List (List ℕ) → Bool
is_task ws = bytes_eq (slice_index_or ws 2 []) (codes "task")

-- the letters of its columns X, Y and Z, in their order, of the two that are the same
abbrev pub same_columns : List (List ℕ) → List ℕ
same_columns ws = cond (bytes_eq (slice_index_or ws 4 []) (slice_index_or ws 5 [])) (codes "X and Y") (cond (bytes_eq (slice_index_or ws 4 []) (slice_index_or ws 6 [])) (codes "X and Z") (codes "Y and Z"))

-- what is told of a column that stands in a line twice, by whether the line has a kernel
abbrev pub column_text : List (List ℕ) → List ℕ → List ℕ
column_text ws w =
    cond (is_task ws) (concat (codes "kernels do not work in place: " ∷ same_columns ws ∷ codes " must differ, and both are " ∷ w ∷ codes "\n" ∷ []))
    (concat (codes "no line works in place: " ∷ w ∷ codes " stands in it twice, and the columns of a line must differ\n" ∷ []))

abbrev pub column_twice_text : List (List ℕ) → List ℕ
column_twice_text ws = option_map_or (column_text ws) (repeated_column ws) []

-- words of a call, which may name a column several times
abbrev pub is_call : List (List ℕ) → Bool
is_call ws = bytes_eq (slice_index_or ws 2 []) (codes "call")

-- what is told of a column that stands in a line twice
abbrev pub repeated_text : List (List ℕ) → List ℕ
repeated_text ws = cond (is_call ws) [] (column_twice_text ws)
