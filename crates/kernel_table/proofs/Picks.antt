-- Picks from a space of one interval: its cells stand side by side.
use Rattle.std.proofs.Common.{◌≡◌, ℕ, ◌+◌, ◌-◌, ◌%◌, ◌<◌, ◌≤◌, List, [], ◌∷◌, length, get_or, map, sym, ap, ◌∙◌, append-nil, mod-lt, arith}
use Rattle.std.proofs.lemmas.List.FromFn.{length-map-range_with_len, length-range_with_len, get_or-map-range_with_len, get_or-range_with_len}
use Rattle.index_spaces.specs.Space.{interval_points, point_at, space_size, IsSpace}
use Rattle.index_spaces.specs.Column.{ColumnValue, cell_of}

pub picked : (y : ColumnValue) (s : List (ℕ × ℕ)) (values : List ℕ) (n : ℕ) → 1 ≤ length s → length s < 2 → IsSpace s → values ≡ map (cell_of y) (interval_points (get_or s 0 (0, 0))) →
    get_or values (n % length values) 0 ≡ cell_of y (point_at s (n % space_size s))
picked y [] values n a b h e = absurd (omega arith)
picked y (i ∷ j ∷ s) values n a b h e = absurd (omega arith)
picked y (i ∷ []) values n a b h e =
    let count = i.1 + 1 - i.0 in
    let f = cell_of y in
    let lent : length values ≡ count = ap length e ∙ length-map-range_with_len f i.0 count in
    let all : space_size (i ∷ []) ≡ count = ap length (append-nil (interval_points i)) ∙ length-range_with_len i.0 count in
    let up : i.0 ≤ i.1 = h.1.1 in
    let r = n % count in
    let low : r < count = mod-lt n (omega (arith, up)) in
    ap (λ m. get_or values (n % m) 0) lent
    ∙ ap (λ vs. get_or vs r 0) e
    ∙ get_or-map-range_with_len f i.0 count r (i.0 + r) 0 low (omega arith)
    ∙ ap f (sym (ap (λ ps. get_or ps r 0) (append-nil (interval_points i)) ∙ get_or-range_with_len i.0 count r 0 low))
    ∙ ap (λ m. f (point_at (i ∷ []) (n % m))) (sym all)
