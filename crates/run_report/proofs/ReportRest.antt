-- What is left of a report's parts at a place, line by line.
use Rattle.std.proofs.Common.{◌≡◌, ℕ, zero, suc, ◌+◌, ◌-◌, ◌<◌, ◌≤◌, List, [], ◌∷◌, ◌++◌, length, take, drop, map, refl, sym, ◌∙◌, ap, append_assoc, append-nil, length-append, get_or, take_all, take-add, subst, arith}
use Rattle.std.specs.Prelude.{Option, Some, None, slice_get, slice_index, codes, decimal}
use Rattle.std.specs.List.{flat_map, join_with_byte}
use Rattle.std.proofs.lemmas.Option.{none-some, same_Some}
use Rattle.std.specs.Option.{option_map, option_map_or}
use Rattle.std.proofs.lemmas.List.{drop-drop, drop_more, length-drop}
use Rattle.std.proofs.lemmas.Grind.{flat_map-append}
use Rattle.std.proofs.lemmas.List.FromFn.{length-range_with_len}
use Rattle.index_spaces.specs.Space.{interval_points, points, space_size, AscendAbove, IsSpace}
use Rattle.index_spaces.specs.Column.{ColumnValue}
use Rattle.graph_terms.specs.declared.outcome.End.{End}
use Rattle.graph_terms.specs.declared.outcome.Answer.{Answer}
use Rattle.graph_terms.specs.declared.verb.Line.{Line}
use Rattle.graph_terms.specs.Graph.{GraphValue, is_phase}
use Rattle.graph_terms.specs.declared.decl.ColumnInfo.{ColumnInfo}
use Rattle.graph_terms.specs.Spelling.{column_name, interval_word}
use Rattle.run_report.specs.Report.{op_text, op_texts, phase_text, phase_texts, interval_front, interval_text, cells_text, cells_texts, column_texts}

-- the rest of a list at a place that has an element
pub rest_at : {X : Type 0} (xs : List X) (i : ℕ) (x : X) → slice_get xs i ≡ Some x → drop i xs ≡ x ∷ drop (i + 1) xs
rest_at [] i x h = absurd (none-some x h)
rest_at (y ∷ xs) zero x h = ap (λ z. z ∷ xs) (same_Some y x h)
rest_at (y ∷ xs) (suc i) x h = rest_at xs i x h ∙ ap (λ n. x ∷ drop n (y ∷ xs)) (let e : suc (i + 1) ≡ suc i + 1 = omega arith in e)

-- nothing is left behind the end
pub rest_over : {X : Type 0} (xs : List X) (i : ℕ) → length xs ≤ i → drop i xs ≡ []
rest_over [] zero h = refl
rest_over [] (suc i) h = refl
rest_over (x ∷ xs) zero h = absurd (omega arith)
rest_over (x ∷ xs) (suc i) h = rest_over xs i (omega arith)

pub ops_left : (ls : List Line) (es : List End) (as' : List Answer) (i : ℕ) (l : Line) (e : End) (a : Answer) →
    slice_get ls i ≡ Some l → slice_get es i ≡ Some e → slice_get as' i ≡ Some a →
    op_texts (drop i ls) (drop i es) (drop i as') ≡ op_text l e a ++ op_texts (drop (i + 1) ls) (drop (i + 1) es) (drop (i + 1) as')
ops_left ls es as' i l e a x y z =
    ap (λ u. op_texts u (drop i es) (drop i as')) (rest_at ls i l x)
    ∙ (ap (λ u. op_texts (l ∷ drop (i + 1) ls) u (drop i as')) (rest_at es i e y) ∙ ap (λ u. op_texts (l ∷ drop (i + 1) ls) (e ∷ drop (i + 1) es) u) (rest_at as' i a z))

pub ops_over : (ls : List Line) (es : List End) (as' : List Answer) (i : ℕ) → length ls ≤ i → op_texts (drop i ls) (drop i es) (drop i as') ≡ []
ops_over ls es as' i h = ap (λ u. op_texts u (drop i es) (drop i as')) (rest_over ls i h)

pub phases_left : (ls : List Line) (vs : List (Option ℕ)) (i : ℕ) (l : Line) (v : Option ℕ) → slice_get ls i ≡ Some l → slice_get vs i ≡ Some v →
    phase_texts (drop i ls) (drop i vs) ≡ phase_text l (is_phase l.verb) v ++ phase_texts (drop (i + 1) ls) (drop (i + 1) vs)
phases_left ls vs i l v x y = ap (λ u. phase_texts u (drop i vs)) (rest_at ls i l x) ∙ ap (λ u. phase_texts (l ∷ drop (i + 1) ls) u) (rest_at vs i v y)

pub phases_over : (ls : List Line) (vs : List (Option ℕ)) (i : ℕ) → length ls ≤ i → phase_texts (drop i ls) (drop i vs) ≡ []
phases_over ls vs i h = ap (λ u. phase_texts u (drop i vs)) (rest_over ls i h)

pub columns_left : (g : GraphValue) (xs : List ColumnValue) (c : ℕ) (x : ColumnValue) → slice_get xs c ≡ Some x →
    column_texts g c (drop c xs) ≡ cells_texts (column_name g c) x.space x.cells ++ column_texts g (c + 1) (drop (c + 1) xs)
columns_left g xs c x h = ap (column_texts g c) (rest_at xs c x h)

pub columns_over : (g : GraphValue) (xs : List ColumnValue) (c : ℕ) → length xs ≤ c → column_texts g c (drop c xs) ≡ []
columns_over g xs c h = ap (column_texts g c) (rest_over xs c h)

-- words after a first one
joined_more : (w : List ℕ) (ws : List (List ℕ)) → join_with_byte 32 (w ∷ ws) ≡ w ++ flat_map (λ v. 32 ∷ v) ws
joined_more w [] = sym (append-nil w)
joined_more w (v ∷ ws) = ap (λ x. w ++ 32 ∷ x) (joined_more v ws)

flat_map-map : (vs : List ℕ) → flat_map (λ v. 32 ∷ v) (map decimal vs) ≡ flat_map (λ v. 32 ∷ decimal v) vs
flat_map-map [] = refl
flat_map-map (v ∷ vs) = ap (λ x. (32 ∷ decimal v) ++ x) (flat_map-map vs)

-- that line, in its three parts
pub interval_parts : (name : List ℕ) (i : ℕ × ℕ) (cells : List ℕ) → interval_text name i cells ≡ interval_front name i ++ (flat_map (λ v. 32 ∷ decimal v) cells ++ 10 ∷ [])
interval_parts name i cells =
    let rest : List ℕ = flat_map (λ v. 32 ∷ decimal v) cells in
    let joined : join_with_byte 32 (interval_word i ∷ map decimal cells) ≡ interval_word i ++ rest = joined_more (interval_word i) (map decimal cells) ∙ ap (λ x. interval_word i ++ x) (flat_map-map cells) in
    ap (λ x. codes "cells " ++ ((name ++ 32 ∷ x) ++ 10 ∷ [])) joined
    ∙ ap (λ x. codes "cells " ++ x) (append_assoc name (32 ∷ (interval_word i ++ rest)) (10 ∷ [])
    ∙ (ap (λ x. name ++ 32 ∷ x) (append_assoc (interval_word i) rest (10 ∷ [])) ∙ sym (append_assoc name (32 ∷ interval_word i) (rest ++ 10 ∷ []))))

pub interval_length : (i : ℕ × ℕ) → length (interval_points i) ≡ i.1 + 1 - i.0
interval_length i = length-range_with_len i.0 (i.1 + 1 - i.0)

pub cells_left : (name : List ℕ) (is : List (ℕ × ℕ)) (cells : List ℕ) (k r : ℕ) (i : ℕ × ℕ) → slice_get is k ≡ Some i →
    cells_texts name (drop k is) (drop r cells) ≡ interval_text name i (take (i.1 + 1 - i.0) (drop r cells)) ++ cells_texts name (drop (k + 1) is) (drop (r + (i.1 + 1 - i.0)) cells)
cells_left name is cells k r i h =
    ap (λ u. cells_texts name u (drop r cells)) (rest_at is k i h)
    ∙ (ap (λ n. interval_text name i (take n (drop r cells)) ++ cells_texts name (drop (k + 1) is) (drop n (drop r cells))) (interval_length i)
    ∙ ap (λ u. interval_text name i (take (i.1 + 1 - i.0) (drop r cells)) ++ cells_texts name (drop (k + 1) is) u) (drop-drop (i.1 + 1 - i.0) r cells))

pub cells_over : (name : List ℕ) (is : List (ℕ × ℕ)) (cells : List ℕ) (k : ℕ) → length is ≤ k → cells_texts name (drop k is) cells ≡ []
cells_over name is cells k h = ap (λ u. cells_texts name u cells) (rest_over is k h)

-- the cells from a rank on
cells_next : (cells : List ℕ) (rank end cell : ℕ) → cell ≡ slice_index cells rank → rank < end → end ≤ length cells →
    flat_map (λ v. 32 ∷ decimal v) (take (end - rank) (drop rank cells)) ≡ (32 ∷ decimal cell) ++ flat_map (λ v. 32 ∷ decimal v) (take (end - (rank + 1)) (drop (rank + 1) cells))
cells_next cells rank end cell e h k =
    let n : end - rank ≡ suc (end - (rank + 1)) = omega arith in
    ap (λ u. flat_map (λ v. 32 ∷ decimal v) (take (end - rank) u)) (drop_more cells rank 0 (omega arith))
    ∙ (ap (λ m. flat_map (λ v. 32 ∷ decimal v) (take m (get_or cells rank 0 ∷ drop (rank + 1) cells))) n
    ∙ ap (λ v. (32 ∷ decimal v) ++ flat_map (λ w. 32 ∷ decimal w) (take (end - (rank + 1)) (drop (rank + 1) cells))) (sym e))

-- nothing stands behind the last cell
pub no_cells : (cells text : List ℕ) (end most : ℕ) → length text ≤ most → drop most text ≡ cells_text cells end end
no_cells cells text end most h =
    let n : 0 ≡ end - end = omega arith in
    rest_over text most h ∙ ap (λ m. flat_map (λ v. 32 ∷ decimal v) (take m (drop end cells))) n

-- the cells from the one before a rank on
pub cells_before : (cells : List ℕ) (rank end cell : ℕ) → cell ≡ slice_index cells (rank - 1) → 0 < rank → rank ≤ end → end ≤ length cells →
    cells_text cells (rank - 1) end ≡ (32 ∷ decimal cell) ++ cells_text cells rank end
cells_before cells rank end cell e some h k =
    let n : (rank - 1) + 1 ≡ rank = omega arith in
    cells_next cells (rank - 1) end cell e (omega arith) k ∙ ap (λ m. (32 ∷ decimal cell) ++ cells_text cells m end) n

-- the cells of two parts
cells_split : (cells : List ℕ) (rank next end : ℕ) → rank ≤ next → next ≤ end → cells_text cells rank end ≡ cells_text cells rank next ++ cells_text cells next end
cells_split cells rank next end h k =
    let n : end - rank ≡ (next - rank) + (end - next) = omega arith in
    let m : rank + (next - rank) ≡ next = omega arith in
    ap (λ j. flat_map (λ v. 32 ∷ decimal v) (take j (drop rank cells))) n
    ∙ (ap (flat_map (λ v. 32 ∷ decimal v)) (take-add (next - rank) (end - next) (drop rank cells))
    ∙ (flat_map-append (λ v. 32 ∷ decimal v) (take (next - rank) (drop rank cells)) (take (end - next) (drop (next - rank) (drop rank cells)))
    ∙ ap (λ ys. cells_text cells rank next ++ flat_map (λ v. 32 ∷ decimal v) (take (end - next) ys)) (drop-drop (next - rank) rank cells ∙ ap (λ j. drop j cells) m)))

-- the cells from a rank on, of which a piece has those up to another one
pub cells_piece : (cells text : List ℕ) (rank next end start size : ℕ) → rank ≤ next → next ≤ end → length text ≤ start + size → drop start text ≡ cells_text cells rank next →
    cells_text cells rank end ≡ take size (drop start text) ++ cells_text cells next end
cells_piece cells text rank next end start size h k long bytes =
    cells_split cells rank next end h k ∙ ap (λ ys. ys ++ cells_text cells next end) (sym (take_all size (drop start text) (omega (arith, length-drop start text)) ∙ bytes))

-- the name of a column, by the names of its instance and its field
pub column_named : (o : Option ColumnInfo) (inst field : List ℕ) → option_map (λ (x : ColumnInfo). x.inst) o ≡ Some inst → option_map (λ (x : ColumnInfo). x.field) o ≡ Some field →
    option_map_or (λ (x : ColumnInfo). x.inst ++ 46 ∷ x.field) o [] ≡ inst ++ 46 ∷ field
column_named None inst field h k = absurd (none-some inst h)
column_named (Some x) inst field h k = ap (λ n. n ++ 46 ∷ x.field) (same_Some x.inst inst h) ∙ ap (λ n. inst ++ 46 ∷ n) (same_Some x.field field k)

-- the intervals from a place on
pub size_left : (is : List (ℕ × ℕ)) (k : ℕ) (i : ℕ × ℕ) → slice_get is k ≡ Some i → space_size (drop k is) ≡ (i.1 + 1 - i.0) + space_size (drop (k + 1) is)
size_left is k i h =
    ap space_size (rest_at is k i h) ∙ (length-append (interval_points i) (points (drop (k + 1) is)) ∙ ap (λ n. n + space_size (drop (k + 1) is)) (interval_length i))

pub ordered_at : (low : ℕ) (is : List (ℕ × ℕ)) (k : ℕ) (i : ℕ × ℕ) → AscendAbove low is → slice_get is k ≡ Some i → i.0 ≤ i.1
ordered_at low [] k i a h = absurd (none-some i h)
ordered_at low (j ∷ is) zero i a h = subst (λ (x : ℕ × ℕ). x.0 ≤ x.1) (same_Some j i h) a.1
ordered_at low (j ∷ is) (suc k) i a h = ordered_at (j.1 + 2) is k i a.3 h

-- what holds of the interval at a place, and of the ranks of its points
pub record IsIntervalHere (is : List (ℕ × ℕ)) (k first total : ℕ) : Type 0 where
  pub get : slice_get is k ≡ Some (get_or is k (0, 0))
  pub ordered : (get_or is k (0, 0)).0 ≤ (get_or is k (0, 0)).1
  pub next : (first + ((get_or is k (0, 0)).1 + 1 - (get_or is k (0, 0)).0)) + space_size (drop (k + 1) is) ≡ total

got : (is : List (ℕ × ℕ)) (k : ℕ) → k < length is → slice_get is k ≡ Some (get_or is k (0, 0))
got [] k h = absurd (omega arith)
got (i ∷ is) zero h = refl
got (i ∷ is) (suc k) h = got is k (omega arith)

pub interval_here : (is : List (ℕ × ℕ)) (k first total : ℕ) → IsSpace is → k < length is → first + space_size (drop k is) ≡ total → IsIntervalHere is k first total
interval_here is k first total s h e =
    let g = got is k h in
    let n : space_size (drop k is) ≡ ((get_or is k (0, 0)).1 + 1 - (get_or is k (0, 0)).0) + space_size (drop (k + 1) is) = size_left is k (get_or is k (0, 0)) g in
    record { get = g; ordered = ordered_at 0 is k (get_or is k (0, 0)) s.1 g; next = omega arith }
