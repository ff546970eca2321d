-- Writes of a column's cells, interval by interval.
use Rattle.std.proofs.Common.{◌≡◌, ℕ, zero, suc, [], ◌∷◌, ◌+◌, ◌-◌, ◌^◌, ◌<◌, ◌≤◌, nat_le, true, List, length, get_or, map, take, drop, IsTrue, refl, sym, ap, ◌∙◌, arith}
use Rattle.std.specs.Vec.{with_items}
use Rattle.std.specs.declared.vec.Vec.{Vec}
use Rattle.std.proofs.lemmas.Bool.{and_parts, and_from, leb-true, le-leb}
use Rattle.std.proofs.lemmas.List.FromFn.{length-map-range_with_len, get_or-map-range_with_len}
use Rattle.std.proofs.lemmas.List.{get_or-take, get_or-drop, with_items_is}
use Rattle.index_spaces.specs.Space.{interval_has, interval_points, has_point, rank, space_size, AscendAbove, IsSpace, IsWithin}
use Rattle.index_spaces.specs.Column.{ColumnValue, cell_of}
use Rattle.index_spaces.specs.Run.{interval_size, IsRunAt, WritesPoints, written_over}
use Rattle.std.proofs.Math.Nat.{mod-add-mod}
use Rattle.graph_meaning.specs.Effect.{wrapped}
use Rattle.index_spaces.specs.Laws.{RunsOfSpaces, RunsAreWritten, SpacesAreWritten}
use Rattle.index_spaces.proofs.RunFacts.{run_count, part_length}
use Rattle.index_spaces.proofs.Public.{written_length}

-- the cells of a vector, and of how many of them a run is
abbrev pub over_run : (over : List (ℕ × ℕ)) (cells : List ℕ) → ColumnValue
over_run over cells = record { space = over; cells = cells }

-- the first intervals are written, and all cells are there
pub record WritesSoFar (old : ColumnValue) (over : List (ℕ × ℕ)) (cells : List ℕ) (s : List (ℕ × ℕ)) (value : ℕ → ℕ) : Type 0 where
  pub written : WritesPoints old (record { space = over; cells = cells }) s value
  pub full : length cells ≡ space_size over

-- a write of the cells of one interval more
pub run_step : {Z : Type 0} → RunsAreWritten → SpacesAreWritten → (v : Vec ℕ Z) (old : ColumnValue) (over s : List (ℕ × ℕ)) (k start n : ℕ) (now ys : List ℕ) (value : ℕ → ℕ) →
    WritesSoFar old over v.items (take k s) value → IsWithin s old.space → k < length s → IsRunAt over (get_or s k (0, 0)) start → now ≡ v.items → n ≡ interval_size (get_or s k (0, 0)) → length ys ≡ n →
    ((p : ℕ) → IsTrue (interval_has (get_or s k (0, 0)) p) → get_or ys (p - (get_or s k (0, 0)).0) 0 ≡ value p) →
    WritesSoFar old over (with_items v (written_over now start n ys)).items (take (k + 1) s) value
run_step runs spaces v old over s k start n now ys value so_far within h at e size short values =
    let i = get_or s k (0, 0) in
    let full = so_far.full in
    let whole = written_length v over i start n ys at full size short in
    let run = runs over i start v.items ys value at full (short ∙ size) values in
    rw e (rw (with_items_is v (written_over v.items start n ys) whole) (rw size (record {
      written = spaces old (record { space = over; cells = v.items }) (record { space = over; cells = written_over v.items start (interval_size i) ys }) s k (0, 0) value value within h so_far.written run (λ p m. refl);
      full = (let w : length (written_over v.items start n ys) ≡ space_size over = omega (arith, whole, v.ok.0, full) in rw size at w);
    })))

-- the end of an interval is a number of 32 bits
ends_fit_above : (low : ℕ) (s : List (ℕ × ℕ)) (k : ℕ) → AscendAbove low s → k < length s → (get_or s k (0, 0)).1 < 2 ^ 32
ends_fit_above low [] k a h = absurd (omega arith)
ends_fit_above low (i ∷ s) zero a h = a.2
ends_fit_above low (i ∷ s) (suc k) a h = ends_fit_above (i.1 + 2) s k a.3 (omega arith)

pub ends_fit : (s : List (ℕ × ℕ)) (k : ℕ) → IsSpace s → k < length s → (get_or s k (0, 0)).1 < 2 ^ 32
ends_fit s k a h = ends_fit_above 0 s k a.1 h

-- the part of the cells that the run of number k has, which begins at start
pub record RunPart (s : List (ℕ × ℕ)) (k start : ℕ) (now : List ℕ) : Type 0 where
  pub up : (get_or s k (0, 0)).0 ≤ (get_or s k (0, 0)).1
  pub size : run_count (get_or s k (0, 0)) start ≡ interval_size (get_or s k (0, 0))
  pub cut : length (take (run_count (get_or s k (0, 0)) start) (drop start now)) ≡ run_count (get_or s k (0, 0)) start
  pub end : (get_or s k (0, 0)).1 < 2 ^ 32

pub run_part : RunsOfSpaces → (there over s : List (ℕ × ℕ)) (k start : ℕ) (cells now : List ℕ) → IsSpace s → IsWithin s there → k < length s → IsRunAt over (get_or s k (0, 0)) start → length cells ≡ space_size over → now ≡ cells →
    RunPart s k start now
run_part runs there over s k start cells now a within h at full e =
    let i = get_or s k (0, 0) in
    let up : i.0 ≤ i.1 = (runs s there k (0, 0) a within h).ascends in
    record { up = up; size = omega arith; cut = part_length over i start cells now at full e up; end = ends_fit s k a h }

-- a write of values is one of other values that are the same at its points
pub written_as : (old new : ColumnValue) (s : List (ℕ × ℕ)) (value other : ℕ → ℕ) → WritesPoints old new s value → ((p : ℕ) → has_point s p ≡ true → value p ≡ other p) → WritesPoints old new s other
written_as old new s value other w same = record { space = w.space; inside = λ p h. w.inside p h ∙ same p h; outside = w.outside }

-- where a point of an interval stands in it
pub place_in : (i : ℕ × ℕ) (p : ℕ) → interval_has i p ≡ true → (i.0 ≤ p) × (p ≤ i.1)
place_in i p h = let both = and_parts (nat_le i.0 p) (nat_le p i.1) h in (leb-true i.0 p both.0, leb-true p i.1 both.1)

-- a sum that wraps twice
pub wrapped_twice : (a b : ℕ) → wrapped (wrapped a + b) ≡ wrapped (a + b)
wrapped_twice a b = mod-add-mod a (2 ^ 64) b

-- the runs of a column
pub run_length : (c : ColumnValue) (i : ℕ × ℕ) (run : List ℕ) → run ≡ map (cell_of c) (interval_points i) → length run ≡ interval_size i
run_length c i run r = ap length r ∙ length-map-range_with_len (cell_of c) i.0 (i.1 + 1 - i.0)

pub run_cell : (c : ColumnValue) (i : ℕ × ℕ) (run : List ℕ) (j : ℕ) → run ≡ map (cell_of c) (interval_points i) → j < length run → get_or run j 0 ≡ cell_of c (i.0 + j)
run_cell c i run j r h =
    let size = run_length c i run r in
    ap (λ xs. get_or xs j 0) r ∙ get_or-map-range_with_len (cell_of c) i.0 (i.1 + 1 - i.0) j (i.0 + j) 0 (omega (arith, size, h)) refl

-- a point of an interval by its place there
pub has_place : (i : ℕ × ℕ) (j : ℕ) → j < interval_size i → interval_has i (i.0 + j) ≡ true
has_place i j h = and_from (nat_le i.0 (i.0 + j)) (nat_le (i.0 + j) i.1) (le-leb i.0 (i.0 + j) (omega arith)) (le-leb (i.0 + j) i.1 (omega arith))

pub run_element : (c : ColumnValue) (i : ℕ × ℕ) (run : List ℕ) (p : ℕ) → run ≡ map (cell_of c) (interval_points i) → interval_has i p ≡ true → get_or run (p - i.0) 0 ≡ cell_of c p
run_element c i run p r h =
    let parts = place_in i p h in
    ap (λ xs. get_or xs (p - i.0) 0) r ∙ get_or-map-range_with_len (cell_of c) i.0 (i.1 + 1 - i.0) (p - i.0) p 0 (omega (arith, parts)) (omega (arith, parts))

-- an element of a part of the cells is the cell of a point
pub part_element : (over : List (ℕ × ℕ)) (cells now : List ℕ) (start n : ℕ) (i : ℕ × ℕ) (p : ℕ) → IsRunAt over i start → now ≡ cells → n ≡ interval_size i → interval_has i p ≡ true →
    get_or (take n (drop start now)) (p - i.0) 0 ≡ cell_of (record { space = over; cells = cells }) p
part_element over cells now start n i p at e size h =
    let parts = place_in i p h in
    get_or-take n (drop start now) (p - i.0) 0 (omega (arith, parts, size))
    ∙ get_or-drop start now (p - i.0) 0
    ∙ ap (λ xs. get_or xs (start + (p - i.0)) 0) e
    ∙ ap (λ r. get_or cells r 0) (sym (at.ranks p h))
