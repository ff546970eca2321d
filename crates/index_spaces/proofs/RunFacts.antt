-- Where the points of an interval stand among those of a space that has them, and what a write of their cells leaves.
use Rattle.std.proofs.lemmas.List.Folds.{list_any-append}
use Rattle.std.proofs.Common.{false, [], Bool, ◌∷◌, ◌≡◌, ℕ, ◌+◌, ◌-◌, ◌<◌, ◌≤◌, true, nat_le, List, ◌++◌, length, get_or, map, take, drop, sym, ap, ◌∙◌, refl, inl, inr, arith, IsTrue, ◌==◌, get_or-set_same, get_or-set_other, ◌≢◌, zero, suc, ◌||◌}
use Rattle.std.specs.Vec.{with_items}
use Rattle.std.specs.declared.vec.Vec.{Vec}
use Rattle.std.proofs.lemmas.Bool.{cases_lt, le-leb, leb-false, and_from, and_cases, false≢true, cases_eq, eq-eqb, ne_eqb, cond-true, cond-false, cases_Bool, or_cases, or_left, or_right, or_parts, false_from_ne_true}
use Rattle.std.proofs.lemmas.List.{get_or_default, get_or_append_left, get_or-append_right, get_or-take, get_or-drop, length-take-le, length-drop, length-append, same_lists, with_items_is, take_more}
use Rattle.std.proofs.lemmas.List.FromFn.{length-map-range_with_len, get_or-map-range_with_len}
use Rattle.index_spaces.specs.Space.{interval_has, has_point, interval_points, space_size, rank, IsSpace, point_at}
use Rattle.index_spaces.specs.Column.{ColumnValue, cell_of}
use Rattle.index_spaces.specs.declared.column.ColumnParts.{ColumnParts}
use Rattle.index_spaces.specs.Run.{interval_size, IsRun, IsRunAt, WritesRun, written_over}
use Rattle.index_spaces.specs.Laws.{RunsOfSpaces, RunsAreWritten, IntervalsAscend, CellsAreWritten, EarlierPoints, SpacesAreWritten, CutHasLength, WrittenRunsKeepLength}
use Rattle.index_spaces.proofs.PointFacts.{rank-at, runs_up, ends_below, has_point-at, has_point-between, interval_has-parts}
use Rattle.index_spaces.proofs.MergeFacts.{rank_rises, rank_bound}
use Rattle.index_spaces.proofs.LawFacts.{interval_place, point_of_rank}

has_from : (i : ℕ × ℕ) (p : ℕ) → i.0 ≤ p → p ≤ i.1 → interval_has i p ≡ true
has_from i p l h = and_from (nat_le i.0 p) (nat_le p i.1) (le-leb i.0 p l) (le-leb p i.1 h)

-- an interval lies within the interval of this number
record LiesIn (s : List (ℕ × ℕ)) (i : ℕ × ℕ) (k : ℕ) : Type 0 where
  place : k < length s
  from : (get_or s k (0, 0)).0 ≤ i.0
  to : i.1 ≤ (get_or s k (0, 0)).1

run_place : (s : List (ℕ × ℕ)) (i : ℕ × ℕ) → IsSpace s → IsRun s i → (k : ℕ) × LiesIn s i k
run_place s i a run =
    let up = run.ascends in
    let first = run.within i.0 (has_from i i.0 (omega arith) up) in
    let place = interval_place s i.0 first in
    let k = place.0 in
    let e = (get_or s k (0, 0)).1 in
    let parts = interval_has-parts (get_or s k (0, 0)) i.0 place.2 in
    let ends : i.1 ≤ e = elim (cases_lt e i.1) [
      | inl l ↦ absurd (false≢true (
          sym (has_point-between 0 s (e + 1) (k + 1) a.1
          (λ j d h. elim (cases_lt j k) [
            | inl m ↦ (let gap = ends_below 0 s j k d a.1 m place.1 in let rise = runs_up 0 s k d a.1 place.1 in let same = ap (λ (x : ℕ × ℕ). x.1) (get_or_default s k d (0, 0) place.1) in omega (arith, gap, rise, same))
            | inr m ↦ (let same : j ≡ k = omega arith in rw same (let one = ap (λ (x : ℕ × ℕ). x.1) (get_or_default s k d (0, 0) place.1) in omega (arith, one)))
          ])
          (λ d h. let gap = ends_below 0 s k (k + 1) d a.1 (omega arith) h in let same = ap (λ (x : ℕ × ℕ). x.1) (get_or_default s k d (0, 0) place.1) in omega (arith, gap, same)))
          ∙ run.within (e + 1) (has_from i (e + 1) (omega (arith, parts)) (omega arith))
          ))
      | inr m ↦ m
    ] in
    (k, record { place = place.1; from = parts.0; to = ends })

-- the rank of a number of the interval, or of the one after it
rank_along : (s : List (ℕ × ℕ)) (i : ℕ × ℕ) (k p : ℕ) → IsSpace s → IsRun s i → LiesIn s i k → i.0 ≤ p → p ≤ i.1 + 1 → rank s p ≡ rank s i.0 + (p - i.0)
rank_along s i k p a run lies l h =
    let up = run.ascends in
    let here = rank-at 0 p s k (0, 0) a.1 lies.place (omega (arith, lies.from)) (omega (arith, lies.to)) in
    let first = rank-at 0 i.0 s k (0, 0) a.1 lies.place lies.from (omega (arith, lies.to)) in
    omega (arith, here, first, lies.from)

-- one more point lies below the number after a point
rank_next : (s : List (ℕ × ℕ)) (p : ℕ) → IsSpace s → has_point s p ≡ true → rank s (p + 1) ≡ rank s p + 1
rank_next s p a h =
    let place = interval_place s p h in
    let k = place.0 in
    let parts = interval_has-parts (get_or s k (0, 0)) p place.2 in
    let here = rank-at 0 p s k (0, 0) a.1 place.1 parts.0 (omega (arith, parts)) in
    let next = rank-at 0 (p + 1) s k (0, 0) a.1 place.1 (omega (arith, parts)) (omega (arith, parts)) in
    omega (arith, here, next, parts)

pub run_at : (s : List (ℕ × ℕ)) (i : ℕ × ℕ) (start : ℕ) → IsSpace s → IsRun s i → start ≡ rank s i.0 → IsRunAt s i start
run_at s i start a run e =
    let found = run_place s i a run in
    let k = found.0 in
    let lies = found.1 in
    let up = run.ascends in
    let past = rank_along s i k (i.1 + 1) a run lies (omega arith) (omega arith) in
    let bound = rank_bound s (i.1 + 1) in
    record {
      fits = omega (arith, past, bound, e);
      ranks = λ p h. let parts = interval_has-parts i p h in let along = rank_along s i k p a run lies parts.0 (omega (arith, parts)) in omega (arith, along, e);
      others = λ p h n. elim (and_cases (nat_le i.0 p) (nat_le p i.1) n) [
        | inl low ↦ (let l : p < i.0 = leb-false i.0 p low in let next = rank_next s p a h in let rise = rank_rises s (p + 1) i.0 (omega arith) in inl (omega (arith, next, rise, e)))
        | inr high ↦ (let l : i.1 < p = leb-false p i.1 high in let rise = rank_rises s (i.1 + 1) p (omega arith) in inr (omega (arith, past, rise, e)))
      ];
    }

-- the cells of a run, cut out
pub run_cells : (c : ColumnValue) (i : ℕ × ℕ) (start n : ℕ) → IsRunAt c.space i start → i.0 ≤ i.1 → length c.cells ≡ space_size c.space → n ≡ interval_size i →
    take n (drop start c.cells) ≡ map (cell_of c) (interval_points i)
run_cells c i start n at up full e =
    let fits = at.fits in
    let size : length (take n (drop start c.cells)) ≡ n = length-take-le n (drop start c.cells) (let l = length-drop start c.cells in omega (arith, l, fits, full, e)) in
    let other = length-map-range_with_len (cell_of c) i.0 (i.1 + 1 - i.0) in
    same_lists _ _ (omega (arith, size, other, e)) (λ k d h.
    let short : k < n = omega (arith, size) in
    let rank_is : rank c.space (i.0 + k) ≡ start + k = (let r = at.ranks (i.0 + k) (has_from i (i.0 + k) (omega arith) (omega (arith, e, short))) in omega (arith, r)) in
    get_or-take n (drop start c.cells) k d short
    ∙ get_or-drop start c.cells k d
    ∙ get_or_default c.cells (start + k) d 0 (omega (arith, fits, full, e, short))
    ∙ ap (λ r. get_or c.cells r 0) (sym rank_is)
    ∙ sym (get_or-map-range_with_len (cell_of c) i.0 (i.1 + 1 - i.0) k (i.0 + k) d (omega (arith, e, short)) (omega arith)))

over_inside : (cells ys : List ℕ) (start n j : ℕ) → start ≤ length cells → length ys ≡ n → j < n → get_or (written_over cells start n ys) (start + j) 0 ≡ get_or ys j 0
over_inside cells ys start n j fits e h =
    let front = length-take-le start cells fits in
    get_or-append_right (take start cells) (ys ++ drop n (drop start cells)) start (start + j) 0 front (omega arith)
    ∙ ap (λ r. get_or (ys ++ drop n (drop start cells)) r 0) (let r : start + j - start ≡ j = omega arith in r)
    ∙ get_or_append_left ys (drop n (drop start cells)) 0 j (omega arith)

over_before : (cells ys : List ℕ) (start n r : ℕ) → start ≤ length cells → r < start → get_or (written_over cells start n ys) r 0 ≡ get_or cells r 0
over_before cells ys start n r fits h =
    let front = length-take-le start cells fits in
    get_or_append_left (take start cells) (ys ++ drop n (drop start cells)) 0 r (omega (arith, front)) ∙ get_or-take start cells r 0 h

over_after : (cells ys : List ℕ) (start n r : ℕ) → start ≤ length cells → length ys ≡ n → start + n ≤ r → get_or (written_over cells start n ys) r 0 ≡ get_or cells r 0
over_after cells ys start n r fits e h =
    let front = length-take-le start cells fits in
    get_or-append_right (take start cells) (ys ++ drop n (drop start cells)) start r 0 front (omega arith)
    ∙ get_or-append_right ys (drop n (drop start cells)) n (r - start) 0 e (omega arith)
    ∙ get_or-drop n (drop start cells) (r - start - n) 0
    ∙ get_or-drop start cells (n + (r - start - n)) 0
    ∙ ap (λ k. get_or cells k 0) (let k : start + (n + (r - start - n)) ≡ r = omega arith in k)

pub runs_are_written : RunsAreWritten
runs_are_written s i start cells ys value at full size values =
    let fits = at.fits in
    record {
      space = refl;
      inside = λ p h.
          let parts = interval_has-parts i p h in
          let j : p - i.0 < interval_size i = omega (arith, parts) in
          ap (λ r. get_or (written_over cells start (interval_size i) ys) r 0) (at.ranks p h)
          ∙ over_inside cells ys start (interval_size i) (p - i.0) (omega (arith, fits, full)) size j
          ∙ values p h;
      outside = λ p h n. elim (at.others p h n) [
        | inl l ↦ over_before cells ys start (interval_size i) (rank s p) (omega (arith, fits, full)) l
        | inr m ↦ over_after cells ys start (interval_size i) (rank s p) (omega (arith, fits, full)) size m
      ];
    }

-- what a write of a part of the cells leaves, as the code has it
pub run_written : (c : ColumnValue) (i : ℕ × ℕ) (start n : ℕ) (ys : List ℕ) (value : ℕ → ℕ) → IsRunAt c.space i start → length c.cells ≡ space_size c.space → n ≡ interval_size i → length ys ≡ n →
    ((p : ℕ) → IsTrue (interval_has i p) → get_or ys (p - i.0) 0 ≡ value p) →
    WritesRun c (record { space = c.space; cells = written_over c.cells start n ys }) i value
run_written c i start n ys value at full e size values =
    rw e (runs_are_written c.space i start c.cells ys value at full (size ∙ e) values)

pub runs_of_spaces : RunsOfSpaces
runs_of_spaces s t k d a within h =
    let up = runs_up 0 s k d a.1 h in
    record {
      ascends = up.0;
      within = λ p has. let parts = interval_has-parts (get_or s k d) p has in within p (has_point-at s p k d h parts.0 parts.1);
    }

pub intervals_ascend : IntervalsAscend
intervals_ascend s j k d a l h = ends_below 0 s j k d a.1 l h

-- the length of a part of the cells
pub length_cut : CutHasLength
length_cut cells start n h = length-take-le n (drop start cells) (let l = length-drop start cells in omega (arith, l))

-- how many cells a run has, as the code counts them
abbrev pub run_count : ℕ × ℕ → ℕ → ℕ
run_count i start = start + (i.1 - i.0 + 1) - start

-- the part of the cells that a run has is as long as the interval, and as the run of another column
pub part_length : (s : List (ℕ × ℕ)) (i : ℕ × ℕ) (start : ℕ) (cells now : List ℕ) → IsRunAt s i start → length cells ≡ space_size s → now ≡ cells → i.0 ≤ i.1 → length (take (run_count i start) (drop start now)) ≡ run_count i start
part_length s i start cells now at full e up = let fits = at.fits in length_cut now start (run_count i start) (rw e (omega (arith, fits, full, up)))

pub same_lengths : (c : ColumnValue) (s : List (ℕ × ℕ)) (i : ℕ × ℕ) (start : ℕ) (cells now run : List ℕ) → IsRunAt s i start → length cells ≡ space_size s → now ≡ cells → i.0 ≤ i.1 →
    run ≡ map (cell_of c) (interval_points i) → length (take (run_count i start) (drop start now)) ≡ length run
same_lengths c s i start cells now run at full e up r =
    let one = part_length s i start cells now at full e up in
    let other = ap length r ∙ length-map-range_with_len (cell_of c) i.0 (i.1 + 1 - i.0) in
    omega (arith, one, other)

-- an element of a run of a column
pub run_element : (c : ColumnValue) (i : ℕ × ℕ) (run : List ℕ) (p : ℕ) → run ≡ map (cell_of c) (interval_points i) → IsTrue (interval_has i p) → get_or run (p - i.0) 0 ≡ cell_of c p
run_element c i run p r h =
    let parts = interval_has-parts i p h in
    ap (λ xs. get_or xs (p - i.0) 0) r ∙ get_or-map-range_with_len (cell_of c) i.0 (i.1 + 1 - i.0) (p - i.0) p 0 (omega (arith, parts)) (omega (arith, parts))

-- a part of a vector's cells that is written over changes no length
pub written_length : {Z : Type 0} → WrittenRunsKeepLength Z
written_length v s i start n ys at full size short =
    let fits = at.fits in
    let front = length-take-le start v.items (omega (arith, fits, full)) in
    let back = length-drop n (drop start v.items) in
    let rest = length-drop start v.items in
    let one = length-append (take start v.items) (ys ++ drop n (drop start v.items)) in
    let two = length-append ys (drop n (drop start v.items)) in
    omega (arith, front, back, rest, one, two, fits, full, size, short, v.ok.0)

-- what a write of a part of a vector of cells leaves
pub stored : {Z : Type 0} (v : Vec ℕ Z) (s : List (ℕ × ℕ)) (i : ℕ × ℕ) (start n : ℕ) (now ys : List ℕ) (value : ℕ → ℕ) → IsRunAt s i start → length v.items ≡ space_size s → now ≡ v.items → n ≡ interval_size i →
    length ys ≡ n → ((p : ℕ) → IsTrue (interval_has i p) → get_or ys (p - i.0) 0 ≡ value p) →
    WritesRun (record { space = s; cells = v.items }) (record { space = s; cells = (with_items v (written_over now start n ys)).items }) i value
stored v s i start n now ys value at full e size short values =
    let whole = written_length v s i start n ys at full size short in
    rw e (rw (with_items_is v (written_over v.items start n ys) whole) (run_written (record { space = s; cells = v.items }) i start n ys value at full size short values))

-- a write of as many cells as the part had
stored_part : {Z : Type 0} (v : Vec ℕ Z) (s : List (ℕ × ℕ)) (i : ℕ × ℕ) (start : ℕ) (now ys : List ℕ) (value : ℕ → ℕ) → IsRunAt s i start → length v.items ≡ space_size s → now ≡ v.items → i.0 ≤ i.1 →
    length ys ≡ length (take (run_count i start) (drop start now)) → ((p : ℕ) → IsTrue (interval_has i p) → get_or ys (p - i.0) 0 ≡ value p) →
    WritesRun (record { space = s; cells = v.items }) (record { space = s; cells = (with_items v (written_over now start (run_count i start) ys)).items }) i value
stored_part v s i start now ys value at full e up short values =
    stored v s i start (run_count i start) now ys value at full e (omega arith) (short ∙ part_length s i start v.items now at full e up) values

-- the same of the cells of what a column is made of, which was lent
pub stored_in : (parts lent : ColumnParts) → lent ≡ parts → (i : ℕ × ℕ) (start : ℕ) (now ys : List ℕ) (value : ℕ → ℕ) → IsRunAt parts.space i start → length parts.cells.items ≡ space_size parts.space → now ≡ parts.cells.items → i.0 ≤ i.1 →
    length ys ≡ length (take (run_count i start) (drop start now)) → ((p : ℕ) → IsTrue (interval_has i p) → get_or ys (p - i.0) 0 ≡ value p) →
    WritesRun (record { space = parts.space; cells = parts.cells.items }) (record { space = lent.space; cells = (with_items lent.cells (written_over now start (run_count i start) ys)).items }) i value
stored_in parts lent same i start now ys value at full e up short values = rw same (stored_part parts.cells parts.space i start now ys value at full e up short values)

pub cells_are_written : CellsAreWritten
cells_are_written c p q v a full has_p has_q =
    let one = point_of_rank c.space p a has_p in
    let other = point_of_rank c.space q a has_q in
    elim (cases_eq q p) [
      | inl e ↦ (
          let fits : rank c.space p < length c.cells = omega (arith, one.0, full) in
          rw e (get_or-set_same c.cells (rank c.space p) v 0 fits ∙ sym (cond-true (p == p) v (cell_of c p) (eq-eqb p p refl)))
          )
      | inr n ↦ (
          let apart : rank c.space q ≢ rank c.space p = λ e. n (sym other.1 ∙ ap (point_at c.space) e ∙ one.1) in
          get_or-set_other c.cells (rank c.space p) (rank c.space q) v 0 apart ∙ sym (cond-false (q == p) v (cell_of c q) (ne_eqb q p n))
          )
    ]

or_none : (b : Bool) → (b || false) ≡ b
or_none true = refl
or_none false = refl

-- the points of the intervals before one
has_point-take : (s : List (ℕ × ℕ)) (k : ℕ) (p : ℕ) → has_point (take k s) p ≡ true → has_point s p ≡ true
has_point-take s zero p h = absurd (false≢true h)
has_point-take [] (suc k) p h = h
has_point-take (i ∷ s) (suc k) p h =
    elim (or_cases (interval_has i p) (has_point (take k s) p) h) [
      | inl e ↦ or_left (interval_has i p) (has_point s p) e
      | inr e ↦ or_right (interval_has i p) (has_point s p) (has_point-take s k p e)
    ]

has_point-more : (s : List (ℕ × ℕ)) (k : ℕ) (d : ℕ × ℕ) (p : ℕ) → k < length s → has_point (take (k + 1) s) p ≡ (has_point (take k s) p || interval_has (get_or s k d) p)
has_point-more s k d p h =
    ap (λ t. has_point t p) (take_more s k d h)
    ∙ list_any-append (λ i. interval_has i p) (take k s) (get_or s k d ∷ [])
    ∙ ap (λ b. has_point (take k s) p || b) (or_none (interval_has (get_or s k d) p))

pub earlier_points : EarlierPoints
earlier_points s k d p a h has =
    false_from_ne_true (has_point (take k s) p) (λ e.
    let place = interval_place (take k s) p e in
    let j = place.0 in
    let size = length-take-le k s (omega arith) in
    let within : j < k = omega (arith, place.1, size) in
    let same = get_or-take k s j (0, 0) within ∙ get_or_default s j (0, 0) d (omega arith) in
    let one = interval_has-parts (get_or s j d) p (rw same at place.2) in
    let other = interval_has-parts (get_or s k d) p has in
    let gap = ends_below 0 s j k d a.1 within h in
    absurd (omega (arith, one, other, gap)))

pub spaces_are_written : SpacesAreWritten
spaces_are_written old now new s k d value next within h before run same =
    record {
      space = run.space ∙ before.space;
      inside = λ p has. elim (cases_Bool (interval_has (get_or s k d) p)) [
        | inl e ↦ run.inside p e ∙ same p e
        | inr e ↦ (
            let earlier : has_point (take k s) p ≡ true = elim (or_cases (has_point (take k s) p) (interval_has (get_or s k d) p) (sym (has_point-more s k d p h) ∙ has)) [ inl f ↦ f | inr f ↦ absurd (false≢true (sym e ∙ f)) ] in
            run.outside p (ap (λ t. has_point t p) before.space ∙ within p (has_point-take s k p earlier)) e ∙ before.inside p earlier
            )
      ];
      outside = λ p has n.
          let parts = or_parts (has_point (take k s) p) (interval_has (get_or s k d) p) (sym (has_point-more s k d p h) ∙ n) in
          run.outside p (ap (λ t. has_point t p) before.space ∙ has) parts.1 ∙ before.outside p has parts.0;
    }
