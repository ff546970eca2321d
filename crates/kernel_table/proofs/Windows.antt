-- Sums over a point and its two neighbors.
use Rattle.std.proofs.Common.{◌≡◌, ℕ, zero, suc, ◌+◌, ◌-◌, ◌%◌, ◌^◌, ◌<◌, ◌≤◌, nat_le, true, cond, List, [], ◌∷◌, length, map, get_or, set, refl, sym, ap, ◌∙◌, inl, inr, arith, get_or-set_same, get_or-set_other, length-set}
use Rattle.std.specs.Prelude.{filter, sum_by}
use Rattle.std.proofs.Math.Nat.{mod-add-mod}
use Rattle.std.proofs.lemmas.Bool.{cases_Bool, cases_eq, or_cases, and_from, le-leb, false≢true, cond-true, cond-false, false_from_ne_true}
use Rattle.std.proofs.lemmas.List.Sums.{sum_by-cons}
use Rattle.index_spaces.specs.Space.{interval_has, interval_points, has_point, AscendAbove, IsSpace}
use Rattle.index_spaces.specs.Column.{ColumnValue, cell_of}
use Rattle.index_spaces.specs.Run.{IsRun}
use Rattle.graph_meaning.specs.Effect.{around, wrapped, wrapped_sum}
use Rattle.kernel_table.proofs.Runs.{place_in, run_element}

-- what a point adds, and the one before it
abbrev pub part : List (ℕ × ℕ) → (ℕ → ℕ) → ℕ → ℕ
part read f q = cond (has_point read q) (f q) 0

abbrev pub part_before : List (ℕ × ℕ) → (ℕ → ℕ) → ℕ → ℕ
part_before read f zero = 0
part_before read f (suc q) = part read f q

filtered_sum : (read : List (ℕ × ℕ)) (f : ℕ → ℕ) (q : ℕ) (ps : List ℕ) → sum_by f (filter (has_point read) (q ∷ ps)) ≡ part read f q + sum_by f (filter (has_point read) ps)
filtered_sum read f q ps =
    elim (cases_Bool (has_point read q)) [
      | inl e ↦ (
          ap (sum_by f) (cond-true (has_point read q) (q ∷ filter (has_point read) ps) (filter (has_point read) ps) e)
          ∙ sum_by-cons f q (filter (has_point read) ps)
          ∙ ap (λ n. n + sum_by f (filter (has_point read) ps)) (sym (cond-true (has_point read q) (f q) 0 e))
          )
      | inr e ↦ (
          let none = cond-false (has_point read q) (f q) 0 e in
          ap (sum_by f) (cond-false (has_point read q) (q ∷ filter (has_point read) ps) (filter (has_point read) ps) e) ∙ omega (arith, none)
          )
    ]

-- the sum of a window
pub window_sum : (read : List (ℕ × ℕ)) (f : ℕ → ℕ) (p : ℕ) → wrapped ((part_before read f p + part read f p) % 2 ^ 64 + part read f (p + 1)) ≡ wrapped_sum f (filter (has_point read) (around p))
window_sum read f zero =
    let one = filtered_sum read f 0 (1 ∷ []) in
    let two = filtered_sum read f 1 [] in
    mod-add-mod (0 + part read f 0) (2 ^ 64) (part read f 1) ∙ ap wrapped (let e : 0 + part read f 0 + part read f 1 ≡ sum_by f (filter (has_point read) (around 0)) = omega (arith, one, two) in e)
window_sum read f (suc p) =
    let one = filtered_sum read f p (suc p ∷ (suc p + 1) ∷ []) in
    let two = filtered_sum read f (suc p) ((suc p + 1) ∷ []) in
    let three = filtered_sum read f (suc p + 1) [] in
    mod-add-mod (part read f p + part read f (suc p)) (2 ^ 64) (part read f (suc p + 1))
    ∙ ap wrapped (let e : part read f p + part read f (suc p) + part read f (suc p + 1) ≡ sum_by f (filter (has_point read) (around (suc p))) = omega (arith, one, two, three) in e)

pub before_positive : (read : List (ℕ × ℕ)) (f : ℕ → ℕ) (p : ℕ) → 0 < p → part read f (p - 1) ≡ part_before read f p
before_positive read f zero h = absurd (omega arith)
before_positive read f (suc p) h = ap (part read f) (let e : suc p - 1 ≡ p = omega arith in e)

pub before_next : (read : List (ℕ × ℕ)) (f : ℕ → ℕ) (p : ℕ) → part read f p ≡ part_before read f (p + 1)
before_next read f p = let e : p + 1 ≡ suc p = omega arith in rw e refl

-- the sum of a window whose points all lie in the space that is read
pub inner_window : (read : List (ℕ × ℕ)) (f : ℕ → ℕ) (p : ℕ) → 0 < p → has_point read (p - 1) ≡ true → has_point read p ≡ true → has_point read (p + 1) ≡ true →
    wrapped (f (p - 1) + f p + f (p + 1)) ≡ wrapped_sum f (filter (has_point read) (around p))
inner_window read f p h before here after =
    let left : f (p - 1) ≡ part_before read f p = sym (cond-true (has_point read (p - 1)) (f (p - 1)) 0 before) ∙ before_positive read f p h in
    let middle : f p ≡ part read f p = sym (cond-true (has_point read p) (f p) 0 here) in
    let right : f (p + 1) ≡ part read f (p + 1) = sym (cond-true (has_point read (p + 1)) (f (p + 1)) 0 after) in
    sym (mod-add-mod (f (p - 1) + f p) (2 ^ 64) (f (p + 1)))
    ∙ ap (λ v. wrapped ((v + f p) % 2 ^ 64 + f (p + 1))) left
    ∙ ap (λ v. wrapped ((part_before read f p + v) % 2 ^ 64 + f (p + 1))) middle
    ∙ ap (λ v. wrapped ((part_before read f p + part read f p) % 2 ^ 64 + v)) right
    ∙ window_sum read f p

-- the sums of a run: those between its ends from side by side values, and those at the ends
pub run_sums : (read : List (ℕ × ℕ)) (x : ColumnValue) (first n : ℕ) (values ys : List ℕ) (low high : ℕ) → 2 < n → length ys ≡ n → IsRun read (first, first + (n - 1)) →
    values ≡ map (cell_of x) (interval_points (first, first + (n - 1))) →
    ((k : ℕ) → 0 < k → k + 1 < n → get_or ys k 0 ≡ wrapped (get_or values (k - 1) 0 + get_or values k 0 + get_or values (k + 1) 0)) →
    low ≡ wrapped_sum (cell_of x) (filter (has_point read) (around first)) → high ≡ wrapped_sum (cell_of x) (filter (has_point read) (around (first + (n - 1)))) →
    (k : ℕ) → k < n → get_or (set (set ys 0 low) (n - 1) high) k 0 ≡ wrapped_sum (cell_of x) (filter (has_point read) (around (first + k)))
run_sums read x first n values ys low high some size run values_are inner low_is high_is k h =
    let i : ℕ × ℕ = (first, first + (n - 1)) in
    let f = cell_of x in
    let lent : length (set ys 0 low) ≡ n = length-set ys 0 low ∙ size in
    elim (cases_eq k (n - 1)) [
      | inl e ↦ rw e (get_or-set_same (set ys 0 low) (n - 1) high 0 (omega (arith, lent)) ∙ high_is)
      | inr e ↦ get_or-set_other (set ys 0 low) (n - 1) k high 0 e ∙ elim (cases_eq k 0) [
        | inl z ↦ rw z (get_or-set_same ys 0 low 0 (omega (arith, size)) ∙ low_is ∙ ap (λ q. wrapped_sum f (filter (has_point read) (around q))) (let e : first ≡ first + 0 = omega arith in e))
        | inr z ↦ (
            let before : first + k - 1 ≡ first + (k - 1) = omega (arith, z) in
            let place : first + k + 1 ≡ first + (k + 1) = omega arith in
            let in_left : interval_has i (first + k - 1) ≡ true = and_from (nat_le first (first + k - 1)) (nat_le (first + k - 1) (first + (n - 1))) (le-leb first (first + k - 1) (omega (arith, z))) (le-leb (first + k - 1) (first + (n - 1)) (omega (arith, e))) in
            let in_here : interval_has i (first + k) ≡ true = and_from (nat_le first (first + k)) (nat_le (first + k) (first + (n - 1))) (le-leb first (first + k) (omega arith)) (le-leb (first + k) (first + (n - 1)) (omega (arith, h))) in
            let in_right : interval_has i (first + k + 1) ≡ true = and_from (nat_le first (first + k + 1)) (nat_le (first + k + 1) (first + (n - 1))) (le-leb first (first + k + 1) (omega arith)) (le-leb (first + k + 1) (first + (n - 1)) (omega (arith, e, h))) in
            let one : first + k - 1 - first ≡ k - 1 = omega (arith, z) in
            let two : first + k - first ≡ k = omega arith in
            let three : first + k + 1 - first ≡ k + 1 = omega arith in
            let left = ap (λ j. get_or values j 0) (sym one) ∙ run_element x i values (first + k - 1) values_are in_left in
            let here = ap (λ j. get_or values j 0) (sym two) ∙ run_element x i values (first + k) values_are in_here in
            let right = ap (λ j. get_or values j 0) (sym three) ∙ run_element x i values (first + k + 1) values_are in_right in
            get_or-set_other ys 0 k low 0 z ∙ inner k (omega (arith, z)) (omega (arith, e, h))
            ∙ ap (λ v. wrapped (v + get_or values k 0 + get_or values (k + 1) 0)) left
            ∙ ap (λ v. wrapped (f (first + k - 1) + v + get_or values (k + 1) 0)) here
            ∙ ap (λ v. wrapped (f (first + k - 1) + f (first + k) + v)) right
            ∙ inner_window read f (first + k) (omega (arith, z)) (run.within (first + k - 1) in_left) (run.within (first + k) in_here) (run.within (first + k + 1) in_right)
            )
      ]
    ]

-- a point is a number of 32 bits
point_fits_above : (low : ℕ) (s : List (ℕ × ℕ)) (p : ℕ) → AscendAbove low s → has_point s p ≡ true → p < 2 ^ 32
point_fits_above low [] p a h = absurd (false≢true h)
point_fits_above low (i ∷ s) p a h =
    elim (or_cases (interval_has i p) (has_point s p) h) [
      | inl e ↦ (let parts = place_in i p e in let end : i.1 < 2 ^ 32 = a.2 in omega (arith, parts))
      | inr e ↦ point_fits_above (i.1 + 2) s p a.3 e
    ]

pub no_point_above : (s : List (ℕ × ℕ)) (f : ℕ → ℕ) (p : ℕ) → IsSpace s → 2 ^ 32 ≤ p → 0 ≡ part s f p
no_point_above s f p a h =
    sym (cond-false (has_point s p) (f p) 0 (false_from_ne_true (has_point s p) (λ e. let fits = point_fits_above 0 s p a.1 e in omega arith)))
