-- Intervals that stand by their first points, put together.
use Rattle.std.proofs.Common.{◌≡◌, ℕ, ◌+◌, ◌<◌, ◌≤◌, Bool, true, false, ◌||◌, List, [], ◌∷◌, ◌++◌, length, get_or, take, refl, sym, ◌∙◌, ap, arith}
use Rattle.std.specs.Prelude.{Contains, Some, slice_get}
use Rattle.std.specs.List.{list_any}
use Rattle.std.specs.List.Sorted.{IsNonDecreasingBy}
use Rattle.std.proofs.lemmas.List.{take_all, take_more}
use Rattle.std.proofs.lemmas.List.Elements.{Contains-get_or}
use Rattle.index_spaces.specs.Space.{interval_has, has_point}
use Rattle.space_unions.specs.Ascending.{AscendTo, Absorbs}
use Rattle.space_unions.proofs.Merged.{has_push}

-- what is done and what is last has the points of the first intervals
pub record IsMergedTo (s out : List (ℕ × ℕ)) (last : ℕ × ℕ) (k : ℕ) : Type 0 where
  pub points : (p : ℕ) → (has_point (take k s) p || interval_has (get_or s 0 (0, 0)) p) ≡ (has_point out p || interval_has last p)
  pub ascending : AscendTo 0 out last.0
  pub low : last.0 ≤ last.1
  pub later : (j : ℕ) → k ≤ j → j < length s → last.0 ≤ (get_or s j (0, 0)).0

pub none_merged : (s : List (ℕ × ℕ)) → 0 < length s → ((i : ℕ × ℕ) → Contains s i → i.0 ≤ i.1) → IsNonDecreasingBy (λ (i : ℕ × ℕ). i.0) s → IsMergedTo s [] (get_or s 0 (0, 0)) 0
none_merged s some up sorted = record {
  points = λ p. refl;
  ascending = omega arith;
  low = up (get_or s 0 (0, 0)) (Contains-get_or s 0 (0, 0) some);
  later = λ j low below. sorted 0 j (0, 0) low below;
}

or_next : (a b c d n w : Bool) → (a || b) ≡ (c || d) → w ≡ ((c || d) || n) → ((a || n) || b) ≡ w
or_next true b c d n w e f = ap (λ x. x || n) e ∙ sym f
or_next false true c d n w e f = by n (ap (λ x. x || n) e ∙ sym f)
  where
    by : (n : Bool) → true ≡ w → (n || true) ≡ w
    by true g = g
    by false g = g
or_next false false c d n w e f = by n (ap (λ x. x || n) e ∙ sym f)
  where
    by : (n : Bool) → n ≡ w → (n || false) ≡ w
    by true g = g
    by false g = g

pub one_merged : (s out new : List (ℕ × ℕ)) (last now : ℕ × ℕ) (k : ℕ) → IsNonDecreasingBy (λ (i : ℕ × ℕ). i.0) s → k < length s → IsMergedTo s out last k → Absorbs out last (get_or s k (0, 0)) new now → IsMergedTo s new now (k + 1)
one_merged s out new last now k sorted below m step = record {
  points = λ p. ap (λ (xs : List (ℕ × ℕ)). has_point xs p || interval_has (get_or s 0 (0, 0)) p) (take_more s k (0, 0) below)
      ∙ (ap (λ b. b || interval_has (get_or s 0 (0, 0)) p) (has_push (take k s) (get_or s k (0, 0)) p)
      ∙ or_next (has_point (take k s) p) (interval_has (get_or s 0 (0, 0)) p) (has_point out p) (interval_has last p) (interval_has (get_or s k (0, 0)) p) (has_point new p || interval_has now p) (m.points p) (step.points p));
  ascending = step.ascending;
  low = step.low;
  later = λ j low under. (let up = sorted k j (0, 0) (omega (arith, low)) under in omega (arith, up, step.begins));
}

-- all are merged
pub all_merged : (s out : List (ℕ × ℕ)) (last : ℕ × ℕ) (k : ℕ) → 0 < length s → IsMergedTo s out last k → length s ≤ k → (p : ℕ) → has_point (out ++ last ∷ []) p ≡ has_point s p
all_merged s out last k some m past p =
    has_push out last p ∙ (sym (m.points p) ∙ (ap (λ (xs : List (ℕ × ℕ)). has_point xs p || interval_has (get_or s 0 (0, 0)) p) (take_all k s past) ∙ with_first s some))
  where
    absorbed : (a b : Bool) → ((a || b) || a) ≡ (a || b)
    absorbed true b = refl
    absorbed false true = refl
    absorbed false false = refl

    with_first : (s : List (ℕ × ℕ)) → 0 < length s → (has_point s p || interval_has (get_or s 0 (0, 0)) p) ≡ has_point s p
    with_first [] some = absurd (omega arith)
    with_first (i ∷ rest) some = absorbed (interval_has i p) (has_point rest p)
