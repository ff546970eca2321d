-- The loops of the need over the lists of the code.
use Rattle.std.proofs.Common.{◌≡◌, ℕ, zero, suc, ◌+◌, ◌<◌, ◌≤◌, max, inl, inr, List, length, refl, sym, ◌∙◌, ap, subst, arith}
use Rattle.std.specs.Prelude.{slice_index, slice_set, Option, Some, None, MatchOption}
use Rattle.std.proofs.lemmas.Bool.{cases_lt}
use Rattle.std.proofs.lemmas.List.{get_or-set_same, get_or-set_other}
use Rattle.graph_terms.specs.Graph.{GraphValue}
use Rattle.graph_meaning.specs.Need.{IsHigh, IsNeed, open_at}
use Rattle.graph_terms.specs.Fits.{IsGraph}
use Rattle.graph_meaning.specs.Laws.{EdgesBetweenLines, OneNeed}
use Rattle.slot_need.specs.NeedLine.{IsNeedLine}
use Rattle.slot_need.specs.Sweep.{AreAbove, IsTally, IsTallyOf, IsTallyFor, IsFirstOpen, most_open, open_after, IsSwept}
use Rattle.slot_need.proofs.NeedLaws.{tally_more, open_at_most, most_at_most, closes_open, sweep_is_need, open_after_is}
use Rattle.slot_need.proofs.HighFlood.{high_at_most, zero_or}

-- the tally of the high numbers of a graph, as the sweep takes it
tally_above : (g : GraphValue) (tally : List ℕ) → (t : IsTallyOf g tally) → AreAbove t.highs
tally_above g tally t i h = let each : length t.highs ≡ length g.lines = t.each_line in (t.high i (omega arith)).above i (inl refl)

tally_all : (g : GraphValue) (tally : List ℕ) → (t : IsTallyOf g tally) → IsTally tally t.highs (length t.highs) (length t.highs)
tally_all g tally t = subst (λ n. IsTally tally t.highs n n) (sym t.each_line) t.tallied

pub closes : (tally : List ℕ) (lines count k : ℕ) → IsTallyFor lines tally → count ≡ open_after tally k → k < lines → slice_index tally (k + 1) ≤ count + 1
closes tally lines count k t is below =
    let each : length t.2.highs ≡ length t.0.lines = t.2.each_line in
    let all : length t.0.lines ≡ lines = t.1 in
    let few : slice_index tally (k + 1) ≤ open_after tally k + 1 = closes_open t.2.highs tally (tally_above t.0 tally t.2) (tally_all t.0 tally t.2) k (omega arith) in
    omega arith

pub open_at_most_of : (tally : List ℕ) (count k : ℕ) → count ≡ open_after tally k → count ≤ k
open_at_most_of tally count k is = let few : open_after tally k ≤ k = open_at_most tally k in omega arith

pub swept_at_most : (tally : List ℕ) (count most k : ℕ) → IsSwept tally count most k → most ≤ k
swept_at_most tally count most k s = let is : most ≡ most_open tally k = s.most_is in let few : most_open tally k ≤ k = most_at_most tally k in omega arith

-- one more high number in the tally
pub tally_step : (tally highs : List ℕ) (n i cell : ℕ) → IsTally tally highs n i → i < length highs → slice_index highs i < length tally → cell ≡ slice_index tally (slice_index highs i) → IsTally (slice_set tally (slice_index highs i) (cell + 1)) highs n (i + 1)
tally_step tally highs n i cell t below room read = tally_more tally (slice_set tally (slice_index highs i) (cell + 1)) highs n i t below
    (get_or-set_same tally (slice_index highs i) (cell + 1) 0 room ∙ ap (λ z. z + 1) read)
    (λ v apart. get_or-set_other tally (slice_index highs i) v (cell + 1) 0 apart)

-- the high numbers of a graph fit the tally
pub highs_small : EdgesBetweenLines → (g : GraphValue) → IsGraph g → (highs : List ℕ) → length highs ≡ length g.lines → ((i : ℕ) → i < length g.lines → IsHigh g i (slice_index highs i)) →
    (i : ℕ) → i < length highs → slice_index highs i ≤ length highs + 1
highs_small between g fits highs size high i h =
    let few : slice_index highs i ≤ length g.lines + 1 = high_at_most g (λ e c. between g e fits c) i (slice_index highs i) (omega arith) (high i (omega arith)) in omega arith

pub tally_is_of : (g : GraphValue) (highs tally : List ℕ) → length highs ≡ length g.lines → ((i : ℕ) → i < length g.lines → IsHigh g i (slice_index highs i)) →
    IsTally tally highs (length highs + 1) (length highs) → IsTallyOf g tally
tally_is_of g highs tally size high t = record { highs = highs; each_line = size; high = high; tallied = subst (λ n. IsTally tally highs n n) size (λ v h. t v (omega arith)) }

-- the sweep over the tally gives the need
pub tally_is_need : (g : GraphValue) (tally : List ℕ) → IsTallyOf g tally → IsNeed g (1 + most_open tally (length g.lines))
tally_is_need g tally t = sweep_is_need g t.highs tally t.each_line t.high (tally_all g tally t)

-- one of the lines has the most that are open
most_is_open : (tally : List ℕ) (n : ℕ) → 0 < n → (k : ℕ) × (k < n) × (most_open tally n ≡ open_after tally k)
most_is_open tally zero h = absurd (omega arith)
most_is_open tally (suc zero) h = (0, (let r : 0 < suc zero = omega arith in r), refl)
most_is_open tally (suc (suc n)) h = elim (cases_lt (open_after tally (suc n)) (most_open tally (suc n))) [
  | inl less ↦ (
      let before = most_is_open tally (suc n) (omega arith) in
      (before.0, (let b : before.0 < suc n = before.1 in let r : before.0 < suc (suc n) = omega arith in r), (let m : max (most_open tally (suc n)) (open_after tally (suc n)) ≡ most_open tally (suc n) = omega arith in m) ∙ before.2))
  | inr more ↦ (suc n, (let r : suc n < suc (suc n) = omega arith in r), (let m : max (most_open tally (suc n)) (open_after tally (suc n)) ≡ open_after tally (suc n) = omega arith in m))
]

-- the first line at which so many are open is that of the need, and without lines there is none
pub first_is_need_line : (g : GraphValue) (tally : List ℕ) (need k : ℕ) → IsTallyOf g tally → IsFirstOpen tally (length g.lines) need k → IsNeedLine g need k
first_is_need_line g tally need k t f =
    let each : length t.highs ≡ length g.lines = t.each_line in
    record {
      highs = t.highs;
      each_line = t.each_line;
      high = t.high;
      known = f.known;
      reached = f.reached ∙ ap (λ x. 1 + x) (same each k f.known);
      topmost = λ j below is. f.topmost j below (is ∙ ap (λ x. 1 + x) (sym (same each j (let b : k < length g.lines = f.known in omega arith))));
    }
  where
    same : length t.highs ≡ length g.lines → (j : ℕ) → j < length g.lines → open_after tally j ≡ open_at t.highs j
    same each j below = open_after_is t.highs tally (tally_above g tally t) (tally_all g tally t) j (omega arith)

pub none_is_empty : OneNeed → (g : GraphValue) (tally : List ℕ) (need lines : ℕ) → IsTallyOf g tally → IsNeed g need → lines ≡ length g.lines →
    ((j : ℕ) → j < lines → need ≡ 1 + open_after tally j → ⊥) → length g.lines ≡ 0
none_is_empty one g tally need lines t is all none = elim (zero_or (length g.lines)) [
  | inr e ↦ e
  | inl some ↦ (
      let m = most_is_open tally (length g.lines) some in
      let same : need ≡ 1 + most_open tally (length g.lines) = one g need (1 + most_open tally (length g.lines)) is (tally_is_need g tally t) in
      absurd (none m.0 (let b : m.0 < length g.lines = m.1 in omega arith) (same ∙ ap (λ x. 1 + x) m.2)))
]

-- what the search for the line gives
pub need_line_found : OneNeed → (g : GraphValue) (tally : List ℕ) (need lines : ℕ) (found : Option ℕ) → IsTallyOf g tally → IsNeed g need → lines ≡ length g.lines →
    MatchOption found ((j : ℕ) → j < lines → need ≡ 1 + open_after tally j → ⊥) (IsFirstOpen tally lines need) → MatchOption found (length g.lines ≡ 0) (IsNeedLine g need)
need_line_found one g tally need lines None t is all none = none_is_empty one g tally need lines t is all none
need_line_found one g tally need lines (Some k) t is all f = first_is_need_line g tally need k t (subst (λ n. IsFirstOpen tally n need k) all f)
