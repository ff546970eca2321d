-- Counting the readers of columns, and the greatest of some numbers. `counted_more` is the step of `count_line`.
use Rattle.std.proofs.Common.{◌≡◌, ℕ, zero, suc, ◌+◌, ◌<◌, ◌≤◌, ◌⊎◌, inl, inr, Bool, true, false, cond, List, [], ◌∷◌, ◌++◌, length, get_or, set, refl, sym, ap, ◌∙◌, arith, add-one}
use Rattle.std.specs.Prelude.{Contains, ◌≢◌}
use Rattle.std.proofs.lemmas.Bool.{cases_eq}
use Rattle.std.proofs.lemmas.Bool.Decides.{nat_tests}
use Rattle.std.proofs.lemmas.List.{length-set, get_or-set_same, get_or-set_other}
use Rattle.std.proofs.lemmas.List.Sums.{get_or-le-sum_by, sum_by_push}
use Rattle.basics.specs.Sums.{below}
use Rattle.graph_terms.specs.declared.verb.Access.{Access}
use Rattle.graph_terms.specs.Access.{accesses, is_read}
use Rattle.graph_terms.specs.Graph.{GraphValue, columns}
use Rattle.share_words.specs.Counting.{AreCounted, with_reader, counted}
use Rattle.share_words.specs.Shares.{is_reader, readers_in, readers_below, shares_for, share_count, most_below, plane_count, AreShares}
use Rattle.share_words.specs.Laws.{ColumnsHaveFewShares, PlanesAreFew, SharesLieInPlanes, ReadColumnsHaveShares}

pub most_within : (f : ℕ → ℕ) (n k : ℕ) → k < n → f k ≤ most_below f n
most_within f zero k h = absurd (omega arith)
most_within f (suc n) k h = elim (cases_eq k n) [
  | inl e ↦ let same : f k ≡ f n = ap f e in omega arith
  | inr ne ↦ let below : f k ≤ most_below f n = most_within f n k (omega arith) in omega arith
]

pub most_few : (f : ℕ → ℕ) (m : ℕ) → ((k : ℕ) → f k ≤ m) → (n : ℕ) → most_below f n ≤ m
most_few f m h zero = omega arith
most_few f m h (suc n) = let here : f n ≤ m = h n in let below : most_below f n ≤ m = most_few f m h n in omega arith

pub most_same : (f h : ℕ → ℕ) (n : ℕ) → ((k : ℕ) → k < n → f k ≡ h k) → most_below f n ≡ most_below h n
most_same f h zero e = refl
most_same f h (suc n) e =
    let below : most_below f n ≡ most_below h n = most_same f h n (λ k b. e k (omega arith)) in
    let here : f n ≡ h n = e n (omega arith) in
    omega arith

pub shares_few : (n : ℕ) → shares_for n ≤ 9
shares_few n = grind (arith, nat_tests)

pub shares_some : (n : ℕ) → 0 < n → 2 ≤ shares_for n
shares_some n h = grind (arith, nat_tests)

shares_more : (n : ℕ) → shares_for (n + 1) ≡ with_reader (shares_for n)
shares_more n = grind (arith, nat_tests)

below_one : (f : ℕ → ℕ) (n i : ℕ) → i < n → f i ≤ below f n
below_one f zero i h = absurd (omega arith)
below_one f (suc n) i h = elim (cases_eq i n) [
  | inl e ↦ let same : f i ≡ f n = ap f e in omega arith
  | inr ne ↦ let lower : f i ≤ below f n = below_one f n i (omega arith) in omega arith
]

-- what an access counts for column c
abbrev weight : ℕ → Access → ℕ
weight c a = cond (is_reader c a) 1 0

reads_own : (a : Access) → is_read a.mode ≡ true → weight a.column a ≡ 1
reads_own a h = grind (arith, nat_tests)

reads_other : (c : ℕ) (a : Access) → c ≢ a.column → weight c a ≡ 0
reads_other c a h = grind (arith, nat_tests)

reads_none : (c : ℕ) (a : Access) → is_read a.mode ≡ false → weight c a ≡ 0
reads_none c a h = grind (arith, nat_tests)

readers_some : (a : Access) (xs : List Access) → Contains xs a → is_read a.mode ≡ true → 0 < readers_in a.column xs
readers_some a xs m h =
    let at : weight a.column (get_or xs m.0 a) ≡ 1 = ap (weight a.column) m.2 ∙ reads_own a h in
    let least : weight a.column (get_or xs m.0 a) ≤ readers_in a.column xs = get_or-le-sum_by (weight a.column) xs m.0 a m.1 in
    omega arith

pub readers_of_line : (g : GraphValue) (i : ℕ) (a : Access) (n : ℕ) → i < n → Contains (accesses g i) a → is_read a.mode ≡ true → 0 < readers_below g a.column n
readers_of_line g i a n h in_line read =
    let here : 0 < readers_in a.column (accesses g i) = readers_some a (accesses g i) in_line read in
    let all : readers_in a.column (accesses g i) ≤ readers_below g a.column n = below_one (λ k. readers_in a.column (accesses g k)) n i h in
    omega arith

-- one access more
shares_next : (counts : List ℕ) (a : Access) (xs : List Access) (c k : ℕ) → a.column < length counts → get_or counts c 0 ≡ shares_for (k + readers_in c xs) →
    (b : Bool) → is_read a.mode ≡ b → get_or (cond b (set counts a.column (with_reader (get_or counts a.column 0))) counts) c 0 ≡ shares_for (k + readers_in c (xs ++ a ∷ []))
shares_next counts a xs c k h e false read =
    let more : readers_in c (xs ++ a ∷ []) ≡ readers_in c xs + weight c a = sum_by_push (weight c) xs a in
    e ∙ ap shares_for (let none = reads_none c a read in omega arith)
shares_next counts a xs c k h e true read =
    let more : readers_in c (xs ++ a ∷ []) ≡ readers_in c xs + weight c a = sum_by_push (weight c) xs a in
    elim (cases_eq c a.column) [
      | inl same ↦
          let own : weight c a ≡ 1 = ap (λ (j : ℕ). weight j a) same ∙ reads_own a read in
          ap (λ (j : ℕ). get_or (set counts a.column (with_reader (get_or counts a.column 0))) j 0) same
          ∙ (get_or-set_same counts a.column (with_reader (get_or counts a.column 0)) 0 h
          ∙ (ap (λ (j : ℕ). with_reader (get_or counts j 0)) (sym same) ∙ (ap with_reader e ∙ (sym (shares_more (k + readers_in c xs)) ∙ ap shares_for (omega arith)))))
      | inr other ↦ get_or-set_other counts a.column c (with_reader (get_or counts a.column 0)) 0 other ∙ (e ∙ ap shares_for (let none = reads_other c a other in omega arith))
    ]

counted_each : (counts : List ℕ) (a : Access) (b : Bool) → length (cond b (set counts a.column (with_reader (get_or counts a.column 0))) counts) ≡ length counts
counted_each counts a false = refl
counted_each counts a true = length-set counts a.column (with_reader (get_or counts a.column 0))

pub counted_more : (g : GraphValue) (n : ℕ) (xs : List Access) (counts : List ℕ) (a : Access) → a.column < length (columns g) → AreCounted g n xs counts → AreCounted g n (xs ++ a ∷ []) (counted a counts)
counted_more g n xs counts a h t = record {
  each = counted_each counts a (is_read a.mode) ∙ t.each;
  shares = λ c below. shares_next counts a xs c (readers_below g c n) (omega (arith, t.each)) (t.shares c below) (is_read a.mode) refl;
}

below_next : (f : ℕ → ℕ) (n : ℕ) → below f (n + 1) + 0 ≡ below f n + f n
below_next f n = let next : below f (n + 1) ≡ below f (suc n) = ap (below f) (add-one n) in omega arith

-- a line is counted
pub counted_line : (g : GraphValue) (n : ℕ) (counts : List ℕ) → AreCounted g n (accesses g n) counts → AreCounted g (n + 1) [] counts
counted_line g n counts t = record {
  each = t.each;
  shares = λ c below. t.shares c below ∙ ap shares_for (sym (below_next (λ i. readers_in c (accesses g i)) n));
}

-- all lines are counted
pub all_counted : (g : GraphValue) (counts : List ℕ) (planes : ℕ) → AreCounted g (length g.lines) [] counts → planes ≡ most_below (λ c. get_or counts c 0) (length counts) →
    AreShares g (record { counts = counts; planes = planes })
unfolding share_count plane_count
all_counted g counts planes t e =
    let own : (c : ℕ) → c < length (columns g) → get_or counts c 0 ≡ share_count g c = λ c h. t.shares c h ∙ ap shares_for (omega arith) in
    record {
      each = t.each;
      counts = own;
      planes = e ∙ (ap (most_below (λ c. get_or counts c 0)) t.each ∙ most_same (λ c. get_or counts c 0) (share_count g) (length (columns g)) own);
    }

-- THE LAWS
pub share_count_few : ColumnsHaveFewShares
unfolding share_count
share_count_few g c = shares_few (readers_below g c (length g.lines))

pub plane_count_few : PlanesAreFew
unfolding plane_count
plane_count_few g = most_few (share_count g) 9 (share_count_few g) (length (columns g))

pub shares_in_planes : SharesLieInPlanes
unfolding plane_count
shares_in_planes g c h = most_within (share_count g) (length (columns g)) c h

pub reader_has_share : ReadColumnsHaveShares
unfolding share_count
reader_has_share g i a h in_line read = shares_some (readers_below g a.column (length g.lines)) (readers_of_line g i a (length g.lines) h in_line read)
