-- Numbers of lines, with comments and without, both counted from 1.
use Rattle.std.proofs.Common.{◌≡◌, ℕ, zero, suc, ◌+◌, ◌-◌, ◌<◌, ◌≤◌, ◌⊎◌, inl, inr, true, false, List, [], ◌∷◌, length, drop, refl, sym, ◌∙◌, ap, arith}
use Rattle.std.specs.Prelude.{nat_le, slice_get, slice_index_or, ◌==◌}
use Rattle.std.specs.List.{list_any}
use Rattle.graph_comments.specs.Cuts.{IsFirstLine}
use Rattle.std.proofs.lemmas.Bool.{cond-true, cond-false, le-leb, lt-leb, true≢false}
use Rattle.graph_comments.specs.Comments.{lines, is_comment, is_none, kept, bare_lines, comments_above, number_in_whole}
use Rattle.graph_comments.specs.Laws.{LinesStay, NumbersGrow, CommentsGo, NumbersStay}
use Rattle.graph_comments.proofs.Steps.{some_lines, lines_one, lines_cut}
use Rattle.graph_comments.proofs.KeptLines.{lines_bare, none_above, above_grows, line_there, IsPlaced, each_placed}

at_most : (n : ℕ) → (n ≤ 1) ⊎ (2 ≤ n)
at_most zero = inl (omega arith)
at_most (suc zero) = inl (omega arith)
at_most (suc (suc n)) = inr (omega arith)

-- the first line keeps its number
pub number_first : (bytes : List ℕ) (n : ℕ) → n ≤ 1 → number_in_whole bytes n ≡ n
number_first bytes n h =
    let e : number_in_whole bytes n ≡ n + 0 = ap (λ x. n + x) (cond-true (nat_le n 1) 0 (comments_above (n - 2) (drop 1 (lines bytes))) (le-leb n 1 h)) in omega arith

-- and another one has so many comments above it more
pub number_later : (bytes : List ℕ) (n : ℕ) → 2 ≤ n → number_in_whole bytes n ≡ n + comments_above (n - 2) (drop 1 (lines bytes))
number_later bytes n h = ap (λ x. n + x) (cond-false (nat_le n 1) 0 (comments_above (n - 2) (drop 1 (lines bytes))) (lt-leb n 1 h))

-- the same by the bytes behind the first line
pub number_behind : (bytes line behind : List ℕ) (n : ℕ) → IsFirstLine bytes line behind → 2 ≤ n → number_in_whole bytes n ≡ n + comments_above (n - 2) (lines behind)
number_behind bytes line behind n f h = number_later bytes n h ∙ ap (λ x. n + comments_above (n - 2) (drop 1 x)) (lines_cut bytes line behind f)

pub number_alone : (bytes : List ℕ) (n : ℕ) → list_any (λ b. b == 10) bytes ≡ false → 2 ≤ n → number_in_whole bytes n ≡ n
number_alone bytes n f h =
    let e : number_in_whole bytes n ≡ n + 0 = number_later bytes n h ∙ ap (λ x. n + comments_above (n - 2) (drop 1 x)) (lines_one bytes f) in omega arith

pub numbers_grow : NumbersGrow
numbers_grow bytes n m h = by (at_most n) (at_most m)
  where
    by : (n ≤ 1) ⊎ (2 ≤ n) → (m ≤ 1) ⊎ (2 ≤ m) → number_in_whole bytes n < number_in_whole bytes m
    by (inl a) (inl b) = omega (arith, number_first bytes n a, number_first bytes m b)
    by (inl a) (inr b) = omega (arith, number_first bytes n a, number_later bytes m b)
    by (inr a) (inl b) = absurd (omega arith)
    by (inr a) (inr b) = omega (arith, number_later bytes n a, number_later bytes m b, above_grows (drop 1 (lines bytes)) (n - 2) (m - 2) (omega arith))

-- the line of a number
line_at : (ls : List (List ℕ)) → is_none ls ≡ false → (n : ℕ) → 2 ≤ n → slice_get (bare_lines ls) (n - 1) ≡ slice_get ls (n + comments_above (n - 2) (drop 1 ls) - 1)
line_at [] h n m = absurd (true≢false h)
line_at (l ∷ ls) h n m =
    let i : n - 1 ≡ suc (n - 2) = omega arith in
    let j : n + comments_above (n - 2) ls - 1 ≡ suc (n - 2 + comments_above (n - 2) ls) = omega arith in
    ap (slice_get (l ∷ kept ls)) i ∙ (line_there ls (n - 2) ∙ ap (slice_get (l ∷ ls)) (sym j))

first_at : (ls : List (List ℕ)) → is_none ls ≡ false → slice_get (bare_lines ls) 0 ≡ slice_get ls 0
first_at [] h = absurd (true≢false h)
first_at (l ∷ ls) h = refl

pub lines_stay : LinesStay
lines_stay bytes n h = ap (λ x. slice_get x (n - 1)) (lines_bare bytes) ∙ by (at_most n)
  where
    by : (n ≤ 1) ⊎ (2 ≤ n) → slice_get (bare_lines (lines bytes)) (n - 1) ≡ slice_get (lines bytes) (number_in_whole bytes n - 1)
    by (inl a) =
        let i : n - 1 ≡ 0 = omega arith in
        let j : number_in_whole bytes n - 1 ≡ 0 = omega (arith, number_first bytes n a) in
        ap (slice_get (bare_lines (lines bytes))) i ∙ (first_at (lines bytes) (some_lines bytes) ∙ ap (slice_get (lines bytes)) (sym j))
    by (inr a) = line_at (lines bytes) (some_lines bytes) n a ∙ ap (λ x. slice_get (lines bytes) (x - 1)) (sym (number_later bytes n a))

-- what a line of the whole is
is_there : (bytes : List ℕ) (m : ℕ) → 2 ≤ m → (ls : List (List ℕ)) → lines bytes ≡ ls → is_none ls ≡ false → IsPlaced (drop 1 ls) (m - 2) →
    ((n : ℕ) × (number_in_whole bytes n ≡ m)) ⊎ ((1 < m) × (m < length (lines bytes)) × (is_comment (slice_index_or (lines bytes) (m - 1) []) ≡ true))
is_there bytes m h [] e s p = absurd (true≢false s)
is_there bytes m h (l ∷ ls) e s (inl (k, f)) =
    let i : k + 2 - 2 ≡ k = omega arith in
    let a : comments_above (k + 2 - 2) (drop 1 (lines bytes)) ≡ comments_above k ls = ap (λ x. comments_above x (drop 1 (lines bytes))) i ∙ ap (λ x. comments_above k (drop 1 x)) e in
    inl (k + 2, omega (arith, number_later bytes (k + 2) (omega arith)))
is_there bytes m h (l ∷ ls) e s (inr (f, c)) =
    let n : length (lines bytes) ≡ suc (length ls) = ap length e in
    let i : m - 1 ≡ suc (m - 2) = omega arith in
    inr (omega arith, omega arith, ap (λ x. is_comment (slice_index_or (lines bytes) x [])) i ∙ (ap (λ x. is_comment (slice_index_or x (suc (m - 2)) [])) e ∙ c))

pub comments_go : CommentsGo
comments_go bytes m h = by (at_most m)
  where
    by : (m ≤ 1) ⊎ (2 ≤ m) → ((n : ℕ) × (number_in_whole bytes n ≡ m)) ⊎ ((1 < m) × (m < length (lines bytes)) × (is_comment (slice_index_or (lines bytes) (m - 1) []) ≡ true))
    by (inl a) = inl (m, number_first bytes m a)
    by (inr a) = is_there bytes m a (lines bytes) refl (some_lines bytes) (each_placed (drop 1 (lines bytes)) (m - 2))

pub numbers_stay : NumbersStay
numbers_stay bytes n h = by (at_most n)
  where
    by : (n ≤ 1) ⊎ (2 ≤ n) → number_in_whole bytes n ≡ n
    by (inl a) = number_first bytes n a
    by (inr a) = omega (arith, number_later bytes n a, none_above bytes (n - 2) h)
