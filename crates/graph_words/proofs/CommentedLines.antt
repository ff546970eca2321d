-- The lines of bytes without their comments, and their numbers in the whole.
use Rattle.std.proofs.Common.{◌≡◌, ℕ, zero, suc, ◌-◌, ◌<◌, ◌≤◌, Bool, true, false, List, [], ◌∷◌, length, refl, sym, ◌∙◌, ap, arith}
use Rattle.std.specs.Prelude.{Some, ◌==◌, ◌^◌, nat_lt, slice_get}
use Rattle.std.proofs.lemmas.Bool.{cond-true, cond-false, and_parts, ltb-true}
use Rattle.std.proofs.lemmas.Option.{none-some}
use Rattle.std.proofs.lemmas.List.Sums.{count_by-le-length}
use Rattle.std.proofs.lemmas.List.Splits.{length-slice_split}
use Rattle.graph_comments.specs.Comments.{bare_text, number_in_whole}
use Rattle.graph_comments.proofs.Public.{lines_stay}
use Rattle.graph_words.specs.Words.{pieces}
use Rattle.graph_words.specs.Text.{has_comments, bare_of, number_of}
use Rattle.graph_words.specs.Laws.{LinesKeepNumbers, NumbersFit}

pub line_of_number : LinesKeepNumbers
line_of_number bytes k h = by (has_comments bytes) refl
  where
    by : (b : Bool) → has_comments bytes ≡ b → slice_get (pieces 10 (bare_of bytes)) (k - 1) ≡ slice_get (pieces 10 bytes) (number_of bytes k - 1)
    by true e =
        ap (λ x. slice_get (pieces 10 x) (k - 1)) (cond-true (has_comments bytes) (bare_text bytes) bytes e)
        ∙ (lines_stay bytes k h ∙ ap (λ n. slice_get (pieces 10 bytes) (n - 1)) (sym (cond-true (has_comments bytes) (number_in_whole bytes k) k e)))
    by false e =
        ap (λ x. slice_get (pieces 10 x) (k - 1)) (cond-false (has_comments bytes) (bare_text bytes) bytes e)
        ∙ ap (λ n. slice_get (pieces 10 bytes) (n - 1)) (sym (cond-false (has_comments bytes) (number_in_whole bytes k) k e))

-- a place that has an element is below the length
there : (xs : List (List ℕ)) (i : ℕ) (x : List ℕ) → slice_get xs i ≡ Some x → i < length xs
there [] i x h = absurd (none-some x h)
there (y ∷ ys) zero x h = omega arith
there (y ∷ ys) (suc i) x h = omega (arith, there ys i x h)

-- a line of bytes has a number of at most one more than these are
within : (bytes line : List ℕ) (i : ℕ) → slice_get (pieces 10 bytes) i ≡ Some line → i ≤ length bytes
within bytes line i h =
    omega (arith, there (pieces 10 bytes) i line h, length-slice_split (λ b. b == 10) bytes, count_by-le-length (λ b. b == 10) bytes)

pub number_fits : NumbersFit
number_fits bytes line k h l at = by (has_comments bytes) refl
  where
    by : (b : Bool) → has_comments bytes ≡ b → number_of bytes k < 2 ^ 32
    by true e =
        let few : length bytes < 4294967295 = ltb-true (length bytes) 4294967295 (and_parts (nat_lt (length bytes) 4294967295) _ e).0 in
        let last : number_of bytes k - 1 ≤ length bytes = within bytes line (number_of bytes k - 1) (sym (line_of_number bytes k h) ∙ at) in
        omega arith
    by false e =
        let same : number_of bytes k ≡ k = cond-false (has_comments bytes) (number_in_whole bytes k) k e in
        omega arith
