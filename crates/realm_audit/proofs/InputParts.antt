-- Where an input of `audit` is cut.
use Rattle.std.proofs.Common.{◌≡◌, ℕ, suc, ◌+◌, ◌-◌, ◌≤◌, Bool, true, false, cond, List, [], ◌∷◌, length, take, drop, refl, sym, ◌∙◌, ap, length-append, add-one, take_all, arith}
use Rattle.std.specs.Prelude.{◌==◌, not, codes, sum_by, All}
use Rattle.std.specs.List.{before_first, prefix_len}
use Rattle.std.specs.Str.{bytes_eq}
use Rattle.std.proofs.lemmas.Bool.{or_parts}
use Rattle.std.proofs.lemmas.List.{drop_all}
use Rattle.std.proofs.lemmas.List.Elements.{All-nil, All-cons}
use Rattle.std.proofs.lemmas.List.Splits.{slice_split_at, slice_split_none}
use Rattle.std.proofs.lemmas.List.Sums.{sum_by-cons}
use Rattle.std.proofs.lemmas.Slice.Eq.{bytes_eq-Decides}
use Rattle.realm_audit.specs.Reading.{has_newline, IsFirstLine}
use Rattle.realm_audit.specs.Parts.{lines_of, before_end, graph_bytes, trace_bytes}

abbrev is_end : List ℕ → Bool
is_end line = bytes_eq line (codes "end")

abbrev size_with : List ℕ → ℕ
size_with line = length line + 1

no_newlines : (line : List ℕ) → has_newline line ≡ false → All (λ b. (b == 10) ≡ false) line
no_newlines [] h = All-nil (λ b. (b == 10) ≡ false)
no_newlines (b ∷ line) h = let p = or_parts (b == 10) (has_newline line) h in All-cons (λ x. (x == 10) ≡ false) b line p.0 (no_newlines line p.1)

-- the lines of bytes with a first line, and of bytes without a newline
lines_cut : (rest line after : List ℕ) → IsFirstLine rest line after → lines_of rest ≡ line ∷ lines_of after
lines_cut rest line after f = ap lines_of f.bytes_are ∙ slice_split_at (λ b. b == 10) line 10 after (no_newlines line f.one_line) refl

lines_end : (rest : List ℕ) → has_newline rest ≡ false → lines_of rest ≡ rest ∷ []
lines_end rest h = slice_split_none (λ b. b == 10) rest (no_newlines rest h)

-- what stands before a line that is `end`, and before another
before_it : (line : List ℕ) (lines : List (List ℕ)) → is_end line ≡ true → sum_by size_with (before_first is_end (line ∷ lines)) ≡ 0
before_it line lines e = ap (λ b. sum_by size_with (take (cond (not b) (1 + prefix_len (λ x. not (is_end x)) lines) 0) (line ∷ lines))) e

behind_it : (line : List ℕ) (lines : List (List ℕ)) → is_end line ≡ false → sum_by size_with (before_first is_end (line ∷ lines)) ≡ length line + 1 + sum_by size_with (before_first is_end lines)
behind_it line lines e =
    let n : ℕ = prefix_len (λ x. not (is_end x)) lines in
    let one : 1 + n ≡ suc n = omega arith in
    ap (λ b. sum_by size_with (take (cond (not b) (1 + n) 0) (line ∷ lines))) e
    ∙ (ap (λ k. sum_by size_with (take k (line ∷ lines))) one ∙ sum_by-cons size_with line (before_first is_end lines))

-- how far the bytes were looked through
abbrev pub LookedThrough : List ℕ → List ℕ → Type 0
LookedThrough bytes rest = before_end bytes + length rest ≡ length bytes + before_end rest

pub rest_size : (rest line after : List ℕ) → IsFirstLine rest line after → length rest ≡ length line + (length after + 1)
rest_size rest line after f = ap length f.bytes_are ∙ (length-append line (10 ∷ after) ∙ ap (λ n. length line + n) (sym (add-one (length after))))

-- past a line that is not `end`
pub past_line : (bytes rest line after : List ℕ) → LookedThrough bytes rest → IsFirstLine rest line after → bytes_eq line (codes "end") ≡ false → LookedThrough bytes after
past_line bytes rest line after so_far f e =
    let size : length rest ≡ length line + (length after + 1) = rest_size rest line after f in
    let more : before_end rest ≡ length line + 1 + before_end after = ap (λ ls. sum_by size_with (before_first is_end ls)) (lines_cut rest line after f) ∙ behind_it line (lines_of after) e in
    omega (arith, so_far, size, more)

-- a line that is `end`
pub cut_here : (bytes rest line after : List ℕ) → LookedThrough bytes rest → IsFirstLine rest line after → bytes_eq line (codes "end") ≡ true → before_end bytes + 4 ≡ length bytes - length after
cut_here bytes rest line after so_far f e =
    let size : length rest ≡ length line + (length after + 1) = rest_size rest line after f in
    let three : length line ≡ 3 = ap length ((bytes_eq-Decides line (codes "end")).0 e) in
    let none : before_end rest ≡ 0 = ap (λ ls. sum_by size_with (before_first is_end ls)) (lines_cut rest line after f) ∙ before_it line (lines_of after) e in
    omega (arith, so_far, size, three, none)

-- no line is
pub cut_nowhere : (bytes rest : List ℕ) → LookedThrough bytes rest → has_newline rest ≡ false → length bytes ≤ before_end bytes + 4
cut_nowhere bytes rest so_far h = by_last (is_end rest) refl
  where
    by_last : (b : Bool) → is_end rest ≡ b → length bytes ≤ before_end bytes + 4
    by_last true e = (let three : length rest ≡ 3 = ap length ((bytes_eq-Decides rest (codes "end")).0 e) in omega (arith, so_far, three))
    by_last false e =
        (let more : before_end rest ≡ length rest + 1 + 0 = ap (λ ls. sum_by size_with (before_first is_end ls)) (lines_end rest h) ∙ behind_it rest [] e in
        omega (arith, so_far, more))

-- all of the bytes are the first part
pub all_graph : (bytes : List ℕ) → length bytes ≤ before_end bytes + 4 → take (length bytes) bytes ≡ graph_bytes bytes
all_graph bytes h = take_all (length bytes) bytes (omega arith) ∙ sym (take_all (before_end bytes + 4) bytes h)

pub no_trace : (bytes : List ℕ) → length bytes ≤ before_end bytes + 4 → drop (length bytes) bytes ≡ trace_bytes bytes
no_trace bytes h = drop_all (length bytes) bytes (omega arith) ∙ sym (drop_all (before_end bytes + 4) bytes h)
