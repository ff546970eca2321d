-- Lines that are passed one by one, up to the first comment and behind it.
use Rattle.std.proofs.Common.{◌≡◌, ℕ, ◌+◌, ◌-◌, ◌<◌, ◌≤◌, Bool, true, false, List, [], ◌∷◌, ◌++◌, length, take, drop, refl, sym, ◌∙◌, ap, append_assoc, length-append, arith}
use Rattle.std.specs.Prelude.{◌==◌}
use Rattle.std.specs.List.{list_any}
use Rattle.std.proofs.lemmas.Bool.{cond-true, cond-false}
use Rattle.std.proofs.lemmas.List.{take_at, drop_at}
use Rattle.graph_comments.specs.Comments.{lines, joined, is_comment, is_closing, kept, bare_lines, bare_text, comments_above}
use Rattle.graph_comments.specs.Cuts.{IsFirstLine, IsPassed, IsFirstComment, line_part}
use Rattle.graph_comments.proofs.Steps.{lines_one, lines_cut, joined_lines, some_lines, joined_more, kept_some, keeps_no_comment, text_line, text_fewer, front_is, fewer_behind, stay_no_closing, stay_closing, above_all, above_comment, above_first, above_later}

-- what is put of one line
part_of_line : (bytes line behind : List ℕ) → IsFirstLine bytes line behind → take (length line + 1) bytes ≡ line ++ 10 ∷ []
part_of_line bytes line behind f = ap (take (length line + 1)) (front_is bytes line behind f) ∙ take_at (line ++ 10 ∷ []) behind (length line + 1) (length-append line (10 ∷ []))

pub kept_step : (bytes line behind : List ℕ) → IsFirstLine bytes line behind → is_closing line ≡ false → joined (kept (lines bytes)) ≡ line_part line bytes ++ joined (kept (lines behind))
kept_step bytes line behind f h = step_by (is_comment line) refl
  where
    step_by : (c : Bool) → is_comment line ≡ c → joined (kept (lines bytes)) ≡ line_part line bytes ++ joined (kept (lines behind))
    step_by true e = ap joined (keeps_no_comment bytes line behind f h e) ∙ ap (λ x. x ++ joined (kept (lines behind))) (sym (cond-true (is_comment line) [] (take (length line + 1) bytes) e))
    step_by false e =
        let p : line_part line bytes ≡ line ++ 10 ∷ [] = cond-false (is_comment line) [] (take (length line + 1) bytes) e ∙ part_of_line bytes line behind f in
        text_line bytes line behind f h e ∙ (sym (append_assoc line (10 ∷ []) (joined (kept (lines behind)))) ∙ ap (λ x. x ++ joined (kept (lines behind))) (sym p))

-- what is put of all lines so far
pub put_step : (old new : List ℕ) (bytes line behind all : List ℕ) → IsFirstLine bytes line behind → is_closing line ≡ false → new ≡ old ++ line_part line bytes →
    old ++ joined (kept (lines bytes)) ≡ all → new ++ joined (kept (lines behind)) ≡ all
put_step old new bytes line behind all f h n k =
    ap (λ x. x ++ joined (kept (lines behind))) n
    ∙ (append_assoc old (line_part line bytes) (joined (kept (lines behind))) ∙ (ap (λ x. old ++ x) (sym (kept_step bytes line behind f h)) ∙ k))

pub put_last : (old new rest all : List ℕ) → joined (kept (lines rest)) ≡ rest → old ++ joined (kept (lines rest)) ≡ all → new ≡ old ++ rest → new ≡ all
put_last old new rest all h k n = n ∙ (ap (λ x. old ++ x) (sym h) ∙ k)

-- the first line, another one, and all
pub passed_first : (bytes line behind : List ℕ) → IsFirstLine bytes line behind → IsPassed bytes behind
passed_first bytes line behind f = record {
  front = line ++ 10 ∷ [];
  whole = front_is bytes line behind f;
  bare = ap (λ x. joined (bare_lines x)) (lines_cut bytes line behind f)
      ∙ (joined_more line (kept (lines behind)) (kept_some (lines behind) (some_lines behind)) ∙ sym (append_assoc line (10 ∷ []) (joined (kept (lines behind)))));
}

pub passed_line : (bytes rest line behind : List ℕ) → IsPassed bytes rest → IsFirstLine rest line behind → is_closing line ≡ false → is_comment line ≡ false → IsPassed bytes behind
passed_line bytes rest line behind p f h c = record {
  front = p.front ++ (line ++ 10 ∷ []);
  whole = p.whole ∙ (ap (λ x. p.front ++ x) (front_is rest line behind f) ∙ sym (append_assoc p.front (line ++ 10 ∷ []) behind));
  bare = p.bare ∙ (ap (λ x. p.front ++ x) (text_line rest line behind f h c ∙ sym (append_assoc line (10 ∷ []) (joined (kept (lines behind)))))
      ∙ sym (append_assoc p.front (line ++ 10 ∷ []) (joined (kept (lines behind)))));
}

pub passed_all : (bytes rest : List ℕ) → IsPassed bytes rest → joined (kept (lines rest)) ≡ rest → bare_text bytes ≡ bytes
passed_all bytes rest p e = p.bare ∙ (ap (λ x. p.front ++ x) e ∙ sym p.whole)

pub one_line : (bytes : List ℕ) → list_any (λ b. b == 10) bytes ≡ false → bare_text bytes ≡ bytes
one_line bytes h = ap (λ x. joined (bare_lines x)) (lines_one bytes h)

-- the first comment
pub first_found : (bytes rest line behind : List ℕ) → IsPassed bytes rest → IsFirstLine rest line behind → is_closing line ≡ false → is_comment line ≡ true → IsFirstComment bytes (length bytes - length rest)
first_found bytes rest line behind p f h c =
    let n : length bytes ≡ length p.front + length rest = ap length p.whole ∙ length-append p.front rest in
    let m : length p.front ≡ length bytes - length rest = omega arith in
    let front : take (length bytes - length rest) bytes ≡ p.front = ap (take (length bytes - length rest)) p.whole ∙ take_at p.front rest (length bytes - length rest) m in
    let back : drop (length bytes - length rest) bytes ≡ rest = ap (drop (length bytes - length rest)) p.whole ∙ drop_at p.front rest (length bytes - length rest) m in
    let size : length (bare_text bytes) ≡ length p.front + length (joined (kept (lines rest))) = ap length p.bare ∙ length-append p.front (joined (kept (lines rest))) in
    let gone : length (joined (kept (lines rest))) ≡ length (joined (kept (lines behind))) = ap (λ x. length (joined x)) (keeps_no_comment rest line behind f h c) in
    let less : length (joined (kept (lines behind))) ≤ length (joined (lines behind)) = text_fewer (lines behind) in
    let same : length (joined (lines behind)) ≡ length behind = ap length (joined_lines behind) in
    let fewer : length behind < length rest = fewer_behind rest line behind f in record {
      within = omega arith;
      bare = p.bare ∙ (ap (λ x. x ++ joined (kept (lines rest))) (sym front) ∙ ap (λ x. take (length bytes - length rest) bytes ++ joined (kept (lines x))) (sym back));
      fewer = omega arith;
    }

-- comments above, line by line
pub counts_last : (k : ℕ) (bytes : List ℕ) → list_any (λ b. b == 10) bytes ≡ false → comments_above k (lines bytes) ≡ 0
counts_last k bytes h = ap (comments_above k) (lines_one bytes h) ∙ above_all k bytes [] refl

pub counts_closed : (k : ℕ) (bytes line behind : List ℕ) → IsFirstLine bytes line behind → is_closing line ≡ true → comments_above k (lines bytes) ≡ 0
counts_closed k bytes line behind f h = ap (comments_above k) (lines_cut bytes line behind f) ∙ above_all k line (lines behind) (stay_closing line (lines behind) h)

pub counts_comment : (k : ℕ) (bytes line behind : List ℕ) → IsFirstLine bytes line behind → is_closing line ≡ false → is_comment line ≡ true → comments_above k (lines bytes) ≡ 1 + comments_above k (lines behind)
counts_comment k bytes line behind f h c = ap (comments_above k) (lines_cut bytes line behind f) ∙ above_comment k line (lines behind) (stay_no_closing line behind h) c

pub counts_first : (k : ℕ) (bytes line behind : List ℕ) → IsFirstLine bytes line behind → is_closing line ≡ false → is_comment line ≡ false → k ≡ 0 → comments_above k (lines bytes) ≡ 0
counts_first k bytes line behind f h c e = ap (comments_above k) (lines_cut bytes line behind f) ∙ above_first k line (lines behind) (stay_no_closing line behind h) c e

pub counts_later : (k : ℕ) (bytes line behind : List ℕ) → IsFirstLine bytes line behind → is_closing line ≡ false → is_comment line ≡ false → 0 < k → comments_above k (lines bytes) ≡ comments_above (k - 1) (lines behind)
counts_later k bytes line behind f h c m = ap (comments_above k) (lines_cut bytes line behind f) ∙ above_later k line (lines behind) (stay_no_closing line behind h) c m
