-- One line of a text: what stays of it, and what is left.
use Rattle.std.proofs.Common.{◌≡◌, ℕ, ◌+◌, ◌-◌, ◌<◌, ◌≤◌, Bool, true, false, cond, List, [], ◌∷◌, ◌++◌, length, refl, sym, ◌∙◌, ap, append_assoc, length-append, arith}
use Rattle.std.specs.Prelude.{◌==◌}
use Rattle.std.specs.List.{list_any}
use Rattle.std.proofs.lemmas.Bool.{cond-true, cond-false, or_from, or_right, or_parts, eq-eqb, ne_eqb, true≢false}
use Rattle.std.proofs.lemmas.List.Elements.{All-from_recursion}
use Rattle.std.proofs.lemmas.List.Splits.{slice_split_at, slice_split_none, length-slice_split, join_with_byte-slice_split}
use Rattle.basics.proofs.TestedLists.{each_from_none}
use Rattle.graph_comments.specs.Comments.{lines, joined, is_comment, is_closing, is_none, all_stay, kept, comments_above}
use Rattle.graph_comments.specs.Cuts.{IsFirstLine}

-- the lines of bytes without a newline, and those of bytes with one
pub lines_one : (bytes : List ℕ) → list_any (λ b. b == 10) bytes ≡ false → lines bytes ≡ bytes ∷ []
lines_one bytes h = slice_split_none (λ b. b == 10) bytes (All-from_recursion (λ b. (b == 10) ≡ false) bytes (each_from_none (λ b. b == 10) bytes h))

pub lines_join : (line behind : List ℕ) → list_any (λ b. b == 10) line ≡ false → lines (line ++ 10 ∷ behind) ≡ line ∷ lines behind
lines_join line behind h = slice_split_at (λ b. b == 10) line 10 behind (All-from_recursion (λ b. (b == 10) ≡ false) line (each_from_none (λ b. b == 10) line h)) refl

pub lines_cut : (bytes line behind : List ℕ) → IsFirstLine bytes line behind → lines bytes ≡ line ∷ lines behind
lines_cut bytes line behind h = ap lines h.whole ∙ lines_join line behind h.one_line

pub joined_lines : (bytes : List ℕ) → joined (lines bytes) ≡ bytes
joined_lines bytes = join_with_byte-slice_split 10 bytes

-- there is a line
some_is : (ls : List (List ℕ)) → 0 < length ls → is_none ls ≡ false
some_is [] h = absurd (omega arith)
some_is (l ∷ ls) h = refl

pub some_length : (ls : List (List ℕ)) → is_none ls ≡ false → 0 < length ls
some_length [] h = absurd (true≢false h)
some_length (l ∷ ls) h = omega arith

pub some_lines : (bytes : List ℕ) → is_none (lines bytes) ≡ false
some_lines bytes = some_is (lines bytes) (omega (arith, length-slice_split (λ b. b == 10) bytes))

pub joined_more : (l : List ℕ) (ls : List (List ℕ)) → is_none ls ≡ false → joined (l ∷ ls) ≡ l ++ 10 ∷ joined ls
joined_more l [] h = absurd (true≢false h)
joined_more l (m ∷ ls) h = refl

-- which lines stay
pub kept_all : (l : List ℕ) (ls : List (List ℕ)) → all_stay l ls ≡ true → kept (l ∷ ls) ≡ l ∷ ls
kept_all l ls h = cond-true (all_stay l ls) (l ∷ ls) (cond (is_comment l) (kept ls) (l ∷ kept ls)) h

pub kept_comment : (l : List ℕ) (ls : List (List ℕ)) → all_stay l ls ≡ false → is_comment l ≡ true → kept (l ∷ ls) ≡ kept ls
kept_comment l ls h c = cond-false (all_stay l ls) (l ∷ ls) (cond (is_comment l) (kept ls) (l ∷ kept ls)) h ∙ cond-true (is_comment l) (kept ls) (l ∷ kept ls) c

pub kept_line : (l : List ℕ) (ls : List (List ℕ)) → all_stay l ls ≡ false → is_comment l ≡ false → kept (l ∷ ls) ≡ l ∷ kept ls
kept_line l ls h c = cond-false (all_stay l ls) (l ∷ ls) (cond (is_comment l) (kept ls) (l ∷ kept ls)) h ∙ cond-false (is_comment l) (kept ls) (l ∷ kept ls) c

-- how many comments stand above
pub above_all : (k : ℕ) (l : List ℕ) (ls : List (List ℕ)) → all_stay l ls ≡ true → comments_above k (l ∷ ls) ≡ 0
above_all k l ls h = cond-true (all_stay l ls) 0 (cond (is_comment l) (1 + comments_above k ls) (cond (k == 0) 0 (comments_above (k - 1) ls))) h

pub above_comment : (k : ℕ) (l : List ℕ) (ls : List (List ℕ)) → all_stay l ls ≡ false → is_comment l ≡ true → comments_above k (l ∷ ls) ≡ 1 + comments_above k ls
above_comment k l ls h c =
    cond-false (all_stay l ls) 0 (cond (is_comment l) (1 + comments_above k ls) (cond (k == 0) 0 (comments_above (k - 1) ls))) h
    ∙ cond-true (is_comment l) (1 + comments_above k ls) (cond (k == 0) 0 (comments_above (k - 1) ls)) c

above_line : (k : ℕ) (l : List ℕ) (ls : List (List ℕ)) → all_stay l ls ≡ false → is_comment l ≡ false → comments_above k (l ∷ ls) ≡ cond (k == 0) 0 (comments_above (k - 1) ls)
above_line k l ls h c =
    cond-false (all_stay l ls) 0 (cond (is_comment l) (1 + comments_above k ls) (cond (k == 0) 0 (comments_above (k - 1) ls))) h
    ∙ cond-false (is_comment l) (1 + comments_above k ls) (cond (k == 0) 0 (comments_above (k - 1) ls)) c

pub above_first : (k : ℕ) (l : List ℕ) (ls : List (List ℕ)) → all_stay l ls ≡ false → is_comment l ≡ false → k ≡ 0 → comments_above k (l ∷ ls) ≡ 0
above_first k l ls h c e = above_line k l ls h c ∙ cond-true (k == 0) 0 (comments_above (k - 1) ls) (eq-eqb k 0 e)

pub above_later : (k : ℕ) (l : List ℕ) (ls : List (List ℕ)) → all_stay l ls ≡ false → is_comment l ≡ false → 0 < k → comments_above k (l ∷ ls) ≡ comments_above (k - 1) ls
above_later k l ls h c m = above_line k l ls h c ∙ cond-false (k == 0) 0 (comments_above (k - 1) ls) (ne_eqb k 0 (λ e. let z : k ≡ 0 = e in absurd (omega arith)))

-- whether all stay from a line on that has a newline, and from one without
pub stay_closing : (l : List ℕ) (ls : List (List ℕ)) → is_closing l ≡ true → all_stay l ls ≡ true
stay_closing l ls h = or_right (is_none ls) (is_closing l) h

pub stay_no_closing : (l behind : List ℕ) → is_closing l ≡ false → all_stay l (lines behind) ≡ false
stay_no_closing l behind h = or_from (is_none (lines behind)) (is_closing l) (some_lines behind) h

-- the same of the bytes of lines
pub keeps_last : (bytes : List ℕ) → list_any (λ b. b == 10) bytes ≡ false → kept (lines bytes) ≡ lines bytes
keeps_last bytes h = ap kept (lines_one bytes h) ∙ sym (lines_one bytes h)

pub keeps_closed : (bytes line behind : List ℕ) → IsFirstLine bytes line behind → is_closing line ≡ true → kept (lines bytes) ≡ lines bytes
keeps_closed bytes line behind f h = let e = lines_cut bytes line behind f in
    ap kept e ∙ (kept_all line (lines behind) (stay_closing line (lines behind) h) ∙ sym e)

pub keeps_no_comment : (bytes line behind : List ℕ) → IsFirstLine bytes line behind → is_closing line ≡ false → is_comment line ≡ true → kept (lines bytes) ≡ kept (lines behind)
keeps_no_comment bytes line behind f h c = ap kept (lines_cut bytes line behind f) ∙ kept_comment line (lines behind) (stay_no_closing line behind h) c

pub keeps_line : (bytes line behind : List ℕ) → IsFirstLine bytes line behind → is_closing line ≡ false → is_comment line ≡ false → kept (lines bytes) ≡ line ∷ kept (lines behind)
keeps_line bytes line behind f h c = ap kept (lines_cut bytes line behind f) ∙ kept_line line (lines behind) (stay_no_closing line behind h) c

-- a line at least stays
pub kept_some : (ls : List (List ℕ)) → is_none ls ≡ false → is_none (kept ls) ≡ false
kept_some [] h = h
kept_some (l ∷ ls) h = some_by (λ n. kept_some ls n) (all_stay l ls) (is_comment l) refl refl
  where
    some_by : (is_none ls ≡ false → is_none (kept ls) ≡ false) → (a c : Bool) → all_stay l ls ≡ a → is_comment l ≡ c → is_none (kept (l ∷ ls)) ≡ false
    some_by again true c e f = ap is_none (kept_all l ls e)
    some_by again false true e f = ap is_none (kept_comment l ls e f) ∙ again (or_parts (is_none ls) (is_closing l) e).0
    some_by again false false e f = ap is_none (kept_line l ls e f)

-- the text of a line that stays, and of those behind it
pub text_line : (bytes line behind : List ℕ) → IsFirstLine bytes line behind → is_closing line ≡ false → is_comment line ≡ false → joined (kept (lines bytes)) ≡ line ++ 10 ∷ joined (kept (lines behind))
text_line bytes line behind f h c = ap joined (keeps_line bytes line behind f h c) ∙ joined_more line (kept (lines behind)) (kept_some (lines behind) (some_lines behind))

-- the text that stays is no longer than the whole
pub text_fewer : (ls : List (List ℕ)) → length (joined (kept ls)) ≤ length (joined ls)
text_fewer [] = omega arith
text_fewer (l ∷ ls) = fewer_by (text_fewer ls) (all_stay l ls) (is_comment l) refl refl
  where
    fewer_by : length (joined (kept ls)) ≤ length (joined ls) → (a c : Bool) → all_stay l ls ≡ a → is_comment l ≡ c → length (joined (kept (l ∷ ls))) ≤ length (joined (l ∷ ls))
    fewer_by again true c e f = let s : length (joined (kept (l ∷ ls))) ≡ length (joined (l ∷ ls)) = ap (λ x. length (joined x)) (kept_all l ls e) in omega arith
    fewer_by again false true e f =
        let n : is_none ls ≡ false = (or_parts (is_none ls) (is_closing l) e).0 in
        let s : length (joined (kept (l ∷ ls))) ≡ length (joined (kept ls)) = ap (λ x. length (joined x)) (kept_comment l ls e f) in
        let m : length (joined (l ∷ ls)) ≡ length (l ++ 10 ∷ joined ls) = ap length (joined_more l ls n) in
        omega (arith, again, length-append l (10 ∷ joined ls))
    fewer_by again false false e f =
        let n : is_none ls ≡ false = (or_parts (is_none ls) (is_closing l) e).0 in
        let s : length (joined (kept (l ∷ ls))) ≡ length (l ++ 10 ∷ joined (kept ls)) = ap (λ x. length (joined x)) (kept_line l ls e f) ∙ ap length (joined_more l (kept ls) (kept_some ls n)) in
        let m : length (joined (l ∷ ls)) ≡ length (l ++ 10 ∷ joined ls) = ap length (joined_more l ls n) in
        omega (arith, again, length-append l (10 ∷ joined ls), length-append l (10 ∷ joined (kept ls)))

-- the text that stays, where nothing goes
pub stays_last : (bytes : List ℕ) → list_any (λ b. b == 10) bytes ≡ false → joined (kept (lines bytes)) ≡ bytes
stays_last bytes h = ap joined (keeps_last bytes h) ∙ joined_lines bytes

pub stays_closed : (bytes line behind : List ℕ) → IsFirstLine bytes line behind → is_closing line ≡ true → joined (kept (lines bytes)) ≡ bytes
stays_closed bytes line behind f h = ap joined (keeps_closed bytes line behind f h) ∙ joined_lines bytes

-- a first line and its newline are the bytes in front of what is behind it
pub front_is : (bytes line behind : List ℕ) → IsFirstLine bytes line behind → bytes ≡ (line ++ 10 ∷ []) ++ behind
front_is bytes line behind f = f.whole ∙ sym (append_assoc line (10 ∷ []) behind)

pub fewer_behind : (bytes line behind : List ℕ) → IsFirstLine bytes line behind → length behind < length bytes
fewer_behind bytes line behind f = let e : length bytes ≡ length (line ++ 10 ∷ behind) = ap length f.whole in omega (arith, length-append line (10 ∷ behind))
