-- What the lines that stay are, and where they stand in the whole.
use Rattle.std.proofs.Common.{◌≡◌, ℕ, zero, suc, ◌+◌, ◌-◌, ◌<◌, ◌≤◌, ◌⊎◌, inl, inr, Bool, true, false, cond, List, [], ◌∷◌, length, drop, refl, sym, ◌∙◌, ap, subst, arith}
use Rattle.std.specs.Prelude.{◌==◌, slice_get, slice_index_or}
use Rattle.std.specs.List.{list_any, AllByRecursion, onto_first}
use Rattle.std.proofs.lemmas.Bool.{or_from, or_parts, true≢false}
use Rattle.graph_comments.specs.Comments.{lines, joined, is_comment, is_closing, is_none, all_stay, kept, bare_lines, bare_text, comments_above}
use Rattle.graph_comments.proofs.Steps.{lines_one, lines_join, some_lines, some_length, kept_all, kept_comment, kept_line, kept_some, above_all, above_comment, above_first, above_later}

abbrev pub OneLine : List ℕ → Type 0
OneLine l = list_any (λ b. b == 10) l ≡ false

-- no line has a newline
pub each_one : (bytes : List ℕ) → AllByRecursion OneLine (lines bytes)
each_one [] = (refl, tt)
each_one (b ∷ bs) = each_by (b == 10) (lines bs) refl (each_one bs)
  where
    each_by : (t : Bool) (ls : List (List ℕ)) → (b == 10) ≡ t → AllByRecursion OneLine ls → AllByRecursion OneLine (cond t ([] ∷ ls) (onto_first b ls))
    each_by true ls e a = (refl, a)
    each_by false [] e a = (or_from (b == 10) false e refl, tt)
    each_by false (l ∷ ls) e a = (or_from (b == 10) (list_any (λ x. x == 10) l) e a.0, a.1)

kept_each : (ls : List (List ℕ)) → AllByRecursion OneLine ls → AllByRecursion OneLine (kept ls)
kept_each [] a = tt
kept_each (l ∷ ls) a = each_by (kept_each ls a.1) (all_stay l ls) (is_comment l) refl refl
  where
    each_by : AllByRecursion OneLine (kept ls) → (s c : Bool) → all_stay l ls ≡ s → is_comment l ≡ c → AllByRecursion OneLine (kept (l ∷ ls))
    each_by again true c e f = subst (AllByRecursion OneLine) (sym (kept_all l ls e)) a
    each_by again false true e f = subst (AllByRecursion OneLine) (sym (kept_comment l ls e f)) again
    each_by again false false e f = subst (AllByRecursion OneLine) (sym (kept_line l ls e f)) (a.0, again)

-- joined lines are cut again
cut_again : (l : List ℕ) (ls : List (List ℕ)) → OneLine l → AllByRecursion OneLine ls → lines (joined (l ∷ ls)) ≡ l ∷ ls
cut_again l [] h a = lines_one l h
cut_again l (m ∷ ls) h a = lines_join l (joined (m ∷ ls)) h ∙ ap (λ x. l ∷ x) (cut_again m ls a.0 a.1)

bare_again : (ls : List (List ℕ)) → is_none ls ≡ false → AllByRecursion OneLine ls → lines (joined (bare_lines ls)) ≡ bare_lines ls
bare_again [] h a = absurd (true≢false h)
bare_again (l ∷ ls) h a = cut_again l (kept ls) a.0 (kept_each ls a.1)

pub lines_bare : (bytes : List ℕ) → lines (bare_text bytes) ≡ bare_lines (lines bytes)
lines_bare bytes = bare_again (lines bytes) (some_lines bytes) (each_one bytes)

-- of the lines that stay all stay
kept_kept : (ls : List (List ℕ)) → kept (kept ls) ≡ kept ls
kept_kept [] = refl
kept_kept (l ∷ ls) = again_by (kept_kept ls) (all_stay l ls) (is_comment l) refl refl
  where
    again_by : kept (kept ls) ≡ kept ls → (s c : Bool) → all_stay l ls ≡ s → is_comment l ≡ c → kept (kept (l ∷ ls)) ≡ kept (l ∷ ls)
    again_by again true c e f = ap kept (kept_all l ls e)
    again_by again false true e f = ap kept (kept_comment l ls e f) ∙ (again ∙ sym (kept_comment l ls e f))
    again_by again false false e f =
        let p = or_parts (is_none ls) (is_closing l) e in
        let s : all_stay l (kept ls) ≡ false = or_from (is_none (kept ls)) (is_closing l) (kept_some ls p.0) p.1 in
        ap kept (kept_line l ls e f) ∙ (kept_line l (kept ls) s f ∙ (ap (λ x. l ∷ x) again ∙ sym (kept_line l ls e f)))

bare_bare : (ls : List (List ℕ)) → bare_lines (bare_lines ls) ≡ bare_lines ls
bare_bare [] = refl
bare_bare (l ∷ ls) = ap (λ x. l ∷ x) (kept_kept ls)

pub none_is_left : (bytes : List ℕ) → bare_text (bare_text bytes) ≡ bare_text bytes
none_is_left bytes = ap (λ x. joined (bare_lines x)) (lines_bare bytes) ∙ ap joined (bare_bare (lines bytes))

-- comments above and lines that stay are no more than all lines
few_above : (ls : List (List ℕ)) (k : ℕ) → length (kept ls) + comments_above k ls ≤ length ls
few_above [] k = omega arith
few_above (l ∷ ls) k = few_by (λ j. few_above ls j) (all_stay l ls) (is_comment l) refl refl k
  where
    few_by : ((j : ℕ) → length (kept ls) + comments_above j ls ≤ length ls) → (s c : Bool) → all_stay l ls ≡ s → is_comment l ≡ c → (k : ℕ) → length (kept (l ∷ ls)) + comments_above k (l ∷ ls) ≤ length (l ∷ ls)
    few_by again true c e f k = let a : length (kept (l ∷ ls)) ≡ length (l ∷ ls) = ap length (kept_all l ls e) in omega (arith, above_all k l ls e)
    few_by again false true e f k = let a : length (kept (l ∷ ls)) ≡ length (kept ls) = ap length (kept_comment l ls e f) in omega (arith, above_comment k l ls e f, again k)
    few_by again false false e f zero = let a : length (kept (l ∷ ls)) ≡ length (l ∷ kept ls) = ap length (kept_line l ls e f) in omega (arith, above_first 0 l ls e f refl, again 0)
    few_by again false false e f (suc k) = let a : length (kept (l ∷ ls)) ≡ length (l ∷ kept ls) = ap length (kept_line l ls e f) in
        omega (arith, above_later (suc k) l ls e f (omega arith), again (suc k - 1))

few_bare : (ls : List (List ℕ)) (k : ℕ) → length (bare_lines ls) + comments_above k (drop 1 ls) ≤ length ls
few_bare [] k = omega arith
few_bare (l ∷ ls) k = let h : length (kept ls) + comments_above k ls ≤ length ls = few_above ls k in omega arith

pub none_above : (bytes : List ℕ) (k : ℕ) → bare_text bytes ≡ bytes → comments_above k (drop 1 (lines bytes)) ≡ 0
none_above bytes k h =
    let e : length (bare_lines (lines bytes)) ≡ length (lines bytes) = ap length (sym (lines_bare bytes) ∙ ap lines h) in
    let f : length (bare_lines (lines bytes)) + comments_above k (drop 1 (lines bytes)) ≤ length (lines bytes) = few_bare (lines bytes) k in
    omega arith

-- the numbers grow
pub above_grows : (ls : List (List ℕ)) (j k : ℕ) → j ≤ k → comments_above j ls ≤ comments_above k ls
above_grows [] j k h = omega arith
above_grows (l ∷ ls) j k h = grows_by (λ j k h. above_grows ls j k h) (all_stay l ls) (is_comment l) refl refl j k h
  where
    grows_by : ((j k : ℕ) → j ≤ k → comments_above j ls ≤ comments_above k ls) → (s c : Bool) → all_stay l ls ≡ s → is_comment l ≡ c → (j k : ℕ) → j ≤ k → comments_above j (l ∷ ls) ≤ comments_above k (l ∷ ls)
    grows_by again true c e f j k h = omega (arith, above_all j l ls e, above_all k l ls e)
    grows_by again false true e f j k h = omega (arith, above_comment j l ls e f, above_comment k l ls e f, again j k h)
    grows_by again false false e f zero k h = omega (arith, above_first 0 l ls e f refl)
    grows_by again false false e f (suc j) k h =
        omega (arith, above_later (suc j) l ls e f (omega arith), above_later k l ls e f (omega arith), again (suc j - 1) (k - 1) (omega arith))

-- a line that stays is the one of its number
pub line_there : (ls : List (List ℕ)) (k : ℕ) → slice_get (kept ls) k ≡ slice_get ls (k + comments_above k ls)
line_there [] k = refl
line_there (l ∷ ls) k = there_by (λ j. line_there ls j) (all_stay l ls) (is_comment l) refl refl k
  where
    there_by : ((j : ℕ) → slice_get (kept ls) j ≡ slice_get ls (j + comments_above j ls)) → (s c : Bool) → all_stay l ls ≡ s → is_comment l ≡ c → (k : ℕ) → slice_get (kept (l ∷ ls)) k ≡ slice_get (l ∷ ls) (k + comments_above k (l ∷ ls))
    there_by again true c e f k =
        let n : k + comments_above k (l ∷ ls) ≡ k = omega (arith, above_all k l ls e) in
        ap (λ x. slice_get x k) (kept_all l ls e) ∙ ap (slice_get (l ∷ ls)) (sym n)
    there_by again false true e f k =
        let n : k + comments_above k (l ∷ ls) ≡ suc (k + comments_above k ls) = omega (arith, above_comment k l ls e f) in
        ap (λ x. slice_get x k) (kept_comment l ls e f) ∙ (again k ∙ ap (slice_get (l ∷ ls)) (sym n))
    there_by again false false e f zero =
        let n : 0 + comments_above 0 (l ∷ ls) ≡ 0 = omega (arith, above_first 0 l ls e f refl) in
        ap (λ x. slice_get x 0) (kept_line l ls e f) ∙ ap (slice_get (l ∷ ls)) (sym n)
    there_by again false false e f (suc k) =
        let m : suc k - 1 ≡ k = omega arith in
        let a : comments_above (suc k) (l ∷ ls) ≡ comments_above k ls = above_later (suc k) l ls e f (omega arith) ∙ ap (λ x. comments_above x ls) m in
        let n : suc k + comments_above (suc k) (l ∷ ls) ≡ suc (k + comments_above k ls) = omega arith in
        ap (λ x. slice_get x (suc k)) (kept_line l ls e f) ∙ (again k ∙ ap (slice_get (l ∷ ls)) (sym n))

-- a line that stays, or a comment with a line behind it
abbrev pub IsPlaced : List (List ℕ) → ℕ → Type 0
IsPlaced ls i = ((k : ℕ) × (k + comments_above k ls ≡ i)) ⊎ ((i + 1 < length ls) × (is_comment (slice_index_or ls i []) ≡ true))

pub each_placed : (ls : List (List ℕ)) (i : ℕ) → IsPlaced ls i
each_placed [] i = inl (i, omega arith)
each_placed (l ∷ ls) i = placed_by (λ j. each_placed ls j) (all_stay l ls) (is_comment l) refl refl i
  where
    behind_comment : (j : ℕ) → all_stay l ls ≡ false → is_comment l ≡ true → IsPlaced ls j → IsPlaced (l ∷ ls) (suc j)
    behind_comment j e f (inl (k, h)) = inl (k, omega (arith, above_comment k l ls e f))
    behind_comment j e f (inr (h, c)) = inr (omega arith, c)

    behind_line : (j : ℕ) → all_stay l ls ≡ false → is_comment l ≡ false → IsPlaced ls j → IsPlaced (l ∷ ls) (suc j)
    behind_line j e f (inl (k, h)) =
        let m : suc k - 1 ≡ k = omega arith in
        let a : comments_above (suc k) (l ∷ ls) ≡ comments_above k ls = above_later (suc k) l ls e f (omega arith) ∙ ap (λ x. comments_above x ls) m in
        inl (suc k, omega arith)
    behind_line j e f (inr (h, c)) = inr (omega arith, c)

    placed_by : ((j : ℕ) → IsPlaced ls j) → (s c : Bool) → all_stay l ls ≡ s → is_comment l ≡ c → (i : ℕ) → IsPlaced (l ∷ ls) i
    placed_by again true c e f i = inl (i, omega (arith, above_all i l ls e))
    placed_by again false true e f zero = inr (omega (arith, some_length ls (or_parts (is_none ls) (is_closing l) e).0), f)
    placed_by again false true e f (suc j) = behind_comment j e f (again j)
    placed_by again false false e f zero = inl (0, omega (arith, above_first 0 l ls e f refl))
    placed_by again false false e f (suc j) = behind_line j e f (again j)
