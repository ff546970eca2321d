-- Comments that are counted once are those above each line.
use Rattle.std.proofs.Common.{◌≡◌, ℕ, zero, suc, ◌+◌, ◌≤◌, Bool, true, false, cond, List, [], ◌∷◌, length, sym, ◌∙◌, ap, arith}
use Rattle.std.specs.Prelude.{◌-◌, ◌==◌, drop}
use Rattle.std.specs.List.{slice_index_or}
use Rattle.std.proofs.lemmas.Bool.{cond-false, ne_eqb}
use Rattle.graph_comments.specs.Comments.{is_comment, all_stay, comments_above}
use Rattle.explain_text.specs.Comments.{counts_from, all_counted, count_at, AreCounts}
use Rattle.explain_text.specs.declared.comment_counts.Counts.{Counts}

-- of a place behind the first line that stays
pub next_place : (k : ℕ) (ls : List (List ℕ)) → cond (suc k == 0) 0 (comments_above (suc k - 1) ls) ≡ comments_above k ls
next_place k ls =
    let before : suc k - 1 ≡ k = omega arith in
    cond-false (suc k == 0) 0 (comments_above (suc k - 1) ls) (ne_eqb (suc k) 0 (λ e. let z : suc k ≡ 0 = e in absurd (omega arith))) ∙ ap (λ x. comments_above x ls) before

counted_by : (stay comment : Bool) (n k : ℕ) (ls : List (List ℕ)) → ((m j : ℕ) → m + comments_above j ls ≡ slice_index_or (counts_from m ls) j (all_counted m ls)) →
    n + cond stay 0 (cond comment (1 + comments_above k ls) (cond (k == 0) 0 (comments_above (k - 1) ls))) ≡ slice_index_or (cond stay [] (cond comment (counts_from (n + 1) ls) (n ∷ counts_from n ls))) k (cond stay n (cond comment (all_counted (n + 1) ls) (all_counted n ls)))
counted_by true comment n k ls more = (let z : n + 0 ≡ n = omega arith in z)
counted_by false true n k ls more =
    let step : n + (1 + comments_above k ls) ≡ n + 1 + comments_above k ls = omega arith in
    step ∙ more (n + 1) k
counted_by false false n zero ls more = (let z : n + 0 ≡ n = omega arith in z)
counted_by false false n (suc k) ls more = ap (λ x. n + x) (next_place k ls) ∙ more n k

-- by the counts from n on
pub counted : (n k : ℕ) (ls : List (List ℕ)) → n + comments_above k ls ≡ slice_index_or (counts_from n ls) k (all_counted n ls)
counted n k [] = (let z : n + 0 ≡ n = omega arith in z)
counted n k (l ∷ ls) = counted_by (all_stay l ls) (is_comment l) n k ls (λ m j. counted m j ls)

few_by : (stay comment : Bool) (k : ℕ) (ls : List (List ℕ)) → ((j : ℕ) → comments_above j ls ≤ length ls) → cond stay 0 (cond comment (1 + comments_above k ls) (cond (k == 0) 0 (comments_above (k - 1) ls))) ≤ suc (length ls)
few_by true comment k ls more = omega arith
few_by false true k ls more = (let e = more k in omega arith)
few_by false false zero ls more = omega arith
few_by false false (suc k) ls more = (let e = more k in let same = next_place k ls in omega (arith, e, same))

few_above : (k : ℕ) (ls : List (List ℕ)) → comments_above k ls ≤ length ls
few_above k [] = omega arith
few_above k (l ∷ ls) = few_by (all_stay l ls) (is_comment l) k ls (λ j. few_above j ls)

drop_few : (ls : List (List ℕ)) → length (drop 1 ls) ≤ length ls
drop_few [] = omega arith
drop_few (l ∷ ls) = omega arith

few_behind : (k : ℕ) (ls : List (List ℕ)) → comments_above k (drop 1 ls) ≤ length ls
few_behind k ls = (let a = few_above k (drop 1 ls) in let b = drop_few ls in omega (arith, a, b))

count_is : (c : Counts) (ls : List (List ℕ)) (k : ℕ) → AreCounts c ls → count_at c k ≡ comments_above k (drop 1 ls)
count_is c ls k are =
    let none : 0 + comments_above k (drop 1 ls) ≡ comments_above k (drop 1 ls) = omega arith in
    ap (λ xs. slice_index_or xs k c.all) are.above ∙ (ap (slice_index_or (counts_from 0 (drop 1 ls)) k) are.all ∙ (sym (counted 0 k (drop 1 ls)) ∙ none))

-- of the lines behind the first of these lines
pub above_at : (c : Counts) (own ls : List (List ℕ)) (k n : ℕ) → AreCounts c own → own ≡ ls → n ≡ count_at c k → n ≡ comments_above k (drop 1 ls)
above_at c own ls k n are same is = is ∙ (count_is c own k are ∙ ap (λ xs. comments_above k (drop 1 xs)) same)

-- which are no more than the lines
pub few_at : (ls : List (List ℕ)) (k n : ℕ) → n ≡ comments_above k (drop 1 ls) → n ≤ length ls
few_at ls k n is = (let a = few_behind k ls in omega (arith, a, is))
