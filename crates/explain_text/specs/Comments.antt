-- How many comments stand above the lines of a text that stay, as they are counted once.
use Rattle.std.specs.Prelude.{◌≡◌, ℕ, ◌+◌, cond, List, [], ◌∷◌, drop}
use Rattle.std.specs.List.{slice_index_or}
use Rattle.graph_comments.specs.Comments.{is_comment, all_stay}
use Rattle.explain_text.specs.declared.comment_counts.Counts.{Counts}

-- above each line that stays and stands above the one from which on all do, where n stand above these lines
abbrev pub counts_from : ℕ → List (List ℕ) → List ℕ
counts_from n [] = []
counts_from n (l ∷ ls) = cond (all_stay l ls) [] (cond (is_comment l) (counts_from (n + 1) ls) (n ∷ counts_from n ls))

-- and above that one
abbrev pub all_counted : ℕ → List (List ℕ) → ℕ
all_counted n [] = n
all_counted n (l ∷ ls) = cond (all_stay l ls) n (cond (is_comment l) (all_counted (n + 1) ls) (all_counted n ls))

-- the count of the line of place k
abbrev pub count_at : Counts → ℕ → ℕ
count_at c k = slice_index_or c.above.items k c.all

-- the counts of the lines behind the first
pub record AreCounts (c : Counts) (ls : List (List ℕ)) : Type 0 where
  pub above : c.above.items ≡ counts_from 0 (drop 1 ls)
  pub all : c.all ≡ all_counted 0 (drop 1 ls)
