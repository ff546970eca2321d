-- The first lines of a text, and those behind them.
use Rattle.std.proofs.Common.{◌≡◌, ℕ, zero, suc, ◌+◌, ◌-◌, ◌<◌, ◌≤◌, Bool, true, false, cond, List, [], ◌∷◌, ◌++◌, length, drop, Bor, refl, sym, ◌∙◌, ap, arith}
use Rattle.std.specs.Prelude.{◌==◌, nat_le, codes, decimal, None, Result, Ok, Err, IfOk}
use Rattle.std.specs.List.{list_any, slice_index_or}
use Rattle.std.proofs.lemmas.List.{append-nil, get_or_append_left}
use Rattle.basics.specs.Words.{contents}
use Rattle.graph_words.specs.Words.{pieces}
use Rattle.graph_words.proofs.Public.{one_piece}
use Rattle.graph_comments.specs.Comments.{is_closing, is_comment, comments_above}
use Rattle.graph_words.specs.Text.{has_comments}
use Rattle.graph_terms.specs.Graph.{GraphValue}
use Rattle.explain_text.specs.TextLines.{TextLines}
use Rattle.explain_text.specs.Shown.{shown}
use Rattle.explain_text.specs.Lines.{line_number}
use Rattle.explain_text.specs.Laws.{EndedStays}
use Rattle.explain_text.proofs.CommentFacts.{next_place}
use Rattle.explain_text.specs.Front.{behind}
use Rattle.explain_text.specs.declared.split.FrontLines.{FrontLines}

-- where no newline is left
pub all_pieces : {E : Type 0} (r : Result FrontLines E) (parts : List (Bor (List ℕ))) (last bytes : List ℕ) → list_any (λ b. b == 10) last ≡ false → contents parts ++ pieces 10 last ≡ pieces 10 bytes
    → IfOk r (λ v. (contents v.lines.items ≡ contents parts ++ last ∷ []) × (v.rest ≡ None)) → IfOk r (λ v. contents v.lines.items ++ behind v.rest ≡ pieces 10 bytes)
all_pieces (Ok v) parts last bytes none same is =
    ap (λ o. contents v.lines.items ++ behind o) is.1 ∙ (append-nil (contents v.lines.items) ∙ (is.0 ∙ (ap (λ z. contents parts ++ z) (sym (one_piece 10 last none)) ∙ same)))
all_pieces (Err e) parts last bytes none same is = tt

-- the comments above a line that is not the last one
above_by : (closing comment : Bool) (k : ℕ) (ls more : List (List ℕ)) → ((j : ℕ) → j + comments_above j ls + 1 < length ls → comments_above j (ls ++ more) ≡ comments_above j ls) →
    k + cond closing 0 (cond comment (1 + comments_above k ls) (cond (k == 0) 0 (comments_above (k - 1) ls))) + 1 < suc (length ls) →
    cond closing 0 (cond comment (1 + comments_above k (ls ++ more)) (cond (k == 0) 0 (comments_above (k - 1) (ls ++ more)))) ≡ cond closing 0 (cond comment (1 + comments_above k ls) (cond (k == 0) 0 (comments_above (k - 1) ls)))
above_by true comment k ls more further below = refl
above_by false true k ls more further below = ap (λ n. 1 + n) (further k (omega (arith, below)))
above_by false false zero ls more further below = refl
above_by false false (suc k) ls more further below = next_place k (ls ++ more) ∙ (further k (omega (arith, below, next_place k ls)) ∙ sym (next_place k ls))

above_kept : (k : ℕ) (ls more : List (List ℕ)) → k + comments_above k ls + 1 < length ls → comments_above k (ls ++ more) ≡ comments_above k ls
above_kept k [] more below = absurd (omega (arith, below))
above_kept k (l ∷ []) more below = absurd (omega (arith, below))
above_kept k (l ∷ m ∷ ls) more below = above_by (is_closing l) (is_comment l) k (m ∷ ls) more (λ j b. above_kept j (m ∷ ls) more b) below

-- its number, and the line
number_by : (has first : Bool) (n : ℕ) (ls more : List (List ℕ)) → 2 ≤ n → cond has (n + cond first 0 (comments_above (n - 2) (drop 1 ls))) n < length ls →
    cond has (n + cond first 0 (comments_above (n - 2) (drop 1 (ls ++ more)))) n ≡ cond has (n + cond first 0 (comments_above (n - 2) (drop 1 ls))) n
number_by false first n ls more two below = refl
number_by true true n ls more two below = refl
number_by true false n [] more two below = absurd (omega (arith, below))
number_by true false n (l ∷ ls) more two below = ap (λ c. n + c) (above_kept (n - 2) ls more (omega (arith, two, below)))

module _ (g : GraphValue) (ls : TextLines) (more : List (List ℕ)) (i : ℕ) (below : line_number g ls i < length ls.lines) where
  abbrev longer : TextLines
  longer = record { bytes = ls.bytes; lines = ls.lines ++ more; all = ls.all }

  number_stays : line_number g longer i ≡ line_number g ls i
  number_stays = number_by (has_comments ls.bytes) (nat_le (i + length g.decls + 2) 1) (i + length g.decls + 2) ls.lines more (omega arith) below

  line_stays : slice_index_or (ls.lines ++ more) (line_number g longer i - 1) [] ≡ slice_index_or ls.lines (line_number g ls i - 1) []
  line_stays = ap (λ n. slice_index_or (ls.lines ++ more) (n - 1) []) number_stays ∙ get_or_append_left ls.lines more [] (line_number g ls i - 1) (omega (arith, below))

  text_stays : (codes "line " ++ decimal (line_number g longer i)) ++ (codes " has ended or released it already" ++ (codes ": " ++ (shown (slice_index_or (ls.lines ++ more) (line_number g longer i - 1) []) ++ codes "\n")))
      ≡ (codes "line " ++ decimal (line_number g ls i)) ++ (codes " has ended or released it already" ++ (codes ": " ++ (shown (slice_index_or ls.lines (line_number g ls i - 1) []) ++ codes "\n")))
  text_stays =
      ap (λ n. (codes "line " ++ decimal n) ++ (codes " has ended or released it already" ++ (codes ": " ++ (shown (slice_index_or (ls.lines ++ more) (line_number g longer i - 1) []) ++ codes "\n")))) number_stays
      ∙ ap (λ l. (codes "line " ++ decimal (line_number g ls i)) ++ (codes " has ended or released it already" ++ (codes ": " ++ (shown l ++ codes "\n")))) line_stays

pub ended_stays : EndedStays
ended_stays g ls more i below = text_stays g ls more i below
