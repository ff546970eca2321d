-- The text of a graph has no comments.
use Rattle.std.proofs.Common.{◌≡◌, ℕ, ◌+◌, ◌<◌, Bool, true, false, cond, List, [], ◌∷◌, ◌++◌, length, map, refl, sym, ◌∙◌, ap, append_assoc, length-append, arith}
use Rattle.std.specs.Prelude.{codes}
use Rattle.std.proofs.lemmas.Bool.{cond-true, cond-false}
use Rattle.graph_comments.specs.Comments.{is_comment, joined, all_stay, kept, bare_lines, bare_text}
use Rattle.graph_terms.specs.Graph.{GraphValue}
use Rattle.graph_terms.specs.Fits.{IsGraph}
use Rattle.graph_words.specs.Words.{pieces}
use Rattle.graph_words.specs.Text.{text, closing, has_comments, bare_of}
use Rattle.graph_reader.specs.Laws.{TextsAreBare}
use Rattle.word_meanings.proofs.Public.{joined_pieces}
use Rattle.graph_reader.proofs.TextLines.{ArePlain, line_text, head_pieces}
use Rattle.basics.proofs.TestedLists.{each_append}

same_side : (b : Bool) (ls : List (List ℕ)) → cond b ls ls ≡ ls
same_side true ls = refl
same_side false ls = refl

-- lines that are no comments stay above lines that stay
all_kept : (xs ys : List (List ℕ)) → ArePlain xs → kept ys ≡ ys → kept (xs ++ ys) ≡ xs ++ ys
all_kept [] ys a k = k
all_kept (x ∷ xs) ys a k =
    ap (λ b. cond (all_stay x (xs ++ ys)) (x ∷ (xs ++ ys)) (cond b (kept (xs ++ ys)) (x ∷ kept (xs ++ ys)))) a.0
    ∙ (ap (λ zs. cond (all_stay x (xs ++ ys)) (x ∷ (xs ++ ys)) (x ∷ zs)) (all_kept xs ys a.1 k) ∙ same_side (all_stay x (xs ++ ys)) (x ∷ (xs ++ ys)))

all_bare : (xs ys : List (List ℕ)) → 0 < length xs → ArePlain xs → kept ys ≡ ys → bare_lines (xs ++ ys) ≡ xs ++ ys
all_bare [] ys l a k = absurd (omega arith)
all_bare (x ∷ xs) ys l a k = ap (λ zs. x ∷ zs) (all_kept xs ys a.1 k)

-- the lines behind all operations: the closing one, and nothing behind its newline
abbrev last_lines : List (List ℕ)
last_lines = codes "end" ∷ [] ∷ []

bare_head : (g : GraphValue) → IsGraph g → bare_text (text g) ≡ text g
bare_head g h =
    let p = head_pieces g closing h in
    let many : length p.front ≡ length g.decls + 1 = p.many in
    let front : List (List ℕ) = p.front ++ map (line_text g) g.lines in
    let long : length front ≡ length p.front + length (map (line_text g) g.lines) = length-append p.front (map (line_text g) g.lines) in
    let all : pieces 10 (text g) ≡ front ++ last_lines = p.split ∙ sym (append_assoc p.front (map (line_text g) g.lines) last_lines) in
    ap (λ ls. joined (bare_lines ls)) all
    ∙ (ap joined (all_bare front last_lines (omega arith) (each_append (λ l. is_comment l ≡ false) p.front (map (line_text g) g.lines) p.plain p.plain_lines) refl)
    ∙ (ap joined (sym all) ∙ joined_pieces 10 (text g)))

pub texts_are_bare : TextsAreBare
texts_are_bare g h = by (has_comments (text g)) refl
  where
    by : (b : Bool) → has_comments (text g) ≡ b → bare_of (text g) ≡ text g
    by true e = cond-true (has_comments (text g)) (bare_text (text g)) (text g) e ∙ bare_head g h
    by false e = cond-false (has_comments (text g)) (bare_text (text g)) (text g) e
