-- The text of a line that is refused.
use Rattle.std.specs.Prelude.{ℕ, ◌+◌, ◌-◌, nat_lt, cond, List, [], ◌++◌, length, map, flat_map, take, codes, decimal, Option, Some, None}
use Rattle.std.specs.List.{slice_index_or}
use Rattle.graph_terms.specs.declared.why.Why.{Why}
use Rattle.graph_terms.specs.declared.why.Why.TheVariants as why
use Rattle.graph_terms.specs.Graph.{GraphValue}
use Rattle.graph_terms.specs.Spelling.{why_word}
use Rattle.refused_words.specs.declared.limits.Quantity.{Quantity}
use Rattle.explain_text.specs.TextLines.{TextLines}
use Rattle.explain_text.specs.Shown.{shown}
use Rattle.explain_text.specs.Visible.{visible}
use Rattle.explain_text.specs.declared.bounds.TheConstants.{MAX_SHOWN}
use Rattle.explain_text.specs.Lines.{by_number, line_of}

-- the line that `realm check` writes, and the line itself as it is told
abbrev pub unread_text : List (List ℕ) → ℕ → Why → List ℕ
unread_text ls number reason =
    codes "refused line " ++ (decimal number ++ (codes " " ++ (why_word reason ++ (codes "\nline " ++ (decimal number ++ (codes ": " ++ (shown (slice_index_or ls (number - 1) []) ++ codes "\n")))))))

-- spaces as wide as a word is written, with a space behind it
abbrev pub blank_word : List ℕ → List ℕ
blank_word w = map (λ b. 32) (visible w) ++ codes " "

-- `^` below each byte of a word, as it is written, of the line that was put with its number
abbrev pub below_word : ℕ → List (List ℕ) → ℕ → List ℕ
below_word number ws k =
    codes "     " ++ (map (λ d. 32) (decimal number) ++ (codes "  " ++ (flat_map blank_word (take k ws) ++ (map (λ b. 94) (visible (slice_index_or ws k [])) ++ codes "\n"))))

-- the number of a word, from 1, and the word
abbrev pub word_text : List (List ℕ) → ℕ → List ℕ
word_text ws k = codes "word " ++ (decimal (length (take k ws) + 1) ++ (codes " of it is refused: " ++ (shown (slice_index_or ws k []) ++ codes "\n")))

-- the word of a line that is refused, marked below it, or by its number where the line is not told whole; or that the whole line is refused
abbrev pub mark_text : ℕ → List ℕ → List (List ℕ) → Option ℕ → List ℕ
mark_text number line ws None = codes "the whole line is refused\n"
mark_text number line ws (Some k) = cond (nat_lt MAX_SHOWN (length line)) (word_text ws k) (below_word number ws k)

-- what of the line is refused; for Missing there is no whole line
abbrev pub refused_text : Why → ℕ → List ℕ → List (List ℕ) → Option ℕ → List ℕ
refused_text why.Missing number line ws mark = codes "the text ends here: a line `end`, with its newline, is missing\n"
refused_text _ number line ws mark = mark_text number line ws mark

-- the line that has done already what the refused line would do
abbrev pub ended_text : GraphValue → TextLines → Option ℕ → List ℕ
ended_text g ls None = []
ended_text g ls (Some i) = by_number g ls i ++ (codes " has ended or released it already" ++ (codes ": " ++ (shown (line_of g ls i) ++ codes "\n")))

-- a quantity with its value and its bound
abbrev pub passed_text : Quantity → List ℕ
passed_text p = p.name.now ++ (codes ": " ++ (decimal p.value ++ (codes ", and at most " ++ (decimal p.bound ++ codes "\n"))))

abbrev pub limit_text : Option Quantity → List ℕ
limit_text None = []
limit_text (Some p) = passed_text p
