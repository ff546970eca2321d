-- What no line of a text has in it.
use Rattle.std.specs.Prelude.{ℕ, ◌-◌, ◌==◌, Bool, true, false, cond, List, [], ◌∷◌, length, slice_get, codes, Option, Some, None}
use Rattle.std.specs.Option.{option_map_or}
use Rattle.std.specs.List.{list_any}
use Rattle.line_forms.specs.declared.blanks.Blank.{Blank}
use Rattle.line_forms.specs.declared.blanks.Blank.TheVariants.{Return, Empty, Comment, Tab, Spaces}

abbrev pub is_empty : List ℕ → Bool
is_empty [] = true
is_empty (b ∷ bs) = false

-- the last byte is a carriage return
abbrev pub ends_with_return : List ℕ → Bool
ends_with_return line = option_map_or (λ b. b == 13) (slice_get line (length line - 1)) false

abbrev pub begins_comment : List ℕ → Bool
begins_comment [] = false
begins_comment (b ∷ bs) = b == 35

abbrev pub has_tab : List ℕ → Bool
has_tab line = list_any (λ b. b == 9) line

-- the first of them that a line of these words has
abbrev pub blank_in : List ℕ → List (List ℕ) → Option Blank
blank_in line ws =
    cond (ends_with_return line) (Some Return)
    (cond (is_empty line) (Some Empty)
    (cond (begins_comment line) (Some Comment)
    (cond (has_tab line) (Some Tab)
    (cond (list_any is_empty ws) (Some Spaces) None))))

abbrev pub blank_text : Blank → List ℕ
blank_text Return = codes "the line ends with a carriage return: lines end with a newline alone\n"
blank_text Empty = codes "the line is empty: formats 1 and 2 have no blank lines\nformat 3 has them, from the second line on\n"
blank_text Comment = codes "the line begins with #: formats 1 and 2 have no comments\nformat 3 has them, from the second line on\n"
blank_text Tab = codes "the line has a tab: one space stands between two words\n"
blank_text Spaces = codes "two spaces stand side by side, or one at an end: one stands between two words\n"
