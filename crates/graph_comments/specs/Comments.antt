-- Lines of a text that say nothing, and the text without them.
use Rattle.std.specs.Prelude.{ℕ, ◌+◌, ◌-◌, ◌==◌, nat_le, Bool, true, false, cond, ◌||◌, List, [], ◌∷◌, drop, codes, ◌≡◌, ◌<◌, length, Option, Some, None}
use Rattle.std.specs.List.{slice_split, join_with_byte}
use Rattle.std.specs.Str.{bytes_eq}

-- the lines of a text: what stands between its newlines, one more than these, so that the last one has no newline
abbrev pub lines : List ℕ → List (List ℕ)
lines bytes = slice_split (λ b. b == 10) bytes

-- the text of lines, with a newline between each two
abbrev pub joined : List (List ℕ) → List ℕ
joined ls = join_with_byte 10 ls

-- a line that says nothing: it is empty, or its first byte is `#`
abbrev pub is_comment : List ℕ → Bool
is_comment [] = true
is_comment (b ∷ bs) = b == 35

-- the line that closes a text
abbrev pub is_closing : List ℕ → Bool
is_closing line = bytes_eq line (codes "end")

abbrev pub is_none : List (List ℕ) → Bool
is_none [] = true
is_none (l ∷ ls) = false

-- a line from which on all stay: the last one, which has no newline, or the closing one
abbrev pub all_stay : List ℕ → List (List ℕ) → Bool
all_stay line behind = is_none behind || is_closing line

-- the lines behind the first that stay: comments go, up to the closing line
abbrev pub kept : List (List ℕ) → List (List ℕ)
kept [] = []
kept (l ∷ ls) = cond (all_stay l ls) (l ∷ ls) (cond (is_comment l) (kept ls) (l ∷ kept ls))

-- the lines of a text that stay, of which the first always does
abbrev pub bare_lines : List (List ℕ) → List (List ℕ)
bare_lines [] = []
bare_lines (l ∷ ls) = l ∷ kept ls

-- a text without its comments
abbrev pub bare_text : List ℕ → List ℕ
bare_text bytes = joined (bare_lines (lines bytes))

-- how many comments stand above the line of place k among those that stay
abbrev pub comments_above : ℕ → List (List ℕ) → ℕ
comments_above k [] = 0
comments_above k (l ∷ ls) =
    cond (all_stay l ls) 0 (cond (is_comment l) (1 + comments_above k ls) (cond (k == 0) 0 (comments_above (k - 1) ls)))

-- the number in the whole text of a line that has this number without comments, both counted from 1
abbrev pub number_in_whole : List ℕ → ℕ → ℕ
number_in_whole bytes number = number + cond (nat_le number 1) 0 (comments_above (number - 2) (drop 1 (lines bytes)))

-- the text without comments, where there are some, or None
abbrev pub IsBare : List ℕ → Option (List ℕ) → Type 0
IsBare bytes None = bare_text bytes ≡ bytes
IsBare bytes (Some bare) = (bare ≡ bare_text bytes) × (length bare < length bytes)
