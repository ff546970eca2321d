-- What the text without comments is: its lines are those of the whole, in order, and only comments are left out.
use Rattle.std.specs.Prelude.{◌≡◌, ◌⊎◌, ℕ, ◌-◌, ◌<◌, ◌≤◌, true, List, [], length, slice_get, slice_index_or}
use Rattle.graph_comments.specs.Comments.{lines, is_comment, bare_text, number_in_whole}

-- a line of the text without comments is the line of its number in the whole, and where the one has none, the other has none
abbrev pub LinesStay : Type 0
LinesStay = (bytes : List ℕ) (number : ℕ) → 1 ≤ number →
    slice_get (lines (bare_text bytes)) (number - 1) ≡ slice_get (lines bytes) (number_in_whole bytes number - 1)

-- the numbers grow
abbrev pub NumbersGrow : Type 0
NumbersGrow = (bytes : List ℕ) (n m : ℕ) → n < m → number_in_whole bytes n < number_in_whole bytes m

-- line m of the whole is a comment: it is not the first line, and it has its newline
abbrev pub IsCommentAt : List ℕ → ℕ → Type 0
IsCommentAt bytes m = (1 < m) × (m < length (lines bytes)) × (is_comment (slice_index_or (lines bytes) (m - 1) []) ≡ true)

-- a line of the whole stays, or it is a comment
abbrev pub CommentsGo : Type 0
CommentsGo = (bytes : List ℕ) (m : ℕ) → 1 ≤ m → ((number : ℕ) × (number_in_whole bytes number ≡ m)) ⊎ IsCommentAt bytes m

-- the text without comments has none
abbrev pub NoneIsLeft : Type 0
NoneIsLeft = (bytes : List ℕ) → bare_text (bare_text bytes) ≡ bare_text bytes

-- in a text without comments each line keeps its number
abbrev pub NumbersStay : Type 0
NumbersStay = (bytes : List ℕ) (number : ℕ) → bare_text bytes ≡ bytes → number_in_whole bytes number ≡ number
