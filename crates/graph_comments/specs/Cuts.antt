-- Where the first line of a text ends.
use Rattle.std.specs.Prelude.{◌≡◌, ℕ, ◌+◌, ◌==◌, ◌≤◌, ◌<◌, false, cond, List, [], ◌∷◌, ◌++◌, length, take, drop}
use Rattle.std.specs.List.{list_any}
use Rattle.graph_comments.specs.Comments.{lines, joined, is_comment, kept, bare_text}

-- a text by its first line and what stands behind the newline of that
pub record IsFirstLine (bytes line behind : List ℕ) : Type 0 where
  pub whole : bytes ≡ line ++ 10 ∷ behind
  pub one_line : list_any (λ b. b == 10) line ≡ false

-- bytes are passed up to this rest, which begins a line, and no comment was among them
pub record IsPassed (bytes rest : List ℕ) : Type 0 where
  pub front : List ℕ
  pub whole : bytes ≡ front ++ rest
  pub bare : bare_text bytes ≡ front ++ joined (kept (lines rest))

-- the first comment begins behind so many bytes
pub record IsFirstComment (bytes : List ℕ) (first : ℕ) : Type 0 where
  pub within : first ≤ length bytes
  pub bare : bare_text bytes ≡ take first bytes ++ joined (kept (lines (drop first bytes)))
  pub fewer : length (bare_text bytes) < length bytes

-- what stays of the first line of bytes, which has its newline
abbrev pub line_part : List ℕ → List ℕ → List ℕ
line_part line bytes = cond (is_comment line) [] (take (length line + 1) bytes)
