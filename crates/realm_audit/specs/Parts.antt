-- The two parts of an input of `audit`: the text of a graph, and behind it that of a trace.
use Rattle.std.specs.Prelude.{ℕ, ◌+◌, ◌==◌, List, length, take, drop, sum_by, count_by, codes}
use Rattle.std.specs.List.{slice_split, before_first}
use Rattle.std.specs.Str.{bytes_eq}

-- the lines of bytes: what stands between their newlines
abbrev pub lines_of : List ℕ → List (List ℕ)
lines_of bytes = slice_split (λ b. b == 10) bytes

-- how many newlines bytes have, and so how many lines that end with one
abbrev pub newlines : List ℕ → ℕ
newlines bytes = count_by (λ b. b == 10) bytes

-- how many bytes the lines take that stand before the first line which is exactly `end`, each with its newline
abbrev pub before_end : List ℕ → ℕ
before_end bytes = sum_by (λ line. length line + 1) (before_first (λ line. bytes_eq line (codes "end")) (lines_of bytes))

-- the bytes up to that line, the line and its newline included, and the bytes behind it; all of them and none of them where no line is
abbrev pub graph_bytes : List ℕ → List ℕ
graph_bytes bytes = take (before_end bytes + 4) bytes

abbrev pub trace_bytes : List ℕ → List ℕ
trace_bytes bytes = drop (before_end bytes + 4) bytes
