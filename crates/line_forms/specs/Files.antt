-- Lines with which texts begin that are no graphs.
use Rattle.std.specs.Prelude.{ℕ, ◌==◌, Bool, false, cond, ◌&&◌, List, ◌∷◌, codes}
use Rattle.std.specs.Str.{bytes_eq}

-- a trace begins with this line
abbrev pub is_trace : List ℕ → Bool
is_trace line = bytes_eq line (codes "realm-trace 1")

-- the mark that some editors put before a text
abbrev pub has_mark : List ℕ → Bool
has_mark (a ∷ b ∷ c ∷ bs) = (a == 239) && ((b == 187) && (c == 191))
has_mark _ = false

-- what is told of a first line that is not that of a graph
abbrev pub first_text : List ℕ → List ℕ
first_text line =
    cond (has_mark line) (codes "a byte-order mark stands before the first word: leave it out\n")
    (cond (bytes_eq line (codes "realm-flow 1")) (codes "a flow begins so: realm-flow makes a graph of it\n")
    (cond (bytes_eq line (codes "realm-session 1")) (codes "a session begins so: realm session runs it, and each of its graphs stands in it from its line realm to end\n")
    (cond (is_trace line) (codes "a trace begins so: realm audit reads it behind its graph\n")
    (cond (bytes_eq line (codes "realm-report 1")) (codes "a report begins so, which realm run writes\n")
    (codes "a graph begins with a line realm 1, realm 2 or realm 3\n")))))

-- and of a line that stands below the line `end`
abbrev pub rest_text : List ℕ → List ℕ
rest_text line = cond (is_trace line) (codes "a trace begins so: realm audit alone reads it behind a graph\n") (codes "the line end is the last of a graph: nothing stands below it, not even an empty line\n")
