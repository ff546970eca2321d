-- How markings follow each other.
use Rattle.std.specs.Prelude.{ℕ, ◌≤◌, ◌⊎◌, List, length}
use Rattle.line_marks.specs.Marking.{unmarked, IsMarking}

-- some lines are marked, and then others: these are all of them
abbrev pub MarksMore : Type 1
MarksMore = (S T U : ℕ → Type 0) (mark : ℕ) (old before mid between new pending : List ℕ) → IsMarking S mark old before mid between → IsMarking T mark mid between new pending →
    ((i : ℕ) → S i → U i) → ((i : ℕ) → T i → U i) → ((i : ℕ) → U i → S i ⊎ T i) → IsMarking U mark old before new pending

-- the same lines, said otherwise
abbrev pub MarksAs : Type 1
MarksAs = (S T : ℕ → Type 0) (mark : ℕ) (old before new pending : List ℕ) → ((i : ℕ) → S i → T i) → ((i : ℕ) → T i → S i) → IsMarking S mark old before new pending → IsMarking T mark old before new pending

-- no more lines are unmarked than there are
abbrev pub UnmarkedMost : Type 0
UnmarkedMost = (marks : List ℕ) → unmarked marks ≤ length marks
