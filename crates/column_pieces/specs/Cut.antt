-- Graphs whose columns are cut into pieces: each cell of a column lies in one piece, and each line names, in place of a column, the piece that has the points of its access.
use Rattle.std.specs.Prelude.{◌≡◌, ℕ, ◌+◌, ◌<◌, List, [], ◌∷◌, length, Contains, IsTrue}
use Rattle.index_spaces.specs.Space.{has_point}
use Rattle.graph_terms.specs.declared.verb.Access.{Access}
use Rattle.graph_terms.specs.declared.verb.Line.{Line}
use Rattle.graph_terms.specs.declared.verb.Verb.{Verb}
use Rattle.graph_terms.specs.declared.verb.Verb.TheVariants.{Fill, Copy, Reduce, Task}
use Rattle.graph_terms.specs.declared.table.Kernel.{Kernel}
use Rattle.graph_terms.specs.declared.table.Kernel.TheVariants.{Iota, Axpy, Stencil, Scan, Hist, Dot, Expect, Gather}
use Rattle.graph_terms.specs.Graph.{GraphValue, columns, column_space, space_at, barriers}
use Rattle.graph_terms.specs.Access.{accesses, all_accesses}

-- how columns are cut: the piece that has the cell of a column at a point, the piece that stands for a column in a line, and the column that a piece is of
pub record Cut : Type 0 where
  pub piece : ℕ → ℕ → ℕ
  pub named : ℕ → ℕ → ℕ
  pub column : ℕ → ℕ

-- a kernel with other columns
abbrev pub kernel_on : (ℕ → ℕ) → Kernel → Kernel
kernel_on r (Iota x s value) = Iota (r x) s value
kernel_on r (Axpy x y s factor) = Axpy (r x) (r y) s factor
kernel_on r (Stencil x y b s) = Stencil (r x) (r y) b s
kernel_on r (Scan x y s) = Scan (r x) (r y) s
kernel_on r (Hist x y s t) = Hist (r x) (r y) s t
kernel_on r (Dot x y z s t) = Dot (r x) (r y) (r z) s t
kernel_on r (Expect x s low high) = Expect (r x) s low high
kernel_on r (Gather x y z s t) = Gather (r x) (r y) (r z) s t

-- a verb with other columns; those of data stay
abbrev pub verb_on : (ℕ → ℕ) → Verb → Verb
verb_on r (Fill target s value) = Fill (r target) s value
verb_on r (Copy source target s) = Copy (r source) (r target) s
verb_on r (Reduce op source target s) = Reduce op (r source) (r target) s
verb_on r (Task kernel) = Task (kernel_on r kernel)
verb_on r v = v

-- a line with other columns
abbrev pub line_on : (ℕ → ℕ) → Line → Line
line_on r l = record { name = l.name; verb = verb_on r l.verb; «on» = l.on }

-- lines with pieces in place of columns, the first having number n
abbrev pub lines_on : (ℕ → ℕ → ℕ) → ℕ → List Line → List Line
lines_on named n [] = []
lines_on named n (l ∷ ls) = line_on (named n) l ∷ lines_on named (n + 1) ls

-- h is g with its columns cut: the same lines, but for pieces in place of columns
pub record IsCut (g h : GraphValue) (cut : Cut) : Type 0 where
  pub lines : h.lines ≡ lines_on cut.named 0 g.lines
  pub barriers : barriers h ≡ barriers g
  -- the spaces of accesses are the same
  pub spaces : (i : ℕ) (a : Access) → Contains (all_accesses g i) a → space_at h a.space ≡ space_at g a.space
  -- the points of an access lie in the piece that its line names
  pub within : (i : ℕ) (a : Access) (p : ℕ) → Contains (accesses g i) a → IsTrue (has_point (space_at g a.space) p) → cut.piece a.column p ≡ cut.named i a.column
  -- a piece is of one column
  pub cell : (c p : ℕ) → cut.column (cut.piece c p) ≡ c
  pub use_of : (i c : ℕ) → cut.column (cut.named i c) ≡ c
  -- a cell that a column of h has lies in its space
  pub has : (c p : ℕ) → cut.piece c p < length (columns h) → IsTrue (has_point (column_space h (cut.piece c p)) p)
