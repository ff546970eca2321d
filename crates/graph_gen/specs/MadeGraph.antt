-- The generated graph of a seed and a size: draws from a state of 64 bits, and for each draw the lines of one row of a table.
use Rattle.std.specs.Prelude.{ℕ, zero, suc, ◌+◌, ◌-◌, ◌*◌, ◌/◌, ◌%◌, ◌^◌, ◌==◌, nat_lt, false, nat_le, Bool, true, cond, not, ◌&&◌, List, [], ◌∷◌, ◌++◌, length, map, replicate, slice_index_or, slice_set, Option, Some, None, is_some, codes, decimal}
use Rattle.basics.specs.Lists.{numbers_below}
use Rattle.index_spaces.specs.declared.Op.TheVariants as op
use Rattle.graph_terms.specs.declared.format.Format.TheVariants.{One}
use Rattle.graph_terms.specs.declared.decl.Decl.{Decl}
use Rattle.graph_terms.specs.declared.decl.Decl.TheVariants.{Space, Inst, Lock}
use Rattle.graph_terms.specs.declared.verb.Line.{Line}
use Rattle.graph_terms.specs.declared.verb.Verb.{Verb}
use Rattle.graph_terms.specs.declared.verb.Verb.TheVariants as verb
use Rattle.graph_terms.specs.declared.table.Kernel.TheVariants as kernel
use Rattle.graph_terms.specs.Graph.{GraphValue}
use Rattle.graph_gen.specs.declared.draw.Row.{Row}
use Rattle.graph_gen.specs.declared.draw.Row.TheVariants.{Fill, Iota, Expect, Settle, Copy, Sum, Event, Section}
use Rattle.graph_gen.specs.declared.draw.Draw.{Draw}
use Rattle.graph_gen.specs.declared.make.Making.{Making}

-- the instance of a column of this number, and that of the column of the sums
abbrev pub column_decl : ℕ → Decl
column_decl c = Inst (codes "a" ++ (48 + c) ∷ []) 0 (codes "v" ∷ [])

abbrev pub total_decl : Decl
total_decl = Inst (codes "z") 0 (codes "v" ∷ [])

-- the declarations: a space, eight columns, the column of the sums, and its reservation
abbrev pub made_decls : List Decl
made_decls = Space (codes "s") ((0, 63) ∷ []) ∷ map column_decl (numbers_below 8) ++ total_decl ∷ Lock (codes "l") ∷ []

-- the number of the column of the sums
abbrev pub total_column : ℕ
total_column = 8

-- the name of the line of this number
abbrev pub made_name : ℕ → List ℕ
made_name n = codes "o" ++ decimal n

-- the state after a draw
abbrev pub next_state : ℕ → ℕ
next_state x = (x * 6364136223846793005 + 1442695040888963407) % 2 ^ 64

-- the row of this number
abbrev pub row_at : ℕ → Row
row_at k = cond (k == 0) Fill (cond (k == 1) Iota (cond (k == 2) Expect (cond (k == 3) Settle (cond (k == 4) Copy (cond (k == 5) Sum (cond (k == 6) Event Section))))))

-- what the upper half r of a state tells
abbrev pub draw_from : ℕ → Draw
draw_from r = record { row = row_at (r % 8); column = r / 8 % 8; other = r / 64 % 8; value = r / 65536 }

abbrev pub draw_of : ℕ → Draw
draw_of x = draw_from (x / 2 ^ 32)

-- the last line of a column, where there is one
abbrev pub last_of : List (Option ℕ) → ℕ → Option ℕ
last_of lasts c = slice_index_or lasts c None

-- the condition of a row where so many lines are left
abbrev pub is_open : Row → Draw → List (Option ℕ) → ℕ → Bool
is_open Fill d lasts left = true
is_open Iota d lasts left = true
is_open Expect d lasts left = true
is_open Settle d lasts left = is_some (last_of lasts d.column)
is_open Copy d lasts left = not (d.column == d.other) && (is_some (last_of lasts d.column) && (is_some (last_of lasts d.other) && nat_le 2 left))
is_open Sum d lasts left = not (d.column == d.other) && (is_some (last_of lasts d.column) && (is_some (last_of lasts d.other) && nat_le 2 left))
is_open Event d lasts left = nat_le 2 left
is_open Section d lasts left = nat_le 4 left

-- the row that is taken
abbrev pub row_taken : Draw → List (Option ℕ) → ℕ → Row
row_taken d lasts left = cond (is_open d.row d lasts left) d.row Fill

-- the lines that a merge names: one where both are the same
abbrev pub merged : Option ℕ → Option ℕ → List ℕ
merged None None = []
merged None (Some f) = f ∷ []
merged (Some e) None = e ∷ []
merged (Some e) (Some f) = cond (e == f) (e ∷ []) (e ∷ f ∷ [])

-- the event behind `on`, where there is one
abbrev pub on_lines : Option ℕ → List ℕ
on_lines None = []
on_lines (Some e) = e ∷ []

-- the line of this number
abbrev pub made_line : ℕ → Verb → Option ℕ → Line
made_line n verb on = record { name = made_name n; «verb» = verb; «on» = on_lines on }

-- the lines of a row, the first having number n
abbrev pub row_lines : Row → Draw → List (Option ℕ) → ℕ → List Line
row_lines Fill d lasts n = made_line n (verb.Fill d.column 0 d.value) (last_of lasts d.column) ∷ []
row_lines Iota d lasts n = made_line n (verb.Task (kernel.Iota d.column 0 d.value)) (last_of lasts d.column) ∷ []
row_lines Expect d lasts n = made_line n (verb.Task (kernel.Expect d.column 0 0 60000)) (last_of lasts d.column) ∷ []
row_lines Settle d lasts n = made_line n (verb.MergeIgnore (merged (last_of lasts d.column) None)) None ∷ []
row_lines Copy d lasts n =
    made_line n (verb.Merge (merged (last_of lasts d.column) (last_of lasts d.other))) None
    ∷ made_line (n + 1) (verb.Copy d.column d.other 0) (Some n)
    ∷ []
row_lines Sum d lasts n =
    made_line n (verb.Merge (merged (last_of lasts d.column) (last_of lasts d.other))) None
    ∷ made_line (n + 1) (verb.Reduce op.Sum d.column d.other 0) (Some n)
    ∷ []
row_lines Event d lasts n = made_line n verb.User None ∷ made_line (n + 1) (verb.Trigger n) (last_of lasts d.column) ∷ []
row_lines Section d lasts n =
    made_line n (verb.Acquire 0 false) (last_of lasts d.column)
    ∷ made_line (n + 1) (verb.Reduce op.Sum d.column total_column 0) (Some n)
    ∷ made_line (n + 2) (verb.MergeIgnore ((n + 1) ∷ [])) None
    ∷ made_line (n + 3) (verb.Release n) (Some (n + 2))
    ∷ []

-- the last lines after a row, its first line having number n
abbrev pub lasts_after : Row → Draw → List (Option ℕ) → ℕ → List (Option ℕ)
lasts_after Fill d lasts n = slice_set lasts d.column (Some n)
lasts_after Iota d lasts n = slice_set lasts d.column (Some n)
lasts_after Expect d lasts n = slice_set lasts d.column (Some n)
lasts_after Settle d lasts n = slice_set lasts d.column (Some n)
lasts_after Copy d lasts n = slice_set (slice_set lasts d.column (Some (n + 1))) d.other (Some (n + 1))
lasts_after Sum d lasts n = slice_set (slice_set lasts d.column (Some (n + 1))) d.other (Some (n + 1))
lasts_after Event d lasts n = slice_set lasts d.column (Some n)
lasts_after Section d lasts n = slice_set lasts d.column (Some (n + 3))

-- what stands after some draws
pub record Made : Type 0 where
  pub state : ℕ
  pub lasts : List (Option ℕ)
  pub lines : List Line

-- before any draw
abbrev pub unmade : ℕ → Made
unmade seed = record { state = seed; lasts = replicate 8 None; lines = [] }

-- with a row more
abbrev pub with_row : Row → Draw → ℕ → Made → Made
with_row row d x m = record { state = x; lasts = lasts_after row d m.lasts (length m.lines); lines = m.lines ++ row_lines row d m.lasts (length m.lines) }

-- after one more draw
abbrev pub drawn : ℕ → Draw → ℕ → Made → Made
drawn size d x m = with_row (row_taken d m.lasts (size - length m.lines)) d x m

-- a draw is made while fewer lines stand than the size
abbrev pub one_more : ℕ → Made → Made
one_more size m = cond (nat_lt (length m.lines) size) (drawn size (draw_of (next_state m.state)) (next_state m.state) m) m

abbrev pub after_draws : ℕ → ℕ → ℕ → Made
after_draws seed size zero = unmade seed
after_draws seed size (suc n) = one_more size (after_draws seed size n)

-- the graph: each draw adds a line at least, so as many draws as lines are enough
abbrev pub made_graph : ℕ → ℕ → GraphValue
made_graph seed size = record { format = One; decls = made_decls; lines = (after_draws seed size size).lines }

-- what stands while the graph is made
abbrev pub made_of : Making → Made
made_of m = record { state = m.state; lasts = m.lasts.lines; lines = m.graph.lines }
