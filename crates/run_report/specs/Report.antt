-- The report of an outcome.
use Rattle.std.specs.Prelude.{◌≡◌, ℕ, ◌+◌, Bool, true, false, List, [], ◌∷◌, ◌++◌, ◌-◌, length, map, flat_map, take, drop, Option, Some, None, codes, decimal}
use Rattle.index_spaces.specs.Space.{interval_points}
use Rattle.index_spaces.specs.Column.{ColumnValue}
use Rattle.graph_terms.specs.declared.outcome.Outcome.{Outcome}
use Rattle.graph_terms.specs.declared.outcome.End.{End}
use Rattle.graph_terms.specs.declared.outcome.End.TheVariants.{Done, Faulted, Cancelled, Waiting}
use Rattle.graph_terms.specs.declared.outcome.Answer.{Answer}
use Rattle.graph_terms.specs.declared.outcome.Answer.TheVariants.{Triggered, Poisoned, Pending}
use Rattle.graph_terms.specs.declared.verb.Line.{Line}
use Rattle.graph_terms.specs.Graph.{GraphValue, is_phase, columns}
use Rattle.graph_terms.specs.Spelling.{spelled, column_name, interval_word}
use Rattle.graph_meaning.specs.Evaluation.{outcome, order}

abbrev pub end_word : End → List ℕ
end_word Done = codes "done"
end_word Faulted = codes "faulted"
end_word Cancelled = codes "cancelled"
end_word Waiting = codes "waiting"

abbrev pub answer_word : Answer → List ℕ
answer_word Triggered = codes "triggered"
answer_word Poisoned = codes "poisoned"
answer_word Pending = codes "pending"

-- what stands behind the name of an operation in its line
abbrev pub op_rest : End → Answer → List ℕ
op_rest e a = 32 ∷ (end_word e ++ 32 ∷ (answer_word a ++ 10 ∷ []))

-- the line of an operation: how it ended, and what its handle answers
abbrev pub op_text : Line → End → Answer → List ℕ
op_text l e a = spelled (codes "op" ∷ l.name ∷ end_word e ∷ answer_word a ∷ [])

abbrev pub op_texts : List Line → List End → List Answer → List ℕ
op_texts (l ∷ ls) (e ∷ es) (a ∷ as') = op_text l e a ++ op_texts ls es as'
op_texts _ _ _ = []

-- the lines of the operations from place i on
abbrev pub op_texts_from : List Line → List End → List Answer → ℕ → List ℕ
op_texts_from ls es as' i = op_texts (drop i ls) (drop i es) (drop i as')

abbrev pub value_word : Option ℕ → List ℕ
value_word None = codes "-"
value_word (Some v) = decimal v

-- the line of a phase with its value, and none for another line
abbrev pub phase_text : Line → Bool → Option ℕ → List ℕ
phase_text l true v = spelled (codes "phase" ∷ l.name ∷ value_word v ∷ [])
phase_text l false v = []

abbrev pub phase_texts : List Line → List (Option ℕ) → List ℕ
phase_texts (l ∷ ls) (v ∷ vs) = phase_text l (is_phase l.verb) v ++ phase_texts ls vs
phase_texts _ _ = []

-- the line of the cells of one interval
abbrev pub interval_text : List ℕ → ℕ × ℕ → List ℕ → List ℕ
interval_text name i cells = spelled (codes "cells" ∷ name ∷ interval_word i ∷ map decimal cells)

-- what stands before the cells in that line
abbrev pub interval_front : List ℕ → ℕ × ℕ → List ℕ
interval_front name i = codes "cells " ++ (name ++ 32 ∷ interval_word i)

-- the cells of the points of the ranks from first up to end, each with a space before it
abbrev pub cells_text : List ℕ → ℕ → ℕ → List ℕ
cells_text cells first end = flat_map (λ v. 32 ∷ decimal v) (take (end - first) (drop first cells))

-- the lines of a column's cells, one for each interval
abbrev pub cells_texts : List ℕ → List (ℕ × ℕ) → List ℕ → List ℕ
cells_texts name [] cells = []
cells_texts name (i ∷ is) cells = interval_text name i (take (length (interval_points i)) cells) ++ cells_texts name is (drop (length (interval_points i)) cells)

-- the lines of columns, of which the first has number c
abbrev pub column_texts : GraphValue → ℕ → List ColumnValue → List ℕ
column_texts g c [] = []
column_texts g c (x ∷ xs) = cells_texts (column_name g c) x.space x.cells ++ column_texts g (c + 1) xs

-- the report of an outcome
abbrev pub report : GraphValue → Outcome → List ℕ
report g o = codes "realm-report 1\n" ++ (op_texts g.lines o.ends o.answers ++ (phase_texts g.lines o.phases ++ (column_texts g 0 o.columns ++ codes "done\n")))

-- the lists of an outcome are as long as the graph's
pub record FitsGraph (g : GraphValue) (o : Outcome) : Type 0 where
  pub ends : length o.ends ≡ length g.lines
  pub answers : length o.answers ≡ length g.lines
  pub phases : length o.phases ≡ length g.lines
  pub columns : length o.columns ≡ length (columns g)

-- the text that is the report of the one-thread evaluation of a graph
abbrev pub evaluation_report : GraphValue → List ℕ
evaluation_report g = report g (outcome g (order g))
