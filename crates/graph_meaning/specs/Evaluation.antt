-- The evaluation of a graph: again and again the lowest line that is ready ends, and its effect is applied.
-- A word that takes `does` or `first` is over any effects and any first cells, and its name ends in _with.
-- The word that stands below it is the same with the effects of the graph's verbs, from cells of 0.
use Rattle.std.specs.Prelude.{◌≡◌, ◌≢◌, ℕ, zero, suc, ◌+◌, min, max, ◌==◌, Bool, true, false, cond, not, ◌&&◌, List, [], ◌∷◌, ◌++◌, length, map, filter, filter_map, flat_map, fold, find, Contains, IsTrue, Option, Some, None, slice_get}
use Rattle.std.specs.Option.{option_map_or}
use Rattle.std.specs.List.{list_any, list_all}
use Rattle.index_spaces.specs.Space.{points}
use Rattle.basics.specs.Lists.{numbers_below}
use Rattle.index_spaces.specs.Column.{ColumnValue}
use Rattle.index_spaces.specs.declared.Op.{Op}
use Rattle.index_spaces.specs.declared.Op.TheVariants as op
use Rattle.graph_terms.specs.declared.outcome.Verdict.{Verdict}
use Rattle.graph_terms.specs.declared.outcome.Verdict.TheVariants.{Fine, Fault}
use Rattle.graph_terms.specs.declared.outcome.End.{End}
use Rattle.graph_terms.specs.declared.outcome.End.TheVariants.{Done, Faulted, Cancelled, Waiting}
use Rattle.graph_terms.specs.declared.outcome.Answer.{Answer}
use Rattle.graph_terms.specs.declared.outcome.Answer.TheVariants.{Triggered, Poisoned, Pending}
use Rattle.graph_terms.specs.declared.outcome.Outcome.{Outcome}
use Rattle.graph_terms.specs.declared.verb.Edge.{Edge}
use Rattle.graph_terms.specs.declared.verb.EdgeKind.{EdgeKind}
use Rattle.graph_terms.specs.declared.verb.EdgeKind.TheVariants.{Passes, Ignores, Faults}
use Rattle.graph_terms.specs.declared.verb.Line.{Line}
use Rattle.graph_terms.specs.declared.verb.Verb.{Verb}
use Rattle.graph_terms.specs.declared.verb.Verb.TheVariants.{Phase, Arrive}
use Rattle.graph_terms.specs.Graph.{GraphValue, verb_at, never_comes, columns, column_space, barriers}
use Rattle.graph_terms.specs.Edges.{edges, edges_into, sources}
use Rattle.graph_meaning.specs.Effect.{Cells, zero_cells, CellChange, cells_after, Effect, Effects, effect, wrapped}

-- a line that ended: its number, its end, and the changes that it made
pub record Step : Type 0 where
  pub line : ℕ
  pub ends : End
  pub changes : List CellChange

-- the end of a line, given the steps so far
abbrev pub end_in : List Step → ℕ → End
end_in [] i = Waiting
end_in (s ∷ ss) i = cond (s.line == i) s.ends (end_in ss i)

abbrev pub is_ended : End → Bool
is_ended Waiting = false
is_ended _ = true

-- whether a line is among the steps
abbrev pub has_ended : List Step → ℕ → Bool
has_ended ss i = list_any (λ s. s.line == i) ss

-- the cells after the steps
abbrev pub cells_with : Cells → List Step → Cells
cells_with first ss = cells_after first (flat_map (λ s. s.changes) ss)

abbrev pub cells_of : List Step → Cells
cells_of ss = cells_with zero_cells ss

-- a line that has not ended, is not one that never comes, and whose sources have ended
abbrev pub is_ready : GraphValue → List Step → ℕ → Bool
is_ready g ss i = not (has_ended ss i) && (not (never_comes g i) && list_all (has_ended ss) (sources g i))

-- whether an edge of this kind cancels its target, by the end of its source
abbrev pub cancels : EdgeKind → End → Bool
cancels Faults _ = true
cancels Passes Faulted = true
cancels Passes Cancelled = true
cancels _ _ = false

-- whether a line is cancelled once its sources have ended
abbrev pub is_cancelled : GraphValue → List Step → ℕ → Bool
is_cancelled g ss i = list_any (λ (e : Edge). cancels e.kind (end_in ss e.from)) (edges_into g i)

abbrev pub end_by : Verdict → End
end_by Fine = Done
end_by Fault = Faulted

-- the changes of an effect are made where its verdict is fine
abbrev pub made_by : Verdict → List CellChange → List CellChange
made_by Fine cs = cs
made_by Fault cs = []

abbrev pub step_by : ℕ → Bool → Effect → Step
step_by i true e = record { line = i; ends = Cancelled; changes = [] }
step_by i false e = record { line = i; ends = end_by e.verdict; changes = made_by e.verdict e.changes }

-- how line i ends after these steps
abbrev pub step_with : Effects → Cells → GraphValue → List Step → ℕ → Step
step_with does first g ss i = step_by i (is_cancelled g ss i) (does i (cells_with first ss))

abbrev pub step_of : GraphValue → List Step → ℕ → Step
step_of g ss i = step_with (effect g) zero_cells g ss i

-- the lowest line that is ready
abbrev pub lowest_ready : GraphValue → List Step → Option ℕ
lowest_ready g ss = find (is_ready g ss) (numbers_below (length g.lines))

-- one more step, where a line is ready
abbrev pub advance_by_with : Effects → Cells → GraphValue → List Step → Option ℕ → List Step
advance_by_with does first g ss None = ss
advance_by_with does first g ss (Some i) = ss ++ step_with does first g ss i ∷ []

abbrev pub advance_by : GraphValue → List Step → Option ℕ → List Step
advance_by g ss o = advance_by_with (effect g) zero_cells g ss o

abbrev pub advance_with : Effects → Cells → GraphValue → List Step → List Step
advance_with does first g ss = advance_by_with does first g ss (lowest_ready g ss)

abbrev pub advance : GraphValue → List Step → List Step
advance g ss = advance_with (effect g) zero_cells g ss

-- the steps after n turns
abbrev pub steps_with : Effects → Cells → GraphValue → ℕ → List Step
steps_with does first g zero = []
steps_with does first g (suc n) = advance_with does first g (steps_with does first g n)

abbrev pub steps_after : GraphValue → ℕ → List Step
steps_after g n = steps_with (effect g) zero_cells g n

-- the evaluation: as many turns as there are lines, after which no line is ready
abbrev pub evaluation_with : Effects → Cells → GraphValue → List Step
evaluation_with does first g = steps_with does first g (length g.lines)

abbrev pub evaluation : GraphValue → List Step
evaluation g = evaluation_with (effect g) zero_cells g

-- the lines in the order in which they ended
abbrev pub order_with : Effects → Cells → GraphValue → List ℕ
order_with does first g = map (λ (s : Step). s.line) (evaluation_with does first g)

abbrev pub order : GraphValue → List ℕ
order g = order_with (effect g) zero_cells g

-- the end of a line in the evaluation
abbrev pub end_with : Effects → Cells → GraphValue → ℕ → End
end_with does first g i = end_in (evaluation_with does first g) i

abbrev pub eval_end : GraphValue → ℕ → End
eval_end g i = end_with (effect g) zero_cells g i

-- the changes that a line made among these steps
abbrev pub changes_in : List Step → ℕ → List CellChange
changes_in [] i = []
changes_in (s ∷ ss) i = cond (s.line == i) s.changes (changes_in ss i)

-- the changes that a line made in the evaluation, none for a line that was cancelled, faulted or never ended
abbrev pub changes_with : Effects → Cells → GraphValue → ℕ → List CellChange
changes_with does first g i = changes_in (evaluation_with does first g) i

abbrev pub eval_changes : GraphValue → ℕ → List CellChange
eval_changes g i = changes_with (effect g) zero_cells g i

-- the cells after the lines of a list, each with its changes in the evaluation
abbrev pub cells_by_with : Effects → Cells → GraphValue → List ℕ → Cells
cells_by_with does first g lines = cells_after first (flat_map (changes_with does first g) lines)

abbrev pub cells_by : GraphValue → List ℕ → Cells
cells_by g lines = cells_by_with (effect g) zero_cells g lines

-- the cells after the lines that pass the test, in the order of the evaluation
abbrev pub cells_of_lines_with : Effects → Cells → GraphValue → (ℕ → Bool) → Cells
cells_of_lines_with does first g test = cells_by_with does first g (filter test (order_with does first g))

abbrev pub cells_of_lines : GraphValue → (ℕ → Bool) → Cells
cells_of_lines g test = cells_of_lines_with (effect g) zero_cells g test

-- the cells of a column as a list, by the rank of the point
abbrev pub column_of : GraphValue → Cells → ℕ → ColumnValue
column_of g cells c = record { space = column_space g c; cells = map (cells c) (points (column_space g c)) }

-- what a handle answers after the end of its line
abbrev pub answer_of : End → Answer
answer_of Done = Triggered
answer_of Faulted = Poisoned
answer_of Cancelled = Poisoned
answer_of Waiting = Pending

-- two values of a barrier made one
abbrev pub combined : Op → ℕ → ℕ → ℕ
combined op.Sum a b = wrapped (a + b)
combined op.Min a b = min a b
combined op.Max a b = max a b

-- the value of a line that is an arrival at this phase
abbrev pub arrival_value : ℕ → Verb → Option ℕ
arrival_value p (Arrive q value weight) = cond (q == p) (Some value) None
arrival_value p _ = None

-- a first value reduced with others, one after another
abbrev pub reduced_with : Op → ℕ → List ℕ → ℕ
reduced_with o first values = fold (combined o) first values

-- the first value of barrier b reduced with the values of all arrivals at phase p
abbrev pub reduced_value : GraphValue → ℕ → ℕ → ℕ
reduced_value g p b = option_map_or (λ x. reduced_with x.op x.first (filter_map (λ (l : Line). arrival_value p l.verb) g.lines)) (slice_get (barriers g) b) 0

abbrev pub phase_value_by : GraphValue → ℕ → End → Option Verb → Option ℕ
phase_value_by g p Done (Some (Phase b)) = Some (reduced_value g p b)
phase_value_by g p _ _ = None

-- the value of a phase that is done, and none for any other line
abbrev pub phase_value_with : Effects → Cells → GraphValue → ℕ → Option ℕ
phase_value_with does first g p = phase_value_by g p (end_with does first g p) (verb_at g p)

abbrev pub phase_value : GraphValue → ℕ → Option ℕ
phase_value g p = phase_value_with (effect g) zero_cells g p

-- what the evaluation gives, with a trace of one's own
abbrev pub outcome_with : Effects → Cells → GraphValue → List ℕ → Outcome
outcome_with does first g trace = record {
  ends = map (end_with does first g) (numbers_below (length g.lines));
  answers = map (λ i. answer_of (end_with does first g i)) (numbers_below (length g.lines));
  phases = map (phase_value_with does first g) (numbers_below (length g.lines));
  columns = map (column_of g (cells_with first (evaluation_with does first g))) (numbers_below (length (columns g)));
  trace = trace;
}

abbrev pub outcome : GraphValue → List ℕ → Outcome
outcome g trace = outcome_with (effect g) zero_cells g trace

-- an unbroken path from a fault, where lines end so: it begins at a line that faulted or with an edge that faults, no edge of it ignores, and each line on it has ended
pub data UnbrokenBy (g : GraphValue) (ends : ℕ → End) : ℕ → Type 0 where
  faults : {j : ℕ} → (e : Edge) → Contains (edges g) e → e.kind ≡ Faults → e.to ≡ j →
      IsTrue (is_ended (ends e.from)) → IsTrue (is_ended (ends j)) → UnbrokenBy g ends j
  faulted : {j : ℕ} → (e : Edge) → Contains (edges g) e → e.kind ≢ Ignores → e.to ≡ j →
      ends e.from ≡ Faulted → IsTrue (is_ended (ends j)) → UnbrokenBy g ends j
  on : {j : ℕ} → (e : Edge) → Contains (edges g) e → e.kind ≢ Ignores → e.to ≡ j →
      UnbrokenBy g ends e.from → IsTrue (is_ended (ends j)) → UnbrokenBy g ends j

-- an unbroken path of the evaluation
abbrev pub Unbroken : GraphValue → ℕ → Type 0
Unbroken g j = UnbrokenBy g (eval_end g) j
