-- A run in which nothing is out and nothing can be taken.
use Rattle.std.specs.Prelude.{◌≡◌, ◌≢◌, ℕ, ◌<◌, ◌⊎◌, ◌↔◌, Bool, false, not, List, [], length, map, Contains, IsTrue, Option, Some, None, slice_get, slice_index}
use Rattle.std.specs.List.{list_any}
use Rattle.basics.specs.Lists.{numbers_below, count_below}
use Rattle.graph_terms.specs.declared.outcome.End.{End}
use Rattle.graph_terms.specs.declared.outcome.End.TheVariants.{Done, Cancelled}
use Rattle.graph_terms.specs.declared.outcome.Outcome.{Outcome}
use Rattle.graph_terms.specs.declared.verb.Verb.{Verb}
use Rattle.graph_terms.specs.declared.verb.Verb.TheVariants.{Phase}
use Rattle.graph_terms.specs.declared.verb.Edge.{Edge}
use Rattle.graph_terms.specs.Graph.{GraphValue, columns, column_space, verb_at, never_comes}
use Rattle.graph_terms.specs.Edges.{edges, edges_into}
use Rattle.graph_terms.specs.Reservations.{Acquires, Releases, both_shared}
use Rattle.graph_meaning.specs.Effect.{Effects, zero_cells, effect}
use Rattle.graph_meaning.specs.Evaluation.{cancels, end_with, answer_of, outcome_with}
use Rattle.graph_meaning.specs.Trace.{ListsEndedBy, StandsBefore}
use Rattle.run_state.specs.Run.{LineStage, Run, Issued, Place, Home, Had, stage_at, time_at, place_at, end_so_far, issued, ended, over, out}
use Rattle.run_state.specs.Sound.{AccessesColumn, IsOpenTo}

-- what a line needs besides its sources: it is cancelled, or its reservation is open to it and its columns are at home
abbrev pub IsFreeWith : Effects → GraphValue → Run → ℕ → Type 0
IsFreeWith does g run i = (end_with does zero_cells g i ≡ Cancelled)
    ⊎ (((l : ℕ) → Acquires g i l → IsOpenTo g run.holders l i) × ((c : ℕ) → AccessesColumn g i c → (k : ℕ) → place_at run.places c ≢ Had k))

-- the same with the effects of the graph's verbs
abbrev pub IsFree : GraphValue → Run → ℕ → Type 0
IsFree g run i = IsFreeWith (effect g) g run i

-- a line that can be taken
pub record CanTakeWith (does : Effects) (g : GraphValue) (run : Run) (i : ℕ) : Type 0 where
  pub is_issued : stage_at run.stages i ≡ Issued
  pub comes : never_comes g i ≡ false
  pub sources : (e : Edge) → Contains (edges g) e → e.to ≡ i → IsTrue (ended run.stages e.from)
  pub is_free : IsFreeWith does g run i

-- the same with the effects of the graph's verbs
abbrev pub CanTake : GraphValue → Run → ℕ → Type 0
CanTake g run i = CanTakeWith (effect g) g run i

-- whether an edge into a line cancels it, by the ends that are kept
abbrev pub kept_cancels : GraphValue → List LineStage → ℕ → Bool
kept_cancels g stages i = list_any (λ (e : Edge). cancels e.kind (end_so_far (stage_at stages e.from))) (edges_into g i)

-- the first k lines are issued, no line is out or ending, and none can be taken
pub record StuckWith (does : Effects) (g : GraphValue) (run : Run) (k : ℕ) : Type 0 where
  pub first_issued : (i : ℕ) → i < k → IsTrue (issued run.stages i)
  pub none_out : (i : ℕ) → out run.stages i ≡ false
  pub none_ending : (i : ℕ) → IsTrue (over run.stages i) → IsTrue (ended run.stages i)
  pub none_taken : (i : ℕ) → CanTakeWith does g run i → ⊥

-- the same with the effects of the graph's verbs
abbrev pub Stuck : GraphValue → Run → ℕ → Type 0
Stuck g run k = StuckWith (effect g) g run k

-- all lines are issued, no line is out or ending, and none can be taken
abbrev pub QuietWith : Effects → GraphValue → Run → Type 0
QuietWith does g run = StuckWith does g run (length g.lines)

-- the same with the effects of the graph's verbs
abbrev pub Quiet : GraphValue → Run → Type 0
Quiet g run = QuietWith (effect g) g run

-- how many issued lines are not ended: each of their handles is pending
abbrev pub left_among : Run → ℕ → ℕ
left_among run k = count_below (λ i. not (ended run.stages i)) k

-- the ended lines by their times
pub record ByTimes (run : Run) (trace : List ℕ) : Type 0 where
  pub listed : (i : ℕ) → Contains trace i ↔ IsTrue (ended run.stages i)
  pub ascending : (k m i j s t : ℕ) → slice_get trace k ≡ Some i → slice_get trace m ≡ Some j → k < m → time_at run.times i ≡ Some s → time_at run.times j ≡ Some t → s < t

-- the value of a phase that is done, and none for any other line
abbrev pub phase_so_far_by : Run → ℕ → End → Option Verb → Option ℕ
phase_so_far_by run p Done (Some (Phase b)) = Some (slice_index run.values p)
phase_so_far_by run p _ _ = None

abbrev pub phase_so_far : GraphValue → Run → ℕ → Option ℕ
phase_so_far g run p = phase_so_far_by run p (end_so_far (stage_at run.stages p)) (verb_at g p)

-- the cells of a column at home
abbrev pub cells_at : Place → List ℕ
cells_at (Home xs) = xs
cells_at (Had k) = []

-- what a state gives, with a trace
abbrev pub outcome_of : GraphValue → Run → List ℕ → Outcome
outcome_of g run trace = record {
  ends = map (λ i. end_so_far (stage_at run.stages i)) (numbers_below (length g.lines));
  answers = map (λ i. answer_of (end_so_far (stage_at run.stages i))) (numbers_below (length g.lines));
  phases = map (phase_so_far g run) (numbers_below (length g.lines));
  columns = map (λ c. record { space = column_space g c; cells = cells_at (place_at run.places c) }) (numbers_below (length (columns g)));
  trace = trace;
}

-- a trace lists the lines that end where these are the effects, each once, each after its sources; and the sections of one reservation stand one
-- after the other, unless both are shared
pub record IsLawfulWith (does : Effects) (g : GraphValue) (trace : List ℕ) : Type 0 where
  pub lists : ListsEndedBy g (end_with does zero_cells g) trace
  pub sections : (l q k : ℕ) → Acquires g q l → Acquires g k l → q ≢ k → both_shared g q k ≡ false →
      end_with does zero_cells g q ≡ Done → end_with does zero_cells g k ≡ Done →
      ((r : ℕ) × Releases g r q × StandsBefore trace r k) ⊎ ((r : ℕ) × Releases g r k × StandsBefore trace r q)

-- a state gives the outcome of the evaluation, with a lawful trace
pub record GivesOutcomeWith (does : Effects) (g : GraphValue) (run : Run) (trace : List ℕ) : Type 0 where
  pub outcome_is : outcome_of g run trace ≡ outcome_with does zero_cells g trace
  pub lawful : IsLawfulWith does g trace
