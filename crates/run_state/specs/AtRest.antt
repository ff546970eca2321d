-- What holds where whole lines are taken and put back.
use Rattle.std.specs.Prelude.{◌≡◌, ◌≢◌, ℕ, false, List, Contains, IsTrue}
use Rattle.graph_terms.specs.declared.outcome.End.{End}
use Rattle.graph_terms.specs.declared.outcome.End.TheVariants.{Cancelled}
use Rattle.graph_terms.specs.declared.verb.Edge.{Edge}
use Rattle.graph_terms.specs.Graph.{GraphValue, never_comes}
use Rattle.graph_terms.specs.Edges.{edges}
use Rattle.graph_terms.specs.Reservations.{Acquires}
use Rattle.graph_meaning.specs.Effect.{Effects, zero_cells, effect}
use Rattle.graph_meaning.specs.Evaluation.{end_with}
use Rattle.run_state.specs.Run.{Run, Issued, Out, Had, is_listed, stage_at, place_at, list_at, out, over, ended, timed}
use Rattle.run_state.specs.Sound.{AccessesColumn, IsOpenTo}
use Rattle.run_state.specs.Work.{put_cells_with}

-- what holds of a run between two such steps of all but the columns, besides that it is sound
pub record LinesAtRestWith (does : Effects) (g : GraphValue) (run : Run) : Type 0 where
  -- no line is ending; the lines put back, the arrivals put in and the releases that have freed are ended
  pub none_ending : (i : ℕ) → IsTrue (over run.stages i) → IsTrue (ended run.stages i)
  pub back_ended : (c i : ℕ) → IsTrue (is_listed (list_at run.back c) i) → IsTrue (ended run.stages i)
  pub arrived_ended : (i : ℕ) → IsTrue (is_listed run.arrived i) → IsTrue (ended run.stages i)
  pub freed_ended : (r : ℕ) → IsTrue (is_listed run.freed r) → IsTrue (ended run.stages r)
  -- a line that is out, and not cancelled, has its reservation; it has no time
  pub out_holds : (i l : ℕ) → IsTrue (out run.stages i) → end_with does zero_cells g i ≢ Cancelled → Acquires g i l →
      IsTrue (is_listed (list_at run.holders l) i)
  pub out_untimed : (i : ℕ) → IsTrue (out run.stages i) → timed run.times i ≡ false

-- what holds of a run between two such steps, besides that it is sound
pub record AtRestWith (does : Effects) (g : GraphValue) (run : Run) : Type 0 where
  -- no line is ending; the lines put back, the arrivals put in and the releases that have freed are ended
  pub none_ending : (i : ℕ) → IsTrue (over run.stages i) → IsTrue (ended run.stages i)
  pub back_ended : (c i : ℕ) → IsTrue (is_listed (list_at run.back c) i) → IsTrue (ended run.stages i)
  pub arrived_ended : (i : ℕ) → IsTrue (is_listed run.arrived i) → IsTrue (ended run.stages i)
  pub freed_ended : (r : ℕ) → IsTrue (is_listed run.freed r) → IsTrue (ended run.stages r)
  -- a line that is out, and not cancelled, has its columns and its reservation; it has no time
  pub out_has : (i c : ℕ) → IsTrue (out run.stages i) → end_with does zero_cells g i ≢ Cancelled → AccessesColumn g i c → place_at run.places c ≡ Had i
  pub out_holds : (i l : ℕ) → IsTrue (out run.stages i) → end_with does zero_cells g i ≢ Cancelled → Acquires g i l → IsTrue (is_listed (list_at run.holders l) i)
  pub out_untimed : (i : ℕ) → IsTrue (out run.stages i) → timed run.times i ≡ false

-- the same with the effects of the graph's verbs
abbrev pub AtRest : GraphValue → Run → Type 0
AtRest g run = AtRestWith (effect g) g run

-- a line that can be taken whole
pub record MayTakeWholeWith (does : Effects) (g : GraphValue) (run : Run) (i : ℕ) : Type 0 where
  pub is_issued : stage_at run.stages i ≡ Issued
  pub comes : never_comes g i ≡ false
  pub sources : (e : Edge) → Contains (edges g) e → e.to ≡ i → IsTrue (ended run.stages e.from)
  pub not_cancelled : end_with does zero_cells g i ≢ Cancelled
  pub lock_free : (l : ℕ) → Acquires g i l → IsOpenTo g run.holders l i
  pub at_home : (c : ℕ) → AccessesColumn g i c → (k : ℕ) → place_at run.places c ≢ Had k

-- the same with the effects of the graph's verbs
abbrev pub MayTakeWhole : GraphValue → Run → ℕ → Type 0
MayTakeWhole g run i = MayTakeWholeWith (effect g) g run i

-- a line that can be put back: it is out, ends as in the evaluation, and left on its columns what it does there
pub record MayPutBackWith (does : Effects) (g : GraphValue) (run : Run) (i : ℕ) (x : End) (xs : ℕ → List ℕ) : Type 0 where
  pub is_out : stage_at run.stages i ≡ Out
  pub is_end : end_with does zero_cells g i ≡ x
  pub leaves : (c : ℕ) → AccessesColumn g i c → end_with does zero_cells g i ≢ Cancelled → xs c ≡ put_cells_with does g i (list_at run.back c) c

-- the same with the effects of the graph's verbs
abbrev pub MayPutBack : GraphValue → Run → ℕ → End → (ℕ → List ℕ) → Type 0
MayPutBack g run i x xs = MayPutBackWith (effect g) g run i x xs

-- a step leaves a line its stage, its columns, and the lines put back on these
pub record Undisturbed (i : ℕ) (run after : Run) : Type 0 where
  pub stage : stage_at after.stages i ≡ stage_at run.stages i
  pub has : (c : ℕ) → place_at run.places c ≡ Had i → place_at after.places c ≡ Had i
  pub back : (c : ℕ) → place_at run.places c ≡ Had i → list_at after.back c ≡ list_at run.back c
