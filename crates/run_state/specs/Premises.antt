-- What must hold for each step.
use Rattle.std.specs.Prelude.{◌≡◌, ◌≢◌, ◌⊎◌, ℕ, ◌<◌, false, List, length, Contains, IsTrue, Some, None, slice_get}
use Rattle.index_spaces.specs.declared.Op.{Op}
use Rattle.graph_terms.specs.declared.decl.BarrierInfo.{BarrierInfo}
use Rattle.graph_terms.specs.declared.outcome.End.{End}
use Rattle.graph_terms.specs.declared.outcome.End.TheVariants.{Done, Cancelled}
use Rattle.graph_terms.specs.declared.verb.Edge.{Edge}
use Rattle.graph_terms.specs.declared.verb.Verb.TheVariants.{Phase}
use Rattle.graph_terms.specs.Graph.{GraphValue, barriers, never_comes, verb_at, line_passes}
use Rattle.graph_terms.specs.Edges.{edges}
use Rattle.graph_terms.specs.Reservations.{Acquires, Releases}
use Rattle.graph_meaning.specs.Effect.{Effects, zero_cells}
use Rattle.graph_meaning.specs.Evaluation.{end_with}
use Rattle.run_state.specs.Run.{Run, Unissued, Issued, Out, Ending, Had, is_listed, stage_at, time_at, place_at, list_at, issued, out, over, ended, timed}
use Rattle.run_state.specs.Sound.{AccessesColumn, OnlyReads, is_arrive, home_cells_with, value_for, IsOpenTo}
use Rattle.run_state.specs.Work.{put_cells_with}

-- a line that is issued is the next one
pub record MayIssue (g : GraphValue) (run : Run) (i : ℕ) : Type 0 where
  pub is_line : i < length g.lines
  pub unissued : stage_at run.stages i ≡ Unissued
  pub before : (j : ℕ) → j < i → IsTrue (issued run.stages j)

-- a line that is claimed is issued, is none that never comes, and its sources are ended
pub record MayClaim (g : GraphValue) (run : Run) (i : ℕ) : Type 0 where
  pub is_issued : stage_at run.stages i ≡ Issued
  pub comes : never_comes g i ≡ false
  pub sources : (e : Edge) → Contains (edges g) e → e.to ≡ i → IsTrue (ended run.stages e.from)

-- a line whose claim is given back is out, and has done nothing yet
pub record MayUnclaim (g : GraphValue) (run : Run) (i : ℕ) : Type 0 where
  pub is_out : stage_at run.stages i ≡ Out
  pub no_column : (c : ℕ) → place_at run.places c ≢ Had i
  pub not_back : (c : ℕ) → is_listed (list_at run.back c) i ≡ false
  pub not_arrived : is_listed run.arrived i ≡ false
  pub no_lock : (l : ℕ) → is_listed (list_at run.holders l) i ≡ false
  pub untimed : timed run.times i ≡ false

-- a line takes a column that it accesses, was not put back on and no line has
pub record MayTakeColumnWith (does : Effects) (g : GraphValue) (run : Run) (c i : ℕ) : Type 0 where
  pub is_out : IsTrue (out run.stages i)
  pub accessed : AccessesColumn g i c
  pub not_cancelled : end_with does zero_cells g i ≢ Cancelled
  pub not_back : is_listed (list_at run.back c) i ≡ false
  pub at_home : (k : ℕ) → place_at run.places c ≢ Had k

-- a line returns a column that it has with the cells that the column had at home
pub record MayReturnColumnWith (does : Effects) (g : GraphValue) (run : Run) (c i : ℕ) (xs : List ℕ) : Type 0 where
  pub has : place_at run.places c ≡ Had i
  pub unchanged : xs ≡ home_cells_with does g (list_at run.back c) c

-- a line is put back on a column that it has, with these cells changed as the line changes them in the evaluation
pub record MayPutBackColumnWith (does : Effects) (g : GraphValue) (run : Run) (c i : ℕ) (xs : List ℕ) : Type 0 where
  pub has : place_at run.places c ≡ Had i
  pub changed : xs ≡ put_cells_with does g i (list_at run.back c) c

-- a line is put back on a column that it only reads, and was not put back on before, where no line has it
pub record MayReadColumnWith (does : Effects) (g : GraphValue) (run : Run) (c i : ℕ) : Type 0 where
  pub is_out : IsTrue (out run.stages i)
  pub only_reads : OnlyReads g i c
  pub not_cancelled : end_with does zero_cells g i ≢ Cancelled
  pub not_back : is_listed (list_at run.back c) i ≡ false
  pub at_home : (k : ℕ) → place_at run.places c ≢ Had k

-- a line is put back on a column that it has, or that it only reads and no line has, with these cells changed as in the evaluation
pub record MayBackOrReadWith (does : Effects) (g : GraphValue) (run : Run) (c i : ℕ) (xs : List ℕ) : Type 0 where
  pub is_out : IsTrue (out run.stages i)
  pub not_cancelled : end_with does zero_cells g i ≢ Cancelled
  pub not_back : is_listed (list_at run.back c) i ≡ false
  pub has_or_reads : (place_at run.places c ≡ Had i) ⊎ (OnlyReads g i c × ((k : ℕ) → place_at run.places c ≢ Had k))
  pub changed : xs ≡ put_cells_with does g i (list_at run.back c) c

-- an acquire takes its reservation, which no other holds but shared ones where it is shared
pub record MayHoldWith (does : Effects) (g : GraphValue) (run : Run) (l q : ℕ) : Type 0 where
  pub is_out : IsTrue (out run.stages q)
  pub acquires : Acquires g q l
  pub not_cancelled : end_with does zero_cells g q ≢ Cancelled
  pub is_free : IsOpenTo g run.holders l q

-- an acquire lets its reservation go before it has a time
pub record MayLetGo (g : GraphValue) (run : Run) (l q : ℕ) : Type 0 where
  pub acquires : Acquires g q l
  pub untimed : timed run.times q ≡ false

-- an arrival is put in once, with the operation of the phase's barrier
pub record MayArriveWith (does : Effects) (g : GraphValue) (run : Run) (o : Op) (i p v : ℕ) : Type 0 where
  pub is_out : IsTrue (out run.stages i)
  pub arrives : value_for g p i ≡ Some v
  pub not_cancelled : end_with does zero_cells g i ≢ Cancelled
  pub not_arrived : is_listed run.arrived i ≡ false
  pub by_barrier : (b : ℕ) (x : BarrierInfo) → verb_at g p ≡ Some (Phase b) → slice_get (barriers g) b ≡ Some x → x.op ≡ o

-- a line draws one time; an acquire holds its reservation before
pub record MayDrawWith (does : Effects) (g : GraphValue) (run : Run) (i : ℕ) : Type 0 where
  pub is_out : IsTrue (out run.stages i)
  pub untimed : time_at run.times i ≡ None
  pub holds : (l : ℕ) → Acquires g i l → end_with does zero_cells g i ≢ Cancelled → IsTrue (is_listed (list_at run.holders l) i)

-- a line that is ending has a time and the end of the evaluation; unless it is cancelled it was put back on its columns, and put in if it is an arrival
pub record MayEndWith (does : Effects) (g : GraphValue) (run : Run) (i : ℕ) (x : End) : Type 0 where
  pub is_out : stage_at run.stages i ≡ Out
  pub is_end : end_with does zero_cells g i ≡ x
  pub has_time : IsTrue (timed run.times i)
  pub put_back : (c : ℕ) → AccessesColumn g i c → end_with does zero_cells g i ≢ Cancelled → IsTrue (is_listed (list_at run.back c) i)
  pub put_in : IsTrue (line_passes is_arrive g i) → end_with does zero_cells g i ≢ Cancelled → IsTrue (is_listed run.arrived i)

-- a release that is ending or ended frees the reservation of its acquire, which is ended and done
pub record MayFreeWith (does : Effects) (g : GraphValue) (run : Run) (r l q : ℕ) : Type 0 where
  pub is_over : IsTrue (over run.stages r)
  pub releases : Releases g r q
  pub acquires : Acquires g q l
  pub acquire_ended : IsTrue (ended run.stages q)
  pub acquire_done : end_with does zero_cells g q ≡ Done

-- a line that is ended is ending before, and has freed if it is a release of an acquire that is done
pub record MayCloseWith (does : Effects) (g : GraphValue) (run : Run) (i : ℕ) (x : End) : Type 0 where
  pub is_ending : stage_at run.stages i ≡ Ending x
  pub frees : (q : ℕ) → Releases g i q → end_with does zero_cells g q ≡ Done → IsTrue (is_listed run.freed i)
