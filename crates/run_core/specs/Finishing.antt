-- What a run on one thread keeps until nothing moves.
use Rattle.std.specs.Prelude.{◌≡◌, ℕ, ◌+◌, ◌<◌, ◌≤◌, ◌⊎◌, true, false, not, length, IsTrue, Some, slice_get}
use Rattle.graph_terms.specs.Graph.{GraphValue, never_comes}
use Rattle.graph_terms.specs.declared.outcome.End.{End}
use Rattle.event_table.specs.declared.handle.Handle.{Handle}
use Rattle.basics.specs.Lists.{count_below}
use Rattle.run_state.specs.Run.{Run, Issued, Ended, stage_at, time_at, out, issued, over, ended}
use Rattle.run_state.specs.Quiet.{kept_cancels}
use Rattle.run_core.specs.Core.{CoreValue, slots_given}
use Rattle.run_lists.specs.Sources.{HasSources}
use Rattle.run_lists.specs.Holders.{HasLock}
use Rattle.run_core.specs.Steps.{HasColumns}

-- no line is out
abbrev pub NothingOut : CoreValue → Type 0
NothingOut c = (i : ℕ) → out c.run.stages i ≡ false

-- how much is left: a line counts until it is issued, and until it has ended
abbrev pub left_to_do : CoreValue → ℕ
left_to_do c = count_below (λ i. not (issued c.run.stages i)) (length c.graph.lines) + count_below (λ i. not (ended c.run.stages i)) (length c.graph.lines)

-- each handle, end and time that was there stays
pub record Stays (old new : CoreValue) : Type 0 where
  pub handles : (i : ℕ) (h : Handle) → slice_get old.handles i ≡ Some h → slice_get new.handles i ≡ Some h
  pub ends : (i : ℕ) (x : End) → stage_at old.run.stages i ≡ Ended x → stage_at new.run.stages i ≡ Ended x
  pub times : (i t : ℕ) → time_at old.run.times i ≡ Some t → time_at new.run.times i ≡ Some t

-- the same graph, host and slots, again with nothing out, what was there stays, and no more is left
pub record GoesOn (old new : CoreValue) : Type 0 where
  pub graph : new.graph ≡ old.graph
  pub hosted : new.hosted ≡ old.hosted
  pub slots : slots_given new ≡ slots_given old
  pub nothing_out : NothingOut new
  pub stays : Stays old new
  pub left : left_to_do new ≤ left_to_do old

-- no line has moved
pub record IsStill (old new : CoreValue) : Type 0 where
  pub graph : new.graph ≡ old.graph
  pub hosted : new.hosted ≡ old.hosted
  pub run : new.run ≡ old.run
  pub handles : new.handles ≡ old.handles

-- what a line needs besides its sources, by the ends that are kept of them: they cancel it, or its reservation and its columns are open to it
abbrev pub IsFreeSoFar : GraphValue → Run → ℕ → Type 0
IsFreeSoFar g run i = (kept_cancels g run.stages i ≡ true) ⊎ (HasLock g run.holders i × HasColumns g run i)

-- a line that can be taken
pub record CanBeTaken (g : GraphValue) (run : Run) (i : ℕ) : Type 0 where
  pub is_issued : stage_at run.stages i ≡ Issued
  pub comes : never_comes g i ≡ false
  pub sources : HasSources g run.stages i
  pub is_free : IsFreeSoFar g run i

-- the first k lines are issued, no line is out or ending, and none can be taken
pub record IsStuck (g : GraphValue) (run : Run) (k : ℕ) : Type 0 where
  pub first_issued : (i : ℕ) → i < k → IsTrue (issued run.stages i)
  pub none_out : (i : ℕ) → out run.stages i ≡ false
  pub none_ending : (i : ℕ) → IsTrue (over run.stages i) → IsTrue (ended run.stages i)
  pub none_taken : (i : ℕ) → CanBeTaken g run i → ⊥

-- all lines are issued, no line is out or ending, and none can be taken
abbrev pub IsQuiet : GraphValue → Run → Type 0
IsQuiet g run = IsStuck g run (length g.lines)
