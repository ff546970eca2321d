-- The handles of the issued lines, and how the table that they stand in goes with a state of the run.
use Rattle.std.specs.Prelude.{◌≡◌, ℕ, ◌+◌, ◌-◌, ◌<◌, ◌↔◌, true, not, cond, List, length, Contains, Some, slice_get}
use Rattle.graph_terms.specs.declared.outcome.End.{End}
use Rattle.graph_terms.specs.declared.outcome.End.TheVariants.{Done, Faulted, Cancelled, Waiting}
use Rattle.graph_terms.specs.declared.verb.Edge.{Edge}
use Rattle.graph_terms.specs.Graph.{GraphValue}
use Rattle.graph_terms.specs.Edges.{edges}
use Rattle.event_table.specs.declared.handle.Handle.{Handle}
use Rattle.event_table.specs.declared.handle.Answer.{Answer}
use Rattle.event_table.specs.declared.handle.Answer.TheVariants.{Pending, Triggered, Poisoned}
use Rattle.basics.specs.Sums.{total}
use Rattle.basics.specs.Lists.{count_below}
use Rattle.event_table.specs.EventMap.{EventMap, SlotLife, answer, IsPlaced}
use Rattle.run_state.specs.Run.{LineStage, stage_at, end_so_far, issued, ended}

-- what the handle of a line with this end answers
abbrev pub answer_for : End → Answer
answer_for Done = Triggered
answer_for Faulted = Poisoned
answer_for Cancelled = Poisoned
answer_for Waiting = Pending

-- how many generations of a slot were created, and how many of them are pending
abbrev pub created_in : SlotLife → ℕ
created_in life = length life.fates + cond life.is_pending 1 0

abbrev pub pending_in : SlotLife → ℕ
pending_in life = cond life.is_pending 1 0

-- a line waits for another
abbrev pub WaitsFor : GraphValue → ℕ → ℕ → Type 0
WaitsFor g i j = (e : Edge) × Contains (edges g) e × (e.from ≡ j) × (e.to ≡ i)

-- how many of the first k lines have not ended
abbrev pub count_left : List LineStage → ℕ → ℕ
count_left stages k = count_below (λ i. not (ended stages i)) k

-- the last generation of a slot in a run of so many lines
abbrev pub last_gen_for : ℕ → ℕ
last_gen_for lines = lines - 1

-- the handles of the issued lines, and the table that they stand in
pub record AreEvents (g : GraphValue) (stages : List LineStage) (handles : List Handle) (table : EventMap) : Type 0 where
  -- the table has a waiter for each line, and for each slot as many generations as there are lines
  pub waiters : table.waiters ≡ length g.lines
  pub last : table.last_gen ≡ last_gen_for (length g.lines)
  -- the first lines are issued, one for each handle, and the handles differ
  pub each_issued : (i : ℕ) → (issued stages i ≡ true) ↔ (i < length handles)
  pub once : (a b : ℕ) (h : Handle) → slice_get handles a ≡ Some h → slice_get handles b ≡ Some h → a ≡ b
  -- they are the handles of the table, and answer for the ends of their lines
  pub answers : (i : ℕ) (h : Handle) → slice_get handles i ≡ Some h → answer table h ≡ Some (answer_for (end_so_far (stage_at stages i)))
  pub only : (h : Handle) (a : Answer) → answer table h ≡ Some a → Contains handles h
  pub all_created : total created_in table.slots ≡ length handles
  pub all_pending : total pending_in table.slots ≡ count_left stages (length handles)
  -- a line stands on the handle of one that it waits for
  pub waits : (i : ℕ) (h : Handle) → IsPlaced table i h → (j : ℕ) × (slice_get handles j ≡ Some h) × WaitsFor g i j
