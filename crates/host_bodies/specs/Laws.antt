-- What holds of each run of an accepted graph by a host whose bodies keep to their accesses.
use Rattle.std.specs.Prelude.{◌≡◌, ◌≢◌, ℕ, ◌⊎◌, Bool, true, false}
use Rattle.graph_terms.specs.Graph.{GraphValue}
use Rattle.graph_terms.specs.Fits.{IsGraph}
use Rattle.graph_meaning.specs.Rules.{Accepted}
use Rattle.graph_meaning.specs.Effect.{Cells, Effects, Untouched}
use Rattle.graph_meaning.specs.Evaluation.{is_ended, step_by, evaluation_with, end_with, cells_with}
use Rattle.graph_meaning.specs.Laws.{KeepsToAccesses, cells_put_with, DoesAsEvaluatedWith}
use Rattle.host_bodies.specs.Host.{HostRun, over, uses, may_change, IsDue, IsHostRun}

-- the cells after the lines that have ended, in the order of the evaluation
abbrev pub cells_so_far : Effects → Cells → GraphValue → HostRun → Cells
cells_so_far does first g h = cells_put_with does first g (λ c k. over h k)

-- the run agrees with the evaluation
pub record Agrees (g : GraphValue) (does : Effects) (first : Cells) (h : HostRun) : Type 0 where
  -- each line that has ended did so as in the evaluation
  pub ends : (k : ℕ) → over h k ≡ true → h.ends k ≡ end_with does first g k
  -- a line that is out does as in the evaluation by what it found
  pub sees : (i : ℕ) → h.out i ≡ true → DoesAsEvaluatedWith does first g i (h.found i)
  -- what it reads and may not change stays as it found it
  pub reads : (i c p : ℕ) → h.out i ≡ true → uses g i c p ≡ true → may_change g i c p ≡ false → h.memory c p ≡ h.found i c p
  -- no other line that is out uses a cell that it may change
  pub apart : (i j c p : ℕ) → h.out i ≡ true → h.out j ≡ true → i ≢ j → may_change g i c p ≡ true → uses g j c p ≡ false
  -- where no line that is out may change it, the memory is that of the lines that have ended
  pub memory : (c p : ℕ) → ((k : ℕ) → h.out k ≡ true → may_change g k c p ≡ false) → h.memory c p ≡ cells_so_far does first g h c p

-- so does each run, whatever the memory held at first
abbrev pub HostAgrees : Type 0
HostAgrees = (g : GraphValue) (does : Effects) (first : Cells) (h : HostRun) → IsGraph g → Accepted g → KeepsToAccesses g does → IsHostRun g does first h → Agrees g does first h

-- no line is out, and each line has ended that ends in the evaluation
pub record HasAllEnded (g : GraphValue) (does : Effects) (first : Cells) (h : HostRun) : Type 0 where
  pub none_out : (k : ℕ) → h.out k ≡ false
  pub all_over : (k : ℕ) → is_ended (end_with does first g k) ≡ true → over h k ≡ true

-- then the memory is that of the evaluation
abbrev pub HostLeavesEvaluation : Type 0
HostLeavesEvaluation = (g : GraphValue) (does : Effects) (first : Cells) (h : HostRun) → IsGraph g → Accepted g → KeepsToAccesses g does → IsHostRun g does first h → HasAllEnded g does first h →
    (c p : ℕ) → h.memory c p ≡ cells_with first (evaluation_with does first g) c p

-- where no line is out, one is due, so that it may be taken or is cancelled, or all have ended
abbrev pub HostGoesOn : Type 0
HostGoesOn = (g : GraphValue) (does : Effects) (first : Cells) (h : HostRun) → IsGraph g → Accepted g → KeepsToAccesses g does → IsHostRun g does first h → ((k : ℕ) → h.out k ≡ false) →
    ((i : ℕ) × IsDue g h i) ⊎ HasAllEnded g does first h

-- a line touches no cell but those that it may change
abbrev pub StepsChangeOwn : Type 0
StepsChangeOwn = (g : GraphValue) (does : Effects) → KeepsToAccesses g does → (i : ℕ) (b : Bool) (cells : Cells) (c p : ℕ) → may_change g i c p ≡ false → Untouched c p (step_by i b (does i cells)).changes
