-- One turn at the lock is one call of the core. What each call does to it, and to the lines that are out.
use Rattle.std.specs.Prelude.{◌≡◌, ◌≢◌, ℕ, ◌<◌, ◌⊎◌, true, [], length, Option, Some, None}
use Rattle.run_state.specs.Run.{out}
use Rattle.run_core.specs.Core.{CoreValue}
use Rattle.run_core.specs.Works.{KeepsWork, WorkValue, FinishedValue, IsFinished}
use Rattle.run_core.specs.Steps.{Issues, Attempts, Wakes, with_end}
use Rattle.run_parts.specs.declared.answers.Issue.{Issue as IssueAnswer}
use Rattle.run_core.specs.declared.answers.Attempt.{Attempt as AttemptAnswer}
use Rattle.run_core.specs.declared.answers.Attempt.TheVariants as attempts

-- what a turn asks of the core, with the answer
pub data Call : Type 0 where
  PutBack : FinishedValue → Call
  Issue : IssueAnswer → Call
  Attempt : ℕ → AttemptAnswer → Call
  NextWoken : Option ℕ → Call

-- the second core is the first after this one call, which may be made of it and is answered so
abbrev pub IsAfter : CoreValue → Call → CoreValue → Type 0
IsAfter old (PutBack f) new = IsFinished old f × (new ≡ with_end old f)
IsAfter old (Issue answer) new = Issues old new answer
IsAfter old (Attempt i answer) new = (i < length old.graph.lines) × Attempts old new i answer
IsAfter old (NextWoken (Some i)) new = Wakes old i new
IsAfter old (NextWoken None) new = (old.table.caught ≡ []) × (new ≡ old)

-- the work that an attempt took
abbrev pub work_in : AttemptAnswer → Option WorkValue
work_in (attempts.Taken w) = Some w
work_in _ = None

-- the line of some work
abbrev pub line_of : Option WorkValue → Option ℕ
line_of None = None
line_of (Some w) = Some w.line

-- the line that a call puts back, and the one that it takes
abbrev pub line_given : Call → Option ℕ
line_given (PutBack f) = Some f.line
line_given _ = None

abbrev pub line_taken : Call → Option ℕ
line_taken (Attempt i answer) = line_of (work_in answer)
line_taken _ = None

-- LINES THAT ARE OUT
abbrev pub IsOut : CoreValue → ℕ → Type 0
IsOut c i = out c.run.stages i ≡ true

-- one line may be given back to the core, and after it one may be taken. The work of all other lines stays
pub record Serves (old new : CoreValue) (given taken : Option ℕ) : Type 0 where
  pub graph : new.graph ≡ old.graph
  pub hosted : new.hosted ≡ old.hosted
  pub works : (k : ℕ) → given ≢ Some k → KeepsWork old new k
  pub stays : (k : ℕ) → IsOut old k → (given ≡ Some k) ⊎ IsOut new k
  pub comes : (k : ℕ) → IsOut new k → (taken ≡ Some k) ⊎ (IsOut old k × (given ≢ Some k))
  pub is_new : (k : ℕ) → taken ≡ Some k → IsOut new k × (IsOut old k → given ≡ Some k)

-- ONE TURN of a seat with this line, or with none: one call, which puts back just the seat's line, and what it does to the lines that are out
pub record IsTurn (old : CoreValue) (line : Option ℕ) (call : Call) (new : CoreValue) : Type 0 where
  pub one_call : IsAfter old call new
  pub given : line ≡ line_given call
  pub serves : Serves old new line (line_taken call)
