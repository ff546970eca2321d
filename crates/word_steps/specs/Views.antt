-- The rights of a view, weighed.
use Rattle.std.specs.Prelude.{ℕ, ◌+◌, ◌==◌, cond, List, Option, Some, None}
use Rattle.event_table.specs.declared.handle.Handle.{Handle}
use Rattle.graph_terms.specs.declared.outcome.End.{End}
use Rattle.run_state.specs.Run.{LineStage, Unissued, Issued, Out, Ending, Ended}
use Rattle.word_steps.specs.Claims.{Claim}
use Rattle.word_steps.specs.declared.view.View.{View}

-- a number plus one, or 0
abbrev pub time_code : Option ℕ → ℕ
time_code None = 0
time_code (Some t) = t + 1

-- 1 where this is the claim of line i
abbrev pub claim_at : ℕ → Option Claim → ℕ
claim_at i None = 0
claim_at i (Some c) = cond (c.line == i) 1 0

-- 1 where the seat has the work of line i
abbrev pub runs_at : ℕ → View → ℕ
runs_at i v = claim_at i v.claim

-- 1 where this is the number i
abbrev pub number_at : ℕ → Option ℕ → ℕ
number_at i None = 0
number_at i (Some j) = cond (j == i) 1 0

-- 1 where it is issuing line i
abbrev pub issues_at : ℕ → View → ℕ
issues_at i v = number_at i v.issuing

-- the time of a claim plus one, where it has drawn it and not yet stored
abbrev pub late : Claim → ℕ
late c = cond c.stored 0 (time_code c.time)

-- the same, where this is the claim of line i
abbrev pub late_at : ℕ → Option Claim → ℕ
late_at i None = 0
late_at i (Some c) = cond (c.line == i) (late c) 0

-- the time of line i plus one, where it has drawn it and not yet stored
abbrev pub owes_at : ℕ → View → ℕ
owes_at i v = late_at i v.claim

-- 1 where this is the issue turn
abbrev pub turn_of : Option (List Handle) → ℕ
turn_of None = 0
turn_of (Some hs) = 1

-- 1 where it has the issue turn
abbrev pub has_issue_turn : View → ℕ
has_issue_turn v = turn_of v.issue_turn

-- 1 where some seat has the work of a line of this stage
abbrev pub busy : LineStage → ℕ
busy Unissued = 0
busy Issued = 0
busy Out = 1
busy (Ending x) = 1
busy (Ended x) = 0

-- the stage of a line whose work is out
abbrev pub working : Option End → LineStage
working None = Out
working (Some x) = Ending x
