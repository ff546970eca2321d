-- Runs whose lines the threads of a caller perform: what a handle holds, and what each call did.
use Rattle.std.specs.Prelude.{◌≡◌, ◌≢◌, ℕ, ◌⊎◌, ◌<◌, Bool, true, Option, Some, None, [], length, cond, ◌==◌}
use Rattle.std.specs.Arc.{arc_value}
use Rattle.graph_terms.specs.Graph.{GraphValue}
use Rattle.graph_terms.specs.declared.outcome.End.{End}
use Rattle.graph_terms.specs.declared.outcome.End.TheVariants.{Done, Faulted, Waiting}
use Rattle.run_core.specs.Core.{CoreValue, IsCore, slots_given}
use Rattle.run_core.specs.Counts.{lines_at, lines_left}
use Rattle.run_core.specs.Finishing.{NothingOut}
use Rattle.run_core.specs.Steps.{Attempts, Issues, Wakes, with_end}
use Rattle.run_core.specs.WhatIsOut.{OneMoreOut, OutAfter, SameOut}
use Rattle.run_core.specs.Works.{FinishedValue, IsFinished, IsWork, KeepsWork}
use Rattle.run_core.specs.declared.answers.Attempt.{Attempt}
use Rattle.run_core.specs.declared.answers.Attempt.TheVariants as attempts
use Rattle.run_parts.specs.declared.answers.Issue.{Issue}
use Rattle.run_parts.specs.declared.answers.Issue.TheVariants as issues
use Rattle.run_parts.specs.declared.answers.Stage.TheVariants as stages
use Rattle.run_parts.specs.declared.answers.Thing.TheVariants as things
use Rattle.c_numbers.specs.declared.status.TheConstants.{WRONG, EMPTY, RANGE, UNPERFORMED, REPORTED, PERFORMED}
use Rattle.run_handles.specs.Calls.{has_body}
use Rattle.run_handles.specs.Ends.{end_in, end_of}
use Rattle.run_handles.specs.declared.run.Lines.{Lines}
use Rattle.run_handles.specs.declared.token.Over.{Over}
use Rattle.run_handles.specs.declared.token.Taken.{Taken}
use Rattle.run_handles.specs.declared.token.Token.{Token}
use Rattle.run_handles.specs.declared.token.Token.TheVariants as token

-- the handle holds something of that kind, of which this is so
abbrev pub HoldsRun : Option Token → (CoreValue → Type 0) → Type 0
HoldsRun (Some (token.Run c)) f = f c
HoldsRun _ f = ⊥

abbrev pub HoldsTaken : Option Token → (Taken → Type 0) → Type 0
HoldsTaken (Some (token.Taken t)) f = f t
HoldsTaken _ f = ⊥

abbrev pub HoldsFinished : Option Token → (FinishedValue → Type 0) → Type 0
HoldsFinished (Some (token.Finished x)) f = f x
HoldsFinished _ f = ⊥

abbrev pub HoldsOver : Option Token → (Over → Type 0) → Type 0
HoldsOver (Some (token.Over o)) f = f o
HoldsOver _ f = ⊥

-- where it holds something of that kind, this is so of it
abbrev pub IfRun : Option Token → (CoreValue → Type 0) → Type 0
IfRun (Some (token.Run c)) f = f c
IfRun _ f = Unit {0}

abbrev pub IfTaken : Option Token → (Taken → Type 0) → Type 0
IfTaken (Some (token.Taken t)) f = f t
IfTaken _ f = Unit {0}

abbrev pub IfFinished : Option Token → (FinishedValue → Type 0) → Type 0
IfFinished (Some (token.Finished x)) f = f x
IfFinished _ f = Unit {0}

-- what a call answers to a handle that it can't be given, and 0 to one that it can: of a run that goes on, of a run that is to be reported, of work to be performed, of work to be put back
abbrev pub run_misuse : Option Token → ℕ
run_misuse None = EMPTY
run_misuse (Some (token.Run c)) = 0
run_misuse (Some (token.Taken t)) = WRONG
run_misuse (Some (token.Finished x)) = WRONG
run_misuse (Some (token.Over o)) = REPORTED
run_misuse (Some token.Empty) = WRONG

abbrev pub report_misuse : Option Token → ℕ
report_misuse None = EMPTY
report_misuse (Some (token.Run c)) = 0
report_misuse (Some (token.Taken t)) = WRONG
report_misuse (Some (token.Finished x)) = WRONG
report_misuse (Some (token.Over o)) = 0
report_misuse (Some token.Empty) = WRONG

abbrev pub taken_misuse : Option Token → ℕ
taken_misuse None = EMPTY
taken_misuse (Some (token.Run c)) = WRONG
taken_misuse (Some (token.Taken t)) = 0
taken_misuse (Some (token.Finished x)) = PERFORMED
taken_misuse (Some (token.Over o)) = WRONG
taken_misuse (Some token.Empty) = WRONG

abbrev pub finished_misuse : Option Token → ℕ
finished_misuse None = EMPTY
finished_misuse (Some (token.Run c)) = WRONG
finished_misuse (Some (token.Taken t)) = UNPERFORMED
finished_misuse (Some (token.Finished x)) = 0
finished_misuse (Some (token.Over o)) = WRONG
finished_misuse (Some token.Empty) = WRONG

-- what a handle holds that a value was put into, where it is one
abbrev pub held_of : Token → Option Token
held_of token.Empty = None
held_of t = Some t

-- what a call answers that performs work with the verdict of a host, 0 for fine and 1 for a fault, and 0 where it performs it: a fault is said of work whose body is run
abbrev pub verdict_misuse : Bool → ℕ → ℕ
verdict_misuse body verdict = cond (verdict == 0) 0 (cond (verdict == 1) (cond body 0 WRONG) RANGE)

abbrev pub finish_misuse : Option Token → ℕ → ℕ
finish_misuse (Some (token.Taken t)) verdict = verdict_misuse (has_body t) verdict
finish_misuse held verdict = taken_misuse held

-- how lines have ended of which a handle tells
abbrev pub ends_in : Option Token → ℕ → End
ends_in (Some (token.Run c)) i = end_in c i
ends_in (Some (token.Over o)) i = end_of o.found i
ends_in _ i = Waiting

-- the graph of what has come to its end
abbrev pub graph_over : Over → GraphValue
graph_over o = (arc_value o.graph).graph

-- it holds a run of this graph, or what such a run gave in the end
abbrev pub IsRunOf : Option Token → GraphValue → Type 0
IsRunOf (Some (token.Run c)) g = c.graph ≡ g
IsRunOf (Some (token.Over o)) g = graph_over o ≡ g
IsRunOf _ g = ⊥

-- and no work of it is out
abbrev pub MayReport : Option Token → GraphValue → Type 0
MayReport (Some (token.Run c)) g = (c.graph ≡ g) × NothingOut c
MayReport (Some (token.Over o)) g = graph_over o ≡ g
MayReport _ g = ⊥

-- how many lines of a run have come how far
abbrev pub lines_of : CoreValue → Lines
lines_of c = record {
  unissued = lines_at c stages.Unissued;
  issued = lines_at c stages.Issued;
  out = lines_at c stages.Out;
  ended = lines_at c stages.Ended;
  left = lines_left c;
}

abbrev pub no_lines : Lines
no_lines = record { unissued = 0; issued = 0; out = 0; ended = 0; left = 0 }

-- the number of what issuing answers
abbrev pub issue_number : Issue → ℕ
issue_number (issues.Issued i) = 0
issue_number issues.All = 4
issue_number issues.NoSlot = 5
issue_number issues.Other = 11

-- the line that was issued, where one was
abbrev pub issued_line : Issue → ℕ → ℕ
issued_line (issues.Issued i) before = i
issued_line _ before = before

-- the number of what taking a line answers
abbrev pub attempt_number : Attempt → ℕ
attempt_number (attempts.Taken w) = 0
attempt_number (attempts.NotYet j) = 1
attempt_number (attempts.Busy (things.Lock l)) = 2
attempt_number (attempts.Busy (things.Column c)) = 3
attempt_number (attempts.Over s) = 9
attempt_number attempts.Never = 10

-- what is told beside it: the line that is waited for, or the reservation or the column that is out
abbrev pub other_of : Attempt → ℕ → ℕ
other_of (attempts.NotYet j) before = j
other_of (attempts.Busy (things.Lock l)) before = l
other_of (attempts.Busy (things.Column c)) before = c
other_of _ before = before

-- the work that was taken, of this graph
abbrev pub IsTaken : Attempt → GraphValue → Option Token → Type 0
IsTaken (attempts.Taken w) g held = HoldsTaken held (λ t. (t.work ≡ w) × ((arc_value t.graph).graph ≡ g))
IsTaken _ g held = held ≡ None

-- the work is that of a line which is out of some core of its graph
abbrev pub IsOfRun : Taken → Type 0
IsOfRun t = (c : CoreValue) × IsCore c × (c.graph ≡ (arc_value t.graph).graph) × IsWork c t.work

-- and the core is one whose host may say of calls that they faulted
abbrev pub IsOfHost : Taken → Type 0
IsOfHost t = (c : CoreValue) × IsCore c × (c.hosted ≡ true) × (c.graph ≡ (arc_value t.graph).graph) × IsWork c t.work

-- the end of a call whose body has this verdict
abbrev pub end_said : ℕ → End
end_said verdict = cond (verdict == 0) Done Faulted

-- the work was performed, with this verdict of its body
pub record FinishedBy (t : Taken) (verdict : ℕ) (f : FinishedValue) : Type 0 where
  pub line : f.line ≡ t.work.line
  pub said : has_body t ≡ true → f.ends ≡ end_said verdict
  pub finished : (c : CoreValue) → IsCore c → c.hosted ≡ true → c.graph ≡ (arc_value t.graph).graph → IsWork c t.work → IsFinished c f

-- the next line was issued, or none was, and this was answered
pub record IssuedBy (c d : CoreValue) (number before after : ℕ) : Type 0 where
  pub answer : Issue
  pub did : Issues c d answer
  pub number_is : number ≡ issue_number answer
  pub line_is : after ≡ issued_line answer before
  pub slots : slots_given d ≡ slots_given c
  pub out : SameOut c d
  pub works : (k : ℕ) → KeepsWork c d k

-- a line was to be taken, and this was answered
pub record TakenBy (c d : CoreValue) (line number before after : ℕ) (held : Option Token) : Type 0 where
  pub answer : Attempt
  pub did : Attempts c d line answer
  pub number_is : number ≡ attempt_number answer
  pub other_is : after ≡ other_of answer before
  pub slots : slots_given d ≡ slots_given c
  pub out : OutAfter c d answer
  pub works : (k : ℕ) → KeepsWork c d k
  pub sound : IsCore d
  pub work : IsTaken answer d.graph held

-- a line was put back
pub record PutBackBy (c d : CoreValue) (f : FinishedValue) : Type 0 where
  pub put : d ≡ with_end c f
  pub slots : slots_given d ≡ slots_given c
  pub out : OneMoreOut d c f.line
  pub works : (k : ℕ) → k ≢ f.line → KeepsWork c d k

-- a line that waited for one that has ended was given, or there was none
pub record WokenBy (c d : CoreValue) (number before after : ℕ) : Type 0 where
  pub answers : ((number ≡ 0) × Wakes c after d × (after < length c.graph.lines)) ⊎ ((number ≡ 4) × (c.table.caught ≡ []) × (d ≡ c) × (after ≡ before))
  pub slots : slots_given d ≡ slots_given c
  pub out : SameOut c d
  pub works : (k : ℕ) → KeepsWork c d k

-- the handle holds something
abbrev pub HoldsAny : Option Token → Type 0
HoldsAny o = (t : Token) × (o ≡ Some t)
