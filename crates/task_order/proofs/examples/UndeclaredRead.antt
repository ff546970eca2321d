-- Two tasks of which the second reads a piece that it does not name: a run leaves other memory than they do one after the other, so the premise that bodies keep to their accesses is needed.
use Rattle.std.proofs.Common.{◌≡◌, ℕ, zero, suc, false, cond, List, [], ◌∷◌, refl, arith}
use Rattle.task_order.specs.declared.access.Access.{Access}
use Rattle.task_order.specs.Tasks.{changes, accesses_of}
use Rattle.task_order.specs.Sequence.{Memory, Bodies, KeepTo}
use Rattle.task_order.specs.Run.{TaskRun, begun, started, IsRun, begins, starts}
use Rattle.task_order.specs.Laws.{AllOver, Agrees}
use Rattle.task_order.proofs.Agreement.{runs_are_sequential}
use Rattle.task_order.proofs.GoingOn.{due_by_computing, performed, performs}
use Rattle.task_order.proofs.examples.FourTasks.{writing}

abbrev tasks : List (List Access)
tasks = (writing 0 ∷ []) ∷ (writing 1 ∷ []) ∷ []

abbrev value : ℕ → Memory ℕ → ℕ
value zero m = 1
value (suc i) m = m 0

abbrev bodies : Bodies ℕ
bodies = record { leaves = λ i m p. cond (changes (accesses_of tasks i) p) (value i m) (m p); fails = λ i m. false }

abbrev start : Memory ℕ
start p = 0

-- the second task runs first
abbrev second_over : TaskRun ℕ
second_over = performed tasks bodies start (started (begun start) 1) 1

abbrev both_over : TaskRun ℕ
both_over = performed tasks bodies start (started second_over 0) 0

both_over-run : IsRun tasks bodies start both_over
both_over-run = performs tasks bodies start (started second_over 0) 0
    (starts second_over 0
    (performs tasks bodies start (started (begun start) 1) 1
    (starts (begun start) 1 (begins refl) (due_by_computing tasks (begun start).status 1 (omega arith) refl refl) refl refl)
    refl)
    (due_by_computing tasks second_over.status 0 (omega arith) refl refl) refl refl)
    refl

all_over : AllOver tasks both_over.status
all_over zero below = refl
all_over (suc zero) below = refl
all_over (suc (suc k)) below = absurd (omega arith)

zero≢one : (zero ≡ suc zero) → ⊥
zero≢one e = absurd (omega arith)

does_not_agree : Agrees tasks bodies start both_over → ⊥
does_not_agree a = zero≢one (a.memory all_over 1)

does_not_keep : KeepTo tasks bodies → ⊥
does_not_keep keep = does_not_agree (runs_are_sequential ℕ tasks bodies start both_over keep both_over-run)
