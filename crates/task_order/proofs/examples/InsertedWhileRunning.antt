-- The first two of the four tasks: the second is inserted while the first runs, and both end before the others are inserted.
use Rattle.std.proofs.Common.{◌≡◌, ℕ, zero, suc, List, [], ◌∷◌, map, refl, arith}
use Rattle.std.proofs.lemmas.Bool.{cond-true, cond-false}
use Rattle.basics.proofs.ListFacts.{numbers_below}
use Rattle.task_order.specs.declared.access.Access.{Access}
use Rattle.task_order.specs.declared.status.Status.TheVariants.{Running}
use Rattle.task_order.specs.Tasks.{changes, accesses_of}
use Rattle.task_order.specs.Run.{TaskRun, begun, started, with_memory}
use Rattle.task_order.specs.History.{IsHistory, begins, inserts, starts, writes, ends}
use Rattle.task_order.specs.Laws.{AllOver, EndsInOrder}
use Rattle.task_order.proofs.GoingOn.{due_by_computing, memory_left, performed}
use Rattle.task_order.proofs.Insertion.{histories_are_sequential}
use Rattle.task_order.proofs.examples.FourTasks.{reading, writing, bodies, start, keep}

abbrev one : List (List Access)
one = (writing 0 ∷ []) ∷ []

abbrev two : List (List Access)
two = (writing 0 ∷ []) ∷ (reading 0 ∷ writing 1 ∷ []) ∷ []

abbrev later : List (List Access)
later = (reading 0 ∷ writing 2 ∷ []) ∷ (reading 2 ∷ writing 1 ∷ []) ∷ []

-- a body does all of its changes at once, and the task ends
performs : (r : TaskRun ℕ) (i : ℕ) → IsHistory bodies start two r → r.status i ≡ Running → IsHistory bodies start two (performed two bodies start r i)
performs r i history running = ends (with_memory r (memory_left two bodies start r i)) i
    (writes r i (memory_left two bodies start r i) history running
    (λ p cannot. cond-false (changes (accesses_of two i) p) (bodies.leaves i (r.found i) p) (r.memory p) cannot) refl)
    running (λ p can. cond-true (changes (accesses_of two i) p) (bodies.leaves i (r.found i) p) (r.memory p) can) refl

abbrev first_out : TaskRun ℕ
first_out = started (begun start) 0

first_out-history : IsHistory bodies start one first_out
first_out-history = starts (begun start) 0 (inserts [] (begun start) (writing 0 ∷ []) (begins refl refl) refl refl)
    (due_by_computing one (begun start).status 0 (omega arith) refl refl) refl refl

abbrev first_over : TaskRun ℕ
first_over = performed two bodies start first_out 0

first_over-history : IsHistory bodies start two first_over
first_over-history = performs first_out 0 (inserts one first_out (reading 0 ∷ writing 1 ∷ []) first_out-history refl refl) refl

abbrev both_over : TaskRun ℕ
both_over = performed two bodies start (started first_over 1) 1

both_over-history : IsHistory bodies start two both_over
both_over-history = performs (started first_over 1) 1
    (starts first_over 1 first_over-history (due_by_computing two first_over.status 1 (omega arith) refl refl) refl refl) refl

all_over : AllOver two both_over.status
all_over zero below = refl
all_over (suc zero) below = refl
all_over (suc (suc k)) below = absurd (omega arith)

what_they_leave_there : map both_over.memory (numbers_below 3) ≡ 5 ∷ 6 ∷ 0 ∷ []
what_they_leave_there = refl

-- and so by the law, though the other two are yet to come
in_order : EndsInOrder two bodies start both_over
in_order = histories_are_sequential ℕ two later bodies start both_over keep both_over-history all_over
