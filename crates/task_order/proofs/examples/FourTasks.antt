-- Four tasks with bodies by hand that keep to their accesses, and a run in which two of them are out at once.
use Rattle.std.proofs.Common.{◌≡◌, ℕ, zero, suc, ◌+◌, Bool, true, false, cond, List, [], ◌∷◌, map, refl, ap, ◌∙◌, sym, arith}
use Rattle.std.specs.Prelude.{◌==◌, filter}
use Rattle.std.proofs.lemmas.Bool.{cond-true, cond-false}
use Rattle.basics.proofs.ListFacts.{numbers_below}
use Rattle.task_order.specs.declared.access.Access.{Access}
use Rattle.task_order.specs.declared.status.Status.TheVariants.{Done, Faulted, Cancelled}
use Rattle.task_order.specs.Tasks.{changes, accesses_of, depends}
use Rattle.task_order.specs.Sequence.{Memory, Bodies, SameWhereUsed, KeepTo, sequence}
use Rattle.task_order.specs.Run.{TaskRun, begun, started, ended, IsRun, begins, starts, cancels}
use Rattle.task_order.specs.Laws.{Agrees}
use Rattle.task_order.proofs.Agreement.{runs_are_sequential}
use Rattle.task_order.proofs.GoingOn.{due_by_computing, performed, performs}

abbrev pub reading : ℕ → Access
reading p = record { first = p; count = 1; writes = false }

abbrev pub writing : ℕ → Access
writing p = record { first = p; count = 1; writes = true }

abbrev pub tasks : List (List Access)
tasks = (writing 0 ∷ []) ∷ (reading 0 ∷ writing 1 ∷ []) ∷ (reading 0 ∷ writing 2 ∷ []) ∷ (reading 2 ∷ writing 1 ∷ []) ∷ []

-- what a task leaves in the pieces that it may change
abbrev value : ℕ → Memory ℕ → ℕ
value zero m = 5
value (suc zero) m = m 0 + 1
value (suc (suc i)) m = 7

-- the third task fails where it finds what the first leaves
abbrev fails : ℕ → Memory ℕ → Bool
fails (suc (suc zero)) m = m 0 == 5
fails _ m = false

abbrev pub bodies : Bodies ℕ
bodies = record { leaves = λ i m p. cond (changes (accesses_of tasks i) p) (value i m) (m p); fails = fails }

abbrev pub start : Memory ℕ
start p = 0

-- THEY KEEP TO THEIR ACCESSES
value_same : (i : ℕ) (m n : Memory ℕ) → SameWhereUsed tasks i m n → value i m ≡ value i n
value_same zero m n same = refl
value_same (suc zero) m n same = ap (λ x. x + 1) (same 0 refl)
value_same (suc (suc i)) m n same = refl

fails_same : (i : ℕ) (m n : Memory ℕ) → SameWhereUsed tasks i m n → fails i m ≡ fails i n
fails_same zero m n same = refl
fails_same (suc zero) m n same = refl
fails_same (suc (suc zero)) m n same = ap (λ x. x == 5) (same 0 refl)
fails_same (suc (suc (suc i))) m n same = refl

pub keep : KeepTo tasks bodies
keep = record {
  untouched = λ i m p cannot. cond-false (changes (accesses_of tasks i) p) (value i m) (m p) cannot;
  leaves = λ i m n same p can. cond-true (changes (accesses_of tasks i) p) (value i m) (m p) can
      ∙ (value_same i m n same ∙ sym (cond-true (changes (accesses_of tasks i) p) (value i n) (n p) can));
  fails = fails_same;
}

-- ONE AFTER THE OTHER
dependences : map (λ j. filter (λ i. depends tasks i j) (numbers_below 4)) (numbers_below 4) ≡ [] ∷ (0 ∷ []) ∷ (0 ∷ []) ∷ (1 ∷ 2 ∷ []) ∷ []
dependences = refl

how_they_end : map (sequence tasks bodies start 4).status (numbers_below 4) ≡ Done ∷ Done ∷ Faulted ∷ Cancelled ∷ []
how_they_end = refl

what_they_leave : map (sequence tasks bodies start 4).memory (numbers_below 3) ≡ 5 ∷ 6 ∷ 7 ∷ []
what_they_leave = refl

-- A RUN: behind the first the third starts, then the second
abbrev two_out : TaskRun ℕ
two_out = started (started (performed tasks bodies start (started (begun start) 0) 0) 2) 1

two_out-run : IsRun tasks bodies start two_out
two_out-run = starts (started (performed tasks bodies start (started (begun start) 0) 0) 2) 1
    (starts (performed tasks bodies start (started (begun start) 0) 0) 2
    (performs tasks bodies start (started (begun start) 0) 0
    (starts (begun start) 0 (begins refl) (due_by_computing tasks (begun start).status 0 (omega arith) refl refl) refl refl)
    refl)
    (due_by_computing tasks (performed tasks bodies start (started (begun start) 0) 0).status 2 (omega arith) refl refl) refl refl)
    (due_by_computing tasks (started (performed tasks bodies start (started (begun start) 0) 0) 2).status 1 (omega arith) refl refl) refl refl

abbrev all_over : TaskRun ℕ
all_over = ended (performed tasks bodies start (performed tasks bodies start two_out 2) 1) 3 Cancelled

all_over-run : IsRun tasks bodies start all_over
all_over-run = cancels (performed tasks bodies start (performed tasks bodies start two_out 2) 1) 3
    (performs tasks bodies start (performed tasks bodies start two_out 2) 1 (performs tasks bodies start two_out 2 two_out-run refl) refl)
    (due_by_computing tasks (performed tasks bodies start (performed tasks bodies start two_out 2) 1).status 3 (omega arith) refl refl) refl refl

how_they_end_there : map all_over.status (numbers_below 4) ≡ Done ∷ Done ∷ Faulted ∷ Cancelled ∷ []
how_they_end_there = refl

what_they_leave_there : map all_over.memory (numbers_below 3) ≡ 5 ∷ 6 ∷ 7 ∷ []
what_they_leave_there = refl

-- and so by the law
agrees : Agrees tasks bodies start all_over
agrees = runs_are_sequential ℕ tasks bodies start all_over keep all_over-run
