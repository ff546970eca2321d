-- A run goes on: a task that runs can end, and where none runs, one is due or all have ended.
use Rattle.std.proofs.Common.{◌≡◌, ℕ, zero, suc, ◌<◌, ◌≤◌, true, false, cond, not, ◌||◌, ◌⊎◌, inl, inr, List, length, refl, sym, ◌∙◌, ap, subst, arith}
use Rattle.std.specs.Prelude.{◌≢◌, IsTrue}
use Rattle.std.proofs.lemmas.Bool.{true≢false, cases_Bool, cases_order, or_cases, cond-true, cond-false, not-true}
use Rattle.std.specs.List.{list_all}
use Rattle.basics.proofs.ListFacts.{numbers_below, contains_below, passes_each}
use Rattle.task_order.specs.declared.access.Access.{Access}
use Rattle.task_order.specs.declared.status.Status.{Status}
use Rattle.task_order.specs.declared.status.Status.TheVariants.{Waiting, Running, Cancelled}
use Rattle.task_order.specs.Tasks.{changes, accesses_of, depends}
use Rattle.task_order.specs.Sequence.{Memory, Bodies, is_over, is_cancelled, end_by, with_status}
use Rattle.task_order.specs.Run.{IsDue, TaskRun, begun, started, with_memory, ended, IsRun, begins, starts, writes, ends, cancels}
use Rattle.task_order.specs.Laws.{RunsGoOn, SomeRunEnds}
use Rattle.task_order.proofs.Pieces.{dependence_at}
use Rattle.task_order.proofs.Statuses.{waits_if_left, ended_is_over, set_here, set_else}

-- THE FIRST TASK THAT HAS NOT ENDED
record IsFirst (status : ℕ → Status) (n k : ℕ) : Type 0 where
  below : k < n
  left : is_over (status k) ≡ false
  others : (j : ℕ) → j < k → IsTrue (is_over (status j))

first_left : (status : ℕ → Status) (n : ℕ) → ((k : ℕ) × IsFirst status n k) ⊎ ((k : ℕ) → k < n → IsTrue (is_over (status k)))
first_left status zero = inr (λ k below. absurd (omega arith))
first_left status (suc n) = elim (first_left status n) [
  | inl (k, is) ↦ inl (k, record { below = (let b : k < n = is.below in omega arith); left = is.left; others = is.others })
  | inr all ↦ elim (cases_Bool (is_over (status n))) [
    | inl over ↦ inr (λ k below. elim (cases_order k n) [
      | inl same ↦ ap (λ x. is_over (status x)) same ∙ over
      | inr (inl less) ↦ all k less
      | inr (inr more) ↦ absurd (omega arith)
    ])
    | inr left ↦ inl (n, record { below = omega arith; left = left; others = all })
  ]
]

pub runs_go_on : RunsGoOn
runs_go_on tasks status idle = elim (first_left status (length tasks)) [
  | inr all ↦ inr all
  | inl (i, is) ↦ inl (
    i,
    record {
      inserted = is.below;
      waits = waits_if_left (status i) is.left (idle i);
      ready = λ j d. is.others j (dependence_at tasks j i d).0;
    },
  )
]

-- whether a task is due, by computing
pub due_by_computing : (tasks : List (List Access)) (status : ℕ → Status) (i : ℕ) → i < length tasks → status i ≡ Waiting → list_all (λ j. not (depends tasks j i) || is_over (status j)) (numbers_below i) ≡ true → IsDue tasks status i
due_by_computing tasks status i below waits all = record {
  inserted = below;
  waits = waits;
  ready = λ j d. elim (or_cases (not (depends tasks j i)) (is_over (status j)) (passes_each (λ k. not (depends tasks k i) || is_over (status k)) (numbers_below i) all j (contains_below i j (dependence_at tasks j i d).0))) [
    | inl none ↦ absurd (true≢false (sym d ∙ not-true (depends tasks j i) none))
    | inr over ↦ over
  ];
}

module _ {X : Type 0} (tasks : List (List Access)) (bodies : Bodies X) (start : Memory X) where
  -- A BODY DOES ALL OF ITS CHANGES AT ONCE, and the task ends
  abbrev pub memory_left : TaskRun X → ℕ → Memory X
  memory_left r i p = cond (changes (accesses_of tasks i) p) (bodies.leaves i (r.found i) p) (r.memory p)

  abbrev pub performed : TaskRun X → ℕ → TaskRun X
  performed r i = ended (with_memory r (memory_left r i)) i (end_by (bodies.fails i (r.found i)))

  pub performs : (r : TaskRun X) (i : ℕ) → IsRun tasks bodies start r → r.status i ≡ Running → IsRun tasks bodies start (performed r i)
  performs r i run running = ends (with_memory r (memory_left r i)) i
      (writes r i (memory_left r i) run running (λ p cannot. cond-false (changes (accesses_of tasks i) p) (bodies.leaves i (r.found i) p) (r.memory p) cannot) refl)
      running (λ p can. cond-true (changes (accesses_of tasks i) p) (bodies.leaves i (r.found i) p) (r.memory p) can) refl

  -- a task that is due starts and ends, or is cancelled
  abbrev passed : TaskRun X → ℕ → TaskRun X
  passed r i = cond (is_cancelled tasks r.status i) (ended r i Cancelled) (performed (started r i) i)

  passes : (r : TaskRun X) (i : ℕ) → IsRun tasks bodies start r → IsDue tasks r.status i → IsRun tasks bodies start (passed r i)
  passes r i run due = elim (cases_Bool (is_cancelled tasks r.status i)) [
    | inl lost ↦ cancels r i run due lost (cond-true (is_cancelled tasks r.status i) (ended r i Cancelled) (performed (started r i) i) lost)
    | inr runs ↦ subst (λ n. IsRun tasks bodies start n) (sym (cond-false (is_cancelled tasks r.status i) (ended r i Cancelled) (performed (started r i) i) runs))
        (performs (started r i) i (starts r i run due runs refl) (set_here r.status i i Running refl))
  ]

  passed_else : (r : TaskRun X) (i k : ℕ) → k ≢ i → (passed r i).status k ≡ r.status k
  passed_else r i k other = elim (cases_Bool (is_cancelled tasks r.status i)) [
    | inl lost ↦ ap (λ (n : TaskRun X). n.status k) (cond-true (is_cancelled tasks r.status i) (ended r i Cancelled) (performed (started r i) i) lost) ∙ set_else r.status i k Cancelled other
    | inr runs ↦ ap (λ (n : TaskRun X). n.status k) (cond-false (is_cancelled tasks r.status i) (ended r i Cancelled) (performed (started r i) i) runs)
        ∙ (set_else (with_status r.status i Running) i k (end_by (bodies.fails i ((started r i).found i))) other ∙ set_else r.status i k Running other)
  ]

  passed_is_over : (r : TaskRun X) (i : ℕ) → IsTrue (is_over ((passed r i).status i))
  passed_is_over r i = elim (cases_Bool (is_cancelled tasks r.status i)) [
    | inl lost ↦ ap (λ (n : TaskRun X). is_over (n.status i)) (cond-true (is_cancelled tasks r.status i) (ended r i Cancelled) (performed (started r i) i) lost) ∙ ap is_over (set_here r.status i i Cancelled refl)
    | inr runs ↦ ap (λ (n : TaskRun X). is_over (n.status i)) (cond-false (is_cancelled tasks r.status i) (ended r i Cancelled) (performed (started r i) i) runs)
        ∙ (ap is_over (set_here (with_status r.status i Running) i i (end_by (bodies.fails i ((started r i).found i))) refl) ∙ ended_is_over (bodies.fails i ((started r i).found i)))
  ]

  -- THE TASKS IN ORDER are a run
  record IsSoFar (n : ℕ) (r : TaskRun X) : Type 0 where
    run : IsRun tasks bodies start r
    over : (k : ℕ) → k < n → IsTrue (is_over (r.status k))
    waits : (k : ℕ) → n ≤ k → r.status k ≡ Waiting

  next : (n : ℕ) (r : TaskRun X) → n < length tasks → IsSoFar n r → IsSoFar (suc n) (passed r n)
  next n r below so = record {
    run = passes r n so.run (record { inserted = below; waits = so.waits n (omega arith); ready = λ j d. so.over j (dependence_at tasks j n d).0 });
    over = λ k under. elim (cases_order k n) [
      | inl same ↦ ap (λ x. is_over ((passed r n).status x)) same ∙ passed_is_over r n
      | inr (inl less) ↦ ap is_over (passed_else r n k (λ same. absurd (omega arith))) ∙ so.over k less
      | inr (inr more) ↦ absurd (omega arith)
    ];
    waits = λ k from. passed_else r n k (λ same. absurd (omega arith)) ∙ so.waits k (omega arith);
  }

  first_tasks : (n : ℕ) → n ≤ length tasks → (r : TaskRun X) × IsSoFar n r
  first_tasks zero le = (begun start, record { run = begins refl; over = λ k under. absurd (omega arith); waits = λ k from. refl })
  first_tasks (suc n) le = let before = first_tasks n (omega arith) in (passed before.0 n, next n before.0 (omega arith) before.1)

pub some_run_ends : (X : Type 0) → SomeRunEnds X
some_run_ends X tasks bodies start =
    let all = first_tasks tasks bodies start (length tasks) (omega arith) in
    (all.0, all.1.run, all.1.over)
