-- What each step of a run keeps.
use Rattle.std.proofs.Common.{◌≡◌, ℕ, suc, ◌<◌, ◌≤◌, true, false, cond, ◌&&◌, inl, inr, List, length, refl, sym, ◌∙◌, ap, subst, arith}
use Rattle.std.specs.Prelude.{◌≢◌, IsTrue}
use Rattle.std.proofs.lemmas.Bool.{true≢false, cases_Bool, cases_lt, cases_order, cases_eq, eq-eqb, ne_eqb, false_from_ne_true}
use Rattle.basics.proofs.ListFacts.{numbers_below, below_contains, list_any_agree}
use Rattle.task_order.specs.declared.access.Access.{Access}
use Rattle.task_order.specs.declared.status.Status.{Status}
use Rattle.task_order.specs.declared.status.Status.TheVariants.{Waiting, Running, Cancelled}
use Rattle.task_order.specs.Tasks.{uses, changes, accesses_of, depends}
use Rattle.task_order.specs.Sequence.{Memory, Bodies, SameWhereUsed, KeepTo, is_over, has_started, is_lost, is_cancelled, end_by, Past, with_status, sequence}
use Rattle.task_order.specs.Run.{IsDue, TaskRun, begun, started, with_memory, ended, ChangesOwn, HasRun}
use Rattle.task_order.specs.Laws.{IsSettled}
use Rattle.task_order.proofs.Pieces.{changed_is_used, depends_at}
use Rattle.task_order.proofs.Statuses.{started_is_past, over_is_past, running_is_past, over_not_running, ended_has_started, ended_is_over, set_here, set_else, set_below}
use Rattle.task_order.proofs.InOrder.{with_none, with_body, status_kept, memory_kept}

-- no task that runs may change a piece that is settled
runs_elsewhere : (tasks : List (List Access)) (status : ℕ → Status) (i n p : ℕ) → status i ≡ Running → IsSettled tasks status n p → changes (accesses_of tasks i) p ≡ false
runs_elsewhere tasks status i n p e h = false_from_ne_true (changes (accesses_of tasks i) p) (λ t. elim (cases_lt i n) [
  | inl less ↦ over_not_running (status i) (h.before i less t) e
  | inr more ↦ true≢false (sym (ap has_started e) ∙ h.behind i more t)
])

module _ {X : Type 0} (tasks : List (List Access)) (bodies : Bodies X) (start : Memory X) where
  -- what each step keeps
  pub record IsKept (r : TaskRun X) : Type 0 where
    pub ends : (i : ℕ) → IsTrue (is_over (r.status i)) → r.status i ≡ (sequence tasks bodies start (suc i)).status i
    pub inserted : (i : ℕ) → r.status i ≢ Waiting → i < length tasks
    pub ready : (i j : ℕ) → r.status i ≢ Waiting → IsTrue (depends tasks j i) → IsTrue (is_over (r.status j))
    pub runs : (i : ℕ) → r.status i ≡ Running → is_cancelled tasks (sequence tasks bodies start i).status i ≡ false
    pub finds : (i p : ℕ) → r.status i ≡ Running → uses (accesses_of tasks i) p ≡ true → r.found i p ≡ (sequence tasks bodies start i).memory p
    pub reads : (i p : ℕ) → r.status i ≡ Running → uses (accesses_of tasks i) p ≡ true → changes (accesses_of tasks i) p ≡ false → r.memory p ≡ r.found i p
    pub memory : (n p : ℕ) → IsSettled tasks r.status n p → r.memory p ≡ (sequence tasks bodies start n).memory p

  -- two tasks that run use no piece that one of them may change
  pub apart : (r : TaskRun X) → IsKept r → (i j p : ℕ) → r.status i ≡ Running → r.status j ≡ Running → i ≢ j → changes (accesses_of tasks i) p ≡ true → uses (accesses_of tasks j) p ≡ false
  apart r kept i j p ri rj different changed = false_from_ne_true (uses (accesses_of tasks j) p) (λ used. elim (cases_order i j) [
    | inl same ↦ different same
    | inr (inl less) ↦ over_not_running (r.status i) (kept.ready j i (running_is_past (r.status j) rj)
        (depends_at tasks i j p less (record { one = changed_is_used (accesses_of tasks i) p changed; other = used; change = inl changed }))) ri
    | inr (inr more) ↦ over_not_running (r.status j) (kept.ready i j (running_is_past (r.status i) ri)
        (depends_at tasks j i p more (record { one = used; other = changed_is_used (accesses_of tasks i) p changed; change = inr changed }))) rj
  ])

  -- THE BEGINNING
  pub kept_begun : KeepTo tasks bodies → IsKept (begun start)
  kept_begun keeps = record {
    ends = λ i e. absurd (true≢false (sym e));
    inserted = λ i e. absurd (e refl);
    ready = λ i j e. absurd (e refl);
    runs = λ i e. absurd (running_is_past Waiting e refl);
    finds = λ i p e. absurd (running_is_past Waiting e refl);
    reads = λ i p e. absurd (running_is_past Waiting e refl);
    memory = λ n p h. sym (memory_kept tasks bodies start keeps n 0 p (omega arith) (λ k from below.
        false_from_ne_true (changes (accesses_of tasks k) p) (λ t. true≢false (sym (h.before k below t)))));
  }

  module _ (keeps : KeepTo tasks bodies) (r : TaskRun X) (kept : IsKept r) where
    -- THE STATUS OF TASK i CHANGES, which has not ended and all of whose dependences have
    module _ (i : ℕ) (s : Status) (left : is_over (r.status i) ≡ false) (ready : (j : ℕ) → IsTrue (depends tasks j i) → IsTrue (is_over (r.status j))) where
      not_over : (k : ℕ) → k ≡ i → IsTrue (is_over (r.status k)) → ⊥
      not_over k same t = true≢false (sym t ∙ (ap (λ x. is_over (r.status x)) same ∙ left))

      over_stays : (k : ℕ) → IsTrue (is_over (r.status k)) → IsTrue (is_over (with_status r.status i s k))
      over_stays k t = ap is_over (set_else r.status i k s (λ same. not_over k same t)) ∙ t

      over_was : (k : ℕ) → k ≢ i → IsTrue (is_over (with_status r.status i s k)) → IsTrue (is_over (r.status k))
      over_was k other t = ap is_over (sym (set_else r.status i k s other)) ∙ t

      past_was : (k : ℕ) → k ≢ i → with_status r.status i s k ≢ Waiting → r.status k ≢ Waiting
      past_was k other past e = past (set_else r.status i k s other ∙ e)

      ready_now : (k j : ℕ) → with_status r.status i s k ≢ Waiting → IsTrue (depends tasks j k) → IsTrue (is_over (with_status r.status i s j))
      ready_now k j past d = elim (cases_eq k i) [
        | inl same ↦ over_stays j (ready j (subst (λ x. IsTrue (depends tasks j x)) same d))
        | inr other ↦ over_stays j (kept.ready k j (past_was k other past) d)
      ]

      inserted_now : i < length tasks → (k : ℕ) → with_status r.status i s k ≢ Waiting → k < length tasks
      inserted_now below = set_below r.status i (length tasks) s below kept.inserted

      -- no task that depends on it has left its place
      later_waits : (k : ℕ) → IsTrue (depends tasks i k) → r.status k ≢ Waiting → ⊥
      later_waits k d past = not_over i refl (kept.ready k i past d)

      -- so what it uses is settled, as long as its body has not run
      settled_here : has_started (r.status i) ≡ false → (p : ℕ) → uses (accesses_of tasks i) p ≡ true → IsSettled tasks r.status i p
      settled_here waits p used = record {
        before = λ k below changed. ready k (depends_at tasks k i p below (record { one = changed_is_used (accesses_of tasks k) p changed; other = used; change = inl changed }));
        behind = λ k from changed. elim (cases_order i k) [
          | inl same ↦ subst (λ x. has_started (r.status x) ≡ false) same waits
          | inr (inl less) ↦ false_from_ne_true (has_started (r.status k)) (λ t.
              later_waits k (depends_at tasks i k p less (record { one = used; other = changed_is_used (accesses_of tasks k) p changed; change = inr changed })) (started_is_past (r.status k) t))
          | inr (inr more) ↦ absurd (omega arith)
        ];
      }

      -- a piece that it may not change was settled before
      other_task : (k p : ℕ) → changes (accesses_of tasks i) p ≡ false → changes (accesses_of tasks k) p ≡ true → k ≢ i
      other_task k p cannot can same = true≢false (sym can ∙ (ap (λ x. changes (accesses_of tasks x) p) same ∙ cannot))

      settled_before : (n p : ℕ) → changes (accesses_of tasks i) p ≡ false → IsSettled tasks (with_status r.status i s) n p → IsSettled tasks r.status n p
      settled_before n p cannot h = record {
        before = λ k below changed. over_was k (other_task k p cannot changed) (h.before k below changed);
        behind = λ k from changed. ap has_started (sym (set_else r.status i k s (other_task k p cannot changed))) ∙ h.behind k from changed;
      }

      -- and behind it nothing has changed a piece that it may change
      stays_behind : (n p : ℕ) → i < n → changes (accesses_of tasks i) p ≡ true → IsSettled tasks (with_status r.status i s) n p →
          (sequence tasks bodies start n).memory p ≡ (sequence tasks bodies start (suc i)).memory p
      stays_behind n p below changed h = memory_kept tasks bodies start keeps n (suc i) p (omega arith) (λ k from under.
          false_from_ne_true (changes (accesses_of tasks k) p) (λ t.
          later_waits k (depends_at tasks i k p (omega arith) (record { one = changed_is_used (accesses_of tasks i) p changed; other = changed_is_used (accesses_of tasks k) p t; change = inr t }))
          (over_is_past (r.status k) (over_was k (λ same. absurd (omega arith)) (h.before k under t)))))

      -- of the tasks before it, those that it depends on have ended as one after the other
      same_cancelled : is_cancelled tasks r.status i ≡ is_cancelled tasks (sequence tasks bodies start i).status i
      same_cancelled = list_any_agree (λ j. depends tasks j i && is_lost (r.status j)) (λ j. depends tasks j i && is_lost ((sequence tasks bodies start i).status j)) (numbers_below i)
          (λ j listed. elim (cases_Bool (depends tasks j i)) [
            | inl d ↦ ap (λ x. depends tasks j i && is_lost x) (kept.ends j (ready j d) ∙ sym (status_kept tasks bodies start i (suc j) j (omega arith) (let b : j < i = below_contains i j listed in omega arith)))
            | inr d ↦ ap (λ b. b && is_lost (r.status j)) d ∙ sym (ap (λ b. b && is_lost ((sequence tasks bodies start i).status j)) d)
          ])

    -- A TASK STARTS
    module _ (i : ℕ) (due : IsDue tasks r.status i) (runs_now : is_cancelled tasks r.status i ≡ false) where
      waits_left : is_over (r.status i) ≡ false
      waits_left = ap is_over due.waits

      found_here : (k p : ℕ) → k ≡ i → (started r i).found k p ≡ r.memory p
      found_here k p same = ap (λ b. (cond b r.memory (r.found k)) p) (eq-eqb k i same)

      found_else : (k p : ℕ) → k ≢ i → (started r i).found k p ≡ r.found k p
      found_else k p other = ap (λ b. (cond b r.memory (r.found k)) p) (ne_eqb k i other)

      running_was : (k : ℕ) → k ≢ i → (started r i).status k ≡ Running → r.status k ≡ Running
      running_was k other e = sym (set_else r.status i k Running other) ∙ e

      pub kept_started : IsKept (started r i)
      kept_started = record {
        ends = λ k t. elim (cases_eq k i) [
          | inl same ↦ absurd (over_not_running ((started r i).status k) t (set_here r.status i k Running same))
          | inr other ↦ set_else r.status i k Running other ∙ kept.ends k (over_was i Running waits_left due.ready k other t)
        ];
        inserted = inserted_now i Running waits_left due.ready due.inserted;
        ready = ready_now i Running waits_left due.ready;
        runs = λ k e. elim (cases_eq k i) [
          | inl same ↦ subst (λ x. is_cancelled tasks (sequence tasks bodies start x).status x ≡ false) (sym same) (sym (same_cancelled i Running waits_left due.ready) ∙ runs_now)
          | inr other ↦ kept.runs k (running_was k other e)
        ];
        finds = λ k p e used. elim (cases_eq k i) [
          | inl same ↦ found_here k p same ∙ (kept.memory i p (settled_here i Running waits_left due.ready (ap has_started due.waits) p (subst (λ x. uses (accesses_of tasks x) p ≡ true) same used))
              ∙ ap (λ x. (sequence tasks bodies start x).memory p) (sym same))
          | inr other ↦ found_else k p other ∙ kept.finds k p (running_was k other e) used
        ];
        reads = λ k p e used cannot. elim (cases_eq k i) [
          | inl same ↦ sym (found_here k p same)
          | inr other ↦ kept.reads k p (running_was k other e) used cannot ∙ sym (found_else k p other)
        ];
        memory = λ n p h. kept.memory n p (settled_before i Running waits_left due.ready n p
            (runs_elsewhere tasks (with_status r.status i Running) i n p (set_here r.status i i Running refl) h) h);
      }

    -- THE MEMORY CHANGES
    module _ (i : ℕ) (memory : Memory X) (running : r.status i ≡ Running) (own : ChangesOwn tasks i r.memory memory) where
      reads_after : (k p : ℕ) → r.status k ≡ Running → uses (accesses_of tasks k) p ≡ true → changes (accesses_of tasks k) p ≡ false → memory p ≡ r.found k p
      reads_after k p e used cannot =
          let untouched : changes (accesses_of tasks i) p ≡ false = elim (cases_eq k i) [
            | inl same ↦ subst (λ x. changes (accesses_of tasks x) p ≡ false) same cannot
            | inr other ↦ false_from_ne_true (changes (accesses_of tasks i) p) (λ t. true≢false (sym used ∙ apart r kept i k p running e (λ same. other (sym same)) t))
          ] in
          own p untouched ∙ kept.reads k p e used cannot

      pub kept_written : IsKept (with_memory r memory)
      kept_written = record {
        ends = kept.ends;
        inserted = kept.inserted;
        ready = kept.ready;
        runs = kept.runs;
        finds = kept.finds;
        reads = reads_after;
        memory = λ n p h. own p (runs_elsewhere tasks r.status i n p running h) ∙ kept.memory n p h;
      }

    -- A TASK HAS ENDED as one after the other, where the memory is as there
    module _ (i : ℕ) (s : Status) (left : is_over (r.status i) ≡ false) (ready : (j : ℕ) → IsTrue (depends tasks j i) → IsTrue (is_over (r.status j))) (below : i < length tasks)
        (over : IsTrue (is_over s)) (same_end : s ≡ (sequence tasks bodies start (suc i)).status i)
        (memory : (n p : ℕ) → changes (accesses_of tasks i) p ≡ true → IsSettled tasks (with_status r.status i s) n p → r.memory p ≡ (sequence tasks bodies start n).memory p) where
      still_running : (k : ℕ) → with_status r.status i s k ≡ Running → r.status k ≡ Running
      still_running k e = elim (cases_eq k i) [
        | inl same ↦ absurd (over_not_running s over (sym (set_here r.status i k s same) ∙ e))
        | inr other ↦ sym (set_else r.status i k s other) ∙ e
      ]

      kept_over : IsKept (ended r i s)
      kept_over = record {
        ends = λ k t. elim (cases_eq k i) [
          | inl same ↦ set_here r.status i k s same ∙ (same_end ∙ ap (λ x. (sequence tasks bodies start (suc x)).status x) (sym same))
          | inr other ↦ set_else r.status i k s other ∙ kept.ends k (over_was i s left ready k other t)
        ];
        inserted = inserted_now i s left ready below;
        ready = ready_now i s left ready;
        runs = λ k e. kept.runs k (still_running k e);
        finds = λ k p e. kept.finds k p (still_running k e);
        reads = λ k p e. kept.reads k p (still_running k e);
        memory = λ n p h. elim (cases_Bool (changes (accesses_of tasks i) p)) [
          | inl can ↦ memory n p can h
          | inr cannot ↦ kept.memory n p (settled_before i s left ready n p cannot h)
        ];
      }

    -- A BODY HAS RUN
    module _ (i : ℕ) (running : r.status i ≡ Running) (has_run : HasRun tasks bodies r i) where
      runs_left : is_over (r.status i) ≡ false
      runs_left = ap is_over running

      past : r.status i ≢ Waiting
      past = running_is_past (r.status i) running

      same_found : SameWhereUsed tasks i (r.found i) (sequence tasks bodies start i).memory
      same_found p used = kept.finds i p running used

      same_end : end_by (bodies.fails i (r.found i)) ≡ (sequence tasks bodies start (suc i)).status i
      same_end = ap end_by (keeps.fails i (r.found i) (sequence tasks bodies start i).memory same_found)
          ∙ sym (ap (λ (past : Past X). past.status i) (with_body tasks bodies start i (kept.runs i running)) ∙ set_here (sequence tasks bodies start i).status i i (end_by (bodies.fails i (sequence tasks bodies start i).memory)) refl)

      same_left : (p : ℕ) → changes (accesses_of tasks i) p ≡ true → r.memory p ≡ (sequence tasks bodies start (suc i)).memory p
      same_left p changed = has_run p changed ∙ (keeps.leaves i (r.found i) (sequence tasks bodies start i).memory same_found p changed
          ∙ sym (ap (λ (past : Past X). past.memory p) (with_body tasks bodies start i (kept.runs i running))))

      memory_ended : (n p : ℕ) → changes (accesses_of tasks i) p ≡ true → IsSettled tasks (with_status r.status i (end_by (bodies.fails i (r.found i)))) n p → r.memory p ≡ (sequence tasks bodies start n).memory p
      memory_ended n p changed h = elim (cases_lt i n) [
        | inl less ↦ same_left p changed ∙ sym (stays_behind i (end_by (bodies.fails i (r.found i))) runs_left (λ j. kept.ready i j past) n p less changed h)
        | inr more ↦ absurd (true≢false (sym (ap has_started (set_here r.status i i (end_by (bodies.fails i (r.found i))) refl) ∙ ended_has_started (bodies.fails i (r.found i))) ∙ h.behind i more changed))
      ]

      pub kept_ended : IsKept (ended r i (end_by (bodies.fails i (r.found i))))
      kept_ended = kept_over i (end_by (bodies.fails i (r.found i))) runs_left (λ j. kept.ready i j past) (kept.inserted i past) (ended_is_over (bodies.fails i (r.found i))) same_end memory_ended

    -- A TASK IS CANCELLED
    module _ (i : ℕ) (due : IsDue tasks r.status i) (lost : is_cancelled tasks r.status i ≡ true) where
      due_left : is_over (r.status i) ≡ false
      due_left = ap is_over due.waits

      lost_there : is_cancelled tasks (sequence tasks bodies start i).status i ≡ true
      lost_there = sym (same_cancelled i Cancelled due_left due.ready) ∙ lost

      cancelled_there : Cancelled ≡ (sequence tasks bodies start (suc i)).status i
      cancelled_there = sym (ap (λ (past : Past X). past.status i) (with_none tasks bodies start i lost_there) ∙ set_here (sequence tasks bodies start i).status i i Cancelled refl)

      -- a piece that it may change was settled where it is so now
      settled_too : (n p : ℕ) → n ≤ i → IsSettled tasks (with_status r.status i Cancelled) n p → IsSettled tasks r.status n p
      settled_too n p le h = record {
        before = λ k below changed. over_was i Cancelled due_left due.ready k (λ same. absurd (omega arith)) (h.before k below changed);
        behind = λ k from changed. elim (cases_eq k i) [
          | inl same ↦ ap (λ x. has_started (r.status x)) same ∙ ap has_started due.waits
          | inr other ↦ ap has_started (sym (set_else r.status i k Cancelled other)) ∙ h.behind k from changed
        ];
      }

      memory_cancelled : (n p : ℕ) → changes (accesses_of tasks i) p ≡ true → IsSettled tasks (with_status r.status i Cancelled) n p → r.memory p ≡ (sequence tasks bodies start n).memory p
      memory_cancelled n p changed h = elim (cases_lt i n) [
        | inl less ↦ kept.memory i p (settled_here i Cancelled due_left due.ready (ap has_started due.waits) p (changed_is_used (accesses_of tasks i) p changed))
            ∙ (sym (ap (λ (past : Past X). past.memory p) (with_none tasks bodies start i lost_there))
            ∙ sym (stays_behind i Cancelled due_left due.ready n p less changed h))
        | inr more ↦ kept.memory n p (settled_too n p more h)
      ]

      pub kept_cancelled : IsKept (ended r i Cancelled)
      kept_cancelled = kept_over i Cancelled due_left due.ready due.inserted refl cancelled_there memory_cancelled
