-- A window stays one as a task starts, ends or is cancelled.
use Rattle.std.proofs.Common.{◌≡◌, ◌⊎◌, ℕ, ◌<◌, ◌≤◌, Bool, true, false, not, inl, inr, List, length, refl, sym, ◌∙◌, ap, subst, arith}
use Rattle.std.specs.Prelude.{◌≢◌, ◌==◌, IsTrue, slice_index, slice_index_or, slice_set, Option, Some, None, IfNone}
use Rattle.std.proofs.lemmas.Bool.{cases_lt, cases_eq, cases_Bool, and_parts, and_from, eq-eqb, eqb-true, true≢false, not-true, not_from_false}
use Rattle.std.proofs.lemmas.List.{length-set, set-set, get_or_read, get_or_past}
use Rattle.basics.specs.Lists.{count_below}
use Rattle.basics.proofs.ListFacts.{some_below}
use Rattle.task_order.specs.declared.access.Access.{Access}
use Rattle.task_order.specs.declared.status.Status.{Status}
use Rattle.task_order.specs.declared.status.Status.TheVariants.{Waiting, Running, Done, Faulted, Cancelled}
use Rattle.task_order.specs.Tasks.{depends}
use Rattle.task_order.specs.Sources.{IsSource}
use Rattle.task_order.specs.Sequence.{is_over, is_lost, is_cancelled, end_by}
use Rattle.task_order.specs.Run.{IsDue}
use Rattle.task_order.proofs.Public.{sources_are_dependences, cancelled_by_lost, sources_suffice, lost_by_sources, depends_by_pieces}
use Rattle.task_window.specs.declared.links.Link.{Link}
use Rattle.task_window.specs.declared.pieces.Pieces.{Pieces}
use Rattle.task_window.specs.declared.queue.Queue.{Queue}
use Rattle.task_window.specs.Chains.{link_at}
use Rattle.task_window.specs.Waits.{status_at, spoiled_at, leads, is_pending, IsAtRest, Starts}
use Rattle.task_window.specs.Pieces.{tasks_of, IsLinked}
use Rattle.task_window.specs.Window.{IsWindow, IsKept}
use Rattle.task_window.proofs.Counting.{counted_some}
use Rattle.task_window.proofs.Steps.{set_here, set_there}

-- tests that are true together are the same
pub same_tests : (a b : Bool) → (a ≡ true → b ≡ true) → (b ≡ true → a ≡ true) → a ≡ b
same_tests true b f g = sym (f refl)
same_tests false true f g = absurd (true≢false (sym (g refl)))
same_tests false false f g = refl

is_true : (b : Bool) → IsTrue b → b ≡ true
is_true b h = h

true_is : (b : Bool) → b ≡ true → IsTrue b
true_is b e = e

depends_before : (tasks : List (List Access)) (i j : ℕ) → IsTrue (depends tasks i j) → i < j
depends_before tasks i j d = ((depends_by_pieces tasks i j).0 d).0

-- whether a task is cancelled, where those that it depends on are lost alike
pub cancelled_alike : (tasks : List (List Access)) (status status' : ℕ → Status) (j : ℕ) → ((i : ℕ) → IsTrue (depends tasks i j) → is_lost (status' i) ≡ is_lost (status i)) → is_cancelled tasks status' j ≡ is_cancelled tasks status j
cancelled_alike tasks status status' j same = same_tests (is_cancelled tasks status' j) (is_cancelled tasks status j)
    (λ e. (let r = (cancelled_by_lost tasks status' j).0 e in (cancelled_by_lost tasks status j).1 (r.0, r.1, subst IsTrue (same r.0 r.1) r.2)))
    (λ e. (let r = (cancelled_by_lost tasks status j).0 e in (cancelled_by_lost tasks status' j).1 (r.0, r.1, subst IsTrue (sym (same r.0 r.1)) r.2)))

-- one task that was not over has come further
module _ (tasks : List (List Access)) (status status' : ℕ → Status) (i : ℕ) (w : IsWindow tasks status) (fresh : is_over (status i) ≡ false) (others : (k : ℕ) → (k ≡ i → ⊥) → status' k ≡ status k)
    (ready : (k : ℕ) → IsTrue (depends tasks k i) → IsTrue (is_over (status k))) where
  not_on : (j : ℕ) → status j ≢ Waiting → IsTrue (depends tasks i j) → ⊥
  not_on j n d = true≢false (sym (is_true (is_over (status i)) (w.started i j d n)) ∙ fresh)

  over_other : (k : ℕ) → IsTrue (is_over (status k)) → IsTrue (is_over (status' k))
  over_other k o = elim (cases_eq k i) [
    | inl e ↦ absurd (true≢false (sym (is_true (is_over (status i)) (subst (λ y. IsTrue (is_over (status y))) e o)) ∙ fresh))
    | inr ne ↦ subst (λ s. IsTrue (is_over s)) (sym (others k ne)) o
  ]

  alike : (j : ℕ) → (IsTrue (depends tasks i j) → ⊥) → is_cancelled tasks status' j ≡ is_cancelled tasks status j
  alike j none = cancelled_alike tasks status status' j (λ k d. ap is_lost (others k (λ e. none (subst (λ y. IsTrue (depends tasks y j)) e d))))

  itself : IsTrue (depends tasks i i) → ⊥
  itself d = (let b : i < i = depends_before tasks i i d in absurd (omega arith))

  pub further : (status' i ≡ Cancelled → is_cancelled tasks status i ≡ true) → (status' i ≢ Cancelled → is_cancelled tasks status i ≡ false) → IsWindow tasks status'
  further is isnt = record {
    started = λ k j d n. elim (cases_eq j i) [
      | inl e ↦ over_other k (ready k (subst (λ y. IsTrue (depends tasks k y)) e d))
      | inr ne ↦ over_other k (w.started k j d (λ s. n (others j ne ∙ s)))
    ];
    cancelled = λ j c. elim (cases_eq j i) [
      | inl e ↦ ap (is_cancelled tasks status') e ∙ (alike i itself ∙ is (ap status' (sym e) ∙ c))
      | inr ne ↦ alike j (λ d. not_on j (λ s. waiting_not_cancelled (status j) s (sym (others j ne) ∙ c)) d) ∙ w.cancelled j (sym (others j ne) ∙ c)
    ];
    others = λ j n c. elim (cases_eq j i) [
      | inl e ↦ ap (is_cancelled tasks status') e ∙ (alike i itself ∙ isnt (λ s. c (ap status' e ∙ s)))
      | inr ne ↦ alike j (λ d. not_on j (λ s. n (others j ne ∙ s)) d) ∙ w.others j (λ s. n (others j ne ∙ s)) (λ s. c (others j ne ∙ s))
    ];
  }
    where
      waiting_not_cancelled : (s : Status) → s ≡ Waiting → s ≡ Cancelled → ⊥
      waiting_not_cancelled Waiting e f = cc
      waiting_not_cancelled Running e f = cc
      waiting_not_cancelled Done e f = cc
      waiting_not_cancelled Faulted e f = cc
      waiting_not_cancelled Cancelled e f = cc

-- sources of what has started are over
starts_after : (tasks : List (List Access)) (status : ℕ → Status) → IsWindow tasks status → (i j : ℕ) → IsSource tasks i j → status j ≢ Waiting → IsTrue (is_over (status i))
starts_after tasks status w i j s n = w.started i j (sources_are_dependences tasks i j s) n

over_not_waiting : (s : Status) → IsTrue (is_over s) → s ≢ Waiting
over_not_waiting Waiting o e = cc
over_not_waiting Running o e = cc
over_not_waiting Done o e = cc
over_not_waiting Faulted o e = cc
over_not_waiting Cancelled o e = cc

or_cancelled : (s : Status) → (s ≡ Cancelled) ⊎ (s ≢ Cancelled)
or_cancelled Cancelled = inl refl
or_cancelled Waiting = inr (λ e. cc)
or_cancelled Running = inr (λ e. cc)
or_cancelled Done = inr (λ e. cc)
or_cancelled Faulted = inr (λ e. cc)

over_cancelled : (tasks : List (List Access)) (status : ℕ → Status) → IsWindow tasks status → (k : ℕ) → IsTrue (is_over (status k)) → is_cancelled tasks status k ≡ true → status k ≡ Cancelled
over_cancelled tasks status w k o c = elim (or_cancelled (status k)) [
  | inl e ↦ e
  | inr ne ↦ absurd (true≢false (sym c ∙ w.others k (over_not_waiting (status k) o) ne))
]

-- what the tables tell of a task
module _ (p : Pieces) (q : Queue) (kept : IsKept p q) (i : ℕ) (known : i < length q.status.items) where
  -- each of its sources is over where it waits for none
  pub sources_over : slice_index q.waits.items i ≡ 0 → (s : ℕ) → IsSource (tasks_of p) s i → IsTrue (is_over (status_at q.status.items s))
  sources_over none s source =
      let l = kept.linked s i source in
      let counts : slice_index q.waits.items i ≡ count_below (leads q.links.links (is_pending q.links.links (status_at q.status.items)) i) (length q.links.links) = kept.rest.queue.counts i known in
      elim (cases_Bool (is_over (status_at q.status.items s))) [
        | inl o ↦ true_is (is_over (status_at q.status.items s)) o
        | inr f ↦ (
            let lead = and_from ((link_at q.links.links l.0).value == i) (is_pending q.links.links (status_at q.status.items) l.0) (eq-eqb (link_at q.links.links l.0).value i l.3)
            (ap (λ k. not (is_over (status_at q.status.items k))) l.2 ∙ not_from_false (is_over (status_at q.status.items s)) f) in
            let one : 1 ≤ count_below (leads q.links.links (is_pending q.links.links (status_at q.status.items)) i) (length q.links.links) =
            some_below (leads q.links.links (is_pending q.links.links (status_at q.status.items)) i) (length q.links.links) l.0 l.1 lead in
            absurd (omega arith))
      ]

  pub all_over : slice_index q.waits.items i ≡ 0 → (j : ℕ) → IsTrue (depends (tasks_of p) j i) → IsTrue (is_over (status_at q.status.items j))
  all_over none j d = sources_suffice (tasks_of p) (status_at q.status.items) (starts_after (tasks_of p) (status_at q.status.items) kept.window) i (sources_over none) j d

  pub is_due : slice_index q.waits.items i ≡ 0 → status_at q.status.items i ≡ Waiting → IsDue (tasks_of p) (status_at q.status.items) i
  is_due none waits = record {
    inserted = (let s : length q.status.items ≡ length (tasks_of p) = kept.size in let r : i < length (tasks_of p) = omega arith in r);
    waits = waits;
    ready = all_over none;
  }

  spoils : (spoiled_at q.spoiled.items i ≡ true) → (s : ℕ) × IsSource (tasks_of p) s i × IsTrue (is_lost (status_at q.status.items s))
  spoils e =
      let s = kept.rest.queue.spoils_some i known e in
      ((link_at q.links.links s.0).key, subst (λ y. IsSource (tasks_of p) (link_at q.links.links s.0).key y) s.2 (kept.sourced s.0 s.1), true_is (is_lost (status_at q.status.items (link_at q.links.links s.0).key)) s.3)

  spoiled : ((s : ℕ) × IsSource (tasks_of p) s i × IsTrue (is_lost (status_at q.status.items s))) → spoiled_at q.spoiled.items i ≡ true
  spoiled s =
      let l = kept.linked s.0 i s.1 in
      kept.rest.queue.spoils_all i known (l.0, l.1, l.3, ap (λ k. is_lost (status_at q.status.items k)) l.2 ∙ is_true (is_lost (status_at q.status.items s.0)) s.2)

  pub cancelled_told : slice_index q.waits.items i ≡ 0 → spoiled_at q.spoiled.items i ≡ is_cancelled (tasks_of p) (status_at q.status.items) i
  cancelled_told none =
      let law = lost_by_sources (tasks_of p) (status_at q.status.items) (starts_after (tasks_of p) (status_at q.status.items) kept.window) (over_cancelled (tasks_of p) (status_at q.status.items) kept.window) i (sources_over none) in
      same_tests (spoiled_at q.spoiled.items i) (is_cancelled (tasks_of p) (status_at q.status.items) i) (λ e. law.1 (spoils e)) (λ e. spoiled (law.0 e))

-- a task that waits for some is not due
pub not_due : (p : Pieces) (q : Queue) → IsKept p q → (i : ℕ) → IsDue (tasks_of p) (status_at q.status.items) i → 0 < slice_index q.waits.items i → ⊥
not_due p q kept i due some =
    let known : i < length q.status.items = (let s : length q.status.items ≡ length (tasks_of p) = kept.size in let r : i < length (tasks_of p) = due.inserted in omega arith) in
    let counts : slice_index q.waits.items i ≡ count_below (leads q.links.links (is_pending q.links.links (status_at q.status.items)) i) (length q.links.links) = kept.rest.queue.counts i known in
    let r = counted_some (leads q.links.links (is_pending q.links.links (status_at q.status.items)) i) (length q.links.links) (omega arith) in
    let parts = and_parts ((link_at q.links.links r.0).value == i) (is_pending q.links.links (status_at q.status.items) r.0) r.2 in
    let at : (link_at q.links.links r.0).value ≡ i = eqb-true (link_at q.links.links r.0).value i parts.0 in
    let source = subst (λ y. IsSource (tasks_of p) (link_at q.links.links r.0).key y) at (kept.sourced r.0 r.1) in
    let over = due.ready (link_at q.links.links r.0).key (sources_are_dependences (tasks_of p) (link_at q.links.links r.0).key i source) in
    true≢false (sym (is_true (is_over (status_at q.status.items (link_at q.links.links r.0).key)) over) ∙ not-true (is_over (status_at q.status.items (link_at q.links.links r.0).key)) parts.1)

-- a task has come further in the tables
pub kept_further : (p : Pieces) (q r : Queue) (i : ℕ) (s : Status) → IsKept p q → IsAtRest r → r.links.links ≡ q.links.links → i < length q.status.items → r.status.items ≡ slice_set q.status.items i s →
    is_over (status_at q.status.items i) ≡ false → ((k : ℕ) → IsTrue (depends (tasks_of p) k i) → IsTrue (is_over (status_at q.status.items k))) →
    (s ≡ Cancelled → is_cancelled (tasks_of p) (status_at q.status.items) i ≡ true) → (s ≢ Cancelled → is_cancelled (tasks_of p) (status_at q.status.items) i ≡ false) → IsKept p r
kept_further p q r i s kept rest li known st fresh ready is isnt = record {
  pieces = kept.pieces;
  rest = rest;
  size = ap length st ∙ (length-set q.status.items i s ∙ kept.size);
  linked = λ a b x. subst (λ (ls : List Link). IsLinked ls a b) (sym li) (kept.linked a b x);
  sourced = subst (λ (ls : List Link). (x : ℕ) → x < length ls → IsSource (tasks_of p) (link_at ls x).key (link_at ls x).value) (sym li) kept.sourced;
  window = further (tasks_of p) (status_at q.status.items) (status_at r.status.items) i kept.window fresh
      (λ k ne. ap (λ xs. status_at xs k) st ∙ set_there q.status.items i s k ne) ready (λ e. is (sym here ∙ e)) (λ ne. isnt (λ e. ne (here ∙ e)));
}
  where
    here : status_at r.status.items i ≡ s
    here = ap (λ xs. status_at xs i) st ∙ set_here q.status.items i s known

-- all tasks are over where none is left, and some is not where one is left
pub none_left : (status : ℕ → Status) (n : ℕ) → count_below (λ j. not (is_over (status j))) n ≡ 0 → (i : ℕ) → i < n → is_over (status i) ≡ true
none_left status n e i h = elim (cases_Bool (is_over (status i))) [
  | inl o ↦ o
  | inr f ↦ (let s : 1 ≤ count_below (λ j. not (is_over (status j))) n = some_below (λ j. not (is_over (status j))) n i h (not_from_false (is_over (status i)) f) in absurd (omega arith))
]

pub some_left : (status : ℕ → Status) (n : ℕ) → 0 < count_below (λ j. not (is_over (status j))) n → (i : ℕ) × (i < n) × IsTrue (not (is_over (status i)))
some_left status n h = counted_some (λ j. not (is_over (status j))) n h

pub if_none : {X : Type 0} (r : Option X) (P : Type 0) → P → IfNone r P
if_none None P h = h
if_none (Some x) P h = tt

-- a task that starts in the tables is due, and whether it is cancelled
module _ (p : Pieces) (q r : Queue) (kept : IsKept p q) (i : ℕ) (s : Starts q r i) where
  pub start_due : IsDue (tasks_of p) (status_at q.status.items) i
  start_due = is_due p q kept i s.known s.none s.waits

  pub start_spoiled : i < length r.spoiled.items
  start_spoiled =
      let a : length q.status.items ≤ length q.spoiled.items = kept.rest.queue.spoiled_size in
      let b : i < length q.status.items = s.known in
      let e : length r.spoiled.items ≡ length q.spoiled.items = ap (λ v. length v.items) s.spoiled in omega arith

  pub start_cancelled : (b : Bool) → b ≡ slice_index_or r.spoiled.items i b → b ≡ is_cancelled (tasks_of p) (status_at q.status.items) i
  start_cancelled b e = get_or_read r.spoiled.items i b start_spoiled e false ∙ (ap (λ v. spoiled_at v.items i) s.spoiled ∙ cancelled_told p q kept i s.known s.none)

  fresh : is_over (status_at q.status.items i) ≡ false
  fresh = ap is_over s.waits

  pub kept_running : IsAtRest r → is_cancelled (tasks_of p) (status_at q.status.items) i ≡ false → IsKept p r
  kept_running rest off = kept_further p q r i Running kept rest (ap (λ ls. ls.links) s.links) s.known s.status fresh (all_over p q kept i s.known s.none) (λ e. cc) (λ ne. off)

  pub kept_cancelled : (t : Queue) → IsAtRest t → t.links ≡ r.links → t.status.items ≡ slice_set r.status.items i Cancelled → is_cancelled (tasks_of p) (status_at q.status.items) i ≡ true → IsKept p t
  kept_cancelled t rest li st on = kept_further p q t i Cancelled kept rest (ap (λ ls. ls.links) (li ∙ s.links)) s.known (twice t st) fresh (all_over p q kept i s.known s.none) (λ e. on) (λ ne. absurd (ne refl))
    where
      twice : (t : Queue) → t.status.items ≡ slice_set r.status.items i Cancelled → t.status.items ≡ slice_set q.status.items i Cancelled
      twice t st = st ∙ (ap (λ xs. slice_set xs i Cancelled) s.status ∙ set-set q.status.items i Running Cancelled)

  pub cancelled_status : (t : Queue) → t.status.items ≡ slice_set r.status.items i Cancelled → t.status.items ≡ slice_set q.status.items i Cancelled
  cancelled_status t st = st ∙ (ap (λ xs. slice_set xs i Cancelled) s.status ∙ set-set q.status.items i Running Cancelled)

-- a task that runs ends in the tables
pub kept_ended : (p : Pieces) (q r : Queue) (i : ℕ) (failed : Bool) (s : Status) → IsKept p q → IsAtRest r → r.links ≡ q.links → i < length q.status.items → s ≡ end_by failed → r.status.items ≡ slice_set q.status.items i s → status_at q.status.items i ≡ Running → IsKept p r
kept_ended p q r i failed s kept rest li known is st runs =
    kept_further p q r i s kept rest (ap (λ ls. ls.links) li) known st (ap is_over runs)
    (λ k d. kept.window.started k i d (λ w. waits_runs (status_at q.status.items i) w runs))
    (λ e. absurd (not_cancelled failed (sym is ∙ e)))
    (λ ne. kept.window.others i (λ w. waits_runs (status_at q.status.items i) w runs) (λ c. runs_cancelled (status_at q.status.items i) runs c))
  where
    waits_runs : (s : Status) → s ≡ Waiting → s ≡ Running → ⊥
    waits_runs Waiting e f = cc
    waits_runs Running e f = cc
    waits_runs Done e f = cc
    waits_runs Faulted e f = cc
    waits_runs Cancelled e f = cc

    runs_cancelled : (s : Status) → s ≡ Running → s ≡ Cancelled → ⊥
    runs_cancelled Waiting e f = cc
    runs_cancelled Running e f = cc
    runs_cancelled Done e f = cc
    runs_cancelled Faulted e f = cc
    runs_cancelled Cancelled e f = cc

    not_cancelled : (b : Bool) → end_by b ≡ Cancelled → ⊥
    not_cancelled true e = cc
    not_cancelled false e = cc

-- a task that runs is there
pub runs_known : (status : List Status) (i : ℕ) → status_at status i ≡ Running → i < length status
runs_known status i runs = elim (cases_lt i (length status)) [
  | inl low ↦ low
  | inr past ↦ absurd (waits_runs (status_at status i) (get_or_past status i Waiting past) runs)
]
  where
    waits_runs : (s : Status) → s ≡ Waiting → s ≡ Running → ⊥
    waits_runs Waiting e f = cc
    waits_runs Running e f = cc
    waits_runs Done e f = cc
    waits_runs Faulted e f = cc
    waits_runs Cancelled e f = cc
