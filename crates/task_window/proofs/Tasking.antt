-- A window with one more task, and one without tasks.
use Rattle.std.proofs.Common.{◌≡◌, ◌⊎◌, ℕ, zero, suc, ◌+◌, ◌-◌, ◌<◌, true, false, ◌&&◌, inl, inr, List, [], ◌∷◌, ◌++◌, length, refl, sym, ◌∙◌, ap, subst, arith}
use Rattle.std.specs.Prelude.{◌≢◌, nat_le, nat_lt, IsTrue, Contains, slice_index}
use Rattle.std.proofs.lemmas.Bool.{cases_eq, cases_lt, and_parts, and_from, true≢false, ltb-true, leb-true, lt-ltb, le-leb}
use Rattle.std.proofs.lemmas.List.{get_or_past, get_or_default, get_or_append_left, get_or-append-add, length-append, length-map, length_push}
use Rattle.std.proofs.lemmas.List.Elements.{Contains-get_or}
use Rattle.basics.proofs.ListFacts.{some_passes, passes_some, contains_none}
use Rattle.task_order.specs.declared.access.Access.{Access}
use Rattle.task_order.specs.declared.status.Status.{Status}
use Rattle.task_order.specs.declared.status.Status.TheVariants.{Waiting, Running, Done, Faulted, Cancelled}
use Rattle.task_order.specs.Tasks.{covers, uses, changes, accesses_of, depends}
use Rattle.task_order.specs.Sources.{IsSource}
use Rattle.task_order.specs.Sequence.{is_over, is_lost, is_cancelled}
use Rattle.task_order.proofs.Public.{cancelled_by_lost, depends_by_pieces}
use Rattle.task_window.specs.declared.links.Link.{Link}
use Rattle.task_window.specs.declared.pieces.Pieces.{Pieces}
use Rattle.task_window.specs.declared.queue.Queue.{Queue}
use Rattle.task_window.specs.Chains.{no_link, link_at}
use Rattle.task_window.specs.Waits.{status_at, IsAtRest, links_to}
use Rattle.task_window.specs.Pieces.{tasks_of, used_by, changed_by, no_access, access_at, IsLinked, IsMet, IsMetIn, IsMetBy, Collects, ArePieces}
use Rattle.task_window.specs.Window.{IsWindow, IsKept}
use Rattle.task_window.proofs.Noting.{accesses_last, accesses_before}
use Rattle.task_window.proofs.Inserting.{status_more}
use Rattle.task_window.proofs.Keeping.{same_tests}

-- a task that is not there uses nothing
used_known : (tasks : List (List Access)) (i p : ℕ) → uses (accesses_of tasks i) p ≡ true → i < length tasks
used_known tasks i p u = elim (cases_lt i (length tasks)) [
  | inl l ↦ l
  | inr past ↦ absurd (true≢false (sym u ∙ ap (λ (a : List Access). uses a p) (get_or_past tasks i [] past)))
]

module _ (tasks : List (List Access)) (accesses : List Access) where
  same : (i : ℕ) → (i ≡ length tasks → ⊥) → accesses_of (tasks ++ accesses ∷ []) i ≡ accesses_of tasks i
  same i ne = accesses_before tasks accesses i ne

  same_uses : (i p : ℕ) → (i ≡ length tasks → ⊥) → uses (accesses_of (tasks ++ accesses ∷ []) i) p ≡ uses (accesses_of tasks i) p
  same_uses i p ne = ap (λ (a : List Access). uses a p) (same i ne)

  same_changes : (i p : ℕ) → (i ≡ length tasks → ⊥) → changes (accesses_of (tasks ++ accesses ∷ []) i) p ≡ changes (accesses_of tasks i) p
  same_changes i p ne = ap (λ (a : List Access). changes a p) (same i ne)

  same_change : (i j p : ℕ) → (i ≡ length tasks → ⊥) → (j ≡ length tasks → ⊥) → (changes (accesses_of (tasks ++ accesses ∷ []) i) p ≡ true) ⊎ (changes (accesses_of (tasks ++ accesses ∷ []) j) p ≡ true) →
      (changes (accesses_of tasks i) p ≡ true) ⊎ (changes (accesses_of tasks j) p ≡ true)
  same_change i j p ni nj c = elim c [ inl a ↦ inl (sym (same_changes i p ni) ∙ a) | inr b ↦ inr (sym (same_changes j p nj) ∙ b) ]

  kept_change : (i j p : ℕ) → (i ≡ length tasks → ⊥) → (j ≡ length tasks → ⊥) → (changes (accesses_of tasks i) p ≡ true) ⊎ (changes (accesses_of tasks j) p ≡ true) →
      (changes (accesses_of (tasks ++ accesses ∷ []) i) p ≡ true) ⊎ (changes (accesses_of (tasks ++ accesses ∷ []) j) p ≡ true)
  kept_change i j p ni nj c = elim c [ inl a ↦ inl (same_changes i p ni ∙ a) | inr b ↦ inr (same_changes j p nj ∙ b) ]

  old_task : (j p : ℕ) → (j ≡ length tasks → ⊥) → uses (accesses_of (tasks ++ accesses ∷ []) j) p ≡ true → j < length tasks
  old_task j p ne u = used_known tasks j p (sym (same_uses j p ne) ∙ u)

  -- sources of the tasks before
  pub source_kept : (i j : ℕ) → IsSource tasks i j → IsSource (tasks ++ accesses ∷ []) i j
  source_kept i j s =
      let r = s.1 in
      let below : j < length tasks = used_known tasks j s.0 r.other in
      let before : i < j = r.before in (
        s.0,
        record {
          before = r.before;
          one = same_uses i s.0 (λ e. absurd (omega arith)) ∙ r.one;
          other = same_uses j s.0 (λ e. absurd (omega arith)) ∙ r.other;
          change = kept_change i j s.0 (λ e. absurd (omega arith)) (λ e. absurd (omega arith)) r.change;
          next = λ k lo hi. same_changes k s.0 (λ e. absurd (omega arith)) ∙ r.next k lo hi;
        },
      )

  pub source_old : (i j : ℕ) → (j ≡ length tasks → ⊥) → IsSource (tasks ++ accesses ∷ []) i j → IsSource tasks i j
  source_old i j ne s =
      let r = s.1 in
      let below : j < length tasks = old_task j s.0 ne r.other in
      let before : i < j = r.before in (
        s.0,
        record {
          before = r.before;
          one = sym (same_uses i s.0 (λ e. absurd (omega arith))) ∙ r.one;
          other = sym (same_uses j s.0 (λ e. absurd (omega arith))) ∙ r.other;
          change = same_change i j s.0 (λ e. absurd (omega arith)) (λ e. absurd (omega arith)) r.change;
          next = λ k lo hi. sym (same_changes k s.0 (λ e. absurd (omega arith))) ∙ r.next k lo hi;
        },
      )

  -- sources of the new task are those that are met
  at_access : (a : Access) (c : Contains accesses a) → access_at accesses c.0 ≡ a
  at_access a c = get_or_default accesses c.0 no_access a c.1 ∙ c.2

  met_at : (i p : ℕ) (a : Access) → Contains accesses a → covers p a ≡ true → IsMet tasks p a.writes i → IsMetBy tasks accesses (length accesses) i
  met_at i p a c cov m =
      let parts = and_parts (nat_le a.first p) (nat_lt p (a.first + a.count)) cov in
      (c.0, c.1, subst (λ (x : Access). IsMetIn tasks x.first (x.first + x.count) x.writes i) (sym (at_access a c)) (p, leb-true a.first p parts.0, ltb-true p (a.first + a.count) parts.1, m))

  pub met_of_source : (i : ℕ) → IsSource (tasks ++ accesses ∷ []) i (length tasks) → IsMetBy tasks accesses (length accesses) i
  met_of_source i s =
      let r = s.1 in
      let p = s.0 in
      let before : i < length tasks = r.before in
      let here = accesses_last tasks accesses (length tasks) refl in
      let one : used_by tasks i p ≡ true = sym (same_uses i p (λ e. absurd (omega arith))) ∙ r.one in
      let next : (k : ℕ) → i < k → k < length tasks → changed_by tasks k p ≡ false = λ k lo hi. sym (same_changes k p (λ e. absurd (omega arith))) ∙ r.next k lo hi in
      elim r.change [
        | inl c ↦ (
            let u = some_passes (covers p) accesses (sym (ap (λ (a : List Access). uses a p) here) ∙ r.other) in
            met_at i p u.0 u.1 u.2 (record { known = before; one = one; change = inl (sym (same_changes i p (λ e. absurd (omega arith))) ∙ c); next = next }))
        | inr d ↦ (
            let u = some_passes (λ (a : Access). a.writes && covers p a) accesses (sym (ap (λ (a : List Access). changes a p) here) ∙ d) in
            let parts = and_parts (u.0).writes (covers p u.0) u.2 in
            met_at i p u.0 u.1 parts.1 (record { known = before; one = one; change = inr parts.0; next = next }))
      ]

  pub source_of_met : (i : ℕ) → IsMetBy tasks accesses (length accesses) i → IsSource (tasks ++ accesses ∷ []) i (length tasks)
  source_of_met i b =
      let a = access_at accesses b.0 in
      let p = b.2.0 in
      let m = b.2.3 in
      let before : i < length tasks = m.known in
      let c : Contains accesses a = Contains-get_or accesses b.0 no_access b.1 in
      let cov : covers p a ≡ true = and_from (nat_le a.first p) (nat_lt p (a.first + a.count)) (le-leb a.first p b.2.1) (lt-ltb p (a.first + a.count) b.2.2) in
      let here = accesses_last tasks accesses (length tasks) refl in (
        p,
        record {
          before = before;
          one = same_uses i p (λ e. absurd (omega arith)) ∙ m.one;
          other = ap (λ (x : List Access). uses x p) here ∙ passes_some (covers p) accesses a c cov;
          change = elim m.change [
            | inl d ↦ inl (same_changes i p (λ e. absurd (omega arith)) ∙ d)
            | inr w ↦ inr (ap (λ (x : List Access). changes x p) here ∙ passes_some (λ (x : Access). x.writes && covers p x) accesses a c (and_from a.writes (covers p a) w cov))
          ];
          next = λ k lo hi. same_changes k p (λ e. absurd (omega arith)) ∙ m.next k lo hi;
        },
      )

  -- dependences of the tasks before
  pub depends_old : (i j : ℕ) → (j ≡ length tasks → ⊥) → IsTrue (depends (tasks ++ accesses ∷ []) i j) → IsTrue (depends tasks i j)
  depends_old i j ne d =
      let r = (depends_by_pieces (tasks ++ accesses ∷ []) i j).0 d in
      let p = r.1.0 in
      let c = r.1.1 in
      let below : j < length tasks = old_task j p ne c.other in
      let before : i < j = r.0 in
      (depends_by_pieces tasks i j).1 (
        r.0,
        (
          p,
          record {
            one = sym (same_uses i p (λ e. absurd (omega arith))) ∙ c.one;
            other = sym (same_uses j p ne) ∙ c.other;
            change = same_change i j p (λ e. absurd (omega arith)) ne c.change;
          },
        ),
      )

  pub depends_kept : (i j : ℕ) → (j ≡ length tasks → ⊥) → IsTrue (depends tasks i j) → IsTrue (depends (tasks ++ accesses ∷ []) i j)
  depends_kept i j ne d =
      let r = (depends_by_pieces tasks i j).0 d in
      let p = r.1.0 in
      let c = r.1.1 in
      let below : j < length tasks = used_known tasks j p c.other in
      let before : i < j = r.0 in
      (depends_by_pieces (tasks ++ accesses ∷ []) i j).1 (
        r.0,
        (
          p,
          record {
            one = same_uses i p (λ e. absurd (omega arith)) ∙ c.one;
            other = same_uses j p ne ∙ c.other;
            change = kept_change i j p (λ e. absurd (omega arith)) ne c.change;
          },
        ),
      )

  pub cancelled_same : (status status' : ℕ → Status) → ((k : ℕ) → status' k ≡ status k) → (j : ℕ) → (j ≡ length tasks → ⊥) → is_cancelled (tasks ++ accesses ∷ []) status' j ≡ is_cancelled tasks status j
  cancelled_same status status' alike j ne = same_tests (is_cancelled (tasks ++ accesses ∷ []) status' j) (is_cancelled tasks status j)
      (λ e. (let r = (cancelled_by_lost (tasks ++ accesses ∷ []) status' j).0 e in (cancelled_by_lost tasks status j).1 (r.0, depends_old r.0 j ne r.1, subst (λ s. IsTrue (is_lost s)) (alike r.0) r.2)))
      (λ e. (let r = (cancelled_by_lost tasks status j).0 e in (cancelled_by_lost (tasks ++ accesses ∷ []) status' j).1 (r.0, depends_kept r.0 j ne r.1, subst (λ s. IsTrue (is_lost s)) (sym (alike r.0)) r.2)))

  pub window_more : (status status' : ℕ → Status) → ((k : ℕ) → status' k ≡ status k) → status (length tasks) ≡ Waiting → IsWindow tasks status → IsWindow (tasks ++ accesses ∷ []) status'
  window_more status status' alike last w = record {
    started = λ i j d n. subst (λ s. IsTrue (is_over s)) (sym (alike i)) (w.started i j (depends_old i j (old j n) d) (λ s. n (alike j ∙ s)));
    cancelled = λ j c. cancelled_same status status' alike j (old j (λ s. not_both (status' j) s c)) ∙ w.cancelled j (sym (alike j) ∙ c);
    others = λ j n c. cancelled_same status status' alike j (old j n) ∙ w.others j (λ s. n (alike j ∙ s)) (λ s. c (alike j ∙ s));
  }
    where
      old : (j : ℕ) → status' j ≢ Waiting → j ≡ length tasks → ⊥
      old j n e = n (alike j ∙ (ap status e ∙ last))

      not_both : (s : Status) → s ≡ Waiting → s ≡ Cancelled → ⊥
      not_both Waiting e f = cc
      not_both Running e f = cc
      not_both Done e f = cc
      not_both Faulted e f = cc
      not_both Cancelled e f = cc

-- the links to one more task
link_made : (n : ℕ) (sources : List ℕ) (k : ℕ) → k < length sources → link_at (links_to n sources) k ≡ record { key = slice_index sources k; value = n }
link_made n [] k h = absurd (omega arith)
link_made n (s ∷ sources) zero h = refl
link_made n (s ∷ sources) (suc k) h = link_made n sources k (omega arith)

module _ (links : List Link) (n : ℕ) (sources : List ℕ) where
  made_length : length (links ++ links_to n sources) ≡ length links + length sources
  made_length =
      let a : length (links ++ links_to n sources) ≡ length links + length (links_to n sources) = length-append links (links_to n sources) in
      let b : length (links_to n sources) ≡ length sources = length-map sources (λ (i : ℕ). record { key = i; value = n }) in omega arith

  old_link : (x : ℕ) → x < length links → link_at (links ++ links_to n sources) x ≡ link_at links x
  old_link x h = get_or_append_left links (links_to n sources) no_link x h

  new_link : (k : ℕ) → k < length sources → link_at (links ++ links_to n sources) (length links + k) ≡ record { key = slice_index sources k; value = n }
  new_link k h = get_or-append-add links (links_to n sources) k no_link ∙ link_made n sources k h

  linked_old : (i j : ℕ) → IsLinked links i j → IsLinked (links ++ links_to n sources) i j
  linked_old i j l =
      let b : l.0 < length links = l.1 in
      let e : length (links ++ links_to n sources) ≡ length links + length sources = made_length in
      (l.0, (let r : l.0 < length (links ++ links_to n sources) = omega arith in r), ap (λ (z : Link). z.key) (old_link l.0 b) ∙ l.2, ap (λ (z : Link). z.value) (old_link l.0 b) ∙ l.3)

  linked_new : (i : ℕ) → Contains sources i → IsLinked (links ++ links_to n sources) i n
  linked_new i c =
      let b : c.0 < length sources = c.1 in
      let e : length (links ++ links_to n sources) ≡ length links + length sources = made_length in (
        length links + c.0,
        (let r : length links + c.0 < length (links ++ links_to n sources) = omega arith in r),
        ap (λ (z : Link). z.key) (new_link c.0 b) ∙ (get_or_default sources c.0 0 i b ∙ c.2),
        ap (λ (z : Link). z.value) (new_link c.0 b),
      )

  by_link : (P : Link → Type 0) → ((x : ℕ) → x < length links → P (link_at links x)) → ((i : ℕ) → Contains sources i → P (record { key = i; value = n })) → (x : ℕ) → x < length (links ++ links_to n sources) → P (link_at (links ++ links_to n sources) x)
  by_link P old new x h = elim (cases_lt x (length links)) [
    | inl low ↦ subst P (sym (old_link x low)) (old x low)
    | inr high ↦ (
        let e : length (links ++ links_to n sources) ≡ length links + length sources = made_length in
        let k : x - length links < length sources = omega arith in
        let at : x ≡ length links + (x - length links) = omega arith in
        subst P (sym (ap (link_at (links ++ links_to n sources)) at ∙ new_link (x - length links) k)) (new (slice_index sources (x - length links)) (Contains-get_or sources (x - length links) 0 k)))
  ]

pub kept_inserted : (p p' : Pieces) (q q' : Queue) (accesses : List Access) (sources : List ℕ) → IsKept p q → ArePieces p' → tasks_of p' ≡ tasks_of p ++ accesses ∷ [] → IsAtRest q' →
    q'.status.items ≡ q.status.items ++ Waiting ∷ [] → q'.links.links ≡ q.links.links ++ links_to (length q.status.items) sources →
    ((i : ℕ) → IsMetBy (tasks_of p) accesses (length accesses) i → Contains sources i) → ((i : ℕ) → Contains sources i → IsMetBy (tasks_of p) accesses (length accesses) i) → IsKept p' q'
kept_inserted p r q s accesses sources kept pieces tasks rest st li found only = record {
  pieces = pieces;
  rest = rest;
  size = (
      let a : length s.status.items ≡ length q.status.items + 1 = ap length st ∙ length_push q.status.items Waiting in
      let b : length (tasks_of r) ≡ length (tasks_of p) + 1 = ap length tasks ∙ length_push (tasks_of p) accesses in
      let c : length q.status.items ≡ length (tasks_of p) = kept.size in
      let d : length s.status.items ≡ length (tasks_of r) = omega arith in d);
  linked = λ i j x. subst (λ (ls : List Link). IsLinked ls i j) (sym li) (linked' i j (subst (λ (ts : List (List Access)). IsSource ts i j) tasks x));
  sourced = subst (λ (ls : List Link). (x : ℕ) → x < length ls → IsSource (tasks_of r) (link_at ls x).key (link_at ls x).value) (sym li)
      (subst (λ (ts : List (List Access)). (x : ℕ) → x < length (q.links.links ++ links_to (length q.status.items) sources) →
      IsSource ts (link_at (q.links.links ++ links_to (length q.status.items) sources) x).key (link_at (q.links.links ++ links_to (length q.status.items) sources) x).value) (sym tasks)
      (by_link q.links.links (length q.status.items) sources (λ z. IsSource (tasks_of p ++ accesses ∷ []) z.key z.value)
      (λ x h. source_kept (tasks_of p) accesses (link_at q.links.links x).key (link_at q.links.links x).value (kept.sourced x h))
      (λ i c. subst (λ y. IsSource (tasks_of p ++ accesses ∷ []) i y) (sym kept.size) (source_of_met (tasks_of p) accesses i (only i c)))));
  window = subst (λ (ts : List (List Access)). IsWindow ts (status_at s.status.items)) (sym tasks)
      (window_more (tasks_of p) accesses (status_at q.status.items) (status_at s.status.items) (λ k. ap (λ xs. status_at xs k) st ∙ status_more q.status.items k)
      (get_or_past q.status.items (length (tasks_of p)) Waiting (let c : length q.status.items ≡ length (tasks_of p) = kept.size in omega arith)) kept.window);
}
  where
    linked' : (i j : ℕ) → IsSource (tasks_of p ++ accesses ∷ []) i j → IsLinked (q.links.links ++ links_to (length q.status.items) sources) i j
    linked' i j x = elim (cases_eq j (length (tasks_of p))) [
      | inr ne ↦ linked_old q.links.links (length q.status.items) sources i j (kept.linked i j (source_old (tasks_of p) accesses i j ne x))
      | inl e ↦ subst (λ y. IsLinked (q.links.links ++ links_to (length q.status.items) sources) i y) (kept.size ∙ sym e)
          (linked_new q.links.links (length q.status.items) sources i (found i (met_of_source (tasks_of p) accesses i (subst (λ y. IsSource (tasks_of p ++ accesses ∷ []) i y) e x))))
    ]

-- other tables of the same tasks
pub kept_same : (p r : Pieces) (q s : Queue) → IsKept p q → ArePieces r → tasks_of r ≡ tasks_of p → IsAtRest s → s.status.items ≡ q.status.items → s.links.links ≡ q.links.links → IsKept r s
kept_same p r q s kept pieces tasks rest st li = record {
  pieces = pieces;
  rest = rest;
  size = ap length st ∙ (kept.size ∙ ap length (sym tasks));
  linked = λ i j x. subst (λ (ls : List Link). IsLinked ls i j) (sym li) (kept.linked i j (subst (λ (ts : List (List Access)). IsSource ts i j) tasks x));
  sourced = subst (λ (ls : List Link). (x : ℕ) → x < length ls → IsSource (tasks_of r) (link_at ls x).key (link_at ls x).value) (sym li)
      (subst (λ (ts : List (List Access)). (x : ℕ) → x < length q.links.links → IsSource ts (link_at q.links.links x).key (link_at q.links.links x).value) (sym tasks) kept.sourced);
  window = subst (λ (ts : List (List Access)). IsWindow ts (status_at s.status.items)) (sym tasks) (subst (λ (xs : List Status). IsWindow (tasks_of p) (status_at xs)) (sym st) kept.window);
}

-- no tasks
pub kept_none : (p : Pieces) (q : Queue) → ArePieces p → IsAtRest q → tasks_of p ≡ [] → q.status.items ≡ [] → q.links.links ≡ [] → IsKept p q
kept_none p q pieces rest tasks st li = record {
  pieces = pieces;
  rest = rest;
  size = ap length st ∙ ap length (sym tasks);
  linked = λ i j x. (let u : j < 0 = subst (λ (ts : List (List Access)). j < length ts) tasks (used_known (tasks_of p) j x.0 (x.1).other) in absurd (omega arith));
  sourced = λ x h. (let u : x < 0 = subst (λ (ls : List Link). x < length ls) li h in absurd (omega arith));
  window = record {
    started = λ i j d n. absurd (n (all_wait j));
    cancelled = λ j c. absurd (not_both (status_at q.status.items j) (all_wait j) c);
    others = λ j n c. absurd (n (all_wait j));
  };
}
  where
    all_wait : (j : ℕ) → status_at q.status.items j ≡ Waiting
    all_wait j = ap (λ xs. status_at xs j) st

    not_both : (s : Status) → s ≡ Waiting → s ≡ Cancelled → ⊥
    not_both Waiting e f = cc
    not_both Running e f = cc
    not_both Done e f = cc
    not_both Faulted e f = cc
    not_both Cancelled e f = cc

-- what is collected into a list without items
pub all_met : (tasks : List (List Access)) (accesses : List Access) (a b : List ℕ) → a ≡ [] → Collects a b (IsMetBy tasks accesses (length accesses)) →
    ((i : ℕ) → IsMetBy tasks accesses (length accesses) i → Contains b i) × ((i : ℕ) → Contains b i → i < length tasks) × ((i : ℕ) → Contains b i → IsMetBy tasks accesses (length accesses) i)
all_met tasks accesses a b e c = (c.found, (λ i m. (met i m).2.3.known), met)
  where
    met : (i : ℕ) → Contains b i → IsMetBy tasks accesses (length accesses) i
    met i m = elim (c.only i m) [
      | inl old ↦ absurd (contains_none i (subst (λ (xs : List ℕ). Contains xs i) e old))
      | inr new ↦ new
    ]
