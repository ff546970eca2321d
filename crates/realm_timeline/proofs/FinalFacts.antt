-- A simulation in which no line runs and none may start: all lines that are to be planned have started, and the plan is greedy.
use Rattle.std.proofs.Common.{◌≡◌, ℕ, zero, suc, ◌+◌, ◌<◌, ◌≤◌, true, false, inl, inr, length, refl, sym, ◌∙◌, ap, subst, arith}
use Rattle.std.specs.Prelude.{Option, Some, None}
use Rattle.std.proofs.lemmas.Bool.{true≢false, cases_Bool, cases_order}
use Rattle.std.proofs.lemmas.Option.{none-some}
use Rattle.graph_terms.specs.Graph.{GraphValue, never_comes, locks, line_passes, is_shared, is_release_of, never_comes_as}
use Rattle.graph_terms.specs.Edges.{edges}
use Rattle.graph_meaning.specs.Path.{HasPath, Reached}
use Rattle.graph_meaning.specs.Rules.{Accepted}
use Rattle.graph_terms.specs.Reservations.{Acquires, Releases}
use Rattle.graph_terms.specs.Fits.{IsGraph}
use Rattle.graph_meaning.proofs.Public.{ready_or_never, never_with_path}
use Rattle.graph_meaning.specs.Turns.{IsReadyLine}
use Rattle.graph_terms.proofs.Public.{acquire_is, release_is, passes_below, acquired_lock_known, one_release, edges_in_range}
use Rattle.std.specs.Option.{option_map_or}
use Rattle.graph_terms.specs.declared.verb.Verb.TheVariants.{Acquire, Release}
use Rattle.realm_timeline.specs.declared.slot.Slot.{Slot}
use Rattle.realm_timeline.specs.Plan.{Planned, slot_at, HasSlot, IsPlan, FinishedBy, ReleasedBy, Exclude, IsMoment, IsFreeFor, MayStart, StartsAt, IsGreedy}
use Rattle.realm_timeline.specs.Queue.{queue_at, AllHeldOrEmpty}
use Rattle.realm_timeline.specs.State.{State, is_done, runs_at, IsQueued, Holds, MayStartNow, HasStartedAll}
use Rattle.realm_timeline.specs.Columns.{IsFirstFor, IsGreedyByColumns}
use Rattle.realm_timeline.proofs.Hindering.{bars_hinder}
use Rattle.realm_timeline.specs.Order.{IsOrder}
use Rattle.realm_timeline.proofs.SlotFacts.{one_slot, takes_time, path_finished}
use Rattle.realm_timeline.proofs.Positions.{few_distinct}
use Rattle.realm_timeline.proofs.Barring.{bars_same, some_holder}
use Rattle.realm_timeline.proofs.ConsistentCounts.{sources_none, path_started}

-- the release of an acquire is a line, and is no acquire
release_no_acquire : (g : GraphValue) (r q l : ℕ) → Releases g r q → Acquires g r l → ⊥
release_no_acquire g r q l rel acq =
    let both : Some (Acquire l (line_passes is_shared g r)) ≡ Some (Release q) = sym (acquire_is g r l acq) ∙ release_is g r q rel in
    cc

-- the release comes
release_comes : (g : GraphValue) (r q : ℕ) → Releases g r q → never_comes g r ≡ false
release_comes g r q rel = ap (λ o. option_map_or (never_comes_as g r) o false) (release_is g r q rel)

module _ (g : GraphValue) (graph : IsGraph g) (accepted : Accepted g) (p : ℕ) (s : State) (some : 0 < p) (r : HasStartedAll g p s) (over : (q k : ℕ) → runs_at s.running q ≡ Some k → ⊥) where
  all_done : (i : ℕ) (x : Slot) → HasSlot s.slots i x → is_done s.done i ≡ true
  all_done i x h = elim (cases_Bool (is_done s.done i)) [
    | inl d ↦ d
    | inr unf ↦ absurd (over x.processor i (r.simulation.consistent.running i x h unf))
  ]

  all_held_or_empty : AllHeldOrEmpty s.queues
  all_held_or_empty = elim r.none_starts [
    | inl busy ↦ (
        let count : length s.running ≡ p = r.simulation.consistent.processor_count in
        let b = busy 0 (omega arith) in
        absurd (over 0 b.0 b.1))
    | inr free ↦ free
  ]

  -- a line that is ready acquires a reservation that another holds
  ready_blocked : (k : ℕ) → IsReadyLine (edges g) (length g.lines) (never_comes g) (is_done s.done) k → (l : ℕ) × Acquires g k l × ((m : ℕ) × Acquires g m l × Holds g s.slots s.done m)
  ready_blocked k ready =
      let none : slot_at s.slots k ≡ None = by (slot_at s.slots k) refl in
      let w : IsQueued g s k = record { line = ready.below; free = sources_none g p s r.simulation.consistent k ready.sources; comes = ready.comes; waits = none } in
      let at = r.simulation.consistent.all_queued k w in
      elim (some_holder (queue_at s.queues at.0).holders) [
        | inl held ↦ elim ((r.simulation.consistent.holders at.0 held.0).0 held.1) [
          | inl by_section ↦ (
              let same = bars_same g k held.0 (bars_hinder g s.by_columns graph k held.0 at.0 (r.simulation.consistent.queued at.0 k at.1).1 by_section.0) in
              (same.0, same.1, (held.0, same.2, by_section.1)))
          | inr by_use ↦ absurd (true≢false (sym (all_done held.0 by_use.1.slot by_use.1.has) ∙ by_use.1.undone))
        ]
        | inr free ↦ absurd (true≢false (sym at.1 ∙ all_held_or_empty at.0 k free))
      ]
    where
      by : (o : Option Slot) → slot_at s.slots k ≡ o → o ≡ None
      by None h = refl
      by (Some x) h = absurd (true≢false (sym (all_done k x h) ∙ ready.left))

  -- no reservation is held: the release of a holder stands behind a line that waits for a later reservation
  nobody_holds_from : (m l h : ℕ) → length (locks g) ≤ l + m → Acquires g h l × Holds g s.slots s.done h → ⊥
  nobody_holds_from zero l h few held = (let b : l < length (locks g) = acquired_lock_known g graph h l held.0 in absurd (omega arith))
  nobody_holds_from (suc m) l h few held =
      let rel = accepted.released h l held.0 in
      let left : is_done s.done rel.0 ≡ false = held.1.unreleased rel.0 rel.1 in
      let done : is_done s.done h ≡ true = all_done h held.1.slot held.1.has in
      elim (ready_or_never (edges g) (length g.lines) (never_comes g) (is_done s.done) (λ e c. (edges_in_range g graph e c).0) accepted.acyclic rel.0 (passes_below (is_release_of h) g rel.0 rel.1) left) [
        | inl ready ↦ (
            let b = ready_blocked ready.0 ready.1 in
            elim ready.2 [
              | inl same ↦ release_no_acquire g rel.0 h b.0 rel.1 (subst (λ x. Acquires g x b.0) same b.1)
              | inr path ↦ elim (accepted.sections rel.0 ready.0 h rel.1 path) [
                | inl is ↦ true≢false (sym done ∙ (ap (is_done s.done) (sym is) ∙ ready.1.left))
                | inr (inl before) ↦ (
                    let x = path_started g p s r.simulation.consistent ready.0 h before held.1.slot held.1.has in
                    true≢false (sym (all_done ready.0 x.0 x.1) ∙ ready.1.left))
                | inr (inr within) ↦ (
                    let above : l < b.0 = accepted.descends h ready.0 l b.0 (record { acquires = held.0; entered = within.0; release = rel.0; releases = rel.1; left = path }) b.1 in
                    nobody_holds_from m b.0 b.2.0 (omega arith) (b.2.1, b.2.2))
              ]
            ])
        | inr (inl never) ↦ true≢false (sym never ∙ release_comes g rel.0 h rel.1)
        | inr (inr some') ↦ elim (accepted.sections rel.0 some'.0 h rel.1 some'.2) [
          | inl is ↦ (r.simulation.up_to_now.some.planned h held.1.slot held.1.has).comes (inl (ap (never_comes g) (sym is) ∙ some'.1))
          | inr (inl before) ↦ (r.simulation.up_to_now.some.planned h held.1.slot held.1.has).comes (inr (some'.0, some'.1, before))
          | inr (inr within) ↦ within.1 (never_with_path g graph h some'.0 within.0 some'.1) some'.1
        ]
      ]

  -- each line that is to be planned has started
  all_started : (i : ℕ) → Planned g i → (x : Slot) × HasSlot s.slots i x
  all_started i planned = elim (cases_Bool (is_done s.done i)) [
    | inl d ↦ r.simulation.consistent.finished_started i d
    | inr left ↦ elim (ready_or_never (edges g) (length g.lines) (never_comes g) (is_done s.done) (λ e c. (edges_in_range g graph e c).0) accepted.acyclic i planned.line left) [
      | inl ready ↦ (let b = ready_blocked ready.0 ready.1 in absurd (nobody_holds_from (length (locks g)) b.0 b.2.0 (omega arith) (b.2.1, b.2.2)))
      | inr reached ↦ absurd (planned.comes reached)
    ]
  ]

  -- a line that has not started is reached by one that never comes
  unstarted_reached : (i : ℕ) → i < length g.lines → slot_at s.slots i ≡ None → Reached g i
  unstarted_reached i below none = elim (cases_Bool (is_done s.done i)) [
    | inl d ↦ (let x = r.simulation.consistent.finished_started i d in absurd (none-some x.0 (sym none ∙ x.1)))
    | inr left ↦ elim (ready_or_never (edges g) (length g.lines) (never_comes g) (is_done s.done) (λ e c. (edges_in_range g graph e c).0) accepted.acyclic i below left) [
      | inl ready ↦ (let b = ready_blocked ready.0 ready.1 in absurd (nobody_holds_from (length (locks g)) b.0 b.2.0 (omega arith) (b.2.1, b.2.2)))
      | inr reached ↦ reached
    ]
  ]

  is_plan : IsPlan g p s.slots
  is_plan = record { some = r.simulation.up_to_now.some; all = all_started }

  -- two acquires of one reservation do not start together
  apart_excluding : (i k : ℕ) → Exclude g i k → (x y : Slot) → HasSlot s.slots i x → HasSlot s.slots k y → x.start ≡ y.start → ⊥
  apart_excluding i k excludes x y hx hy same = elim (r.simulation.up_to_now.valid.sections i k excludes x y hx hy) [
    | inl a ↦ released_late i x hx excludes.lock excludes.one y.start (omega arith) a
    | inr b ↦ released_late k y hy excludes.lock excludes.other x.start (omega arith) b
  ]
    where
      released_late : (i : ℕ) (x : Slot) → HasSlot s.slots i x → (l : ℕ) → Acquires g i l → (t : ℕ) → t ≤ x.start → ReleasedBy g s.slots t i → ⊥
      released_late i x h l acq t early rel =
          let a = accepted.released i l acq in
          let is : a.0 ≡ rel.0 = one_release g graph i a.0 rel.0 a.1 rel.1 in
          let f : FinishedBy s.slots t i = path_finished g p s.slots r.simulation.up_to_now.some r.simulation.up_to_now.valid t i rel.0 (subst (HasPath g i) is a.2) rel.2 in
          let e : f.0.finish ≡ x.finish = ap (λ (z : Slot). z.finish) (one_slot s.slots i f.0 x f.1 h) in
          let b : f.0.finish ≤ t = f.2 in
          let takes : x.start < x.finish = takes_time g p s.slots r.simulation.up_to_now.some i x h in
          absurd (omega arith)

  moment_past : (t : ℕ) → IsMoment s.slots t → t ≤ s.time
  moment_past t (inl e) = omega arith
  moment_past t (inr m) =
      let f = r.simulation.done_lines.finished m.0 (all_done m.0 m.1 m.2) in
      let e : f.0.finish ≡ m.1.finish = ap (λ (z : Slot). z.finish) (one_slot s.slots m.0 f.0 m.1 f.1 m.2) in
      let b : f.0.finish ≤ s.time = f.2 in
      let at : m.1.finish ≡ t = m.3 in
      omega arith

  starts_if : (t i : ℕ) → IsMoment s.slots t → MayStartNow g s.by_columns p s.slots t i → StartsAt s.slots t i
  starts_if t i moment may =
      let past : t ≤ s.time = moment_past t moment in
      elim (cases_order t s.time) [
        | inl now ↦ subst (λ u. StartsAt s.slots u i) (sym now) (r.greedy (subst (IsMoment s.slots) now moment) i (subst (λ u. MayStartNow g s.by_columns p s.slots u i) now may))
        | inr (inl before) ↦ r.simulation.up_to_now.greedy t before moment i may
        | inr (inr after) ↦ absurd (omega arith)
      ]

  may_if : (t i : ℕ) → StartsAt s.slots t i → MayStart g p s.slots t i
  may_if t i starts = record {
    processor = starts.0.processor;
    known = r.simulation.up_to_now.some.processor i starts.0 starts.1;
    free = subst (λ u. IsFreeFor s.slots u i starts.0.processor) starts.2 (r.simulation.up_to_now.free i starts.0 starts.1);
    first = λ k excludes below y h at. apart_excluding i k excludes starts.0 y starts.1 h (starts.2 ∙ sym at);
  }

  is_greedy : s.by_columns ≡ false → IsGreedy g p s.slots
  is_greedy off = record {
    moments = r.simulation.up_to_now.moments;
    each = λ t i moment ready. ((λ starts. may_if t i starts), (λ may. starts_if t i moment (record { ready = ready; may = may; free = λ on. absurd (true≢false (sym on ∙ off)); first = λ on. absurd (true≢false (sym on ∙ off)) })));
    free = r.simulation.up_to_now.free;
    lowest = r.simulation.up_to_now.lowest;
  }

  -- two lines that collide do not start together
  first_if : s.by_columns ≡ true → (t i : ℕ) → StartsAt s.slots t i → IsFirstFor g s.slots t i
  first_if on t i starts k c below y h at =
      let x : starts.0.start < starts.0.finish = takes_time g p s.slots r.simulation.up_to_now.some i starts.0 starts.1 in
      let z : y.start < y.finish = takes_time g p s.slots r.simulation.up_to_now.some k y h in
      let same : starts.0.start ≡ t = starts.2 in
      elim (r.simulation.up_to_now.apart on i k c starts.0 y starts.1 h) [
        | inl a ↦ absurd (omega arith)
        | inr b ↦ absurd (omega arith)
      ]

  is_greedy_by_columns : s.by_columns ≡ true → IsGreedyByColumns g p s.slots
  is_greedy_by_columns on = record {
    moments = r.simulation.up_to_now.moments;
    each = λ t i moment ready free. ((λ starts. (may_if t i starts, first_if on t i starts)), (λ may. starts_if t i moment (record { ready = ready; may = may.0; free = λ _. free; first = λ _. may.1 })));
    free = r.simulation.up_to_now.free;
    lowest = r.simulation.up_to_now.lowest;
  }

pub plan_is_whole : (g : GraphValue) → IsGraph g → Accepted g → (p : ℕ) (s : State) → 0 < p → HasStartedAll g p s → ((q k : ℕ) → runs_at s.running q ≡ Some k → ⊥) → IsPlan g p s.slots
plan_is_whole g graph accepted p s some r over = is_plan g graph accepted p s some r over

pub others_are_reached : (g : GraphValue) → IsGraph g → Accepted g → (p : ℕ) (s : State) → 0 < p → HasStartedAll g p s → ((q k : ℕ) → runs_at s.running q ≡ Some k → ⊥) → (i : ℕ) → i < length g.lines → slot_at s.slots i ≡ None → Reached g i
others_are_reached g graph accepted p s some r over = unstarted_reached g graph accepted p s some r over

pub plan_is_greedy : (g : GraphValue) → IsGraph g → Accepted g → (p : ℕ) (s : State) → 0 < p → HasStartedAll g p s → ((q k : ℕ) → runs_at s.running q ≡ Some k → ⊥) → s.by_columns ≡ false → IsGreedy g p s.slots
plan_is_greedy g graph accepted p s some r over = is_greedy g graph accepted p s some r over

pub plan_is_greedy_by_columns : (g : GraphValue) → IsGraph g → Accepted g → (p : ℕ) (s : State) → 0 < p → HasStartedAll g p s → ((q k : ℕ) → runs_at s.running q ≡ Some k → ⊥) → s.by_columns ≡ true → IsGreedyByColumns g p s.slots
plan_is_greedy_by_columns g graph accepted p s some r over = is_greedy_by_columns g graph accepted p s some r over

pub order_is : (g : GraphValue) → IsGraph g → Accepted g → (p : ℕ) (s : State) → 0 < p → HasStartedAll g p s → ((q k : ℕ) → runs_at s.running q ≡ Some k → ⊥) → IsOrder g s.order
order_is g graph accepted p s some r over = record {
  listed = λ i. ((λ c. (let x = (r.simulation.consistent.ordered i).0 c in r.simulation.up_to_now.some.planned i x.0 x.1)), (λ planned. (r.simulation.consistent.ordered i).1 (all_started g graph accepted p s some r over i planned)));
  once = r.simulation.consistent.once;
  before = r.simulation.consistent.before;
  few = few_distinct s.order (length g.lines) r.simulation.consistent.once (λ i c. (let x = (r.simulation.consistent.ordered i).0 c in (r.simulation.up_to_now.some.planned i x.0 x.1).line));
}
