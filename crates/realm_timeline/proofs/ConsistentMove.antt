-- The tables of a simulation stay consistent when a line goes to another queue.
use Rattle.std.proofs.Common.{◌≡◌, ℕ, ◌+◌, ◌<◌, ◌≤◌, ◌⊎◌, true, false, not, inl, inr, List, [], length, refl, sym, ◌∙◌, ap, subst}
use Rattle.std.specs.Prelude.{◌==◌, ◌↔◌, ◌&&◌, ◌||◌}
use Rattle.std.proofs.lemmas.Bool.{true≢false, cases_eq, eq-eqb, eqb-true, ne_eqb, or_cases, or_left, or_right, and_parts, and_from, not_from_false, not-true}
use Rattle.graph_terms.specs.Graph.{GraphValue}
use Rattle.realm_timeline.specs.Queue.{QueueValue, queue_at, has_line, ChangesQueue, WithLine, WithoutLine}
use Rattle.realm_timeline.specs.State.{State, joins, IsQueued, IsHolder, IsConsistent}
use Rattle.realm_timeline.specs.Steps.{Moves}
use Rattle.realm_timeline.proofs.ConsistentCounts.{same_state}

module _ (g : GraphValue) (p : ℕ) (s : State) (k : IsConsistent g p s []) (place other line : ℕ) (listed : has_line (queue_at s.queues place).lines line ≡ true) (joined : joins g s.by_columns line other ≡ true)
    (between queues : List QueueValue) (count : length queues ≡ length s.queues) (taken : ChangesQueue s.queues between place (WithoutLine line)) (given : ChangesQueue between queues other (WithLine line)) where
  after : State
  after = record s { queues = queues }

  listed_between : (r i : ℕ) → has_line (queue_at between r).lines i ≡ true → (i ≡ line → ⊥) × (has_line (queue_at s.queues r).lines i ≡ true)
  listed_between r i h = elim (cases_eq r place) [
    | inl at ↦ (
        let parts = and_parts (not (i == line)) (has_line (queue_at s.queues place).lines i) (sym (taken.here.lines i) ∙ subst (λ z. has_line (queue_at between z).lines i ≡ true) at h) in
        ((λ e. true≢false (sym (eq-eqb i line e) ∙ not-true (i == line) parts.0)), subst (λ z. has_line (queue_at s.queues z).lines i ≡ true) (sym at) parts.1))
    | inr apart ↦ (
        let old : has_line (queue_at s.queues r).lines i ≡ true = subst (λ z. has_line z.lines i ≡ true) (taken.others r apart) h in
        ((λ e. apart (k.one_place r place line (subst (λ z. has_line (queue_at s.queues r).lines z ≡ true) e old) listed)), old))
  ]

  -- a line stands where it stood, but for the one that moves
  pub was_listed : (r i : ℕ) → has_line (queue_at queues r).lines i ≡ true → ((r ≡ other) × (i ≡ line)) ⊎ ((i ≡ line → ⊥) × (has_line (queue_at s.queues r).lines i ≡ true))
  was_listed r i h = elim (cases_eq r other) [
    | inl at ↦ elim (or_cases (i == line) (has_line (queue_at between other).lines i) (sym (given.here.lines i) ∙ subst (λ z. has_line (queue_at queues z).lines i ≡ true) at h)) [
      | inl new ↦ inl (at, eqb-true i line new)
      | inr old ↦ inr (listed_between r i (subst (λ z. has_line (queue_at between z).lines i ≡ true) (sym at) old))
    ]
    | inr apart ↦ inr (listed_between r i (subst (λ z. has_line z.lines i ≡ true) (given.others r apart) h))
  ]

  moved_here : has_line (queue_at queues other).lines line ≡ true
  moved_here = given.here.lines line ∙ or_left (line == line) (has_line (queue_at between other).lines line) (eq-eqb line line refl)

  stays : (r i : ℕ) → (i ≡ line → ⊥) → has_line (queue_at s.queues r).lines i ≡ true → has_line (queue_at queues r).lines i ≡ true
  stays r i apart h =
      let mid : has_line (queue_at between r).lines i ≡ true = elim (cases_eq r place) [
        | inl at ↦ subst (λ z. has_line (queue_at between z).lines i ≡ true) (sym at)
            (taken.here.lines i ∙ and_from (not (i == line)) (has_line (queue_at s.queues place).lines i) (not_from_false (i == line) (ne_eqb i line apart)) (subst (λ z. has_line (queue_at s.queues z).lines i ≡ true) at h))
        | inr elsewhere ↦ subst (λ z. has_line z.lines i ≡ true) (sym (taken.others r elsewhere)) h
      ] in
      elim (cases_eq r other) [
        | inl at ↦ subst (λ z. has_line (queue_at queues z).lines i ≡ true) (sym at) (given.here.lines i ∙ or_right (i == line) (has_line (queue_at between other).lines i) (subst (λ z. has_line (queue_at between z).lines i ≡ true) at mid))
        | inr elsewhere ↦ subst (λ z. has_line z.lines i ≡ true) (sym (given.others r elsewhere)) mid
      ]

  -- each queue is held as before
  pub same_holders : (r : ℕ) → (queue_at queues r).holders ≡ (queue_at s.queues r).holders
  same_holders r = given_holders r ∙ taken_holders r
    where
      taken_holders : (r : ℕ) → (queue_at between r).holders ≡ (queue_at s.queues r).holders
      taken_holders r = elim (cases_eq r place) [
        | inl at ↦ subst (λ z. (queue_at between z).holders ≡ (queue_at s.queues z).holders) (sym at) taken.here.holders
        | inr apart ↦ ap (λ z. z.holders) (taken.others r apart)
      ]

      given_holders : (r : ℕ) → (queue_at queues r).holders ≡ (queue_at between r).holders
      given_holders r = elim (cases_eq r other) [
        | inl at ↦ subst (λ z. (queue_at queues z).holders ≡ (queue_at between z).holders) (sym at) given.here.holders
        | inr apart ↦ ap (λ z. z.holders) (given.others r apart)
      ]

  still_waiting : (i : ℕ) → IsQueued g s i → IsQueued g after i
  unfolding after
  still_waiting i w = record { line = w.line; free = w.free; comes = w.comes; waits = w.waits }

  queued : (r i : ℕ) → has_line (queue_at queues r).lines i ≡ true → IsQueued g after i × (joins g s.by_columns i r ≡ true)
  queued r i h = elim (was_listed r i h) [
    | inl new ↦ (
      still_waiting i (subst (IsQueued g s) (sym new.1) (k.queued place line listed).0),
      subst (λ z. joins g s.by_columns z r ≡ true) (sym new.1) (subst (λ z. joins g s.by_columns line z ≡ true) (sym new.0) joined),
    )
    | inr old ↦ (let w = k.queued r i old.1 in (still_waiting i w.0, w.1))
  ]

  one_place : (r t i : ℕ) → has_line (queue_at queues r).lines i ≡ true → has_line (queue_at queues t).lines i ≡ true → r ≡ t
  one_place r t i h j = elim (was_listed r i h) [
    | inl new ↦ elim (was_listed t i j) [ inl also ↦ new.0 ∙ sym also.0 | inr old ↦ absurd (old.0 new.1) ]
    | inr old ↦ elim (was_listed t i j) [ inl new ↦ absurd (old.0 new.1) | inr also ↦ k.one_place r t i old.1 also.1 ]
  ]

  all_queued : (i : ℕ) → IsQueued g after i → (r : ℕ) × (has_line (queue_at queues r).lines i ≡ true)
  unfolding after
  all_queued i w = elim (cases_eq i line) [
    | inl at ↦ (other, subst (λ z. has_line (queue_at queues other).lines z ≡ true) (sym at) moved_here)
    | inr apart ↦ (let old = k.all_queued i (record { line = w.line; free = w.free; comes = w.comes; waits = w.waits }) in (old.0, stays old.0 i apart old.1))
  ]

  consistent_move : IsConsistent g p after []
  unfolding after
  consistent_move = record {
    slot_count = k.slot_count;
    done_count = k.done_count;
    left_count = k.left_count;
    queue_count = count ∙ k.queue_count;
    processor_count = k.processor_count;
    left = k.left;
    started_free = k.started_free;
    finished_started = k.finished_started;
    queued = queued;
    one_place = one_place;
    all_queued = all_queued;
    holders = λ q m. subst (λ hs. (has_line hs m ≡ true) ↔ IsHolder g s m q) (sym (same_holders q)) (k.holders q m);
    runs = k.runs;
    running = k.running;
    ordered = k.ordered;
    once = k.once;
    before = k.before;
  }

pub state_moved : (g : GraphValue) (s new : State) (place other line : ℕ) → Moves g s new place other line → record s { queues = new.queues } ≡ new
state_moved g s new place other line m = same_state (record s { queues = new.queues }) new (sym m.by_columns) (sym m.time) (sym m.slots) (sym m.order) (sym m.done) (sym m.left) refl (sym m.running)

pub move_consistent : (g : GraphValue) (p : ℕ) (s new : State) (place other line : ℕ) → IsConsistent g p s [] → Moves g s new place other line → IsConsistent g p (record s { queues = new.queues }) []
unfolding after
move_consistent g p s new place other line k m = consistent_move g p s k place other line m.listed m.joined m.queues.0 new.queues m.queue_count m.queues.1 m.queues.2
