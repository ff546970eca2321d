-- The tables of a simulation stay consistent when a line is marked as finished.
use Rattle.std.proofs.Common.{◌≡◌, ℕ, ◌+◌, ◌<◌, Bool, true, false, not, inl, inr, List, [], length, refl, sym, ◌∙◌, ap, subst, arith}
use Rattle.std.specs.Prelude.{◌==◌, ◌↔◌, ◌&&◌, Option, Some, None, slice_index, slice_set, count_by}
use Rattle.std.proofs.lemmas.Bool.{true≢false, cases_eq, eq-eqb, eqb-true, ne_eqb, and_parts, and_from, not_from_false, not-true, false_from_ne_true}
use Rattle.std.proofs.lemmas.List.{get_or-set_same, get_or-set_other, length-set}
use Rattle.std.proofs.lemmas.Option.{none-some, same_Some}
use Rattle.graph_terms.specs.declared.verb.Edge.{Edge}
use Rattle.graph_terms.specs.Graph.{GraphValue}
use Rattle.graph_terms.specs.Edges.{edges, edges_out_of}
use Rattle.graph_meaning.specs.Rules.{Accepted}
use Rattle.graph_terms.specs.Reservations.{Releases}
use Rattle.graph_terms.specs.Fits.{IsGraph}
use Rattle.graph_terms.proofs.Public.{release_one}
use Rattle.realm_timeline.specs.declared.slot.Slot.{Slot}
use Rattle.realm_timeline.specs.Plan.{HasSlot}
use Rattle.realm_timeline.specs.Queue.{QueueValue, queue_at, has_line}
use Rattle.realm_timeline.specs.State.{State, bars, uses_bar, is_done, runs_at, waits_for, Holds, Runs, IsHolder, IsConsistent}
use Rattle.realm_timeline.specs.Steps.{Removes, Frees, MarksFinished}
use Rattle.realm_timeline.proofs.EdgeCounts.{bit, count_split, count_filter}
use Rattle.realm_timeline.proofs.Hindering.{uses_or_bars}
use Rattle.realm_timeline.proofs.ConsistentCounts.{same_state, within}

-- one edge more counts as passed
awaits_by : (a b c d : Bool) → (c ≡ true → (b ≡ false) × (d ≡ true)) → (c ≡ false → d ≡ b) → bit (a && not b) ≡ bit (a && not d) + bit (a && c)
awaits_by a b true d f h = by a b d (f refl).0 (f refl).1
  where
    by : (a b d : Bool) → b ≡ false → d ≡ true → bit (a && not b) ≡ bit (a && not d) + bit (a && true)
    by true false true e k = refl
    by false false true e k = refl
    by a true d e k = absurd (true≢false e)
    by a false false e k = absurd (true≢false (sym k))
awaits_by a b false d f h = by a b d (h refl)
  where
    by : (a b d : Bool) → d ≡ b → bit (a && not b) ≡ bit (a && not d) + bit (a && false)
    by true true true e = refl
    by true false false e = refl
    by false true true e = refl
    by false false false e = refl
    by a true false e = absurd (true≢false (sym e))
    by a false true e = absurd (true≢false e)

module _ (g : GraphValue) (graph : IsGraph g) (accepted : Accepted g) (p : ℕ) (s : State) (q line : ℕ) (k : IsConsistent g p s []) (runs : runs_at s.running q ≡ Some line) (between queues : List QueueValue) (count : length queues ≡ length s.queues) (uses : Removes (uses_bar g s.by_columns line) s.queues between line) where
  after : State
  after = record s { running = slice_set s.running q None; done = slice_set s.done line true; queues = queues }

  unfinished : is_done s.done line ≡ false
  unfinished = (k.runs q line runs).0

  started : (x : Slot) × HasSlot s.slots line x
  started = let r = (k.runs q line runs).1 in (r.0, r.1)

  line_below : line < length s.done
  line_below =
      let a : line < length s.slots = within s.slots line None (λ h. none-some started.0 (sym h ∙ started.1)) in
      let b : length s.slots ≡ length g.lines = k.slot_count in
      let c : length s.done ≡ length g.lines = k.done_count in
      omega arith

  q_below : q < length s.running
  q_below = within s.running q None (λ h. none-some line (sym h ∙ runs))

  done_here : is_done (slice_set s.done line true) line ≡ true
  done_here = get_or-set_same s.done line true false line_below

  done_there : (i : ℕ) → (i ≡ line → ⊥) → is_done (slice_set s.done line true) i ≡ is_done s.done i
  done_there i apart = get_or-set_other s.done line i true false apart

  not_done : (i : ℕ) → is_done (slice_set s.done line true) i ≡ false → (i ≡ line → ⊥) × (is_done s.done i ≡ false)
  not_done i h =
      let apart : i ≡ line → ⊥ = (λ e. true≢false (sym (subst (λ x. is_done (slice_set s.done line true) x ≡ true) (sym e) done_here) ∙ h)) in
      (apart, sym (done_there i apart) ∙ h)

  left_is : (i : ℕ) → slice_index s.left i ≡ count_by (waits_for (slice_set s.done line true) i) (edges g) + count_by (λ (e : Edge). e.to == i) (edges_out_of g line)
  left_is i =
      let old : slice_index s.left i ≡ count_by (waits_for s.done i) (edges g) + count_by (λ (e : Edge). e.to == i) [] = k.left i in
      let none : count_by (λ (e : Edge). e.to == i) [] ≡ 0 = refl in
      let split : count_by (waits_for s.done i) (edges g) ≡ count_by (waits_for (slice_set s.done line true) i) (edges g) + count_by (λ (e : Edge). (e.to == i) && (e.from == line)) (edges g) =
      count_split (waits_for s.done i) (waits_for (slice_set s.done line true) i) (λ (e : Edge). (e.to == i) && (e.from == line))
      (λ e. awaits_by (e.to == i) (is_done s.done e.from) (e.from == line) (is_done (slice_set s.done line true) e.from)
      (λ same. let at : e.from ≡ line = eqb-true e.from line same in (ap (is_done s.done) at ∙ unfinished, ap (is_done (slice_set s.done line true)) at ∙ done_here))
      (λ apart. done_there e.from (λ at. true≢false (sym (eq-eqb e.from line at) ∙ apart)))) (edges g) in
      let out : count_by (λ (e : Edge). e.to == i) (edges_out_of g line) ≡ count_by (λ (e : Edge). (e.to == i) && (e.from == line)) (edges g) = count_filter (λ (e : Edge). e.to == i) (λ (e : Edge). e.from == line) (edges g) in
      omega arith

  lines_by : (o : Option ℕ) → Frees g line between queues o → (r : ℕ) → (queue_at queues r).lines ≡ (queue_at s.queues r).lines
  lines_by None f r = ap (λ x. (queue_at x r).lines) f.1 ∙ uses.lines r
  lines_by (Some a) f r = f.1.lines r ∙ uses.lines r

  -- what holds from now on held before, and is not what the line releases
  held_between : (o : Option ℕ) → Frees g line between queues o → (r m : ℕ) → has_line (queue_at queues r).holders m ≡ true → (has_line (queue_at between r).holders m ≡ true) × (bars g m r ≡ true → Releases g line m → ⊥)
  held_between None f r m h = (subst (λ x. has_line (queue_at x r).holders m ≡ true) f.1 h, λ b rel. f.0 m rel)
  held_between (Some a) f r m h =
      let parts = and_parts (not ((m == a) && bars g a r)) (has_line (queue_at between r).holders m) (sym (f.1.holders r m) ∙ h) in (
        parts.1,
        λ b rel. (
            let same : m ≡ a = release_one g line m a rel f.0 in
            true≢false (sym (and_from (m == a) (bars g a r) (eq-eqb m a same) (subst (λ z. bars g z r ≡ true) same b)) ∙ not-true ((m == a) && bars g a r) parts.0)),
      )

  -- and what the line does not release holds still
  still_held : (o : Option ℕ) → Frees g line between queues o → (r m : ℕ) → has_line (queue_at between r).holders m ≡ true → (bars g m r ≡ true → Releases g line m → ⊥) → has_line (queue_at queues r).holders m ≡ true
  still_held None f r m h keeps = subst (λ x. has_line (queue_at x r).holders m ≡ true) (sym f.1) h
  still_held (Some a) f r m h keeps = f.1.holders r m ∙ and_from (not ((m == a) && bars g a r)) (has_line (queue_at between r).holders m)
      (not_from_false ((m == a) && bars g a r) (false_from_ne_true ((m == a) && bars g a r) (λ both. (
      let parts = and_parts (m == a) (bars g a r) both in
      let same : m ≡ a = eqb-true m a parts.0 in
      keeps (subst (λ z. bars g z r ≡ true) (sym same) parts.1) (subst (Releases g line) (sym same) f.0))))) h

  -- the line holds no column any more, and others hold theirs
  used_before : (r m : ℕ) → has_line (queue_at between r).holders m ≡ true → (has_line (queue_at s.queues r).holders m ≡ true) × (uses_bar g s.by_columns m r ≡ true → m ≡ line → ⊥)
  used_before r m h =
      let parts = and_parts (not ((m == line) && uses_bar g s.by_columns line r)) (has_line (queue_at s.queues r).holders m) (sym (uses.holders r m) ∙ h) in (
        parts.1,
        λ b same. true≢false (sym (and_from (m == line) (uses_bar g s.by_columns line r) (eq-eqb m line same) (subst (λ z. uses_bar g s.by_columns z r ≡ true) same b)) ∙ not-true ((m == line) && uses_bar g s.by_columns line r) parts.0),
      )

  still_used : (r m : ℕ) → has_line (queue_at s.queues r).holders m ≡ true → (uses_bar g s.by_columns m r ≡ true → m ≡ line → ⊥) → has_line (queue_at between r).holders m ≡ true
  still_used r m h keeps = uses.holders r m ∙ and_from (not ((m == line) && uses_bar g s.by_columns line r)) (has_line (queue_at s.queues r).holders m)
      (not_from_false ((m == line) && uses_bar g s.by_columns line r) (false_from_ne_true ((m == line) && uses_bar g s.by_columns line r) (λ both. (
      let parts = and_parts (m == line) (uses_bar g s.by_columns line r) both in
      let same : m ≡ line = eqb-true m line parts.0 in
      keeps (subst (λ z. uses_bar g s.by_columns z r ≡ true) (sym same) parts.1) same)))) h

  was_holding : (m : ℕ) → Holds g s.slots (slice_set s.done line true) m → Holds g s.slots s.done m
  was_holding m h = record { slot = h.slot; has = h.has; unreleased = λ r rel. (not_done r (h.unreleased r rel)).1 }

  still_holding : (m : ℕ) → (Releases g line m → ⊥) → Holds g s.slots s.done m → Holds g s.slots (slice_set s.done line true) m
  still_holding m keeps h = record {
    slot = h.slot;
    has = h.has;
    unreleased = λ r rel. elim (cases_eq r line) [
      | inl at ↦ absurd (keeps (subst (λ z. Releases g z m) at rel))
      | inr apart ↦ done_there r apart ∙ h.unreleased r rel
    ];
  }

  holders : (o : Option ℕ) → Frees g line between queues o → (r m : ℕ) → (has_line (queue_at queues r).holders m ≡ true) ↔ IsHolder g after m r
  unfolding after
  holders o f r m = (
    (λ h. (
        let e = held_between o f r m h in
        let u = used_before r m e.0 in
        elim ((k.holders r m).0 u.0) [
          | inl by_section ↦ inl (by_section.0, still_holding m (e.1 by_section.0) by_section.1)
          | inr by_use ↦ inr (by_use.0, record { slot = by_use.1.slot; has = by_use.1.has; undone = done_there m (u.1 by_use.0) ∙ by_use.1.undone })
        ])),
    (λ b. elim b [
      | inl by_section ↦ still_held o f r m (still_used r m ((k.holders r m).1 (inl (by_section.0, was_holding m by_section.1))) (λ u same. uses_or_bars g s.by_columns m r by_section.0 u))
          (λ b rel. true≢false (sym done_here ∙ by_section.1.unreleased line rel))
      | inr by_use ↦ (
          let n = not_done m by_use.1.undone in
          still_held o f r m (still_used r m ((k.holders r m).1 (inr (by_use.0, record { slot = by_use.1.slot; has = by_use.1.has; undone = n.1 }))) (λ u same. n.0 same))
          (λ b rel. uses_or_bars g s.by_columns m r b by_use.0))
    ]),
  )

  left_processor : (o : Option ℕ) → Frees g line between queues o → IsConsistent g p after (edges_out_of g line)
  unfolding after
  left_processor o f = record {
    slot_count = k.slot_count;
    done_count = simp length-set k.done_count;
    left_count = k.left_count;
    queue_count = count ∙ k.queue_count;
    processor_count = simp length-set k.processor_count;
    left = left_is;
    started_free = k.started_free;
    finished_started = λ i h. elim (cases_eq i line) [
      | inl at ↦ (started.0, subst (λ x. HasSlot s.slots x started.0) (sym at) started.1)
      | inr apart ↦ k.finished_started i (sym (done_there i apart) ∙ h)
    ];
    queued = λ r i h. (let w = k.queued r i (subst (λ x. has_line x i ≡ true) (lines_by o f r) h) in (record { line = w.0.line; free = w.0.free; comes = w.0.comes; waits = w.0.waits }, w.1));
    one_place = λ r t i h j. k.one_place r t i (subst (λ x. has_line x i ≡ true) (lines_by o f r) h) (subst (λ x. has_line x i ≡ true) (lines_by o f t) j);
    all_queued = λ i w. (let q = k.all_queued i (record { line = w.line; free = w.free; comes = w.comes; waits = w.waits }) in (q.0, subst (λ x. has_line x i ≡ true) (sym (lines_by o f q.0)) q.1));
    holders = holders o f;
    runs = λ r m h. elim (cases_eq r q) [
      | inl at ↦ absurd (none-some m (sym (get_or-set_same s.running q None None q_below) ∙ subst (λ x. runs_at (slice_set s.running q None) x ≡ Some m) at h))
      | inr apart ↦ (
          let old = k.runs r m (sym (get_or-set_other s.running q r None None apart) ∙ h) in
          let x = old.1 in (
            done_there m (λ same. apart (
                let y = (k.runs q line runs).1 in
                sym x.2 ∙ (ap (λ (z : Slot). z.processor) (same_Some x.0 y.0 (sym (subst (λ z. HasSlot s.slots z x.0) same x.1) ∙ y.1)) ∙ y.2))) ∙ old.0,
            (x.0, x.1, x.2),
          ))
    ];
    running = λ m x h unf. (
        let n = not_done m unf in
        let old : runs_at s.running x.processor ≡ Some m = k.running m x h n.1 in
        get_or-set_other s.running q x.processor None None (λ at. n.0 (same_Some m line (sym (subst (λ z. runs_at s.running z ≡ Some m) at old) ∙ runs))) ∙ old);
    ordered = k.ordered;
    once = k.once;
    before = k.before;
  }

pub finish_consistent : (g : GraphValue) → IsGraph g → Accepted g → (p : ℕ) (s new : State) (q line : ℕ) → IsConsistent g p s [] → runs_at s.running q ≡ Some line → MarksFinished g s new q line → IsConsistent g p new (edges_out_of g line)
unfolding after
finish_consistent g graph accepted p s new q line k runs st =
    subst (λ x. IsConsistent g p x (edges_out_of g line)) (same_state (record s { running = slice_set s.running q None; done = slice_set s.done line true; queues = new.queues }) new (sym st.by_columns) (sym st.time) (sym st.slots) (sym st.order) (sym st.done) (sym st.left) refl (sym st.running))
    (left_processor g graph accepted p s q line k runs st.between new.queues st.queue_count st.uses st.acquire st.frees)
