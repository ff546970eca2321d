-- A simulation goes on: a line starts, or no more lines may.
use Rattle.std.proofs.Common.{◌≡◌, ℕ, ◌+◌, ◌*◌, ◌<◌, ◌≤◌, true, false, ◌⊎◌, inl, inr, List, length, refl, sym, ◌∙◌, ap, subst, arith}
use Rattle.std.specs.Prelude.{◌==◌, ◌&&◌, Contains, Option, Some, None, slice_index, slice_set}
use Rattle.std.proofs.lemmas.Bool.{true≢false, cases_lt, cases_eq, cases_Bool, false_from_ne_true, or_right}
use Rattle.std.proofs.lemmas.List.{get_or-set_same, get_or-set_other, length-set}
use Rattle.std.proofs.lemmas.Option.{none-some, same_Some}
use Rattle.graph_terms.specs.declared.verb.Edge.{Edge}
use Rattle.graph_terms.specs.Graph.{GraphValue, never_comes}
use Rattle.graph_terms.specs.Edges.{edges}
use Rattle.graph_meaning.specs.Path.{Path, last, first, Reached}
use Rattle.graph_meaning.specs.Rules.{Accepted}
use Rattle.graph_terms.specs.Fits.{IsGraph}
use Rattle.basics.proofs.ListFacts.{count_below, fewer_below}
use Rattle.graph_terms.proofs.Public.{one_release}
use Rattle.realm_timeline.specs.declared.slot.Slot.{Slot}
use Rattle.realm_timeline.specs.Plan.{cost, Planned, slot_at, HasSlot, FinishedBy, ReleasedBy, Exclude, IsReadyAt, StartsAt}
use Rattle.realm_timeline.specs.Queue.{queue_at, has_line, IsUnheld, AllHeldOrEmpty, IsLowestPlace, is_open}
use Rattle.realm_timeline.specs.State.{State, queue_of, held_by, is_done, runs_at, IsQueued, Hinder, MayStartNow, NoneOlder, StartsNowBelow, IsGreedyUpTo, undone, IsSimulation, AllBusy, HasStartedAll}
use Rattle.realm_timeline.specs.Columns.{Collide}
use Rattle.realm_timeline.specs.Steps.{IsFirstIdle, Starts, Moves, GoesOn, slot_of}
use Rattle.realm_timeline.proofs.Barring.{bars_other, same_bars, some_holder}
use Rattle.realm_timeline.proofs.SlotFacts.{one_slot}
use Rattle.realm_timeline.proofs.ConsistentCounts.{source_done, sources_none}
use Rattle.realm_timeline.proofs.ConsistentStart.{start_consistent, was_listed, holders_now, slot_here, slot_there}
use Rattle.realm_timeline.proofs.ConsistentMove.{move_consistent, state_moved, was_listed as moved_listed, same_holders as moved_holders}
use Rattle.realm_timeline.proofs.Hindering.{joins_own, bars_hinder, uses_hinder, collide_queue, collide_swapped}
use Rattle.realm_timeline.proofs.OpenQueues.{open_at, at_open, unheld_is}
use Rattle.realm_timeline.proofs.GreedyUpTo.{RunsBelow, excludes_swapped, more, finished_fewer, up_to_now_more}

-- the last edge of a path
pub path_end : {all : List Edge} {i j : ℕ} → Path all i j → (e : Edge) × Contains all e × (e.to ≡ j) × ((e.from ≡ i) ⊎ Path all i e.from)
path_end (last e c p q) = (e, c, q, inl p)
path_end {all} (first e c p r) =
    let b = path_end r in
    (b.0, b.1, b.2, elim b.3 [ inl same ↦ inr (last e c p (sym same)) | inr rest ↦ inr (first e c p rest) ])

-- a line that comes, and whose sources are not reached, is not reached
unreached : (g : GraphValue) (i : ℕ) → never_comes g i ≡ false → ((e : Edge) → Contains (edges g) e → e.to ≡ i → Reached g e.from → ⊥) → Reached g i → ⊥
unreached g i comes sources (inl never) = true≢false (sym never ∙ comes)
unreached g i comes sources (inr r) =
    let b = path_end r.2 in
    sources b.0 b.1 b.2 (elim b.3 [ inl same ↦ inl (subst (λ z. never_comes g z ≡ true) (sym same) r.1) | inr rest ↦ inr (r.0, r.1, rest) ])

module _ (g : GraphValue) (graph : IsGraph g) (accepted : Accepted g) (p : ℕ) (s : State) (simulation : IsSimulation g p s) where
  -- a line that has finished has a finish up to now
  undone_later : (i : ℕ) (y : Slot) → HasSlot s.slots i y → is_done s.done i ≡ false → s.time < y.finish
  undone_later i y h unf = elim (cases_lt s.time y.finish) [
    | inl later ↦ later
    | inr past ↦ absurd (true≢false (sym (simulation.done_lines.marked i (y, h, past)) ∙ unf))
  ]

  done_by_now : (i : ℕ) (y : Slot) → HasSlot s.slots i y → is_done s.done i ≡ true → y.finish ≤ s.time
  done_by_now i y h d =
      let f = simulation.done_lines.finished i d in
      let e : f.0.finish ≡ y.finish = ap (λ (z : Slot). z.finish) (one_slot s.slots i f.0 y f.1 h) in
      let b : f.0.finish ≤ s.time = f.2 in
      omega arith

  -- where a line is held back, but by none that started before now, a lower one that has started now keeps it from starting
  held_below : (i k q : ℕ) → has_line (queue_at s.queues q).lines i ≡ true → has_line (queue_at s.queues q).holders k ≡ true → NoneOlder g s i → StartsNowBelow g s i
  held_below i k q listed held older =
      let w = simulation.consistent.queued q i listed in
      elim ((simulation.consistent.holders q k).0 held) [
        | inl by_section ↦ (
            let apart : i ≡ k → ⊥ = (λ e. none-some by_section.1.slot (sym w.0.waits ∙ subst (λ z. HasSlot s.slots z by_section.1.slot) (sym e) by_section.1.has)) in
            let r : Exclude g i k = bars_other g i k apart (bars_hinder g s.by_columns graph i k q w.1 by_section.0) in
            elim (cases_lt by_section.1.slot.start s.time) [
              | inl before ↦ (
                  let rel = older.released k r by_section.1.slot by_section.1.has before in
                  absurd (true≢false (sym (simulation.done_lines.marked rel.0 rel.2) ∙ by_section.1.unreleased rel.0 rel.1)))
              | inr since ↦ (
                  let early : by_section.1.slot.start ≤ s.time = simulation.up_to_now.early k by_section.1.slot by_section.1.has in
                  simulation.lowest_first.hinders k by_section.1.slot by_section.1.has (omega arith) i w.0 (inl r) older)
            ])
        | inr by_use ↦ (
            let apart : i ≡ k → ⊥ = (λ e. none-some by_use.1.slot (sym w.0.waits ∙ subst (λ z. HasSlot s.slots z by_use.1.slot) (sym e) by_use.1.has)) in
            let r = uses_hinder g s.by_columns graph i k q apart w.1 by_use.0 in
            elim (cases_lt by_use.1.slot.start s.time) [
              | inl before ↦ (
                  let fin : by_use.1.slot.finish ≤ s.time = older.free r.0 k r.1 by_use.1.slot by_use.1.has before in
                  absurd (true≢false (sym (simulation.done_lines.marked k (by_use.1.slot, by_use.1.has, fin)) ∙ by_use.1.undone)))
              | inr since ↦ (
                  let early : by_use.1.slot.start ≤ s.time = simulation.up_to_now.early k by_use.1.slot by_use.1.has in
                  simulation.lowest_first.hinders k by_use.1.slot by_use.1.has (omega arith) i w.0 (inr r) older)
            ])
      ]

  module _ (new : State) (place q line : ℕ) (lowest : IsLowestPlace s.queues place) (idle : IsFirstIdle s.running q) (st : Starts g s new place q line) where
    waiting : IsQueued g s line
    waiting = (simulation.consistent.queued place line st.listed).0

    no_slot : (y : Slot) → HasSlot s.slots line y → ⊥
    no_slot y h = none-some y (sym waiting.waits ∙ h)

    below : line < length s.slots
    below = let a : line < length g.lines = waiting.line in let b : length s.slots ≡ length g.lines = simulation.consistent.slot_count in omega arith

    sources_done : (e : Edge) → Contains (edges g) e → e.to ≡ line → is_done s.done e.from ≡ true
    sources_done e c to = source_done g p s simulation.consistent line waiting.free e c to

    planned : Planned g line
    planned = record {
      line = waiting.line;
      comes = unreached g line waiting.comes (λ e c to. (
          let f = simulation.consistent.finished_started e.from (sources_done e c to) in
          (simulation.up_to_now.some.planned e.from f.0 f.1).comes));
    }

    unheld : IsUnheld (queue_at s.queues (queue_of g line))
    unheld = st.unheld (queue_of g line) (joins_own g s.by_columns line)

    released : (i : ℕ) (y : Slot) → Exclude g i line → HasSlot s.slots i y → ReleasedBy g s.slots s.time i
    released i y excludes h =
        let r = accepted.released i excludes.lock excludes.one in
        elim (cases_Bool (is_done s.done r.0)) [
          | inl d ↦ (r.0, r.1, simulation.done_lines.finished r.0 d)
          | inr unf ↦ (
              let held : has_line (queue_at s.queues (queue_of g line)).holders i ≡ true = (simulation.consistent.holders (queue_of g line) i).1 (inl (
                same_bars g line i (excludes_swapped g i line excludes),
                record {
                  slot = y;
                  has = h;
                  unreleased = λ n rel. subst (λ z. is_done s.done z ≡ false) (one_release g graph i r.0 n r.1 rel) unf;
                },
              )) in
              absurd (true≢false (sym held ∙ unheld i)))
        ]

    columns_free : s.by_columns ≡ true → (i : ℕ) (y : Slot) → Collide g i line → HasSlot s.slots i y → y.finish ≤ s.time
    columns_free on i y c h = elim (cases_Bool (is_done s.done i)) [
      | inl d ↦ done_by_now i y h d
      | inr unf ↦ (
          let w = collide_queue g s.by_columns line i on (collide_swapped g i line c) in
          absurd (true≢false (sym ((simulation.consistent.holders w.0 i).1 (inr (w.2, record { slot = y; has = h; undone = unf }))) ∙ st.unheld w.0 w.1 i)))
    ]

    free : (i : ℕ) (y : Slot) → HasSlot s.slots i y → y.processor ≡ q → y.finish ≤ s.time
    free i y h on = elim (cases_Bool (is_done s.done i)) [
      | inl d ↦ done_by_now i y h d
      | inr unf ↦ absurd (none-some i (sym idle.idle ∙ subst (λ z. runs_at s.running z ≡ Some i) on (simulation.consistent.running i y h unf)))
    ]

    busy : (r : ℕ) → r < q → RunsBelow s.slots s.time r line
    busy r lower =
        let b = idle.busy r lower in
        let k = simulation.consistent.runs r b.0 b.1 in
        record {
          other = b.0;
          slot = k.1.0;
          has = k.1.1;
          on = k.1.2;
          since = simulation.up_to_now.early b.0 k.1.0 k.1.1;
          until = undone_later b.0 k.1.0 k.1.1 k.0;
          lower = λ at. simulation.lowest_first.lower b.0 k.1.0 k.1.1 at place line st.listed lowest.unheld;
        }

    x : Slot
    x = slot_of g s q line

    slots_next : List (Option Slot)
    slots_next = slice_set s.slots line (Some (slot_of g s q line))

    up_to_now_next : IsGreedyUpTo g s.by_columns p (slice_set s.slots line (Some (slot_of g s q line))) s.time
    up_to_now_next = up_to_now_more g s.by_columns p s.slots s.time simulation.up_to_now line (slot_of g s q line) no_slot below refl refl planned
        (let a : q < length s.running = idle.known in let b : length s.running ≡ p = simulation.consistent.processor_count in omega arith)
        (λ e c to. simulation.done_lines.finished e.from (sources_done e c to)) released columns_free free busy

    unheld_before : (r : ℕ) → IsUnheld (queue_at new.queues r) → IsUnheld (queue_at s.queues r)
    unheld_before r h k = false_from_ne_true (has_line (queue_at s.queues r).holders k)
        (λ old. true≢false (sym (holders_now g graph accepted p s simulation.consistent place q line (slot_of g s q line) refl st.listed idle.known idle.idle st.queues.0 new.queues st.queue_count st.queues.1 st.queues.2 r k
        ∙ or_right ((k == line) && held_by g s.by_columns line r) (has_line (queue_at s.queues r).holders k) old) ∙ h k))

    was_waiting : (i : ℕ) → IsQueued g new i → (i ≡ line → ⊥) × IsQueued g s i
    was_waiting i w =
        let none : slot_at (slice_set s.slots line (Some (slot_of g s q line))) i ≡ None = subst (λ xs. slot_at xs i ≡ None) st.slots w.waits in
        let apart : i ≡ line → ⊥ = (λ e. none-some (slot_of g s q line) (sym (subst (λ z. slot_at (slice_set s.slots line (Some (slot_of g s q line))) z ≡ None) e none) ∙ slot_here s.slots line (slot_of g s q line) below)) in
        (apart, record { line = w.line; free = subst (λ xs. slice_index xs i ≡ 0) st.left w.free; comes = w.comes; waits = sym (slot_there s.slots line (slot_of g s q line) i apart) ∙ none })

    slot_case : (i : ℕ) (y : Slot) → HasSlot new.slots i y → ((i ≡ line) × (y ≡ slot_of g s q line)) ⊎ HasSlot s.slots i y
    slot_case i y h =
        let h' : HasSlot (slice_set s.slots line (Some (slot_of g s q line))) i y = subst (λ xs. HasSlot xs i y) st.slots h in
        elim (cases_eq i line) [
          | inl at ↦ inl (at, same_Some y (slot_of g s q line) (sym (subst (λ z. HasSlot (slice_set s.slots line (Some (slot_of g s q line))) z y) at h') ∙ slot_here s.slots line (slot_of g s q line) below))
          | inr apart ↦ inr (sym (slot_there s.slots line (slot_of g s q line) i apart) ∙ h')
        ]

    line_lowest : line ≤ lowest.line
    line_lowest = st.lowest lowest.line lowest.has

    -- a line that stands in a queue stood there before, and is not the one that starts
    listed_before : (r i : ℕ) → has_line (queue_at new.queues r).lines i ≡ true → (i ≡ line → ⊥) × (has_line (queue_at s.queues r).lines i ≡ true)
    listed_before r i h = was_listed g graph accepted p s simulation.consistent place q line (slot_of g s q line) refl st.listed idle.known idle.idle st.queues.0 new.queues st.queue_count st.queues.1 st.queues.2 r i h

    lower : (k : ℕ) (y : Slot) → HasSlot new.slots k y → y.start ≡ new.time → (r i : ℕ) → has_line (queue_at new.queues r).lines i ≡ true → IsUnheld (queue_at new.queues r) → k < i
    lower k y h at r i listed free_queue =
        let old = listed_before r i listed in
        elim (slot_case k y h) [
          | inl here ↦ (
              let a : line ≤ lowest.line = line_lowest in
              let b : lowest.line ≤ i = lowest.lowest r i (unheld_before r free_queue) old.1 in
              let c : k ≡ line = here.0 in
              not_same k i (omega arith) (λ e. old.0 (sym e ∙ c)))
          | inr there ↦ simulation.lowest_first.lower k y there (at ∙ st.time) r i old.1 (unheld_before r free_queue)
        ]
      where
        not_same : (k i : ℕ) → k ≤ i → (k ≡ i → ⊥) → k < i
        not_same k i le ne = elim (cases_lt k i) [ inl l ↦ l | inr ge ↦ absurd (ne (omega arith)) ]

    more_slots : (i : ℕ) (y : Slot) → HasSlot s.slots i y → HasSlot new.slots i y
    more_slots i y h = subst (λ xs. HasSlot xs i y) (sym st.slots) (more g s.by_columns p s.slots s.time simulation.up_to_now line (slot_of g s q line) no_slot below refl refl i y h)

    none_older : (i : ℕ) → NoneOlder g new i → NoneOlder g s i
    none_older i older = record {
      released = λ m r y h before. (
          let rel : ReleasedBy g new.slots new.time m = older.released m r y (more_slots m y h) (subst (λ u. y.start < u) (sym st.time) before) in
          let fin : FinishedBy (slice_set s.slots line (Some (slot_of g s q line))) s.time rel.0 = subst (λ u. FinishedBy (slice_set s.slots line (Some (slot_of g s q line))) u rel.0) st.time (subst (λ xs. FinishedBy xs new.time rel.0) st.slots rel.2) in
          (rel.0, rel.1, finished_fewer g s.by_columns p s.slots s.time simulation.up_to_now line (slot_of g s q line) no_slot below refl refl s.time rel.0 (omega arith) fin));
      free = λ on m c y h before. subst (λ u. y.finish ≤ u) st.time (older.free (st.by_columns ∙ on) m c y (more_slots m y h) (subst (λ u. y.start < u) (sym st.time) before));
    }

    -- where a line that starts now keeps line i from starting, a lower one that starts now does
    hinders : (k : ℕ) (y : Slot) → HasSlot new.slots k y → y.start ≡ new.time → (i : ℕ) → IsQueued g new i → Hinder g new.by_columns i k → NoneOlder g new i → StartsNowBelow g new i
    hinders k y h at i w r' older =
        let r : Hinder g s.by_columns i k = subst (λ b. Hinder g b i k) st.by_columns r' in
        let old = was_waiting i w in
        elim (slot_case k y h) [
          | inl here ↦ (
              let at_queue = simulation.consistent.all_queued i old.1 in
              elim (some_holder (queue_at s.queues at_queue.0).holders) [
                | inl held ↦ still_below i (held_below i held.0 at_queue.0 at_queue.1 held.1 (none_older i older))
                | inr free_queue ↦ (
                    let a : line ≤ lowest.line = line_lowest in
                    let b : lowest.line ≤ i = lowest.lowest at_queue.0 i free_queue at_queue.1 in
                    (line, slot_of g s q line, subst (λ z. Hinder g new.by_columns i z) here.0 r', subst (λ xs. HasSlot xs line (slot_of g s q line)) (sym st.slots) (slot_here s.slots line (slot_of g s q line) below), sym st.time, not_same line i (omega arith) (λ e. old.0 (sym e))))
              ])
          | inr there ↦ still_below i (simulation.lowest_first.hinders k y there (at ∙ st.time) i old.1 r (none_older i older))
        ]
      where
        not_same : (k i : ℕ) → k ≤ i → (k ≡ i → ⊥) → k < i
        not_same k i le ne = elim (cases_lt k i) [ inl l ↦ l | inr ge ↦ absurd (ne (omega arith)) ]

        still_below : (i : ℕ) → StartsNowBelow g s i → StartsNowBelow g new i
        still_below i b = (b.0, b.1, subst (λ z. Hinder g z i b.0) (sym st.by_columns) b.2, more_slots b.0 b.1 b.3, b.4 ∙ sym st.time, b.5)

    started : IsSimulation g p new
    started = record {
      consistent = start_consistent g graph accepted p s new place q line simulation.consistent idle.known idle.idle st;
      up_to_now = subst (λ b. IsGreedyUpTo g b p new.slots new.time) (sym st.by_columns) (subst (λ u. IsGreedyUpTo g s.by_columns p new.slots u) (sym st.time) (subst (λ xs. IsGreedyUpTo g s.by_columns p xs s.time) (sym st.slots) up_to_now_next));
      done_lines = record {
        finished = λ i d. (
            let f = simulation.done_lines.finished i (subst (λ xs. is_done xs i ≡ true) st.done d) in
            let h : HasSlot (slice_set s.slots line (Some (slot_of g s q line))) i f.0 = more g s.by_columns p s.slots s.time simulation.up_to_now line (slot_of g s q line) no_slot below refl refl i f.0 f.1 in
            (f.0, subst (λ xs. HasSlot xs i f.0) (sym st.slots) h, subst (λ u. f.0.finish ≤ u) (sym st.time) f.2));
        marked = λ i f. (
            let f' : FinishedBy (slice_set s.slots line (Some (slot_of g s q line))) s.time i = (f.0, subst (λ xs. HasSlot xs i f.0) st.slots f.1, subst (λ u. f.0.finish ≤ u) st.time f.2) in
            let o = finished_fewer g s.by_columns p s.slots s.time simulation.up_to_now line (slot_of g s q line) no_slot below refl refl s.time i (omega arith) f' in
            subst (λ xs. is_done xs i ≡ true) (sym st.done) (simulation.done_lines.marked i o));
      };
      lowest_first = record { lower = lower; hinders = hinders };
      small = record {
        time = subst (λ xs. new.time + 68719476736 * undone xs (length g.lines) ≤ 68719476736 * length g.lines) (sym st.done) (subst (λ u. u + 68719476736 * undone s.done (length g.lines) ≤ 68719476736 * length g.lines) (sym st.time) simulation.small.time);
        finishes = λ k y h unf. subst (λ xs. y.finish + 68719476736 * undone xs (length g.lines) ≤ 68719476736 * length g.lines + 68719476736) (sym st.done)
            (elim (slot_case k y h) [
              | inl here ↦ (
                  let a : y.finish ≡ s.time + cost g line = ap (λ (z : Slot). z.finish) here.1 in
                  let b : cost g line ≤ 68719476736 = st.few in
                  let c : s.time + 68719476736 * undone s.done (length g.lines) ≤ 68719476736 * length g.lines = simulation.small.time in
                  omega arith)
              | inr there ↦ simulation.small.finishes k y there (subst (λ xs. is_done xs k ≡ false) st.done unf)
            ]);
      };
    }

    -- and fewer lines stand in queues that are not held
    fewer_open : count_below (is_open new.queues) (length g.lines) + 1 ≤ count_below (is_open s.queues) (length g.lines)
    fewer_open = fewer_below (is_open new.queues) (is_open s.queues) open_before (length g.lines) line waiting.line
        (false_from_ne_true (is_open new.queues line) (λ h. (let w = at_open new.queues line h in (listed_before w.0 line w.1).0 refl)))
        (open_at s.queues place line st.listed lowest.unheld)
      where
        open_before : (i : ℕ) → is_open new.queues i ≡ true → is_open s.queues i ≡ true
        open_before i h = let w = at_open new.queues i h in open_at s.queues w.0 i (listed_before w.0 i w.1).1 (unheld_before w.0 w.2)

  -- a line goes to another queue
  module _ (new : State) (place other line : ℕ) (unheld : IsUnheld (queue_at s.queues place)) (m : Moves g s new place other line) where
    listed_still : (r i : ℕ) → has_line (queue_at new.queues r).lines i ≡ true → ((r ≡ other) × (i ≡ line)) ⊎ ((i ≡ line → ⊥) × (has_line (queue_at s.queues r).lines i ≡ true))
    listed_still r i h = moved_listed g p s simulation.consistent place other line m.listed m.joined m.queues.0 new.queues m.queue_count m.queues.1 m.queues.2 r i h

    holders_still : (r : ℕ) → (queue_at new.queues r).holders ≡ (queue_at s.queues r).holders
    holders_still r = moved_holders g p s simulation.consistent place other line m.listed m.joined m.queues.0 new.queues m.queue_count m.queues.1 m.queues.2 r

    unheld_still : (r : ℕ) → IsUnheld (queue_at new.queues r) → IsUnheld (queue_at s.queues r)
    unheld_still r none k = ap (λ hs. has_line hs k) (sym (holders_still r)) ∙ none k

    other_held : IsUnheld (queue_at new.queues other) → ⊥
    other_held none = true≢false (sym (unheld_is (queue_at s.queues other) (unheld_still other none)) ∙ m.held)

    moved_state : IsSimulation g p (record s { queues = new.queues })
    moved_state = record {
      consistent = move_consistent g p s new place other line simulation.consistent m;
      up_to_now = simulation.up_to_now;
      done_lines = record { finished = simulation.done_lines.finished; marked = simulation.done_lines.marked };
      lowest_first = record {
        lower = λ k y h at r i listed none. elim (listed_still r i listed) [
          | inl moved ↦ absurd (other_held (subst (λ z. IsUnheld (queue_at new.queues z)) moved.0 none))
          | inr old ↦ simulation.lowest_first.lower k y h at r i old.1 (unheld_still r none)
        ];
        hinders = λ k y h at i w r older. simulation.lowest_first.hinders k y h at i (record { line = w.line; free = w.free; comes = w.comes; waits = w.waits }) r (record { released = older.released; free = older.free });
      };
      small = record { time = simulation.small.time; finishes = simulation.small.finishes };
    }

    moved : IsSimulation g p new
    moved = subst (IsSimulation g p) (state_moved g s new place other line m) moved_state

    fewer_open_moved : count_below (is_open new.queues) (length g.lines) + 1 ≤ count_below (is_open s.queues) (length g.lines)
    fewer_open_moved = fewer_below (is_open new.queues) (is_open s.queues) open_still (length g.lines) line (simulation.consistent.queued place line m.listed).0.line
        (false_from_ne_true (is_open new.queues line) (λ h. (
        let w = at_open new.queues line h in
        elim (listed_still w.0 line w.1) [ inl at ↦ other_held (subst (λ z. IsUnheld (queue_at new.queues z)) at.0 w.2) | inr old ↦ old.0 refl ])))
        (open_at s.queues place line m.listed unheld)
      where
        open_still : (i : ℕ) → is_open new.queues i ≡ true → is_open s.queues i ≡ true
        open_still i h =
            let w = at_open new.queues i h in
            elim (listed_still w.0 i w.1) [
              | inl at ↦ absurd (other_held (subst (λ z. IsUnheld (queue_at new.queues z)) at.0 w.2))
              | inr old ↦ open_at s.queues w.0 i old.1 (unheld_still w.0 w.2)
            ]

  -- no line may start any more
  blocked : (i k q : ℕ) → MayStartNow g s.by_columns p s.slots s.time i → has_line (queue_at s.queues q).lines i ≡ true → has_line (queue_at s.queues q).holders k ≡ true → ⊥
  blocked i k q may listed held =
      let b = held_below i k q listed held (record { released = may.ready.unheld; free = may.free }) in
      elim b.2 [
        | inl excludes ↦ may.may.first b.0 excludes b.5 b.1 b.3 b.4
        | inr collide ↦ may.first collide.0 b.0 collide.1 b.5 b.1 b.3 b.4
      ]

  waits_when_ready : (i : ℕ) → IsReadyAt g s.slots s.time i → slot_at s.slots i ≡ None → IsQueued g s i
  waits_when_ready i ready none = record {
    line = ready.planned.line;
    free = sources_none g p s simulation.consistent i (λ e c to. simulation.done_lines.marked e.from (ready.sources e c to));
    comes = false_from_ne_true (never_comes g i) (λ h. ready.planned.comes (inl h));
    waits = none;
  }

  greedy_by : AllBusy s.running ⊎ AllHeldOrEmpty s.queues → (i : ℕ) → MayStartNow g s.by_columns p s.slots s.time i → (o : Option Slot) → slot_at s.slots i ≡ o → StartsAt s.slots s.time i
  greedy_by rest i may (Some y) h = (y, h, (let a : s.time ≤ y.start = may.ready.waits y h in let b : y.start ≤ s.time = simulation.up_to_now.early i y h in omega arith))
  greedy_by rest i may None none =
      let w = simulation.consistent.all_queued i (waits_when_ready i may.ready none) in
      let unheld : IsUnheld (queue_at s.queues w.0) = (λ k. false_from_ne_true (has_line (queue_at s.queues w.0).holders k) (λ h. blocked i k w.0 may w.1 h)) in
      elim rest [
        | inl busy ↦ (
            let known : may.may.processor < p = may.may.known in
            let count : length s.running ≡ p = simulation.consistent.processor_count in
            let b = busy may.may.processor (omega arith) in
            let k = simulation.consistent.runs may.may.processor b.0 b.1 in
            let late : s.time < k.1.0.finish = undone_later b.0 k.1.0 k.1.1 k.0 in
            elim (cases_lt k.1.0.start s.time) [
              | inl before ↦ (let d : k.1.0.finish ≤ s.time = may.may.free.before b.0 k.1.0 k.1.1 k.1.2 before in absurd (omega arith))
              | inr since ↦ (
                  let early : k.1.0.start ≤ s.time = simulation.up_to_now.early b.0 k.1.0 k.1.1 in
                  let now : k.1.0.start ≡ s.time = omega arith in
                  let a : i ≤ b.0 = may.may.free.beside b.0 k.1.0 k.1.1 k.1.2 now in
                  let c : b.0 < i = simulation.lowest_first.lower b.0 k.1.0 k.1.1 now w.0 i w.1 unheld in
                  absurd (omega arith))
            ])
        | inr all_held_or_empty ↦ absurd (true≢false (sym w.1 ∙ all_held_or_empty w.0 i unheld))
      ]

  started_all : AllBusy s.running ⊎ AllHeldOrEmpty s.queues → HasStartedAll g p s
  started_all rest = record { simulation = simulation; greedy = λ moment i may. greedy_by rest i may (slot_at s.slots i) refl; none_starts = rest }

-- the same for any lines and processors
pub goes_on : (g : GraphValue) → IsGraph g → Accepted g → (p : ℕ) (s new : State) (place q line : ℕ) → IsSimulation g p s → IsLowestPlace s.queues place → IsFirstIdle s.running q → GoesOn g s new place q line → IsSimulation g p new
goes_on g graph accepted p s new place q line simulation lowest idle (inl st) = started g graph accepted p s simulation new place q line lowest idle st
goes_on g graph accepted p s new place q line simulation lowest idle (inr m) = moved g graph accepted p s simulation new place m.0 line lowest.unheld m.1

pub fewer_are_open : (g : GraphValue) → IsGraph g → Accepted g → (p : ℕ) (s new : State) (place q line : ℕ) → IsSimulation g p s → IsLowestPlace s.queues place → IsFirstIdle s.running q → GoesOn g s new place q line →
    count_below (is_open new.queues) (length g.lines) + 1 ≤ count_below (is_open s.queues) (length g.lines)
fewer_are_open g graph accepted p s new place q line simulation lowest idle (inl st) = fewer_open g graph accepted p s simulation new place q line lowest idle st
fewer_are_open g graph accepted p s new place q line simulation lowest idle (inr m) = fewer_open_moved g graph accepted p s simulation new place m.0 line lowest.unheld m.1

-- what a step leaves as it is
pub same_done : (g : GraphValue) (s new : State) (place q line : ℕ) → GoesOn g s new place q line → new.done ≡ s.done
same_done g s new place q line (inl st) = st.done
same_done g s new place q line (inr m) = m.1.done

pub same_by_columns : (g : GraphValue) (s new : State) (place q line : ℕ) → GoesOn g s new place q line → new.by_columns ≡ s.by_columns
same_by_columns g s new place q line (inl st) = st.by_columns
same_by_columns g s new place q line (inr m) = m.1.by_columns

pub same_count : (g : GraphValue) (s new : State) (place q line : ℕ) → GoesOn g s new place q line → length new.running ≡ length s.running
same_count g s new place q line (inl st) = ap length st.running ∙ simp length-set
same_count g s new place q line (inr m) = ap length m.1.running

pub nothing_starts : (g : GraphValue) → IsGraph g → Accepted g → (p : ℕ) (s : State) → IsSimulation g p s → AllBusy s.running ⊎ AllHeldOrEmpty s.queues → HasStartedAll g p s
nothing_starts g graph accepted p s simulation rest = started_all g graph accepted p s simulation rest
