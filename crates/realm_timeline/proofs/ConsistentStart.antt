-- The tables of a simulation stay consistent when a line starts.
use Rattle.std.proofs.Common.{◌≡◌, ℕ, ◌+◌, ◌<◌, true, false, not, inl, inr, List, [], ◌∷◌, ◌++◌, length, take, refl, sym, ◌∙◌, ap, subst, length-append, arith}
use Rattle.std.specs.Prelude.{◌==◌, ◌↔◌, ◌&&◌, ◌||◌, Contains, Option, Some, None, slice_index, slice_set}
use Rattle.std.proofs.lemmas.Bool.{true≢false, cases_lt, cases_eq, eq-eqb, eqb-true, ne_eqb, or_cases, and_parts, and_from, or_left, or_right, not_from_false, not-true, false_from_ne_true}
use Rattle.std.proofs.lemmas.List.{get_or_push, get_or_append_left, get_or-set_same, get_or-set_other, length-set, take-append-le, take_all}
use Rattle.std.proofs.lemmas.List.Elements.{Contains-push, Contains-push_cases, Contains-append_left, Contains-get_or}
use Rattle.std.proofs.lemmas.Option.{none-some, same_Some}
use Rattle.graph_terms.specs.Graph.{GraphValue}
use Rattle.graph_meaning.specs.Path.{HasPath}
use Rattle.graph_meaning.specs.Rules.{Accepted}
use Rattle.graph_terms.specs.Reservations.{Acquires, Releases}
use Rattle.graph_terms.specs.Fits.{IsGraph}
use Rattle.graph_terms.proofs.Public.{release_names, one_release}
use Rattle.realm_timeline.specs.declared.slot.Slot.{Slot}
use Rattle.realm_timeline.specs.Plan.{slot_at, HasSlot}
use Rattle.realm_timeline.specs.Queue.{QueueValue, queue_at, has_line, ChangesQueue, WithoutLine}
use Rattle.realm_timeline.specs.State.{State, bars, uses_bar, held_by, joins, is_done, runs_at, IsQueued, Holds, Runs, IsHolder, IsConsistent}
use Rattle.realm_timeline.specs.Steps.{Adds, Starts, slot_of}
use Rattle.realm_timeline.proofs.ConsistentCounts.{same_state, source_done, path_started}

-- one more slot
pub slot_here : (slots : List (Option Slot)) (line : ℕ) (x : Slot) → line < length slots → slot_at (slice_set slots line (Some x)) line ≡ Some x
slot_here slots line x h = get_or-set_same slots line (Some x) None h

pub slot_there : (slots : List (Option Slot)) (line : ℕ) (x : Slot) (i : ℕ) → (i ≡ line → ⊥) → slot_at (slice_set slots line (Some x)) i ≡ slot_at slots i
slot_there slots line x i apart = get_or-set_other slots line i (Some x) None apart

module _ (g : GraphValue) (graph : IsGraph g) (accepted : Accepted g) (p : ℕ) (s : State) (k : IsConsistent g p s []) (place q line : ℕ) (x : Slot) (on : x.processor ≡ q)
    (listed : has_line (queue_at s.queues place).lines line ≡ true) (q_below : q < length s.running) (idle : runs_at s.running q ≡ None)
    (between queues : List QueueValue) (count : length queues ≡ length s.queues) (changes : ChangesQueue s.queues between place (WithoutLine line)) (holds : Adds (held_by g s.by_columns line) between queues line) where
  after : State
  after = record s { slots = slice_set s.slots line (Some x); order = s.order ++ line ∷ []; queues = queues; running = slice_set s.running q (Some line) }

  waiting : IsQueued g s line
  waiting = (k.queued place line listed).0

  below : line < length s.slots
  below = let a : line < length g.lines = waiting.line in let b : length s.slots ≡ length g.lines = k.slot_count in omega arith

  no_slot : (y : Slot) → HasSlot s.slots line y → ⊥
  no_slot y h = none-some y (sym waiting.waits ∙ h)

  apart_of : (i : ℕ) (y : Slot) → HasSlot s.slots i y → i ≡ line → ⊥
  apart_of i y h e = no_slot y (subst (λ z. HasSlot s.slots z y) e h)

  more : (i : ℕ) (y : Slot) → HasSlot s.slots i y → HasSlot (slice_set s.slots line (Some x)) i y
  more i y h = slot_there s.slots line x i (apart_of i y h) ∙ h

  here : HasSlot (slice_set s.slots line (Some x)) line x
  here = slot_here s.slots line x below

  fewer : (i : ℕ) (y : Slot) → (i ≡ line → ⊥) → HasSlot (slice_set s.slots line (Some x)) i y → HasSlot s.slots i y
  fewer i y apart h = sym (slot_there s.slots line x i apart) ∙ h

  undone : is_done s.done line ≡ false
  undone = false_from_ne_true (is_done s.done line) (λ h. (let r = k.finished_started line h in no_slot r.0 r.1))

  -- no release of the line is done
  unreleased : (r : ℕ) → Releases g r line → is_done s.done r ≡ false
  unreleased r rel = false_from_ne_true (is_done s.done r) (λ h. by r rel h)
    where
      by : (r : ℕ) → Releases g r line → is_done s.done r ≡ true → ⊥
      by r rel h = none_of (place_lock r rel) r rel h
        where
          place_lock : (r : ℕ) → Releases g r line → (l : ℕ) × Acquires g line l
          place_lock r rel = release_names g graph r line rel

          none_of : (l : ℕ) × Acquires g line l → (r : ℕ) → Releases g r line → is_done s.done r ≡ true → ⊥
          none_of l r rel h =
              let a = accepted.released line l.0 l.1 in
              let same : a.0 ≡ r = one_release g graph line a.0 r a.1 rel in
              let f = k.finished_started r h in
              let y = path_started g p s k line r (subst (HasPath g line) same a.2) f.0 f.1 in
              no_slot y.0 y.1

  was_waiting : (i : ℕ) → IsQueued g after i → (i ≡ line → ⊥) × IsQueued g s i
  unfolding after
  was_waiting i w =
      let apart : i ≡ line → ⊥ = (λ e. none-some x (sym (subst (λ z. slot_at (slice_set s.slots line (Some x)) z ≡ None) e w.waits) ∙ here)) in
      (apart, record { line = w.line; free = w.free; comes = w.comes; waits = sym (slot_there s.slots line x i apart) ∙ w.waits })

  still_waiting : (i : ℕ) → (i ≡ line → ⊥) → IsQueued g s i → IsQueued g after i
  unfolding after
  still_waiting i apart w = record { line = w.line; free = w.free; comes = w.comes; waits = slot_there s.slots line x i apart ∙ w.waits }

  pub was_listed : (r i : ℕ) → has_line (queue_at queues r).lines i ≡ true → (i ≡ line → ⊥) × (has_line (queue_at s.queues r).lines i ≡ true)
  was_listed r i h' =
      let h : has_line (queue_at between r).lines i ≡ true = subst (λ z. has_line z i ≡ true) (holds.lines r) h' in
      elim (cases_eq r place) [
        | inl at ↦ (
            let parts = and_parts (not (i == line)) (has_line (queue_at s.queues place).lines i) (sym (changes.here.lines i) ∙ subst (λ z. has_line (queue_at between z).lines i ≡ true) at h) in
            ((λ e. true≢false (sym (eq-eqb i line e) ∙ not-true (i == line) parts.0)), subst (λ z. has_line (queue_at s.queues z).lines i ≡ true) (sym at) parts.1))
        | inr apart ↦ (
            let old : has_line (queue_at s.queues r).lines i ≡ true = subst (λ z. has_line z.lines i ≡ true) (changes.others r apart) h in
            ((λ e. apart (k.one_place r place line (subst (λ z. has_line (queue_at s.queues r).lines z ≡ true) e old) listed)), old))
      ]

  queued : (r i : ℕ) → has_line (queue_at queues r).lines i ≡ true → IsQueued g after i × (joins g s.by_columns i r ≡ true)
  queued r i h =
      let old = was_listed r i h in
      let w = k.queued r i old.1 in
      (still_waiting i old.0 w.0, w.1)

  all_queued : (i : ℕ) → IsQueued g after i → (r : ℕ) × (has_line (queue_at queues r).lines i ≡ true)
  all_queued i w' =
      let w = was_waiting i w' in
      let old = k.all_queued i w.1 in (
        old.0,
        subst (λ z. has_line z i ≡ true) (sym (holds.lines old.0)) (elim (cases_eq old.0 place) [
          | inl at ↦ subst (λ z. has_line (queue_at between z).lines i ≡ true) (sym at)
              (changes.here.lines i ∙ and_from (not (i == line)) (has_line (queue_at s.queues place).lines i) (not_from_false (i == line) (ne_eqb i line w.0)) (subst (λ z. has_line (queue_at s.queues z).lines i ≡ true) at old.1))
          | inr apart ↦ subst (λ z. has_line z.lines i ≡ true) (sym (changes.others old.0 apart)) old.1
        ]),
      )

  same_holders : (q : ℕ) → (queue_at between q).holders ≡ (queue_at s.queues q).holders
  same_holders r = elim (cases_eq r place) [
    | inl at ↦ subst (λ z. (queue_at between z).holders ≡ (queue_at s.queues z).holders) (sym at) changes.here.holders
    | inr apart ↦ ap (λ z. z.holders) (changes.others r apart)
  ]

  was_holding : (m : ℕ) → (m ≡ line → ⊥) → Holds g (slice_set s.slots line (Some x)) s.done m → Holds g s.slots s.done m
  was_holding m apart h = record { slot = h.slot; has = fewer m h.slot apart h.has; unreleased = h.unreleased }

  now_holding : (m : ℕ) → Holds g s.slots s.done m → Holds g (slice_set s.slots line (Some x)) s.done m
  now_holding m h = record { slot = h.slot; has = more m h.slot h.has; unreleased = h.unreleased }

  line_holds : Holds g (slice_set s.slots line (Some x)) s.done line
  line_holds = record { slot = x; has = here; unreleased = unreleased }

  line_runs : Runs (slice_set s.slots line (Some x)) s.done line
  line_runs = record { slot = x; has = here; undone = undone }

  -- the holders are those from before, and the line
  pub holders_now : (r m : ℕ) → has_line (queue_at queues r).holders m ≡ (((m == line) && held_by g s.by_columns line r) || has_line (queue_at s.queues r).holders m)
  holders_now r m = holds.holders r m ∙ ap (λ hs. ((m == line) && held_by g s.by_columns line r) || has_line hs m) (same_holders r)

  line_held : (r : ℕ) → held_by g s.by_columns line r ≡ true → IsHolder g after line r
  unfolding after
  line_held r h = elim (or_cases (bars g line r) (uses_bar g s.by_columns line r) h) [ inl by_section ↦ inl (by_section, line_holds) | inr by_use ↦ inr (by_use, line_runs) ]

  held_more : (r m : ℕ) → IsHolder g s m r → IsHolder g after m r
  unfolding after
  held_more r m (inl by_section) = inl (by_section.0, now_holding m by_section.1)
  held_more r m (inr by_use) = inr (by_use.0, record { slot = by_use.1.slot; has = more m by_use.1.slot by_use.1.has; undone = by_use.1.undone })

  held_fewer : (r m : ℕ) → (m ≡ line → ⊥) → IsHolder g after m r → IsHolder g s m r
  unfolding after
  held_fewer r m apart (inl by_section) = inl (by_section.0, was_holding m apart by_section.1)
  held_fewer r m apart (inr by_use) = inr (by_use.0, record { slot = by_use.1.slot; has = fewer m by_use.1.slot apart by_use.1.has; undone = by_use.1.undone })

  holds_some : (r m : ℕ) → IsHolder g after m r → held_by g s.by_columns m r ≡ true
  unfolding after
  holds_some r m (inl by_section) = or_left (bars g m r) (uses_bar g s.by_columns m r) by_section.0
  holds_some r m (inr by_use) = or_right (bars g m r) (uses_bar g s.by_columns m r) by_use.0

  holders : (r m : ℕ) → (has_line (queue_at queues r).holders m ≡ true) ↔ IsHolder g after m r
  holders r m = (
    (λ h. elim (or_cases ((m == line) && held_by g s.by_columns line r) (has_line (queue_at s.queues r).holders m) (sym (holders_now r m) ∙ h)) [
      | inl new ↦ (
          let parts = and_parts (m == line) (held_by g s.by_columns line r) new in
          subst (λ z. IsHolder g after z r) (sym (eqb-true m line parts.0)) (line_held r parts.1))
      | inr old ↦ held_more r m ((k.holders r m).0 old)
    ]),
    (λ b. holders_now r m ∙ elim (cases_eq m line) [
      | inl at ↦ or_left ((m == line) && held_by g s.by_columns line r) (has_line (queue_at s.queues r).holders m) (and_from (m == line) (held_by g s.by_columns line r) (eq-eqb m line at) (subst (λ z. held_by g s.by_columns z r ≡ true) at (holds_some r m b)))
      | inr apart ↦ or_right ((m == line) && held_by g s.by_columns line r) (has_line (queue_at s.queues r).holders m) ((k.holders r m).1 (held_fewer r m apart b))
    ]),
  )

  unlisted : Contains s.order line → ⊥
  unlisted c = let r = (k.ordered line).0 c in no_slot r.0 r.1

  consistent_start : IsConsistent g p after []
  unfolding after
  consistent_start = record {
    slot_count = simp length-set k.slot_count;
    done_count = k.done_count;
    left_count = k.left_count;
    queue_count = count ∙ k.queue_count;
    processor_count = simp length-set k.processor_count;
    left = k.left;
    started_free = λ i y h. elim (cases_eq i line) [
      | inl at ↦ subst (λ z. slice_index s.left z ≡ 0) (sym at) waiting.free
      | inr apart ↦ k.started_free i y (fewer i y apart h)
    ];
    finished_started = λ i h. (let r = k.finished_started i h in (r.0, more i r.0 r.1));
    queued = queued;
    one_place = λ r t i h j. k.one_place r t i (was_listed r i h).1 (was_listed t i j).1;
    all_queued = all_queued;
    holders = holders;
    runs = λ r m h. elim (cases_eq r q) [
      | inl at ↦ (
          let is : line ≡ m = same_Some line m (sym (get_or-set_same s.running q (Some line) None q_below) ∙ subst (λ z. runs_at (slice_set s.running q (Some line)) z ≡ Some m) at h) in
          (subst (λ z. is_done s.done z ≡ false) is undone, (x, subst (λ z. HasSlot (slice_set s.slots line (Some x)) z x) is here, on ∙ sym at)))
      | inr apart ↦ (
          let old = k.runs r m (sym (get_or-set_other s.running q r (Some line) None apart) ∙ h) in
          (old.0, (old.1.0, more m old.1.0 old.1.1, old.1.2)))
    ];
    running = λ m y h unf. elim (cases_eq m line) [
      | inl at ↦ (
          let same : x ≡ y = same_Some x y (sym here ∙ subst (λ z. HasSlot (slice_set s.slots line (Some x)) z y) at h) in
          subst (λ z. runs_at (slice_set s.running q (Some line)) z ≡ Some m) (sym on ∙ ap (λ (z : Slot). z.processor) same) (get_or-set_same s.running q (Some line) None q_below ∙ ap Some (sym at)))
      | inr apart ↦ (
          let old : runs_at s.running y.processor ≡ Some m = k.running m y (fewer m y apart h) unf in
          get_or-set_other s.running q y.processor (Some line) None (λ at. none-some m (sym idle ∙ subst (λ z. runs_at s.running z ≡ Some m) at old)) ∙ old)
    ];
    ordered = λ i. (
      (λ c. elim (Contains-push_cases s.order line i c) [
        | inl old ↦ (let r = (k.ordered i).0 old in (r.0, more i r.0 r.1))
        | inr new ↦ (x, subst (λ z. HasSlot (slice_set s.slots line (Some x)) z x) new here)
      ]),
      (λ h. elim (cases_eq i line) [
        | inl at ↦ subst (λ z. Contains (s.order ++ line ∷ []) z) (sym at) (Contains-push s.order line)
        | inr apart ↦ Contains-append_left s.order (line ∷ []) i ((k.ordered i).1 (h.0, fewer i h.0 apart h.1))
      ]),
    );
    once = λ a b lower upper same. (
        let longer : length (s.order ++ line ∷ []) ≡ length s.order + 1 = length-append s.order (line ∷ []) in
        elim (cases_lt b (length s.order)) [
          | inl inside ↦ k.once a b lower inside (sym (get_or_append_left s.order (line ∷ []) 0 a (omega arith)) ∙ (same ∙ get_or_append_left s.order (line ∷ []) 0 b inside))
          | inr end ↦ unlisted (subst (λ z. Contains s.order z) (sym (get_or_append_left s.order (line ∷ []) 0 a (omega arith)) ∙ (same ∙ get_or_push s.order line 0 b (omega arith))) (Contains-get_or s.order a 0 (omega arith)))
        ]);
    before = λ a inside e c to. (
        let longer : length (s.order ++ line ∷ []) ≡ length s.order + 1 = length-append s.order (line ∷ []) in
        elim (cases_lt a (length s.order)) [
          | inl old ↦ subst (λ xs. Contains xs e.from) (sym (take-append-le a s.order (line ∷ []) (omega arith))) (k.before a old e c (to ∙ get_or_append_left s.order (line ∷ []) 0 a old))
          | inr end ↦ (
              let at : a ≡ length s.order = omega arith in
              let is : e.to ≡ line = to ∙ get_or_push s.order line 0 a (sym at) in
              let f = k.finished_started e.from (source_done g p s k line waiting.free e c is) in
              let all : take a (s.order ++ line ∷ []) ≡ s.order = take-append-le a s.order (line ∷ []) (omega arith) ∙ take_all a s.order (omega arith) in
              subst (λ xs. Contains xs e.from) (sym all) ((k.ordered e.from).1 (f.0, f.1)))
        ]);
  }

pub start_consistent : (g : GraphValue) → IsGraph g → Accepted g → (p : ℕ) (s new : State) (place q line : ℕ) → IsConsistent g p s [] → q < length s.running → runs_at s.running q ≡ None →
    Starts g s new place q line → IsConsistent g p new []
unfolding after
start_consistent g graph accepted p s new place q line k q_below idle st =
    subst (λ x. IsConsistent g p x [])
    (same_state (record s { slots = slice_set s.slots line (Some (slot_of g s q line)); order = s.order ++ line ∷ []; queues = new.queues; running = slice_set s.running q (Some line) }) new
    (sym st.by_columns) (sym st.time) (sym st.slots) (sym st.order) (sym st.done) (sym st.left) refl (sym st.running))
    (consistent_start g graph accepted p s k place q line (slot_of g s q line) refl st.listed q_below idle st.queues.0 new.queues st.queue_count st.queues.1 st.queues.2)
