-- The tables of a simulation stay consistent when a line waits for one edge fewer.
use Rattle.std.proofs.Common.{◌≡◌, ℕ, ◌+◌, ◌-◌, ◌<◌, Bool, true, false, cond, not, ◌⊎◌, inl, inr, List, [], ◌∷◌, length, refl, sym, ◌∙◌, ap, subst, arith}
use Rattle.std.specs.Prelude.{◌↔◌, ◌==◌, ◌&&◌, Contains, Option, Some, None, slice_index, slice_set, count_by}
use Rattle.std.specs.List.{slice_index_or}
use Rattle.std.proofs.lemmas.Bool.{true≢false, cases_lt, cases_eq, eq-eqb, eqb-true, ne_eqb, and_parts, and_from, or_cases, or_left, or_right, not_from_false, not-true, false_from_ne_true}
use Rattle.std.proofs.lemmas.List.{get_or_past, get_or-set_same, get_or-set_other, length-set}
use Rattle.graph_terms.specs.declared.verb.Edge.{Edge}
use Rattle.graph_terms.specs.Graph.{GraphValue, never_comes}
use Rattle.graph_terms.specs.Edges.{edges}
use Rattle.graph_meaning.specs.Path.{HasPath}
use Rattle.graph_meaning.proofs.Public.{back_path}
use Rattle.realm_timeline.specs.declared.slot.Slot.{Slot}
use Rattle.realm_timeline.specs.Plan.{slot_at, HasSlot}
use Rattle.realm_timeline.specs.Queue.{QueueValue, queue_at, has_line}
use Rattle.realm_timeline.specs.State.{State, queue_of, joins, is_done, waits_for, IsQueued, IsHolder, IsConsistent}
use Rattle.realm_timeline.specs.Steps.{IsOffered, CountsDown}
use Rattle.realm_timeline.proofs.EdgeCounts.{bit, count_cons, count_one, count_zero, none_counted, counted_none}
use Rattle.realm_timeline.proofs.Hindering.{joins_own}

-- states with the same parts are one
pub same_state : (a b : State) → a.by_columns ≡ b.by_columns → a.time ≡ b.time → a.slots ≡ b.slots → a.order ≡ b.order → a.done ≡ b.done → a.left ≡ b.left → a.queues ≡ b.queues → a.running ≡ b.running → a ≡ b
same_state a b c t s o d l q r =
    ap (λ x. record a { by_columns = x }) c
    ∙ (ap (λ x. record b { time = x; slots = a.slots; order = a.order; done = a.done; left = a.left; queues = a.queues; running = a.running }) t
    ∙ (ap (λ x. record b { slots = x; order = a.order; done = a.done; left = a.left; queues = a.queues; running = a.running }) s
    ∙ (ap (λ x. record b { order = x; done = a.done; left = a.left; queues = a.queues; running = a.running }) o
    ∙ (ap (λ x. record b { done = x; left = a.left; queues = a.queues; running = a.running }) d
    ∙ (ap (λ x. record b { left = x; queues = a.queues; running = a.running }) l
    ∙ (ap (λ x. record b { queues = x; running = a.running }) q
    ∙ ap (λ x. record b { running = x }) r))))))

-- a place is within a list where another item stands than the one that is read past its end
pub within : {X : Type 0} (xs : List X) (i : ℕ) (d : X) → (slice_index_or xs i d ≡ d → ⊥) → i < length xs
within xs i d h = elim (cases_lt i (length xs)) [ inl b ↦ b | inr past ↦ absurd (h (get_or_past xs i d past)) ]

module _ (g : GraphValue) (p : ℕ) (s : State) (e : Edge) (rest : List Edge) (k : IsConsistent g p s (e ∷ rest)) (left : List ℕ) (queues : List QueueValue)
    (set : left ≡ slice_set s.left e.to (slice_index s.left e.to - 1)) (count : length queues ≡ length s.queues) where
  after : State
  after = record s { left = left; queues = queues }

  some : 0 < slice_index s.left e.to
  some =
      let old : slice_index s.left e.to ≡ count_by (waits_for s.done e.to) (edges g) + count_by (λ (x : Edge). x.to == e.to) (e ∷ rest) = k.left e.to in
      let cons : count_by (λ (x : Edge). x.to == e.to) (e ∷ rest) ≡ cond (e.to == e.to) 1 0 + count_by (λ (x : Edge). x.to == e.to) rest = count_cons (λ (x : Edge). x.to == e.to) e rest in
      let one : bit (e.to == e.to) ≡ 1 = count_one (e.to == e.to) (eq-eqb e.to e.to refl) in
      omega arith

  known : e.to < length s.left
  known = within s.left e.to 0 (λ z. (let w : 0 < slice_index s.left e.to = some in let z' : slice_index s.left e.to ≡ 0 = z in absurd (omega arith)))

  fewer : slice_index left e.to + 1 ≡ slice_index s.left e.to
  fewer =
      let is : slice_index left e.to ≡ slice_index s.left e.to - 1 = ap (λ xs. slice_index xs e.to) set ∙ get_or-set_same s.left e.to (slice_index s.left e.to - 1) 0 known in
      let w : 0 < slice_index s.left e.to = some in
      omega arith

  other : (i : ℕ) → (i ≡ e.to → ⊥) → slice_index left i ≡ slice_index s.left i
  other i apart = ap (λ xs. slice_index xs i) set ∙ get_or-set_other s.left e.to i (slice_index s.left e.to - 1) 0 apart

  left_is : (i : ℕ) → slice_index left i ≡ count_by (waits_for s.done i) (edges g) + count_by (λ (x : Edge). x.to == i) rest
  left_is i =
      let old : slice_index s.left i ≡ count_by (waits_for s.done i) (edges g) + count_by (λ (x : Edge). x.to == i) (e ∷ rest) = k.left i in
      let cons : count_by (λ (x : Edge). x.to == i) (e ∷ rest) ≡ cond (e.to == i) 1 0 + count_by (λ (x : Edge). x.to == i) rest = count_cons (λ (x : Edge). x.to == i) e rest in
      elim (cases_eq e.to i) [
        | inl same ↦ (
            let one : bit (e.to == i) ≡ 1 = count_one (e.to == i) (eq-eqb e.to i same) in
            let here : slice_index left i + 1 ≡ slice_index s.left i = subst (λ z. slice_index left z + 1 ≡ slice_index s.left z) same fewer in
            omega arith)
        | inr apart ↦ (
            let none : bit (e.to == i) ≡ 0 = count_zero (e.to == i) (ne_eqb e.to i apart) in
            let here : slice_index left i ≡ slice_index s.left i = other i (λ x. apart (sym x)) in
            omega arith)
      ]

  not_waiting : (i : ℕ) → slice_index s.left i ≡ 0 → i ≡ e.to → ⊥
  not_waiting i z same = (let w : 0 < slice_index s.left e.to = some in let z' : slice_index s.left e.to ≡ 0 = subst (λ x. slice_index s.left x ≡ 0) same z in absurd (omega arith))

  still_waiting : (i : ℕ) → IsQueued g s i → IsQueued g after i
  unfolding after
  still_waiting i w = record { line = w.line; free = other i (not_waiting i w.free) ∙ w.free; comes = w.comes; waits = w.waits }

  was_waiting : (i : ℕ) → (i ≡ e.to → ⊥) → IsQueued g after i → IsQueued g s i
  unfolding after
  was_waiting i apart w = record { line = w.line; free = sym (other i apart) ∙ w.free; comes = w.comes; waits = w.waits }

  unstarted : slot_at s.slots e.to ≡ None
  unstarted = by (slot_at s.slots e.to) refl
    where
      by : (o : Option Slot) → slot_at s.slots e.to ≡ o → o ≡ None
      by None h = refl
      by (Some x) h = absurd (not_waiting e.to (k.started_free e.to x h) refl)

  now_waiting : slice_index s.left e.to - 1 ≡ 0 → never_comes g e.to ≡ false → IsQueued g after e.to
  unfolding after
  now_waiting z comes = record {
    line = (let a : e.to < length s.left = known in let b : length s.left ≡ length g.lines = k.left_count in omega arith);
    free = (let f : slice_index left e.to + 1 ≡ slice_index s.left e.to = fewer in omega arith);
    comes = comes;
    waits = unstarted;
  }

  -- a line that stands in a queue from now on is the one that is offered, or stood there before
  listed_by : (b : Bool) → ((slice_index s.left e.to - 1 == 0) && not (never_comes g e.to)) ≡ b → IsOffered g s.queues queues e.to b → (q i : ℕ) → has_line (queue_at queues q).lines i ≡ true →
      ((q ≡ queue_of g e.to) × (i ≡ e.to) × IsQueued g after e.to) ⊎ (has_line (queue_at s.queues q).lines i ≡ true)
  listed_by false is same q i h = inr (subst (λ x. has_line (queue_at x q).lines i ≡ true) same h)
  listed_by true is changes q i h = elim (cases_eq q (queue_of g e.to)) [
    | inl at ↦ elim (or_cases (i == e.to) (has_line (queue_at s.queues (queue_of g e.to)).lines i) (sym (changes.here.lines i) ∙ subst (λ x. has_line (queue_at queues x).lines i ≡ true) at h)) [
      | inl new ↦ (
          let parts = and_parts (slice_index s.left e.to - 1 == 0) (not (never_comes g e.to)) is in
          inl (at, eqb-true i e.to new, now_waiting (eqb-true (slice_index s.left e.to - 1) 0 parts.0) (not-true (never_comes g e.to) parts.1)))
      | inr old ↦ inr (subst (λ x. has_line (queue_at s.queues x).lines i ≡ true) (sym at) old)
    ]
    | inr apart ↦ inr (subst (λ x. has_line x.lines i ≡ true) (changes.others q apart) h)
  ]

  queued_by : (b : Bool) → ((slice_index s.left e.to - 1 == 0) && not (never_comes g e.to)) ≡ b → IsOffered g s.queues queues e.to b → (q i : ℕ) → has_line (queue_at queues q).lines i ≡ true → IsQueued g after i × (joins g s.by_columns i q ≡ true)
  queued_by b is offered q i h = elim (listed_by b is offered q i h) [
    | inl new ↦ (
      subst (λ x. IsQueued g after x) (sym new.1) new.2,
      subst (λ x. joins g s.by_columns x q ≡ true) (sym new.1) (subst (λ x. joins g s.by_columns e.to x ≡ true) (sym new.0) (joins_own g s.by_columns e.to)),
    )
    | inr old ↦ (let w = k.queued q i old in (still_waiting i w.0, w.1))
  ]

  one_place_by : (b : Bool) → ((slice_index s.left e.to - 1 == 0) && not (never_comes g e.to)) ≡ b → IsOffered g s.queues queues e.to b →
      (q r i : ℕ) → has_line (queue_at queues q).lines i ≡ true → has_line (queue_at queues r).lines i ≡ true → q ≡ r
  one_place_by b is offered q r i h f = elim (listed_by b is offered q i h) [
    | inl new ↦ elim (listed_by b is offered r i f) [
      | inl also ↦ new.0 ∙ sym also.0
      | inr old ↦ absurd (not_waiting i (k.queued r i old).0.free new.1)
    ]
    | inr old ↦ elim (listed_by b is offered r i f) [
      | inl new ↦ absurd (not_waiting i (k.queued q i old).0.free new.1)
      | inr also ↦ k.one_place q r i old also
    ]
  ]

  all_queued_by : (b : Bool) → ((slice_index s.left e.to - 1 == 0) && not (never_comes g e.to)) ≡ b → IsOffered g s.queues queues e.to b → (i : ℕ) → IsQueued g after i → (q : ℕ) × (has_line (queue_at queues q).lines i ≡ true)
  unfolding after
  all_queued_by false is same i w = elim (cases_eq i e.to) [
    | inl at ↦ (
        let f : slice_index left e.to + 1 ≡ slice_index s.left e.to = fewer in
        let z : slice_index left e.to ≡ 0 = subst (λ x. slice_index left x ≡ 0) at w.free in
        let flag : ((slice_index s.left e.to - 1 == 0) && not (never_comes g e.to)) ≡ true = and_from (slice_index s.left e.to - 1 == 0) (not (never_comes g e.to)) (eq-eqb (slice_index s.left e.to - 1) 0 (omega arith)) (not_from_false (never_comes g e.to) (subst (λ x. never_comes g x ≡ false) at w.comes)) in
        absurd (true≢false (sym flag ∙ is)))
    | inr apart ↦ (let r = k.all_queued i (was_waiting i apart w) in (r.0, subst (λ x. has_line (queue_at x r.0).lines i ≡ true) (sym same) r.1))
  ]
  all_queued_by true is changes i w = elim (cases_eq i e.to) [
    | inl at ↦ (queue_of g e.to, subst (λ x. has_line (queue_at queues (queue_of g e.to)).lines x ≡ true) (sym at) (changes.here.lines e.to ∙ or_left (e.to == e.to) (has_line (queue_at s.queues (queue_of g e.to)).lines e.to) (eq-eqb e.to e.to refl)))
    | inr apart ↦ (
        let r = k.all_queued i (was_waiting i apart w) in (
          r.0,
          elim (cases_eq r.0 (queue_of g e.to)) [
            | inl here ↦ subst (λ x. has_line (queue_at queues x).lines i ≡ true) (sym here) (changes.here.lines i ∙ or_right (i == e.to) (has_line (queue_at s.queues (queue_of g e.to)).lines i) (subst (λ x. has_line (queue_at s.queues x).lines i ≡ true) here r.1))
            | inr there ↦ subst (λ x. has_line x.lines i ≡ true) (sym (changes.others r.0 there)) r.1
          ],
        ))
  ]

  holders_by : (b : Bool) → IsOffered g s.queues queues e.to b → (q : ℕ) → (queue_at queues q).holders ≡ (queue_at s.queues q).holders
  holders_by false same q = ap (λ x. (queue_at x q).holders) same
  holders_by true changes q = elim (cases_eq q (queue_of g e.to)) [
    | inl at ↦ subst (λ x. (queue_at queues x).holders ≡ (queue_at s.queues x).holders) (sym at) changes.here.holders
    | inr apart ↦ ap (λ x. x.holders) (changes.others q apart)
  ]

  passed : IsOffered g s.queues queues e.to ((slice_index s.left e.to - 1 == 0) && not (never_comes g e.to)) → IsConsistent g p after rest
  unfolding after
  passed offered =
      let same : (q : ℕ) → (queue_at queues q).holders ≡ (queue_at s.queues q).holders = holders_by ((slice_index s.left e.to - 1 == 0) && not (never_comes g e.to)) offered in
      record {
        slot_count = k.slot_count;
        done_count = k.done_count;
        left_count = ap length set ∙ (simp length-set k.left_count);
        queue_count = count ∙ k.queue_count;
        processor_count = k.processor_count;
        left = left_is;
        started_free = λ i x h. other i (not_waiting i (k.started_free i x h)) ∙ k.started_free i x h;
        finished_started = k.finished_started;
        queued = queued_by ((slice_index s.left e.to - 1 == 0) && not (never_comes g e.to)) refl offered;
        one_place = one_place_by ((slice_index s.left e.to - 1 == 0) && not (never_comes g e.to)) refl offered;
        all_queued = all_queued_by ((slice_index s.left e.to - 1 == 0) && not (never_comes g e.to)) refl offered;
        holders = λ q m. subst (λ hs. (has_line hs m ≡ true) ↔ IsHolder g s m q) (sym (same q)) (k.holders q m);
        runs = k.runs;
        running = k.running;
        ordered = k.ordered;
        once = k.once;
        before = k.before;
      }

pub count_down_consistent : (g : GraphValue) (p : ℕ) (s new : State) (e : Edge) (rest : List Edge) → IsConsistent g p s (e ∷ rest) → CountsDown g s new e.to → IsConsistent g p new rest
unfolding after
count_down_consistent g p s new e rest k st =
    subst (λ x. IsConsistent g p x rest) (same_state (record s { left = new.left; queues = new.queues }) new (sym st.by_columns) (sym st.time) (sym st.slots) (sym st.order) (sym st.done) refl refl (sym st.running))
    (passed g p s e rest k new.left new.queues st.left st.queue_count st.queues)

-- the line of an edge that is left waits
pub edge_waits : (g : GraphValue) (p : ℕ) (s : State) (e : Edge) (rest : List Edge) → IsConsistent g p s (e ∷ rest) → 0 < slice_index s.left e.to
edge_waits g p s e rest k = some g p s e rest k (slice_set s.left e.to (slice_index s.left e.to - 1)) s.queues refl refl

-- each source of a line that has started is done
pub source_done : (g : GraphValue) (p : ℕ) (s : State) → IsConsistent g p s [] → (i : ℕ) → slice_index s.left i ≡ 0 → (e : Edge) → Contains (edges g) e → e.to ≡ i → is_done s.done e.from ≡ true
source_done g p s k i z e c to = by (is_done s.done e.from) refl
  where
    by : (b : Bool) → is_done s.done e.from ≡ b → b ≡ true
    by true h = refl
    by false h =
        let all : slice_index s.left i ≡ count_by (waits_for s.done i) (edges g) + count_by (λ (x : Edge). x.to == i) [] = k.left i in
        let none : count_by (λ (x : Edge). x.to == i) [] ≡ 0 = refl in
        let waits : waits_for s.done i e ≡ true = and_from (e.to == i) (not (is_done s.done e.from)) (eq-eqb e.to i to) (not_from_false (is_done s.done e.from) h) in
        absurd (true≢false (sym waits ∙ none_counted (waits_for s.done i) (edges g) (omega arith) e c))

-- and where all sources of a line are done, it waits for no edge
pub sources_none : (g : GraphValue) (p : ℕ) (s : State) → IsConsistent g p s [] → (i : ℕ) → ((e : Edge) → Contains (edges g) e → e.to ≡ i → is_done s.done e.from ≡ true) → slice_index s.left i ≡ 0
sources_none g p s k i all =
    let is : slice_index s.left i ≡ count_by (waits_for s.done i) (edges g) + count_by (λ (x : Edge). x.to == i) [] = k.left i in
    let none : count_by (λ (x : Edge). x.to == i) [] ≡ 0 = refl in
    let zero' : count_by (waits_for s.done i) (edges g) ≡ 0 = counted_none (waits_for s.done i) (edges g) (λ e c. false_from_ne_true (waits_for s.done i e) (λ h. (
    let parts = and_parts (e.to == i) (not (is_done s.done e.from)) h in
    true≢false (sym (all e c (eqb-true e.to i parts.0)) ∙ not-true (is_done s.done e.from) parts.1)))) in
    omega arith

-- each line with a path to a line that has started has started
pub path_started : (g : GraphValue) (p : ℕ) (s : State) → IsConsistent g p s [] → (i j : ℕ) → HasPath g i j → (x : Slot) → HasSlot s.slots j x → (y : Slot) × HasSlot s.slots i y
path_started g p s k i j path x h = back_path (λ m. (y : Slot) × HasSlot s.slots m y)
    (λ e c to. k.finished_started e.from (source_done g p s k e.to (k.started_free e.to to.0 to.1) e c refl)) path (x, h)
