-- The next lines of a simulation finish.
use Rattle.std.proofs.Common.{◌≡◌, ℕ, ◌+◌, ◌*◌, ◌<◌, ◌≤◌, true, false, not, inl, inr, List, [], length, refl, sym, ◌∙◌, ap, subst, arith}
use Rattle.std.specs.Prelude.{◌≢◌, min, Option, Some, None, MatchOption}
use Rattle.std.proofs.lemmas.Bool.{true≢false, cases_lt, cases_eq, cases_Bool, cases_order, not_from_true, not_from_false, not-true, false_from_ne_true}
use Rattle.std.proofs.lemmas.List.{get_or-set_same, get_or-set_other}
use Rattle.std.proofs.lemmas.Option.{none-some, same_Some}
use Rattle.graph_terms.specs.declared.verb.Edge.{Edge}
use Rattle.graph_terms.specs.Graph.{GraphValue}
use Rattle.basics.proofs.ListFacts.{fewer_below}
use Rattle.realm_timeline.specs.declared.slot.Slot.{Slot}
use Rattle.realm_timeline.specs.Plan.{HasSlot, FinishedBy}
use Rattle.realm_timeline.specs.State.{State, is_done, runs_at, IsConsistent, IsGreedyAt, IsGreedyUpTo, undone, IsSimulation, HasStartedAll}
use Rattle.realm_timeline.specs.Steps.{Finishes}
use Rattle.realm_timeline.specs.NextFinish.{IsNextFinish, IsSoonestOf, IsSoonest, IsFinishOn, FinishesOn, IsFinishing}
use Rattle.realm_timeline.proofs.SlotFacts.{one_slot}
use Rattle.realm_timeline.proofs.ConsistentCounts.{within}

module _ (g : GraphValue) (p : ℕ) (s new : State) (next : ℕ) (r : HasStartedAll g p s) (n : IsNextFinish s next) (k : IsConsistent g p new []) (same : new.by_columns ≡ s.by_columns) (slots : new.slots ≡ s.slots) (time : new.time ≡ next)
    (finished : (i : ℕ) → is_done new.done i ≡ true → FinishedBy s.slots next i) (marked : (i : ℕ) → FinishedBy s.slots next i → is_done new.done i ≡ true) where
  later : s.time < next
  later = elim (cases_lt s.time next) [
    | inl l ↦ l
    | inr past ↦ (
        let f : n.slot.finish ≡ next = n.finish in
        absurd (true≢false (sym (r.simulation.done_lines.marked n.line (n.slot, n.has, (let b : n.slot.finish ≤ s.time = omega arith in b))) ∙ n.runs)))
  ]

  keeps : (i : ℕ) → is_done s.done i ≡ true → is_done new.done i ≡ true
  keeps i d =
      let f = r.simulation.done_lines.finished i d in
      let a : f.0.finish ≤ s.time = f.2 in
      let b : s.time < next = later in
      marked i (f.0, f.1, (let c : f.0.finish ≤ next = omega arith in c))

  was_undone : (i : ℕ) → is_done new.done i ≡ false → is_done s.done i ≡ false
  was_undone i h = false_from_ne_true (is_done s.done i) (λ d. true≢false (sym (keeps i d) ∙ h))

  greedy : (u : ℕ) → u < next → IsGreedyAt g s.by_columns p s.slots u
  greedy u before moment = elim (cases_order u s.time) [
    | inl now ↦ subst (IsGreedyAt g s.by_columns p s.slots) (sym now) r.greedy moment
    | inr (inl early) ↦ r.simulation.up_to_now.greedy u early moment
    | inr (inr late) ↦ absurd (elim moment [
      | inl zero_is ↦ (let e : u ≡ 0 = zero_is in absurd (omega arith))
      | inr m ↦ (
          let at : m.1.finish ≡ u = m.3 in
          elim (cases_Bool (is_done s.done m.0)) [
            | inl d ↦ (
                let f = r.simulation.done_lines.finished m.0 d in
                let same : f.0.finish ≡ m.1.finish = ap (λ (z : Slot). z.finish) (one_slot s.slots m.0 f.0 m.1 f.1 m.2) in
                let b : f.0.finish ≤ s.time = f.2 in absurd (omega arith))
            | inr unf ↦ (let b : next ≤ m.1.finish = n.least m.0 m.1 m.2 unf in absurd (omega arith))
          ])
    ])
  ]

  up_to_now : IsGreedyUpTo g s.by_columns p s.slots next
  up_to_now =
      let l : s.time < next = later in
      record {
        some = r.simulation.up_to_now.some;
        valid = r.simulation.up_to_now.valid;
        apart = r.simulation.up_to_now.apart;
        moments = r.simulation.up_to_now.moments;
        free = r.simulation.up_to_now.free;
        lowest = r.simulation.up_to_now.lowest;
        early = λ i y h. (let a : y.start ≤ s.time = r.simulation.up_to_now.early i y h in omega arith);
        moment = inr (n.line, n.slot, n.has, n.finish);
        greedy = greedy;
      }

  less : undone new.done (length g.lines) + 1 ≤ undone s.done (length g.lines)
  less =
      let below : n.line < length s.slots = within s.slots n.line None (λ h. none-some n.slot (sym h ∙ n.has)) in
      let count : length s.slots ≡ length g.lines = r.simulation.consistent.slot_count in
      fewer_below (λ i. not (is_done new.done i)) (λ i. not (is_done s.done i)) (λ i h. not_from_false (is_done s.done i) (was_undone i (not-true (is_done new.done i) h))) (length g.lines) n.line (omega arith)
      (not_from_true (is_done new.done n.line) (marked n.line (n.slot, n.has, (let f : n.slot.finish ≡ next = n.finish in let b : n.slot.finish ≤ next = omega arith in b))))
      (not_from_false (is_done s.done n.line) n.runs)

  started_before : (i : ℕ) (y : Slot) → HasSlot new.slots i y → y.start ≡ new.time → ⊥
  started_before i y h at =
      let a : y.start ≤ s.time = r.simulation.up_to_now.early i y (subst (λ xs. HasSlot xs i y) slots h) in
      let l : s.time < next = later in
      let t : new.time ≡ next = time in
      absurd (omega arith)

  finish_goes_on : IsSimulation g p new × (undone new.done (length g.lines) < undone s.done (length g.lines))
  finish_goes_on =
      let fewer : undone new.done (length g.lines) + 1 ≤ undone s.done (length g.lines) = less in (
        record {
          consistent = k;
          up_to_now = subst (λ b. IsGreedyUpTo g b p new.slots new.time) (sym same) (subst (λ u. IsGreedyUpTo g s.by_columns p new.slots u) (sym time) (subst (λ xs. IsGreedyUpTo g s.by_columns p xs next) (sym slots) up_to_now));
          done_lines = record {
            finished = λ i d. (let f = finished i d in (f.0, subst (λ xs. HasSlot xs i f.0) (sym slots) f.1, subst (λ u. f.0.finish ≤ u) (sym time) f.2));
            marked = λ i f. marked i (f.0, subst (λ xs. HasSlot xs i f.0) slots f.1, subst (λ u. f.0.finish ≤ u) time f.2);
          };
          lowest_first = record {
            lower = λ i y h at. absurd (started_before i y h at);
            hinders = λ i y h at. absurd (started_before i y h at);
          };
          small = record {
            time = (
                let f : n.slot.finish ≡ next = n.finish in
                let t : new.time ≡ next = time in
                let b : n.slot.finish + 68719476736 * undone s.done (length g.lines) ≤ 68719476736 * length g.lines + 68719476736 = r.simulation.small.finishes n.line n.slot n.has n.runs in
                omega arith);
            finishes = λ i y h unf. (
                let b : y.finish + 68719476736 * undone s.done (length g.lines) ≤ 68719476736 * length g.lines + 68719476736 = r.simulation.small.finishes i y (subst (λ xs. HasSlot xs i y) slots h) (was_undone i unf) in
                omega arith);
          };
        },
        (let a : undone new.done (length g.lines) < undone s.done (length g.lines) = omega arith in a),
      )

-- whether the tables are consistent does not depend on the time
pub retimed : (g : GraphValue) (p : ℕ) (s : State) (rest : List Edge) (t : ℕ) → IsConsistent g p s rest → IsConsistent g p (record s { time = t }) rest
retimed g p s rest t k = record {
  slot_count = k.slot_count;
  done_count = k.done_count;
  left_count = k.left_count;
  queue_count = k.queue_count;
  processor_count = k.processor_count;
  left = k.left;
  started_free = k.started_free;
  finished_started = k.finished_started;
  queued = λ q i h. (let w = k.queued q i h in (record { line = w.0.line; free = w.0.free; comes = w.0.comes; waits = w.0.waits }, w.1));
  one_place = k.one_place;
  all_queued = λ i w. k.all_queued i (record { line = w.line; free = w.free; comes = w.comes; waits = w.waits });
  holders = k.holders;
  runs = k.runs;
  running = k.running;
  ordered = k.ordered;
  once = k.once;
  before = k.before;
}

-- all processors have been looked at
pub all_finished : (g : GraphValue) (p : ℕ) (s cur : State) (m next : ℕ) → HasStartedAll g p s → IsNextFinish s next → IsFinishing g p s cur m next → length cur.running ≤ m →
    IsSimulation g p (record cur { time = next }) × (undone cur.done (length g.lines) < undone s.done (length g.lines))
all_finished g p s cur m next r n f all =
    finish_goes_on g p s (record cur { time = next }) next r n (retimed g p cur [] next f.consistent) f.by_columns f.slots refl f.finished marked
  where
    marked : (i : ℕ) → FinishedBy s.slots next i → is_done cur.done i ≡ true
    marked i fin = elim (cases_Bool (is_done cur.done i)) [
      | inl d ↦ d
      | inr unf ↦ (
          let h : HasSlot cur.slots i fin.0 = subst (λ xs. HasSlot xs i fin.0) (sym f.slots) fin.1 in
          let runs : runs_at cur.running fin.0.processor ≡ Some i = f.consistent.running i fin.0 h unf in
          let below : fin.0.processor < length cur.running = within cur.running fin.0.processor None (λ e. none-some i (sym e ∙ runs)) in
          let by : fin.0.finish ≤ next = fin.2 in
          let not_yet : is_done s.done i ≡ false = false_from_ne_true (is_done s.done i) (λ d. true≢false (sym (f.keeps i d) ∙ unf)) in
          let least : next ≤ fin.0.finish = n.least i fin.0 fin.1 not_yet in
          absurd (f.passed fin.0.processor i (omega arith) runs fin.0 fin.1 (omega arith)))
    ]

pub finishing_begins : (g : GraphValue) (p : ℕ) (s : State) (next : ℕ) → HasStartedAll g p s → IsNextFinish s next → IsFinishing g p s s 0 next
finishing_begins g p s next r n = record {
  consistent = r.simulation.consistent;
  by_columns = refl;
  slots = refl;
  finished = λ i d. (
      let f = r.simulation.done_lines.finished i d in
      let a : f.0.finish ≤ s.time = f.2 in
      elim (cases_lt s.time next) [
        | inl l ↦ (f.0, f.1, (let c : f.0.finish ≤ next = omega arith in c))
        | inr past ↦ (let e : n.slot.finish ≡ next = n.finish in absurd (true≢false (sym (r.simulation.done_lines.marked n.line (n.slot, n.has, (let b : n.slot.finish ≤ s.time = omega arith in b))) ∙ n.runs)))
      ]);
  keeps = λ i d. d;
  passed = λ q k below. absurd (omega arith);
}

pub finishing_more : (g : GraphValue) (p : ℕ) (s cur new : State) (q next : ℕ) → IsFinishing g p s cur q next → IsConsistent g p new [] → FinishesOn cur new q next → IsFinishing g p s new (q + 1) next
finishing_more g p s cur new q next f k o = record {
  consistent = k;
  by_columns = o.by_columns ∙ f.by_columns;
  slots = o.slots ∙ f.slots;
  finished = λ i d. elim (o.done i d) [ inl old ↦ f.finished i old | inr fin ↦ subst (λ xs. FinishedBy xs next i) f.slots fin ];
  keeps = λ i d. o.keeps i (f.keeps i d);
  passed = λ r m below runs y h. elim (cases_lt r q) [
    | inl lower ↦ f.passed r m lower (o.others r m (λ e. absurd (omega arith)) runs) y h
    | inr since ↦ (
        let same : r ≡ q = omega arith in
        o.here m (subst (λ z. runs_at new.running z ≡ Some m) same runs) y (subst (λ xs. HasSlot xs m y) (sym f.slots) h))
  ];
}

-- the line on a processor, where it finishes and where it does not
pub finishes_none : (s : State) (q next : ℕ) → runs_at s.running q ≡ None → FinishesOn s s q next
finishes_none s q next none = record {
  by_columns = refl;
  time = refl;
  slots = refl;
  done = λ i d. inl d;
  keeps = λ i d. d;
  others = λ r k apart runs. runs;
  here = λ k runs. absurd (none-some k (sym none ∙ runs));
}

pub finishes_later : (s : State) (q next line : ℕ) → runs_at s.running q ≡ Some line → ((x : Slot) → HasSlot s.slots line x → x.finish ≢ next) → FinishesOn s s q next
finishes_later s q next line on later = record {
  by_columns = refl;
  time = refl;
  slots = refl;
  done = λ i d. inl d;
  keeps = λ i d. d;
  others = λ r k apart runs. runs;
  here = λ k runs x h. later x (subst (λ z. HasSlot s.slots z x) (same_Some k line (sym runs ∙ on)) h);
}

pub finishes_now : (g : GraphValue) (p : ℕ) (s new : State) (q next line : ℕ) → IsConsistent g p s [] → runs_at s.running q ≡ Some line → ((x : Slot) → HasSlot s.slots line x → x.finish ≡ next) → Finishes g s new q line → FinishesOn s new q next
finishes_now g p s new q next line k on at f = record {
  by_columns = f.by_columns;
  time = f.time;
  slots = f.slots;
  done = λ i d. elim (cases_eq i line) [
    | inl same ↦ (
        let x = (k.runs q line on).1 in
        inr (x.0, subst (λ z. HasSlot s.slots z x.0) (sym same) x.1, (let e : x.0.finish ≡ next = at x.0 x.1 in let b : x.0.finish ≤ next = omega arith in b)))
    | inr apart ↦ inl (sym (ap (λ xs. is_done xs i) f.done ∙ get_or-set_other s.done line i true false apart) ∙ d)
  ];
  keeps = λ i d. elim (cases_eq i line) [
    | inl same ↦ absurd (true≢false (sym (subst (λ z. is_done s.done z ≡ true) same d) ∙ (k.runs q line on).0))
    | inr apart ↦ (ap (λ xs. is_done xs i) f.done ∙ get_or-set_other s.done line i true false apart) ∙ d
  ];
  others = λ r m apart runs. sym (ap (λ xs. runs_at xs r) f.running ∙ get_or-set_other s.running q r None None apart) ∙ runs;
  here = λ m runs. (
      let below : q < length s.running = within s.running q None (λ e. none-some line (sym e ∙ on)) in
      absurd (none-some m (sym (ap (λ xs. runs_at xs q) f.running ∙ get_or-set_same s.running q None None below) ∙ runs)));
}

-- the soonest finish, with one processor more
pub soonest_more : (slots : List (Option Slot)) (running : List (Option ℕ)) (q : ℕ) (next : Option ℕ) (finish t : ℕ) → IsSoonest slots running q next → IsFinishOn slots running q (Some finish) → MatchOption next (t ≡ finish) (λ u. t ≡ min u finish) → IsSoonestOf slots running (q + 1) t
soonest_more slots running q None finish t none on is = record {
  least = λ r k x below runs h. elim (cases_lt r q) [
    | inl lower ↦ absurd (none r k lower runs)
    | inr since ↦ (
        let same : r ≡ q = omega arith in
        let line : k ≡ on.0 = same_Some k on.0 (sym (subst (λ z. runs_at running z ≡ Some k) same runs) ∙ on.2) in
        let e : x.finish ≡ on.1.finish = ap (λ (z : Slot). z.finish) (one_slot slots on.0 x on.1 (subst (λ z. HasSlot slots z x) line h) on.3) in
        let f : on.1.finish ≡ finish = on.4 in
        omega arith)
  ];
  processor = q;
  line = on.0;
  slot = on.1;
  runs = on.2;
  has = on.3;
  finish = on.4 ∙ sym is;
}
soonest_more slots running q (Some u) finish t some on is =
    let all : (r k : ℕ) (x : Slot) → r < q + 1 → runs_at running r ≡ Some k → HasSlot slots k x → t ≤ x.finish = (λ r k x below runs h. elim (cases_lt r q) [
      | inl lower ↦ (let a : u ≤ x.finish = some.least r k x lower runs h in omega arith)
      | inr since ↦ (
          let same : r ≡ q = omega arith in
          let line : k ≡ on.0 = same_Some k on.0 (sym (subst (λ z. runs_at running z ≡ Some k) same runs) ∙ on.2) in
          let e : x.finish ≡ on.1.finish = ap (λ (z : Slot). z.finish) (one_slot slots on.0 x on.1 (subst (λ z. HasSlot slots z x) line h) on.3) in
          let f : on.1.finish ≡ finish = on.4 in
          omega arith)
    ]) in
    elim (cases_lt finish u) [
      | inl sooner ↦ record { least = all; processor = q; line = on.0; slot = on.1; runs = on.2; has = on.3; finish = (let f : on.1.finish ≡ finish = on.4 in omega arith) }
      | inr not_sooner ↦ record { least = all; processor = some.processor; line = some.line; slot = some.slot; runs = some.runs; has = some.has; finish = (let f : some.slot.finish ≡ u = some.finish in omega arith) }
    ]

pub soonest_same : (slots : List (Option Slot)) (running : List (Option ℕ)) (q : ℕ) (next : Option ℕ) → IsSoonest slots running q next → runs_at running q ≡ None → IsSoonest slots running (q + 1) next
soonest_same slots running q None none idle = λ r k below runs. elim (cases_lt r q) [
  | inl lower ↦ none r k lower runs
  | inr since ↦ none-some k (sym idle ∙ subst (λ z. runs_at running z ≡ Some k) (let e : r ≡ q = omega arith in e) runs)
]
soonest_same slots running q (Some t) some idle = record {
  least = λ r k x below runs h. elim (cases_lt r q) [
    | inl lower ↦ some.least r k x lower runs h
    | inr since ↦ absurd (none-some k (sym idle ∙ subst (λ z. runs_at running z ≡ Some k) (let e : r ≡ q = omega arith in e) runs))
  ];
  processor = some.processor;
  line = some.line;
  slot = some.slot;
  runs = some.runs;
  has = some.has;
  finish = some.finish;
}

-- the soonest finish of all processors is the next one
pub next_is_soonest : (g : GraphValue) (p : ℕ) (s : State) (t : ℕ) → IsConsistent g p s [] → IsSoonestOf s.slots s.running (length s.running) t → IsNextFinish s t
next_is_soonest g p s t k o = record {
  line = o.line;
  slot = o.slot;
  has = o.has;
  runs = (k.runs o.processor o.line o.runs).0;
  finish = o.finish;
  least = λ i x h unf. (
      let runs : runs_at s.running x.processor ≡ Some i = k.running i x h unf in
      o.least x.processor i x (within s.running x.processor None (λ e. none-some i (sym e ∙ runs))) runs h);
}
