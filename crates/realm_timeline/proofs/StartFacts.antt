-- How a simulation begins: no line has started, and each waits for one edge more than enter it until it is offered.
use Rattle.std.proofs.Common.{◌≡◌, ℕ, zero, suc, ◌+◌, ◌*◌, ◌<◌, ◌≤◌, Bool, true, false, not, inl, inr, [], length, drop, map, replicate, refl, sym, ◌∙◌, ap, subst, arith}
use Rattle.std.specs.Prelude.{◌==◌, ◌&&◌, Contains, Some, None, slice_index, count_by}
use Rattle.std.specs.List.{slice_index_or, range_with_len}
use Rattle.std.proofs.lemmas.Bool.{true≢false, cases_lt, cases_eq, eq-eqb, ne_eqb}
use Rattle.std.proofs.lemmas.List.{get_or_past, length-replicate}
use Rattle.std.proofs.lemmas.List.Sums.{length-filter}
use Rattle.std.proofs.lemmas.Option.{none-some}
use Rattle.graph_terms.specs.declared.verb.Edge.{Edge}
use Rattle.graph_terms.specs.declared.verb.EdgeKind.TheVariants as kind
use Rattle.graph_terms.specs.Graph.{GraphValue}
use Rattle.graph_terms.specs.Edges.{edge, edges, edges_into}
use Rattle.graph_terms.specs.Fits.{IsGraph}
use Rattle.basics.proofs.ListFacts.{count_below-max, contains_none}
use Rattle.graph_terms.proofs.Public.{edges_in_range}
use Rattle.realm_timeline.specs.declared.slot.Slot.{Slot}
use Rattle.realm_timeline.specs.Plan.{slot_at, HasSlot}
use Rattle.realm_timeline.specs.Queue.{QueueValue, queue_at, no_queue, has_line}
use Rattle.realm_timeline.specs.State.{State, is_done, runs_at, waits_for, count_of_queues, IsConsistent, IsSimulation, undone}
use Rattle.realm_timeline.specs.Steps.{CountsDown, first_edges}
use Rattle.realm_timeline.proofs.EdgeCounts.{bit, count_cons, count_one, count_zero, count_split, counted_none}
use Rattle.realm_timeline.proofs.LoopFacts.{no_edge, next_waits, next_counted}

-- one item at each place
pub replicate_at : {X : Type 0} (n i : ℕ) (x : X) → slice_index_or (replicate n x) i x ≡ x
replicate_at zero i x = refl
replicate_at (suc n) zero x = refl
replicate_at (suc n) (suc i) x = replicate_at n i x

-- the edge that keeps line i waiting until it is offered
first_at : (lo n i : ℕ) → i < n → (slice_index_or (map (λ k. edge k k kind.Passes) (range_with_len lo n)) i no_edge).to ≡ lo + i
first_at lo zero i h = absurd (omega arith)
first_at lo (suc n) zero h = omega arith
first_at lo (suc n) (suc i) h =
    let r : (slice_index_or (map (λ k. edge k k kind.Passes) (range_with_len (lo + 1) n)) i no_edge).to ≡ (lo + 1) + i = first_at (lo + 1) n i (omega arith) in
    omega arith

pub first_edge_at : (g : GraphValue) (i : ℕ) → i < length g.lines → (slice_index_or (first_edges g) i no_edge).to ≡ i
first_edge_at g i h = let e : (slice_index_or (map (λ k. edge k k kind.Passes) (range_with_len 0 (length g.lines))) i no_edge).to ≡ 0 + i = first_at 0 (length g.lines) i h in omega arith

length_first : (lo n : ℕ) → length (map (λ k. edge k k kind.Passes) (range_with_len lo n)) ≡ n
length_first lo zero = refl
length_first lo (suc n) = let r : length (map (λ k. edge k k kind.Passes) (range_with_len (lo + 1) n)) ≡ n = length_first (lo + 1) n in omega arith

pub length_first_edges : (g : GraphValue) → length (first_edges g) ≡ length g.lines
length_first_edges g = length_first 0 (length g.lines)

-- one of them leads to each line
count_none : (lo n i : ℕ) → i < lo → count_by (λ (e : Edge). e.to == i) (map (λ k. edge k k kind.Passes) (range_with_len lo n)) ≡ 0
count_none lo zero i h = refl
count_none lo (suc n) i h =
    let cons : count_by (λ (e : Edge). e.to == i) (map (λ k. edge k k kind.Passes) (range_with_len lo (suc n))) ≡ bit (lo == i) + count_by (λ (e : Edge). e.to == i) (map (λ k. edge k k kind.Passes) (range_with_len (lo + 1) n)) =
    count_cons (λ (e : Edge). e.to == i) (edge lo lo kind.Passes) (map (λ k. edge k k kind.Passes) (range_with_len (lo + 1) n)) in
    let none : bit (lo == i) ≡ 0 = count_zero (lo == i) (ne_eqb lo i (λ e. absurd (omega arith))) in
    let rest : count_by (λ (e : Edge). e.to == i) (map (λ k. edge k k kind.Passes) (range_with_len (lo + 1) n)) ≡ 0 = count_none (lo + 1) n i (omega arith) in
    omega arith

count_first : (lo n i : ℕ) → lo ≤ i → i < lo + n → count_by (λ (e : Edge). e.to == i) (map (λ k. edge k k kind.Passes) (range_with_len lo n)) ≡ 1
count_first lo zero i h k = absurd (omega arith)
count_first lo (suc n) i h k =
    let cons : count_by (λ (e : Edge). e.to == i) (map (λ k. edge k k kind.Passes) (range_with_len lo (suc n))) ≡ bit (lo == i) + count_by (λ (e : Edge). e.to == i) (map (λ k. edge k k kind.Passes) (range_with_len (lo + 1) n)) =
    count_cons (λ (e : Edge). e.to == i) (edge lo lo kind.Passes) (map (λ k. edge k k kind.Passes) (range_with_len (lo + 1) n)) in
    elim (cases_eq lo i) [
      | inl same ↦ (
          let one : bit (lo == i) ≡ 1 = count_one (lo == i) (eq-eqb lo i same) in
          let rest : count_by (λ (e : Edge). e.to == i) (map (λ k. edge k k kind.Passes) (range_with_len (lo + 1) n)) ≡ 0 = count_none (lo + 1) n i (omega arith) in
          omega arith)
      | inr apart ↦ (
          let none : bit (lo == i) ≡ 0 = count_zero (lo == i) (ne_eqb lo i apart) in
          let above : lo + 1 ≤ i = above_of lo i h apart in
          let rest : count_by (λ (e : Edge). e.to == i) (map (λ k. edge k k kind.Passes) (range_with_len (lo + 1) n)) ≡ 1 = count_first (lo + 1) n i above (omega arith) in
          omega arith)
    ]
  where
    above_of : (a b : ℕ) → a ≤ b → (a ≡ b → ⊥) → a + 1 ≤ b
    above_of a b h ne = elim (cases_lt a b) [ inl l ↦ omega arith | inr ge ↦ absurd (ne (omega arith)) ]

count_past : (lo n i : ℕ) → lo + n ≤ i → count_by (λ (e : Edge). e.to == i) (map (λ k. edge k k kind.Passes) (range_with_len lo n)) ≡ 0
count_past lo zero i h = refl
count_past lo (suc n) i h =
    let cons : count_by (λ (e : Edge). e.to == i) (map (λ k. edge k k kind.Passes) (range_with_len lo (suc n))) ≡ bit (lo == i) + count_by (λ (e : Edge). e.to == i) (map (λ k. edge k k kind.Passes) (range_with_len (lo + 1) n)) =
    count_cons (λ (e : Edge). e.to == i) (edge lo lo kind.Passes) (map (λ k. edge k k kind.Passes) (range_with_len (lo + 1) n)) in
    let none : bit (lo == i) ≡ 0 = count_zero (lo == i) (ne_eqb lo i (λ e. absurd (omega arith))) in
    let rest : count_by (λ (e : Edge). e.to == i) (map (λ k. edge k k kind.Passes) (range_with_len (lo + 1) n)) ≡ 0 = count_past (lo + 1) n i (omega arith) in
    omega arith

-- a simulation before any line was offered
pub record IsFresh (g : GraphValue) (p : ℕ) (s : State) : Type 0 where
  pub time : s.time ≡ 0
  pub slots : s.slots ≡ replicate (length g.lines) None
  pub order : s.order ≡ []
  pub done : s.done ≡ replicate (length g.lines) false
  pub running : s.running ≡ replicate p None

module _ (g : GraphValue) (p : ℕ) (s : State) (fresh : IsFresh g p s) where
  no_slots : (i : ℕ) (x : Slot) → HasSlot s.slots i x → ⊥
  no_slots i x h = none-some x (sym (ap (λ xs. slot_at xs i) fresh.slots ∙ replicate_at (length g.lines) i None) ∙ h)

  none_done : (i : ℕ) → is_done s.done i ≡ true → ⊥
  none_done i d = true≢false (sym d ∙ (ap (λ xs. is_done xs i) fresh.done ∙ replicate_at (length g.lines) i false))

  none_runs : (q k : ℕ) → runs_at s.running q ≡ Some k → ⊥
  none_runs q k h = none-some k (sym (ap (λ xs. runs_at xs q) fresh.running ∙ replicate_at p q None) ∙ h)

  waits_all : (i : ℕ) (e : Edge) → bit (e.to == i) ≡ bit (waits_for s.done i e) + bit false
  waits_all i e = by (e.to == i) (is_done s.done e.from) refl
    where
      by : (a b : Bool) → is_done s.done e.from ≡ b → bit a ≡ bit (a && not b) + bit false
      by a true h = absurd (none_done e.from h)
      by true false h = refl
      by false false h = refl

  waits_count : (i : ℕ) → count_by (waits_for s.done i) (edges g) ≡ length (edges_into g i)
  waits_count i =
      let split : count_by (λ (e : Edge). e.to == i) (edges g) ≡ count_by (waits_for s.done i) (edges g) + count_by (λ (e : Edge). false) (edges g) = count_split (λ (e : Edge). e.to == i) (waits_for s.done i) (λ e. false) (waits_all i) (edges g) in
      let none : count_by (λ (e : Edge). false) (edges g) ≡ 0 = counted_none (λ e. false) (edges g) (λ e c. refl) in
      let into : length (edges_into g i) ≡ count_by (λ (e : Edge). e.to == i) (edges g) = length-filter (λ (e : Edge). e.to == i) (edges g) in
      omega arith

  module _ (graph : IsGraph g) (count : length s.left ≡ length g.lines) (counts : (i : ℕ) → i < length g.lines → slice_index s.left i ≡ length (edges_into g i) + 1) (queues : s.queues ≡ replicate (count_of_queues g s.by_columns) no_queue) where
    queue_is : (q : ℕ) → queue_at s.queues q ≡ no_queue
    queue_is q = ap (λ xs. queue_at xs q) queues ∙ replicate_at (count_of_queues g s.by_columns) q no_queue

    none_listed : (q i : ℕ) → has_line (queue_at s.queues q).lines i ≡ true → ⊥
    none_listed q i h = true≢false (sym h ∙ ap (λ (x : QueueValue). has_line x.lines i) (queue_is q))

    none_holds : (q k : ℕ) → has_line (queue_at s.queues q).holders k ≡ true → ⊥
    none_holds q k h = true≢false (sym h ∙ ap (λ (x : QueueValue). has_line x.holders k) (queue_is q))

    left_is : (i : ℕ) → slice_index s.left i ≡ count_by (waits_for s.done i) (edges g) + count_by (λ (e : Edge). e.to == i) (first_edges g)
    left_is i =
        let w : count_by (waits_for s.done i) (edges g) ≡ length (edges_into g i) = waits_count i in
        elim (cases_lt i (length g.lines)) [
          | inl below ↦ (
              let one : count_by (λ (e : Edge). e.to == i) (first_edges g) ≡ 1 = count_first 0 (length g.lines) i (omega arith) (omega arith) in
              let c : slice_index s.left i ≡ length (edges_into g i) + 1 = counts i below in
              omega arith)
          | inr past ↦ (
              let z : slice_index s.left i ≡ 0 = get_or_past s.left i 0 (omega arith) in
              let none : count_by (λ (e : Edge). e.to == i) (first_edges g) ≡ 0 = count_past 0 (length g.lines) i (omega arith) in
              let into : length (edges_into g i) ≡ count_by (λ (e : Edge). e.to == i) (edges g) = length-filter (λ (e : Edge). e.to == i) (edges g) in
              let zero' : count_by (λ (e : Edge). e.to == i) (edges g) ≡ 0 = counted_none (λ (e : Edge). e.to == i) (edges g) (λ e c. ne_eqb e.to i (λ same. (let b : e.to < length g.lines = (edges_in_range g graph e c).1 in absurd (omega arith)))) in
              omega arith)
        ]

    consistent_first : IsConsistent g p s (first_edges g)
    consistent_first = record {
      slot_count = ap length fresh.slots ∙ length-replicate (length g.lines) None;
      done_count = ap length fresh.done ∙ length-replicate (length g.lines) false;
      left_count = count;
      queue_count = ap length queues ∙ length-replicate (count_of_queues g s.by_columns) no_queue;
      processor_count = ap length fresh.running ∙ length-replicate p None;
      left = left_is;
      started_free = λ i x h. absurd (no_slots i x h);
      finished_started = λ i d. absurd (none_done i d);
      queued = λ q i h. absurd (none_listed q i h);
      one_place = λ q r i h. absurd (none_listed q i h);
      all_queued = λ i w. (let c : slice_index s.left i ≡ length (edges_into g i) + 1 = counts i w.line in let z : slice_index s.left i ≡ 0 = w.free in absurd (omega arith));
      holders = λ q k. ((λ h. absurd (none_holds q k h)), (λ h. elim h [ inl by_section ↦ absurd (no_slots k by_section.1.slot by_section.1.has) | inr by_use ↦ absurd (no_slots k by_use.1.slot by_use.1.has) ]));
      runs = λ q k h. absurd (none_runs q k h);
      running = λ k x h unf. absurd (no_slots k x h);
      ordered = λ i. ((λ c. absurd (contains_none i (subst (λ xs. Contains xs i) fresh.order c))), (λ h. absurd (no_slots i h.0 h.1)));
      once = λ a b lower upper same. (let e : length s.order ≡ length {A = ℕ} [] = ap length fresh.order in let z : length {A = ℕ} [] ≡ 0 = refl in absurd (omega arith));
      before = λ a inside. (let e : length s.order ≡ length {A = ℕ} [] = ap length fresh.order in let z : length {A = ℕ} [] ≡ 0 = refl in absurd (omega arith));
    }

  -- once all lines are offered the simulation begins
  simulation_begins : IsConsistent g p s [] → IsSimulation g p s
  simulation_begins k = record {
    consistent = k;
    up_to_now = record {
      some = record {
        each_line = k.slot_count;
        planned = λ i x h. absurd (no_slots i x h);
        processor = λ i x h. absurd (no_slots i x h);
        finish = λ i x h. absurd (no_slots i x h);
      };
      valid = record {
        apart = λ i j x y h. absurd (no_slots i x h);
        sources = λ e c x h. absurd (no_slots e.to x h);
        sections = λ i j excludes x y h. absurd (no_slots i x h);
      };
      apart = λ on i j c x y h. absurd (no_slots i x h);
      moments = λ i x h. absurd (no_slots i x h);
      free = λ i x h. absurd (no_slots i x h);
      lowest = λ i x h. absurd (no_slots i x h);
      early = λ i x h. absurd (no_slots i x h);
      moment = inl fresh.time;
      greedy = λ u before. (let t : s.time ≡ 0 = fresh.time in absurd (omega arith));
    };
    done_lines = record { finished = λ i d. absurd (none_done i d); marked = λ i f. absurd (no_slots i f.0 f.1) };
    lowest_first = record { lower = λ i x h. absurd (no_slots i x h); hinders = λ i x h. absurd (no_slots i x h) };
    small = record {
      time = (let t : s.time ≡ 0 = fresh.time in let m : undone s.done (length g.lines) ≤ length g.lines = count_below-max (λ i. not (is_done s.done i)) (length g.lines) in omega arith);
      finishes = λ i x h. absurd (no_slots i x h);
    };
  }

pub fresh_consistent : (g : GraphValue) (p : ℕ) (s : State) → IsFresh g p s → IsGraph g → length s.left ≡ length g.lines → ((i : ℕ) → i < length g.lines → slice_index s.left i ≡ length (edges_into g i) + 1) → s.queues ≡ replicate (count_of_queues g s.by_columns) no_queue → IsConsistent g p s (first_edges g)
fresh_consistent g p s fresh graph count counts queues = consistent_first g p s fresh graph count counts queues

pub fresh_begins : (g : GraphValue) (p : ℕ) (s : State) → IsFresh g p s → IsConsistent g p s [] → IsSimulation g p s
fresh_begins g p s fresh k = simulation_begins g p s fresh k

pub fresh_counted : (g : GraphValue) (p : ℕ) (s new : State) (line : ℕ) → IsFresh g p s → CountsDown g s new line → IsFresh g p new
fresh_counted g p s new line f st = record {
  time = st.time ∙ f.time;
  slots = st.slots ∙ f.slots;
  order = st.order ∙ f.order;
  done = st.done ∙ f.done;
  running = st.running ∙ f.running;
}

-- one more line is offered
pub offer_waits : (g : GraphValue) (p : ℕ) (s : State) (i : ℕ) → IsConsistent g p s (drop i (first_edges g)) → i < length g.lines → 0 < slice_index s.left i
offer_waits g p s i k h =
    let n : length (first_edges g) ≡ length g.lines = length_first_edges g in
    subst (λ x. 0 < slice_index s.left x) (first_edge_at g i h) (next_waits g p s (first_edges g) i k (omega arith))

pub offer_counted : (g : GraphValue) (p : ℕ) (s new : State) (i : ℕ) → IsConsistent g p s (drop i (first_edges g)) → i < length g.lines → CountsDown g s new i → IsConsistent g p new (drop (i + 1) (first_edges g))
offer_counted g p s new i k h st =
    let n : length (first_edges g) ≡ length g.lines = length_first_edges g in
    next_counted g p s new (first_edges g) i k (omega arith) (subst (CountsDown g s new) (sym (first_edge_at g i h)) st)
