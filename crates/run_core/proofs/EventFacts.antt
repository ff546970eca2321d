-- The events of the lines go with the stages of the run.
use Rattle.std.proofs.Common.{◌≡◌, ℕ, Bool, zero, suc, ◌+◌, ◌<◌, true, false, not, cond, ◌⊎◌, inl, inr, List, [], ◌∷◌, ◌++◌, length, replicate, refl, sym, ◌∙◌, ap, subst, add-one, arith}
use Rattle.std.specs.Prelude.{◌≢◌, ◌↔◌, Some, None, Contains, slice_get, slice_index_or, slice_set}
use Rattle.std.proofs.lemmas.Bool.{true≢false, cases_eq, cases_lt}
use Rattle.std.proofs.lemmas.List.{get_or-set_same, get_or-set_other}
use Rattle.std.proofs.lemmas.Option.{none-some, same_Some, slice_get_within, slice_get-get_or, get_or_from_slice_get}
use Rattle.graph_terms.specs.declared.outcome.End.{End}
use Rattle.graph_terms.specs.Graph.{GraphValue}
use Rattle.basics.specs.Lists.{count_below}
use Rattle.event_table.specs.declared.handle.Handle.{Handle}
use Rattle.event_table.specs.declared.handle.Fate.{Fate}
use Rattle.event_table.specs.declared.handle.Answer.TheVariants.{Pending}
use Rattle.basics.specs.Sums.{total}
use Rattle.event_table.specs.EventMap.{EventMap, SlotLife, unused, life_at, answer, answer_in, answer_of, fresh, with_life, created_at, placed_on, ended_with, next_handle, MayServe, IsFree, IsPlaced, IsEventMap, Gives}
use Rattle.basics.proofs.Sums.{total-put}
use Rattle.event_table.proofs.MapAnswers.{in_idle, life_here, life_there}
use Rattle.event_table.proofs.Public.{answer_apart, is_now, split_handle, handle_eq}
use Rattle.event_table.specs.Maps.{IsNow}
use Rattle.run_state.specs.Run.{LineStage, Unissued, Issued, Ended, stage_at, stage_issued, stage_ended, end_so_far, issued, ended}
use Rattle.run_state.specs.Start.{start}
use Rattle.basics.proofs.ListFacts.{contains_none, contains_cases, same_at}
use Rattle.run_lists.proofs.Public.{replicate_at}
use Rattle.run_parts.specs.LineEvents.{answer_for, created_in, pending_in, count_left, WaitsFor, AreEvents, last_gen_for}

-- BEFORE ANY LINE IS ISSUED
fresh_free : (slots waiters last k : ℕ) → k < waiters → IsFree (fresh slots waiters last) k
fresh_free slots waiters last k near = record {
  number = near;
  unplaced = λ i c. contains_none k (subst (λ (l : SlotLife). Contains l.waiting k) (replicate_at slots i unused) c);
  uncaught = λ h c. contains_none {X = ℕ × Handle} (k, h) c;
}

pub free_first : (slots waiters last : ℕ) (m : EventMap) → m ≡ fresh slots waiters last → (k : ℕ) → k < m.waiters → IsFree m k
free_first slots waiters last m is k near = subst (λ (t : EventMap). IsFree t k) (sym is) (fresh_free slots waiters last k (subst (λ (t : EventMap). k < t.waiters) is near))

total_none : {X : Type 0} (f : X → ℕ) (x : X) → f x ≡ 0 → (n : ℕ) → total f (replicate n x) ≡ 0
total_none f x e zero = refl
total_none f x e (suc n) = (let r : total f (replicate n x) ≡ 0 = total_none f x e n in omega (arith, e, r))

none_answered : (slots waiters last : ℕ) (h : Handle) → answer (fresh slots waiters last) h ≡ None
none_answered slots waiters last h = ap (λ (l : SlotLife). answer_in l h.gen_) (replicate_at slots h.slot unused) ∙ in_idle unused h.gen_ refl (omega arith)

pub events_started : (g : GraphValue) (slots : ℕ) → AreEvents g (start g).stages [] (fresh slots (length g.lines) (last_gen_for (length g.lines)))
events_started g slots = record {
  waiters = refl;
  last = refl;
  each_issued = λ i. (λ h. absurd (true≢false (sym h ∙ ap stage_issued (same_at Unissued (length g.lines) i))), λ h. absurd (omega arith));
  once = λ a b h e. absurd (none-some h e);
  answers = λ i h e. absurd (none-some h e);
  only = λ h a e. absurd (none-some a (sym (none_answered slots (length g.lines) (last_gen_for (length g.lines)) h) ∙ e));
  all_created = total_none created_in unused refl slots;
  all_pending = total_none pending_in unused refl slots;
  waits = λ i h p. absurd (none-some Pending (sym (none_answered slots (length g.lines) (last_gen_for (length g.lines)) h) ∙ p.pending));
}

-- what a call says of the answers of the table
pub record TellsNew (m n : EventMap) (h : Handle) : Type 0 where
  pub pending : answer n h ≡ Some Pending
  pub unknown : answer m h ≡ None
  pub others : (k : Handle) → k ≢ h → answer n k ≡ answer m k

-- where an item stands in a list with one more
snoc_cases : {X : Type 0} (xs : List X) (x : X) (i : ℕ) (y : X) → slice_get (xs ++ x ∷ []) i ≡ Some y → (slice_get xs i ≡ Some y) ⊎ ((i ≡ length xs) × (y ≡ x))
snoc_cases [] x zero y e = inr (refl, sym (same_Some x y e))
snoc_cases [] x (suc i) y e = absurd (none-some y e)
snoc_cases (z ∷ xs) x zero y e = inl e
snoc_cases (z ∷ xs) x (suc i) y e = elim (snoc_cases xs x i y e) [ inl l ↦ inl l | inr r ↦ inr (ap suc r.0, r.1) ]

snoc_left : {X : Type 0} (xs : List X) (x : X) (i : ℕ) (y : X) → slice_get xs i ≡ Some y → slice_get (xs ++ x ∷ []) i ≡ Some y
snoc_left [] x i y e = absurd (none-some y e)
snoc_left (z ∷ xs) x zero y e = e
snoc_left (z ∷ xs) x (suc i) y e = snoc_left xs x i y e

snoc_last : {X : Type 0} (xs : List X) (x : X) → slice_get (xs ++ x ∷ []) (length xs) ≡ Some x
snoc_last [] x = refl
snoc_last (z ∷ xs) x = snoc_last xs x

snoc_length : {X : Type 0} (xs : List X) (x : X) → length (xs ++ x ∷ []) ≡ length xs + 1
snoc_length [] x = refl
snoc_length (z ∷ xs) x = (let e : length (xs ++ x ∷ []) ≡ length xs + 1 = snoc_length xs x in omega (arith, e))

contains_at : {X : Type 0} (xs : List X) (x : X) → Contains xs x → (k : ℕ) × (slice_get xs k ≡ Some x)
contains_at xs x c = (c.0, slice_get-get_or xs c.0 x c.1 ∙ ap Some c.2)

pub at_contains : {X : Type 0} (xs : List X) (k : ℕ) (x : X) → slice_get xs k ≡ Some x → Contains xs x
at_contains xs k x e = (k, slice_get_within xs k x e, get_or_from_slice_get xs k x x e)

-- A NEW HANDLE. The counts of a slot
module _ (m : EventMap) (i : ℕ) (life : SlotLife) (near : i < length m.slots) (f : SlotLife → ℕ) where
  pub total_after : total f (with_life m i life).slots + f (life_at m i) ≡ total f m.slots + f life
  total_after = total-put f m.slots i life unused near

abbrev opened : SlotLife → SlotLife
opened life = record { fates = life.fates; is_pending = true; waiting = life.waiting }

handle_cases : (k h : Handle) → (k ≡ h) ⊎ (k ≢ h)
handle_cases k h = split_handle k h inl (λ ne. inr (λ e. ne (ap (λ (x : Handle). x.slot) e))) (λ s ne. inr (λ e. ne (ap (λ (x : Handle). x.gen_) e)))

pub lt_unless : (i n : ℕ) → i < n + 1 → i ≢ n → i < n
lt_unless i n l ne = elim (cases_lt i n) [ inl b ↦ b | inr a ↦ absurd (ne (let z : i ≡ n = omega (arith, a, l) in z)) ]

-- a test as a number
abbrev one_if : Bool → ℕ
one_if b = cond b 1 0

count_same : (t u : ℕ → Bool) (n : ℕ) → ((k : ℕ) → k < n → t k ≡ u k) → count_below t n ≡ count_below u n
count_same t u zero h = refl
count_same t u (suc n) h =
    let here : one_if (t n) ≡ one_if (u n) = ap (λ b. one_if b) (h n (omega arith)) in
    let rest : count_below t n ≡ count_below u n = count_same t u n (λ k l. h k (omega arith)) in
    omega arith

-- one more handle, and its line one more that is left
count_left_more : (stages : List LineStage) (k : ℕ) → k < length stages → count_left (slice_set stages k Issued) (k + 1) ≡ count_left stages k + 1
count_left_more stages k near =
    let last : one_if (not (ended (slice_set stages k Issued) k)) ≡ 1 = ap (λ s. one_if (not (stage_ended s))) (get_or-set_same stages k Issued Unissued near) in
    let rest : count_below (λ i. not (ended (slice_set stages k Issued) i)) k ≡ count_left stages k =
    count_same (λ i. not (ended (slice_set stages k Issued) i)) (λ i. not (ended stages i)) k (λ i l. ap (λ s. not (stage_ended s)) (get_or-set_other stages k i Issued Unissued (λ e. absurd (omega (arith, e, l))))) in
    (ap (count_below (λ i. not (ended (slice_set stages k Issued) i))) (add-one k) ∙ (let z : one_if (not (ended (slice_set stages k Issued) k)) + count_below (λ i. not (ended (slice_set stages k Issued) i)) k ≡ count_left stages k + 1 = omega arith in z))

module _ (g : GraphValue) (stages : List LineStage) (handles : List Handle) (table after : EventMap) (e : AreEvents g stages handles table) (is_map : IsEventMap table)
    (h : Handle) (is : after ≡ created_at table h.slot) (next : h ≡ next_handle table h.slot) (may : MayServe table h.slot) (tells : TellsNew table after h)
    (all : length stages ≡ length g.lines) (left : length handles < length g.lines)
  where
    near : length handles < length stages
    near = subst (λ n. length handles < n) (sym all) left

    -- the new handle is none of the others
    new_handle : (i : ℕ) (k : Handle) → slice_get handles i ≡ Some k → k ≢ h
    new_handle i k at same = none-some (answer_for (end_so_far (stage_at stages i))) (sym tells.unknown ∙ (ap (answer table) (sym same) ∙ e.answers i k at))

    issued_after : (i : ℕ) → (issued (slice_set stages (length handles) Issued) i ≡ true) ↔ (i < length (handles ++ h ∷ []))
    issued_after i =
        let long : length (handles ++ h ∷ []) ≡ length handles + 1 = snoc_length handles h in
        elim (cases_eq i (length handles)) [
          | inl same ↦ (λ _. (let s : i ≡ length handles = same in omega arith), λ _. ap (issued (slice_set stages (length handles) Issued)) same ∙ ap stage_issued (get_or-set_same stages (length handles) Issued Unissued near))
          | inr other ↦ (
            λ a. (let b : i < length handles = (e.each_issued i).0 (sym (ap stage_issued (get_or-set_other stages (length handles) i Issued Unissued other)) ∙ a) in omega arith),
            λ b. ap stage_issued (get_or-set_other stages (length handles) i Issued Unissued other) ∙ (e.each_issued i).1 (lt_unless i (length handles) (subst (λ n. i < n) long b) other),
          )
        ]

    stage_before : (i : ℕ) → i < length handles → stage_at (slice_set stages (length handles) Issued) i ≡ stage_at stages i
    stage_before i l = get_or-set_other stages (length handles) i Issued Unissued (λ s. absurd (omega (arith, s, l)))

    waits_after : (i : ℕ) (k : Handle) → IsPlaced after i k → (j : ℕ) × (slice_get (handles ++ h ∷ []) j ≡ Some k) × WaitsFor g i j
    waits_after i k p = elim (handle_cases k h) [
      | inl same ↦ absurd (none-some Pending (sym tells.unknown ∙ (ap (answer table) next ∙ is_map.pending h.slot i (subst (λ (w : List ℕ). Contains w i) (waiting_same h.slot) (subst (λ (x : Handle). Contains (life_at after x.slot).waiting i) same p.stands)))))
      | inr other ↦ (
          let w = e.waits i k (record { pending = sym (tells.others k other) ∙ p.pending; stands = subst (λ (ws : List ℕ). Contains ws i) (waiting_same k.slot) p.stands }) in
          (w.0, snoc_left handles h w.0 k w.1, w.2))
    ]
      where
        waiting_same : (s : ℕ) → (life_at after s).waiting ≡ (life_at table s).waiting
        waiting_same s = ap (λ (m : EventMap). (life_at m s).waiting) is ∙ (elim (cases_eq s h.slot) [
          | inl same ↦ ap (λ k. (life_at (created_at table h.slot) k).waiting) same ∙ (ap (λ (l : SlotLife). l.waiting) (life_here table h.slot _ may.near) ∙ ap (λ k. (life_at table k).waiting) (sym same))
          | inr other ↦ ap (λ (l : SlotLife). l.waiting) (life_there table h.slot _ s other)
        ])

    idle : ◌≡◌ {A = ℕ} (cond (life_at table h.slot).is_pending 1 0) 0
    idle = ap (λ b. one_if b) may.idle

    created_more : total created_in (created_at table h.slot).slots ≡ total created_in table.slots + 1
    created_more =
        let t : total created_in (created_at table h.slot).slots + (length (life_at table h.slot).fates + cond (life_at table h.slot).is_pending 1 0) ≡ total created_in table.slots + (length (life_at table h.slot).fates + 1) =
        total_after table h.slot (opened (life_at table h.slot)) may.near created_in in
        omega (arith, t, idle)

    pending_more : total pending_in (created_at table h.slot).slots ≡ total pending_in table.slots + 1
    pending_more =
        let t : total pending_in (created_at table h.slot).slots + cond (life_at table h.slot).is_pending 1 0 ≡ total pending_in table.slots + 1 =
        total_after table h.slot (opened (life_at table h.slot)) may.near pending_in in
        omega (arith, t, idle)

    pub events_issued : AreEvents g (slice_set stages (length handles) Issued) (handles ++ h ∷ []) after
    events_issued = record {
      waiters = ap (λ (m : EventMap). m.waiters) is ∙ e.waiters;
      last = ap (λ (m : EventMap). m.last_gen) is ∙ e.last;
      each_issued = issued_after;
      once = λ a b k ea eb. (elim (snoc_cases handles h a k ea) [
        | inl la ↦ (elim (snoc_cases handles h b k eb) [ inl lb ↦ e.once a b k la lb | inr rb ↦ absurd (new_handle a k la rb.1) ])
        | inr ra ↦ (elim (snoc_cases handles h b k eb) [ inl lb ↦ absurd (new_handle b k lb ra.1) | inr rb ↦ ra.0 ∙ sym rb.0 ])
      ]);
      answers = λ i k at. (elim (snoc_cases handles h i k at) [
        | inl l ↦ tells.others k (new_handle i k l) ∙ (e.answers i k l ∙ ap (λ s. Some (answer_for (end_so_far s))) (sym (stage_before i (slice_get_within handles i k l))))
        | inr r ↦ ap (answer after) r.1 ∙ (tells.pending ∙ ap (λ s. Some (answer_for (end_so_far s))) (sym (ap (stage_at (slice_set stages (length handles) Issued)) r.0 ∙ get_or-set_same stages (length handles) Issued Unissued near)))
      ]);
      only = λ k a at. (elim (handle_cases k h) [
        | inl same ↦ subst (Contains (handles ++ h ∷ [])) (sym same) (at_contains (handles ++ h ∷ []) (length handles) h (snoc_last handles h))
        | inr other ↦ (let c = contains_at handles k (e.only k a (sym (tells.others k other) ∙ at)) in at_contains (handles ++ h ∷ []) c.0 k (snoc_left handles h c.0 k c.1))
      ]);
      all_created = ap (λ (m : EventMap). total created_in m.slots) is ∙ (created_more ∙ (ap (λ n. n + 1) e.all_created ∙ sym (snoc_length handles h)));
      all_pending = ap (λ (m : EventMap). total pending_in m.slots) is ∙ (pending_more ∙ (ap (λ n. n + 1) e.all_pending ∙ (sym (count_left_more stages (length handles) near) ∙ ap (count_left (slice_set stages (length handles) Issued)) (sym (snoc_length handles h)))));
      waits = waits_after;
    }

-- A LINE GOES ON to another stage, neither of which is its end
pub record GoesOnIssued (old new : LineStage) : Type 0 where
  pub was_issued : stage_issued old ≡ true
  pub is_issued : stage_issued new ≡ true
  pub was_left : stage_ended old ≡ false
  pub is_left : stage_ended new ≡ false
  pub same : end_so_far new ≡ end_so_far old

pub events_gone : (g : GraphValue) (stages : List LineStage) (handles : List Handle) (table : EventMap) (i : ℕ) (s : LineStage) → i < length stages → GoesOnIssued (stage_at stages i) s → AreEvents g stages handles table → AreEvents g (slice_set stages i s) handles table
events_gone g stages handles table i s near goes e = record {
  waiters = e.waiters;
  last = e.last;
  each_issued = λ k. (elim (cases_eq k i) [
    | inl same ↦ (λ h. (e.each_issued k).0 (ap (issued stages) same ∙ goes.was_issued), λ h. ap (issued (slice_set stages i s)) same ∙ (ap stage_issued here ∙ goes.is_issued))
    | inr other ↦ (λ h. (e.each_issued k).0 (sym (ap stage_issued (there k other)) ∙ h), λ h. ap stage_issued (there k other) ∙ (e.each_issued k).1 h)
  ]);
  once = e.once;
  answers = λ k h at. e.answers k h at ∙ ap (λ x. Some (answer_for x)) (elim (cases_eq k i) [
    | inl same ↦ ap (λ m. end_so_far (stage_at stages m)) same ∙ (sym (ap end_so_far here ∙ goes.same) ∙ ap (λ m. end_so_far (stage_at (slice_set stages i s) m)) (sym same))
    | inr other ↦ sym (ap end_so_far (there k other))
  ]);
  only = e.only;
  all_created = e.all_created;
  all_pending = e.all_pending ∙ count_same (λ k. not (ended stages k)) (λ k. not (ended (slice_set stages i s) k)) (length handles) (λ k l. ap not (elim (cases_eq k i) [
    | inl same ↦ ap (ended stages) same ∙ (goes.was_left ∙ sym (ap (ended (slice_set stages i s)) same ∙ (ap stage_ended here ∙ goes.is_left)))
    | inr other ↦ sym (ap stage_ended (there k other))
  ]));
  waits = e.waits;
}
  where
    here : stage_at (slice_set stages i s) i ≡ s
    here = get_or-set_same stages i s Unissued near

    there : (k : ℕ) → k ≢ i → stage_at (slice_set stages i s) k ≡ stage_at stages k
    there k ne = get_or-set_other stages i k s Unissued ne

-- A LINE ENDS, and its handle with it
count_left_fewer : (stages : List LineStage) (i n : ℕ) (x : End) → i < length stages → i < n → ended stages i ≡ false → count_left (slice_set stages i (Ended x)) n + 1 ≡ count_left stages n
count_left_fewer stages i zero x near l left = absurd (omega (arith, l))
count_left_fewer stages i (suc n) x near l left = elim (cases_eq i n) [
  | inl same ↦ (
      let now : one_if (not (ended (slice_set stages i (Ended x)) n)) ≡ 0 = ap (λ k. one_if (not (ended (slice_set stages i (Ended x)) k))) (sym same) ∙ ap (λ s. one_if (not (stage_ended s))) (get_or-set_same stages i (Ended x) Unissued near) in
      let before : one_if (not (ended stages n)) ≡ 1 = ap (λ k. one_if (not (ended stages k))) (sym same) ∙ ap (λ b. one_if (not b)) left in
      let rest : count_left (slice_set stages i (Ended x)) n ≡ count_left stages n =
      count_same (λ k. not (ended (slice_set stages i (Ended x)) k)) (λ k. not (ended stages k)) n (λ k b. ap (λ s. not (stage_ended s)) (get_or-set_other stages i k (Ended x) Unissued (λ e. absurd (omega (arith, e, same, b))))) in
      omega arith)
  | inr other ↦ (
      let here : one_if (not (ended (slice_set stages i (Ended x)) n)) ≡ one_if (not (ended stages n)) = ap (λ s. one_if (not (stage_ended s))) (get_or-set_other stages i n (Ended x) Unissued (λ e. other (sym e))) in
      let rest : count_left (slice_set stages i (Ended x)) n + 1 ≡ count_left stages n = count_left_fewer stages i n x near (lt_unless i n (omega (arith, l)) other) left in
      omega arith)
]

module _ (g : GraphValue) (stages : List LineStage) (handles : List Handle) (table after : EventMap) (e : AreEvents g stages handles table)
    (i : ℕ) (h : Handle) (x : End) (f : Fate) (at : slice_get handles i ≡ Some h) (is : after ≡ ended_with table h f)
    (near : i < length stages) (left : stage_ended (stage_at stages i) ≡ false) (pending : answer table h ≡ Some Pending)
    (fate : answer_of f ≡ answer_for x) (others : (k : Handle) → k ≢ h → answer after k ≡ answer table k) (here : answer after h ≡ Some (answer_of f))
  where
    is_pending_now : IsNow table h
    is_pending_now = is_now table h pending

    stage_here : stage_at (slice_set stages i (Ended x)) i ≡ Ended x
    stage_here = get_or-set_same stages i (Ended x) Unissued near

    stage_there : (k : ℕ) → k ≢ i → stage_at (slice_set stages i (Ended x)) k ≡ stage_at stages k
    stage_there k ne = get_or-set_other stages i k (Ended x) Unissued ne

    within : i < length handles
    within = slice_get_within handles i h at

    abbrev closed : SlotLife → SlotLife
    closed life = record { fates = life.fates ++ f ∷ []; is_pending = false; waiting = [] }

    is_open : ◌≡◌ {A = ℕ} (cond (life_at table h.slot).is_pending 1 0) 1
    is_open = ap (λ b. one_if b) is_pending_now.pending

    created_same : total created_in (ended_with table h f).slots ≡ total created_in table.slots
    created_same =
        let t : total created_in (ended_with table h f).slots + (length (life_at table h.slot).fates + cond (life_at table h.slot).is_pending 1 0) ≡ total created_in table.slots + (length ((life_at table h.slot).fates ++ f ∷ []) + 0) =
        total-put created_in table.slots h.slot (closed (life_at table h.slot)) unused is_pending_now.near in
        let long : length ((life_at table h.slot).fates ++ f ∷ []) ≡ length (life_at table h.slot).fates + 1 = snoc_length (life_at table h.slot).fates f in
        omega (arith, t, is_open, long)

    pending_fewer : total pending_in (ended_with table h f).slots + 1 ≡ total pending_in table.slots
    pending_fewer =
        let t : total pending_in (ended_with table h f).slots + cond (life_at table h.slot).is_pending 1 0 ≡ total pending_in table.slots + 0 =
        total-put pending_in table.slots h.slot (closed (life_at table h.slot)) unused is_pending_now.near in
        omega (arith, t, is_open)

    waits_ended : (k : ℕ) (w : Handle) → IsPlaced after k w → (j : ℕ) × (slice_get handles j ≡ Some w) × WaitsFor g k j
    waits_ended k w p = elim (handle_cases w h) [
      | inl same ↦ absurd (answer_apart f (same_Some Pending (answer_of f) (sym (ap (answer after) (sym same) ∙ p.pending) ∙ here)))
      | inr other ↦ (elim (cases_eq w.slot h.slot) [
        | inl slot ↦ absurd (contains_none k (subst (λ (ws : List ℕ). Contains ws k) (ap (λ (m : EventMap). (life_at m w.slot).waiting) is ∙ (ap (λ s. (life_at (ended_with table h f) s).waiting) slot ∙ ap (λ (l : SlotLife). l.waiting) (get_or-set_same table.slots h.slot (closed (life_at table h.slot)) unused is_pending_now.near))) p.stands))
        | inr slots ↦ e.waits k w (record {
          pending = sym (others w other) ∙ p.pending;
          stands = subst (λ (ws : List ℕ). Contains ws k) (ap (λ (m : EventMap). (life_at m w.slot).waiting) is ∙ ap (λ (l : SlotLife). l.waiting) (get_or-set_other table.slots h.slot w.slot (closed (life_at table h.slot)) unused slots)) p.stands;
        })
      ])
    ]

    pub events_ended : AreEvents g (slice_set stages i (Ended x)) handles after
    events_ended = record {
      waiters = ap (λ (m : EventMap). m.waiters) is ∙ e.waiters;
      last = ap (λ (m : EventMap). m.last_gen) is ∙ e.last;
      each_issued = λ k. (elim (cases_eq k i) [
        | inl same ↦ (λ _. subst (λ m. m < length handles) (sym same) within, λ _. ap (issued (slice_set stages i (Ended x))) same ∙ ap stage_issued stage_here)
        | inr other ↦ (λ a. (e.each_issued k).0 (sym (ap stage_issued (stage_there k other)) ∙ a), λ b. ap stage_issued (stage_there k other) ∙ (e.each_issued k).1 b)
      ]);
      once = e.once;
      answers = λ k w ek. (elim (cases_eq k i) [
        | inl same ↦ ap (answer after) (same_Some w h (sym ek ∙ (ap (slice_get handles) same ∙ at))) ∙ (here ∙ (ap Some fate ∙ ap (λ s. Some (answer_for (end_so_far s))) (sym (ap (stage_at (slice_set stages i (Ended x))) same ∙ stage_here))))
        | inr other ↦ others w (λ eq. other (e.once k i h (ek ∙ ap Some eq) at)) ∙ (e.answers k w ek ∙ ap (λ s. Some (answer_for (end_so_far s))) (sym (stage_there k other)))
      ]);
      only = λ w a ea. (elim (handle_cases w h) [
        | inl same ↦ subst (Contains handles) (sym same) (at_contains handles i h at)
        | inr other ↦ e.only w a (sym (others w other) ∙ ea)
      ]);
      all_created = ap (λ (m : EventMap). total created_in m.slots) is ∙ (created_same ∙ e.all_created);
      all_pending =
          let fewer : count_left (slice_set stages i (Ended x)) (length handles) + 1 ≡ count_left stages (length handles) = count_left_fewer stages i (length handles) x near within left in
          let before : total pending_in table.slots ≡ count_left stages (length handles) = e.all_pending in
          ap (λ (m : EventMap). total pending_in m.slots) is ∙ (let z : total pending_in (ended_with table h f).slots ≡ count_left (slice_set stages i (Ended x)) (length handles) = omega (arith, fewer, before, pending_fewer) in z);
      waits = waits_ended;
    }

-- A LINE STANDS BY
module _ (g : GraphValue) (stages : List LineStage) (handles : List Handle) (table after : EventMap) (e : AreEvents g stages handles table)
    (i j : ℕ) (h : Handle) (at : slice_get handles j ≡ Some h) (is : after ≡ placed_on table h i) (pending : answer table h ≡ Some Pending)
    (same : (k : Handle) → answer after k ≡ answer table k) (waits_for : WaitsFor g i j)
  where
    here_now : IsNow table h
    here_now = is_now table h pending

    abbrev joined : SlotLife → SlotLife
    joined life = record { fates = life.fates; is_pending = life.is_pending; waiting = i ∷ life.waiting }

    counts_same : (f : SlotLife → ℕ) → f (joined (life_at table h.slot)) ≡ f (life_at table h.slot) → total f (placed_on table h i).slots ≡ total f table.slots
    counts_same f eq =
        let t : total f (placed_on table h i).slots + f (life_at table h.slot) ≡ total f table.slots + f (joined (life_at table h.slot)) = total-put f table.slots h.slot (joined (life_at table h.slot)) unused here_now.near in
        omega (arith, t, eq)

    old_waits : (k : ℕ) (w : Handle) → answer after w ≡ Some Pending → Contains (life_at table w.slot).waiting k → (m : ℕ) × (slice_get handles m ≡ Some w) × WaitsFor g k m
    old_waits k w p c = e.waits k w (record { pending = sym (same w) ∙ p; stands = c })

    -- a pending handle of the slot is the one that was pending there
    only_pending : (w : Handle) → w.slot ≡ h.slot → answer after w ≡ Some Pending → w ≡ h
    only_pending w slot p =
        let n = is_now table w (sym (same w) ∙ p) in
        handle_eq w h slot (n.last ∙ (ap (λ s. length (life_at table s).fates) slot ∙ sym here_now.last))

    waits_placed : (k : ℕ) (w : Handle) → IsPlaced after k w → (m : ℕ) × (slice_get handles m ≡ Some w) × WaitsFor g k m
    waits_placed k w p = elim (cases_eq w.slot h.slot) [
      | inl slot ↦ (elim (contains_cases i (life_at table w.slot).waiting k (subst (λ (ws : List ℕ). Contains ws k) (ap (λ (m : EventMap). (life_at m w.slot).waiting) is
          ∙ (ap (λ s. (life_at (placed_on table h i) s).waiting) slot ∙ (ap (λ (l : SlotLife). l.waiting) (get_or-set_same table.slots h.slot (joined (life_at table h.slot)) unused here_now.near) ∙ ap (λ s. i ∷ (life_at table s).waiting) (sym slot)))) p.stands)) [
            | inl first ↦ (j, at ∙ ap Some (sym (only_pending w slot p.pending)), subst (λ m. WaitsFor g m j) first waits_for)
            | inr rest ↦ old_waits k w p.pending rest
          ])
      | inr slots ↦ old_waits k w p.pending (subst (λ (ws : List ℕ). Contains ws k) (ap (λ (m : EventMap). (life_at m w.slot).waiting) is ∙ ap (λ (l : SlotLife). l.waiting) (get_or-set_other table.slots h.slot w.slot (joined (life_at table h.slot)) unused slots)) p.stands)
    ]

    pub events_placed : AreEvents g stages handles after
    events_placed = record {
      waiters = ap (λ (m : EventMap). m.waiters) is ∙ e.waiters;
      last = ap (λ (m : EventMap). m.last_gen) is ∙ e.last;
      each_issued = e.each_issued;
      once = e.once;
      answers = λ k w ek. same w ∙ e.answers k w ek;
      only = λ w a ea. e.only w a (sym (same w) ∙ ea);
      all_created = ap (λ (m : EventMap). total created_in m.slots) is ∙ (counts_same created_in refl ∙ e.all_created);
      all_pending = ap (λ (m : EventMap). total pending_in m.slots) is ∙ (counts_same pending_in refl ∙ e.all_pending);
      waits = waits_placed;
    }

-- A LINE IS WOKEN
pub events_woken : (g : GraphValue) (stages : List LineStage) (handles : List Handle) (table after : EventMap) (k : ℕ) → Gives table k after → AreEvents g stages handles table → AreEvents g stages handles after
events_woken g stages handles table after k gives e =
    let slots : after.slots ≡ table.slots = gives.4 in
    let same : (h : Handle) → answer after h ≡ answer table h = λ h. ap (λ (ls : List SlotLife). answer_in (slice_index_or ls h.slot unused) h.gen_) slots in
    record {
      waiters = gives.2 ∙ e.waiters;
      last = gives.3 ∙ e.last;
      each_issued = e.each_issued;
      once = e.once;
      answers = λ i h at. same h ∙ e.answers i h at;
      only = λ h a at. e.only h a (sym (same h) ∙ at);
      all_created = ap (total created_in) slots ∙ e.all_created;
      all_pending = ap (total pending_in) slots ∙ e.all_pending;
      waits = λ i h p. e.waits i h (record { pending = sym (same h) ∙ p.pending; stands = subst (λ (ls : List SlotLife). Contains (slice_index_or ls h.slot unused).waiting i) slots p.stands });
    }
