-- A step of the walk over the links of a task that is just over; longer tables.
use Rattle.std.proofs.Common.{◌≡◌, ℕ, ◌+◌, ◌-◌, ◌<◌, ◌≤◌, Bool, true, false, cond, not, inl, inr, List, length, refl, sym, ◌∙◌, ap, subst, arith}
use Rattle.std.specs.Prelude.{◌==◌, ◌&&◌, ◌||◌, nat_lt, slice_index, slice_index_or, slice_set}
use Rattle.std.proofs.lemmas.Bool.{cases_lt, lt-ltb, le-ltb, or_right, and_right}
use Rattle.basics.specs.Lists.{count_below}
use Rattle.basics.proofs.ListFacts.{count_below-max}
use Rattle.task_order.specs.declared.status.Status.{Status}
use Rattle.task_order.specs.Sequence.{is_over, is_lost}
use Rattle.task_window.specs.declared.links.Link.{Link}
use Rattle.task_window.specs.declared.queue.Queue.{Queue}
use Rattle.task_window.specs.Chains.{link_at, IsLatest}
use Rattle.task_window.specs.Waits.{status_at, spoiled_at, is_pending, is_spoiling, is_ahead, IsQueue, IsAtRest, IsPassing}
use Rattle.task_window.proofs.Counting.{count_same}
use Rattle.task_window.proofs.Passing.{passed_known, passed_waits, passed_room, passed}
use Rattle.task_window.proofs.Steps.{pending_till, spoiling_till, ahead_is, ahead_past, walk_on}

module _ (links : List Link) (status : ℕ → Status) (task e x : ℕ) (at : x + 1 ≡ e) (key : (link_at links x).key ≡ task) where
  pub till_pending : pending_till links status task e x ≡ true
  till_pending = or_right (is_pending links status x) (is_ahead links task e x) (ahead_is links task e x key (omega arith))

  till_fresh : spoiling_till links status task e x ≡ false
  till_fresh = and_right (is_spoiling links status x) (not (is_ahead links task e x)) (ap not (ahead_is links task e x key (omega arith)))

  till_closed : is_over (status task) ≡ true → pending_till links status task x x ≡ false
  till_closed over = ap (λ b. is_pending links status x || b) (ahead_past links task x x (omega arith)) ∙ ap (λ b. b || false) (ap (λ k. not (is_over (status k))) key ∙ ap not over)

  and_true : (b : Bool) → (b && true) ≡ b
  and_true true = refl
  and_true false = refl

  till_lost : spoiling_till links status task x x ≡ is_lost (status task)
  till_lost = ap (λ b. is_spoiling links status x && not b) (ahead_past links task x x (omega arith)) ∙ (and_true (is_spoiling links status x) ∙ ap (λ k. is_lost (status k)) key)

  below_same : (y : ℕ) → (y ≡ x → ⊥) → nat_lt y x ≡ nat_lt y e
  below_same y ne = elim (cases_lt y x) [
    | inl a ↦ lt-ltb y x a ∙ sym (lt-ltb y e (omega arith))
    | inr b ↦ le-ltb y x b ∙ sym (le-ltb y e (omega (arith, ne)))
  ]

  till_others : (y : ℕ) → (y ≡ x → ⊥) → pending_till links status task x y ≡ pending_till links status task e y
  till_others y ne = ap (λ b. is_pending links status y || (((link_at links y).key == task) && b)) (below_same y ne)

  till_alike : (y : ℕ) → (y ≡ x → ⊥) → spoiling_till links status task x y ≡ spoiling_till links status task e y
  till_alike y ne = ap (λ b. is_spoiling links status y && not (((link_at links y).key == task) && b)) (below_same y ne)

  module _ (n : ℕ) (waits : List ℕ) (spoiled : List Bool) (ready : List ℕ) (started count : ℕ)
      (q : IsQueue links n status (pending_till links status task e) (spoiling_till links status task e) waits spoiled ready started count)
      (h : x < length links) (below : (link_at links x).value < n) (j : ℕ) (is : (link_at links x).value ≡ j) where
    pub step_known : j < length waits
    step_known = let s : n ≤ length waits = q.waits_size in let k : j < n = passed_known links n status (pending_till links status task e) (spoiling_till links status task e) waits spoiled ready started count q x j h is till_pending below in omega arith

    pub step_spoiled : j < length spoiled
    step_spoiled = let s : n ≤ length spoiled = q.spoiled_size in let k : j < n = passed_known links n status (pending_till links status task e) (spoiling_till links status task e) waits spoiled ready started count q x j h is till_pending below in omega arith

    pub step_waits : 0 < slice_index waits j
    step_waits = passed_waits links n status (pending_till links status task e) (spoiling_till links status task e) waits spoiled ready started count q x j h is till_pending below

    pub step_room : count < length ready
    step_room = passed_room links n status (pending_till links status task e) (spoiling_till links status task e) waits spoiled ready started count q x j h is till_pending below

    pub step : is_over (status task) ≡ true → (lost : Bool) → lost ≡ is_lost (status task) →
        (waits' : List ℕ) → waits' ≡ slice_set waits j (slice_index waits j - 1) →
        (spoiled' : List Bool) → spoiled' ≡ cond lost (slice_set spoiled j true) spoiled →
        (ready' : List ℕ) (count' : ℕ) → ready' ≡ cond (slice_index waits j - 1 == 0) (slice_set ready count j) ready → count' ≡ cond (slice_index waits j - 1 == 0) (count + 1) count →
        IsQueue links n status (pending_till links status task x) (spoiling_till links status task x) waits' spoiled' ready' started count'
    step over lost isl waits' ws spoiled' ss ready' count' rs cs =
        passed links n status (pending_till links status task e) (spoiling_till links status task e) waits spoiled ready started count q x j h is till_pending below till_fresh
        (pending_till links status task x) (spoiling_till links status task x) lost (till_closed over) till_others (till_lost ∙ sym isl) till_alike waits' ws spoiled' ss ready' count' rs cs

-- the walk goes one link on
pub pass_step : (q q' : Queue) (task e x f j : ℕ) (lost : Bool) → IsPassing q task e → x + 1 ≡ e → e ≤ length q.links.links → (link_at q.links.links x).key ≡ task → j ≡ (link_at q.links.links x).value →
    is_over (status_at q.status.items task) ≡ true → lost ≡ is_lost (status_at q.status.items task) →
    q' ≡ record q { waits = q'.waits; spoiled = q'.spoiled; ready = q'.ready; count = q'.count } →
    q'.waits.items ≡ slice_set q.waits.items j (slice_index q.waits.items j - 1) →
    q'.spoiled.items ≡ cond lost (slice_set q.spoiled.items j true) q.spoiled.items →
    q'.ready.items ≡ cond (slice_index q.waits.items j - 1 == 0) (slice_set q.ready.items q.count j) q.ready.items →
    q'.count ≡ cond (slice_index q.waits.items j - 1 == 0) (q.count + 1) q.count →
    IsLatest q'.links.links (link_at q'.links.links x).key x f → IsPassing q' task f
pass_step q q' task e x f j lost p at le key is over isl same ws ss rs cs latest =
    let latest' : IsLatest q.links.links task x f = subst (λ k. IsLatest q.links.links k x f) key (subst (λ (r : Queue). IsLatest r.links.links (link_at r.links.links x).key x f) same latest) in
    let s = p.sized in
    subst (λ (r : Queue). IsPassing r task f) (sym same) (record {
      sized = record { few = s.few; keys = s.keys; left = s.left; links = s.links; ends = s.ends };
      queue = walk_on q.links.links (length q.status.items) (status_at q.status.items) task q'.waits.items q'.spoiled.items q'.ready.items q.started q'.count x f latest'
          (step q.links.links (status_at q.status.items) task e x at key (length q.status.items) q.waits.items q.spoiled.items q.ready.items q.started q.count p.queue (omega arith) (s.ends x (omega arith)).1 j (sym is)
          over lost isl q'.waits.items ws q'.spoiled.items ss q'.ready.items q'.count rs cs);
    })

-- no more are ready than there are
pub ready_within : (links : List Link) (n : ℕ) (status : ℕ → Status) (pending spoils : ℕ → Bool) (waits : List ℕ) (spoiled : List Bool) (ready : List ℕ) (started count : ℕ) →
    IsQueue links n status pending spoils waits spoiled ready started count → count ≤ n
ready_within links n status pending spoils waits spoiled ready started count q =
    let a : count ≡ count_below (λ j. slice_index waits j == 0) n = q.size in
    let b : count_below (λ j. slice_index waits j == 0) n ≤ n = count_below-max (λ j. slice_index waits j == 0) n in omega arith

-- tables that are longer
module _ (links : List Link) (n : ℕ) (status : ℕ → Status) (pending spoils : ℕ → Bool) (waits : List ℕ) (spoiled : List Bool) (ready : List ℕ) (started count : ℕ)
    (q : IsQueue links n status pending spoils waits spoiled ready started count)
    (waits' : List ℕ) (spoiled' : List Bool) (ready' : List ℕ)
    (wl : length waits ≤ length waits') (ws : (k d : ℕ) → k < length waits → slice_index_or waits' k d ≡ slice_index_or waits k d)
    (sl : length spoiled ≤ length spoiled') (ss : (k : ℕ) (d : Bool) → k < length spoiled → slice_index_or spoiled' k d ≡ slice_index_or spoiled k d)
    (rl : length ready ≤ length ready') (rs : (k d : ℕ) → k < length ready → slice_index_or ready' k d ≡ slice_index_or ready k d) where
  waits_at : (j : ℕ) → j < n → slice_index waits' j ≡ slice_index waits j
  waits_at j h = let a : n ≤ length waits = q.waits_size in ws j 0 (omega arith)

  spoiled_here : (j : ℕ) → j < n → spoiled_at spoiled' j ≡ spoiled_at spoiled j
  spoiled_here j h = let a : n ≤ length spoiled = q.spoiled_size in ss j false (omega arith)

  ready_at : (k : ℕ) → k < count → slice_index ready' k ≡ slice_index ready k
  ready_at k h = let a : n ≤ length ready = q.ready_size in let b : count ≤ n = ready_within links n status pending spoils waits spoiled ready started count q in rs k 0 (omega arith)

  pub queue_longer : IsQueue links n status pending spoils waits' spoiled' ready' started count
  queue_longer = record {
    waits_size = (let a : n ≤ length waits = q.waits_size in let r : n ≤ length waits' = omega arith in r);
    spoiled_size = (let a : n ≤ length spoiled = q.spoiled_size in let r : n ≤ length spoiled' = omega arith in r);
    ready_size = (let a : n ≤ length ready = q.ready_size in let r : n ≤ length ready' = omega arith in r);
    counts = λ j h. waits_at j h ∙ q.counts j h;
    spoils_some = λ j h e. q.spoils_some j h (sym (spoiled_here j h) ∙ e);
    spoils_all = λ j h s. spoiled_here j h ∙ q.spoils_all j h s;
    size = q.size ∙ count_same (λ j. slice_index waits j == 0) (λ j. slice_index waits' j == 0) n (λ j h. ap (λ v. v == 0) (sym (waits_at j h)));
    within = q.within;
    listed = λ k h. (let p = q.listed k h in subst (λ i. (i < n) × (slice_index waits' i ≡ 0)) (sym (ready_at k h)) (p.0, waits_at (slice_index ready k) p.0 ∙ p.1));
    all = λ j h z. (let r = q.all j h (sym (waits_at j h) ∙ z) in (r.0, r.1, ready_at r.0 r.1 ∙ r.2));
    distinct = λ k m lo hi e. q.distinct k m lo hi (sym (ready_at k (omega arith)) ∙ (e ∙ ready_at m hi));
    begun = λ k h e. (let w : started ≤ count = q.within in q.begun k h (ap status (sym (ready_at k (omega arith))) ∙ e));
    due = λ k lo hi. ap status (ready_at k hi) ∙ q.due k lo hi;
    waiting = λ j h w. q.waiting j h (let e : slice_index waits' j ≡ slice_index waits j = waits_at j h in omega arith);
  }

-- a queue with longer tables
pub rest_longer : (q q' : Queue) → IsAtRest q → q'.status.items ≡ q.status.items → q'.left ≡ q.left → q'.links.links ≡ q.links.links → q.links.keys ≤ q'.links.keys →
    length q.waits.items ≤ length q'.waits.items → ((k d : ℕ) → k < length q.waits.items → slice_index_or q'.waits.items k d ≡ slice_index_or q.waits.items k d) →
    length q.spoiled.items ≤ length q'.spoiled.items → ((k : ℕ) (d : Bool) → k < length q.spoiled.items → slice_index_or q'.spoiled.items k d ≡ slice_index_or q.spoiled.items k d) →
    length q.ready.items ≤ length q'.ready.items → ((k d : ℕ) → k < length q.ready.items → slice_index_or q'.ready.items k d ≡ slice_index_or q.ready.items k d) →
    q'.started ≡ q.started → q'.count ≡ q.count → IsAtRest q'
rest_longer q q' r st lf li ke wl ws sl ss rl rs sd ct =
    let s = r.sized in
    record {
      sized = record {
        few = subst (λ xs. length xs ≤ 2147483648) (sym st) s.few;
        keys = subst (λ xs. length xs ≤ q'.links.keys) (sym st) (let a : length q.status.items ≤ q.links.keys = s.keys in let b : length q.status.items ≤ q'.links.keys = omega arith in b);
        left = lf ∙ (s.left ∙ ap (λ (xs : List Status). count_below (λ j. not (is_over (status_at xs j))) (length xs)) (sym st));
        links = subst (λ (xs : List Link). length xs < 4294967296) (sym li) s.links;
        ends = subst (λ (xs : List Link). (x : ℕ) → x < length xs → ((link_at xs x).key < length q'.status.items) × ((link_at xs x).value < length q'.status.items)) (sym li)
            (subst (λ (xs : List Status). (x : ℕ) → x < length q.links.links → ((link_at q.links.links x).key < length xs) × ((link_at q.links.links x).value < length xs)) (sym st) s.ends);
      };
      queue = subst (λ (ls : List Link). IsQueue ls (length q'.status.items) (status_at q'.status.items) (is_pending ls (status_at q'.status.items)) (is_spoiling ls (status_at q'.status.items)) q'.waits.items q'.spoiled.items q'.ready.items q'.started q'.count) (sym li)
          (subst (λ (xs : List Status). IsQueue q.links.links (length xs) (status_at xs) (is_pending q.links.links (status_at xs)) (is_spoiling q.links.links (status_at xs)) q'.waits.items q'.spoiled.items q'.ready.items q'.started q'.count) (sym st)
          (subst (λ sd. IsQueue q.links.links (length q.status.items) (status_at q.status.items) (is_pending q.links.links (status_at q.status.items)) (is_spoiling q.links.links (status_at q.status.items)) q'.waits.items q'.spoiled.items q'.ready.items sd q'.count) (sym sd)
          (subst (λ ct. IsQueue q.links.links (length q.status.items) (status_at q.status.items) (is_pending q.links.links (status_at q.status.items)) (is_spoiling q.links.links (status_at q.status.items)) q'.waits.items q'.spoiled.items q'.ready.items q.started ct) (sym ct)
          (queue_longer q.links.links (length q.status.items) (status_at q.status.items) (is_pending q.links.links (status_at q.status.items)) (is_spoiling q.links.links (status_at q.status.items)) q.waits.items q.spoiled.items q.ready.items q.started q.count r.queue
          q'.waits.items q'.spoiled.items q'.ready.items wl ws sl ss rl rs))));
    }
