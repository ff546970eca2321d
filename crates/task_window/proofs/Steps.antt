-- What a start, an end and a walk over links leave of a queue.
use Rattle.std.proofs.Common.{◌≡◌, ℕ, ◌+◌, ◌<◌, ◌≤◌, Bool, true, false, not, inl, inr, List, length, refl, sym, ◌∙◌, ap, subst, arith}
use Rattle.std.specs.Prelude.{◌==◌, ◌&&◌, ◌||◌, nat_lt, slice_index, slice_set}
use Rattle.std.proofs.lemmas.Bool.{cases_lt, cases_eq, eq-eqb, ne_eqb, lt-ltb, le-ltb, true≢false}
use Rattle.std.proofs.lemmas.List.{length-set, get_or-set_same, get_or-set_other}
use Rattle.basics.specs.Lists.{count_below}
use Rattle.basics.proofs.ListFacts.{one_more_counted}
use Rattle.task_order.specs.declared.status.Status.{Status}
use Rattle.task_order.specs.declared.status.Status.TheVariants.{Waiting, Running, Done, Faulted, Cancelled}
use Rattle.task_order.specs.Sequence.{is_over, is_lost}
use Rattle.task_window.specs.declared.links.Link.{Link}
use Rattle.task_window.specs.Chains.{link_at, IsLatest}
use Rattle.task_window.specs.Waits.{leads, status_at, is_pending, is_spoiling, is_ahead, IsQueue}
use Rattle.task_window.proofs.Counting.{count_same}

-- tests that agree on the links
module _ (links : List Link) (n : ℕ) (status : ℕ → Status) (pending spoils pending' spoils' : ℕ → Bool) (waits : List ℕ) (spoiled : List Bool) (ready : List ℕ) (started count : ℕ)
    (same : (x : ℕ) → x < length links → pending x ≡ pending' x) (alike : (x : ℕ) → x < length links → spoils x ≡ spoils' x)
    (q : IsQueue links n status pending spoils waits spoiled ready started count) where
  pub queue_alike : IsQueue links n status pending' spoils' waits spoiled ready started count
  queue_alike = record {
    waits_size = q.waits_size;
    spoiled_size = q.spoiled_size;
    ready_size = q.ready_size;
    counts = λ j h. q.counts j h ∙ count_same (leads links pending j) (leads links pending' j) (length links) (λ x l. ap (λ b. ((link_at links x).value == j) && b) (same x l));
    spoils_some = λ j h e. (let s = q.spoils_some j h e in (s.0, s.1, s.2, sym (alike s.0 s.1) ∙ s.3));
    spoils_all = λ j h s. q.spoils_all j h (s.0, s.1, s.2, alike s.0 s.1 ∙ s.3);
    size = q.size;
    within = q.within;
    listed = q.listed;
    all = q.all;
    distinct = q.distinct;
    begun = q.begun;
    due = q.due;
    waiting = q.waiting;
  }

-- how far tasks have come as one starts
pub set_here : (status : List Status) (i : ℕ) (s : Status) → i < length status → status_at (slice_set status i s) i ≡ s
set_here status i s h = get_or-set_same status i s Waiting h

pub set_there : (status : List Status) (i : ℕ) (s : Status) (k : ℕ) → (k ≡ i → ⊥) → status_at (slice_set status i s) k ≡ status_at status k
set_there status i s k ne = get_or-set_other status i k s Waiting ne

over_waits : (s : Status) → s ≡ Waiting → is_over s ≡ false
over_waits s e = ap is_over e

over_not_waiting : (s : Status) → is_over s ≡ true → s ≡ Waiting → ⊥
over_not_waiting s o e = true≢false (sym o ∙ ap is_over e)

running_not_waiting : (s : Status) → s ≡ Running → s ≡ Waiting → ⊥
running_not_waiting Waiting e f = cc
running_not_waiting Running e f = cc
running_not_waiting Done e f = cc
running_not_waiting Faulted e f = cc
running_not_waiting Cancelled e f = cc

-- the first task that is ready starts
module _ (links : List Link) (status : List Status) (waits : List ℕ) (spoiled : List Bool) (ready : List ℕ) (started count : ℕ)
    (q : IsQueue links (length status) (status_at status) (is_pending links (status_at status)) (is_spoiling links (status_at status)) waits spoiled ready started count)
    (more : started < count) (i : ℕ) (at : i ≡ slice_index ready started) (status' : List Status) (set : status' ≡ slice_set status i Running) where
  pub start_known : i < length status
  start_known = subst (λ k. k < length status) (sym at) (q.listed started more).0

  pub start_waits : status_at status i ≡ Waiting
  start_waits = ap (status_at status) at ∙ q.due started (omega arith) more

  pub start_none : slice_index waits i ≡ 0
  start_none = ap (slice_index waits) at ∙ (q.listed started more).1

  at_i : status_at status' i ≡ Running
  at_i = ap (λ xs. status_at xs i) set ∙ set_here status i Running start_known

  at_other : (k : ℕ) → (k ≡ i → ⊥) → status_at status' k ≡ status_at status k
  at_other k ne = ap (λ xs. status_at xs k) set ∙ set_there status i Running k ne

  same_over : (k : ℕ) → is_over (status_at status k) ≡ is_over (status_at status' k)
  same_over k = elim (cases_eq k i) [
    | inl e ↦ ap is_over (ap (status_at status) e ∙ start_waits) ∙ sym (ap is_over (ap (status_at status') e ∙ at_i))
    | inr ne ↦ ap is_over (sym (at_other k ne))
  ]

  same_lost : (k : ℕ) → is_lost (status_at status k) ≡ is_lost (status_at status' k)
  same_lost k = elim (cases_eq k i) [
    | inl e ↦ ap is_lost (ap (status_at status) e ∙ start_waits) ∙ sym (ap is_lost (ap (status_at status') e ∙ at_i))
    | inr ne ↦ ap is_lost (sym (at_other k ne))
  ]

  size' : length status' ≡ length status
  size' = ap length set ∙ length-set status i Running

  alike : IsQueue links (length status) (status_at status) (is_pending links (status_at status')) (is_spoiling links (status_at status')) waits spoiled ready started count
  alike = queue_alike links (length status) (status_at status) (is_pending links (status_at status)) (is_spoiling links (status_at status)) (is_pending links (status_at status')) (is_spoiling links (status_at status')) waits spoiled ready started count
      (λ x h. ap not (same_over (link_at links x).key)) (λ x h. same_lost (link_at links x).key) q

  started_here : IsQueue links (length status) (status_at status') (is_pending links (status_at status')) (is_spoiling links (status_at status')) waits spoiled ready (started + 1) count
  started_here = record {
    waits_size = q.waits_size;
    spoiled_size = q.spoiled_size;
    ready_size = q.ready_size;
    counts = alike.counts;
    spoils_some = alike.spoils_some;
    spoils_all = alike.spoils_all;
    size = q.size;
    within = (let r : started + 1 ≤ count = omega arith in r);
    listed = q.listed;
    all = q.all;
    distinct = q.distinct;
    begun = λ k l s. elim (cases_lt k started) [
      | inl old ↦ elim (cases_eq (slice_index ready k) i) [
        | inl e ↦ running_not_waiting (status_at status' i) at_i (ap (status_at status') (sym e) ∙ s)
        | inr ne ↦ q.begun k old (sym (at_other (slice_index ready k) ne) ∙ s)
      ]
      | inr new ↦ (let e : k ≡ started = omega arith in running_not_waiting (status_at status' i) at_i (ap (status_at status') (at ∙ sym (ap (slice_index ready) e)) ∙ s))
    ];
    due = λ k lo hi. at_other (slice_index ready k) (λ e. q.distinct started k (omega arith) hi (sym at ∙ sym e)) ∙ q.due k (omega arith) hi;
    waiting = λ j h w. at_other j (λ e. (let z : slice_index waits j ≡ 0 = ap (slice_index waits) e ∙ start_none in absurd (omega arith))) ∙ q.waiting j h w;
  }

  pub start_queue : IsQueue links (length status') (status_at status') (is_pending links (status_at status')) (is_spoiling links (status_at status')) waits spoiled ready (started + 1) count
  start_queue = subst (λ m. IsQueue links m (status_at status') (is_pending links (status_at status')) (is_spoiling links (status_at status')) waits spoiled ready (started + 1) count) (sym size') started_here

  pub start_left : count_below (λ j. not (is_over (status_at status' j))) (length status') ≡ count_below (λ j. not (is_over (status_at status j))) (length status)
  start_left = ap (count_below (λ j. not (is_over (status_at status' j)))) size' ∙ count_same (λ j. not (is_over (status_at status' j))) (λ j. not (is_over (status_at status j))) (length status) (λ k l. ap not (sym (same_over k)))

-- no task is ready that has not started
pub none_due : (links : List Link) (n : ℕ) (status : ℕ → Status) (pending spoils : ℕ → Bool) (waits : List ℕ) (spoiled : List Bool) (ready : List ℕ) (started count : ℕ) →
    IsQueue links n status pending spoils waits spoiled ready started count → started ≡ count → (j : ℕ) → j < n → status j ≡ Waiting → 0 < slice_index waits j
none_due links n status pending spoils waits spoiled ready started count q e j h s = positive (slice_index waits j) (λ z.
    (let r = q.all j h z in let b : r.0 < count = r.1 in q.begun r.0 (omega arith) (ap status r.2 ∙ s)))
  where
    positive : (m : ℕ) → (m ≡ 0 → ⊥) → 0 < m
    positive m f = omega (arith, f)

-- tests on the links from a task that is just over
pub ahead_is : (links : List Link) (task e x : ℕ) → (link_at links x).key ≡ task → x < e → is_ahead links task e x ≡ true
ahead_is links task e x k l = ap (λ b. b && nat_lt x e) (eq-eqb (link_at links x).key task k) ∙ lt-ltb x e l

pub ahead_past : (links : List Link) (task e x : ℕ) → e ≤ x → is_ahead links task e x ≡ false
ahead_past links task e x l = ap (λ b. ((link_at links x).key == task) && b) (le-ltb x e l) ∙ and_false ((link_at links x).key == task)
  where
    and_false : (b : Bool) → (b && false) ≡ false
    and_false true = refl
    and_false false = refl

ahead_other : (links : List Link) (task e x : ℕ) → ((link_at links x).key ≡ task → ⊥) → is_ahead links task e x ≡ false
ahead_other links task e x ne = ap (λ b. b && nat_lt x e) (ne_eqb (link_at links x).key task ne)

or_false : (b : Bool) → (b || false) ≡ b
or_false true = refl
or_false false = refl

and_true : (b : Bool) → (b && true) ≡ b
and_true true = refl
and_true false = refl

-- the walk goes on at an earlier link of the task
ahead_same : (links : List Link) (task n e : ℕ) → IsLatest links task n e → (x : ℕ) → is_ahead links task n x ≡ is_ahead links task e x
ahead_same links task n e i x = elim (cases_lt x e) [
  | inl low ↦ (
      let w : e ≤ n = i.within in
      ap (λ b. ((link_at links x).key == task) && b) (lt-ltb x n (omega arith) ∙ sym (lt-ltb x e low)))
  | inr mid ↦ elim (cases_lt x n) [
    | inl in' ↦ ahead_other links task n x (i.others x mid in') ∙ sym (ahead_other links task e x (i.others x mid in'))
    | inr past ↦ ahead_past links task n x past ∙ sym (ahead_past links task e x mid)
  ]
]

abbrev pub pending_till : List Link → (ℕ → Status) → ℕ → ℕ → ℕ → Bool
pending_till links status task e x = is_pending links status x || is_ahead links task e x

abbrev pub spoiling_till : List Link → (ℕ → Status) → ℕ → ℕ → ℕ → Bool
spoiling_till links status task e x = is_spoiling links status x && not (is_ahead links task e x)

module _ (links : List Link) (n : ℕ) (status : ℕ → Status) (task : ℕ) (waits : List ℕ) (spoiled : List Bool) (ready : List ℕ) (started count : ℕ) where
  pub walk_on : (m e : ℕ) → IsLatest links task m e → IsQueue links n status (pending_till links status task m) (spoiling_till links status task m) waits spoiled ready started count →
      IsQueue links n status (pending_till links status task e) (spoiling_till links status task e) waits spoiled ready started count
  walk_on m e i q = queue_alike links n status (pending_till links status task m) (spoiling_till links status task m) (pending_till links status task e) (spoiling_till links status task e) waits spoiled ready started count
      (λ x h. ap (λ b. is_pending links status x || b) (ahead_same links task m e i x)) (λ x h. ap (λ b. is_spoiling links status x && not b) (ahead_same links task m e i x)) q

  pub walk_ends : IsQueue links n status (pending_till links status task 0) (spoiling_till links status task 0) waits spoiled ready started count →
      IsQueue links n status (is_pending links status) (is_spoiling links status) waits spoiled ready started count
  walk_ends q = queue_alike links n status (pending_till links status task 0) (spoiling_till links status task 0) (is_pending links status) (is_spoiling links status) waits spoiled ready started count
      (λ x h. ap (λ b. is_pending links status x || b) (ahead_past links task 0 x (omega arith)) ∙ or_false (is_pending links status x))
      (λ x h. ap (λ b. is_spoiling links status x && not b) (ahead_past links task 0 x (omega arith)) ∙ and_true (is_spoiling links status x)) q

-- a task that runs is over
module _ (links : List Link) (status : List Status) (waits : List ℕ) (spoiled : List Bool) (ready : List ℕ) (started count : ℕ)
    (q : IsQueue links (length status) (status_at status) (is_pending links (status_at status)) (is_spoiling links (status_at status)) waits spoiled ready started count)
    (i : ℕ) (known : i < length status) (runs : status_at status i ≡ Running) (s : Status) (over : is_over s ≡ true) (status' : List Status) (set : status' ≡ slice_set status i s) where
  there : (k : ℕ) → (k ≡ i → ⊥) → status_at status' k ≡ status_at status k
  there k ne = ap (λ xs. status_at xs k) set ∙ set_there status i s k ne

  pub close_here : status_at status' i ≡ s
  close_here = ap (λ xs. status_at xs i) set ∙ set_here status i s known

  pub close_size : length status' ≡ length status
  close_size = ap length set ∙ length-set status i s

  close_pending : (x : ℕ) → x < length links → is_pending links (status_at status) x ≡ pending_till links (status_at status') i (length links) x
  close_pending x h = elim (cases_eq (link_at links x).key i) [
    | inl e ↦ ap (λ k. not (is_over (status_at status k))) e ∙ (ap (λ t. not (is_over t)) runs ∙
        sym (ap (λ b. is_pending links (status_at status') x || b) (ahead_is links i (length links) x e h) ∙ or_true (is_pending links (status_at status') x)))
    | inr ne ↦ ap (λ t. not (is_over t)) (sym (there (link_at links x).key ne)) ∙
        sym (ap (λ b. is_pending links (status_at status') x || b) (ahead_other links i (length links) x ne) ∙ or_false (is_pending links (status_at status') x))
  ]
    where
      or_true : (b : Bool) → (b || true) ≡ true
      or_true true = refl
      or_true false = refl

  close_spoiling : (x : ℕ) → x < length links → is_spoiling links (status_at status) x ≡ spoiling_till links (status_at status') i (length links) x
  close_spoiling x h = elim (cases_eq (link_at links x).key i) [
    | inl e ↦ ap (λ k. is_lost (status_at status k)) e ∙ (ap is_lost runs ∙
        sym (ap (λ b. is_spoiling links (status_at status') x && not b) (ahead_is links i (length links) x e h) ∙ and_false (is_spoiling links (status_at status') x)))
    | inr ne ↦ ap is_lost (sym (there (link_at links x).key ne)) ∙
        sym (ap (λ b. is_spoiling links (status_at status') x && not b) (ahead_other links i (length links) x ne) ∙ and_true (is_spoiling links (status_at status') x))
  ]
    where
      and_false : (b : Bool) → (b && false) ≡ false
      and_false true = refl
      and_false false = refl

  close_alike : IsQueue links (length status) (status_at status) (pending_till links (status_at status') i (length links)) (spoiling_till links (status_at status') i (length links)) waits spoiled ready started count
  close_alike = queue_alike links (length status) (status_at status) (is_pending links (status_at status)) (is_spoiling links (status_at status))
      (pending_till links (status_at status') i (length links)) (spoiling_till links (status_at status') i (length links)) waits spoiled ready started count close_pending close_spoiling q

  closed_here : IsQueue links (length status) (status_at status') (pending_till links (status_at status') i (length links)) (spoiling_till links (status_at status') i (length links)) waits spoiled ready started count
  closed_here = record {
    waits_size = q.waits_size;
    spoiled_size = q.spoiled_size;
    ready_size = q.ready_size;
    counts = close_alike.counts;
    spoils_some = close_alike.spoils_some;
    spoils_all = close_alike.spoils_all;
    size = q.size;
    within = q.within;
    listed = q.listed;
    all = q.all;
    distinct = q.distinct;
    begun = λ k l w. elim (cases_eq (slice_index ready k) i) [
      | inl e ↦ over_not_waiting s over (sym close_here ∙ (ap (status_at status') (sym e) ∙ w))
      | inr ne ↦ q.begun k l (sym (there (slice_index ready k) ne) ∙ w)
    ];
    due = λ k lo hi. there (slice_index ready k) (λ e. running_not_waiting (status_at status i) runs (ap (status_at status) (sym e) ∙ q.due k lo hi)) ∙ q.due k lo hi;
    waiting = λ j h w. there j (λ e. running_not_waiting (status_at status i) runs (ap (status_at status) (sym e) ∙ q.waiting j h w)) ∙ q.waiting j h w;
  }

  pub close_queue : IsQueue links (length status') (status_at status') (pending_till links (status_at status') i (length links)) (spoiling_till links (status_at status') i (length links)) waits spoiled ready started count
  close_queue = subst (λ m. IsQueue links m (status_at status') (pending_till links (status_at status') i (length links)) (spoiling_till links (status_at status') i (length links)) waits spoiled ready started count) (sym close_size) closed_here

  pub close_left : count_below (λ j. not (is_over (status_at status j))) (length status) ≡ count_below (λ j. not (is_over (status_at status' j))) (length status') + 1
  close_left = one_more_counted (λ j. not (is_over (status_at status' j))) (λ j. not (is_over (status_at status j))) i (λ k ne. ap (λ t. not (is_over t)) (sym (there k ne)))
      (ap (λ t. not (is_over t)) close_here ∙ ap not over) (ap (λ t. not (is_over t)) runs) (length status) known
      ∙ ap (λ m. count_below (λ j. not (is_over (status_at status' j))) m + 1) (sym close_size)
