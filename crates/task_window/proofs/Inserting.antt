-- One more task, and links that lead to it.
use Rattle.std.proofs.Common.{◌≡◌, ◌⊎◌, ℕ, ◌+◌, ◌<◌, ◌≤◌, Bool, true, false, cond, not, ◌||◌, inl, inr, List, [], ◌∷◌, ◌++◌, length, take, refl, sym, ◌∙◌, ap, subst, arith}
use Rattle.std.specs.Prelude.{◌==◌, ◌&&◌, slice_index, slice_set}
use Rattle.std.proofs.lemmas.Bool.{cases_lt, cases_eq, and_left, eq-eqb, ne_eqb, eqb-true, eqb-false, true≢false, or_cases, or_left, or_right}
use Rattle.std.proofs.lemmas.List.{length_push, length-set, get_or-set_same, get_or-set_other, get_or_past, get_or_append_left, get_or_push, append_assoc, take_more, map-append}
use Rattle.basics.specs.Lists.{count_below}
use Rattle.basics.proofs.ListFacts.{none_counted}
use Rattle.task_order.specs.declared.status.Status.{Status}
use Rattle.task_order.specs.declared.status.Status.TheVariants.{Waiting}
use Rattle.task_order.specs.Sequence.{is_over, is_lost}
use Rattle.task_window.specs.declared.links.Link.{Link}
use Rattle.task_window.specs.declared.queue.Queue.{Queue}
use Rattle.task_window.specs.Chains.{link_at}
use Rattle.task_window.specs.Waits.{leads, status_at, spoiled_at, is_pending, is_spoiling, IsSpoiled, IsQueue, IsSized, IsAtRest, links_to}
use Rattle.task_window.proofs.ChainFacts.{kept_at, new_at, place}
use Rattle.task_window.proofs.Counting.{count_same, count_next}
use Rattle.task_window.proofs.Steps.{queue_alike}
use Rattle.task_window.proofs.Walking.{ready_within}

abbrev one_if : Bool → ℕ
one_if b = cond b 1 0

-- one more link
module _ (links : List Link) (status : ℕ → Status) (l : Link) where
  pending_kept : (x : ℕ) → x < length links → is_pending (links ++ l ∷ []) status x ≡ is_pending links status x
  pending_kept x h = ap (λ (z : Link). not (is_over (status z.key))) (kept_at links l x h)

  spoiling_kept : (x : ℕ) → x < length links → is_spoiling (links ++ l ∷ []) status x ≡ is_spoiling links status x
  spoiling_kept x h = ap (λ (z : Link). is_lost (status z.key)) (kept_at links l x h)

  leads_kept : (j x : ℕ) → x < length links → leads (links ++ l ∷ []) (is_pending (links ++ l ∷ []) status) j x ≡ leads links (is_pending links status) j x
  leads_kept j x h = ap (λ (z : Link). (z.value == j) && not (is_over (status z.key))) (kept_at links l x h)

  pub count_put : (j : ℕ) → count_below (leads (links ++ l ∷ []) (is_pending (links ++ l ∷ []) status) j) (length (links ++ l ∷ [])) ≡
      cond ((l.value == j) && not (is_over (status l.key))) 1 0 + count_below (leads links (is_pending links status) j) (length links)
  count_put j =
      let n : count_below (leads (links ++ l ∷ []) (is_pending (links ++ l ∷ []) status) j) (length (links ++ l ∷ [])) ≡
      one_if (leads (links ++ l ∷ []) (is_pending (links ++ l ∷ []) status) j (length links)) + count_below (leads (links ++ l ∷ []) (is_pending (links ++ l ∷ []) status) j) (length links) =
      count_next (leads (links ++ l ∷ []) (is_pending (links ++ l ∷ []) status) j) (length links) (length (links ++ l ∷ [])) (length_push links l) in
      let a : one_if (leads (links ++ l ∷ []) (is_pending (links ++ l ∷ []) status) j (length links)) ≡ one_if ((l.value == j) && not (is_over (status l.key))) =
      ap (λ (z : Link). one_if ((z.value == j) && not (is_over (status z.key)))) (new_at links l (length links) refl) in
      let b : count_below (leads (links ++ l ∷ []) (is_pending (links ++ l ∷ []) status) j) (length links) ≡ count_below (leads links (is_pending links status) j) (length links) =
      count_same (leads (links ++ l ∷ []) (is_pending (links ++ l ∷ []) status) j) (leads links (is_pending links status) j) (length links) (λ x h. leads_kept j x h) in
      omega arith

  pub spoiled_up : (j : ℕ) → IsSpoiled links (is_spoiling links status) j → IsSpoiled (links ++ l ∷ []) (is_spoiling (links ++ l ∷ []) status) j
  spoiled_up j s =
      let b : s.0 < length links = s.1 in
      let e : length (links ++ l ∷ []) ≡ length links + 1 = length_push links l in
      (s.0, (let r : s.0 < length (links ++ l ∷ []) = omega arith in r), ap (λ (z : Link). z.value) (kept_at links l s.0 b) ∙ s.2, spoiling_kept s.0 b ∙ s.3)

  pub spoiled_new : (j : ℕ) → l.value ≡ j → is_lost (status l.key) ≡ true → IsSpoiled (links ++ l ∷ []) (is_spoiling (links ++ l ∷ []) status) j
  spoiled_new j v s =
      let e : length (links ++ l ∷ []) ≡ length links + 1 = length_push links l in
      (length links, (let r : length links < length (links ++ l ∷ []) = omega arith in r), ap (λ (z : Link). z.value) (new_at links l (length links) refl) ∙ v, ap (λ (z : Link). is_lost (status z.key)) (new_at links l (length links) refl) ∙ s)

  pub spoiled_down : (j : ℕ) → IsSpoiled (links ++ l ∷ []) (is_spoiling (links ++ l ∷ []) status) j → IsSpoiled links (is_spoiling links status) j ⊎ ((l.value ≡ j) × (is_lost (status l.key) ≡ true))
  spoiled_down j s = elim (place links l s.0 s.1) [
    | inl old ↦ inl (s.0, old, sym (ap (λ (z : Link). z.value) (kept_at links l s.0 old)) ∙ s.2, sym (spoiling_kept s.0 old) ∙ s.3)
    | inr new ↦ inr (sym (ap (λ (z : Link). z.value) (new_at links l s.0 new)) ∙ s.2, sym (ap (λ (z : Link). is_lost (status z.key)) (new_at links l s.0 new)) ∙ s.3)
  ]

  -- it leads to none of the tasks
  pub queue_put : (n : ℕ) (waits : List ℕ) (spoiled : List Bool) (ready : List ℕ) (started count : ℕ) → n ≤ l.value →
      IsQueue links n status (is_pending links status) (is_spoiling links status) waits spoiled ready started count →
      IsQueue (links ++ l ∷ []) n status (is_pending (links ++ l ∷ []) status) (is_spoiling (links ++ l ∷ []) status) waits spoiled ready started count
  queue_put n waits spoiled ready started count far q = record {
    waits_size = q.waits_size;
    spoiled_size = q.spoiled_size;
    ready_size = q.ready_size;
    counts = λ j h. (
        let off : one_if ((l.value == j) && not (is_over (status l.key))) ≡ 0 = ap one_if (and_left (l.value == j) (not (is_over (status l.key))) (ne_eqb l.value j (λ e. absurd (omega arith)))) in
        let c : slice_index waits j ≡ count_below (leads links (is_pending links status) j) (length links) = q.counts j h in
        let p : count_below (leads (links ++ l ∷ []) (is_pending (links ++ l ∷ []) status) j) (length (links ++ l ∷ [])) ≡
        one_if ((l.value == j) && not (is_over (status l.key))) + count_below (leads links (is_pending links status) j) (length links) = count_put j in
        let r : slice_index waits j ≡ count_below (leads (links ++ l ∷ []) (is_pending (links ++ l ∷ []) status) j) (length (links ++ l ∷ [])) = omega arith in r);
    spoils_some = λ j h e. spoiled_up j (q.spoils_some j h e);
    spoils_all = λ j h s. elim (spoiled_down j s) [ inl a ↦ q.spoils_all j h a | inr b ↦ (let v : l.value ≡ j = b.0 in absurd (omega arith)) ];
    size = q.size;
    within = q.within;
    listed = q.listed;
    all = q.all;
    distinct = q.distinct;
    begun = q.begun;
    due = q.due;
    waiting = q.waiting;
  }

-- no link leads to a task that is not there yet
pub none_leads : (links : List Link) (pending : ℕ → Bool) (n : ℕ) → ((x : ℕ) → x < length links → (link_at links x).value < n) → count_below (leads links pending n) (length links) ≡ 0
none_leads links pending n ends =
    count_same (leads links pending n) (λ x. false) (length links) (λ x h. and_left ((link_at links x).value == n) (pending x) (ne_eqb (link_at links x).value n (λ e. (let b : (link_at links x).value < n = ends x h in absurd (omega arith)))))
    ∙ none_counted (λ x. false) (λ i e. true≢false (sym e)) (length links)

pub none_spoiled : (links : List Link) (spoils : ℕ → Bool) (n : ℕ) → ((x : ℕ) → x < length links → (link_at links x).value < n) → IsSpoiled links spoils n → ⊥
none_spoiled links spoils n ends s = (let b : (link_at links s.0).value < n = ends s.0 s.1 in let e : (link_at links s.0).value ≡ n = s.2 in absurd (omega arith))

-- how far tasks have come, with one more that waits
pub status_more : (status : List Status) (k : ℕ) → status_at (status ++ Waiting ∷ []) k ≡ status_at status k
status_more status k = elim (cases_lt k (length status)) [
  | inl low ↦ get_or_append_left status (Waiting ∷ []) Waiting k low
  | inr past ↦ elim (cases_eq k (length status)) [
    | inl e ↦ get_or_push status Waiting Waiting k (sym e) ∙ sym (get_or_past status k Waiting past)
    | inr ne ↦ (
        let s : length (status ++ Waiting ∷ []) ≡ length status + 1 = length_push status Waiting in
        get_or_past (status ++ Waiting ∷ []) k Waiting (omega (arith, ne)) ∙ sym (get_or_past status k Waiting past))
  ]
]

-- one more task
module _ (links : List Link) (n : ℕ) (status : ℕ → Status) (pending spoils : ℕ → Bool) (waits : List ℕ) (spoiled : List Bool) (ready : List ℕ) (started count : ℕ)
    (q : IsQueue links n status pending spoils waits spoiled ready started count)
    (new : status n ≡ Waiting) (wl : n < length waits) (sl : n < length spoiled) (rl : n < length ready)
    (w : ℕ) (b : Bool) (lead : w ≡ count_below (leads links pending n) (length links)) (some : b ≡ true → IsSpoiled links spoils n) (each : IsSpoiled links spoils n → b ≡ true) where
  here : slice_index (slice_set waits n w) n ≡ w
  here = get_or-set_same waits n w 0 wl

  there : (j : ℕ) → (j ≡ n → ⊥) → slice_index (slice_set waits n w) j ≡ slice_index waits j
  there j ne = get_or-set_other waits n j w 0 ne

  few : count ≤ n
  few = ready_within links n status pending spoils waits spoiled ready started count q

  size' : (m : ℕ) → m ≡ n + 1 → count_below (λ j. slice_index (slice_set waits n w) j == 0) m ≡ one_if (w == 0) + count
  size' m e =
      let a : count_below (λ j. slice_index (slice_set waits n w) j == 0) m ≡ one_if (slice_index (slice_set waits n w) n == 0) + count_below (λ j. slice_index (slice_set waits n w) j == 0) n =
      count_next (λ j. slice_index (slice_set waits n w) j == 0) n m e in
      let h : one_if (slice_index (slice_set waits n w) n == 0) ≡ one_if (w == 0) = ap (λ v. one_if (v == 0)) here in
      let r : count_below (λ j. slice_index (slice_set waits n w) j == 0) n ≡ count_below (λ j. slice_index waits j == 0) n =
      count_same (λ j. slice_index (slice_set waits n w) j == 0) (λ j. slice_index waits j == 0) n (λ j l. ap (λ v. v == 0) (there j (λ f. absurd (omega arith)))) in
      let s : count ≡ count_below (λ j. slice_index waits j == 0) n = q.size in
      omega arith

  old_or_new : (j m : ℕ) → m ≡ n + 1 → j < m → (j < n) ⊎ (j ≡ n)
  old_or_new j m e h = elim (cases_lt j n) [ inl a ↦ inl a | inr p ↦ inr (let r : j ≡ n = omega arith in r) ]

  counts' : (m j : ℕ) → m ≡ n + 1 → j < m → slice_index (slice_set waits n w) j ≡ count_below (leads links pending j) (length links)
  counts' m j e h = elim (old_or_new j m e h) [
    | inl a ↦ there j (λ f. absurd (omega arith)) ∙ q.counts j a
    | inr f ↦ subst (λ k. slice_index (slice_set waits n w) k ≡ count_below (leads links pending k) (length links)) (sym f) (here ∙ lead)
  ]

  some' : (m j : ℕ) → m ≡ n + 1 → j < m → spoiled_at (slice_set spoiled n b) j ≡ true → IsSpoiled links spoils j
  some' m j e h t = elim (old_or_new j m e h) [
    | inl a ↦ q.spoils_some j a (sym (get_or-set_other spoiled n j b false (λ f. absurd (omega arith))) ∙ t)
    | inr f ↦ subst (λ k. IsSpoiled links spoils k) (sym f) (some (sym (ap (spoiled_at (slice_set spoiled n b)) f ∙ get_or-set_same spoiled n b false sl) ∙ t))
  ]

  all' : (m j : ℕ) → m ≡ n + 1 → j < m → IsSpoiled links spoils j → spoiled_at (slice_set spoiled n b) j ≡ true
  all' m j e h s = elim (old_or_new j m e h) [
    | inl a ↦ get_or-set_other spoiled n j b false (λ f. absurd (omega arith)) ∙ q.spoils_all j a s
    | inr f ↦ ap (spoiled_at (slice_set spoiled n b)) f ∙ (get_or-set_same spoiled n b false sl ∙ each (subst (λ k. IsSpoiled links spoils k) f s))
  ]

  still : (m j : ℕ) → m ≡ n + 1 → j < m → 0 < slice_index (slice_set waits n w) j → status j ≡ Waiting
  still m j e h p = elim (old_or_new j m e h) [
    | inl a ↦ q.waiting j a (let r : slice_index (slice_set waits n w) j ≡ slice_index waits j = there j (λ f. absurd (omega arith)) in omega arith)
    | inr f ↦ ap status f ∙ new
  ]

  kept : (k : ℕ) → k < count → (slice_index ready k < n) × (slice_index (slice_set waits n w) (slice_index ready k) ≡ 0)
  kept k h = let p = q.listed k h in let l : slice_index ready k < n = p.0 in (p.0, there (slice_index ready k) (λ f. absurd (omega arith)) ∙ p.1)

  wider : (m k : ℕ) → m ≡ n + 1 → (k < n) × (slice_index (slice_set waits n w) k ≡ 0) → (k < m) × (slice_index (slice_set waits n w) k ≡ 0)
  wider m k e p = ((let l : k < n = p.0 in let r : k < m = omega arith in r), p.1)

  added_waits : (m : ℕ) → m ≡ n + 1 → (w ≡ 0 → ⊥) → IsQueue links m status pending spoils (slice_set waits n w) (slice_set spoiled n b) ready started count
  added_waits m e ne = record {
    waits_size = (let s : length (slice_set waits n w) ≡ length waits = length-set waits n w in let r : m ≤ length (slice_set waits n w) = omega arith in r);
    spoiled_size = (let s : length (slice_set spoiled n b) ≡ length spoiled = length-set spoiled n b in let r : m ≤ length (slice_set spoiled n b) = omega arith in r);
    ready_size = (let r : m ≤ length ready = omega arith in r);
    counts = λ j h. counts' m j e h;
    spoils_some = λ j h t. some' m j e h t;
    spoils_all = λ j h s. all' m j e h s;
    size = (let z : one_if (w == 0) ≡ 0 = ap one_if (ne_eqb w 0 ne) in let s : count_below (λ j. slice_index (slice_set waits n w) j == 0) m ≡ one_if (w == 0) + count = size' m e in
        let r : count ≡ count_below (λ j. slice_index (slice_set waits n w) j == 0) m = omega arith in r);
    within = q.within;
    listed = λ k h. wider m (slice_index ready k) e (kept k h);
    all = λ j h z. elim (old_or_new j m e h) [
      | inl a ↦ q.all j a (sym (there j (λ f. absurd (omega arith))) ∙ z)
      | inr f ↦ absurd (ne (sym here ∙ (sym (ap (slice_index (slice_set waits n w)) f) ∙ z)))
    ];
    distinct = q.distinct;
    begun = q.begun;
    due = q.due;
    waiting = λ j h p. still m j e h p;
  }

  in_end : slice_index (slice_set ready count n) count ≡ n
  in_end = let f : count ≤ n = few in get_or-set_same ready count n 0 (omega arith)

  in_other : (k : ℕ) → k < count → slice_index (slice_set ready count n) k ≡ slice_index ready k
  in_other k h = get_or-set_other ready count k n 0 (λ f. absurd (omega arith))

  added_ready : (m : ℕ) → m ≡ n + 1 → w ≡ 0 → IsQueue links m status pending spoils (slice_set waits n w) (slice_set spoiled n b) (slice_set ready count n) started (count + 1)
  added_ready m e zero = record {
    waits_size = (let s : length (slice_set waits n w) ≡ length waits = length-set waits n w in let r : m ≤ length (slice_set waits n w) = omega arith in r);
    spoiled_size = (let s : length (slice_set spoiled n b) ≡ length spoiled = length-set spoiled n b in let r : m ≤ length (slice_set spoiled n b) = omega arith in r);
    ready_size = (let s : length (slice_set ready count n) ≡ length ready = length-set ready count n in let r : m ≤ length (slice_set ready count n) = omega arith in r);
    counts = λ j h. counts' m j e h;
    spoils_some = λ j h t. some' m j e h t;
    spoils_all = λ j h s. all' m j e h s;
    size = (let z : one_if (w == 0) ≡ 1 = ap one_if (eq-eqb w 0 zero) in let s : count_below (λ j. slice_index (slice_set waits n w) j == 0) m ≡ one_if (w == 0) + count = size' m e in
        let r : count + 1 ≡ count_below (λ j. slice_index (slice_set waits n w) j == 0) m = omega arith in r);
    within = (let s : started ≤ count = q.within in let r : started ≤ count + 1 = omega arith in r);
    listed = λ k h. elim (cases_lt k count) [
      | inl old ↦ subst (λ i. (i < m) × (slice_index (slice_set waits n w) i ≡ 0)) (sym (in_other k old)) (wider m (slice_index ready k) e (kept k old))
      | inr last ↦ (let f : k ≡ count = omega arith in subst (λ i. (i < m) × (slice_index (slice_set waits n w) i ≡ 0)) (sym (ap (slice_index (slice_set ready count n)) f ∙ in_end)) ((let r : n < m = omega arith in r), here ∙ zero))
    ];
    all = λ j h z. elim (old_or_new j m e h) [
      | inl a ↦ (
          let r = q.all j a (sym (there j (λ f. absurd (omega arith))) ∙ z) in
          let l : r.0 < count = r.1 in (r.0, (let s : r.0 < count + 1 = omega arith in s), in_other r.0 l ∙ r.2))
      | inr f ↦ (count, (let r : count < count + 1 = omega arith in r), in_end ∙ sym f)
    ];
    distinct = λ k o lo hi same. elim (cases_lt o count) [
      | inl old ↦ q.distinct k o lo old (sym (in_other k (omega arith)) ∙ (same ∙ in_other o old))
      | inr last ↦ (
          let f : o ≡ count = omega arith in
          let l : slice_index ready k < n = (q.listed k (omega arith)).0 in
          let g : slice_index ready k ≡ n = sym (in_other k (omega arith)) ∙ (same ∙ (ap (slice_index (slice_set ready count n)) f ∙ in_end)) in absurd (omega arith))
    ];
    begun = λ k h s. (let o : started ≤ count = q.within in q.begun k h (ap status (sym (in_other k (omega arith))) ∙ s));
    due = λ k lo hi. elim (cases_lt k count) [
      | inl old ↦ ap status (in_other k old) ∙ q.due k lo old
      | inr last ↦ (let f : k ≡ count = omega arith in ap status (ap (slice_index (slice_set ready count n)) f ∙ in_end) ∙ new)
    ];
    waiting = λ j h p. still m j e h p;
  }

  added_by : (m : ℕ) → m ≡ n + 1 → (t : Bool) → (w == 0) ≡ t → IsQueue links m status pending spoils (slice_set waits n w) (slice_set spoiled n b) (cond t (slice_set ready count n) ready) started (cond t (count + 1) count)
  added_by m e true f = added_ready m e (eqb-true w 0 f)
  added_by m e false f = added_waits m e (eqb-false w 0 f)

  pub added : (m : ℕ) → m ≡ n + 1 → IsQueue links m status pending spoils (slice_set waits n w) (slice_set spoiled n b) (cond (w == 0) (slice_set ready count n) ready) started (cond (w == 0) (count + 1) count)
  added m e = added_by m e (w == 0) refl

-- one more link to the next task: what it waits for
module _ (links : List Link) (status : ℕ → Status) (k n : ℕ) (s : Status) (is : s ≡ status k) (links' : List Link) (put : links' ≡ links ++ record { key = k; value = n } ∷ []) where
  pub linked_waits : (w p : ℕ) → w ≡ count_below (leads links (is_pending links status) n) (length links) → p ≡ cond (is_over s) 0 1 → w + p ≡ count_below (leads links' (is_pending links' status) n) (length links')
  linked_waits w p e f = subst (λ (ls : List Link). w + p ≡ count_below (leads ls (is_pending ls status) n) (length ls)) (sym put)
      (let a : count_below (leads (links ++ record { key = k; value = n } ∷ []) (is_pending (links ++ record { key = k; value = n } ∷ []) status) n) (length (links ++ record { key = k; value = n } ∷ [])) ≡
      one_if ((n == n) && not (is_over (status k))) + count_below (leads links (is_pending links status) n) (length links) = count_put links status (record { key = k; value = n }) n in
      let b : one_if ((n == n) && not (is_over (status k))) ≡ p = ap (λ c. one_if (c && not (is_over (status k)))) (eq-eqb n n refl) ∙ (flip (is_over (status k)) ∙ (ap (λ t. cond (is_over t) 0 1) (sym is) ∙ sym f)) in
      let r : w + p ≡ count_below (leads (links ++ record { key = k; value = n } ∷ []) (is_pending (links ++ record { key = k; value = n } ∷ []) status) n) (length (links ++ record { key = k; value = n } ∷ [])) = omega arith in r)
    where
      flip : (o : Bool) → one_if (not o) ≡ cond o 0 1
      flip true = refl
      flip false = refl

  pub linked_some : (b c : Bool) → c ≡ is_lost s → (b ≡ true → IsSpoiled links (is_spoiling links status) n) → (b || c) ≡ true → IsSpoiled links' (is_spoiling links' status) n
  linked_some b c e f h = subst (λ (ls : List Link). IsSpoiled ls (is_spoiling ls status) n) (sym put) (elim (or_cases b c h) [
    | inl x ↦ spoiled_up links status (record { key = k; value = n }) n (f x)
    | inr y ↦ spoiled_new links status (record { key = k; value = n }) n refl (ap is_lost (sym is) ∙ (sym e ∙ y))
  ])

  pub linked_each : (b c : Bool) → c ≡ is_lost s → (IsSpoiled links (is_spoiling links status) n → b ≡ true) → IsSpoiled links' (is_spoiling links' status) n → (b || c) ≡ true
  linked_each b c e f h = elim (spoiled_down links status (record { key = k; value = n }) n (subst (λ (ls : List Link). IsSpoiled ls (is_spoiling ls status) n) put h)) [
    | inl x ↦ or_left b c (f x)
    | inr y ↦ or_right b c (e ∙ (ap is_lost is ∙ y.1))
  ]

  pub linked_ends : (m : ℕ) → k < m → n ≡ m → ((x : ℕ) → x < length links → ((link_at links x).key < m) × ((link_at links x).value < m + 1)) → (x : ℕ) → x < length links' → ((link_at links' x).key < m) × ((link_at links' x).value < m + 1)
  linked_ends m lo e f = subst (λ (ls : List Link). (x : ℕ) → x < length ls → ((link_at ls x).key < m) × ((link_at ls x).value < m + 1)) (sym put) (λ x h. elim (place links (record { key = k; value = n }) x h) [
    | inl old ↦ subst (λ (z : Link). (z.key < m) × (z.value < m + 1)) (sym (kept_at links (record { key = k; value = n }) x old)) (f x old)
    | inr new ↦ subst (λ (z : Link). (z.key < m) × (z.value < m + 1)) (sym (new_at links (record { key = k; value = n }) x new)) (lo, (let r : n < m + 1 = omega arith in r))
  ])

  pub linked_queue : (m : ℕ) (waits : List ℕ) (spoiled : List Bool) (ready : List ℕ) (started count : ℕ) → m ≤ n →
      IsQueue links m status (is_pending links status) (is_spoiling links status) waits spoiled ready started count → IsQueue links' m status (is_pending links' status) (is_spoiling links' status) waits spoiled ready started count
  linked_queue m waits spoiled ready started count far q = subst (λ (ls : List Link). IsQueue ls m status (is_pending ls status) (is_spoiling ls status) waits spoiled ready started count) (sym put)
      (queue_put links status (record { key = k; value = n }) m waits spoiled ready started count far q)

  pub linked_more : (sources : List ℕ) (i : ℕ) (first : List Link) → i < length sources → k ≡ slice_index sources i → links ≡ first ++ links_to n (take i sources) → links' ≡ first ++ links_to n (take (i + 1) sources)
  linked_more sources i first h e f =
      put ∙ (ap (λ (ls : List Link). ls ++ record { key = k; value = n } ∷ []) f ∙ (append_assoc first (links_to n (take i sources)) (record { key = k; value = n } ∷ [])
      ∙ ap (λ (ls : List Link). first ++ ls) (sym (ap (links_to n) (take_more sources i 0 h ∙ ap (λ y. take i sources ++ y ∷ []) (sym e)) ∙ map-append (λ (j : ℕ). record { key = j; value = n }) (take i sources) (k ∷ [])))))

-- tasks that have come as far
pub status_alike : (links : List Link) (n : ℕ) (status status' : ℕ → Status) (waits : List ℕ) (spoiled : List Bool) (ready : List ℕ) (started count : ℕ) → ((k : ℕ) → status' k ≡ status k) →
    IsQueue links n status (is_pending links status) (is_spoiling links status) waits spoiled ready started count → IsQueue links n status' (is_pending links status') (is_spoiling links status') waits spoiled ready started count
status_alike links n status status' waits spoiled ready started count same p =
    let q = queue_alike links n status (is_pending links status) (is_spoiling links status) (is_pending links status') (is_spoiling links status') waits spoiled ready started count
    (λ x h. ap (λ t. not (is_over t)) (sym (same (link_at links x).key))) (λ x h. ap is_lost (sym (same (link_at links x).key))) p in
    record {
      waits_size = q.waits_size;
      spoiled_size = q.spoiled_size;
      ready_size = q.ready_size;
      counts = q.counts;
      spoils_some = q.spoils_some;
      spoils_all = q.spoils_all;
      size = q.size;
      within = q.within;
      listed = q.listed;
      all = q.all;
      distinct = q.distinct;
      begun = λ k h s. q.begun k h (sym (same (slice_index ready k)) ∙ s);
      due = λ k lo hi. same (slice_index ready k) ∙ q.due k lo hi;
      waiting = λ j h w. same j ∙ q.waiting j h w;
    }

-- a queue with one more task
module _ (q q' : Queue) (ls : List Link) (task w : ℕ) (b : Bool) (sized : IsSized q) (number : task ≡ length q.status.items) (few : length q.status.items < 2147483648)
    (rest : IsQueue ls (length q.status.items) (status_at q.status.items) (is_pending ls (status_at q.status.items)) (is_spoiling ls (status_at q.status.items)) q.waits.items q.spoiled.items q.ready.items q.started q.count)
    (lead : w ≡ count_below (leads ls (is_pending ls (status_at q.status.items)) task) (length ls))
    (some : b ≡ true → IsSpoiled ls (is_spoiling ls (status_at q.status.items)) task) (each : IsSpoiled ls (is_spoiling ls (status_at q.status.items)) task → b ≡ true)
    (ends : (x : ℕ) → x < length ls → ((link_at ls x).key < length q.status.items) × ((link_at ls x).value < length q.status.items + 1)) (short : length ls < 4294967296)
    (wl : length q.status.items < length q.waits.items) (sl : length q.status.items < length q.spoiled.items) (rl : length q.status.items < length q.ready.items) where
  same : (k : ℕ) → status_at (q.status.items ++ Waiting ∷ []) k ≡ status_at q.status.items k
  same k = status_more q.status.items k

  longer : length (q.status.items ++ Waiting ∷ []) ≡ length q.status.items + 1
  longer = length_push q.status.items Waiting

  last : status_at q.status.items (length q.status.items) ≡ Waiting
  last = get_or_past q.status.items (length q.status.items) Waiting (omega arith)

  queue' : IsQueue ls (length (q.status.items ++ Waiting ∷ [])) (status_at (q.status.items ++ Waiting ∷ [])) (is_pending ls (status_at (q.status.items ++ Waiting ∷ []))) (is_spoiling ls (status_at (q.status.items ++ Waiting ∷ [])))
      (slice_set q.waits.items task w) (slice_set q.spoiled.items task b) (cond (w == 0) (slice_set q.ready.items q.count task) q.ready.items) q.started (cond (w == 0) (q.count + 1) q.count)
  queue' = status_alike ls (length (q.status.items ++ Waiting ∷ [])) (status_at q.status.items) (status_at (q.status.items ++ Waiting ∷ []))
      (slice_set q.waits.items task w) (slice_set q.spoiled.items task b) (cond (w == 0) (slice_set q.ready.items q.count task) q.ready.items) q.started (cond (w == 0) (q.count + 1) q.count) same
      (subst (λ i. IsQueue ls (length (q.status.items ++ Waiting ∷ [])) (status_at q.status.items) (is_pending ls (status_at q.status.items)) (is_spoiling ls (status_at q.status.items))
      (slice_set q.waits.items i w) (slice_set q.spoiled.items i b) (cond (w == 0) (slice_set q.ready.items q.count i) q.ready.items) q.started (cond (w == 0) (q.count + 1) q.count)) (sym number)
      (added ls (length q.status.items) (status_at q.status.items) (is_pending ls (status_at q.status.items)) (is_spoiling ls (status_at q.status.items)) q.waits.items q.spoiled.items q.ready.items q.started q.count rest
      last wl sl rl w b (lead ∙ ap (λ i. count_below (leads ls (is_pending ls (status_at q.status.items)) i) (length ls)) number)
      (λ e. subst (λ i. IsSpoiled ls (is_spoiling ls (status_at q.status.items)) i) number (some e)) (λ s. each (subst (λ i. IsSpoiled ls (is_spoiling ls (status_at q.status.items)) i) (sym number) s))
      (length (q.status.items ++ Waiting ∷ [])) longer))

  left' : q.left + 1 ≡ count_below (λ j. not (is_over (status_at (q.status.items ++ Waiting ∷ []) j))) (length (q.status.items ++ Waiting ∷ []))
  left' =
      let a : count_below (λ j. not (is_over (status_at (q.status.items ++ Waiting ∷ []) j))) (length (q.status.items ++ Waiting ∷ [])) ≡
      one_if (not (is_over (status_at (q.status.items ++ Waiting ∷ []) (length q.status.items)))) + count_below (λ j. not (is_over (status_at (q.status.items ++ Waiting ∷ []) j))) (length q.status.items) =
      count_next (λ j. not (is_over (status_at (q.status.items ++ Waiting ∷ []) j))) (length q.status.items) (length (q.status.items ++ Waiting ∷ [])) longer in
      let b1 : one_if (not (is_over (status_at (q.status.items ++ Waiting ∷ []) (length q.status.items)))) ≡ 1 = ap (λ t. one_if (not (is_over t))) (same (length q.status.items) ∙ last) in
      let c : count_below (λ j. not (is_over (status_at (q.status.items ++ Waiting ∷ []) j))) (length q.status.items) ≡ count_below (λ j. not (is_over (status_at q.status.items j))) (length q.status.items) =
      count_same (λ j. not (is_over (status_at (q.status.items ++ Waiting ∷ []) j))) (λ j. not (is_over (status_at q.status.items j))) (length q.status.items) (λ k h. ap (λ t. not (is_over t)) (same k)) in
      let d : q.left ≡ count_below (λ j. not (is_over (status_at q.status.items j))) (length q.status.items) = sized.left in
      omega arith

  ends' : (x : ℕ) → x < length ls → ((link_at ls x).key < length (q.status.items ++ Waiting ∷ [])) × ((link_at ls x).value < length (q.status.items ++ Waiting ∷ []))
  ends' x h =
      let p = ends x h in
      let l : length (q.status.items ++ Waiting ∷ []) ≡ length q.status.items + 1 = longer in
      let k : (link_at ls x).key < length q.status.items = p.0 in
      let v : (link_at ls x).value < length q.status.items + 1 = p.1 in
      ((let r : (link_at ls x).key < length (q.status.items ++ Waiting ∷ []) = omega arith in r), (let r : (link_at ls x).value < length (q.status.items ++ Waiting ∷ []) = omega arith in r))

  pub rest_added : q'.status.items ≡ q.status.items ++ Waiting ∷ [] → q'.left ≡ q.left + 1 → q'.links.links ≡ ls → length q.status.items < q'.links.keys → q'.waits.items ≡ slice_set q.waits.items task w → q'.spoiled.items ≡ slice_set q.spoiled.items task b →
      q'.ready.items ≡ cond (w == 0) (slice_set q.ready.items q.count task) q.ready.items → q'.started ≡ q.started → q'.count ≡ cond (w == 0) (q.count + 1) q.count → IsAtRest q'
  rest_added st lf li ke ws ss rs sd ct = record {
    sized = record {
      few = (let l : length (q.status.items ++ Waiting ∷ []) ≡ length q.status.items + 1 = longer in let e : length q'.status.items ≡ length (q.status.items ++ Waiting ∷ []) = ap length st in let r : length q'.status.items ≤ 2147483648 = omega arith in r);
      keys = (let l : length (q.status.items ++ Waiting ∷ []) ≡ length q.status.items + 1 = longer in let e : length q'.status.items ≡ length (q.status.items ++ Waiting ∷ []) = ap length st in let r : length q'.status.items ≤ q'.links.keys = omega arith in r);
      left = lf ∙ (left' ∙ ap (λ (xs : List Status). count_below (λ j. not (is_over (status_at xs j))) (length xs)) (sym st));
      links = subst (λ (xs : List Link). length xs < 4294967296) (sym li) short;
      ends = subst (λ (xs : List Link). (x : ℕ) → x < length xs → ((link_at xs x).key < length q'.status.items) × ((link_at xs x).value < length q'.status.items)) (sym li)
          (subst (λ (xs : List Status). (x : ℕ) → x < length ls → ((link_at ls x).key < length xs) × ((link_at ls x).value < length xs)) (sym st) ends');
    };
    queue = subst (λ (l : List Link). IsQueue l (length q'.status.items) (status_at q'.status.items) (is_pending l (status_at q'.status.items)) (is_spoiling l (status_at q'.status.items)) q'.waits.items q'.spoiled.items q'.ready.items q'.started q'.count) (sym li)
        (subst (λ (xs : List Status). IsQueue ls (length xs) (status_at xs) (is_pending ls (status_at xs)) (is_spoiling ls (status_at xs)) q'.waits.items q'.spoiled.items q'.ready.items q'.started q'.count) (sym st)
        (subst (λ v. IsQueue ls (length (q.status.items ++ Waiting ∷ [])) (status_at (q.status.items ++ Waiting ∷ [])) (is_pending ls (status_at (q.status.items ++ Waiting ∷ []))) (is_spoiling ls (status_at (q.status.items ++ Waiting ∷ []))) v q'.spoiled.items q'.ready.items q'.started q'.count) (sym ws)
        (subst (λ v. IsQueue ls (length (q.status.items ++ Waiting ∷ [])) (status_at (q.status.items ++ Waiting ∷ [])) (is_pending ls (status_at (q.status.items ++ Waiting ∷ []))) (is_spoiling ls (status_at (q.status.items ++ Waiting ∷ []))) (slice_set q.waits.items task w) v q'.ready.items q'.started q'.count) (sym ss)
        (subst (λ v. IsQueue ls (length (q.status.items ++ Waiting ∷ [])) (status_at (q.status.items ++ Waiting ∷ [])) (is_pending ls (status_at (q.status.items ++ Waiting ∷ []))) (is_spoiling ls (status_at (q.status.items ++ Waiting ∷ []))) (slice_set q.waits.items task w) (slice_set q.spoiled.items task b) v q'.started q'.count) (sym rs)
        (subst (λ v. IsQueue ls (length (q.status.items ++ Waiting ∷ [])) (status_at (q.status.items ++ Waiting ∷ [])) (is_pending ls (status_at (q.status.items ++ Waiting ∷ []))) (is_spoiling ls (status_at (q.status.items ++ Waiting ∷ []))) (slice_set q.waits.items task w) (slice_set q.spoiled.items task b) (cond (w == 0) (slice_set q.ready.items q.count task) q.ready.items) v q'.count) (sym sd)
        (subst (λ v. IsQueue ls (length (q.status.items ++ Waiting ∷ [])) (status_at (q.status.items ++ Waiting ∷ [])) (is_pending ls (status_at (q.status.items ++ Waiting ∷ []))) (is_spoiling ls (status_at (q.status.items ++ Waiting ∷ []))) (slice_set q.waits.items task w) (slice_set q.spoiled.items task b) (cond (w == 0) (slice_set q.ready.items q.count task) q.ready.items) q.started v) (sym ct) queue'))))));
  }
