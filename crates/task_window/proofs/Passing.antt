-- One pending link is closed: its task waits for one less, and is ready where that was the last.
use Rattle.std.proofs.Common.{◌≡◌, ℕ, ◌+◌, ◌-◌, ◌<◌, ◌≤◌, Bool, true, false, cond, inl, inr, List, length, refl, sym, ◌∙◌, ap, subst, arith}
use Rattle.std.specs.Prelude.{◌==◌, ◌&&◌, slice_index, slice_set}
use Rattle.std.proofs.lemmas.Bool.{cases_lt, cases_eq, and_from, and_left, and_right, eq-eqb, ne_eqb, eqb-true, eqb-false, true≢false}
use Rattle.std.proofs.lemmas.List.{length-set, get_or-set_same, get_or-set_other}
use Rattle.basics.specs.Lists.{count_below}
use Rattle.basics.proofs.ListFacts.{some_below, one_more_counted}
use Rattle.task_order.specs.declared.status.Status.{Status}
use Rattle.task_order.specs.declared.status.Status.TheVariants.{Waiting}
use Rattle.task_window.specs.declared.links.Link.{Link}
use Rattle.task_window.specs.Chains.{link_at}
use Rattle.task_window.specs.Waits.{leads, spoiled_at, IsSpoiled, IsQueue}
use Rattle.task_window.proofs.Counting.{count_same, count_lacks}

module _ (links : List Link) (n : ℕ) (status : ℕ → Status) (pending spoils : ℕ → Bool) (waits : List ℕ) (spoiled : List Bool) (ready : List ℕ) (started count : ℕ)
    (q : IsQueue links n status pending spoils waits spoiled ready started count)
    (x j : ℕ) (h : x < length links) (is : (link_at links x).value ≡ j) (was : pending x ≡ true) (below : (link_at links x).value < n) where
  pub passed_known : j < n
  passed_known = subst (λ v. v < n) is below

  leads_x : leads links pending j x ≡ true
  leads_x = and_from ((link_at links x).value == j) (pending x) (eq-eqb (link_at links x).value j is) was

  pub passed_waits : 0 < slice_index waits j
  passed_waits =
      let c : slice_index waits j ≡ count_below (leads links pending j) (length links) = q.counts j passed_known in
      let s : 1 ≤ count_below (leads links pending j) (length links) = some_below (leads links pending j) (length links) x h leads_x in omega arith

  pub passed_room : count < length ready
  passed_room =
      let w : 0 < slice_index waits j = passed_waits in
      let c : count ≡ count_below (λ i. slice_index waits i == 0) n = q.size in
      let f : count_below (λ i. slice_index waits i == 0) n < n = count_lacks (λ i. slice_index waits i == 0) n j passed_known (ne_eqb (slice_index waits j) 0 (λ e. absurd (omega arith))) in
      let r : n ≤ length ready = q.ready_size in omega arith

  unlisted : (k : ℕ) → k < count → slice_index ready k ≡ j → ⊥
  unlisted k l e =
      let w : 0 < slice_index waits j = passed_waits in
      let z : slice_index waits j ≡ 0 = subst (λ i. slice_index waits i ≡ 0) e (q.listed k l).1 in absurd (omega arith)

  module _ (fresh : spoils x ≡ false) (pending' spoils' : ℕ → Bool) (lost : Bool) (closed : pending' x ≡ false) (others : (y : ℕ) → (y ≡ x → ⊥) → pending' y ≡ pending y)
      (spoils_x : spoils' x ≡ lost) (spoils_others : (y : ℕ) → (y ≡ x → ⊥) → spoils' y ≡ spoils y)
      (waits' : List ℕ) (ws : waits' ≡ slice_set waits j (slice_index waits j - 1))
      (spoiled' : List Bool) (ss : spoiled' ≡ cond lost (slice_set spoiled j true) spoiled) where
    at_j : slice_index waits' j + 1 ≡ slice_index waits j
    at_j =
        let a : n ≤ length waits = q.waits_size in
        let b : j < n = passed_known in
        let e : slice_index waits' j ≡ slice_index waits j - 1 = ap (λ xs. slice_index xs j) ws ∙ get_or-set_same waits j (slice_index waits j - 1) 0 (omega arith) in
        let w : 0 < slice_index waits j = passed_waits in omega arith

    at_other : (i : ℕ) → (i ≡ j → ⊥) → slice_index waits' i ≡ slice_index waits i
    at_other i ne = ap (λ xs. slice_index xs i) ws ∙ get_or-set_other waits j i (slice_index waits j - 1) 0 ne

    same_lead : (i : ℕ) → (i ≡ j → ⊥) → (y : ℕ) → leads links pending i y ≡ leads links pending' i y
    same_lead i ne y = elim (cases_eq y x) [
      | inl e ↦ (
          let off : ((link_at links y).value == i) ≡ false = ne_eqb (link_at links y).value i (λ v. ne (sym v ∙ (ap (λ z. (link_at links z).value) e ∙ is))) in
          and_left ((link_at links y).value == i) (pending y) off ∙ sym (and_left ((link_at links y).value == i) (pending' y) off))
      | inr apart ↦ ap (λ b. ((link_at links y).value == i) && b) (sym (others y apart))
    ]

    counts' : (i : ℕ) → i < n → slice_index waits' i ≡ count_below (leads links pending' i) (length links)
    counts' i l = elim (cases_eq i j) [
      | inl e ↦ (
          let c : count_below (leads links pending j) (length links) ≡ count_below (leads links pending' j) (length links) + 1 =
          one_more_counted (leads links pending' j) (leads links pending j) x (λ y ne. ap (λ b. ((link_at links y).value == j) && b) (sym (others y ne))) (and_right ((link_at links x).value == j) (pending' x) closed) leads_x (length links) h in
          let o : slice_index waits j ≡ count_below (leads links pending j) (length links) = q.counts j passed_known in
          let a : slice_index waits' j + 1 ≡ slice_index waits j = at_j in
          let r : slice_index waits' j ≡ count_below (leads links pending' j) (length links) = omega arith in
          subst (λ k. slice_index waits' k ≡ count_below (leads links pending' k) (length links)) (sym e) r)
      | inr ne ↦ at_other i ne ∙ (q.counts i l ∙ count_same (leads links pending i) (leads links pending' i) (length links) (λ y b. same_lead i ne y))
    ]

    spoiled_before : (i : ℕ) → i < n → spoiled_at spoiled i ≡ true → IsSpoiled links spoils' i
    spoiled_before i l s =
        let r = q.spoils_some i l s in
        (r.0, r.1, r.2, spoils_others r.0 (λ e. true≢false (sym r.3 ∙ (ap spoils e ∙ fresh))) ∙ r.3)

    some_by : (b : Bool) → lost ≡ b → (i : ℕ) → i < n → spoiled_at (cond b (slice_set spoiled j true) spoiled) i ≡ true → IsSpoiled links spoils' i
    some_by true e i l s = elim (cases_eq i j) [
      | inl at ↦ (x, h, is ∙ sym at, spoils_x ∙ e)
      | inr ne ↦ spoiled_before i l (sym (get_or-set_other spoiled j i true false ne) ∙ s)
    ]
    some_by false e i l s = spoiled_before i l s

    all_by : (b : Bool) → lost ≡ b → (i : ℕ) → i < n → IsSpoiled links spoils' i → spoiled_at (cond b (slice_set spoiled j true) spoiled) i ≡ true
    all_by true e i l s = elim (cases_eq i j) [
      | inl at ↦ (
          let a : n ≤ length spoiled = q.spoiled_size in let b : j < n = passed_known in
          ap (spoiled_at (slice_set spoiled j true)) at ∙ get_or-set_same spoiled j true false (omega arith))
      | inr ne ↦ get_or-set_other spoiled j i true false ne ∙ q.spoils_all i l (s.0, s.1, s.2, sym (spoils_others s.0 (λ f. ne (sym s.2 ∙ (ap (λ z. (link_at links z).value) f ∙ is)))) ∙ s.3)
    ]
    all_by false e i l s = q.spoils_all i l (s.0, s.1, s.2, sym (spoils_others s.0 (λ f. true≢false (sym s.3 ∙ (ap spoils' f ∙ (spoils_x ∙ e))))) ∙ s.3)

    some' : (i : ℕ) → i < n → spoiled_at spoiled' i ≡ true → IsSpoiled links spoils' i
    some' i l s = some_by lost refl i l (sym (ap (λ xs. spoiled_at xs i) ss) ∙ s)

    all' : (i : ℕ) → i < n → IsSpoiled links spoils' i → spoiled_at spoiled' i ≡ true
    all' i l s = ap (λ xs. spoiled_at xs i) ss ∙ all_by lost refl i l s

    waits_size' : n ≤ length waits'
    waits_size' = let a : n ≤ length waits = q.waits_size in let e : length waits' ≡ length waits = ap length ws ∙ length-set waits j (slice_index waits j - 1) in omega arith

    spoiled_size_by : (b : Bool) → n ≤ length (cond b (slice_set spoiled j true) spoiled)
    spoiled_size_by true = let a : n ≤ length spoiled = q.spoiled_size in let e : length (slice_set spoiled j true) ≡ length spoiled = length-set spoiled j true in omega arith
    spoiled_size_by false = q.spoiled_size

    spoiled_size' : n ≤ length spoiled'
    spoiled_size' = subst (λ xs. n ≤ length xs) (sym ss) (spoiled_size_by lost)

    still_waiting : (i : ℕ) → i < n → 0 < slice_index waits' i → status i ≡ Waiting
    still_waiting i l w = elim (cases_eq i j) [
      | inl e ↦ subst (λ k. status k ≡ Waiting) (sym e) (q.waiting j passed_known passed_waits)
      | inr ne ↦ q.waiting i l (let s : slice_index waits' i ≡ slice_index waits i = at_other i ne in omega arith)
    ]

    none_other : (i : ℕ) → (i ≡ j → ⊥) → (slice_index waits' i == 0) ≡ (slice_index waits i == 0)
    none_other i ne = ap (λ v. v == 0) (at_other i ne)

    kept_ready : (k : ℕ) → k < count → (slice_index ready k < n) × (slice_index waits' (slice_index ready k) ≡ 0)
    kept_ready k l = let p = q.listed k l in (p.0, at_other (slice_index ready k) (unlisted k l) ∙ p.1)

    -- the task waits for others
    waits_on : (slice_index waits j - 1 ≡ 0 → ⊥) → IsQueue links n status pending' spoils' waits' spoiled' ready started count
    waits_on more =
        let p : 0 < slice_index waits' j = (let a : slice_index waits' j + 1 ≡ slice_index waits j = at_j in positive (slice_index waits' j) (λ z. more (omega arith))) in
        record {
          waits_size = waits_size';
          spoiled_size = spoiled_size';
          ready_size = q.ready_size;
          counts = counts';
          spoils_some = some';
          spoils_all = all';
          size = q.size ∙ count_same (λ i. slice_index waits i == 0) (λ i. slice_index waits' i == 0) n (λ i l. elim (cases_eq i j) [
            | inl e ↦ (let o : 0 < slice_index waits j = passed_waits in
                subst (λ k. (slice_index waits k == 0) ≡ (slice_index waits' k == 0)) (sym e)
                (ne_eqb (slice_index waits j) 0 (λ z. absurd (omega arith)) ∙ sym (ne_eqb (slice_index waits' j) 0 (λ z. absurd (omega arith)))))
            | inr ne ↦ sym (none_other i ne)
          ]);
          within = q.within;
          listed = kept_ready;
          all = λ i l z. elim (cases_eq i j) [
            | inl e ↦ (let z' : slice_index waits' j ≡ 0 = subst (λ k. slice_index waits' k ≡ 0) e z in absurd (omega arith))
            | inr ne ↦ q.all i l (sym (at_other i ne) ∙ z)
          ];
          distinct = q.distinct;
          begun = q.begun;
          due = q.due;
          waiting = still_waiting;
        }
      where
        positive : (m : ℕ) → (m ≡ 0 → ⊥) → 0 < m
        positive m f = omega (arith, f)

    -- the task is ready
    module _ (last : slice_index waits j - 1 ≡ 0) (ready' : List ℕ) (rs : ready' ≡ slice_set ready count j) where
      none_j : slice_index waits' j ≡ 0
      none_j = let a : slice_index waits' j + 1 ≡ slice_index waits j = at_j in omega arith

      in_end : slice_index ready' count ≡ j
      in_end = ap (λ xs. slice_index xs count) rs ∙ get_or-set_same ready count j 0 passed_room

      in_other : (k : ℕ) → k < count → slice_index ready' k ≡ slice_index ready k
      in_other k l = ap (λ xs. slice_index xs k) rs ∙ get_or-set_other ready count k j 0 (λ e. absurd (omega arith))

      is_ready : IsQueue links n status pending' spoils' waits' spoiled' ready' started (count + 1)
      is_ready = record {
        waits_size = waits_size';
        spoiled_size = spoiled_size';
        ready_size = (let a : n ≤ length ready = q.ready_size in let e : length ready' ≡ length ready = ap length rs ∙ length-set ready count j in let r : n ≤ length ready' = omega arith in r);
        counts = counts';
        spoils_some = some';
        spoils_all = all';
        size = (
            let o : 0 < slice_index waits j = passed_waits in
            let c : count_below (λ i. slice_index waits' i == 0) n ≡ count_below (λ i. slice_index waits i == 0) n + 1 =
            one_more_counted (λ i. slice_index waits i == 0) (λ i. slice_index waits' i == 0) j (λ i ne. none_other i ne) (ne_eqb (slice_index waits j) 0 (λ z. absurd (omega arith))) (eq-eqb (slice_index waits' j) 0 none_j) n passed_known in
            let s : count ≡ count_below (λ i. slice_index waits i == 0) n = q.size in
            let r : count + 1 ≡ count_below (λ i. slice_index waits' i == 0) n = omega arith in r);
        within = (let w : started ≤ count = q.within in let r : started ≤ count + 1 = omega arith in r);
        listed = λ k l. elim (cases_lt k count) [
          | inl old ↦ subst (λ i. (i < n) × (slice_index waits' i ≡ 0)) (sym (in_other k old)) (kept_ready k old)
          | inr new ↦ (let e : k ≡ count = omega arith in subst (λ i. (i < n) × (slice_index waits' i ≡ 0)) (sym (ap (slice_index ready') e ∙ in_end)) (passed_known, none_j))
        ];
        all = λ i l z. elim (cases_eq i j) [
          | inl e ↦ (count, (let r : count < count + 1 = omega arith in r), in_end ∙ sym e)
          | inr ne ↦ (
              let r = q.all i l (sym (at_other i ne) ∙ z) in
              let b : r.0 < count = r.1 in
              (r.0, (let w : r.0 < count + 1 = omega arith in w), in_other r.0 b ∙ r.2))
        ];
        distinct = λ k m lo hi same. elim (cases_lt m count) [
          | inl old ↦ q.distinct k m lo old (sym (in_other k (omega arith)) ∙ (same ∙ in_other m old))
          | inr new ↦ (let e : m ≡ count = omega arith in unlisted k (omega arith) (sym (in_other k (omega arith)) ∙ (same ∙ (ap (slice_index ready') e ∙ in_end))))
        ];
        begun = λ k l s. (let w : started ≤ count = q.within in q.begun k l (ap status (sym (in_other k (omega arith))) ∙ s));
        due = λ k lo hi. elim (cases_lt k count) [
          | inl old ↦ ap status (in_other k old) ∙ q.due k lo old
          | inr new ↦ (let e : k ≡ count = omega arith in ap status (ap (slice_index ready') e ∙ in_end) ∙ q.waiting j passed_known passed_waits)
        ];
        waiting = still_waiting;
      }

    passed_by : (b : Bool) → (slice_index waits j - 1 == 0) ≡ b → IsQueue links n status pending' spoils' waits' spoiled' (cond b (slice_set ready count j) ready) started (cond b (count + 1) count)
    passed_by true e = is_ready (eqb-true (slice_index waits j - 1) 0 e) (slice_set ready count j) refl
    passed_by false e = waits_on (eqb-false (slice_index waits j - 1) 0 e)

    pub passed : (ready' : List ℕ) (count' : ℕ) → ready' ≡ cond (slice_index waits j - 1 == 0) (slice_set ready count j) ready → count' ≡ cond (slice_index waits j - 1 == 0) (count + 1) count →
        IsQueue links n status pending' spoils' waits' spoiled' ready' started count'
    passed ready' count' rs cs =
        subst (λ r. IsQueue links n status pending' spoils' waits' spoiled' r started count') (sym rs)
        (subst (λ c. IsQueue links n status pending' spoils' waits' spoiled' (cond (slice_index waits j - 1 == 0) (slice_set ready count j) ready) started c) (sym cs)
        (passed_by (slice_index waits j - 1 == 0) refl))
