-- One more use of a piece is noted, and one more task.
use Rattle.std.proofs.Common.{◌≡◌, ◌⊎◌, ℕ, suc, ◌+◌, ◌-◌, ◌<◌, ◌≤◌, Bool, true, false, cond, ◌&&◌, ◌||◌, inl, inr, List, [], ◌∷◌, ◌++◌, length, take, drop, refl, sym, ◌∙◌, ap, subst, arith}
use Rattle.std.specs.Prelude.{nat_le, nat_lt, slice_index, slice_set, sum}
use Rattle.std.specs.List.{list_any}
use Rattle.std.proofs.lemmas.Bool.{cases_lt, cases_eq, lt-ltb, le-ltb, le-leb, lt-leb, and_from, or_right, and_parts, ltb-true}
use Rattle.std.proofs.lemmas.List.{length_push, length-set, get_or-set_same, get_or-set_other, get_or_append_left, get_or_push, get_or_past, take_all, take-append-le, drop-append-le, length-drop, length-append, get_or_default}
use Rattle.std.proofs.lemmas.List.Sums.{sum_by_push, sum_by-cons}
use Rattle.std.proofs.Math.Bool.{or_assoc}
use Rattle.basics.proofs.ListFacts.{some_passes}
use Rattle.task_order.specs.declared.access.Access.{Access}
use Rattle.task_order.specs.Tasks.{covers, uses, changes, accesses_of}
use Rattle.task_order.proofs.Public.{changed_is_used}
use Rattle.task_window.specs.declared.links.Link.{Link}
use Rattle.task_window.specs.declared.pieces.Pieces.{Pieces}
use Rattle.task_window.specs.Chains.{link_at}
use Rattle.task_window.specs.Pieces.{cut, tasks_of, used_by, changed_by, access_at, no_access, IsLastWriter, AreNoted, AreNotedOf, ArePieces}
use Rattle.task_window.proofs.ChainFacts.{kept_at, new_at, place}

-- the last of n tasks uses one piece more
module _ (n t p : ℕ) (last : t + 1 ≡ n) (used changed used' changed' : ℕ → ℕ → Bool) (writer : List ℕ) (links : List Link) (q : AreNoted n used changed writer links)
    (others : (i k : ℕ) → (i ≡ t → k ≡ p → ⊥) → used' i k ≡ used i k) (others' : (i k : ℕ) → (i ≡ t → k ≡ p → ⊥) → changed' i k ≡ changed i k) (uses : used' t p ≡ true) where
  here_or : (i k : ℕ) → ((i ≡ t) × (k ≡ p)) ⊎ (i ≡ t → k ≡ p → ⊥)
  here_or i k = elim (cases_eq i t) [
    | inr ne ↦ inr (λ a b. ne a)
    | inl e ↦ elim (cases_eq k p) [ inl f ↦ inl (e, f) | inr ne ↦ inr (λ a b. ne b) ]
  ]

  more_used : (i k : ℕ) → used i k ≡ true → used' i k ≡ true
  more_used i k u = elim (here_or i k) [
    | inl h ↦ ap (λ y. used' y k) h.0 ∙ (ap (used' t) h.1 ∙ uses)
    | inr ne ↦ others i k ne ∙ u
  ]

  note_write : p < length writer → changed' t p ≡ true → AreNoted n used' changed' (slice_set writer p (t + 1)) links
  note_write known c = record {
    writers = λ k h. elim (cases_eq k p) [
      | inl e ↦ subst (λ y. IsLastWriter n changed' k y) (sym (ap (slice_index (slice_set writer p (t + 1))) e ∙ get_or-set_same writer p (t + 1) 0 known)) (record {
        within = omega arith;
        is = λ z. ap (λ y. changed' y k) (let s : t + 1 - 1 ≡ t = omega arith in s) ∙ (ap (changed' t) e ∙ c);
        others = λ j lo hi. absurd (omega arith);
      })
      | inr ne ↦ (
          let size : length (slice_set writer p (t + 1)) ≡ length writer = length-set writer p (t + 1) in
          let w = q.writers k (omega arith) in
          subst (λ y. IsLastWriter n changed' k y) (sym (get_or-set_other writer p k (t + 1) 0 ne)) (record {
            within = w.within;
            is = λ z. others' (slice_index writer k - 1) k (λ a b. ne b) ∙ w.is z;
            others = λ j lo hi. others' j k (λ a b. ne b) ∙ w.others j lo hi;
          }))
    ];
    readers = λ x h. (let r = q.readers x h in (r.0, more_used (link_at links x).value (link_at links x).key r.1));
    all = λ i k u. elim (here_or i k) [
      | inl h ↦ inl (ap (λ y. changed' y k) h.0 ∙ (ap (changed' t) h.1 ∙ c))
      | inr ne ↦ elim (q.all i k (sym (others i k ne) ∙ u)) [ inl d ↦ inl (others' i k ne ∙ d) | inr r ↦ inr r ]
    ];
    ascend = q.ascend;
  }

  note_read : (l : Link) → l.key ≡ p → l.value ≡ t → ((i k : ℕ) → changed' i k ≡ changed i k) → AreNoted n used' changed' writer (links ++ l ∷ [])
  note_read l lk lv same = record {
    writers = λ k h. (let w = q.writers k h in record {
      within = w.within;
      is = λ z. same (slice_index writer k - 1) k ∙ w.is z;
      others = λ j lo hi. same j k ∙ w.others j lo hi;
    });
    readers = λ x h. elim (place links l x h) [
      | inl old ↦ subst (λ (z : Link). (z.value < n) × (used' z.value z.key ≡ true)) (sym (kept_at links l x old)) (let r = q.readers x old in (r.0, more_used (link_at links x).value (link_at links x).key r.1))
      | inr new ↦ subst (λ (z : Link). (z.value < n) × (used' z.value z.key ≡ true)) (sym (new_at links l x new)) ((let s : l.value < n = omega arith in s), ap (λ y. used' y l.key) lv ∙ (ap (used' t) lk ∙ uses))
    ];
    all = λ i k u. elim (here_or i k) [
      | inl h ↦ inr (
        length links,
        (let e : length (links ++ l ∷ []) ≡ length links + 1 = length_push links l in let s : length links < length (links ++ l ∷ []) = omega arith in s),
        ap (λ (z : Link). z.key) (new_at links l (length links) refl) ∙ (lk ∙ sym h.1),
        ap (λ (z : Link). z.value) (new_at links l (length links) refl) ∙ (lv ∙ sym h.0),
      )
      | inr ne ↦ elim (q.all i k (sym (others i k ne) ∙ u)) [
        | inl d ↦ inl (same i k ∙ d)
        | inr r ↦ inr (
            let b : r.0 < length links = r.1 in (
              r.0,
              (let e : length (links ++ l ∷ []) ≡ length links + 1 = length_push links l in let s : r.0 < length (links ++ l ∷ []) = omega arith in s),
              ap (λ (z : Link). z.key) (kept_at links l r.0 b) ∙ r.2,
              ap (λ (z : Link). z.value) (kept_at links l r.0 b) ∙ r.3,
            ))
      ]
    ];
    ascend = λ x y le h. elim (place links l y h) [
      | inl old ↦ (
          let a : (link_at (links ++ l ∷ []) x).value ≡ (link_at links x).value = ap (λ (z : Link). z.value) (kept_at links l x (omega arith)) in
          let b : (link_at (links ++ l ∷ []) y).value ≡ (link_at links y).value = ap (λ (z : Link). z.value) (kept_at links l y old) in
          let c : (link_at links x).value ≤ (link_at links y).value = q.ascend x y le old in
          let r : (link_at (links ++ l ∷ []) x).value ≤ (link_at (links ++ l ∷ []) y).value = omega arith in r)
      | inr new ↦ (
          let b : (link_at (links ++ l ∷ []) y).value ≡ l.value = ap (λ (z : Link). z.value) (new_at links l y new) in
          elim (place links l x (omega arith)) [
            | inl low ↦ (
                let a : (link_at (links ++ l ∷ []) x).value ≡ (link_at links x).value = ap (λ (z : Link). z.value) (kept_at links l x low) in
                let c : (link_at links x).value < n = (q.readers x low).0 in
                let r : (link_at (links ++ l ∷ []) x).value ≤ (link_at (links ++ l ∷ []) y).value = omega arith in r)
            | inr same' ↦ (
                let a : (link_at (links ++ l ∷ []) x).value ≡ l.value = ap (λ (z : Link). z.value) (new_at links l x same') in
                let r : (link_at (links ++ l ∷ []) x).value ≤ (link_at (links ++ l ∷ []) y).value = omega arith in r)
          ])
    ];
  }

-- tests of one more access
pub any_end : {X : Type 0} (t : X → Bool) (xs : List X) (x : X) → list_any t (xs ++ x ∷ []) ≡ (list_any t xs || t x)
any_end t [] x = or_false (t x)
  where
    or_false : (b : Bool) → (b || false) ≡ b
    or_false true = refl
    or_false false = refl
any_end t (y ∷ ys) x = ap (λ b. t y || b) (any_end t ys x) ∙ sym (or_assoc (t y) (list_any t ys) (t x))

abbrev pub part : ℕ → ℕ → Bool → Access
part first count writes = record { first = first; count = count; writes = writes }

covers_other : (first count k : ℕ) (writes : Bool) → (k ≡ first + count → ⊥) → covers k (part first (count + 1) writes) ≡ covers k (part first count writes)
covers_other first count k writes ne = ap (λ b. nat_le first k && b) (elim (cases_lt k (first + count)) [
  | inl low ↦ lt-ltb k (first + (count + 1)) (omega arith) ∙ sym (lt-ltb k (first + count) low)
  | inr high ↦ le-ltb k (first + (count + 1)) (omega (arith, ne)) ∙ sym (le-ltb k (first + count) high)
])

covers_last : (first count k : ℕ) (writes : Bool) → k ≡ first + count → covers k (part first (count + 1) writes) ≡ true
covers_last first count k writes e = and_from (nat_le first k) (nat_lt k (first + (count + 1))) (le-leb first k (omega arith)) (lt-ltb k (first + (count + 1)) (omega arith))

covers_none : (first k : ℕ) (writes : Bool) → covers k (part first 0 writes) ≡ false
covers_none first k writes = elim (cases_lt k first) [
  | inl low ↦ ap (λ b. b && nat_lt k (first + 0)) (lt-leb first k low)
  | inr high ↦ ap (λ b. nat_le first k && b) (le-ltb k (first + 0) (omega arith)) ∙ and_false (nat_le first k)
]
  where
    and_false : (b : Bool) → (b && false) ≡ false
    and_false true = refl
    and_false false = refl

-- accesses of the last task
pub accesses_last : (tasks : List (List Access)) (of : List Access) (i : ℕ) → i ≡ length tasks → accesses_of (tasks ++ of ∷ []) i ≡ of
accesses_last tasks of i e = get_or_push tasks of [] i (sym e)

pub accesses_before : (tasks : List (List Access)) (of : List Access) (i : ℕ) → (i ≡ length tasks → ⊥) → accesses_of (tasks ++ of ∷ []) i ≡ accesses_of tasks i
accesses_before tasks of i ne = elim (cases_lt i (length tasks)) [
  | inl low ↦ get_or_append_left tasks (of ∷ []) [] i low
  | inr past ↦ (
      let s : length (tasks ++ of ∷ []) ≡ length tasks + 1 = length_push tasks of in
      get_or_past (tasks ++ of ∷ []) i [] (omega (arith, ne)) ∙ sym (get_or_past tasks i [] past))
]

-- one piece more of an access of the last task
module _ (tasks : List (List Access)) (of : List Access) (first count : ℕ) (writes : Bool) where
  uses_end : (c k : ℕ) → uses (of ++ part first c writes ∷ []) k ≡ (uses of k || covers k (part first c writes))
  uses_end c k = any_end (covers k) of (part first c writes)

  changes_end : (c k : ℕ) → changes (of ++ part first c writes ∷ []) k ≡ (changes of k || (writes && covers k (part first c writes)))
  changes_end c k = any_end (λ (a : Access). a.writes && covers k a) of (part first c writes)

  used_same : (i k : ℕ) → (i ≡ length tasks → k ≡ first + count → ⊥) → used_by (tasks ++ (of ++ part first (count + 1) writes ∷ []) ∷ []) i k ≡ used_by (tasks ++ (of ++ part first count writes ∷ []) ∷ []) i k
  used_same i k ne = elim (cases_eq i (length tasks)) [
    | inr apart ↦ ap (λ (a : List Access). uses a k) (accesses_before tasks (of ++ part first (count + 1) writes ∷ []) i apart ∙ sym (accesses_before tasks (of ++ part first count writes ∷ []) i apart))
    | inl e ↦ ap (λ (a : List Access). uses a k) (accesses_last tasks (of ++ part first (count + 1) writes ∷ []) i e) ∙
        (uses_end (count + 1) k ∙ (ap (λ b. uses of k || b) (covers_other first count k writes (ne e)) ∙
        (sym (uses_end count k) ∙ sym (ap (λ (a : List Access). uses a k) (accesses_last tasks (of ++ part first count writes ∷ []) i e)))))
  ]

  changed_same : (i k : ℕ) → (i ≡ length tasks → k ≡ first + count → ⊥) → changed_by (tasks ++ (of ++ part first (count + 1) writes ∷ []) ∷ []) i k ≡ changed_by (tasks ++ (of ++ part first count writes ∷ []) ∷ []) i k
  changed_same i k ne = elim (cases_eq i (length tasks)) [
    | inr apart ↦ ap (λ (a : List Access). changes a k) (accesses_before tasks (of ++ part first (count + 1) writes ∷ []) i apart ∙ sym (accesses_before tasks (of ++ part first count writes ∷ []) i apart))
    | inl e ↦ ap (λ (a : List Access). changes a k) (accesses_last tasks (of ++ part first (count + 1) writes ∷ []) i e) ∙
        (changes_end (count + 1) k ∙ (ap (λ b. changes of k || (writes && b)) (covers_other first count k writes (ne e)) ∙
        (sym (changes_end count k) ∙ sym (ap (λ (a : List Access). changes a k) (accesses_last tasks (of ++ part first count writes ∷ []) i e)))))
  ]

  changed_read : writes ≡ false → (i k : ℕ) → changed_by (tasks ++ (of ++ part first (count + 1) writes ∷ []) ∷ []) i k ≡ changed_by (tasks ++ (of ++ part first count writes ∷ []) ∷ []) i k
  changed_read off i k = elim (cases_eq i (length tasks)) [
    | inr apart ↦ ap (λ (a : List Access). changes a k) (accesses_before tasks (of ++ part first (count + 1) writes ∷ []) i apart ∙ sym (accesses_before tasks (of ++ part first count writes ∷ []) i apart))
    | inl e ↦ ap (λ (a : List Access). changes a k) (accesses_last tasks (of ++ part first (count + 1) writes ∷ []) i e) ∙
        (changes_end (count + 1) k ∙ (ap (λ b. changes of k || (b && covers k (part first (count + 1) writes))) off ∙
        (sym (ap (λ b. changes of k || (b && covers k (part first count writes))) off) ∙
        (sym (changes_end count k) ∙ sym (ap (λ (a : List Access). changes a k) (accesses_last tasks (of ++ part first count writes ∷ []) i e))))))
  ]

  used_here : used_by (tasks ++ (of ++ part first (count + 1) writes ∷ []) ∷ []) (length tasks) (first + count) ≡ true
  used_here = ap (λ (a : List Access). uses a (first + count)) (accesses_last tasks (of ++ part first (count + 1) writes ∷ []) (length tasks) refl) ∙
      (uses_end (count + 1) (first + count) ∙ or_right (uses of (first + count)) (covers (first + count) (part first (count + 1) writes)) (covers_last first count (first + count) writes refl))

  changed_here : writes ≡ true → changed_by (tasks ++ (of ++ part first (count + 1) writes ∷ []) ∷ []) (length tasks) (first + count) ≡ true
  changed_here on = ap (λ (a : List Access). changes a (first + count)) (accesses_last tasks (of ++ part first (count + 1) writes ∷ []) (length tasks) refl) ∙
      (changes_end (count + 1) (first + count) ∙ or_right (changes of (first + count)) (writes && covers (first + count) (part first (count + 1) writes)) (and_from writes (covers (first + count) (part first (count + 1) writes)) on (covers_last first count (first + count) writes refl)))

  longer : (c : ℕ) → length (tasks ++ (of ++ part first c writes ∷ []) ∷ []) ≡ length tasks + 1
  longer c = length_push tasks (of ++ part first c writes ∷ [])

  module _ (writer : List ℕ) (links : List Link) (known : first + count < length writer) (task : ℕ) (number : length tasks ≡ task) (q : AreNotedOf (tasks ++ (of ++ part first count writes ∷ []) ∷ []) writer links) where
    as_longer : AreNoted (length (tasks ++ (of ++ part first (count + 1) writes ∷ []) ∷ [])) (used_by (tasks ++ (of ++ part first count writes ∷ []) ∷ [])) (changed_by (tasks ++ (of ++ part first count writes ∷ []) ∷ [])) writer links
    as_longer = subst (λ m. AreNoted m (used_by (tasks ++ (of ++ part first count writes ∷ []) ∷ [])) (changed_by (tasks ++ (of ++ part first count writes ∷ []) ∷ [])) writer links) (longer count ∙ sym (longer (count + 1))) q

    noted_by : (b : Bool) → writes ≡ b → AreNotedOf (tasks ++ (of ++ part first (count + 1) writes ∷ []) ∷ []) (cond b (slice_set writer (first + count) (task + 1)) writer) (cond b links (links ++ record { key = first + count; value = task } ∷ []))
    noted_by true on = subst (λ t. AreNotedOf (tasks ++ (of ++ part first (count + 1) writes ∷ []) ∷ []) (slice_set writer (first + count) (t + 1)) links) number
        (note_write (length (tasks ++ (of ++ part first (count + 1) writes ∷ []) ∷ [])) (length tasks) (first + count) (sym (longer (count + 1)))
        (used_by (tasks ++ (of ++ part first count writes ∷ []) ∷ [])) (changed_by (tasks ++ (of ++ part first count writes ∷ []) ∷ [])) (used_by (tasks ++ (of ++ part first (count + 1) writes ∷ []) ∷ [])) (changed_by (tasks ++ (of ++ part first (count + 1) writes ∷ []) ∷ []))
        writer links as_longer used_same changed_same used_here known (changed_here on))
    noted_by false off =
        note_read (length (tasks ++ (of ++ part first (count + 1) writes ∷ []) ∷ [])) (length tasks) (first + count) (sym (longer (count + 1)))
        (used_by (tasks ++ (of ++ part first count writes ∷ []) ∷ [])) (changed_by (tasks ++ (of ++ part first count writes ∷ []) ∷ [])) (used_by (tasks ++ (of ++ part first (count + 1) writes ∷ []) ∷ [])) (changed_by (tasks ++ (of ++ part first (count + 1) writes ∷ []) ∷ []))
        writer links as_longer used_same changed_same used_here (record { key = first + count; value = task }) refl (sym number) (changed_read off)

    pub note_next : (p : ℕ) → p ≡ first + count → (writer' : List ℕ) (links' : List Link) → writer' ≡ cond writes (slice_set writer p (task + 1)) writer → links' ≡ cond writes links (links ++ record { key = p; value = task } ∷ []) →
        (c : ℕ) → c ≡ count + 1 → AreNotedOf (tasks ++ (of ++ part first c writes ∷ []) ∷ []) writer' links'
    note_next p at writer' links' ws ls c more =
        subst (λ d. AreNotedOf (tasks ++ (of ++ part first d writes ∷ []) ∷ []) writer' links') (sym more)
        (subst (λ w. AreNotedOf (tasks ++ (of ++ part first (count + 1) writes ∷ []) ∷ []) w links') (sym (ws ∙ ap (λ k. cond writes (slice_set writer k (task + 1)) writer) at))
        (subst (λ l. AreNotedOf (tasks ++ (of ++ part first (count + 1) writes ∷ []) ∷ []) (cond writes (slice_set writer (first + count) (task + 1)) writer) l) (sym (ls ∙ ap (λ k. cond writes links (links ++ record { key = k; value = task } ∷ [])) at))
        (noted_by writes refl)))

-- tests that agree
pub noted_alike : (n m : ℕ) (used changed used' changed' : ℕ → ℕ → Bool) (writer : List ℕ) (links : List Link) → ((i k : ℕ) → used' i k ≡ used i k) → ((i k : ℕ) → changed' i k ≡ changed i k) →
    n ≤ m → ((i k : ℕ) → n ≤ i → changed i k ≡ false) → AreNoted n used changed writer links → AreNoted m used' changed' writer links
noted_alike n m used changed used' changed' writer links us cs le none q = record {
  writers = λ k h. (let w = q.writers k h in record {
    within = (let a : slice_index writer k ≤ n = w.within in let s : slice_index writer k ≤ m = omega arith in s);
    is = λ z. cs (slice_index writer k - 1) k ∙ w.is z;
    others = λ j lo hi. elim (cases_lt j n) [ inl low ↦ cs j k ∙ w.others j lo low | inr past ↦ cs j k ∙ none j k past ];
  });
  readers = λ x h. (let r = q.readers x h in let a : (link_at links x).value < n = r.0 in ((let s : (link_at links x).value < m = omega arith in s), us (link_at links x).value (link_at links x).key ∙ r.1));
  all = λ i k u. elim (q.all i k (sym (us i k) ∙ u)) [ inl c ↦ inl (cs i k ∙ c) | inr r ↦ inr r ];
  ascend = q.ascend;
}

-- a last task without accesses, and one with an access of no piece
pub noted_none : (tasks : List (List Access)) (writer : List ℕ) (links : List Link) → AreNotedOf tasks writer links → AreNotedOf (tasks ++ [] ∷ []) writer links
noted_none tasks writer links q =
    let e : length (tasks ++ [] ∷ []) ≡ length tasks + 1 = length_push tasks [] in
    noted_alike (length tasks) (length (tasks ++ [] ∷ [])) (used_by tasks) (changed_by tasks) (used_by (tasks ++ [] ∷ [])) (changed_by (tasks ++ [] ∷ [])) writer links
    (λ i k. ap (λ (a : List Access). uses a k) (same i)) (λ i k. ap (λ (a : List Access). changes a k) (same i)) (omega arith) (λ i k past. ap (λ (a : List Access). changes a k) (get_or_past tasks i [] past)) q
  where
    same : (i : ℕ) → accesses_of (tasks ++ [] ∷ []) i ≡ accesses_of tasks i
    same i = elim (cases_eq i (length tasks)) [
      | inl e ↦ accesses_last tasks [] i e ∙ sym (get_or_past tasks i [] (omega arith))
      | inr ne ↦ accesses_before tasks [] i ne
    ]

pub noted_empty : (tasks : List (List Access)) (of : List Access) (first c : ℕ) (writes : Bool) (writer : List ℕ) (links : List Link) → c ≡ 0 → AreNotedOf (tasks ++ of ∷ []) writer links → AreNotedOf (tasks ++ (of ++ part first c writes ∷ []) ∷ []) writer links
noted_empty tasks of first c writes writer links zero q =
    subst (λ d. AreNotedOf (tasks ++ (of ++ part first d writes ∷ []) ∷ []) writer links) (sym zero)
    (let a : length (tasks ++ of ∷ []) ≡ length tasks + 1 = length_push tasks of in
    let b : length (tasks ++ (of ++ part first 0 writes ∷ []) ∷ []) ≡ length tasks + 1 = length_push tasks (of ++ part first 0 writes ∷ []) in
    noted_alike (length (tasks ++ of ∷ [])) (length (tasks ++ (of ++ part first 0 writes ∷ []) ∷ [])) (used_by (tasks ++ of ∷ [])) (changed_by (tasks ++ of ∷ [])) (used_by (tasks ++ (of ++ part first 0 writes ∷ []) ∷ [])) (changed_by (tasks ++ (of ++ part first 0 writes ∷ []) ∷ [])) writer links
    used_same_none changed_same_none (omega arith) (λ i k past. ap (λ (x : List Access). changes x k) (get_or_past (tasks ++ of ∷ []) i [] past)) q)
  where
    or_false : (b : Bool) → (b || false) ≡ b
    or_false true = refl
    or_false false = refl

    and_false : (b : Bool) → (b && false) ≡ false
    and_false true = refl
    and_false false = refl

    used_same_none : (i k : ℕ) → used_by (tasks ++ (of ++ part first 0 writes ∷ []) ∷ []) i k ≡ used_by (tasks ++ of ∷ []) i k
    used_same_none i k = elim (cases_eq i (length tasks)) [
      | inr ne ↦ ap (λ (a : List Access). uses a k) (accesses_before tasks (of ++ part first 0 writes ∷ []) i ne ∙ sym (accesses_before tasks of i ne))
      | inl e ↦ ap (λ (a : List Access). uses a k) (accesses_last tasks (of ++ part first 0 writes ∷ []) i e) ∙ (uses_end tasks of first 0 writes 0 k ∙ (ap (λ b. uses of k || b) (covers_none first k writes) ∙
          (or_false (uses of k) ∙ sym (ap (λ (a : List Access). uses a k) (accesses_last tasks of i e)))))
    ]

    changed_same_none : (i k : ℕ) → changed_by (tasks ++ (of ++ part first 0 writes ∷ []) ∷ []) i k ≡ changed_by (tasks ++ of ∷ []) i k
    changed_same_none i k = elim (cases_eq i (length tasks)) [
      | inr ne ↦ ap (λ (a : List Access). changes a k) (accesses_before tasks (of ++ part first 0 writes ∷ []) i ne ∙ sym (accesses_before tasks of i ne))
      | inl e ↦ ap (λ (a : List Access). changes a k) (accesses_last tasks (of ++ part first 0 writes ∷ []) i e) ∙ (changes_end tasks of first 0 writes 0 k ∙ (ap (λ b. changes of k || (writes && b)) (covers_none first k writes) ∙
          (ap (λ b. changes of k || b) (and_false writes) ∙ (or_false (changes of k) ∙ sym (ap (λ (a : List Access). changes a k) (accesses_last tasks of i e))))))
    ]

-- a longer table of writers, and more pieces
pub pieces_longer : (q r : Pieces) → ArePieces q → ((k : ℕ) → slice_index r.writer.items k ≡ slice_index q.writer.items k) → length q.writer.items ≤ length r.writer.items →
    r.readers.links ≡ q.readers.links → r.sizes.items ≡ q.sizes.items → r.accesses.items ≡ q.accesses.items → q.readers.keys ≤ r.readers.keys → r.readers.keys ≤ length r.writer.items → r.readers.keys < 4294967296 → ArePieces r
pieces_longer q r p same le li si ac ke kw fe = record {
  noted = subst (λ (ls : List Link). AreNotedOf (tasks_of r) r.writer.items ls) (sym li) (subst (λ (ts : List (List Access)). AreNotedOf ts r.writer.items q.readers.links) (sym tasks) (record {
    writers = λ k h. subst (λ y. IsLastWriter (length (tasks_of q)) (changed_by (tasks_of q)) k y) (sym (same k)) (elim (cases_lt k (length q.writer.items)) [
      | inl low ↦ p.noted.writers k low
      | inr past ↦ subst (λ y. IsLastWriter (length (tasks_of q)) (changed_by (tasks_of q)) k y) (sym (get_or_past q.writer.items k 0 past)) (record {
        within = omega arith;
        is = λ z. absurd (omega arith);
        others = λ j lo hi. unchanged j k past (changed_by (tasks_of q) j k) refl;
      })
    ]);
    readers = p.noted.readers;
    all = p.noted.all;
    ascend = p.noted.ascend;
  }));
  cuts = ap sum si ∙ (p.cuts ∙ ap length (sym ac));
  keys = kw;
  few = fe;
  used = λ i k u. (let s : k < q.readers.keys = p.used i k (sym (ap (λ (ts : List (List Access)). used_by ts i k) tasks) ∙ u) in let t : k < r.readers.keys = omega arith in t);
}
  where
    tasks : tasks_of r ≡ tasks_of q
    tasks = ap (λ s. cut s r.accesses.items) si ∙ ap (λ (a : List Access). cut q.sizes.items a) ac

    unchanged : (j k : ℕ) → length q.writer.items ≤ k → (b : Bool) → changed_by (tasks_of q) j k ≡ b → b ≡ false
    unchanged j k past false e = refl
    unchanged j k past true e = (let s : k < q.readers.keys = p.used j k (changed_is_used (accesses_of (tasks_of q) j) k e) in let t : q.readers.keys ≤ length q.writer.items = p.keys in absurd (omega arith))

-- how many links there are
pub cond_grows : (writes : Bool) (n c : ℕ) → c ≡ 0 → n ≡ n + cond writes 0 c
cond_grows true n c e = omega arith
cond_grows false n c e = omega arith

pub cond_room : (writes : Bool) (n m c all room more : ℕ) → m ≡ n + cond writes 0 c → n + cond writes 0 all ≤ room → room ≤ more → c < all → m + cond writes 0 1 ≤ more
cond_room true n m c all room more e f g h = omega arith
cond_room false n m c all room more e f g h = omega arith

pub cond_size : (writes : Bool) (xs : List ℕ) (i x : ℕ) → length (cond writes (slice_set xs i x) xs) ≡ length xs
cond_size true xs i x = length-set xs i x
cond_size false xs i x = refl

pub cond_links : (writes : Bool) (links : List Link) (l : Link) (n c d : ℕ) → d ≡ c + 1 → length links ≡ n + cond writes 0 c → length (cond writes links (links ++ l ∷ [])) ≡ n + cond writes 0 d
cond_links true links l n c d e f = f
cond_links false links l n c d e f = length_push links l ∙ (omega arith)

-- accesses cut for one task more
sum_push : (xs : List ℕ) (n : ℕ) → sum (xs ++ n ∷ []) ≡ sum xs + n
sum_push xs n = sum_by_push (λ x. x) xs n

pub cut_push : (sizes : List ℕ) (old new : List Access) → sum sizes ≡ length old → cut (sizes ++ length new ∷ []) (old ++ new) ≡ cut sizes old ++ new ∷ []
cut_push [] [] new e = ap (λ (xs : List Access). xs ∷ []) (take_all (length new) new (omega arith))
cut_push [] (x ∷ xs) new e = absurd (omega arith)
cut_push (n ∷ sizes) old new e =
    let total : sum (n ∷ sizes) ≡ n + sum sizes = sum_by-cons (λ x. x) n sizes in
    ap (λ (xs : List Access). xs ∷ cut (sizes ++ length new ∷ []) (drop n (old ++ new))) (take-append-le n old new (omega arith))
    ∙ (ap (λ (xs : List Access). take n old ∷ cut (sizes ++ length new ∷ []) xs) (drop-append-le n old new (omega arith))
    ∙ ap (λ (ts : List (List Access)). take n old ∷ ts) (cut_push sizes (drop n old) new (let d : length (drop n old) ≡ length old - n = length-drop n old in omega arith)))

pub cut_length : (sizes : List ℕ) (old : List Access) → length (cut sizes old) ≡ length sizes
cut_length [] old = refl
cut_length (n ∷ sizes) old = ap suc (cut_length sizes (drop n old))

-- a task uses pieces within its accesses
used_within : (accesses : List Access) (keys k : ℕ) → ((j : ℕ) → j < length accesses → (access_at accesses j).first + (access_at accesses j).count ≤ keys) → uses accesses k ≡ true → k < keys
used_within accesses keys k within u =
    let s = some_passes (covers k) accesses u in
    let at = s.1 in
    let cov = and_parts (nat_le (s.0).first k) (nat_lt k ((s.0).first + (s.0).count)) s.2 in
    let lt : k < (s.0).first + (s.0).count = ltb-true k ((s.0).first + (s.0).count) cov.1 in
    let same : access_at accesses at.0 ≡ s.0 = get_or_default accesses at.0 no_access s.0 at.1 ∙ at.2 in
    let most : (s.0).first + (s.0).count ≤ keys = subst (λ (a : Access). a.first + a.count ≤ keys) same (within at.0 at.1) in
    omega arith

-- one task more
pub pieces_added : (q r : Pieces) (task : ℕ) (accesses : List Access) → ArePieces q → task ≡ length (tasks_of q) → r.sizes.items ≡ q.sizes.items ++ length accesses ∷ [] → r.accesses.items ≡ q.accesses.items ++ accesses →
    r.readers.keys ≡ q.readers.keys → length r.writer.items ≡ length q.writer.items → ((k : ℕ) → k < length accesses → (access_at accesses k).first + (access_at accesses k).count ≤ q.readers.keys) →
    AreNotedOf (tasks_of q ++ accesses ∷ []) r.writer.items r.readers.links → ArePieces r
pieces_added q r task accesses p number si ac ke wl within noted = record {
  noted = subst (λ (ts : List (List Access)). AreNotedOf ts r.writer.items r.readers.links) (sym tasks) noted;
  cuts = (
      let a : sum r.sizes.items ≡ sum q.sizes.items + length accesses = ap sum si ∙ sum_push q.sizes.items (length accesses) in
      let b : length r.accesses.items ≡ length q.accesses.items + length accesses = ap length ac ∙ length-append q.accesses.items accesses in
      let d : sum q.sizes.items ≡ length q.accesses.items = p.cuts in
      let s : sum r.sizes.items ≡ length r.accesses.items = omega arith in s);
  keys = (let a : q.readers.keys ≤ length q.writer.items = p.keys in let s : r.readers.keys ≤ length r.writer.items = omega arith in s);
  few = (let a : q.readers.keys < 4294967296 = p.few in let s : r.readers.keys < 4294967296 = omega arith in s);
  used = λ i k u. subst (λ m. k < m) (sym ke) (elim (cases_eq i (length (tasks_of q))) [
    | inl e ↦ used_within accesses q.readers.keys k within (sym (ap (λ (x : List Access). uses x k) (accesses_last (tasks_of q) accesses i e)) ∙ (sym (ap (λ (ts : List (List Access)). used_by ts i k) tasks) ∙ u))
    | inr ne ↦ p.used i k (sym (ap (λ (x : List Access). uses x k) (accesses_before (tasks_of q) accesses i ne)) ∙ (sym (ap (λ (ts : List (List Access)). used_by ts i k) tasks) ∙ u))
  ]);
}
  where
    tasks : tasks_of r ≡ tasks_of q ++ accesses ∷ []
    tasks = ap (λ s. cut s r.accesses.items) si ∙ (ap (λ (a : List Access). cut (q.sizes.items ++ length accesses ∷ []) a) ac ∙ cut_push q.sizes.items q.accesses.items accesses p.cuts)

pub tasks_added : (q r : Pieces) (accesses : List Access) → ArePieces q → r.sizes.items ≡ q.sizes.items ++ length accesses ∷ [] → r.accesses.items ≡ q.accesses.items ++ accesses → tasks_of r ≡ tasks_of q ++ accesses ∷ []
tasks_added q r accesses p si ac = ap (λ s. cut s r.accesses.items) si ∙ (ap (λ (a : List Access). cut (q.sizes.items ++ length accesses ∷ []) a) ac ∙ cut_push q.sizes.items q.accesses.items accesses p.cuts)
