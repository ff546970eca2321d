-- Lists that collect the sources of the next task.
use Rattle.std.proofs.Common.{◌≡◌, ◌⊎◌, ℕ, ◌+◌, ◌-◌, ◌<◌, ◌≤◌, Bool, true, false, inl, inr, List, length, refl, sym, ◌∙◌, ap, subst, arith}
use Rattle.std.specs.Prelude.{slice_index}
use Rattle.std.proofs.lemmas.Bool.{cases_lt, true≢false}
use Rattle.task_order.specs.declared.access.Access.{Access}
use Rattle.task_order.specs.Tasks.{accesses_of}
use Rattle.task_order.proofs.Public.{changed_is_used}
use Rattle.task_window.specs.declared.links.Link.{Link}
use Rattle.task_window.specs.Chains.{link_at, IsLatest}
use Rattle.task_window.specs.Pieces.{used_by, changed_by, access_at, IsLastWriter, AreNotedOf, IsMet, IsMetIn, IsMetBy, IsReaderFrom, Collects}

pub collects_none : (a : List ℕ) (P : ℕ → Type 0) → ((i : ℕ) → P i → ⊥) → Collects a a P
collects_none a P none = record { kept = λ i c. c; found = λ i p. absurd (none i p); only = λ i c. inl c }

pub collects_join : (a b c : List ℕ) (P Q R : ℕ → Type 0) → Collects a b P → Collects b c Q → ((i : ℕ) → R i → P i ⊎ Q i) → ((i : ℕ) → P i → R i) → ((i : ℕ) → Q i → R i) → Collects a c R
collects_join a b c P Q R f g split left right = record {
  kept = λ i h. g.kept i (f.kept i h);
  found = λ i r. elim (split i r) [ inl p ↦ g.kept i (f.found i p) | inr q ↦ g.found i q ];
  only = λ i h. elim (g.only i h) [
    | inl old ↦ elim (f.only i old) [ inl o ↦ inl o | inr p ↦ inr (left i p) ]
    | inr q ↦ inr (right i q)
  ];
}

pub collects_same : (a b : List ℕ) (P R : ℕ → Type 0) → Collects a b P → ((i : ℕ) → R i → P i) → ((i : ℕ) → P i → R i) → Collects a b R
collects_same a b P R f to from' = record {
  kept = f.kept;
  found = λ i r. f.found i (to i r);
  only = λ i h. elim (f.only i h) [ inl o ↦ inl o | inr p ↦ inr (from' i p) ];
}

-- the readers of a piece, from link e on
module _ (links : List Link) (p writer : ℕ) (a b : List ℕ) where
  pub readers_none : (e : ℕ) → IsLatest links p (length links) e → Collects a a (IsReaderFrom links e p writer)
  readers_none e l = collects_none a (IsReaderFrom links e p writer) (λ i r. l.others r.0 r.1 r.2 r.3)

  module _ (e x f : ℕ) (at : x + 1 ≡ e) (within : e ≤ length links) (key : (link_at links x).key ≡ p) (reader : ℕ) (is : reader ≡ (link_at links x).value) (c : Collects a b (IsReaderFrom links e p writer)) where
    pub readers_next : IsLatest links (link_at links x).key x f → writer ≤ reader → (b' : List ℕ) → Collects b b' (λ i. i ≡ reader) → Collects a b' (IsReaderFrom links f p writer)
    readers_next latest above b' d = collects_join a b b' (IsReaderFrom links e p writer) (λ i. i ≡ reader) (IsReaderFrom links f p writer) c d
        (λ i r. elim (cases_lt r.0 x) [
          | inl low ↦ absurd (latest.others r.0 r.1 low (r.3 ∙ sym key))
          | inr high ↦ elim (cases_lt x r.0) [
            | inl more ↦ inl (r.0, (let s : e ≤ r.0 = omega arith in s), r.2, r.3, r.4, r.5)
            | inr same ↦ inr (sym r.4 ∙ (ap (λ y. (link_at links y).value) (let s : r.0 ≡ x = omega arith in s) ∙ sym is))
          ]
        ])
        (λ i r. (let w : f ≤ x = latest.within in let lo : e ≤ r.0 = r.1 in (r.0, (let s : f ≤ r.0 = omega arith in s), r.2, r.3, r.4, r.5)))
        (λ i q. (let w : f ≤ x = latest.within in (x, w, (let s : x < length links = omega arith in s), key, sym is ∙ sym q, subst (λ y. writer ≤ y) (sym q) above)))

    pub readers_done : ((y z : ℕ) → y ≤ z → z < length links → (link_at links y).value ≤ (link_at links z).value) → reader < writer → Collects a b (IsReaderFrom links 0 p writer)
    readers_done ascend below = collects_same a b (IsReaderFrom links e p writer) (IsReaderFrom links 0 p writer) c
        (λ i r. elim (cases_lt r.0 e) [
          | inl low ↦ (
              let m : (link_at links r.0).value ≤ (link_at links x).value = ascend r.0 x (omega arith) (omega arith) in
              let v : (link_at links r.0).value ≡ i = r.4 in let w : writer ≤ i = r.5 in absurd (omega arith))
          | inr high ↦ (r.0, high, r.2, r.3, r.4, r.5)
        ])
        (λ i r. (r.0, (let s : 0 ≤ r.0 = omega arith in s), r.2, r.3, r.4, r.5))

-- what a piece says of the sources of a task that uses it
module _ (tasks : List (List Access)) (writer : List ℕ) (links : List Link) (noted : AreNotedOf tasks writer links) (p e : ℕ) (at : e ≡ slice_index writer p) (known : p < length writer) where
  lw : IsLastWriter (length tasks) (changed_by tasks) p e
  lw = subst (λ y. IsLastWriter (length tasks) (changed_by tasks) p y) (sym at) (noted.writers p known)

  by_change : (writes : Bool) (i : ℕ) → IsMet tasks p writes i → changed_by tasks i p ≡ true → i + 1 ≡ e
  by_change writes i m c = elim (cases_lt i e) [
    | inr past ↦ absurd (true≢false (sym c ∙ lw.others i past m.known))
    | inl low ↦ elim (cases_lt (i + 1) e) [
      | inl lower ↦ (let w : e ≤ length tasks = lw.within in absurd (true≢false (sym (lw.is (omega arith)) ∙ m.next (e - 1) (omega arith) (omega arith))))
      | inr here ↦ omega arith
    ]
  ]

  split_by : (writes : Bool) (i : ℕ) → IsMet tasks p writes i → (b : Bool) → changed_by tasks i p ≡ b → (i + 1 ≡ e) ⊎ ((writes ≡ true) × IsReaderFrom links 0 p e i)
  split_by writes i m true c = inl (by_change writes i m c)
  split_by writes i m false c = elim m.change [
    | inl d ↦ absurd (true≢false (sym d ∙ c))
    | inr w ↦ elim (noted.all i p m.one) [
      | inl d ↦ absurd (true≢false (sym d ∙ c))
      | inr r ↦ inr (
        w,
        (
          r.0,
          (let s : 0 ≤ r.0 = omega arith in s),
          r.1,
          r.2,
          r.3,
          elim (cases_lt i e) [
            | inr past ↦ past
            | inl low ↦ elim (cases_lt (i + 1) e) [
              | inl lower ↦ (let w : e ≤ length tasks = lw.within in absurd (true≢false (sym (lw.is (omega arith)) ∙ m.next (e - 1) (omega arith) (omega arith))))
              | inr here ↦ absurd (true≢false (sym (ap (λ y. changed_by tasks y p) (let s : i ≡ e - 1 = omega arith in s) ∙ lw.is (omega arith)) ∙ c))
            ]
          ],
        ),
      )
    ]
  ]

  pub met_split : (writes : Bool) (i : ℕ) → IsMet tasks p writes i → (i + 1 ≡ e) ⊎ ((writes ≡ true) × IsReaderFrom links 0 p e i)
  met_split writes i m = split_by writes i m (changed_by tasks i p) refl

  pub met_by_writer : (writes : Bool) (i : ℕ) → i + 1 ≡ e → IsMet tasks p writes i
  met_by_writer writes i s =
      let c : changed_by tasks i p ≡ true = ap (λ y. changed_by tasks y p) (let t : i ≡ e - 1 = omega arith in t) ∙ lw.is (omega arith) in
      let w : e ≤ length tasks = lw.within in
      record {
        known = omega arith;
        one = changed_is_used (accesses_of tasks i) p c;
        change = inl c;
        next = λ k lo hi. lw.others k (omega arith) hi;
      }

  pub met_by_reader : (writes : Bool) (i : ℕ) → writes ≡ true → IsReaderFrom links 0 p e i → IsMet tasks p writes i
  met_by_reader writes i w r =
      let q = noted.readers r.0 r.2 in
      let above : e ≤ i = r.5 in
      record {
        known = subst (λ y. y < length tasks) r.4 q.0;
        one = subst (λ y. used_by tasks i y ≡ true) r.3 (subst (λ y. used_by tasks y (link_at links r.0).key ≡ true) r.4 q.1);
        change = inr w;
        next = λ k lo hi. lw.others k (omega arith) hi;
      }

  pub piece_reads : (a b : List ℕ) (writes : Bool) → writes ≡ false → Collects a b (λ i. i + 1 ≡ e) → Collects a b (IsMet tasks p writes)
  piece_reads a b writes off c = collects_same a b (λ i. i + 1 ≡ e) (IsMet tasks p writes) c
      (λ i m. elim (met_split writes i m) [ inl s ↦ s | inr r ↦ absurd (true≢false (sym r.0 ∙ off)) ]) (λ i s. met_by_writer writes i s)

  pub piece_writes : (a b c : List ℕ) (writes : Bool) → writes ≡ true → Collects a b (λ i. i + 1 ≡ e) → Collects b c (IsReaderFrom links 0 p e) → Collects a c (IsMet tasks p writes)
  piece_writes a b c writes on f g = collects_join a b c (λ i. i + 1 ≡ e) (IsReaderFrom links 0 p e) (IsMet tasks p writes) f g
      (λ i m. elim (met_split writes i m) [ inl s ↦ inl s | inr r ↦ inr r.1 ]) (λ i s. met_by_writer writes i s) (λ i r. met_by_reader writes i on r)

-- piece by piece, and access by access
pub met_in_none : (tasks : List (List Access)) (a : List ℕ) (lo : ℕ) (writes : Bool) → Collects a a (IsMetIn tasks lo lo writes)
met_in_none tasks a lo writes = collects_none a (IsMetIn tasks lo lo writes) (λ i m. (let x : lo ≤ m.0 = m.1 in let y : m.0 < lo = m.2 in absurd (omega arith)))

pub met_in_more : (tasks : List (List Access)) (a b c : List ℕ) (lo p : ℕ) (writes : Bool) → lo ≤ p → Collects a b (IsMetIn tasks lo p writes) → Collects b c (IsMet tasks p writes) → Collects a c (IsMetIn tasks lo (p + 1) writes)
met_in_more tasks a b c lo p writes le f g = collects_join a b c (IsMetIn tasks lo p writes) (IsMet tasks p writes) (IsMetIn tasks lo (p + 1) writes) f g
    (λ i m. elim (cases_lt m.0 p) [
      | inl low ↦ inl (m.0, m.1, low, m.3)
      | inr here ↦ inr (let hi : m.0 < p + 1 = m.2 in subst (λ y. IsMet tasks y writes i) (let s : m.0 ≡ p = omega arith in s) m.3)
    ])
    (λ i m. (let l : m.0 < p = m.2 in (m.0, m.1, (let s : m.0 < p + 1 = omega arith in s), m.3)))
    (λ i m. (p, le, (let s : p < p + 1 = omega arith in s), m))

pub met_by_none : (tasks : List (List Access)) (a : List ℕ) (accesses : List Access) → Collects a a (IsMetBy tasks accesses 0)
met_by_none tasks a accesses = collects_none a (IsMetBy tasks accesses 0) (λ i m. (let y : m.0 < 0 = m.1 in absurd (omega arith)))

pub met_by_more : (tasks : List (List Access)) (a b c : List ℕ) (accesses : List Access) (k : ℕ) (x : Access) → x ≡ access_at accesses k → Collects a b (IsMetBy tasks accesses k) → Collects b c (IsMetIn tasks x.first (x.first + x.count) x.writes) → Collects a c (IsMetBy tasks accesses (k + 1))
met_by_more tasks a b c accesses k x e f g = collects_join a b c (IsMetBy tasks accesses k) (IsMetIn tasks x.first (x.first + x.count) x.writes) (IsMetBy tasks accesses (k + 1)) f g
    (λ i m. elim (cases_lt m.0 k) [
      | inl low ↦ inl (m.0, low, m.2)
      | inr here ↦ inr (let hi : m.0 < k + 1 = m.1 in subst (λ (y : Access). IsMetIn tasks y.first (y.first + y.count) y.writes i) (ap (access_at accesses) (let s : m.0 ≡ k = omega arith in s) ∙ sym e) m.2)
    ])
    (λ i m. (let l : m.0 < k = m.1 in (m.0, (let s : m.0 < k + 1 = omega arith in s), m.2)))
    (λ i m. (k, (let s : k < k + 1 = omega arith in s), subst (λ (y : Access). IsMetIn tasks y.first (y.first + y.count) y.writes i) e m))
