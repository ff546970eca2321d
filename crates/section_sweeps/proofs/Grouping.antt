-- How a group is gathered, and how its lines get their bits.
use Rattle.std.proofs.Common.{◌≡◌, ℕ, ◌+◌, ◌<◌, ◌≤◌, ◌*◌, ◌%◌, ◌^◌, inl, inr, List, [], ◌∷◌, ◌++◌, length, sym, ◌∙◌, ap, subst, arith, length-append}
use Rattle.std.specs.Prelude.{slice_index, slice_set, Vec, Option, Some, None}
use Rattle.std.specs.List.{slice_index_or}
use Rattle.std.specs.Global.{Global}
use Rattle.std.specs.Int.RustNames.{bit_or}
use Rattle.std.proofs.lemmas.Bool.{cases_eq, cases_lt}
use Rattle.std.proofs.lemmas.List.{get_or_append_left, length-set}
use Rattle.std.proofs.Math.Seq.{get_or-append_seam}
use Rattle.graph_terms.specs.Graph.{GraphValue, is_acquire_of, is_release_of}
use Rattle.graph_terms.specs.Fits.{IsGraph}
use Rattle.graph_terms.specs.Reservations.{Acquires, Releases}
use Rattle.graph_meaning.specs.Path.{HasPath}
use Rattle.graph_terms.proofs.Public.{passes_below, one_release}
use Rattle.section_sweeps.specs.Releases.{AreReleases}
use Rattle.section_sweeps.specs.Table.{ArePlaced}
use Rattle.section_sweeps.specs.Passing.{HasBit, HaveNone, IsSized, AreFromBefore}
use Rattle.section_sweeps.specs.declared.group.Group.{Group}
use Rattle.section_sweeps.specs.declared.passing.Passing.{Passing}
use Rattle.section_sweeps.specs.Group.{AreGathered, AreOwn, AreOpened, IsAcquire, IsReleaseOf, IsCleared, IsReleased}
use Rattle.section_sweeps.proofs.Placing.{line_at}
use Rattle.section_sweeps.proofs.PassingSteps.{given_cases, given_old, given_new}

pub gathered_none : (g : GraphValue) (places : List ℕ) (start : ℕ) → AreGathered g places [] start start
gathered_none g places start = record {
  few = omega arith;
  known = λ b h. absurd (omega arith);
  all = λ q l a low high. absurd (omega arith);
}

module _ (g : GraphValue) (lines places : List ℕ) (p : ArePlaced (length g.lines) lines places) (acquires : List ℕ) (start x : ℕ) (small : x < length g.lines) (before : AreGathered g places acquires start x) where
  -- the line at the next place is no acquire
  pub gathered_skip : ((l : ℕ) → Acquires g (slice_index lines x) l → ⊥) → AreGathered g places acquires start (x + 1)
  gathered_skip none = record {
    few = before.few;
    known = before.known;
    all = λ q l a low high. elim (cases_lt (slice_index places q) x) [
      | inl old ↦ before.all q l a low old
      | inr up ↦ (
          let is : slice_index lines x ≡ q = line_at (length g.lines) lines places p q x (passes_below (is_acquire_of l) g q a) (omega arith) in
          absurd (none l (subst (λ z. Acquires g z l) (sym is) a)))
    ];
  }

  -- or is one
  pub gathered_more : start ≤ x → length acquires < 64 → AreGathered g places (acquires ++ slice_index lines x ∷ []) start (x + 1)
  gathered_more begins few =
      let v : ℕ = slice_index lines x in
      let size : length (acquires ++ v ∷ []) ≡ length acquires + 1 = length-append acquires (v ∷ []) in
      let new : slice_index (acquires ++ v ∷ []) (length acquires) ≡ v = get_or-append_seam acquires v [] 0 in
      record {
        few = omega (arith, size, few);
        known = λ b h. elim (cases_lt b (length acquires)) [
          | inl low ↦ subst (λ z. (z < length g.lines) × (start ≤ slice_index places z)) (sym (get_or_append_left acquires (v ∷ []) 0 b low)) (before.known b low)
          | inr up ↦ (
              let same : length acquires ≡ b = omega (arith, size, h, up) in
              let at = p.line x small in
              subst (λ z. (slice_index (acquires ++ v ∷ []) z < length g.lines) × (start ≤ slice_index places (slice_index (acquires ++ v ∷ []) z))) same
              (subst (λ z. (z < length g.lines) × (start ≤ slice_index places z)) (sym new) (at.0, omega (arith, begins, at.1))))
        ];
        all = λ q l a low high. elim (cases_lt (slice_index places q) x) [
          | inl old ↦ (let k = before.all q l a low old in (k.0, omega (arith, size, k.1), get_or_append_left acquires (v ∷ []) 0 k.0 k.1 ∙ k.2))
          | inr up ↦ (
              let is : slice_index lines x ≡ q = line_at (length g.lines) lines places p q x (passes_below (is_acquire_of l) g q a) (omega arith) in
              (length acquires, omega (arith, size), new ∙ is))
        ];
      }

-- no bit stands yet
pub own_none : (BitOf : ℕ → ℕ → Type 0) (own : List ℕ) → HaveNone own → AreOwn BitOf own 0
own_none BitOf own none = record { is = λ i b h. absurd (none i b h); all = λ i b h. absurd (omega arith) }

-- the next bit is given to the one line that it is a bit of
pub own_more : (BitOf : ℕ → ℕ → Type 0) (own : List ℕ) (m i : ℕ) → i < length own → m < 64 → BitOf m i → ((k : ℕ) → BitOf m k → k ≡ i) → AreOwn BitOf own m → AreOwn BitOf (slice_set own i (bit_or (slice_index own i) (1 * 2 ^ m % 2 ^ 64))) (m + 1)
own_more BitOf own m i small few here only before = record {
  is = λ k b h. elim (given_cases own i m k b small few h) [
    | inl old ↦ (let w = before.is k b old in (omega (arith, w.0), w.1))
    | inr new ↦ (omega (arith, new.1), subst (λ z. BitOf z k) (sym new.1) (subst (λ z. BitOf m z) (sym new.0) here))
  ];
  all = λ k b h bit. elim (cases_eq b m) [
    | inr apart ↦ given_old own i m k b small (before.all k b (omega (arith, apart)) bit)
    | inl same ↦ (
        let at : k ≡ i = only k (subst (λ z. BitOf z k) same bit) in
        subst (λ z. HasBit (slice_set own i (bit_or (slice_index own i) (1 * 2 ^ m % 2 ^ 64))) k z) (sym same)
        (subst (λ z. HasBit (slice_set own i (bit_or (slice_index own i) (1 * 2 ^ m % 2 ^ 64))) z m) (sym at) (given_new own i m small few)))
  ];
}

-- and stands no later than the line
pub ends_more : (places own : List ℕ) (m i high after : ℕ) → i < length own → m < 64 → high ≤ after → slice_index places i < after → ((k b : ℕ) → HasBit own k b → slice_index places k < high) →
    (k b : ℕ) → HasBit (slice_set own i (bit_or (slice_index own i) (1 * 2 ^ m % 2 ^ 64))) k b → slice_index places k < after
ends_more places own m i high after small few more at before k b h = elim (given_cases own i m k b small few h) [
  | inl old ↦ (let l = before k b old in omega (arith, l, more))
  | inr new ↦ subst (λ z. slice_index places z < after) (sym new.0) at
]

pub opened_none : (g : GraphValue) (places : List ℕ) (s : Group) (high : ℕ) → IsCleared (length g.lines) s → AreOpened g places s 0 high
opened_none g places s high c = record {
  behind_size = c.behind_size;
  acquires_size = c.acquires_size;
  releases_size = c.releases_size;
  behind_own = own_none (IsAcquire s.acquires.items) s.behind.own.items c.behind_own;
  acquires_own = own_none (IsAcquire s.acquires.items) s.to_acquires.own.items c.acquires_own;
  releases_own = own_none (IsReleaseOf g s.acquires.items) s.to_releases.own.items c.releases_own;
  behind_passed = c.behind_passed;
  acquires_passed = c.acquires_passed;
  releases_passed = c.releases_passed;
  ends = λ i b h. absurd (c.releases_own i b h);
}

-- the words after line i is given bit m
abbrev pub given : List ℕ → ℕ → ℕ → List ℕ
given own i m = slice_set own i (bit_or (slice_index own i) (1 * 2 ^ m % 2 ^ 64))

given_size : (own : List ℕ) (i m n : ℕ) (after : List ℕ) → after ≡ given own i m → length own ≡ n → length after ≡ n
given_size own i m n after is size = ap length is ∙ (length-set own i (bit_or (slice_index own i) (1 * 2 ^ m % 2 ^ 64)) ∙ size)

-- an acquire more, and its release
pub opened_more : (g : GraphValue) → IsGraph g → (places : List ℕ) (s : Group) (m high after q r : ℕ) (x y z : Passing) → AreOpened g places s m high → m < 64 → q < length g.lines → r < length g.lines → slice_index s.acquires.items m ≡ q → Releases g r q →
    x.own.items ≡ given s.behind.own.items q m → x.passed ≡ s.behind.passed → y.own.items ≡ given s.to_acquires.own.items q m → y.passed ≡ s.to_acquires.passed → z.own.items ≡ given s.to_releases.own.items r m → z.passed ≡ s.to_releases.passed → high ≤ after → slice_index places r < after →
    AreOpened g places (record { acquires = s.acquires; behind = x; to_acquires = y; to_releases = z }) (m + 1) after
opened_more g fits places s m high after q r x y z o few known_q known_r at rel xo xp yo yp zo zp more end = record {
  behind_size = record { own = given_size s.behind.own.items q m (length g.lines) x.own.items xo o.behind_size.own; passed = ap (λ (v : Vec ℕ Global). length v.items) xp ∙ o.behind_size.passed };
  acquires_size = record { own = given_size s.to_acquires.own.items q m (length g.lines) y.own.items yo o.acquires_size.own; passed = ap (λ (v : Vec ℕ Global). length v.items) yp ∙ o.acquires_size.passed };
  releases_size = record { own = given_size s.to_releases.own.items r m (length g.lines) z.own.items zo o.releases_size.own; passed = ap (λ (v : Vec ℕ Global). length v.items) zp ∙ o.releases_size.passed };
  behind_own = subst (λ ws. AreOwn (IsAcquire s.acquires.items) ws (m + 1)) (sym xo) (own_more (IsAcquire s.acquires.items) s.behind.own.items m q (let e : length s.behind.own.items ≡ length g.lines = o.behind_size.own in omega arith) few at (λ k is. sym is ∙ at) o.behind_own);
  acquires_own = subst (λ ws. AreOwn (IsAcquire s.acquires.items) ws (m + 1)) (sym yo) (own_more (IsAcquire s.acquires.items) s.to_acquires.own.items m q (let e : length s.to_acquires.own.items ≡ length g.lines = o.acquires_size.own in omega arith) few at (λ k is. sym is ∙ at) o.acquires_own);
  releases_own = subst (λ ws. AreOwn (IsReleaseOf g s.acquires.items) ws (m + 1)) (sym zo) (own_more (IsReleaseOf g s.acquires.items) s.to_releases.own.items m r (let e : length s.to_releases.own.items ≡ length g.lines = o.releases_size.own in omega arith) few
      (subst (λ v. Releases g r v) (sym at) rel) (λ k other. one_release g fits q k r (subst (λ v. Releases g k v) at other) rel) o.releases_own);
  behind_passed = subst (λ (v : Vec ℕ Global). HaveNone v.items) (sym xp) o.behind_passed;
  acquires_passed = subst (λ (v : Vec ℕ Global). HaveNone v.items) (sym yp) o.acquires_passed;
  releases_passed = subst (λ (v : Vec ℕ Global). HaveNone v.items) (sym zp) o.releases_passed;
  ends = λ i b h. ends_more places s.to_releases.own.items m r high after (let e : length s.to_releases.own.items ≡ length g.lines = o.releases_size.own in omega arith) few more end o.ends i b (subst (λ ws. HasBit ws i b) zo h);
}

-- an acquire with a path to its release
pub released_by : (g : GraphValue) (places acquires behind_own passed releases_own : List ℕ) (high b m q r : ℕ) → AreOwn (IsAcquire acquires) behind_own m → AreFromBefore g behind_own passed → AreOwn (IsReleaseOf g acquires) releases_own m →
    ((i k : ℕ) → HasBit releases_own i k → slice_index places i < high) → b < m → slice_index acquires b ≡ q → Releases g r q → HasBit passed r b → IsReleased g places acquires high b
released_by g places acquires behind_own passed releases_own high b m q r own from rels ends small at rel bit =
    let k = from r b bit in
    let rel' : Releases g r (slice_index acquires b) = subst (λ z. Releases g r z) (sym at) rel in
    record {
      release = r;
      releases = rel';
      path = subst (λ z. HasPath g z r) (sym (own.is k.0 b k.1).1) k.2;
      before = ends r b (rels.all r b small rel');
    }

-- the same words, beside other acquires
pub cleared_same : (n : ℕ) (s after : Group) → after.behind ≡ s.behind → after.to_acquires ≡ s.to_acquires → after.to_releases ≡ s.to_releases → IsCleared n s → IsCleared n after
cleared_same n s after x y z c = record {
  behind_size = subst (λ v. IsSized n v) (sym x) c.behind_size;
  acquires_size = subst (λ v. IsSized n v) (sym y) c.acquires_size;
  releases_size = subst (λ v. IsSized n v) (sym z) c.releases_size;
  behind_own = subst (λ (v : Passing). HaveNone v.own.items) (sym x) c.behind_own;
  behind_passed = subst (λ (v : Passing). HaveNone v.passed.items) (sym x) c.behind_passed;
  acquires_own = subst (λ (v : Passing). HaveNone v.own.items) (sym y) c.acquires_own;
  acquires_passed = subst (λ (v : Passing). HaveNone v.passed.items) (sym y) c.acquires_passed;
  releases_own = subst (λ (v : Passing). HaveNone v.own.items) (sym z) c.releases_own;
  releases_passed = subst (λ (v : Passing). HaveNone v.passed.items) (sym z) c.releases_passed;
}

-- the release of a line, as it is looked up
pub release_read : (g : GraphValue) (releases : List (Option ℕ)) → AreReleases g releases → (q r : ℕ) (o : Option ℕ) → o ≡ slice_index_or releases q None → o ≡ Some r → Releases g r q × (r < length g.lines)
release_read g releases are q r o read some = let rel = are.table.0 q r (sym read ∙ some) in (rel, passes_below (is_release_of q) g r rel)
