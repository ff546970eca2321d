-- What the sweeps of a group tell of its sections.
use Rattle.std.proofs.Common.{◌≡◌, ℕ, ◌<◌, ◌≤◌, ◌⊎◌, inl, inr, List, length, refl, sym, ◌∙◌, subst, arith}
use Rattle.std.specs.Prelude.{slice_index, Contains}
use Rattle.std.proofs.lemmas.Bool.{cases_Bool, cases_lt, true≢false}
use Rattle.graph_terms.specs.declared.verb.Edge.{Edge}
use Rattle.graph_terms.specs.Graph.{GraphValue}
use Rattle.graph_terms.specs.Edges.{edges}
use Rattle.graph_terms.specs.Fits.{IsGraph}
use Rattle.graph_meaning.specs.Path.{HasPath, last, first}
use Rattle.graph_terms.specs.Reservations.{Releases}
use Rattle.graph_meaning.specs.Rules.{Section}
use Rattle.graph_terms.proofs.Public.{release_one, one_release}
use Rattle.sweep_base.specs.Bits.{bit_in}
use Rattle.sweep_base.specs.declared.line_sections.Held.{Held}
use Rattle.section_sweeps.specs.declared.group.Group.{Group}
use Rattle.section_sweeps.specs.Table.{AreForward}
use Rattle.section_sweeps.specs.Passing.{HasBit, HasEither, AreWithin, IsSized, AreFromBefore, AreFromBehind, ArePassedUp, ArePassedDown, AreSourcesFrom, bits_at}
use Rattle.section_sweeps.specs.Group.{AreKnownFrom, AreOwn, IsAcquire, IsReleaseOf, IsReleased, IsSwept, IsPassed}
use Rattle.section_sweeps.specs.Sections.{IsSectionKept}
use Rattle.section_sweeps.proofs.Placing.{path_later}
use Rattle.section_sweeps.proofs.PassingSteps.{either_cases, either_own, either_passed}

-- what the sweeps did
pub record AreSweeps (g : GraphValue) (places : List ℕ) (s : Group) (start low high : ℕ) : Type 0 where
  pub behind_size : IsSized (length g.lines) s.behind
  pub acquires_size : IsSized (length g.lines) s.to_acquires
  pub releases_size : IsSized (length g.lines) s.to_releases
  pub few : length s.acquires.items ≤ 64
  pub known : AreKnownFrom g places s.acquires.items start
  pub begins : low ≤ start
  pub end : high ≤ length g.lines
  pub behind_own : AreOwn (IsAcquire s.acquires.items) s.behind.own.items (length s.acquires.items)
  pub acquires_own : AreOwn (IsAcquire s.acquires.items) s.to_acquires.own.items (length s.acquires.items)
  pub releases_own : AreOwn (IsReleaseOf g s.acquires.items) s.to_releases.own.items (length s.acquires.items)
  pub ends : (i b : ℕ) → HasBit s.to_releases.own.items i b → slice_index places i < high
  pub released : (b : ℕ) → b < length s.acquires.items → IsReleased g places s.acquires.items high b
  pub behind_is : AreFromBefore g s.behind.own.items s.behind.passed.items
  pub behind_all : ArePassedUp g places s.behind.own.items s.behind.passed.items high
  pub behind_within : AreWithin places s.behind.passed.items start high
  pub acquires_is : AreFromBehind g s.to_acquires.own.items s.to_acquires.passed.items
  pub releases_is : AreFromBehind g s.to_releases.own.items s.to_releases.passed.items
  pub releases_all : ArePassedDown g places s.to_releases.own.items s.to_releases.passed.items low
  pub sources : AreSourcesFrom g places s.to_acquires s.to_releases low low
  pub acquires_within : AreWithin places s.to_acquires.passed.items low high
  pub releases_within : AreWithin places s.to_releases.passed.items low high

module _ (g : GraphValue) (fits : IsGraph g) (places : List ℕ) (f : AreForward g places) (s : Group) (start low high : ℕ) (w : AreSweeps g places s start low high) where
  -- an acquire and its release stand in the range
  acquire_from : (b : ℕ) → b < length s.acquires.items → low ≤ slice_index places (slice_index s.acquires.items b)
  acquire_from b h = let k = (w.known b h).1 in let l : low ≤ start = w.begins in omega (arith, k, l)

  release_behind : (b r : ℕ) → b < length s.acquires.items → Releases g r (slice_index s.acquires.items b) → HasPath g (slice_index s.acquires.items b) r × (slice_index places r < high)
  release_behind b r h rel =
      let k = w.released b h in
      let same : k.release ≡ r = one_release g fits (slice_index s.acquires.items b) k.release r k.releases rel in
      (subst (λ z. HasPath g (slice_index s.acquires.items b) z) same k.path, subst (λ z. slice_index places z < high) same k.before)

  release_from : (b r : ℕ) → b < length s.acquires.items → Releases g r (slice_index s.acquires.items b) → low ≤ slice_index places r
  release_from b r h rel =
      let l = path_later g places f (slice_index s.acquires.items b) r (release_behind b r h rel).0 in
      let a = acquire_from b h in omega (arith, l, a)

  to_acquire : (i b : ℕ) → HasEither s.to_acquires.own.items s.to_acquires.passed.items i b → (i ≡ slice_index s.acquires.items b) ⊎ HasPath g i (slice_index s.acquires.items b)
  to_acquire i b h = elim (either_cases s.to_acquires.own.items s.to_acquires.passed.items i b h) [
    | inl own ↦ inl (sym (w.acquires_own.is i b own).1)
    | inr passed ↦ (let k = w.acquires_is i b passed in inr (subst (λ z. HasPath g i z) (sym (w.acquires_own.is k.0 b k.1).1) k.2))
  ]

  -- an edge from before the range to a line with a path to a release, or to the release
  edge_before : (i b : ℕ) (e : Edge) → b < length s.acquires.items → Contains (edges g) e → e.from ≡ i → slice_index places i < low → low ≤ slice_index places e.to → HasEither s.to_releases.own.items s.to_releases.passed.items e.to b → HasPath g i (slice_index s.acquires.items b)
  edge_before i b e h c from before at bit = elim (cases_Bool (bit_in (bits_at s.to_acquires.own.items s.to_acquires.passed.items e.to) b)) [
    | inl yes' ↦ elim (to_acquire e.to b yes') [
      | inl same ↦ last e c from same
      | inr path ↦ first e c from path
    ]
    | inr no' ↦ (
        let l : low ≤ slice_index places e.from = w.sources e b c (let k : length s.acquires.items ≤ 64 = w.few in omega arith) at bit (λ yes'. true≢false (sym yes' ∙ no')) in
        let k : slice_index places e.from < low = subst (λ z. slice_index places z < low) (sym from) before in
        absurd (omega arith))
  ]

  before_low : (i b r : ℕ) → b < length s.acquires.items → Releases g r (slice_index s.acquires.items b) → HasPath g i r → slice_index places i < low → HasPath g i (slice_index s.acquires.items b)
  before_low i b r h rel (last e c from to) before = edge_before i b e h c from before (subst (λ z. low ≤ slice_index places z) (sym to) (release_from b r h rel))
      (subst (λ z. HasEither s.to_releases.own.items s.to_releases.passed.items z b) (sym to) (either_own s.to_releases.own.items s.to_releases.passed.items r b (w.releases_own.all r b h rel)))
  before_low i b r h rel (first e c from p) before = elim (cases_lt (slice_index places e.to) low) [
    | inl out ↦ first e c from (before_low e.to b r h rel p out)
    | inr in' ↦ edge_before i b e h c from before in' (either_passed s.to_releases.own.items s.to_releases.passed.items e.to b (w.releases_all e.to r b (w.releases_own.all r b h rel) p in'))
  ]

  acquires_within : (own : List ℕ) → AreOwn (IsAcquire s.acquires.items) own (length s.acquires.items) → AreWithin places own low high
  acquires_within own o i b h =
      let k = o.is i b h in
      let r = w.released b k.0 in
      let l = path_later g places f (slice_index s.acquires.items b) r.release r.path in
      let e : slice_index s.acquires.items b ≡ i = k.1 in
      subst (λ z. (low ≤ slice_index places z) × (slice_index places z < high)) e (acquire_from b k.0, omega (arith, l, r.before))

  pub are_swept : IsSwept g places s low high
  are_swept = record {
    behind_size = w.behind_size;
    acquires_size = w.acquires_size;
    releases_size = w.releases_size;
    few = w.few;
    end = w.end;
    known = λ b h. ((w.known b h).0, acquire_from b h);
    released = w.released;
    behind_is = λ i b h. (let k = w.behind_is i b h in let o = w.behind_own.is k.0 b k.1 in (o.0, subst (λ z. HasPath g z i) (sym o.1) k.2));
    behind_all = λ i b h path at. w.behind_all (slice_index s.acquires.items b) i b (w.behind_own.all (slice_index s.acquires.items b) b h refl) path at;
    acquires_is = to_acquire;
    releases_is = λ i b h. (let k = w.releases_is i b h in (k.0, (w.releases_own.is k.0 b k.1).1, k.2));
    releases_all = λ i b r h rel path at. w.releases_all i r b (w.releases_own.all r b h rel) path at;
    before_low = before_low;
    behind_own = acquires_within s.behind.own.items w.behind_own;
    behind_passed = λ i b h. (let k = w.behind_within i b h in (let l : low ≤ start = w.begins in omega (arith, l, k.0), k.1));
    acquires_own = acquires_within s.to_acquires.own.items w.acquires_own;
    acquires_passed = w.acquires_within;
    releases_own = λ i b h. (let k = w.releases_own.is i b h in (release_from b i k.0 k.1, w.ends i b h));
    releases_passed = w.releases_within;
  }

-- a path begins at a line
path_known : (g : GraphValue) (places : List ℕ) → AreForward g places → (i j : ℕ) → HasPath g i j → i < length g.lines
path_known g places f i j (last e c from to) = subst (λ z. z < length g.lines) from (f.known e c).0
path_known g places f i j (first e c from p) = subst (λ z. z < length g.lines) from (f.known e c).0

-- the sections of an acquire of a group whose lines pass
module _ (g : GraphValue) (fits : IsGraph g) (places : List ℕ) (f : AreForward g places) (s : Group) (h : Held) (low high : ℕ) (w : IsSwept g places s low high)
    (passed : (i : ℕ) → i < length g.lines → low ≤ slice_index places i → slice_index places i < high → IsPassed g s h i) where
  before_high : (i b r : ℕ) → b < length s.acquires.items → Releases g r (slice_index s.acquires.items b) → HasPath g i r → slice_index places i < high
  before_high i b r small rel path =
      let k = w.released b small in
      let same : k.release ≡ r = one_release g fits (slice_index s.acquires.items b) k.release r k.releases rel in
      let at : slice_index places r < high = subst (λ z. slice_index places z < high) same k.before in
      let l = path_later g places f i r path in omega (arith, at, l)

  line_passed : (i b l : ℕ) → b < length s.acquires.items → Section g l (slice_index s.acquires.items b) i → IsPassed g s h i × HasBit s.behind.passed.items i b × HasBit s.to_releases.passed.items i b
  line_passed i b l small sec =
      let a = path_later g places f (slice_index s.acquires.items b) i sec.entered in
      let k = (w.known b small).1 in
      let from : low ≤ slice_index places i = omega (arith, a, k) in
      let to : slice_index places i < high = before_high i b sec.release small sec.releases sec.left in (
        passed i (path_known g places f i sec.release sec.left) from to,
        w.behind_all i b small sec.entered to,
        w.releases_all i b sec.release small sec.releases sec.left from,
      )

  placed : (j b r : ℕ) → b < length s.acquires.items → Releases g r (slice_index s.acquires.items b) → HasPath g j r → low ≤ slice_index places j → IsPassed g s h j × HasBit s.to_releases.passed.items j b
  placed j b r small rel path from = (passed j (path_known g places f j r path) from (before_high j b r small rel path), w.releases_all j b r small rel path from)

  pub section_kept : (b : ℕ) → b < length s.acquires.items → IsSectionKept g h (slice_index s.acquires.items b)
  section_kept b small = record {
    released = λ l a. (let k = w.released b small in (k.release, k.releases, k.path));
    sections = λ r j rel q other path. (
        let same : slice_index s.acquires.items b ≡ q = release_one g r (slice_index s.acquires.items b) q rel other in
        elim (cases_lt (slice_index places j) low) [
          | inl out ↦ inr (inl (subst (λ z. HasPath g j z) same (w.before_low j b r small rel path out)))
          | inr in' ↦ (
              let k = placed j b r small rel path in' in
              let few : length s.acquires.items ≤ 64 = w.few in
              elim (k.0.placed b (omega arith) k.1) [
                | inl before ↦ elim (w.acquires_is j b before) [
                  | inl is ↦ inl (is ∙ same)
                  | inr to ↦ inr (inl (subst (λ z. HasPath g j z) same to))
                ]
                | inr behind ↦ inr (inr (subst (λ z. HasPath g z j) same (w.behind_is j b behind.0).1, behind.1))
              ])
        ]);
    descends = λ j l k sec a. (let p = line_passed j b l small sec in p.0.descends b l k p.1 p.2 sec.acquires a);
    kept = λ l i sec. (let p = line_passed i b l small sec in p.0.kept b l p.1 p.2 sec.acquires);
  }
