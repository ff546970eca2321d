-- In a lawful trace of an accepted graph the sections of one reservation never overlap.
use Rattle.std.proofs.Common.{◌≡◌, ℕ, ◌<◌, inl, inr, List, sym, subst, arith}
use Rattle.std.specs.Prelude.{Contains}
use Rattle.basics.proofs.ListFacts.{got_contains}
use Rattle.graph_terms.specs.Graph.{GraphValue}
use Rattle.graph_terms.specs.Edges.{edges}
use Rattle.graph_meaning.specs.Path.{Path, last, first, HasPath}
use Rattle.graph_terms.specs.Reservations.{Releases}
use Rattle.graph_meaning.specs.Rules.{Accepted}
use Rattle.graph_terms.specs.Fits.{IsGraph}
use Rattle.graph_meaning.specs.Trace.{StandsBefore, ListsEnded, IsLawful, HaveSections, SectionsApart}
use Rattle.graph_terms.proofs.Public.{one_release}

-- what stands before a line that stands before a third one stands before that one
before_trans : (g : GraphValue) (trace : List ℕ) → ListsEnded g trace → (i j k : ℕ) → StandsBefore trace i j → StandsBefore trace j k → StandsBefore trace i k
before_trans g trace t i j k a b =
    let same : a.1 ≡ b.0 = t.once a.1 b.0 j a.3 b.2 in
    let low : a.0 < a.1 = a.4 in
    let high : b.0 < b.1 = b.4 in
    (a.0, b.1, a.2, b.3, omega arith)

-- no line stands before itself
never_before : (g : GraphValue) (trace : List ℕ) → ListsEnded g trace → (i : ℕ) → StandsBefore trace i i → ⊥
never_before g trace t i a =
    let same : a.0 ≡ a.1 = t.once a.0 a.1 i a.2 a.3 in
    let low : a.0 < a.1 = a.4 in
    absurd (omega arith)

-- along a path to a line of the trace each line stands before the next
path_before : (g : GraphValue) (trace : List ℕ) → ListsEnded g trace → {i j : ℕ} → Path (edges g) i j → Contains trace j → StandsBefore trace i j
path_before g trace t {i} {j} (last e c p q) h =
    subst (λ x. StandsBefore trace x j) p (subst (λ y. StandsBefore trace e.from y) q (t.sources e c (subst (λ y. Contains trace y) (sym q) h)))
path_before g trace t {i} {j} (first e c p rest) h =
    let after = path_before g trace t rest h in
    let here = t.sources e c (got_contains trace after.0 e.to after.2) in
    subst (λ x. StandsBefore trace x j) p (before_trans g trace t e.from e.to j here after)

module _ (g : GraphValue) (trace : List ℕ) (fits : IsGraph g) (ok : Accepted g) (t : IsLawful g trace) where
  released_first : (l q k r : ℕ) → HaveSections g l q k → Releases g r q → StandsBefore trace q k → StandsBefore trace r k
  released_first l q k r h releases before = elim (t.sections l q k h.acquires.0 h.acquires.1 h.differ h.apart h.done.0 h.done.1) [
    | inl free ↦ subst (λ z. StandsBefore trace z k) (one_release g fits q free.0 r free.1 releases) free.2
    | inr free ↦ absurd (
        let own = ok.released k l h.acquires.1 in
        let path : HasPath g k free.0 = subst (λ z. HasPath g k z) (one_release g fits k own.0 free.0 own.1 free.1) own.2 in
        let first_release = path_before g trace t.lists path (got_contains trace free.2.0 free.0 free.2.2) in
        never_before g trace t.lists q (before_trans g trace t.lists q k q before (before_trans g trace t.lists k free.0 q first_release free.2)))
  ]

  pub sections_apart : SectionsApart g trace
  sections_apart = record {
    released = released_first;
    between = λ l q k r h releases before behind. never_before g trace t.lists k (before_trans g trace t.lists k r k behind (released_first l q k r h releases before));
  }
