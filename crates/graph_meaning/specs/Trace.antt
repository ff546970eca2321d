-- Traces: lists of lines in an order in which they may have ended.
use Rattle.std.specs.Prelude.{◌≡◌, ◌≢◌, ℕ, false, ◌<◌, ◌⊎◌, ◌↔◌, List, Contains, IsTrue, slice_get, Some}
use Rattle.graph_terms.specs.declared.outcome.End.{End}
use Rattle.graph_terms.specs.declared.outcome.End.TheVariants.{Done}
use Rattle.graph_terms.specs.declared.verb.Edge.{Edge}
use Rattle.graph_terms.specs.Graph.{GraphValue}
use Rattle.graph_terms.specs.Edges.{edges}
use Rattle.graph_terms.specs.Reservations.{Acquires, Releases, both_shared}
use Rattle.graph_meaning.specs.Evaluation.{eval_end, is_ended}

-- i stands in the trace at a place before one of j
abbrev pub StandsBefore : List ℕ → ℕ → ℕ → Type 0
StandsBefore trace i j = (k m : ℕ) × (slice_get trace k ≡ Some i) × (slice_get trace m ≡ Some j) × (k < m)

-- a trace lists the lines that end, where lines end so, each once, each after its sources
pub record ListsEndedBy (g : GraphValue) (ends : ℕ → End) (trace : List ℕ) : Type 0 where
  pub ended : (i : ℕ) → Contains trace i ↔ IsTrue (is_ended (ends i))
  pub once : (k m i : ℕ) → slice_get trace k ≡ Some i → slice_get trace m ≡ Some i → k ≡ m
  pub sources : (e : Edge) → Contains (edges g) e → Contains trace e.to → StandsBefore trace e.from e.to

-- a trace lists the lines that end in the evaluation
abbrev pub ListsEnded : GraphValue → List ℕ → Type 0
ListsEnded g trace = ListsEndedBy g (eval_end g) trace

-- and the sections of one reservation stand one after the other, unless both are shared
pub record IsLawful (g : GraphValue) (trace : List ℕ) : Type 0 where
  pub lists : ListsEnded g trace
  pub sections : (l q k : ℕ) → Acquires g q l → Acquires g k l → q ≢ k → both_shared g q k ≡ false → eval_end g q ≡ Done → eval_end g k ≡ Done →
      ((r : ℕ) × Releases g r q × StandsBefore trace r k) ⊎ ((r : ℕ) × Releases g r k × StandsBefore trace r q)

-- q and k are two acquires of one reservation, not both shared, that ended Done
pub record HaveSections (g : GraphValue) (l q k : ℕ) : Type 0 where
  pub acquires : Acquires g q l × Acquires g k l
  pub differ : q ≢ k
  pub apart : both_shared g q k ≡ false
  pub done : (eval_end g q ≡ Done) × (eval_end g k ≡ Done)

-- the release of the one that stands first stands before the other: so between an acquire and its release stands no other acquire
pub record SectionsApart (g : GraphValue) (trace : List ℕ) : Type 0 where
  pub released : (l q k r : ℕ) → HaveSections g l q k → Releases g r q → StandsBefore trace q k → StandsBefore trace r k
  pub between : (l q k r : ℕ) → HaveSections g l q k → Releases g r q → StandsBefore trace q k → StandsBefore trace k r → ⊥
