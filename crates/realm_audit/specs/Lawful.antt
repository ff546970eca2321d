-- The faults of a trace, place by place, and what a refusal says of it.
use Rattle.std.specs.Prelude.{◌≡◌, ◌≢◌, ℕ, ◌<◌, List, length, map, Contains, Some, slice_get}
use Rattle.basics.specs.Lists.{numbers_below}
use Rattle.graph_terms.specs.declared.outcome.End.{End}
use Rattle.graph_terms.specs.declared.outcome.End.TheVariants.{Waiting}
use Rattle.graph_terms.specs.Graph.{GraphValue}
use Rattle.graph_terms.specs.Edges.{sources}
use Rattle.graph_terms.specs.Reservations.{Releases}
use Rattle.graph_meaning.specs.Evaluation.{eval_end}
use Rattle.graph_meaning.specs.Trace.{HaveSections}
use Rattle.realm_audit.specs.declared.refusal.AuditRefusal.{AuditRefusal}
use Rattle.realm_audit.specs.declared.refusal.AuditRefusal.TheVariants.{Repeat, Waits, Source, Overlap, Missing, NoMemory}

-- how each line ends in the evaluation
abbrev pub ends_of : GraphValue → List End
ends_of g = map (eval_end g) (numbers_below (length g.lines))

-- x stands in a list before place k
abbrev pub StandsEarlier : {X : Type 0} → List X → ℕ → X → Type 0
StandsEarlier xs k x = (m : ℕ) × (m < k) × (slice_get xs m ≡ Some x)

-- two acquires that ended Done, whose sections may not overlap: those of one reservation, unless both are shared
abbrev pub Exclude : GraphValue → ℕ → ℕ → Type 0
Exclude g q i = (l : ℕ) × HaveSections g l q i

-- the section of an acquire is open at place k: the acquire stands earlier, and its release does not
abbrev pub IsOpenAt : GraphValue → List ℕ → ℕ → ℕ → Type 0
IsOpenAt g trace k q = StandsEarlier trace k q × ((r : ℕ) → Releases g r q → StandsEarlier trace k r → ⊥)

-- the line at place k stands earlier too
abbrev pub IsRepeatAt : List ℕ → ℕ → Type 0
IsRepeatAt trace k = (i : ℕ) × (slice_get trace k ≡ Some i) × StandsEarlier trace k i

-- the line at place k waits
abbrev pub IsWaitAt : GraphValue → List ℕ → ℕ → Type 0
IsWaitAt g trace k = (i : ℕ) × (slice_get trace k ≡ Some i) × (eval_end g i ≡ Waiting)

-- line j is a source of the line at place k, does not wait, and does not stand earlier
abbrev pub IsSourceFaultAt : GraphValue → List ℕ → ℕ → ℕ → Type 0
IsSourceFaultAt g trace k j = (i : ℕ) × (slice_get trace k ≡ Some i) × Contains (sources g i) j × (eval_end g j ≢ Waiting) × (StandsEarlier trace k j → ⊥)

-- the line at place k excludes the acquire q, whose section is open there
abbrev pub IsOverlapAt : GraphValue → List ℕ → ℕ → ℕ → Type 0
IsOverlapAt g trace k q = (i : ℕ) × (slice_get trace k ≡ Some i) × Exclude g q i × IsOpenAt g trace k q

-- line j does not wait, and is not in the trace
abbrev pub IsMissing : GraphValue → List ℕ → ℕ → Type 0
IsMissing g trace j = (eval_end g j ≢ Waiting) × (Contains trace j → ⊥)

-- no fault at a place
pub record IsSoundAt (g : GraphValue) (trace : List ℕ) (k : ℕ) : Type 0 where
  pub once : IsRepeatAt trace k → ⊥
  pub ends : IsWaitAt g trace k → ⊥
  pub sources : (j : ℕ) → IsSourceFaultAt g trace k j → ⊥
  pub sections : (q : ℕ) → IsOverlapAt g trace k q → ⊥

-- no fault before place k
abbrev pub IsSoundBefore : GraphValue → List ℕ → ℕ → Type 0
IsSoundBefore g trace k = (m : ℕ) → m < k → IsSoundAt g trace m

-- the least number of which this holds
pub record IsLeast (P : ℕ → Type 0) (n : ℕ) : Type 0 where
  pub here : P n
  pub below : (m : ℕ) → m < n → P m → ⊥

-- no fault comes before it, neither at an earlier place nor of an earlier kind; want of memory says nothing
abbrev pub IsRefusal : GraphValue → List ℕ → AuditRefusal → Type 0
IsRefusal g trace (Repeat k) = IsSoundBefore g trace k × IsRepeatAt trace k
IsRefusal g trace (Waits k) = IsSoundBefore g trace k × (IsRepeatAt trace k → ⊥) × IsWaitAt g trace k
IsRefusal g trace (Source k j) = IsSoundBefore g trace k × (IsRepeatAt trace k → ⊥) × (IsWaitAt g trace k → ⊥) × IsLeast (IsSourceFaultAt g trace k) j
IsRefusal g trace (Overlap k q) =
    IsSoundBefore g trace k × (IsRepeatAt trace k → ⊥) × (IsWaitAt g trace k → ⊥) × ((j : ℕ) → IsSourceFaultAt g trace k j → ⊥) × IsLeast (IsOverlapAt g trace k) q
IsRefusal g trace (Missing j) = IsSoundBefore g trace (length trace) × IsLeast (IsMissing g trace) j
IsRefusal g trace NoMemory = Unit {0}

-- the numbers of a refusal are a place of the trace and a line of the graph
abbrev pub NamesLines : GraphValue → List ℕ → AuditRefusal → Type 0
NamesLines g trace (Repeat k) = k < length trace
NamesLines g trace (Waits k) = k < length trace
NamesLines g trace (Source k j) = (k < length trace) × (j < length g.lines)
NamesLines g trace (Overlap k q) = (k < length trace) × (q < length g.lines)
NamesLines g trace (Missing j) = j < length g.lines
NamesLines g trace NoMemory = Unit {0}
