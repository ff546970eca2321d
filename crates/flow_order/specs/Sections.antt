-- How the sections of sums that commute have to stand: four lines each, and a sum in one wherever another sum shares a cell with it and no chain ties them.
use Rattle.std.specs.Prelude.{◌≡◌, ℕ, ◌+◌, ◌<◌, ◌⊎◌, Bool, true, IsTrue, [], ◌∷◌, length, Contains, Some, slice_get}
use Rattle.index_spaces.specs.Space.{Meet}
use Rattle.graph_terms.specs.declared.verb.Access.{Access}
use Rattle.graph_terms.specs.declared.verb.Edge.{Edge}
use Rattle.graph_terms.specs.declared.verb.EdgeKind.TheVariants.{Passes, Ignores}
use Rattle.graph_terms.specs.declared.verb.Line.{Line}
use Rattle.graph_terms.specs.declared.verb.Mode.TheVariants.{Sum}
use Rattle.graph_terms.specs.declared.verb.Verb.{Verb}
use Rattle.graph_terms.specs.declared.verb.Verb.TheVariants.{MergeIgnore, Release}
use Rattle.graph_terms.specs.Graph.{GraphValue, verb_at, space_at}
use Rattle.graph_terms.specs.Edges.{edge, edges}
use Rattle.graph_terms.specs.Access.{accesses}
use Rattle.graph_terms.specs.Reservations.{Acquires, Releases}
use Rattle.flow_order.specs.Flow.{uses_columns}
use Rattle.flow_order.specs.Meaning.{Chain}

-- the section of acquire q: a line of the flow, a merge that ignores its fault, and the release, each with the one before it as its only source
pub record Held (g : GraphValue) (q : ℕ) : Type 0 where
  pub verb : Verb
  pub sum : verb_at g (q + 1) ≡ Some verb
  pub uses : IsTrue (uses_columns verb)
  pub merge : verb_at g (q + 2) ≡ Some (MergeIgnore ((q + 1) ∷ []))
  pub last : Line
  pub release : slice_get g.lines (q + 3) ≡ Some last
  pub releases : last.verb ≡ Release q
  pub on : last.on ≡ (q + 2) ∷ []
  pub to_sum : Contains (edges g) (edge q (q + 1) Passes)
  pub to_merge : Contains (edges g) (edge (q + 1) (q + 2) Ignores)
  pub to_release : Contains (edges g) (edge (q + 2) (q + 3) Passes)
  pub into_sum : (e : Edge) → Contains (edges g) e → e.to ≡ q + 1 → e.from ≡ q
  pub into_merge : (e : Edge) → Contains (edges g) e → e.to ≡ q + 2 → e.from ≡ q + 1
  pub into_release : (e : Edge) → Contains (edges g) e → e.to ≡ q + 3 → e.from ≡ q + 2

-- two lines of the flow, each in a section of its own of one reservation
pub record AreApart (g : GraphValue) (i j : ℕ) : Type 0 where
  pub lock : ℕ
  pub one : ℕ
  pub other : ℕ
  pub one_acquires : Acquires g one lock
  pub other_acquires : Acquires g other lock
  pub one_line : i ≡ one + 1
  pub other_line : j ≡ other + 1

pub record SectionsStand (f : GraphValue) (commute : Bool) (g : GraphValue) (place : ℕ → ℕ) : Type 0 where
  pub acquires : (q l : ℕ) → Acquires g q l → Held g q
  pub releases : (r q : ℕ) → Releases g r q → (r ≡ q + 3) × Held g q
  pub rivals : (i j : ℕ) (a b : Access) → i < j → j < length f.lines → commute ≡ true → Contains (accesses f i) a → Contains (accesses f j) b → a.mode ≡ Sum → b.mode ≡ Sum →
      a.column ≡ b.column → Meet (space_at f a.space) (space_at f b.space) → Chain f commute i j ⊎ AreApart g (place i) (place j)
