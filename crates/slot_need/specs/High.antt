-- The marks of a flood, of which 0 is none.
use Rattle.std.specs.Prelude.{◌≡◌, ℕ, ◌+◌, ◌<◌, ◌≤◌, ◌⊎◌, Bool, true, false, cond, List, [], length, Some, Vec, Contains, slice_get, slice_index}
use Rattle.std.specs.Global.{Global}
use Rattle.std.specs.List.{slice_index_or}
use Rattle.graph_terms.specs.declared.verb.Edge.{Edge}
use Rattle.graph_terms.specs.Graph.{GraphValue, never_comes, locks}
use Rattle.graph_terms.specs.Reservations.{Acquires}
use Rattle.graph_meaning.specs.Need.{need_edges, Precedes}

-- an edge of the list leads to a line
abbrev pub IsTarget : List Edge → ℕ → Type 0
IsTarget edges i = (e : Edge) × Contains edges e × (e.to ≡ i)

-- an edge from line x leads to a line, or line x is a release and the line acquires its reservation
abbrev pub IsNext : GraphValue → ℕ → ℕ → Type 0
IsNext g x i = (e : Edge) × Contains (need_edges g) e × (e.from ≡ x) × (e.to ≡ i)

-- all acquires of the reservations that are noted have a mark
abbrev pub AreAcquiresMarked : GraphValue → List ℕ → List Bool → Type 0
AreAcquiresMarked g marks noted = (l k : ℕ) → slice_index_or noted l false ≡ true → Acquires g k l → 0 < slice_index marks k

-- line i stands in list l
abbrev pub IsListed : List (Vec ℕ Global) → ℕ → ℕ → Type 0
IsListed lists l i = (v : Vec ℕ Global) × (slice_get lists l ≡ Some v) × Contains v.items i

-- a list for each reservation: only lines that acquire it stand there, and all that do below line m
pub record AreAcquires (g : GraphValue) (lists : List (Vec ℕ Global)) (m : ℕ) : Type 0 where
  pub count : length lists ≡ length (locks g)
  pub is : (l i : ℕ) → IsListed lists l i → Acquires g i l
  pub all : (l i : ℕ) → i < m → Acquires g i l → IsListed lists l i

-- what a line counts for as one before others
abbrev pub weight_of : GraphValue → ℕ → ℕ
weight_of g m = cond (never_comes g m) (length g.lines + 1) (m + 1)

-- the high numbers after the lines of `done`: each is the weight of a line done that precedes it, and at least that of each such line
pub record IsFlooded (g : GraphValue) (highs : ℕ → ℕ) (done : ℕ → Bool) : Type 0 where
  pub source : (i : ℕ) → 0 < highs i → (m : ℕ) × (done m ≡ true) × Precedes (need_edges g) m i × (highs i ≡ weight_of g m)
  pub reached : (m i : ℕ) → done m ≡ true → Precedes (need_edges g) m i → weight_of g m ≤ highs i

-- a flood under way from line m: the numbers before it, those now, and the lines whose edges are still to be passed
pub record IsFlooding (g : GraphValue) (old new : ℕ → ℕ) (m : ℕ) (stack : List ℕ) : Type 0 where
  pub kept : (i : ℕ) → 0 < old i → new i ≡ old i
  pub fresh : (i : ℕ) → old i ≡ 0 → 0 < new i → (new i ≡ weight_of g m) × Precedes (need_edges g) m i
  pub start : 0 < new m
  pub stacked : (i : ℕ) → Contains stack i → (old i ≡ 0) × (0 < new i)
  pub closed : (e : Edge) → Contains (need_edges g) e → 0 < new e.from → (0 < new e.to) ⊎ Contains stack e.from

-- between floods: the marks, the empty stack and the notes of the lines done
pub record IsFlood (g : GraphValue) (done : ℕ → Bool) (highs stack : List ℕ) (noted : List Bool) : Type 0 where
  pub size : length highs ≡ length g.lines
  pub locks_noted : length noted ≡ length (locks g)
  pub acquires : AreAcquiresMarked g highs noted
  pub empty : stack ≡ []
  pub flooded : IsFlooded g (slice_index highs) done
