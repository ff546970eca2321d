-- How many slots serve any run of a graph. Lines are counted from 1 here: line i is the (i + 1)-th.
use Rattle.std.specs.Prelude.{◌≡◌, ℕ, ◌+◌, ◌<◌, max, ◌⊎◌, nat_lt, Bool, cond, List, [], ◌∷◌, ◌++◌, length, map, flat_map, take, count_by, slice_index, IsTrue}
use Rattle.std.specs.Option.{option_map_or}
use Rattle.basics.specs.Lists.{numbers_below}
use Rattle.graph_terms.specs.declared.verb.Line.{Line}
use Rattle.graph_terms.specs.declared.verb.Edge.{Edge}
use Rattle.graph_terms.specs.declared.verb.EdgeKind.TheVariants.{Passes}
use Rattle.graph_terms.specs.declared.verb.Verb.{Verb}
use Rattle.graph_terms.specs.declared.verb.Verb.TheVariants.{Acquire, Release}
use Rattle.graph_terms.specs.Graph.{GraphValue, verb_at, is_acquire_of, never_comes}
use Rattle.graph_terms.specs.Edges.{edge, edges}
use Rattle.graph_meaning.specs.Path.{Path}

-- the numbers of the lines that pass, the first line having number n
abbrev pub places : (Verb → Bool) → ℕ → List Line → List ℕ
places test n [] = []
places test n (l ∷ ls) = cond (test l.verb) (n ∷ places test (n + 1) ls) (places test (n + 1) ls)

-- the acquires of the reservation that this verb acquires
abbrev pub rivals : GraphValue → Verb → List ℕ
rivals g (Acquire l s) = places (is_acquire_of l) 0 g.lines
rivals g _ = []

-- the acquires that may have to wait for this verb, as a release
abbrev pub acquires_after : GraphValue → Verb → List ℕ
acquires_after g (Release q) = option_map_or (rivals g) (verb_at g q) []
acquires_after g _ = []

-- the edges from each release to every acquire of its reservation
abbrev pub release_edges : GraphValue → List Edge
release_edges g = flat_map (λ r. map (λ k. edge r k Passes) (option_map_or (acquires_after g) (verb_at g r) [])) (numbers_below (length g.lines))

-- the edges with those from each release to every acquire of its reservation
abbrev pub need_edges : GraphValue → List Edge
need_edges g = edges g ++ release_edges g

-- m is i, or has a path to it over these edges
abbrev pub Precedes : List Edge → ℕ → ℕ → Type 0
Precedes all m i = (m ≡ i) ⊎ Path all m i

-- h is the largest count of the lines that precede line i, and one more than all lines where one of them never comes
pub record IsHigh (g : GraphValue) (i h : ℕ) : Type 0 where
  pub above : (m : ℕ) → Precedes (need_edges g) m i → m < h
  pub above_all : (m : ℕ) → Precedes (need_edges g) m i → IsTrue (never_comes g m) → h ≡ length g.lines + 1
  pub attained : (m : ℕ) × Precedes (need_edges g) m i × ((h ≡ m + 1) ⊎ (IsTrue (never_comes g m) × (h ≡ length g.lines + 1)))

abbrev pub largest : List ℕ → ℕ
largest [] = 0
largest (n ∷ ns) = max n (largest ns)

-- how many of the first k numbers are above k
abbrev pub open_at : List ℕ → ℕ → ℕ
open_at highs k = count_by (nat_lt k) (take k highs)

-- n is the need of a graph
pub record IsNeed (g : GraphValue) (n : ℕ) : Type 0 where
  pub highs : List ℕ
  pub each_line : length highs ≡ length g.lines
  pub high : (i : ℕ) → i < length g.lines → IsHigh g i (slice_index highs i)
  pub most : n ≡ 1 + largest (map (open_at highs) (numbers_below (length g.lines)))
