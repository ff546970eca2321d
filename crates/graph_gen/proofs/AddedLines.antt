-- What stands where lines are added to lines: each line, each edge and each path.
use Rattle.std.proofs.Common.{◌≡◌, ℕ, zero, suc, ◌+◌, ◌-◌, ◌<◌, ◌⊎◌, inl, inr, List, [], ◌∷◌, ◌++◌, length, map, refl, sym, ap, subst, arith}
use Rattle.std.specs.Prelude.{Contains, Option, slice_get, option_map}
use Rattle.std.specs.Option.{option_map_or}
use Rattle.std.proofs.lemmas.Bool.{cases_order}
use Rattle.std.proofs.lemmas.List.Elements.{Contains-append_left, Contains-append_right, Contains-append_cases}
use Rattle.graph_terms.specs.declared.format.Format.TheVariants.{One}
use Rattle.graph_terms.specs.declared.verb.Access.{Access}
use Rattle.graph_terms.specs.declared.verb.Edge.{Edge}
use Rattle.graph_terms.specs.declared.verb.Line.{Line}
use Rattle.graph_terms.specs.declared.verb.Verb.{Verb}
use Rattle.graph_terms.specs.Access.{verb_accesses, in_format}
use Rattle.graph_terms.specs.Edges.{edges_after}
use Rattle.graph_meaning.specs.Path.{Path, last, first}
use Rattle.graph_meaning.proofs.MergedEvents.{edges_after_join}

-- what a line of this number does and uses, and the edges of lines
abbrev pub verb_in : List Line → ℕ → Option Verb
verb_in ls i = option_map (λ (l : Line). l.verb) (slice_get ls i)

-- format 1 takes reductions by least and greatest values for writes
abbrev pub uses_of : Option Verb → List Access
uses_of v = map (in_format One) (option_map_or verb_accesses v [])

abbrev pub uses_in : List Line → ℕ → List Access
uses_in ls i = uses_of (verb_in ls i)

abbrev pub edges_in : List Line → List Edge
edges_in ls = edges_after [] ls

-- a number is below n, or so many above
pub old_or_new : (n i : ℕ) → (i < n) ⊎ ((k : ℕ) × (i ≡ n + k))
old_or_new n i = elim (cases_order n i) [
  | inl same ↦ inr (0, omega arith)
  | inr (inl above) ↦ inr (i - n, omega arith)
  | inr (inr below) ↦ inl below
]

pub got_old : (ls row : List Line) (i : ℕ) → i < length ls → slice_get (ls ++ row) i ≡ slice_get ls i
got_old [] row i h = absurd (omega arith)
got_old (x ∷ ls) row zero h = refl
got_old (x ∷ ls) row (suc i) h = got_old ls row i (let g : suc i < suc (length ls) = h in omega arith)

pub got_new : (ls row : List Line) (i k : ℕ) → i ≡ length ls + k → slice_get (ls ++ row) i ≡ slice_get row k
got_new [] row i k h = ap (slice_get row) (let e : i ≡ 0 + k = h in let f : i ≡ k = omega arith in f)
got_new (x ∷ ls) row zero k h = absurd (let e : 0 ≡ suc (length ls) + k = h in omega arith)
got_new (x ∷ ls) row (suc i) k h = got_new ls row i k (let e : suc i ≡ suc (length ls) + k = h in omega arith)

pub verb_old : (ls row : List Line) (i : ℕ) → i < length ls → verb_in (ls ++ row) i ≡ verb_in ls i
verb_old ls row i h = ap (option_map (λ (l : Line). l.verb)) (got_old ls row i h)

pub verb_new : (ls row : List Line) (i k : ℕ) → i ≡ length ls + k → verb_in (ls ++ row) i ≡ verb_in row k
verb_new ls row i k h = ap (option_map (λ (l : Line). l.verb)) (got_new ls row i k h)

-- the edges of the lines that are added come last
pub edge_old : (ls row : List Line) (e : Edge) → Contains (edges_in ls) e → Contains (edges_in (ls ++ row)) e
edge_old ls row e c = subst (λ es. Contains es e) (sym (edges_after_join [] ls row)) (Contains-append_left (edges_in ls) (edges_after ls row) e c)

pub edge_new : (ls row : List Line) (e : Edge) → Contains (edges_after ls row) e → Contains (edges_in (ls ++ row)) e
edge_new ls row e c = subst (λ es. Contains es e) (sym (edges_after_join [] ls row)) (Contains-append_right (edges_in ls) (edges_after ls row) e c)

pub edge_cases : (ls row : List Line) (e : Edge) → Contains (edges_in (ls ++ row)) e → Contains (edges_in ls) e ⊎ Contains (edges_after ls row) e
edge_cases ls row e c = Contains-append_cases (edges_in ls) (edges_after ls row) e (subst (λ es. Contains es e) (edges_after_join [] ls row) c)

-- a path is one where there are more edges
pub path_more : {all more : List Edge} → ((e : Edge) → Contains all e → Contains more e) → {i j : ℕ} → Path all i j → Path more i j
path_more f (last e c p q) = last e (f e c) p q
path_more f (first e c p r) = first e (f e c) p (path_more f r)

-- one line is another, or has a path to it
abbrev pub UpTo : List Edge → ℕ → ℕ → Type 0
UpTo all i j = (i ≡ j) ⊎ Path all i j

-- the last edge of a path
pub last_edge : {all : List Edge} {i j : ℕ} → Path all i j → (e : Edge) × Contains all e × (e.to ≡ j) × UpTo all i e.from
last_edge (last e c p q) = (e, c, q, inl (sym p))
last_edge (first e c p r) = let s = last_edge r in (s.0, s.1, s.2, inr (elim s.3 [ inl same ↦ last e c p same | inr q ↦ first e c p q ]))
