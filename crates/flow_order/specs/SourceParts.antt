-- The sources of each line of a flow, in parts.
use Rattle.std.specs.Prelude.{ℕ, zero, suc, ◌==◌, Bool, false, cond, not, ◌||◌, nat_le, List, [], ◌∷◌, ◌++◌, length, map, filter, flat_map, slice_index_or}
use Rattle.std.specs.List.{list_any}
use Rattle.graph_terms.specs.declared.format.Format.{Format}
use Rattle.graph_terms.specs.declared.format.Format.TheVariants.{Three}
use Rattle.graph_terms.specs.declared.limits.TheConstants.{MAX_EVENTS_OF_THREE}
use Rattle.graph_terms.specs.declared.verb.Access.{Access}
use Rattle.graph_terms.specs.Graph.{GraphValue}
use Rattle.graph_terms.specs.Access.{accesses}
use Rattle.flow_order.specs.Meaning.{accesses_tie}

-- the numbers below n, the highest first
abbrev pub down_from : ℕ → List ℕ
down_from zero = []
down_from (suc n) = n ∷ down_from n

-- the lines above line j that its access b ties, the highest first
abbrev pub tied_by : GraphValue → Bool → ℕ → Access → List ℕ
tied_by f commute j b = filter (λ i. list_any (λ a. accesses_tie f commute a b) (accesses f i)) (down_from j)

-- whether line i reaches line j in at most n steps, by the sources of each line
abbrev pub reaches : List (List ℕ) → ℕ → ℕ → ℕ → Bool
reaches sources zero i j = false
reaches sources (suc n) i j = list_any (λ k. (k == i) || reaches sources n i k) (slice_index_or sources j [])

-- line i is one of these, or reaches one
abbrev pub is_reached : List (List ℕ) → List ℕ → ℕ → Bool
is_reached sources ks i = list_any (λ k. (k == i) || reaches sources k i k) ks

-- of lines, the highest first, those that reach none of the others and none of these
abbrev pub least : List (List ℕ) → List ℕ → List ℕ → List ℕ
least sources kept [] = []
least sources kept (i ∷ is) = cond (is_reached sources kept i) (least sources kept is) (i ∷ least sources (kept ++ i ∷ []) is)

-- the sources of a line: large parts, which lines share, and the others
pub record Parts : Type 0 where
  pub large : List (List ℕ)
  pub small : List ℕ

abbrev pub has : List ℕ → ℕ → Bool
has ks i = list_any (λ k. k == i) ks

-- from so many lines on a part stays whole, so that lines share a merge of it: in format 3 where a line names fewer behind its `on`
abbrev pub large_from : Format → ℕ
large_from Three = suc MAX_EVENTS_OF_THREE
large_from _ = 8

abbrev pub is_large : Format → List ℕ → Bool
is_large fm p = nat_le (large_from fm) (length p)

abbrev pub parts_from : Format → List (List ℕ) → ℕ → List (List ℕ) → Parts
parts_from fm sources j ps = record {
  large = filter (is_large fm) ps;
  small = least sources (flat_map (λ p. p) (filter (is_large fm) ps)) (filter (λ i. list_any (λ p. has p i) (filter (λ p. not (is_large fm p)) ps)) (down_from j));
}

abbrev pub parts_of : GraphValue → Bool → List (List ℕ) → ℕ → Parts
parts_of f commute sources j = parts_from f.format sources j (map (λ b. least sources [] (tied_by f commute j b)) (accesses f j))

abbrev pub all_of : Parts → List ℕ
all_of p = p.small ++ flat_map (λ q. q) p.large

-- the sources of the first n lines
abbrev pub sources_after : GraphValue → Bool → ℕ → List (List ℕ)
sources_after f commute zero = []
sources_after f commute (suc n) = sources_after f commute n ++ all_of (parts_of f commute (sources_after f commute n) n) ∷ []

abbrev pub with_event : List ℕ → ℕ → List ℕ
with_event es e = cond (has es e) es (es ++ e ∷ [])
