-- Two sums that share a cell have a chain, or are both contended.
use Rattle.std.proofs.Common.{◌≡◌, ℕ, zero, suc, ◌<◌, Bool, true, false, cond, not, ◌&&◌, ◌||◌, ◌⊎◌, inl, inr, List, [], ◌∷◌, length, map, refl, sym, ◌∙◌, ap, subst, arith}
use Rattle.std.specs.Prelude.{Contains, Option, Some, None, find, ◌==◌}
use Rattle.std.specs.Option.{option_map_or}
use Rattle.std.proofs.lemmas.Bool.{true≢false, cases_order, and_parts, and_from, or_left, or_right, eq-eqb, not_from_false}
use Rattle.index_spaces.specs.Space.{has_point, points, Meet}
use Rattle.index_spaces.specs.declared.Op.TheVariants as op
use Rattle.index_spaces.specs.Laws.{PointsAreListed}
use Rattle.basics.proofs.ListFacts.{contains_cases, contains_none, contains_here, contains_there, passes_some}
use Rattle.graph_terms.specs.declared.format.Format.{Format}
use Rattle.graph_terms.specs.declared.table.Kernel.TheVariants as kernel
use Rattle.graph_terms.specs.declared.verb.Access.{Access}
use Rattle.graph_terms.specs.declared.verb.Mode.{Mode}
use Rattle.graph_terms.specs.declared.verb.Mode.TheVariants.{Sum}
use Rattle.graph_terms.specs.declared.verb.Verb.{Verb}
use Rattle.graph_terms.specs.declared.verb.Verb.TheVariants.{Arrive, Acquire, Reduce, Task}
use Rattle.graph_terms.specs.Graph.{GraphValue, space_at, verb_at}
use Rattle.graph_terms.specs.Access.{verb_accesses, in_format, accesses}
use Rattle.graph_terms.proofs.Public.{arrive_accesses}
use Rattle.flow_order.specs.Meaning.{Chain}
use Rattle.flow_order.specs.SourceParts.{down_from, reaches, sources_after}
use Rattle.task_flow.specs.Construction.{is_sum, summed, summed_column, cells_meet, are_rivals, contends_with, is_contended}
use Rattle.flow_order.proofs.SourceFacts.{reaches_chain}

-- a line has one sum at most, as its last access
abbrev sums_last : List Access → Bool
sums_last [] = true
sums_last (x ∷ []) = true
sums_last (x ∷ y ∷ ys) = not (is_sum x) && sums_last (y ∷ ys)

found_by : (x : Access) (xs : List Access) (b : Bool) → is_sum x ≡ b → find is_sum (x ∷ xs) ≡ cond b (Some x) (find is_sum xs)
found_by x xs b e = ap (λ z. cond z (Some x) (find is_sum xs)) e

not_false : (b : Bool) → not b ≡ true → b ≡ false
not_false false h = refl
not_false true h = absurd (true≢false (sym h))

one_sum : (xs : List Access) (a : Access) → sums_last xs ≡ true → Contains xs a → is_sum a ≡ true → find is_sum xs ≡ Some a
one_sum [] a l c s = absurd (contains_none a c)
one_sum (x ∷ []) a l c s = elim (contains_cases x [] a c) [
  | inl same ↦ found_by x [] true (ap is_sum same ∙ s) ∙ ap (λ z. Some z) same
  | inr none ↦ absurd (contains_none a none)
]
one_sum (x ∷ y ∷ ys) a l c s =
    let p = and_parts (not (is_sum x)) (sums_last (y ∷ ys)) l in
    elim (contains_cases x (y ∷ ys) a c) [
      | inl same ↦ absurd (true≢false (sym s ∙ (ap is_sum (sym same) ∙ not_false (is_sum x) p.0)))
      | inr rest ↦ found_by x (y ∷ ys) false (not_false (is_sum x) p.0) ∙ one_sum (y ∷ ys) a p.1 rest s
    ]

verb_sums : (fm : Format) (v : Verb) → sums_last (map (in_format fm) (verb_accesses v)) ≡ true
verb_sums fm (Arrive p v w) = ap (λ xs. sums_last (map (in_format fm) xs)) (arrive_accesses p v w)
verb_sums fm (Task (kernel.Iota x s v)) = refl
verb_sums fm (Task (kernel.Axpy x y s v)) = refl
verb_sums fm (Task (kernel.Stencil x y r s)) = refl
verb_sums fm (Task (kernel.Scan x y s)) = refl
verb_sums fm (Task (kernel.Hist x y s t)) = refl
verb_sums fm (Task (kernel.Dot x y z s t)) = refl
verb_sums fm (Task (kernel.Expect x s low high)) = refl
verb_sums fm (Task (kernel.Gather x y z s t)) = refl
verb_sums fm (Acquire l true) = refl
verb_sums fm (Acquire l false) = refl
verb_sums fm (Reduce op.Sum x y s) = refl
verb_sums fm (Reduce op.Min x y s) = refl
verb_sums fm (Reduce op.Max x y s) = refl
verb_sums fm v = refl

sum_by : (fm : Format) (o : Option Verb) (a : Access) → Contains (map (in_format fm) (option_map_or verb_accesses o [])) a → is_sum a ≡ true → find is_sum (map (in_format fm) (option_map_or verb_accesses o [])) ≡ Some a
sum_by fm None a c s = absurd (contains_none a c)
sum_by fm (Some v) a c s = one_sum (map (in_format fm) (verb_accesses v)) a (verb_sums fm v) c s

mode_sum : (a : Access) → a.mode ≡ Sum → is_sum a ≡ true
mode_sum a h = ap (λ (m : Mode). is_sum (record { column = 0; space = 0; mode = m })) h

pub summed_is : (f : GraphValue) (i : ℕ) (a : Access) → Contains (accesses f i) a → a.mode ≡ Sum → summed f i ≡ Some a
summed_is f i a c h = sum_by f.format (verb_at f i) a c (mode_sum a h)

below_down : (n i : ℕ) → i < n → Contains (down_from n) i
below_down zero i h = absurd (omega arith)
below_down (suc n) i h = elim (cases_order i n) [
  | inl same ↦ subst (λ x. Contains (n ∷ down_from n) x) (sym same) (contains_here n (down_from n))
  | inr (inl below) ↦ contains_there n (down_from n) i (below_down n i below)
  | inr (inr above) ↦ absurd (omega arith)
]

module _ (f : GraphValue) (commute : Bool) where
  abbrev n : ℕ
  n = length f.lines

  abbrev table : List (List ℕ)
  table = sources_after f commute n

  cells : PointsAreListed → (i j : ℕ) (a b : Access) → summed f i ≡ Some a → summed f j ≡ Some b → a.column ≡ b.column → Meet (space_at f a.space) (space_at f b.space) → cells_meet f (summed f i) (summed f j) ≡ true
  cells listed i j a b ea eb column meet =
      ap (λ o. cells_meet f o (summed f j)) ea ∙ (ap (cells_meet f (Some a)) eb
      ∙ and_from (a.column == b.column) _ (eq-eqb a.column b.column column) (passes_some (has_point (space_at f a.space)) (points (space_at f b.space)) meet.0 ((listed (space_at f b.space) meet.0).1 meet.2) meet.1))

  contends_at : (k i j : ℕ) → commute ≡ true → i < j → j < n → are_rivals f table i j ≡ true → ((i == k) || (j == k)) ≡ true → is_contended f commute k ≡ true
  unfolding is_contended
  contends_at k i j commutes below h rivals one = and_from commute _ commutes
      (passes_some (contends_with f table k) (down_from n) j (below_down n j h)
      (passes_some (λ x. are_rivals f table x j && ((x == k) || (j == k))) (down_from j) i (below_down j i below) (and_from (are_rivals f table i j) _ rivals one)))

  pub rivals_contend : PointsAreListed → commute ≡ true → (i j : ℕ) (a b : Access) → i < j → j < n → Contains (accesses f i) a → Contains (accesses f j) b → a.mode ≡ Sum → b.mode ≡ Sum → a.column ≡ b.column → Meet (space_at f a.space) (space_at f b.space) →
      Chain f commute i j ⊎ ((is_contended f commute i ≡ true) × (is_contended f commute j ≡ true) × (summed_column f i ≡ summed_column f j))
  rivals_contend listed commutes i j a b below h ca cb sa sb column meet = by (reaches table j i j) refl
    where
      ea : summed f i ≡ Some a
      ea = summed_is f i a ca sa

      eb : summed f j ≡ Some b
      eb = summed_is f j b cb sb

      by : (r : Bool) → reaches table j i j ≡ r → Chain f commute i j ⊎ ((is_contended f commute i ≡ true) × (is_contended f commute j ≡ true) × (summed_column f i ≡ summed_column f j))
      by true e = inl (reaches_chain f commute n j i j h e)
      by false e =
          let rivals : are_rivals f table i j ≡ true = and_from (not (reaches table j i j)) _ (not_from_false (reaches table j i j) e) (cells listed i j a b ea eb column meet) in
          inr (
            contends_at i i j commutes below h rivals (or_left (i == i) (j == i) (eq-eqb i i refl)),
            contends_at j i j commutes below h rivals (or_right (i == j) (j == j) (eq-eqb j j refl)),
            ap (λ (o : Option Access). option_map_or (λ (x : Access). x.column) o 0) ea ∙ (column ∙ sym (ap (λ (o : Option Access). option_map_or (λ (x : Access). x.column) o 0) eb)),
          )
