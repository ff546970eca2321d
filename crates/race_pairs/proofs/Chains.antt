-- Lines each of which waits for the one above it.
use Rattle.std.proofs.Common.{◌≡◌, ℕ, ◌+◌, ◌-◌, ◌<◌, ◌≤◌, inl, inr, subst, arith}
use Rattle.std.proofs.lemmas.Bool.{cases_lt}
use Rattle.graph_terms.specs.Graph.{GraphValue}
use Rattle.graph_meaning.specs.Path.{HasPath}
use Rattle.graph_meaning.specs.Rules.{Everywhere, RaceAt}
use Rattle.graph_meaning.proofs.Public.{path_append}
use Rattle.race_pairs.specs.Topmost.{NoneRaceBelow, races_with}

module _ (g : GraphValue) (first n : ℕ) (chain : (i : ℕ) → first ≤ i → i + 1 < n → HasPath g i (n - 1)) (edge : first < n → HasPath g (n - 1) n) where
  -- each line from the first of them on has a path to the next one
  pub reaches : (i : ℕ) → first ≤ i → i < n → HasPath g i n
  reaches i begins low =
      let last = edge (omega (arith, begins, low)) in
      elim (cases_lt (i + 1) n) [
        | inl before ↦ path_append (chain i begins before) last
        | inr up ↦ subst (λ z. HasPath g z n) (let e : n - 1 ≡ i = omega (arith, up, low) in e) last
      ]

  pub chain_more : (i : ℕ) → first ≤ i → i + 1 < n + 1 → HasPath g i (n + 1 - 1)
  chain_more i begins low = subst (λ z. HasPath g i z) (let e : n ≡ n + 1 - 1 = omega arith in e) (reaches i begins (omega (arith, low)))

  -- so none races with it
  none_at : ((k : ℕ) → k < first → Everywhere (RaceAt g k)) → Everywhere (races_with g n)
  none_at above i low c = elim (cases_lt i first) [
    | inl before ↦ above i before n low c
    | inr up ↦ inl (reaches i up low)
  ]

  pub none_more : ((k : ℕ) → k < first → Everywhere (RaceAt g k)) → NoneRaceBelow g n → NoneRaceBelow g (n + 1)
  none_more above free k low = elim (cases_lt k n) [
    | inl before ↦ free k before
    | inr up ↦ subst (λ z. Everywhere (races_with g z)) (let e : n ≡ k = omega (arith, up, low) in e) (none_at above)
  ]
