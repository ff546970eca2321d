-- At numbers that are no lines none race.
use Rattle.std.proofs.Common.{ℕ, ◌<◌, ◌≤◌, ◌⊎◌, inl, inr, length, arith}
use Rattle.graph_terms.specs.Graph.{GraphValue}
use Rattle.graph_meaning.specs.Rules.{RaceAt}
use Rattle.conflict_classes.specs.Settled.{IsSettled}
use Rattle.conflict_classes.proofs.Public.{access_there}

pub settled_beyond : (g : GraphValue) (i j : ℕ) → length g.lines ≤ i → IsSettled g i j
settled_beyond g i j h c = (let low : i < length g.lines = access_there g i c.one c.one_in in absurd (omega arith))

pub race_beyond : (g : GraphValue) (i j : ℕ) → (length g.lines ≤ i) ⊎ (length g.lines ≤ j) → RaceAt g i j
race_beyond g i j (inl h) below c = (let b : i < length g.lines = access_there g i c.one c.one_in in absurd (omega arith))
race_beyond g i j (inr h) below c = (let b : j < length g.lines = access_there g j c.other c.other_in in absurd (omega arith))
