use Rattle.std.proofs.Common.{◌≡◌, ℕ, ◌<◌, false}
use Rattle.graph_terms.specs.Graph.{line_passes}
use Rattle.graph_words.specs.Draft.{as_place}
use Rattle.refused_words.specs.Ends.{ends}
use Rattle.refused_words.proofs.ends.first_ending.Given as goal

abbrev pub invariant-loop-i : goal.invariant-loop-i
invariant-loop-i l = (j : ℕ) → j < l.i → line_passes (ends (as_place l.place) l.number) l.graph j ≡ false
