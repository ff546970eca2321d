use Rattle.std.proofs.Common.{◌≡◌, ℕ, ◌<◌, false}
use Rattle.std.specs.Option.{option_map_or}
use Rattle.basics.specs.Words.{contents}
use Rattle.refused_words.specs.Refused.{leaves_column}
use Rattle.refused_words.specs.Uses.{use_at}
use Rattle.refused_words.proofs.outside.in_places.Given as goal

abbrev pub invariant-loop-k : goal.invariant-loop-k
invariant-loop-k l = (j : ℕ) → j < l.k → option_map_or (leaves_column l.graph l.column) (use_at l.graph l.places (contents l.rest) j) false ≡ false
