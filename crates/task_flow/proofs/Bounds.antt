-- What the formats allow, in numbers.
use Rattle.std.proofs.Common.{◌≤◌}
use Rattle.graph_terms.specs.declared.format.Format.{Format}
use Rattle.graph_terms.specs.Limits.{limits}
use Rattle.graph_terms.proofs.Public.{most_limits}

pub lines_most : (fm : Format) → (limits fm).lines ≤ 65536
lines_most fm = (most_limits fm).lines

pub locks_most : (fm : Format) → (limits fm).locks ≤ 1024
locks_most fm = (most_limits fm).locks
