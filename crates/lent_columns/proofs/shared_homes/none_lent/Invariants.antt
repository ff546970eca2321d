use Rattle.std.proofs.Common.{◌≡◌, ◌≤◌}
use Rattle.std.specs.Prelude.{None, replicate}
use Rattle.std.specs.Vec.{vec_capacity}
use Rattle.lent_columns.proofs.shared_homes.none_lent.Given as goal

abbrev pub invariant-loop-column : goal.invariant-loop-column
invariant-loop-column l = record { made : l.lent.items ≡ replicate l._column None; room : l.columns ≤ vec_capacity l.lent }
