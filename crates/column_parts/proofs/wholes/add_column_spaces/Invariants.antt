use Rattle.std.proofs.Common.{◌≡◌, ◌++◌, replicate}
use Rattle.column_parts.proofs.wholes.add_column_spaces.Given as goal

abbrev pub invariant-loop-k : goal.invariant-loop-k
invariant-loop-k l = l.spaces.items ≡ l.initial.spaces.items ++ replicate l.k l.space
