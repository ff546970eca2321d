use Rattle.std.proofs.Common.{length, ◌≤◌}
use Rattle.realm_audit.proofs.InputParts.{LookedThrough}
use Rattle.realm_audit.proofs.input_parts.graph_size.Given as goal

abbrev pub invariant-loop-line : goal.invariant-loop-line
invariant-loop-line l = record { so_far : LookedThrough l.bytes l.rest; within : length l.rest ≤ length l.bytes }

abbrev pub decreases-loop-line : goal.decreases-loop-line
decreases-loop-line l = length l.rest
