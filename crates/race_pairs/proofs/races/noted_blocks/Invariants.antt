use Rattle.std.proofs.Common.{◌+◌, ◌-◌, ◌≤◌, length}
use Rattle.race_pairs.proofs.races.noted_blocks.Given as goal

abbrev pub invariant-loop-first : goal.invariant-loop-first
invariant-loop-first l = record { few : l.blocks ≤ l.first; within : l.first ≤ length l.graph.lines + 63 }

abbrev pub decreases-loop-first : goal.decreases-loop-first
decreases-loop-first l = length l.graph.lines - l.first
