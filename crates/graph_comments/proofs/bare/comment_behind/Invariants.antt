use Rattle.std.proofs.Common.{length}
use Rattle.graph_comments.specs.Cuts.{IsPassed}
use Rattle.graph_comments.proofs.bare.comment_behind.Given as goal

abbrev pub invariant-loop-line : goal.invariant-loop-line
invariant-loop-line l = IsPassed l.bytes l.rest

abbrev pub decreases-loop-line : goal.decreases-loop-line
decreases-loop-line l = length l.rest
