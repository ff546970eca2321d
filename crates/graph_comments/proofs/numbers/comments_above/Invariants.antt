use Rattle.std.proofs.Common.{◌≡◌, ◌+◌, ◌≤◌, length}
use Rattle.graph_comments.specs.Comments.{lines, comments_above}
use Rattle.graph_comments.proofs.numbers.comments_above.Given as goal

abbrev pub invariant-loop-line : goal.invariant-loop-line
invariant-loop-line l = record {
  above : l.comments + comments_above l.left (lines l.rest) ≡ comments_above l.place (lines l.bytes);
  few : l.comments + length l.rest ≤ length l.bytes;
}

abbrev pub decreases-loop-line : goal.decreases-loop-line
decreases-loop-line l = length l.rest
