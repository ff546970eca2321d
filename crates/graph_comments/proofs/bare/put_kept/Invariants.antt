use Rattle.std.proofs.Common.{◌≡◌, ◌++◌, length}
use Rattle.graph_comments.specs.Comments.{lines, joined, kept}
use Rattle.graph_comments.proofs.bare.put_kept.Given as goal

abbrev pub invariant-loop-line : goal.invariant-loop-line
invariant-loop-line l = l.bare.items ++ joined (kept (lines l.rest)) ≡ l.fn.bare.items ++ joined (kept (lines l.bytes))

abbrev pub decreases-loop-line : goal.decreases-loop-line
decreases-loop-line l = length l.rest
