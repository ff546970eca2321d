use Rattle.std.proofs.Common.{◌≡◌, ◌+◌, ◌≤◌, ◌++◌, length}
use Rattle.basics.specs.Words.{contents}
use Rattle.explain_text.specs.Comments.{counts_from, all_counted}
use Rattle.explain_text.proofs.comment_counts.count_comments.Given as goal

abbrev pub invariant-loop-rest : goal.invariant-loop-rest
invariant-loop-rest l = record {
  above : l.above.items ++ counts_from l.comments (contents l.rest) ≡ counts_from 0 (contents l.lines);
  all : all_counted l.comments (contents l.rest) ≡ all_counted 0 (contents l.lines);
  few : l.comments + length l.rest ≤ length l.lines;
}

abbrev pub decreases-loop-rest : goal.decreases-loop-rest
decreases-loop-rest l = length l.rest
