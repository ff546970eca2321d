use Rattle.std.proofs.Common.{◌≤◌, take, length}
use Rattle.graph_terms.specs.Access.{accesses}
use Rattle.share_words.specs.Counting.{AreCounted}
use Rattle.share_words.proofs.counting.count_line.Given as goal

abbrev pub invariant-loop-k : goal.invariant-loop-k
invariant-loop-k l = record {
  few : l.k ≤ length (accesses l.graph l.line);
  counted : AreCounted l.graph l.line (take l.k (accesses l.graph l.line)) l.counts.items;
}
