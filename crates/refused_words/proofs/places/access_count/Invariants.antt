use Rattle.std.proofs.Common.{◌≡◌, ◌+◌, ◌≤◌, length}
use Rattle.basics.specs.Words.{contents}
use Rattle.graph_words.specs.Calls.{access_words}
use Rattle.refused_words.proofs.places.access_count.Given as goal

abbrev pub invariant-loop-rest : goal.invariant-loop-rest
invariant-loop-rest l = record {
  same : l.count + length (access_words (contents l.rest)) ≡ length (access_words (contents l.words));
  few : l.count + length l.rest ≤ length l.words;
}

abbrev pub decreases-loop-rest : goal.decreases-loop-rest
decreases-loop-rest l = length l.rest
