use Rattle.std.proofs.Common.{◌≡◌, ◌<◌, ◌^◌, length}
use Rattle.graph_words.specs.Words.{ascend_from}
use Rattle.refused_words.proofs.spelled.ascend.Given as goal

abbrev pub invariant-loop-rest : goal.invariant-loop-rest
invariant-loop-rest l = record {
  low : l.least < 2 ^ 33;
  same : ascend_from 0 l.pairs ≡ ascend_from l.least l.rest;
}

abbrev pub decreases-loop-rest : goal.decreases-loop-rest
decreases-loop-rest l = length l.rest
