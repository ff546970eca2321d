use Rattle.std.proofs.Common.{length}
use Rattle.word_meanings.specs.Recent.{IsRecent}
use Rattle.graph_reader.proofs.ReadSoFar.{ReadSoFar}
use Rattle.graph_reader.proofs.reader.read_bare.Given as goal

abbrev pub invariant-loop-line : goal.invariant-loop-line
invariant-loop-line l = record {
  so_far : ReadSoFar l.fn.bytes l.graph l.rest l.number;
  recent : IsRecent l.graph l.recent;
}

abbrev pub decreases-loop-line : goal.decreases-loop-line
decreases-loop-line l = length l.rest
