use Rattle.std.proofs.Common.{◌+◌, ◌*◌, ◌≤◌, length}
use Rattle.basics.specs.Words.{contents}
use Rattle.graph_reader.proofs.CallFaults.{SeenSoFar}
use Rattle.graph_reader.proofs.calls.see_accesses.Given as goal

abbrev pub invariant-loop-rest : goal.invariant-loop-rest
invariant-loop-rest l = record {
  seen : SeenSoFar l.graph (contents l.words) (contents l.rest) l.accesses l.faults;
  few : length l.accesses * 3 + length l.rest ≤ length l.words;
}

abbrev pub decreases-loop-rest : goal.decreases-loop-rest
decreases-loop-rest l = length l.rest
