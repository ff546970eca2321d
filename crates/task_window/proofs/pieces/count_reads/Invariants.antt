use Rattle.std.proofs.Common.{◌≡◌, ◌+◌, drop}
use Rattle.task_window.specs.Pieces.{reads_of}
use Rattle.task_window.proofs.pieces.count_reads.Given as goal

abbrev pub invariant-loop-access : goal.invariant-loop-access
invariant-loop-access l = l.reads + reads_of (drop l.access-index l.accesses) ≡ reads_of l.accesses
