use Rattle.std.proofs.Common.{◌≡◌, take, fold}
use Rattle.graph_indexes.specs.Names.{mixed}
use Rattle.graph_indexes.proofs.chains.mixed_all.Given as goal

abbrev pub invariant-loop-byte : goal.invariant-loop-byte
invariant-loop-byte l = l.all ≡ fold mixed l.fn.hash (take l.byte-index l.bytes)
