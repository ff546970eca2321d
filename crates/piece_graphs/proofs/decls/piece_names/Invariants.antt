use Rattle.std.proofs.Common.{◌≡◌, ◌-◌}
use Rattle.piece_graphs.specs.Items.{piece_names}
use Rattle.piece_graphs.proofs.decls.piece_names.Given as goal

abbrev pub invariant-loop-k : goal.invariant-loop-k
invariant-loop-k l = l.names ≡ piece_names l.first (l.k - l.first)
