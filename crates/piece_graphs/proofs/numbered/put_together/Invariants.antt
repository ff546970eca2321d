use Rattle.std.proofs.Common.{◌≡◌, ◌≤◌, length, take}
use Rattle.piece_graphs.specs.declared.limits.TheConstants.{MAX_PIECES}
use Rattle.piece_graphs.specs.Numbered.{all_pieces}
use Rattle.piece_graphs.proofs.numbered.put_together.Given as goal

abbrev pub invariant-loop-own : goal.invariant-loop-own
invariant-loop-own l = record { pieces : l.pieces.items ≡ all_pieces (take l.own-index l.lists); few : length l.pieces.items ≤ MAX_PIECES }
