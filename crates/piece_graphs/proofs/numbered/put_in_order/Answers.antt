use Rattle.std.proofs.Common.{rules}
use Rattle.std.proofs.lemmas.List.Sorted.{IsNonDecreasingBy-from_sort_by_key}
use Rattle.column_pieces.specs.declared.pieces.Piece.{Piece}
use Rattle.piece_graphs.proofs.numbered.put_in_order.Goals as goal

pub returns-in-Ok-clause-order : goal.returns-in-Ok-clause-order
returns-in-Ok-clause-order c = IsNonDecreasingBy-from_sort_by_key (λ (x : Piece). x.space) _ c.in-Ok.ensures.sorted (λ a r q k. search rules)
