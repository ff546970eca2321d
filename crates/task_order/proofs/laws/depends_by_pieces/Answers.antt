use Rattle.task_order.proofs.Pieces as laws
use Rattle.task_order.proofs.laws.depends_by_pieces.Goals as goal

pub returns : goal.returns
returns c = laws.depends_by_pieces
