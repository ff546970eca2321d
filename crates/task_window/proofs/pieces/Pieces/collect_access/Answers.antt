use Rattle.std.proofs.Common.{arith, subst}
use Rattle.task_window.specs.Pieces.{tasks_of, Collects, IsMetIn}
use Rattle.task_window.proofs.Collecting.{met_in_more}
use Rattle.task_window.proofs.pieces.Pieces.collect_access.Goals as goal

pub loop-piece-preserved : goal.loop-piece-preserved
loop-piece-preserved c =
    met_in_more (tasks_of c.args.self.now) c.args.sources.now.items c.loop-piece.sources.items c.collect_piece.new.sources.items c.args.access.first c.loop-piece.piece c.args.access.writes c.loop-piece.auto.piece c.loop-piece.invariant c.in_ok-collect_piece.ensures

pub returns : goal.returns
returns c = subst (λ p. Collects c.args.sources.now.items c.loop-piece.sources.items (IsMetIn (tasks_of c.args.self.now) c.args.access.first p c.args.access.writes)) (omega arith) c.loop-piece.invariant
