use Rattle.std.proofs.Common.{refl}
use Rattle.task_window.proofs.Tasking.{kept_same}
use Rattle.task_window.proofs.window.TaskWindow.add_pieces.Goals as goal

pub invariant_of-self : goal.invariant_of-self
invariant_of-self c = kept_same c.self.inside.pieces c.add_pieces.new.self c.self.inside.queue c.self.inside.queue c.self.invariant c.add_pieces.ensures.pieces c.add_pieces.ensures.tasks c.self.invariant.rest refl refl

pub invariant_of-self-2 : goal.invariant_of-self-2
invariant_of-self-2 c = kept_same c.self.inside.pieces c.add_pieces.new.self c.self.inside.queue c.self.inside.queue c.self.invariant c.add_pieces.ensures.pieces c.add_pieces.ensures.tasks c.self.invariant.rest refl refl
