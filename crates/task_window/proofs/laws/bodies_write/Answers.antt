use Rattle.task_window.proofs.Public as laws
use Rattle.task_window.proofs.laws.bodies_write.Goals as goal

pub returns : goal.returns
returns g c = laws.bodies_write _
