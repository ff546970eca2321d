use Rattle.task_window.proofs.Public as laws
use Rattle.task_window.proofs.laws.ends_end.Goals as goal

pub returns : goal.returns
returns g c = laws.ends_end _
