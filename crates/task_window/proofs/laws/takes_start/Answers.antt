use Rattle.task_window.proofs.Public as laws
use Rattle.task_window.proofs.laws.takes_start.Goals as goal

pub returns : goal.returns
returns g c = laws.takes_start _
