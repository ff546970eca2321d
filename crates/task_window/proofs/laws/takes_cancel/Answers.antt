use Rattle.task_window.proofs.Public as laws
use Rattle.task_window.proofs.laws.takes_cancel.Goals as goal

pub returns : goal.returns
returns g c = laws.takes_cancel _
