use Rattle.task_window.proofs.Public as laws
use Rattle.task_window.proofs.laws.runs_begin.Goals as goal

pub returns : goal.returns
returns g c = laws.runs_begin _
