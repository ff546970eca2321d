use Rattle.task_window.proofs.Public as laws
use Rattle.task_window.proofs.laws.inserts_keep_runs.Goals as goal

pub returns : goal.returns
returns g c = laws.inserts_keep_runs _
