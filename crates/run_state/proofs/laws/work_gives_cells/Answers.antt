use Rattle.run_state.proofs.LawFacts as laws
use Rattle.run_state.proofs.laws.work_gives_cells.Goals as goal

pub returns : goal.returns
returns c = laws.work_gives_cells
