use Rattle.run_state.proofs.LawFacts as laws
use Rattle.run_state.proofs.laws.column_read_leaves_cells.Goals as goal

pub returns : goal.returns
returns c = laws.column_read_leaves_cells
