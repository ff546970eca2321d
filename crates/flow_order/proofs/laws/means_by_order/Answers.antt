use Rattle.flow_order.proofs.Simulation as simulation
use Rattle.flow_order.proofs.laws.means_by_order.Goals as goal

pub returns : goal.returns
returns c = simulation.means_by_order
