use Rattle.flow_runs.proofs.Outcomes.{ran}
use Rattle.flow_runs.proofs.runs_mean_flows.Goals as goal

pub returns : goal.returns
returns c = ran c.bytes_have_one_reading.ensures c.flow_in_each_format.ensures
