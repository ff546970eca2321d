use Rattle.flow_top.proofs.Readings.{answered}
use Rattle.flow_top.proofs.laws.answers_are_read.Goals as goal

pub returns : goal.returns
returns c = answered c.bytes_have_one_reading.ensures
