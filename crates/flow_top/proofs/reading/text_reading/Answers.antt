use Rattle.std.proofs.Common.{subst}
use Rattle.graph_reader.specs.Reading.{IsReadAs}
use Rattle.flow_top.proofs.WordForms.{as_text}
use Rattle.flow_top.proofs.reading.text_reading.Goals as goal

pub returns-in-Graph : goal.returns-in-Graph
returns-in-Graph c = as_text c.args.text.now c.in-Graph.graph c.graph_reading.result (subst (IsReadAs c.args.text.now) c.in-Graph.is c.in_ok-graph.ensures) c.graph_reading.ensures
