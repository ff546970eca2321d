use Rattle.std.proofs.Common.{subst}
use Rattle.graph_reader.specs.Reading.{IsReadAs, IsUnreadBy}
use Rattle.graph_reader.proofs.ReadSoFar.{first_fault}
use Rattle.graph_reader.proofs.reader.read_graph.Goals as goal

pub returns-in-Ok-Refused-clause-refusal : goal.returns-in-Ok-Refused-clause-refusal
returns-in-Ok-Refused-clause-refusal c =
    let u = c.in-Ok-Refused.field-0-0 in
    let f : IsUnreadBy c.args.bytes.now u.number u.why u.above = subst (IsReadAs c.args.bytes.now) c.in-Ok-Refused.field-0-is c.in-Ok-Refused.ensures in
    first_fault c.args.bytes.now u.number u.why u.above f
