use Rattle.std.proofs.Common.{sym, subst}
use Rattle.flow_top.specs.FlowText.{IsFlowReading, IsReadFault}
use Rattle.flow_top.proofs.WordForms.{header_fault, other_fault, refused_fault}
use Rattle.flow_top.proofs.reading.read_flow.Goals as goal

pub returns-in-Ok-Flow-clause-text : goal.returns-in-Ok-Flow-clause-text
returns-in-Ok-Flow-clause-text c = subst (IsFlowReading c.args.bytes.now) c.in-Ok-Flow.field-0-is c.in-Ok-Flow.ensures

pub returns-in-Ok-Header-clause-refusal : goal.returns-in-Ok-Header-clause-refusal
returns-in-Ok-Header-clause-refusal c = subst (IsReadFault c.args.bytes.now) (sym c.refused.ensures) (header_fault c.args.bytes.now (subst (IsFlowReading c.args.bytes.now) c.in-Ok-Header.field-0-is c.in-Ok-Header.ensures))

pub returns-in-Ok-Other-clause-refusal : goal.returns-in-Ok-Other-clause-refusal
returns-in-Ok-Other-clause-refusal c = subst (IsReadFault c.args.bytes.now) (sym c.refused-in-Ok-Other.ensures) (other_fault c.args.bytes.now c.in-Ok-Other.number (subst (IsFlowReading c.args.bytes.now) c.in-Ok-Other.field-0-is c.in-Ok-Other.ensures))

pub returns-in-Ok-Refused-clause-refusal : goal.returns-in-Ok-Refused-clause-refusal
returns-in-Ok-Refused-clause-refusal c = subst (IsReadFault c.args.bytes.now) (sym c.refused-in-Ok-Refused.ensures) (refused_fault c.args.bytes.now c.in-Ok-Refused.field-0-0 (subst (IsFlowReading c.args.bytes.now) c.in-Ok-Refused.field-0-is c.in-Ok-Refused.ensures))
