-- Which statuses have a line of their own on the standard error.
use Rattle.std.specs.Prelude.{Bool, true, false}
use Rattle.flow_top.specs.declared.status.FlowStatus.{FlowStatus}
use Rattle.flow_top.specs.declared.status.FlowStatus.TheVariants.{ReadFault, WriteFault, NoMemory, TooLong}

abbrev pub has_message : FlowStatus → Bool
has_message ReadFault = true
has_message WriteFault = true
has_message NoMemory = true
has_message TooLong = true
has_message _ = false
