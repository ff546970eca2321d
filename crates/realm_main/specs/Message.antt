-- When the program says something on the standard error.
use Rattle.std.specs.Prelude.{Bool, true, false}
use Rattle.graph_answers.specs.declared.status.Status.{Status}
use Rattle.graph_answers.specs.declared.status.Status.TheVariants.{Usage, ReadFault, WriteFault, NoMemory}

-- the statuses of which no text on the standard output tells
abbrev pub has_message : Status → Bool
has_message Usage = true
has_message ReadFault = true
has_message WriteFault = true
has_message NoMemory = true
has_message _ = false
