-- What kept a command line from being matched.
use Rattle.clap.specs.declared.error.kind.ErrorKind.{ErrorKind}
use Rattle.clap.specs.declared.error.kind.ErrorKind.TheVariants as kind
use Rattle.command_line.specs.declared.WordsFault.{WordsFault}
use Rattle.command_line.specs.declared.WordsFault.TheVariants.{Usage, NoMemory}

-- want of memory, or words that the command refuses
abbrev pub fault_by_kind : ErrorKind → WordsFault
fault_by_kind kind.OutOfMemory = NoMemory
fault_by_kind _ = Usage
