-- The exit statuses.
use Rattle.std.specs.Prelude.{ℕ, Bool, true, false}
use Rattle.command_line.specs.declared.WordsFault.{WordsFault}
use Rattle.command_line.specs.declared.WordsFault.TheVariants as fault
use Rattle.graph_answers.specs.declared.status.Status.{Status}
use Rattle.graph_answers.specs.declared.status.Status.TheVariants.{Done, Usage, Unread, Unfit, ReadFault, WriteFault, NoMemory, Slots, TooLong, Unlawful}

-- the exit status for a status
abbrev pub exit_number : Status → ℕ
exit_number Done = 0
exit_number Usage = 2
exit_number Unread = 3
exit_number Unfit = 4
exit_number ReadFault = 5
exit_number WriteFault = 6
exit_number NoMemory = 7
exit_number Slots = 8
exit_number TooLong = 9
exit_number Unlawful = 10

-- the status for words that ask for nothing
abbrev pub words_status : WordsFault → Status
words_status fault.Usage = Usage
words_status fault.NoMemory = NoMemory

-- the statuses that refuse a request, with a text that says why
abbrev pub is_refusal : Status → Bool
is_refusal Unread = true
is_refusal Unfit = true
is_refusal Slots = true
is_refusal TooLong = true
is_refusal Unlawful = true
is_refusal _ = false
