-- A line on each number of an answer.
use Rattle.std.specs.Prelude.{◌≡◌, ◌≢◌, ℕ, ◌⊎◌, List, codes}
use Rattle.realm_c.specs.declared.messages.TextAnswer.{TextAnswer}
use Rattle.realm_c.specs.declared.messages.TextAnswer.TheVariants as texts
use Rattle.realm_c.specs.declared.messages.RunAnswer.{RunAnswer}
use Rattle.realm_c.specs.declared.messages.RunAnswer.TheVariants as runs
use Rattle.realm_c.specs.declared.messages.Misuse.{Misuse}
use Rattle.realm_c.specs.declared.messages.Misuse.TheVariants as misuses

-- the numbers of answers on texts, and their lines
abbrev pub text_number : TextAnswer → ℕ
text_number texts.Done = 0
text_number texts.Usage = 2
text_number texts.Unread = 3
text_number texts.Unfit = 4
text_number texts.NoRoom = 6
text_number texts.NoMemory = 7
text_number texts.Slots = 8
text_number texts.TooLong = 9
text_number texts.Unlawful = 10

abbrev pub text_line : TextAnswer → List ℕ
text_line texts.Done = codes "done"
text_line texts.Usage = codes "a number is not within its range"
text_line texts.Unread = codes "the text is no graph's, or not followed by a trace's"
text_line texts.Unfit = codes "the graph breaks a rule"
text_line texts.NoRoom = codes "out is too short"
text_line texts.NoMemory = codes "out of memory"
text_line texts.Slots = codes "fewer event slots than the graph needs"
text_line texts.TooLong = codes "the text is too long"
text_line texts.Unlawful = codes "the trace is not lawful"

-- the numbers of answers on runs, and their lines
abbrev pub run_number : RunAnswer → ℕ
run_number runs.Done = 0
run_number runs.NotYet = 1
run_number runs.BusyLock = 2
run_number runs.BusyColumn = 3
run_number runs.Nothing = 4
run_number runs.Full = 5
run_number runs.NoRoom = 6
run_number runs.NoMemory = 7
run_number runs.Over = 9
run_number runs.Never = 10

abbrev pub run_line : RunAnswer → List ℕ
run_line runs.Done = codes "done"
run_line runs.NotYet = codes "the operation waits for another"
run_line runs.BusyLock = codes "the reservation is with another operation"
run_line runs.BusyColumn = codes "the column is with another operation"
run_line runs.Nothing = codes "there is none"
run_line runs.Full = codes "no event slot is free"
run_line runs.NoRoom = codes "out is too short"
run_line runs.NoMemory = codes "out of memory"
run_line runs.Over = codes "the operation is not issued, is out or has ended"
run_line runs.Never = codes "the operation never comes"

-- the numbers of misuse, which are the same for texts, runs, events and tasks, and their lines
abbrev pub misuse_number : Misuse → ℕ
misuse_number misuses.Wrong = 11
misuse_number misuses.Empty = 12
misuse_number misuses.UsedUp = 13
misuse_number misuses.OtherRun = 14
misuse_number misuses.Range = 15
misuse_number misuses.Unperformed = 16
misuse_number misuses.WorkOut = 17
misuse_number misuses.InUse = 18
misuse_number misuses.Reported = 19
misuse_number misuses.Performed = 20
misuse_number misuses.Filled = 21
misuse_number misuses.OtherThread = 23
misuse_number misuses.Forgotten = 24
misuse_number misuses.NoBody = 25
misuse_number misuses.CallsLeft = 26
misuse_number misuses.InBody = 27
misuse_number misuses.Overlap = 28
misuse_number misuses.Meet = 29
misuse_number misuses.Needed = 30

abbrev pub misuse_line : Misuse → List ℕ
misuse_line misuses.Wrong = codes "the handle holds another kind of thing than the call asks for"
misuse_line misuses.Empty = codes "the handle is empty"
misuse_line misuses.UsedUp = codes "what the handle held is used up or freed"
misuse_line misuses.OtherRun = codes "it is of another run or table"
misuse_line misuses.Range = codes "there is no such operation, event or number"
misuse_line misuses.Unperformed = codes "the work was not performed"
misuse_line misuses.WorkOut = codes "work of the run is out"
misuse_line misuses.InUse = codes "another call works on the handle"
misuse_line misuses.Reported = codes "the run has given its report"
misuse_line misuses.Performed = codes "the work was performed before"
misuse_line misuses.Filled = codes "the handle that is to be filled holds something"
misuse_line misuses.OtherThread = codes "the closed table stays with the thread that closed it"
misuse_line misuses.Forgotten = codes "the loop has left an operation that comes"
misuse_line misuses.NoBody = codes "a call of the graph has a word that is not in the table"
misuse_line misuses.CallsLeft = codes "a call is left whose body was not run"
misuse_line misuses.InBody = codes "the body of a task calls the runtime that runs it"
misuse_line misuses.Overlap = codes "a byte of the datum is in another datum of the runtime"
misuse_line misuses.Meet = codes "two uses of the task are of one datum, but for different tiles"
misuse_line misuses.Needed = codes "a task that was inserted with the datum has not ended"

-- the line on a number that no answer has
abbrev pub unknown_line : List ℕ
unknown_line = codes "no answer has this number"

-- the line on a number of misuse, or on one that no answer has
abbrev pub IsMisuseMessage : ℕ → List ℕ → Type 0
IsMisuseMessage n line = ((a : Misuse) × (n ≡ misuse_number a) × (line ≡ misuse_line a)) ⊎ (((a : Misuse) → n ≢ misuse_number a) × (line ≡ unknown_line))

-- the line on a number that a call on texts, or one on runs, may answer
abbrev pub IsTextMessage : ℕ → List ℕ → Type 0
IsTextMessage n line = ((a : TextAnswer) × (n ≡ text_number a) × (line ≡ text_line a)) ⊎ (((a : TextAnswer) → n ≢ text_number a) × IsMisuseMessage n line)

abbrev pub IsRunMessage : ℕ → List ℕ → Type 0
IsRunMessage n line = ((a : RunAnswer) × (n ≡ run_number a) × (line ≡ run_line a)) ⊎ (((a : RunAnswer) → n ≢ run_number a) × IsMisuseMessage n line)
