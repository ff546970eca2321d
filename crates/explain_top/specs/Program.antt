-- How the program ends.
use Rattle.std.specs.Prelude.{◌≡◌, ℕ, ◌<◌, Bool, List, length}
use Rattle.graph_words.specs.Limits.{text_limit}
use Rattle.realm_io.specs.SinkState.{SinkState}
use Rattle.program_io.specs.Delivered as program
use Rattle.program_io.specs.Delivered.{too_long_text}
use Rattle.explain_top.specs.Flows.{IsInputAnswer}
use Rattle.explain_top.specs.declared.answer.Verdict.{Verdict}
use Rattle.explain_top.specs.declared.answer.Verdict.TheVariants as verdict
use Rattle.explain_top.specs.declared.program.Status.{Status}
use Rattle.explain_top.specs.declared.program.Status.TheVariants.{Accepted, Usage, Unread, Unfit, ReadFault, WriteFault, NoMemory, TooLong}

-- the exit statuses, which are those of `realm`
abbrev pub exit_number : Status → ℕ
exit_number Accepted = 0
exit_number Usage = 2
exit_number Unread = 3
exit_number Unfit = 4
exit_number ReadFault = 5
exit_number WriteFault = 6
exit_number NoMemory = 7
exit_number TooLong = 9

abbrev pub status_of : Verdict → Status
status_of verdict.Accepted = Accepted
status_of verdict.Unfit = Unfit
status_of verdict.Unread = Unread

-- the answer to an input of these bytes, and the text that goes with it
abbrev pub Answers : Bool → Bool → List ℕ → Status → List ℕ → Type 0
Answers ends all bytes Accepted out = IsInputAnswer ends all bytes verdict.Accepted out
Answers ends all bytes Unfit out = IsInputAnswer ends all bytes verdict.Unfit out
Answers ends all bytes Unread out = IsInputAnswer ends all bytes verdict.Unread out
Answers ends all bytes TooLong out = (text_limit bytes < length bytes) × (out ≡ too_long_text)
Answers ends all bytes _ out = ⊥

-- a text that goes with a status was delivered, or a fault broke it off
abbrev pub Delivers : SinkState → SinkState → Status → Status → List ℕ → Type 0
Delivers old new wanted result out = program.Delivers WriteFault old new wanted result out

-- an input of these bytes was answered, unless memory ran out
abbrev pub IsAnswered : Bool → Bool → List ℕ → SinkState → SinkState → Status → Type 0
IsAnswered ends all bytes old new result = program.IsAnswered WriteFault NoMemory (Answers ends all bytes) old new result
