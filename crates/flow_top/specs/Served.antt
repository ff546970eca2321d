-- What becomes of the text that answers a flow.
use Rattle.std.specs.Prelude.{◌≡◌, ℕ, ◌<◌, ◌≤◌, ◌⊎◌, Bool, List, [], ◌∷◌, ◌++◌, length, codes, decimal}
use Rattle.realm_io.specs.SinkState.{SinkState}
use Rattle.program_io.specs.Delivered as program
use Rattle.program_io.specs.Delivered.{too_long_text}
use Rattle.graph_terms.specs.declared.limits.TheConstants.{MAX_TEXT}
use Rattle.graph_terms.specs.declared.format.Format.{Format}
use Rattle.graph_terms.specs.declared.why.Why.{Why}
use Rattle.graph_terms.specs.Spelling.{why_word}
use Rattle.flow_top.specs.Answer.{IsFlowAnswer, IsAnswerFault}
use Rattle.flow_top.specs.declared.FlowFault.TheVariants as fault
use Rattle.flow_top.specs.declared.status.FlowStatus.{FlowStatus}
use Rattle.flow_top.specs.declared.status.FlowStatus.TheVariants.{Done, Unread, ReadFault, WriteFault, NoMemory, TooLong}

-- the exit status of the program
abbrev pub exit_number : FlowStatus → ℕ
exit_number Done = 0
exit_number (Unread number why) = 3
exit_number ReadFault = 5
exit_number WriteFault = 6
exit_number NoMemory = 7
exit_number TooLong = 9

-- the line for a refusal
abbrev pub refused_text : ℕ → Why → List ℕ
refused_text number why = codes "refused line " ++ (decimal number ++ (codes " " ++ (why_word why ++ (10 ∷ []))))

-- the text that goes with a status
abbrev pub FlowAnswers : List ℕ → Bool → Format → FlowStatus → List ℕ → Type 0
FlowAnswers bytes commute format Done out = (length bytes ≤ MAX_TEXT) × IsFlowAnswer bytes commute format out
FlowAnswers bytes commute format (Unread number why) out = (length bytes ≤ MAX_TEXT) × IsAnswerFault bytes commute format (fault.Line number why) × (out ≡ refused_text number why)
FlowAnswers bytes commute format TooLong out = (MAX_TEXT < length bytes) × (out ≡ too_long_text)
FlowAnswers bytes commute format _ out = ⊥

-- a text that goes with a status was delivered, or a fault broke it off
abbrev pub Delivers : SinkState → SinkState → FlowStatus → FlowStatus → List ℕ → Type 0
Delivers old new wanted result out = program.Delivers WriteFault old new wanted result out

-- an answer was given for these bytes, unless memory ran out or a read failed
abbrev pub IsServed : List ℕ → Bool → Format → SinkState → SinkState → FlowStatus → Type 0
IsServed bytes commute format old new result = (result ≡ NoMemory) ⊎ ((result ≡ ReadFault) ⊎ ((wanted : FlowStatus) × (out : List ℕ) × FlowAnswers bytes commute format wanted out × Delivers old new wanted result out))
