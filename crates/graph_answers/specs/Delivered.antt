-- What becomes of a text that goes with a status.
use Rattle.std.specs.Prelude.{ℕ, List}
use Rattle.realm_io.specs.SinkState.{SinkState}
use Rattle.program_io.specs.Delivered as program
use Rattle.graph_answers.specs.declared.status.Status.{Status}
use Rattle.graph_answers.specs.declared.status.Status.TheVariants.{WriteFault, NoMemory}

-- a text that goes with a status was delivered, or a fault broke it off
abbrev pub Delivers : SinkState → SinkState → Status → Status → List ℕ → Type 0
Delivers old new wanted result out = program.Delivers WriteFault old new wanted result out

-- one of these answers was given, each of them a status with its text, unless memory ran out
abbrev pub IsAnswered : (Status → List ℕ → Type 0) → SinkState → SinkState → Status → Type 0
IsAnswered Answers old new result = program.IsAnswered WriteFault NoMemory Answers old new result
