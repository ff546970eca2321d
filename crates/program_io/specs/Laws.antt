-- What follows from how a text was delivered, and from how an input was read.
use Rattle.std.specs.Prelude.{◌≡◌, ◌≢◌, ℕ, ◌+◌, ◌<◌, ◌⊎◌, List, [], length, Option, Some, IfSome}
use Rattle.std.specs.Io.KnownBytes.{Consumes, IsAtEnd}
use Rattle.realm_io.specs.SinkState.{SinkState}
use Rattle.realm_io.specs.Counts.{Rose}
use Rattle.realm_io.specs.Told.{Lost}
use Rattle.realm_io.specs.Written.{Wrote, Stopped}
use Rattle.program_io.specs.Delivered.{Delivered, BrokenOff, Delivers, IsAnswered}

-- a text that was written is delivered by a flush, or broken off by it
abbrev pub FlushDelivers : {S : Type 0} → S → Type 0
FlushDelivers {S} write_fault = (r s t : SinkState) (wanted result : S) (out : List ℕ) → Wrote r s out → Delivers write_fault s t wanted result [] → Delivers write_fault r t wanted result out

-- a text whose writing stopped is broken off
abbrev pub StoppedIsBrokenOff : Type 0
StoppedIsBrokenOff = (r s : SinkState) (out : List ℕ) → Stopped r s out → BrokenOff r s out

-- a status tells the answer that was delivered, where it is neither that of a fault nor that of want of memory
abbrev pub StatusTellsAnswer : {S : Type 0} → S → S → (S → List ℕ → Type 0) → Type 0
StatusTellsAnswer {S} write_fault no_memory A = (s t : SinkState) (result status : S) → IsAnswered write_fault no_memory A s t result
    → result ≡ status → status ≢ no_memory → status ≢ write_fault → (out : List ℕ) × A status out × Delivered s t out

-- the status of a fault, which goes with no answer, tells that an answer was broken off
abbrev pub FaultBreaksOffAnswer : {S : Type 0} → S → S → (S → List ℕ → Type 0) → Type 0
FaultBreaksOffAnswer {S} write_fault no_memory A = (s t : SinkState) (result : S) → no_memory ≢ write_fault → ((out : List ℕ) → A write_fault out → ⊥)
    → IsAnswered write_fault no_memory A s t result → result ≡ write_fault → (status : S) × (out : List ℕ) × A status out × BrokenOff s t out

-- without a fault the answer has this status, where each has, or memory ran out
abbrev pub OneStatusUnlessFault : {S : Type 0} → S → S → (S → List ℕ → Type 0) → Type 0
OneStatusUnlessFault {S} write_fault no_memory A = (s t : SinkState) (result status : S) → ((wanted : S) (out : List ℕ) → A wanted out → wanted ≡ status)
    → IsAnswered write_fault no_memory A s t result → (Rose s.faults t.faults → ⊥) → (result ≡ status) ⊎ (result ≡ no_memory)

-- answers of one kind are answers of another
abbrev pub AnswersAreAnswers : {S : Type 0} → S → S → (S → List ℕ → Type 0) → (S → List ℕ → Type 0) → Type 0
AnswersAreAnswers {S} write_fault no_memory A B = (s t : SinkState) (result : S) → ((wanted : S) (out : List ℕ) → A wanted out → B wanted out)
    → IsAnswered write_fault no_memory A s t result → IsAnswered write_fault no_memory B s t result

-- an input that was read to its end is all that was left
abbrev pub ReadIsAllLeft : Type 0
ReadIsAllLeft = (old new : Option (List ℕ)) (bytes : List ℕ) → Consumes old new bytes → IsAtEnd new → (left : List ℕ) → old ≡ Some left → left ≡ bytes

-- and what is so of it is so of what was left
abbrev pub SaidOfAllLeft : (List ℕ → Type 0) → Type 0
SaidOfAllLeft P = (old new : Option (List ℕ)) (bytes : List ℕ) → Consumes old new bytes → IsAtEnd new → P bytes → IfSome old P

-- where one byte more than so many is gone, more were left than so many
abbrev pub MoreWasLeft : Type 0
MoreWasLeft = (old new : Option (List ℕ)) (n : ℕ) → Lost old new (n + 1) → (left : List ℕ) → old ≡ Some left → n < length left
