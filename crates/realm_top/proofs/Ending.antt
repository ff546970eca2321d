-- With which statuses an answer may end, by what the words ask for.
use Rattle.std.proofs.Common.{◌≡◌, ℕ, List, refl, sym, ◌∙◌, ap, inl, inr}
use Rattle.std.specs.Prelude.{Bool, true, false, Option}
use Rattle.std.proofs.lemmas.Bool.{true≢false}
use Rattle.graph_terms.specs.Graph.{GraphValue}
use Rattle.command_line.specs.declared.request.Request.{Request}
use Rattle.realm_io.specs.SinkState.{SinkState}
use Rattle.graph_answers.specs.declared.status.Status.{Status}
use Rattle.graph_answers.specs.declared.status.Status.TheVariants.{Done, Usage, Unfit, WriteFault, NoMemory, Slots, Unlawful}
use Rattle.graph_answers.specs.Delivered.{IsAnswered}
use Rattle.realm_top.specs.Answer.{Purpose, Checking, Auditing, Upgrading, InSession, Making, purpose, is_reading, may_end, may_end_for, MadeAnswers, Answers, AnswersFor}
use Rattle.graph_answers.specs.Answer.{runs, is_short, is_short_by}

-- too few slots are found of a run alone
short_by : (running : Bool) (slots : Option ℕ) (need : ℕ) → is_short_by running slots need ≡ true → running ≡ true
short_by true slots need h = refl
short_by false slots need h = absurd (true≢false (sym h))

short_runs : (request : Request) (need : ℕ) → is_short request need ≡ true → runs request.action request.text ≡ true
short_runs request need h = short_by (runs request.action request.text) request.slots need h

ends_made : (texted : Bool) (request : Request) (g : GraphValue) (status : Status) (out : List ℕ) → MadeAnswers texted request g status out → may_end_for Making (runs request.action request.text) status ≡ true
ends_made texted request g Done out a = refl
ends_made texted request g WriteFault out a = refl
ends_made texted request g NoMemory out a = refl
ends_made true request g _ out a = absurd a
ends_made false request g Slots out a = short_runs request a.0 a.2
ends_made false request g _ out a = absurd a

-- an answer for this ends so
ends_for : (aim : Purpose) (request : Request) (bytes : List ℕ) (status : Status) (out : List ℕ) → AnswersFor aim request bytes status out → may_end_for aim (runs request.action request.text) status ≡ true
ends_for Checking request bytes Slots out a = short_runs request a.1.2.1.0 a.1.2.1.2
ends_for Checking request bytes Usage out a = absurd a.1.2.1
ends_for Checking request bytes Unlawful out a = absurd a.1.2.1
ends_for Checking request bytes _ out a = refl
ends_for Auditing request bytes Slots out a = absurd a.1.2.1.2
ends_for Auditing request bytes Usage out a = absurd a.1.2.1.2
ends_for Auditing request bytes _ out a = refl
ends_for Upgrading request bytes Slots out a = absurd a
ends_for Upgrading request bytes Usage out a = absurd a
ends_for Upgrading request bytes Unfit out a = absurd a
ends_for Upgrading request bytes Unlawful out a = absurd a
ends_for Upgrading request bytes _ out a = refl
ends_for InSession request bytes Usage out a = absurd a.2
ends_for InSession request bytes Unlawful out a = absurd a.2
ends_for InSession request bytes _ out a = refl
ends_for Making request bytes status out a = ends_made request.text request _ status out a

-- and so does what was delivered of it
ends_answered : (Said : Status → List ℕ → Type 0) (wanted : Status → Bool) → ((status : Status) (out : List ℕ) → Said status out → wanted status ≡ true) → wanted NoMemory ≡ true → wanted WriteFault ≡ true → (s t : SinkState) (result : Status) → IsAnswered Said s t result → wanted result ≡ true
ends_answered Said wanted h memory fault s t result a = elim a [
  | inl e ↦ ap wanted e ∙ memory
  | inr (status, out, said, d) ↦ elim d [
    | inl x ↦ ap wanted x.0 ∙ h status out said
    | inr x ↦ ap wanted x.0 ∙ fault
  ]
]

pub answered_ends : (request : Request) (bytes : List ℕ) (s t : SinkState) (result : Status) → IsAnswered (Answers request bytes) s t result → may_end request result ≡ true
answered_ends request bytes s t result a = ends_answered (Answers request bytes) (may_end request) (ends_for (purpose request.action) request bytes) refl refl s t result a

-- where a graph is made
made_for : (aim : Purpose) (running : Bool) (status : Status) → is_reading aim ≡ false → may_end_for Making running status ≡ true → may_end_for aim running status ≡ true
made_for Making running status h e = e
made_for Checking running status h e = absurd (true≢false h)
made_for Auditing running status h e = absurd (true≢false h)
made_for Upgrading running status h e = absurd (true≢false h)
made_for InSession running status h e = absurd (true≢false h)

pub made_ends : (request : Request) (g : GraphValue) (s t : SinkState) (result : Status) → is_reading (purpose request.action) ≡ false → IsAnswered (MadeAnswers request.text request g) s t result → may_end request result ≡ true
made_ends request g s t result h a = made_for (purpose request.action) (runs request.action request.text) result h
    (ends_answered (MadeAnswers request.text request g) (may_end_for Making (runs request.action request.text)) (ends_made request.text request g) refl refl s t result a)
