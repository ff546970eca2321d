-- What follows for the answers to a request, whatever its action.
use Rattle.std.proofs.Common.{◌≡◌, ◌≢◌, ℕ, ◌<◌, ◌≤◌, List, [], length, refl, sym, ◌∙◌, ap, subst, inl, inr}
use Rattle.std.specs.Prelude.{true, false, Option, Some, ◌⊎◌, IfSome}
use Rattle.std.proofs.lemmas.Bool.{true≢false, false≢true}
use Rattle.std.specs.Io.KnownBytes.{Consumes, IsAtEnd}
use Rattle.realm_io.specs.SinkState.{SinkState}
use Rattle.realm_io.specs.Counts.{Rose}
use Rattle.command_line.specs.declared.request.Action.{Action}
use Rattle.command_line.specs.declared.request.Action.TheVariants.{Run, Check, Eval, Make, Audit, Timeline, Upgrade, Session}
use Rattle.command_line.specs.declared.request.Request.{Request}
use Rattle.graph_terms.specs.Graph.{GraphValue}
use Rattle.graph_meaning.specs.Laws.{OneNeed}
use Rattle.graph_reader.specs.Laws.{OneReading}
use Rattle.graph_words.specs.Limits.{text_limit}
use Rattle.graph_words.specs.Text.{GraphText}
use Rattle.graph_gen.specs.MadeGraph.{made_graph}
use Rattle.realm_audit.specs.Parts.{graph_bytes}
use Rattle.graph_terms.specs.declared.limits.TheConstants.{MAX_TEXT}
use Rattle.session_text.specs.Laws.{OneSession}
use Rattle.session_run.specs.Laws.{OneEnd}
use Rattle.session_run.specs.Linked.{LinkedGraph}
use Rattle.realm_audit.specs.Reading.{TextTells}
use Rattle.graph_answers.specs.declared.status.Status.{Status}
use Rattle.graph_answers.specs.declared.status.Status.TheVariants.{Done, ReadFault, WriteFault, NoMemory, TooLong}
use Rattle.graph_answers.specs.Status.{is_refusal}
use Rattle.program_io.specs.Delivered.{too_long_text, Delivered, BrokenOff}
use Rattle.graph_answers.specs.Delivered.{Delivers, IsAnswered}
use Rattle.graph_answers.specs.AuditAnswer.{audit_limit, AuditAnswers, IsAudited}
use Rattle.realm_top.specs.Answer.{Purpose, Checking, Auditing, Upgrading, InSession, Making, purpose, is_checking, is_auditing, is_upgrading, is_in_session, is_reading, limit_for, reads, checks, audits, upgrades, runs_session, input_limit, MadeAnswers, IsInputFor, IsInput, AnswersFor, Answers, AsksFor, AsksStatus, Answered, AnsweredBy}
use Rattle.realm_top.specs.Laws.{AnswersAreOne, PathsTellEnds}
use Rattle.graph_answers.specs.Answer.{most_slots, made_says, EndsByPaths, InputAnswers, IsDone}
use Rattle.graph_answers.specs.UpgradeAnswer.{UpgradeAnswers, IsUpgraded}
use Rattle.realm_top.specs.SessionAnswer.{SessionAnswers, IsSessionDone}
use Rattle.graph_answers.proofs.UpgradeAnswers.{one_upgrade}
use Rattle.realm_top.proofs.SessionAnswers.{one_session}
use Rattle.program_io.proofs.Public.{all_read, answered_as, cut_off_as, complete_as, answered_by}
use Rattle.realm_top.proofs.Answered.{one_answer, if_some, refused_as}
use Rattle.graph_answers.proofs.AuditAnswers.{one_audit}
use Rattle.realm_top.proofs.MadeRequests.{made_one, not_made, done_says}

-- BY WHAT AN ACTION HAS TO DO WITH: its answers are those to a graph alone, those of an audit, those of an upgrade, those of a session, or those to a graph that is made
pub checked_answers : (w : Purpose) (request : Request) (bytes : List ℕ) → is_checking w ≡ true → (status : Status) (out : List ℕ) → AnswersFor w request bytes status out → InputAnswers request bytes status out
checked_answers Checking request bytes y status out a = a
checked_answers w request bytes y status out a = absurd (false≢true y)

pub answers_checked : (w : Purpose) (request : Request) (bytes : List ℕ) → is_checking w ≡ true → (status : Status) (out : List ℕ) → InputAnswers request bytes status out → AnswersFor w request bytes status out
answers_checked Checking request bytes y status out a = a
answers_checked w request bytes y status out a = absurd (false≢true y)

audit_answers : (w : Purpose) (request : Request) (bytes : List ℕ) → is_auditing w ≡ true → (status : Status) (out : List ℕ) → AnswersFor w request bytes status out → AuditAnswers bytes status out
audit_answers Auditing request bytes y status out a = a
audit_answers w request bytes y status out a = absurd (false≢true y)

pub answers_audit : (w : Purpose) (request : Request) (bytes : List ℕ) → is_auditing w ≡ true → (status : Status) (out : List ℕ) → AuditAnswers bytes status out → AnswersFor w request bytes status out
answers_audit Auditing request bytes y status out a = a
answers_audit w request bytes y status out a = absurd (false≢true y)

upgrade_answers : (w : Purpose) (request : Request) (bytes : List ℕ) → is_upgrading w ≡ true → (status : Status) (out : List ℕ) → AnswersFor w request bytes status out → UpgradeAnswers request.to_three bytes status out
upgrade_answers Upgrading request bytes y status out a = a
upgrade_answers w request bytes y status out a = absurd (false≢true y)

pub answers_upgrade : (w : Purpose) (request : Request) (bytes : List ℕ) → is_upgrading w ≡ true → (status : Status) (out : List ℕ) → UpgradeAnswers request.to_three bytes status out → AnswersFor w request bytes status out
answers_upgrade Upgrading request bytes y status out a = a
answers_upgrade w request bytes y status out a = absurd (false≢true y)

session_answers : (w : Purpose) (request : Request) (bytes : List ℕ) → is_in_session w ≡ true → (status : Status) (out : List ℕ) → AnswersFor w request bytes status out → SessionAnswers (most_slots request.slots) bytes status out
session_answers InSession request bytes y status out a = a
session_answers w request bytes y status out a = absurd (false≢true y)

pub answers_session : (w : Purpose) (request : Request) (bytes : List ℕ) → is_in_session w ≡ true → (status : Status) (out : List ℕ) → SessionAnswers (most_slots request.slots) bytes status out → AnswersFor w request bytes status out
answers_session InSession request bytes y status out a = a
answers_session w request bytes y status out a = absurd (false≢true y)

answers_made : (w : Purpose) (request : Request) (bytes : List ℕ) → is_reading w ≡ false → (status : Status) (out : List ℕ) → MadeAnswers request.text request (made_graph request.seed request.size) status out → AnswersFor w request bytes status out
answers_made Making request bytes r status out a = a
answers_made w request bytes r status out a = absurd (true≢false r)

made_answers : (w : Purpose) (request : Request) (bytes : List ℕ) → is_reading w ≡ false → (status : Status) (out : List ℕ) → AnswersFor w request bytes status out → MadeAnswers request.text request (made_graph request.seed request.size) status out
made_answers Making request bytes r status out a = a
made_answers w request bytes r status out a = absurd (true≢false r)

-- which of these read
checking_reads : (w : Purpose) → is_checking w ≡ true → is_reading w ≡ true
checking_reads Checking y = refl
checking_reads w y = absurd (false≢true y)

auditing_reads : (w : Purpose) → is_auditing w ≡ true → is_reading w ≡ true
auditing_reads Auditing y = refl
auditing_reads w y = absurd (false≢true y)

upgrading_reads : (w : Purpose) → is_upgrading w ≡ true → is_reading w ≡ true
upgrading_reads Upgrading y = refl
upgrading_reads w y = absurd (false≢true y)

session_reads : (w : Purpose) → is_in_session w ≡ true → is_reading w ≡ true
session_reads InSession y = refl
session_reads w y = absurd (false≢true y)

-- what is worked on
read_input : (w : Purpose) (left : Option (List ℕ)) (bytes : List ℕ) → is_reading w ≡ true → left ≡ Some bytes → IsInputFor w left bytes
read_input Making left bytes r h = absurd (false≢true r)
read_input w left bytes r h = h

made_input : (w : Purpose) (left : Option (List ℕ)) → is_reading w ≡ false → IsInputFor w left []
made_input Making left r = refl
made_input w left r = absurd (true≢false r)

-- what it reads
told : (w : Purpose) (left : Option (List ℕ)) (bytes : List ℕ) → is_reading w ≡ true → IsInputFor w left bytes → left ≡ Some bytes
told Making left bytes r h = absurd (false≢true r)
told w left bytes r h = h

-- and how much of it at most
pub limit_checked : (w : Purpose) (bytes : List ℕ) → is_checking w ≡ true → limit_for w bytes ≡ text_limit bytes
limit_checked Checking bytes y = refl
limit_checked w bytes y = absurd (false≢true y)

pub limit_audit : (w : Purpose) (bytes : List ℕ) → is_auditing w ≡ true → limit_for w bytes ≡ audit_limit bytes
limit_audit Auditing bytes y = refl
limit_audit w bytes y = absurd (false≢true y)

pub limit_upgrade : (w : Purpose) (bytes : List ℕ) → is_upgrading w ≡ true → limit_for w bytes ≡ text_limit bytes
limit_upgrade Upgrading bytes y = refl
limit_upgrade w bytes y = absurd (false≢true y)

pub limit_session : (w : Purpose) (bytes : List ℕ) → is_in_session w ≡ true → limit_for w bytes ≡ 1048576
limit_session InSession bytes y = refl
limit_session w bytes y = absurd (false≢true y)

-- an input that is no session and has no trace behind it is as long as a text of a graph
pub limit_else : (action : Action) (bytes : List ℕ) → action ≢ Audit → action ≢ Session → input_limit action bytes ≡ text_limit bytes
limit_else Audit bytes a s = absurd (a refl)
limit_else Session bytes a s = absurd (s refl)
limit_else Run bytes a s = refl
limit_else Check bytes a s = refl
limit_else Eval bytes a s = refl
limit_else Timeline bytes a s = refl
limit_else Upgrade bytes a s = refl
limit_else Make bytes a s = refl

-- what is made is none of these
pub made_else : (w : Purpose) → is_reading w ≡ false → (is_auditing w ≡ false) × (is_upgrading w ≡ false) × (is_in_session w ≡ false)
made_else Making r = (refl, refl, refl)
made_else w r = absurd (true≢false r)

-- what is read and is none of these is checked
pub checked_else : (w : Purpose) → is_reading w ≡ true → is_auditing w ≡ false → is_upgrading w ≡ false → is_in_session w ≡ false → is_checking w ≡ true
checked_else Checking r a u s = refl
checked_else Auditing r a u s = absurd (true≢false a)
checked_else Upgrading r a u s = absurd (true≢false u)
checked_else InSession r a u s = absurd (true≢false s)
checked_else Making r a u s = absurd (false≢true r)

long_by : (w : Purpose) (request : Request) (bytes : List ℕ) → is_reading w ≡ true → limit_for w bytes < length bytes → AnswersFor w request bytes TooLong too_long_text
long_by Making request bytes r l = absurd (false≢true r)
long_by w request bytes r l = (l, refl)

-- no answer is a fault of writing
unfaulted_by : (w : Purpose) (request : Request) (bytes out : List ℕ) → AnswersFor w request bytes WriteFault out → ⊥
unfaulted_by Checking request bytes out a = ((a.1).2).1
unfaulted_by Auditing request bytes out a = ((((a.1).2).1).2)
unfaulted_by Upgrading request bytes out a = a
unfaulted_by InSession request bytes out a = a.2
unfaulted_by Making request bytes out a = not_made request.text request (made_graph request.seed request.size) WriteFault out (λ x. cc) (λ x. cc) a

-- the answer is the one that is asked for
module _ (needs : OneNeed) (one : (xs : List ℕ) → OneReading xs) (tells : TextTells) (sessions : (xs : List ℕ) → length xs ≤ MAX_TEXT → OneSession xs) (ends : (slots : ℕ) (gs : List LinkedGraph) → OneEnd slots gs) where
  pub one_by : (w : Purpose) (request : Request) (bytes : List ℕ) (s t : Status) (out : List ℕ) → AnswersFor w request bytes s out → AsksFor w request bytes t → s ≡ t
  one_by Checking request bytes s t out a b = one_answer request needs bytes (one bytes) s t out a b
  one_by Auditing request bytes s t out a b = one_audit tells bytes (one (graph_bytes bytes)) s t out a b
  one_by Upgrading request bytes s t out a b = one_upgrade request.to_three bytes (one bytes) s t out a b
  one_by InSession request bytes s t out a b = one_session (most_slots request.slots) bytes (sessions bytes) (ends (most_slots request.slots)) s t out a b
  one_by Making request bytes s t out a b = made_one request.text request (made_graph request.seed request.size) needs s t out a b

-- A REQUEST THAT WAS ANSWERED by its input, where no read failed: what was answered by the status
module _ (request : Request) (left : Option (List ℕ)) (s t : SinkState) (result : Status) (all : (result ≡ ReadFault) ⊎ AnsweredBy request left s t result) where
  abbrev aim : Purpose
  aim = purpose request.action

  no_read_fault : (status : Status) → result ≡ status → status ≢ ReadFault → AnsweredBy request left s t result
  no_read_fault status e not = elim all [ inl fault ↦ absurd (not (sym e ∙ fault)) | inr answered ↦ answered ]

  done_with : (xs : List ℕ) → is_reading aim ≡ true → left ≡ Some xs → result ≡ Done → (out : List ℕ) × Answers request xs Done out × Delivered s t out
  done_with xs r h e = answered_as (Answers request xs) s t result Done (no_read_fault Done e (λ x. cc) xs (read_input aim left xs r h)) e (λ x. cc) (λ x. cc)

  pub request_refused : is_refusal result ≡ true → (xs : List ℕ) → IsInput request.action left xs → (out : List ℕ) × Answers request xs result out × Delivered s t out
  request_refused e xs i = refused_as (Answers request xs) s t result (no_read_fault result refl (λ fault. true≢false (sym e ∙ ap is_refusal fault)) xs i) e

  pub request_cut_off : result ≡ WriteFault → (xs : List ℕ) → IsInput request.action left xs → (status : Status) × (out : List ℕ) × Answers request xs status out × BrokenOff s t out
  request_cut_off e xs i = cut_off_as {write_fault = WriteFault} {no_memory = NoMemory} (Answers request xs) s t result (λ x. cc) (unfaulted_by aim request xs) (no_read_fault WriteFault e (λ x. cc) xs i) e

  pub request_complete : AnswersAreOne → (result ≡ ReadFault → ⊥) → (q : Request) → request ≡ q → (xs : List ℕ) (status : Status) → IsInput q.action left xs → AsksStatus q xs status → (Rose s.faults t.faults → ⊥) → (result ≡ status) ⊎ (result ≡ NoMemory)
  request_complete one quiet q same xs status i a silent =
      let input = subst (λ (x : Request). IsInput x.action left xs) (sym same) i in
      let asks = subst (λ (x : Request). AsksStatus x xs status) (sym same) a in
      complete_as (Answers request xs) s t result status (λ wanted out b. one request xs wanted status out b asks) (no_read_fault result refl quiet xs input) silent

  pub request_done : checks request.action ≡ true → result ≡ Done → IfSome left (λ xs. IsDone request xs s t)
  request_done y e = if_some left (λ xs. IsDone request xs s t) (λ xs h.
      let d = done_with xs (checking_reads aim y) h e in
      let a = (checked_answers aim request xs y Done d.0 d.1).1 in
      let w = (a.2).1 in
      record { graph = a.0; text = a.1; accepted = (a.2).0; need = w.0; is_need = w.1; enough = w.2; out = d.0; says = w.3; delivered = d.2 })

  pub request_paths : PathsTellEnds → checks request.action ≡ true → result ≡ Done → IfSome left (λ xs. (g : GraphValue) → GraphText xs g → EndsByPaths g)
  request_paths tell y e = if_some left (λ xs. (g : GraphValue) → GraphText xs g → EndsByPaths g) (λ xs h.
      let d = done_with xs (checking_reads aim y) h e in
      let a = (checked_answers aim request xs y Done d.0 d.1).1 in
      tell xs a.0 a.1 (a.2).0)

  pub request_audited : audits request.action ≡ true → result ≡ Done → IfSome left (λ xs. IsAudited xs s t)
  request_audited y e = if_some left (λ xs. IsAudited xs s t) (λ xs h.
      let d = done_with xs (auditing_reads aim y) h e in
      let a = (audit_answers aim request xs y Done d.0 d.1).1 in
      let w = (a.2).1 in
      record { graph = a.0; text = a.1; accepted = (a.2).0; trace = w.0; has_trace = w.1; lawful = (w.2).0; delivered = subst (Delivered s t) (w.2).1 d.2 })

  pub request_upgraded : upgrades request.action ≡ true → result ≡ Done → IfSome left (λ xs. IsUpgraded request.to_three xs s t)
  request_upgraded y e = if_some left (λ xs. IsUpgraded request.to_three xs s t) (λ xs h.
      let d = done_with xs (upgrading_reads aim y) h e in
      let a = (upgrade_answers aim request xs y Done d.0 d.1).1 in
      record { graph = a.0; text_is = a.1; delivered = subst (Delivered s t) a.2 d.2 })

  pub request_session : runs_session request.action ≡ true → result ≡ Done → IfSome left (λ xs. IsSessionDone (most_slots request.slots) xs s t)
  request_session y e = if_some left (λ xs. IsSessionDone (most_slots request.slots) xs s t) (λ xs h.
      let d = done_with xs (session_reads aim y) h e in
      let a = session_answers aim request xs y Done d.0 d.1 in
      record { entries = a.0; text = a.1; ran = a.2.0; delivered = subst (Delivered s t) a.2.1 d.2 })

  pub request_made : reads request.action ≡ false → result ≡ Done → Delivered s t (made_says request.text (made_graph request.seed request.size))
  request_made r e =
      let d = answered_as (Answers request []) s t result Done (no_read_fault Done e (λ x. cc) [] (made_input aim left r)) e (λ x. cc) (λ x. cc) in
      let a = made_answers aim request [] r Done d.0 d.1 in
      subst (Delivered s t) (done_says request.text request (made_graph request.seed request.size) d.0 r a) d.2

-- an input that was read to its end, one that is too long, and a graph that was made
pub read_answered : (request : Request) (old new : Option (List ℕ)) (bs b : List ℕ) (s t : SinkState) (result : Status) → Consumes old new bs → IsAtEnd new → b ≡ bs → Answered request b s t result → (xs : List ℕ) → old ≡ Some xs → Answered request xs s t result
read_answered request old new bs b s t result c e same a xs h = subst (λ x. Answered request x s t result) (same ∙ sym (all_read old new bs c e xs h)) a

pub answered_input : (request : Request) → reads request.action ≡ true → (old new : Option (List ℕ)) (bs b : List ℕ) (s t : SinkState) (result : Status) → Consumes old new bs → IsAtEnd new → b ≡ bs → Answered request b s t result → AnsweredBy request old s t result
answered_input request r old new bs b s t result c e same a xs i = read_answered request old new bs b s t result c e same a xs (told (purpose request.action) old xs r i)

pub answered_long : (request : Request) → reads request.action ≡ true → (old : Option (List ℕ)) (s t : SinkState) (result : Status) → ((xs : List ℕ) → old ≡ Some xs → input_limit request.action xs < length xs) → Delivers s t TooLong result too_long_text → AnsweredBy request old s t result
answered_long request r old s t result long d xs i = inr (TooLong, too_long_text, long_by (purpose request.action) request xs r (long xs (told (purpose request.action) old xs r i)), d)

pub answered_made : (request : Request) → reads request.action ≡ false → (old : Option (List ℕ)) (s t : SinkState) (result : Status) → IsAnswered (MadeAnswers request.text request (made_graph request.seed request.size)) s t result → AnsweredBy request old s t result
answered_made request r old s t result a xs i = answered_by (MadeAnswers request.text request (made_graph request.seed request.size)) (Answers request xs) s t result (answers_made (purpose request.action) request xs r) a
