-- What becomes of the text of a graph with that of a trace behind it.
use Rattle.std.specs.Prelude.{◌≡◌, ◌≢◌, ℕ, ◌+◌, List}
use Rattle.graph_terms.specs.Graph.{GraphValue}
use Rattle.graph_meaning.specs.Rules.{Accepted}
use Rattle.graph_meaning.specs.Trace.{IsLawful}
use Rattle.graph_words.specs.Text.{GraphText}
use Rattle.realm_audit.specs.Lawful.{IsRefusal, NamesLines}
use Rattle.realm_audit.specs.Parts.{newlines, graph_bytes, trace_bytes}
use Rattle.realm_audit.specs.Reading.{IsTraceFault, IsNoText}
use Rattle.realm_audit.specs.declared.refusal.AuditRefusal.{AuditRefusal}
use Rattle.realm_audit.specs.declared.refusal.AuditRefusal.TheVariants as fault
use Rattle.graph_answers.specs.AuditAnswer.{HasTrace}
use Rattle.graph_answers.specs.Status.{exit_number}
use Rattle.graph_answers.specs.declared.status.Status.TheVariants as status
use Rattle.c_answers.specs.Numbers.{nothing, verdict_of, no_trace, faulty}
use Rattle.c_answers.specs.Refusals.{status_of, IsCheckRefusal}
use Rattle.realm_c.specs.declared.audit.Audited.{Audited}
use Rattle.realm_c.specs.declared.audit.Audited.TheVariants.{Lawful, Refused, NoTrace, Unlawful}
use Rattle.c_answers.specs.declared.reading.Refusal.TheVariants.{NoMemory}
use Rattle.c_answers.specs.declared.verdict.Verdict.{Verdict}

-- the number of an answer, which is the exit status of the program for it, and what is told beside it
abbrev pub audit_status : Audited → ℕ
audit_status Lawful = exit_number status.Done
audit_status (Refused r) = status_of r
audit_status (NoTrace n) = exit_number status.Unread
audit_status (Unlawful why) = exit_number status.Unlawful

abbrev pub audit_verdict : Audited → Verdict
audit_verdict Lawful = nothing
audit_verdict (Refused r) = verdict_of r
audit_verdict (NoTrace n) = no_trace n
audit_verdict (Unlawful why) = faulty why

-- the trace has this fault, and none comes before it
pub record HasFault (g : GraphValue) (trace : List ℕ) (why : AuditRefusal) : Type 0 where
  pub no_memory : why ≢ fault.NoMemory
  pub refused : IsRefusal g trace why
  pub names : NamesLines g trace why
  pub unlawful : IsLawful g trace → ⊥

-- the bytes behind so many lines, those of the text of the graph, are the text of no trace; the line of this number, counted with those lines, is the first with which none begins
pub record HasNoTrace (g : GraphValue) (lines : ℕ) (bytes : List ℕ) (n : ℕ) : Type 0 where
  pub number : ℕ
  pub is_fault : IsTraceFault g bytes number
  pub no_text : IsNoText g bytes
  pub counted : n ≡ lines + number

-- what this says of a trace of an accepted graph; want of memory says nothing
abbrev pub TraceFound : GraphValue → List ℕ → Audited → Type 0
TraceFound g trace Lawful = IsLawful g trace
TraceFound g trace (Refused r) = r ≡ NoMemory
TraceFound g trace (NoTrace n) = ⊥
TraceFound g trace (Unlawful why) = HasFault g trace why

-- what this says of an accepted graph and the bytes behind its text, which has so many lines; want of memory says nothing
abbrev pub TraceSays : GraphValue → ℕ → List ℕ → Audited → Type 0
TraceSays g lines bytes Lawful = (trace : List ℕ) × HasTrace g bytes trace × IsLawful g trace
TraceSays g lines bytes (Refused r) = r ≡ NoMemory
TraceSays g lines bytes (NoTrace n) = HasNoTrace g lines bytes n
TraceSays g lines bytes (Unlawful why) = (trace : List ℕ) × HasTrace g bytes trace × HasFault g trace why

-- what this says of an input
abbrev pub AuditSays : List ℕ → Audited → Type 0
AuditSays bytes (Refused r) = IsCheckRefusal (graph_bytes bytes) r
AuditSays bytes a = (g : GraphValue) × GraphText (graph_bytes bytes) g × Accepted g × TraceSays g (newlines (graph_bytes bytes)) (trace_bytes bytes) a
