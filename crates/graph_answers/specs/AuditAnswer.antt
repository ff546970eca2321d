-- What `audit` is to answer, and what it is to write. Its input is the text of a graph, and behind it that of a trace.
use Rattle.std.specs.Prelude.{◌≡◌, ℕ, ◌*◌, ◌<◌, ◌≤◌, List, length, ◌⊎◌}
use Rattle.graph_terms.specs.Graph.{GraphValue}
use Rattle.graph_meaning.specs.Rules.{Accepted}
use Rattle.graph_meaning.specs.Trace.{IsLawful}
use Rattle.graph_words.specs.Limits.{text_limit}
use Rattle.graph_words.specs.Text.{GraphText}
use Rattle.realm_audit.specs.Text.{trace_text}
use Rattle.realm_audit.specs.Parts.{newlines, graph_bytes, trace_bytes}
use Rattle.realm_audit.specs.Reading.{AreLines, IsNoText}
use Rattle.realm_io.specs.SinkState.{SinkState}
use Rattle.graph_answers.specs.declared.status.Status.{Status}
use Rattle.graph_answers.specs.declared.status.Status.TheVariants.{Done, Unread, Unfit, TooLong, Unlawful}
use Rattle.program_io.specs.Delivered.{Delivered, too_long_text}
use Rattle.graph_answers.specs.Refused.{IsRefused, IsUnfit, IsNoTrace, IsUnlawful}
use Rattle.graph_answers.specs.Texts.{lawful_text}

-- the most bytes that the input may have: twice as many as a graph's text which begins so
abbrev pub audit_limit : List ℕ → ℕ
audit_limit bytes = 2 * text_limit bytes

-- the bytes are the text of this trace of the graph
pub record HasTrace (g : GraphValue) (bytes trace : List ℕ) : Type 0 where
  pub lines : AreLines g trace
  pub text : trace_text g trace ≡ bytes

-- what becomes of a trace of an accepted graph, and the text that goes with it
abbrev pub LawfulAnswers : GraphValue → List ℕ → Status → List ℕ → Type 0
LawfulAnswers g trace Done out = IsLawful g trace × (out ≡ lawful_text)
LawfulAnswers g trace Unlawful out = (IsLawful g trace → ⊥) × IsUnlawful g trace out
LawfulAnswers g trace _ out = ⊥

-- what becomes of the bytes behind the text of an accepted graph, which has so many lines, and the text that goes with it
abbrev pub TraceAnswers : GraphValue → ℕ → List ℕ → Status → List ℕ → Type 0
TraceAnswers g lines bytes Unread out = IsNoTrace g lines bytes out
TraceAnswers g lines bytes status out = (trace : List ℕ) × HasTrace g bytes trace × LawfulAnswers g trace status out

-- what becomes of a graph that was read and of the bytes behind it, and the text that goes with it
abbrev pub PartsAnswer : GraphValue → ℕ → List ℕ → Status → List ℕ → Type 0
PartsAnswer g lines bytes Unfit out = IsUnfit g out
PartsAnswer g lines bytes status out = Accepted g × TraceAnswers g lines bytes status out

-- the answer to an input of these bytes, and the text that goes with it
abbrev pub ShortAnswers : List ℕ → Status → List ℕ → Type 0
ShortAnswers bytes Unread out = IsRefused (graph_bytes bytes) out ⊎ ((g : GraphValue) × GraphText (graph_bytes bytes) g × PartsAnswer g (newlines (graph_bytes bytes)) (trace_bytes bytes) Unread out)
ShortAnswers bytes status out = (g : GraphValue) × GraphText (graph_bytes bytes) g × PartsAnswer g (newlines (graph_bytes bytes)) (trace_bytes bytes) status out

abbrev pub AuditAnswers : List ℕ → Status → List ℕ → Type 0
AuditAnswers bytes TooLong out = (audit_limit bytes < length bytes) × (out ≡ too_long_text)
AuditAnswers bytes status out = (length bytes ≤ audit_limit bytes) × ShortAnswers bytes status out

-- the status that the bytes behind an accepted graph ask for
abbrev pub TraceAsks : GraphValue → List ℕ → Status → Type 0
TraceAsks g bytes Done = (trace : List ℕ) × HasTrace g bytes trace × IsLawful g trace
TraceAsks g bytes Unread = IsNoText g bytes
TraceAsks g bytes Unlawful = (trace : List ℕ) × HasTrace g bytes trace × (IsLawful g trace → ⊥)
TraceAsks g bytes _ = ⊥

-- the status that a graph which was read and the bytes behind it ask for
abbrev pub PartsAsk : GraphValue → List ℕ → Status → Type 0
PartsAsk g bytes Unfit = Accepted g → ⊥
PartsAsk g bytes status = Accepted g × TraceAsks g bytes status

-- the status that an input of these bytes asks for
abbrev pub ShortAsks : List ℕ → Status → Type 0
ShortAsks bytes Unread = ((g : GraphValue) → GraphText (graph_bytes bytes) g → ⊥) ⊎ ((g : GraphValue) × GraphText (graph_bytes bytes) g × PartsAsk g (trace_bytes bytes) Unread)
ShortAsks bytes status = (g : GraphValue) × GraphText (graph_bytes bytes) g × PartsAsk g (trace_bytes bytes) status

abbrev pub AuditAsks : List ℕ → Status → Type 0
AuditAsks bytes TooLong = audit_limit bytes < length bytes
AuditAsks bytes status = (length bytes ≤ audit_limit bytes) × ShortAsks bytes status

-- an audit was done with these bytes: they are the text of an accepted graph, and behind it that of a lawful trace, and the word for that was written and flushed
pub record IsAudited (bytes : List ℕ) (old new : SinkState) : Type 0 where
  pub graph : GraphValue
  pub text : GraphText (graph_bytes bytes) graph
  pub accepted : Accepted graph
  pub trace : List ℕ
  pub has_trace : HasTrace graph (trace_bytes bytes) trace
  pub lawful : IsLawful graph trace
  pub delivered : Delivered old new lawful_text
