-- What is refused, and the text that says why.
use Rattle.std.specs.Prelude.{◌≡◌, ℕ, ◌+◌, List, Some}
use Rattle.graph_terms.specs.Graph.{GraphValue}
use Rattle.graph_terms.specs.declared.why.Why.{Why}
use Rattle.graph_reader.specs.FirstFault.{FirstFault}
use Rattle.race_check.specs.declared.checked.CheckRefusal.{CheckRefusal}
use Rattle.race_check.specs.Refusal.{IsRefusal}
use Rattle.realm_audit.specs.declared.refusal.AuditRefusal.{AuditRefusal}
use Rattle.realm_audit.specs.declared.reading.TraceRefusal.TheVariants.{Line}
use Rattle.realm_audit.specs.Reading as trace
use Rattle.realm_audit.specs.Lawful as audit
use Rattle.graph_answers.specs.declared.status.Status.{Status}
use Rattle.graph_answers.specs.declared.status.Status.TheVariants.{Unread, Unfit}
use Rattle.graph_answers.specs.Texts.{unread_text, unfit_text, trace_refused_text, unlawful_text}

-- the bytes are the text of no graph: the line of this number is the first that is refused, for this reason
pub record IsRefused (bytes out : List ℕ) : Type 0 where
  pub number : ℕ
  pub why : Why
  pub fault : FirstFault bytes number why
  pub says : out ≡ unread_text number why

-- and the status that goes with it
abbrev pub Refuses : List ℕ → Status → List ℕ → Type 0
Refuses bytes Unread out = IsRefused bytes out
Refuses bytes _ out = ⊥

-- a rule that the graph breaks, with the least lines at which it does and after rules that hold
pub record IsUnfit (g : GraphValue) (out : List ℕ) : Type 0 where
  pub why : CheckRefusal
  pub refused : IsRefusal g why
  pub says : unfit_text g why ≡ Some out

-- and the status that goes with it
abbrev pub Rejects : GraphValue → Status → List ℕ → Type 0
Rejects g Unfit out = IsUnfit g out
Rejects g _ out = ⊥

-- the bytes behind so many lines, those of the text of a graph, are the text of no trace of it: the line of this number is the first with which none begins, counted with those lines
pub record IsNoTrace (g : GraphValue) (lines : ℕ) (bytes out : List ℕ) : Type 0 where
  pub number : ℕ
  pub refused : trace.IsRefusal g bytes (Line number)
  pub says : out ≡ trace_refused_text (lines + number)

-- a fault of a trace that is not lawful, which no fault comes before
pub record IsUnlawful (g : GraphValue) (trace out : List ℕ) : Type 0 where
  pub why : AuditRefusal
  pub refused : audit.IsRefusal g trace why
  pub says : unlawful_text g trace why ≡ Some out
