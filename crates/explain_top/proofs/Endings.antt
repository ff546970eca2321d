-- How the program ends tells what became of the input.
use Rattle.std.proofs.Common.{◌≡◌, ℕ, ◌<◌, ◌≤◌, ◌⊎◌, inl, inr, Bool, List, length, refl, sym, subst, arith}
use Rattle.std.specs.Prelude.{Option, Some}
use Rattle.std.specs.Io.KnownBytes.{Consumes, IsAtEnd}
use Rattle.graph_terms.specs.Graph.{GraphValue}
use Rattle.graph_meaning.specs.Rules.{Accepted}
use Rattle.graph_reader.specs.Laws.{OneReading}
use Rattle.flow_top.specs.FlowText.{FlowText}
use Rattle.flow_top.proofs.Public.{unread_fault}
use Rattle.graph_words.specs.Limits.{text_limit}
use Rattle.graph_words.specs.Text.{GraphText}
use Rattle.realm_io.specs.Counts.{Rose}
use Rattle.realm_io.specs.SinkState.{SinkState}
use Rattle.program_io.specs.Delivered.{Delivered, BrokenOff, too_long_text}
use Rattle.program_io.proofs.Public.{all_read, answered_as, cut_off_as, complete_as}
use Rattle.explain_top.specs.Answer.{IsUnfitAnswer, IsUnreadAnswer}
use Rattle.explain_top.specs.Flows.{IsInputAnswer, FitsFormatOne}
use Rattle.explain_top.proofs.FlowFacts.{no_refused_flow, no_refusal}
use Rattle.explain_top.specs.declared.answer.Verdict.{Verdict}
use Rattle.explain_top.specs.declared.answer.Verdict.TheVariants as verdict
use Rattle.explain_top.specs.declared.program.Status.{Status}
use Rattle.explain_top.specs.declared.program.Status.TheVariants.{Accepted as Fine, Usage, Unread, Unfit, ReadFault, WriteFault, NoMemory, TooLong}
use Rattle.explain_top.specs.Program.{status_of, Delivers, Answers, IsAnswered}

-- the answer that goes with the status of a verdict
verdict_answers : (ends all : Bool) (bytes out : List ℕ) (v : Verdict) → IsInputAnswer ends all bytes v out → Answers ends all bytes (status_of v) out
verdict_answers ends all bytes out verdict.Accepted a = a
verdict_answers ends all bytes out verdict.Unfit a = a
verdict_answers ends all bytes out verdict.Unread a = a

-- it was delivered with that status
pub answered_with : (ends all : Bool) (bytes : List ℕ) (v : Verdict) (text shown : List ℕ) (s t : SinkState) (result status : Status) → IsInputAnswer ends all bytes v text → shown ≡ text → status ≡ status_of v
    → Delivers s t status result shown → IsAnswered ends all bytes s t result
answered_with ends all bytes v text shown s t result status a same is d =
    inr (status_of v, text, verdict_answers ends all bytes text v a, subst (λ w. Delivers s t w result text) is (subst (λ out. Delivers s t status result out) same d))

-- the text of an accepted graph is answered so
is_accepted : (ends all : Bool) (bytes : List ℕ) → OneReading bytes → length bytes ≤ text_limit bytes → (g : GraphValue) → GraphText bytes g → Accepted g → (status : Status) (out : List ℕ) → Answers ends all bytes status out → status ≡ Fine
is_accepted ends all bytes one short g t acc Fine out a = refl
is_accepted ends all bytes one short g t acc Unfit out (inl a) = absurd (let u : IsUnfitAnswer all bytes (a.1).whole = (a.1).answers in u.broken (subst Accepted (one.one_graph g u.graph t u.is_text) acc))
is_accepted ends all bytes one short g t acc Unfit out (inr a) = absurd a.answers
is_accepted ends all bytes one short g t acc Unread out (inl a) = absurd (let u : IsUnreadAnswer all bytes (a.1).whole = (a.1).answers in one.not_both (g, t) (u.number, u.why, unread_fault bytes u.number u.why u.above u.refused))
is_accepted ends all bytes one short g t acc Unread out (inr a) = absurd (no_refused_flow all bytes a.whole g t a.answers)
is_accepted ends all bytes one short g t acc TooLong out a = absurd (let l : text_limit bytes < length bytes = a.0 in omega (arith, short, l))
is_accepted ends all bytes one short g t acc _ out a = absurd a

-- and so is that of a flow whose graph fits format 1
is_accepted_flow : (ends all : Bool) (bytes : List ℕ) → ((xs : List ℕ) → OneReading xs) → length bytes ≤ text_limit bytes → (f : GraphValue) → FlowText bytes f → FitsFormatOne f → (status : Status) (out : List ℕ) → Answers ends all bytes status out → status ≡ Fine
is_accepted_flow ends all bytes reads short f t fits Fine out a = refl
is_accepted_flow ends all bytes reads short f t fits Unfit out (inl a) = absurd (a.0 t.rest t.begins)
is_accepted_flow ends all bytes reads short f t fits Unfit out (inr a) = absurd a.answers
is_accepted_flow ends all bytes reads short f t fits Unread out (inl a) = absurd (a.0 t.rest t.begins)
is_accepted_flow ends all bytes reads short f t fits Unread out (inr a) = absurd (no_refusal all bytes a.whole f reads t fits a.answers)
is_accepted_flow ends all bytes reads short f t fits TooLong out a = absurd (let l : text_limit bytes < length bytes = a.0 in omega (arith, short, l))
is_accepted_flow ends all bytes reads short f t fits _ out a = absurd a

-- AN INPUT THAT WAS ANSWERED: what was answered, by the status
module _ (ends all : Bool) (bytes : List ℕ) (s t : SinkState) (result : Status) (answered : IsAnswered ends all bytes s t result) where
  pub by_verdict : (v : Verdict) → result ≡ status_of v → (out : List ℕ) × IsInputAnswer ends all bytes v out × Delivered s t out
  by_verdict verdict.Accepted is = answered_as (Answers ends all bytes) s t result Fine answered is (λ x. cc) (λ x. cc)
  by_verdict verdict.Unfit is = answered_as (Answers ends all bytes) s t result Unfit answered is (λ x. cc) (λ x. cc)
  by_verdict verdict.Unread is = answered_as (Answers ends all bytes) s t result Unread answered is (λ x. cc) (λ x. cc)

  pub too_long : result ≡ TooLong → (text_limit bytes < length bytes) × Delivered s t too_long_text
  too_long is = let d = answered_as (Answers ends all bytes) s t result TooLong answered is (λ x. cc) (λ x. cc) in (d.1.0, subst (Delivered s t) d.1.1 d.2)

  pub broken_off : result ≡ WriteFault → (status : Status) × (out : List ℕ) × Answers ends all bytes status out × BrokenOff s t out
  broken_off is = cut_off_as {write_fault = WriteFault} {no_memory = NoMemory} (Answers ends all bytes) s t result (λ x. cc) (λ out a. a) answered is

  pub usage_never : result ≡ Usage → ⊥
  usage_never is = (answered_as (Answers ends all bytes) s t result Usage answered is (λ x. cc) (λ x. cc)).1

  pub read_fault_never : result ≡ ReadFault → ⊥
  read_fault_never is = (answered_as (Answers ends all bytes) s t result ReadFault answered is (λ x. cc) (λ x. cc)).1

  pub complete : OneReading bytes → length bytes ≤ text_limit bytes → (g : GraphValue) → GraphText bytes g → Accepted g → (Rose s.faults t.faults → ⊥) → (result ≡ Fine) ⊎ (result ≡ NoMemory)
  complete one short g is acc silent = complete_as (Answers ends all bytes) s t result Fine (is_accepted ends all bytes one short g is acc) answered silent

  pub complete_flow : ((xs : List ℕ) → OneReading xs) → length bytes ≤ text_limit bytes → (f : GraphValue) → FlowText bytes f → FitsFormatOne f → (Rose s.faults t.faults → ⊥) → (result ≡ Fine) ⊎ (result ≡ NoMemory)
  complete_flow reads short f is fits silent = complete_as (Answers ends all bytes) s t result Fine (is_accepted_flow ends all bytes reads short f is fits) answered silent

-- the bytes that were read are all that was left, and where those are too long, more was left
pub all_answered : (ends all : Bool) (old new : Option (List ℕ)) (read seen : List ℕ) (s t : SinkState) (result : Status) → Consumes old new read → IsAtEnd new → seen ≡ read → IsAnswered ends all seen s t result
    → (bytes : List ℕ) → old ≡ Some bytes → IsAnswered ends all bytes s t result
all_answered ends all old new read seen s t result read_all at_end same a bytes left =
    subst (λ x. IsAnswered ends all x s t result) (sym (all_read old new read read_all at_end bytes left)) (subst (λ x. IsAnswered ends all x s t result) same a)

pub long_answered : (ends all : Bool) (old : Option (List ℕ)) (s t : SinkState) (result : Status) → ((xs : List ℕ) → old ≡ Some xs → text_limit xs < length xs) → Delivers s t TooLong result too_long_text → (bytes : List ℕ) → old ≡ Some bytes
    → IsAnswered ends all bytes s t result
long_answered ends all old s t result long d bytes left = inr (TooLong, too_long_text, (long bytes left, refl), d)
