-- What becomes of a trace, from its parts to the whole input.
use Rattle.std.proofs.Common.{◌≡◌, ◌≢◌, ℕ, ◌+◌, ◌⊎◌, List, refl, inl, inr, sym, subst, ◌∙◌}
use Rattle.graph_terms.specs.Graph.{GraphValue}
use Rattle.graph_meaning.specs.Rules.{Accepted}
use Rattle.graph_meaning.specs.Trace.{IsLawful}
use Rattle.graph_reader.specs.Laws.{OneReading}
use Rattle.graph_words.specs.Text.{GraphText}
use Rattle.realm_audit.specs.Lawful.{IsRefusal, NamesLines}
use Rattle.realm_audit.specs.Reading.{IsTraceFault, IsNoText, TextTells}
use Rattle.realm_audit.specs.Parts.{newlines, graph_bytes, trace_bytes}
use Rattle.realm_audit.specs.declared.refusal.AuditRefusal.{AuditRefusal}
use Rattle.realm_audit.specs.declared.refusal.AuditRefusal.TheVariants as fault
use Rattle.graph_answers.specs.AuditAnswer.{HasTrace}
use Rattle.realm_c.specs.Audits.{HasFault, HasNoTrace, TraceFound, TraceSays, AuditSays, audit_status}
use Rattle.c_answers.specs.Refusals.{IsCheckRefusal}
use Rattle.realm_c.specs.declared.audit.Audited.{Audited}
use Rattle.realm_c.specs.declared.audit.Audited.TheVariants.{Lawful, Refused, NoTrace, Unlawful}
use Rattle.c_answers.specs.declared.reading.Refusal.TheVariants.{Unread, Unfit, NoMemory}

-- the fault of a trace, of a graph that is the same
pub fault_of : (g h : GraphValue) (trace : List ℕ) (why : AuditRefusal) → g ≡ h → why ≢ fault.NoMemory → IsRefusal g trace why → NamesLines g trace why → (IsLawful g trace → ⊥) → HasFault h trace why
fault_of g h trace why e ne r l not = subst (λ x. HasFault x trace why) e (record { no_memory = ne; refused = r; names = l; unlawful = not })

-- a trace that was read and judged
pub found_says : (g : GraphValue) (lines : ℕ) (bytes trace : List ℕ) → HasTrace g bytes trace → (a : Audited) → TraceFound g trace a → TraceSays g lines bytes a
found_says g lines bytes trace h Lawful f = (trace, h, f)
found_says g lines bytes trace h (Refused r) f = f
found_says g lines bytes trace h (NoTrace n) f = absurd f
found_says g lines bytes trace h (Unlawful why) f = (trace, h, f)

-- what is behind the text of an accepted graph was judged
pub text_says : (bytes : List ℕ) (g : GraphValue) → GraphText (graph_bytes bytes) g → Accepted g → (a : Audited) → TraceSays g (newlines (graph_bytes bytes)) (trace_bytes bytes) a → AuditSays bytes a
text_says bytes g t acc Lawful s = (g, t, acc, s)
text_says bytes g t acc (Refused r) s = subst (IsCheckRefusal (graph_bytes bytes)) (sym s) tt
text_says bytes g t acc (NoTrace n) s = (g, t, acc, s)
text_says bytes g t acc (Unlawful why) s = (g, t, acc, s)

-- the bytes behind a graph are the text of no trace, of a graph that is the same
pub no_trace_of : (g h : GraphValue) (lines : ℕ) (bytes : List ℕ) (number n : ℕ) → g ≡ h → IsTraceFault g bytes number → IsNoText g bytes → n ≡ lines + number → HasNoTrace h lines bytes n
no_trace_of g h lines bytes number n e is none counted =
    subst (λ x. HasNoTrace x lines bytes n) e (record { «number» = number; is_fault = is; no_text = none; «counted» = counted })

-- an accepted graph with a lawful trace behind it is found so, or memory ran out
pub lawful_is_found : (bytes : List ℕ) → OneReading (graph_bytes bytes) → TextTells → (a : Audited) → AuditSays bytes a
    → (g : GraphValue) (trace : List ℕ) → GraphText (graph_bytes bytes) g → Accepted g → HasTrace g (trace_bytes bytes) trace → IsLawful g trace
    → (audit_status a ≡ 0) ⊎ (audit_status a ≡ 7)
lawful_is_found bytes one tells Lawful s g trace t acc h l = inl refl
lawful_is_found bytes one tells (Refused (Unread n why)) s g trace t acc h l = absurd (one.not_both (g, t) (n, why, s))
lawful_is_found bytes one tells (Refused (Unfit why)) s g trace t acc h l = absurd (s.2.broken (subst Accepted (one.one_graph g s.0 t s.1) acc))
lawful_is_found bytes one tells (Refused NoMemory) s g trace t acc h l = inr refl
lawful_is_found bytes one tells (NoTrace n) s g trace t acc h l =
    let k = subst (λ x. HasTrace x (trace_bytes bytes) trace) (one.one_graph g s.0 t s.1) h in
    absurd (s.3.no_text trace k.lines k.text)
lawful_is_found bytes one tells (Unlawful why) s g trace t acc h l =
    let e = one.one_graph g s.0 t s.1 in
    let k = subst (λ x. HasTrace x (trace_bytes bytes) trace) e h in
    let other = s.3.1 in
    let same = tells s.0 s.1.is_graph trace s.3.0 k.lines other.lines (k.text ∙ sym other.text) in
    absurd (s.3.2.unlawful (subst (IsLawful s.0) same (subst (λ x. IsLawful x trace) e l)))
