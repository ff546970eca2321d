-- What follows for the answers of `audit`.
use Rattle.std.proofs.Common.{◌≡◌, ◌≢◌, ℕ, ◌+◌, ◌<◌, ◌≤◌, List, length, refl, sym, ◌∙◌, ap, subst, inl, inr, arith}
use Rattle.std.specs.Prelude.{Some}
use Rattle.graph_terms.specs.Graph.{GraphValue}
use Rattle.graph_terms.specs.Fits.{IsGraph}
use Rattle.graph_meaning.specs.Rules.{Accepted}
use Rattle.graph_meaning.specs.Trace.{IsLawful}
use Rattle.graph_words.specs.Text.{GraphText}
use Rattle.graph_reader.specs.Laws.{OneReading}
use Rattle.realm_audit.specs.Parts.{newlines, graph_bytes, trace_bytes}
use Rattle.realm_audit.specs.Text.{trace_text}
use Rattle.realm_io.specs.SinkState.{SinkState}
use Rattle.realm_io.specs.Written.{Wrote}
use Rattle.realm_audit.specs.Reading.{TextTells, AreLines}
use Rattle.realm_audit.specs.Reading as reading
use Rattle.realm_audit.specs.Lawful as judging
use Rattle.realm_audit.specs.declared.reading.TraceRefusal.TheVariants.{Line}
use Rattle.realm_audit.specs.declared.refusal.AuditRefusal.{AuditRefusal}
use Rattle.realm_audit.specs.declared.refusal.AuditRefusal.TheVariants as audit
use Rattle.graph_answers.specs.declared.status.Status.{Status}
use Rattle.graph_answers.specs.declared.status.Status.TheVariants.{Done, Unread, Unfit, WriteFault, NoMemory, TooLong, Unlawful}
use Rattle.graph_answers.specs.Texts.{unlawful_text, lawful_text, trace_refused_text}
use Rattle.graph_answers.specs.Delivered.{Delivers, IsAnswered}
use Rattle.graph_answers.specs.Refused.{Refuses, Rejects}
use Rattle.graph_answers.specs.AuditAnswer.{audit_limit, HasTrace, LawfulAnswers, TraceAnswers, PartsAnswer, ShortAnswers, AuditAnswers, PartsAsk, ShortAsks, AuditAsks}
use Rattle.graph_answers.proofs.Delivering.{text_or_refused, accepted_or_unfit}

-- a fault of a trace has a text
pub fault_text : (g : GraphValue) (trace : List ℕ) (why : AuditRefusal) → why ≢ audit.NoMemory → (out : List ℕ) × (unlawful_text g trace why ≡ Some out)
fault_text g trace (audit.Repeat k) n = (_, refl)
fault_text g trace (audit.Waits k) n = (_, refl)
fault_text g trace (audit.Source k j) n = (_, refl)
fault_text g trace (audit.Overlap k q) n = (_, refl)
fault_text g trace (audit.Missing j) n = (_, refl)
fault_text g trace audit.NoMemory n = absurd (n refl)

-- what was read behind a graph, and what was found of a trace, of a graph that is the same
pub trace_of : (g h : GraphValue) (bytes trace : List ℕ) → g ≡ h → trace_text g trace ≡ bytes → AreLines g trace → HasTrace h bytes trace
trace_of g h bytes trace e t l = subst (λ x. HasTrace x bytes trace) e (record { lines = l; text = t })

pub no_trace_answered : (g h : GraphValue) (lines : ℕ) (bytes : List ℕ) (number m : ℕ) (s t : SinkState) (result : Status) → g ≡ h → reading.IsRefusal g bytes (Line number) → number ≡ m → Delivers s t Unread result (trace_refused_text (lines + m)) → IsAnswered (TraceAnswers h lines bytes) s t result
no_trace_answered g h lines bytes number m s t result e r same d =
    subst (λ x. IsAnswered (TraceAnswers x lines bytes) s t result) e
    (inr (Unread, trace_refused_text (lines + m), record { «number» = m; refused = subst (λ n. reading.IsRefusal g bytes (Line n)) same r; says = refl }, d))

pub lawful_answered : (g h : GraphValue) (trace : List ℕ) (s t : SinkState) (result : Status) → g ≡ h → IsLawful g trace → Delivers s t Done result lawful_text → IsAnswered (LawfulAnswers h trace) s t result
lawful_answered g h trace s t result e l d = inr (Done, lawful_text, (subst (λ x. IsLawful x trace) e l, refl), d)

pub unlawful_answered : (g h : GraphValue) (trace : List ℕ) (why : AuditRefusal) (s t : SinkState) (result : Status) → g ≡ h → why ≢ audit.NoMemory → judging.IsRefusal g trace why → (IsLawful g trace → ⊥) →
    ((out : List ℕ) → unlawful_text g trace why ≡ Some out → Delivers s t Unlawful result out) → IsAnswered (LawfulAnswers h trace) s t result
unlawful_answered g h trace why s t result e ne r not d =
    let text = fault_text g trace why ne in
    subst (λ x. IsAnswered (LawfulAnswers x trace) s t result) e (inr (Unlawful, text.0, (not, record { «why» = why; refused = r; says = text.1 }), d text.0 text.1))

-- a fault that is written is no want of memory
pub no_want : (g : GraphValue) (trace : List ℕ) (why : AuditRefusal) (s t : SinkState) (result : Status) → why ≢ audit.NoMemory → ((out : List ℕ) → unlawful_text g trace why ≡ Some out → Delivers s t Unlawful result out) → result ≢ NoMemory
no_want g trace why s t result ne d e =
    let text = fault_text g trace why ne in
    elim (d text.0 text.1) [
      | inl x ↦ absurd (let y : NoMemory ≡ Unlawful = sym e ∙ x.0 in cc)
      | inr x ↦ absurd (let y : NoMemory ≡ WriteFault = sym e ∙ x.0 in cc)
    ]

-- a line that was written with one number, by another that is the same
pub wrote_number : (s t : SinkState) (m n : ℕ) → m ≡ n → Wrote s t (trace_refused_text m) → Wrote s t (trace_refused_text n)
wrote_number s t m n e w = subst (λ k. Wrote s t (trace_refused_text k)) e w

-- FROM THE PARTS to the whole: what becomes of a trace, of the bytes behind a graph, and of the graph
pub lawful_trace : (g : GraphValue) (lines : ℕ) (bytes trace : List ℕ) → HasTrace g bytes trace → (status : Status) (out : List ℕ) → LawfulAnswers g trace status out → TraceAnswers g lines bytes status out
lawful_trace g lines bytes trace h Done out a = (trace, h, a)
lawful_trace g lines bytes trace h Unlawful out a = (trace, h, a)
lawful_trace g lines bytes trace h _ out a = absurd a

pub trace_parts : (g h : GraphValue) (lines : ℕ) (bytes : List ℕ) → g ≡ h → Accepted h → (status : Status) (out : List ℕ) → TraceAnswers g lines bytes status out → PartsAnswer h lines bytes status out
trace_parts g h lines bytes e acc Done out a = (acc, subst (λ x. TraceAnswers x lines bytes Done out) e a)
trace_parts g h lines bytes e acc Unread out a = (acc, subst (λ x. TraceAnswers x lines bytes Unread out) e a)
trace_parts g h lines bytes e acc Unlawful out a = (acc, subst (λ x. TraceAnswers x lines bytes Unlawful out) e a)
trace_parts g h lines bytes e acc _ out a = absurd a.2

pub rejected_parts : (g h : GraphValue) (lines : ℕ) (bytes : List ℕ) → g ≡ h → (status : Status) (out : List ℕ) → Rejects g status out → PartsAnswer h lines bytes status out
rejected_parts g h lines bytes e Unfit out r = subst (λ x. PartsAnswer x lines bytes Unfit out) e r
rejected_parts g h lines bytes e _ out r = absurd r

pub parts_audit : (bytes front back : List ℕ) (lines : ℕ) → front ≡ graph_bytes bytes → lines ≡ newlines front → back ≡ trace_bytes bytes → length bytes ≤ audit_limit bytes → (g : GraphValue) → GraphText front g → (status : Status) (out : List ℕ) → PartsAnswer g lines back status out → AuditAnswers bytes status out
parts_audit bytes front back lines f n b short g t status out a = by_status status (subst (λ m. PartsAnswer g m (trace_bytes bytes) status out) (n ∙ ap newlines f) (subst (λ x. PartsAnswer g lines x status out) b a))
  where
    text : GraphText (graph_bytes bytes) g
    text = subst (λ x. GraphText x g) f t

    by_status : (w : Status) → PartsAnswer g (newlines (graph_bytes bytes)) (trace_bytes bytes) w out → AuditAnswers bytes w out
    by_status Done p = (short, (g, text, p))
    by_status Unread p = (short, inr (g, text, p))
    by_status Unfit p = (short, (g, text, p))
    by_status Unlawful p = (short, (g, text, p))
    by_status _ p = absurd (p.1).2

pub refused_audit : (bytes front : List ℕ) → front ≡ graph_bytes bytes → length bytes ≤ audit_limit bytes → (status : Status) (out : List ℕ) → Refuses front status out → AuditAnswers bytes status out
refused_audit bytes front f short Unread out r = (short, inl (subst (λ x. Refuses x Unread out) f r))
refused_audit bytes front f short _ out r = absurd r

-- THE ANSWER IS THE ONE THAT IS ASKED FOR: a trace is lawful or not, and bytes are the text of one trace or of none
module _ (tells : TextTells) (g : GraphValue) (fits : IsGraph g) (lines : ℕ) (bytes : List ℕ) where
  both_lawful : (trace other : List ℕ) → HasTrace g bytes trace → HasTrace g bytes other → IsLawful g trace → (IsLawful g other → ⊥) → ⊥
  both_lawful trace other h k law not = not (subst (IsLawful g) (tells g fits trace other h.lines k.lines (h.text ∙ sym k.text)) law)

  one_parts : (s t : Status) (out : List ℕ) → PartsAnswer g lines bytes s out → PartsAsk g bytes t → s ≡ t
  one_parts Done Done out a b = refl
  one_parts Done Unread out a b = absurd (b.1 (a.1).0 ((a.1).1).lines ((a.1).1).text)
  one_parts Done Unfit out a b = absurd (b a.0)
  one_parts Done Unlawful out a b = absurd (both_lawful (a.1).0 (b.1).0 (a.1).1 (b.1).1 ((a.1).2).0 (b.1).2)
  one_parts Done _ out a b = absurd b.1
  one_parts Unread Done out a b = absurd (((a.1).refused).1 (b.1).0 ((b.1).1).lines ((b.1).1).text)
  one_parts Unread Unread out a b = refl
  one_parts Unread Unfit out a b = absurd (b a.0)
  one_parts Unread Unlawful out a b = absurd (((a.1).refused).1 (b.1).0 ((b.1).1).lines ((b.1).1).text)
  one_parts Unread _ out a b = absurd b.1
  one_parts Unfit Done out a b = absurd (accepted_or_unfit g out b.0 a)
  one_parts Unfit Unread out a b = absurd (accepted_or_unfit g out b.0 a)
  one_parts Unfit Unfit out a b = refl
  one_parts Unfit Unlawful out a b = absurd (accepted_or_unfit g out b.0 a)
  one_parts Unfit _ out a b = absurd b.1
  one_parts Unlawful Done out a b = absurd (both_lawful (b.1).0 (a.1).0 (b.1).1 (a.1).1 (b.1).2 ((a.1).2).0)
  one_parts Unlawful Unread out a b = absurd (b.1 (a.1).0 ((a.1).1).lines ((a.1).1).text)
  one_parts Unlawful Unfit out a b = absurd (b a.0)
  one_parts Unlawful Unlawful out a b = refl
  one_parts Unlawful _ out a b = absurd b.1
  one_parts _ t out a b = absurd (a.1).2

too_much : (bytes : List ℕ) → length bytes ≤ audit_limit bytes → audit_limit bytes < length bytes → ⊥
too_much bytes x y = omega arith

module _ (tells : TextTells) (bytes : List ℕ) (one : OneReading (graph_bytes bytes)) where
  by_graph : (s t : Status) (out : List ℕ) (g h : GraphValue) → GraphText (graph_bytes bytes) g → GraphText (graph_bytes bytes) h → PartsAnswer g (newlines (graph_bytes bytes)) (trace_bytes bytes) s out → PartsAsk h (trace_bytes bytes) t → s ≡ t
  by_graph s t out g h u v a b = one_parts tells g u.is_graph (newlines (graph_bytes bytes)) (trace_bytes bytes) s t out a (subst (λ x. PartsAsk x (trace_bytes bytes) t) (one.one_graph h g v u) b)

  one_short : (s t : Status) (out : List ℕ) → ShortAnswers bytes s out → ShortAsks bytes t → s ≡ t
  one_short Unread Unread out a b = refl
  one_short Unread t out (inl r) b = absurd (text_or_refused (graph_bytes bytes) out one b.0 b.1 r)
  one_short Unread t out (inr a) b = by_graph Unread t out a.0 b.0 a.1 b.1 a.2 b.2
  one_short s Unread out a (inl none) = absurd (none a.0 a.1)
  one_short s Unread out a (inr b) = by_graph s Unread out a.0 b.0 a.1 b.1 a.2 b.2
  one_short s t out a b = by_graph s t out a.0 b.0 a.1 b.1 a.2 b.2

  pub one_audit : (s t : Status) (out : List ℕ) → AuditAnswers bytes s out → AuditAsks bytes t → s ≡ t
  one_audit TooLong TooLong out a b = refl
  one_audit TooLong t out a b = absurd (too_much bytes b.0 a.0)
  one_audit s TooLong out a b = absurd (too_much bytes a.0 b)
  one_audit s t out a b = one_short s t out a.1 b.1
