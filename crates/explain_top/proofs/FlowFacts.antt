-- No text of a graph is one of a flow, and a flow that has a graph is refused for nothing.
use Rattle.std.proofs.Common.{◌≡◌, ℕ, suc, ◌<◌, ◌≤◌, Bool, true, false, cond, ◌&&◌, List, [], ◌∷◌, ◌++◌, length, refl, sym, ◌∙◌, ap, subst, inl, inr, append_assoc, arith}
use Rattle.std.specs.Prelude.{◌==◌, ◌⊎◌, Some, slice_get, slice_index, nat_lt, Result, Ok, Err, IfOk}
use Rattle.std.specs.List.{list_all}
use Rattle.std.proofs.lemmas.Bool.{true≢false}
use Rattle.std.proofs.lemmas.List.{append_cancel_left}
use Rattle.graph_terms.specs.declared.format.Format.{Format}
use Rattle.graph_terms.specs.declared.format.Format.TheVariants.{One, Two, Three}
use Rattle.graph_terms.specs.declared.verb.Line.{Line}
use Rattle.graph_terms.specs.declared.why.Why.{Why}
use Rattle.graph_terms.specs.declared.why.Why.TheVariants as reasons
use Rattle.graph_terms.specs.Graph.{GraphValue}
use Rattle.graph_terms.specs.Spelling.{header, decls_text, lines_text}
use Rattle.graph_comments.specs.Comments.{bare_text}
use Rattle.graph_words.specs.Text.{closing, text, bare_of, GraphText}
use Rattle.graph_reader.specs.Laws.{OneReading}
use Rattle.graph_reader.specs.declared.reader.Unread.{Unread}
use Rattle.graph_words.specs.Words.{pieces}
use Rattle.flow_order.specs.Flow.{IsFlow, uses_columns}
use Rattle.flow_top.specs.Answer.{AnswersFlow, IsFaultOfFlow}
use Rattle.flow_top.specs.FlowText.{flow_header, FlowText, IsFormFault, IsWordsFault, IsFlowReading, is_flow_line}
use Rattle.flow_top.specs.declared.reading.FlowReading.TheVariants as readings
use Rattle.flow_top.specs.declared.FlowFault.TheVariants as fault
use Rattle.flow_top.proofs.Public.{unread_fault}
use Rattle.explain_text.specs.Visible.{is_plain, visible}
use Rattle.explain_text.specs.TextLines.{TextLines}
use Rattle.explain_top.specs.Answer.{IsUnreadText, asked, most_bytes, told}
use Rattle.explain_top.specs.Flows.{IsFlowWhole, IsFlowAnswerIn, FitsFormatOne, flow_text, over_text, flow_rule}
use Rattle.explain_top.specs.declared.answer.Answer.{Answer}
use Rattle.explain_top.specs.declared.answer.Verdict.TheVariants as verdict

no_more : (b : Bool) → (b && false) ≡ false
no_more true = refl
no_more false = refl

flow_bare : (rest : List ℕ) → bare_of (flow_header ++ rest) ≡ flow_header ++ rest
flow_bare rest = ap (λ b. cond b (bare_text (flow_header ++ rest)) (flow_header ++ rest)) (no_more (nat_lt (length (flow_header ++ rest)) 4294967295))

apart : (m n : ℕ) → m ≡ n → n < m → ⊥
apart m n e l = omega arith

other_header : (fm : Format) (rest body : List ℕ) → flow_header ++ rest ≡ header fm ++ body → ⊥
other_header One rest body h = apart 45 32 (ap (λ xs. slice_index xs 5) h) (omega arith)
other_header Two rest body h = apart 45 32 (ap (λ xs. slice_index xs 5) h) (omega arith)
other_header Three rest body h = apart 45 32 (ap (λ xs. slice_index xs 5) h) (omega arith)

-- the text of a graph does not begin as that of a flow
pub no_flow : (bytes rest : List ℕ) (g : GraphValue) → GraphText bytes g → bytes ≡ flow_header ++ rest → ⊥
no_flow bytes rest g t begins = other_header g.format rest ((decls_text g.format [] g.decls ++ lines_text g.format g.decls [] g.lines) ++ closing)
    (sym (flow_bare rest) ∙ (ap bare_of (sym begins) ∙ (t.is_text ∙ append_assoc (header g.format) (decls_text g.format [] g.decls ++ lines_text g.format g.decls [] g.lines) closing)))

-- nor does an answer to a flow go with it
pub no_refused_flow : (all : Bool) (bytes whole : List ℕ) (g : GraphValue) → GraphText bytes g → IsFlowWhole all bytes verdict.Unread whole → ⊥
no_refused_flow all bytes whole g t (inl r) = no_flow bytes r.rest g t r.begins
no_refused_flow all bytes whole g t (inr (inl r)) = no_flow bytes r.rest g t r.begins
no_refused_flow all bytes whole g t (inr (inr r)) = no_flow bytes (r.is_text).rest g t (r.is_text).begins

same_rest : (bytes a b : List ℕ) → bytes ≡ flow_header ++ a → bytes ≡ flow_header ++ b → a ≡ b
same_rest bytes a b x y = append_cancel_left flow_header a b (sym x ∙ y)

uses_alone : (b : Bool) (on : List ℕ) → b ≡ true → on ≡ [] → (b && (length on == 0)) ≡ true
uses_alone true [] x y = refl
uses_alone true (e ∷ on) x y = absurd (let z : suc (length on) ≡ 0 = ap length y in omega arith)
uses_alone false on x y = absurd (true≢false (sym x))

flow_lines : (f : GraphValue) → IsFlow f → (i : ℕ) (l : Line) → slice_get f.lines i ≡ Some l → is_flow_line l ≡ true
flow_lines f is i l at = uses_alone (uses_columns l.verb) l.on (is.uses i l at) (is.waits i l at)

-- a flow whose graph fits format 1 is refused for nothing
words_no : (text : List ℕ) (f : GraphValue) (n : ℕ) → OneReading text → GraphText text f → IsWordsFault text n reasons.Syntax → ⊥
words_no text f n one t w = one.not_both (f, t) (w.last, w.graph_reason, w.refused)

form_no : (text : List ℕ) (f : GraphValue) (n : ℕ) → OneReading text → GraphText text f → IsFlow f → IsFormFault text n reasons.Syntax → ⊥
form_no text f n one t is w =
    let same : f ≡ w.graph = one.one_graph f w.graph t w.is_text in
    true≢false (sym (flow_lines w.graph (subst IsFlow same is) w.line (w.other).other (w.other).at) ∙ (w.other).is_other)

other_no : (text : List ℕ) (f : GraphValue) (n : ℕ) → OneReading text → GraphText text f → IsFlow f → IsWordsFault text n reasons.Syntax ⊎ IsFormFault text n reasons.Syntax → ⊥
other_no text f n one t is (inl w) = words_no text f n one t w
other_no text f n one t is (inr w) = form_no text f n one t is w

over_no : (f : GraphValue) (n : ℕ) → FitsFormatOne f → IsFaultOfFlow f false (fault.Line n reasons.Limit) → ⊥
over_no f n fits (inl h) = true≢false (sym (h.over).over ∙ fits.within h.line (h.over).line)
over_no f n fits (inr h) = (let a = h.too_long in let b = fits.short in omega (arith, a, b))

pub no_refusal : (all : Bool) (bytes whole : List ℕ) (f : GraphValue) → ((xs : List ℕ) → OneReading xs) → FlowText bytes f → FitsFormatOne f → IsFlowWhole all bytes verdict.Unread whole → ⊥
no_refusal all bytes whole f reads t fits (inl r) =
    let same : t.rest ≡ r.rest = same_rest bytes t.rest r.rest t.begins r.begins in
    (reads (header One ++ r.rest)).not_both (f, subst (λ (xs : List ℕ). GraphText (header One ++ xs) f) same t.is_text) (r.number, r.why, unread_fault (header One ++ r.rest) r.number r.why r.above (r.refused).refused)
no_refusal all bytes whole f reads t fits (inr (inl r)) =
    let same : t.rest ≡ r.rest = same_rest bytes t.rest r.rest t.begins r.begins in
    let own : GraphText (header One ++ r.rest) f = subst (λ (xs : List ℕ). GraphText (header One ++ xs) f) same t.is_text in
    other_no (header One ++ r.rest) f r.number (reads (header One ++ r.rest)) own t.is_flow r.refused
no_refusal all bytes whole f reads t fits (inr (inr r)) =
    let o = r.is_text in
    let same : t.rest ≡ o.rest = same_rest bytes t.rest o.rest t.begins o.begins in
    let own : GraphText (header One ++ o.rest) f = subst (λ (xs : List ℕ). GraphText (header One ++ xs) f) same t.is_text in
    over_no r.flow r.number (subst FitsFormatOne ((reads (header One ++ o.rest)).one_graph f r.flow own o.is_text) fits) r.over

-- an answer to a flow as it is told
pub as_flow_answer : {E : Type 0} (r : Result Answer E) (all : Bool) (bytes : List ℕ) (w : Answer) (most : ℕ) → most ≡ most_bytes all → IsFlowWhole all bytes w.verdict w.text → IfOk r (λ a. a.verdict ≡ w.verdict)
    → IfOk r (λ a. a.text ≡ told most (visible w.text)) → IfOk r (λ a. length a.text ≤ most) → IfOk r (λ a. list_all is_plain a.text ≡ true) → IfOk r (λ a. IsFlowAnswerIn all bytes a.verdict a.text)
as_flow_answer (Ok a) all bytes w most is h v t f p =
    record {
      whole = w.text;
      answers = subst (λ x. IsFlowWhole all bytes x w.text) (sym v) h;
      is_told = subst (λ m. a.text ≡ told m (visible w.text)) is t;
      few = subst (λ m. length a.text ≤ m) is f;
      plain = p;
    }
as_flow_answer (Err e) all bytes w most is h v t f p = tt

-- the answers to a flow by their verdicts and texts
pub accepted_whole : {E : Type 0} (r : Result Answer E) (all : Bool) (bytes : List ℕ) (f : GraphValue) (t : List ℕ) → FlowText bytes f → AnswersFlow f false t → IfOk r (λ a. a.verdict ≡ verdict.Accepted) → IfOk r (λ a. a.text ≡ flow_text f)
    → IfOk r (λ a. IsFlowWhole all bytes a.verdict a.text)
accepted_whole (Ok a) all bytes f t is answers v x = subst (λ w. IsFlowWhole all bytes w a.text) (sym v) (record { flow = f; is_text = is; graph_text = t; answered = answers; text = x })
accepted_whole (Err e) all bytes f t is answers v x = tt

limit_is : (f : GraphValue) (n : ℕ) (w : Why) → IsFaultOfFlow f false (fault.Line n w) → IsFaultOfFlow f false (fault.Line n reasons.Limit)
limit_is f n w (inl h) = inl (record { line = h.line; over = h.over; number_is = h.number_is; reason_is = refl })
limit_is f n w (inr h) = inr (record { within = h.within; too_long = h.too_long; number_is = h.number_is; reason_is = refl })

pub over_whole : {E : Type 0} (r : Result Answer E) (all : Bool) (bytes : List ℕ) (f : GraphValue) (n : ℕ) (w : Why) → FlowText bytes f → IsFaultOfFlow f false (fault.Line n w) → IfOk r (λ a. a.verdict ≡ verdict.Unread) → IfOk r (λ a. a.text ≡ over_text (pieces 10 bytes) n)
    → IfOk r (λ a. IsFlowWhole all bytes a.verdict a.text)
over_whole (Ok a) all bytes f n w is over v x = subst (λ u. IsFlowWhole all bytes u a.text) (sym v) (inr (inr (record { flow = f; is_text = is; number = n; over = limit_is f n w over; text = x })))
over_whole (Err e) all bytes f n w is over v x = tt

pub refused_whole : (all : Bool) (bytes front text : List ℕ) (ls : TextLines) (u : Unread) → ls ≡ asked all bytes → IsFlowReading bytes (readings.Refused u) → IsUnreadText ls u.number u.why u.above front → text ≡ front ++ flow_rule u.why → IsFlowWhole all bytes verdict.Unread text
refused_whole all bytes front text ls u is h t x = inl (record {
  rest = h.0;
  begins = h.1;
  number = u.number;
  why = u.why;
  above = u.above;
  refused = h.2;
  front = front;
  is_front = subst (λ (l : TextLines). IsUnreadText l u.number u.why u.above front) is t;
  text = x;
})
