-- The form of the words of a line by its number in a text, and what bytes are read as by what the text of a graph with the same items is.
use Rattle.std.proofs.Common.{◌≡◌, ℕ, Bool, List, [], ◌++◌, refl, sym, ◌∙◌, ap, subst, inl, inr}
use Rattle.std.specs.Prelude.{slice_index_or}
use Rattle.graph_terms.specs.declared.format.Format.TheVariants.{One}
use Rattle.graph_terms.specs.Spelling.{header}
use Rattle.graph_reader.specs.declared.reader.Unread.{Unread}
use Rattle.graph_terms.specs.Graph.{GraphValue}
use Rattle.graph_terms.specs.declared.why.Why.TheVariants as why
use Rattle.graph_words.specs.Words.{pieces}
use Rattle.graph_words.specs.Text.{GraphText}
use Rattle.flow_top.proofs.Public.{unread_fault}
use Rattle.flow_top.specs.declared.FlowFault.TheVariants as fault
use Rattle.flow_top.specs.declared.reading.FlowReading.{FlowReading}
use Rattle.flow_top.specs.declared.reading.FlowReading.TheVariants as readings
use Rattle.flow_top.proofs.FlowLines.{flow_text}
use Rattle.flow_top.specs.FlowText.{flow_header, is_unlike_flow, words_of_line, IsReadFault, IsTextReading, IsGraphReading, IsFlowReading, HasNoFlowHeader}

pub form_at : (text : List ℕ) (line : ℕ) (lines : List (List ℕ)) (word : List ℕ) (b : Bool) → lines ≡ pieces 10 text → word ≡ slice_index_or lines line [] → b ≡ is_unlike_flow (pieces 32 word) → is_unlike_flow (words_of_line text line) ≡ b
form_at text line lines word b split at is = sym (is ∙ ap (λ w. is_unlike_flow (pieces 32 w)) (at ∙ ap (λ ls. slice_index_or ls line []) split))

-- what the text of a graph with the same items is read as tells what the bytes are read as
pub as_flow : (bytes rest text : List ℕ) (r : FlowReading) → bytes ≡ flow_header ++ rest → text ≡ header One ++ rest → IsTextReading text r → IsFlowReading bytes r
as_flow bytes rest text (readings.Flow f) begins is h = flow_text bytes rest f begins (subst (λ xs. GraphText xs f) is h.0) h.1
as_flow bytes rest text readings.Header begins is h = absurd h
as_flow bytes rest text (readings.Other n) begins is h = (rest, begins, subst (λ xs. IsTextReading xs (readings.Other n)) is h)
as_flow bytes rest text (readings.Refused u) begins is h = (rest, begins, subst (λ xs. IsTextReading xs (readings.Refused u)) is h)

pub as_text : (text : List ℕ) (g : GraphValue) (r : FlowReading) → GraphText text g → IsGraphReading g r → IsTextReading text r
as_text text g (readings.Flow f) t h = (subst (GraphText text) (sym h.0) t, h.1)
as_text text g readings.Header t h = absurd h
as_text text g (readings.Other n) t h = inr (record { graph = g; is_text = t; line = h.0; other = h.1; number_is = h.2; reason_is = refl })
as_text text g (readings.Refused u) t h = absurd h

-- what bytes are read as tells why they are no flow's text
pub header_fault : (bytes : List ℕ) → HasNoFlowHeader bytes → IsReadFault bytes (fault.Line 1 why.Header)
header_fault bytes none = inl (record { first = refl; reason_is = refl; no_header = none })

text_fault : (bytes rest : List ℕ) (n : ℕ) → bytes ≡ flow_header ++ rest → IsTextReading (header One ++ rest) (readings.Other n) → IsReadFault bytes (fault.Line n why.Syntax)
text_fault bytes rest n begins (inl h) = inr (record { rest = rest; begins = begins; refused = inl (inr h) })
text_fault bytes rest n begins (inr h) = inr (record { rest = rest; begins = begins; refused = inr h })

pub other_fault : (bytes : List ℕ) (n : ℕ) → IsFlowReading bytes (readings.Other n) → IsReadFault bytes (fault.Line n why.Syntax)
other_fault bytes n (rest, begins, h) = text_fault bytes rest n begins h

pub refused_fault : (bytes : List ℕ) (u : Unread) → IsFlowReading bytes (readings.Refused u) → IsReadFault bytes (fault.Line u.number u.why)
refused_fault bytes u (rest, begins, h) = inr (record { rest = rest; begins = begins; refused = inl (inl (record { refused = unread_fault (header One ++ rest) u.number u.why u.above h.refused; none_other = h.none_other })) })
