-- The text of a graph of format 1 whose lines are all those of a flow is, behind its first line, that of a flow.
use Rattle.std.proofs.Common.{◌≡◌, ℕ, suc, ◌+◌, ◌^◌, ◌<◌, ◌≤◌, Bool, true, false, cond, ◌&&◌, length, List, [], ◌∷◌, ◌++◌, refl, sym, ◌∙◌, ap, subst, append_assoc, length-append, arith}
use Rattle.std.specs.Prelude.{◌==◌, codes, slice_index, nat_lt, IsTrue}
use Rattle.std.proofs.lemmas.Bool.{true≢false, and_parts, eqb-true}
use Rattle.graph_terms.specs.declared.format.Format.{Format}
use Rattle.graph_terms.specs.declared.format.Format.TheVariants.{One, Two, Three}
use Rattle.graph_terms.specs.Limits.{limits}
use Rattle.graph_terms.specs.Graph.{GraphValue, written_in}
use Rattle.graph_terms.specs.Spelling.{head, header, decls_text, lines_text}
use Rattle.graph_terms.proofs.Public.{long_head, most_limits}
use Rattle.graph_terms.specs.Fits.{IsGraph}
use Rattle.graph_comments.specs.Comments.{bare_text}
use Rattle.graph_words.specs.Text.{closing, text, bare_of, GraphText}
use Rattle.graph_reader.proofs.Public.{texts_are_bare}
use Rattle.flow_order.specs.Flow.{IsFlow, uses_columns}
use Rattle.flow_top.specs.FlowText.{flow_header, FlowText, AreFlowLines}

none_is : (on : List ℕ) → (length on == 0) ≡ true → on ≡ []
none_is [] h = refl
none_is (e ∷ on) h = absurd (let z : suc (length on) ≡ 0 = eqb-true (suc (length on)) 0 h in omega arith)

true_is : (b : Bool) → b ≡ true → IsTrue b
true_is true e = refl
true_is false e = absurd (true≢false (sym e))

one_by : (fm : Format) (rest body : List ℕ) → header One ++ rest ≡ header fm ++ body → fm ≡ One
one_by One rest body h = refl
one_by Two rest body h = absurd (let e : 49 ≡ 50 = ap (λ xs. slice_index xs 6) h in omega arith)
one_by Three rest body h = absurd (let e : 49 ≡ 51 = ap (λ xs. slice_index xs 6) h in omega arith)

-- a text of format 1 has no comments
no_more : (b : Bool) → (b && false) ≡ false
no_more true = refl
no_more false = refl

pub bare_is : (rest : List ℕ) → bare_of (header One ++ rest) ≡ header One ++ rest
bare_is rest = ap (λ b. cond b (bare_text (header One ++ rest)) (header One ++ rest)) (no_more (nat_lt (length (header One ++ rest)) 4294967295))

pub one_of : (rest : List ℕ) (g : GraphValue) → GraphText (header One ++ rest) g → g.format ≡ One
one_of rest g t = one_by g.format rest ((decls_text g.format [] g.decls ++ lines_text g.format g.decls [] g.lines) ++ closing) (sym (bare_is rest) ∙ (t.is_text ∙ append_assoc (header g.format) (decls_text g.format [] g.decls ++ lines_text g.format g.decls [] g.lines) closing))

pub flow_of : (rest : List ℕ) (g : GraphValue) → GraphText (header One ++ rest) g → AreFlowLines g → IsFlow g
flow_of rest g t lines = record {
  fits = t.is_graph;
  uses = λ i l at. true_is (uses_columns l.verb) (and_parts (uses_columns l.verb) (length l.on == 0) (lines i l at)).0;
  waits = λ i l at. none_is l.on (and_parts (uses_columns l.verb) (length l.on == 0) (lines i l at)).1;
}

pub flow_text : (bytes rest : List ℕ) (g : GraphValue) → bytes ≡ flow_header ++ rest → GraphText (header One ++ rest) g → AreFlowLines g → FlowText bytes g
flow_text bytes rest g begins t lines = record { rest = rest; begins = begins; is_text = t; is_flow = flow_of rest g t lines }

-- the text of a graph has no comments
bare_text_of : (bytes : List ℕ) (g : GraphValue) → IsGraph g → bytes ≡ text g → bare_of bytes ≡ bytes
bare_text_of bytes g fits is = ap (λ xs. bare_of xs) is ∙ (texts_are_bare g fits ∙ sym is)

pub graph_text_of : (bytes : List ℕ) (g : GraphValue) → IsGraph g → bytes ≡ text g → length bytes ≤ (limits g.format).text → GraphText bytes g
graph_text_of bytes g fits is short = record {
  is_text = bare_text_of bytes g fits is ∙ is;
  short = subst (λ (xs : List ℕ). length xs ≤ (limits g.format).text) (sym (bare_text_of bytes g fits is)) short;
  is_graph = fits;
}

-- a flow in another format
pub flow_in : (fm : Format) (f : GraphValue) → IsFlow f → IsGraph (written_in fm f) → IsFlow (written_in fm f)
flow_in fm f flow fits = record { fits = fits; uses = flow.uses; waits = flow.waits }

-- a graph in its own format
pub own_format : (fm : Format) (f : GraphValue) → f.format ≡ fm → f ≡ written_in fm f
own_format fm f is = ap (λ x. written_in x f) is

-- so few declarations and lines that the number of each fits
pub few_items : (bytes : List ℕ) (f : GraphValue) → FlowText bytes f → length f.decls + length f.lines + 2 < 2 ^ 32
few_items bytes f t =
    let ends : length (text f) ≡ length (head f) + 4 = length-append (head f) (codes "end\n") in
    let whole : length (header One ++ t.rest) ≡ length (text f) = ap length (sym (bare_is t.rest) ∙ t.is_text.is_text) in
    let short : length (header One ++ t.rest) ≤ (limits f.format).text = subst (λ xs. length xs ≤ (limits f.format).text) (bare_is t.rest) t.is_text.short in
    let most : (limits f.format).text ≤ 16777216 = (most_limits f.format).text in
    let long : 1 + length f.decls + length f.lines ≤ length (head f) = long_head f in
    omega arith
