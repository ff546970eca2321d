-- A flow's text has one flow, and the text that answers it one graph.
use Rattle.std.proofs.Common.{◌≡◌, ℕ, Bool, List, ◌++◌, sym, ◌∙◌, subst}
use Rattle.std.proofs.lemmas.List.{append_cancel_left}
use Rattle.graph_terms.specs.declared.format.Format.TheVariants.{One}
use Rattle.graph_terms.specs.declared.format.Format.{Format}
use Rattle.graph_terms.specs.Graph.{GraphValue, written_in}
use Rattle.graph_terms.specs.Spelling.{header}
use Rattle.graph_meaning.specs.Rules.{Accepted}
use Rattle.graph_words.specs.Text.{GraphText}
use Rattle.graph_reader.specs.Laws.{OneReading}
use Rattle.task_flow.specs.Construction.{written}
use Rattle.flow_order.specs.Written.{MeansFlow}
use Rattle.flow_top.specs.FlowText.{flow_header, FlowText}
use Rattle.flow_top.specs.Answer.{IsFlowAnswer}
use Rattle.flow_top.specs.Laws.{Answered}

one_flow : (reads : (bs : List ℕ) → OneReading bs) (bytes : List ℕ) (f h : GraphValue) → FlowText bytes f → FlowText bytes h → h ≡ f
one_flow reads bytes f h a b = (reads (header One ++ a.rest)).one_graph h f
    (subst (λ (rest : List ℕ). GraphText (header One ++ rest) h) (append_cancel_left flow_header b.rest a.rest (sym b.begins ∙ a.begins)) b.is_text) a.is_text

pub answered : ((bs : List ℕ) → OneReading bs) → (bytes : List ℕ) (commute : Bool) (format : Format) (out : List ℕ) → IsFlowAnswer bytes commute format out → Answered bytes commute format out
answered reads bytes commute format out a = record {
  flow = a.flow;
  is_text = a.is_text;
  one_flow = λ h t. one_flow reads bytes a.flow h a.is_text t;
  graph = written (written_in format a.flow) commute;
  graph_text = a.out_is;
  accepted = λ g t. subst Accepted ((reads out).one_graph (written (written_in format a.flow) commute) g a.out_is t) a.means.accepted;
  means = λ g t. subst (λ (w : GraphValue). MeansFlow (written_in format a.flow) commute w) ((reads out).one_graph (written (written_in format a.flow) commute) g a.out_is t) a.means;
}
