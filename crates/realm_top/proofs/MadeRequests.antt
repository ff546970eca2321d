-- What follows for the answers where a graph is made.
use Rattle.std.proofs.Common.{◌≡◌, ◌≢◌, ℕ, List, refl, sym, ◌∙◌, ap, subst, inr}
use Rattle.std.specs.Prelude.{Bool, true, false}
use Rattle.std.proofs.lemmas.Bool.{true≢false}
use Rattle.realm_io.specs.SinkState.{SinkState}
use Rattle.realm_io.specs.Written.{Wrote, Stopped}
use Rattle.command_line.specs.declared.request.Request.{Request}
use Rattle.command_line.specs.declared.request.Action.{Action}
use Rattle.command_line.specs.declared.request.Action.TheVariants.{Run, Check, Eval, Make, Audit, Timeline, Upgrade, Session}
use Rattle.graph_terms.specs.Graph.{GraphValue}
use Rattle.graph_meaning.specs.Evaluation.{outcome}
use Rattle.graph_terms.specs.declared.outcome.Outcome.{Outcome}
use Rattle.graph_meaning.specs.Laws.{OneNeed}
use Rattle.graph_words.specs.Text.{text}
use Rattle.graph_gen.specs.MadeGraph.{made_graph}
use Rattle.graph_answers.specs.declared.status.Status.{Status}
use Rattle.graph_answers.specs.declared.status.Status.TheVariants.{Done, Slots}
use Rattle.graph_answers.specs.Texts.{made_text}
use Rattle.graph_answers.specs.Delivered.{Delivers, IsAnswered}
use Rattle.realm_top.specs.Answer.{reads, MadeAnswers, MadeAsks}
use Rattle.graph_answers.specs.Answer.{report_with, made_says, run_text, Says, Served}
use Rattle.realm_top.proofs.Answered.{enough_by_need, few_or_enough}

-- what an action that reads nothing writes
says_made : (x : Action) (request : Request) (g : GraphValue) (need : ℕ) (out : List ℕ) → reads x ≡ false → Says x request g need out → out ≡ made_says false g
says_made Run request g need out r e = absurd (true≢false r)
says_made Check request g need out r e = absurd (true≢false r)
says_made Eval request g need out r e = absurd (true≢false r)
says_made Timeline request g need out r e = absurd (true≢false r)
says_made Audit request g need out r e = absurd (true≢false r)
says_made Upgrade request g need out r e = absurd (true≢false r)
says_made Session request g need out r e = absurd (true≢false r)
says_made Make request g need out r e = e

pub done_says : (texted : Bool) (request : Request) (g : GraphValue) (out : List ℕ) → reads request.action ≡ false → MadeAnswers texted request g Done out → out ≡ made_says texted g
done_says true request g out r a = a
done_says false request g out r a = says_made request.action request g a.0 out r a.3

-- the answer where a graph is made is the one that it asks for
pub made_one : (texted : Bool) (request : Request) (g : GraphValue) → OneNeed → (s t : Status) (o : List ℕ) → MadeAnswers texted request g s o → MadeAsks texted request g t → s ≡ t
made_one true request g needs Done Done o a b = refl
made_one true request g needs Done _ o a b = absurd b
made_one true request g needs _ t o a b = absurd a
made_one false request g needs Done Done o a b = refl
made_one false request g needs Done Slots o a b = absurd (few_or_enough request g b (enough_by_need request needs g a.0 a.1 a.2))
made_one false request g needs Done _ o a b = absurd b
made_one false request g needs Slots Done o a b = absurd (few_or_enough request g (a.0, a.1, a.2) b)
made_one false request g needs Slots Slots o a b = refl
made_one false request g needs Slots _ o a b = absurd b
made_one false request g needs _ t o a b = absurd a

-- it is answered by few statuses
pub not_made : (texted : Bool) (request : Request) (g : GraphValue) (status : Status) (out : List ℕ) → (status ≢ Done) → (status ≢ Slots) → MadeAnswers texted request g status out → ⊥
not_made true request g Done out d s a = d refl
not_made true request g _ out d s a = a
not_made false request g Done out d s a = d refl
not_made false request g Slots out d s a = s refl
not_made false request g _ out d s a = a

-- the text of the graph that is made was written, or the graph was served
pub text_made : (request : Request) (s t : SinkState) (result : Status) (g : GraphValue) → request.text ≡ true → g ≡ made_graph request.seed request.size → Delivers s t Done result (text g) → IsAnswered (MadeAnswers request.text request (made_graph request.seed request.size)) s t result
text_made request s t result g r e d = inr (Done, text g, subst (λ b. MadeAnswers b request (made_graph request.seed request.size) Done (text g)) (sym r) (ap text e), d)

pub served_made : (request : Request) (g : GraphValue) → request.text ≡ false → g ≡ made_graph request.seed request.size → (status : Status) (out : List ℕ) → Served request g status out → MadeAnswers request.text request (made_graph request.seed request.size) status out
served_made request g r e status out w = subst (λ b. MadeAnswers b request (made_graph request.seed request.size) status out) (sym r) (subst (λ x. Served request x status out) e w)

-- the line that sums up an outcome that is the evaluation's
pub summed_up : (g h : GraphValue) (o : Outcome) (trace : List ℕ) → g ≡ h → o ≡ outcome h trace → made_text g o ≡ made_says false h
summed_up g h o trace e f = ap (λ x. made_text x o) e ∙ ap (made_text h) f

-- WHAT IS WRITTEN OF A RUN
pub run_reports : (x : Action) (traced : Bool) (g : GraphValue) (trace : List ℕ) → x ≢ Make → run_text x traced g trace ≡ report_with traced g trace
run_reports Make traced g trace ne = absurd (ne refl)
run_reports Run traced g trace ne = refl
run_reports Check traced g trace ne = refl
run_reports Eval traced g trace ne = refl
run_reports Timeline traced g trace ne = refl
run_reports Audit traced g trace ne = refl
run_reports Upgrade traced g trace ne = refl
run_reports Session traced g trace ne = refl

-- the same of a graph that is the same
pub wrote_run : (s t : SinkState) (x : Action) (traced : Bool) (g h : GraphValue) (trace : List ℕ) → g ≡ h → Wrote s t (run_text x traced g trace) → Wrote s t (run_text x traced h trace)
wrote_run s t x traced g h trace e w = subst (λ (y : GraphValue). Wrote s t (run_text x traced y trace)) e w

pub stopped_run : (s t : SinkState) (x : Action) (traced : Bool) (g h : GraphValue) (trace : List ℕ) → g ≡ h → Stopped s t (run_text x traced g trace) → Stopped s t (run_text x traced h trace)
stopped_run s t x traced g h trace e w = subst (λ (y : GraphValue). Stopped s t (run_text x traced y trace)) e w
