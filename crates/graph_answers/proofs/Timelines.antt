-- That the text of a timeline has its certificate.
use Rattle.std.proofs.Common.{◌≡◌, ℕ, ◌+◌, ◌-◌, ◌*◌, ◌≤◌, ◌⊎◌, Bool, List, inl, inr, refl, sym, subst}
use Rattle.std.specs.Prelude.{Option}
use Rattle.graph_terms.specs.Graph.{GraphValue}
use Rattle.realm_io.specs.SinkState.{SinkState}
use Rattle.realm_io.specs.Written.{Wrote, Stopped}
use Rattle.realm_timeline.specs.Timeline.{TimelineValue}
use Rattle.realm_timeline.specs.declared.slot.Slot.{Slot}
use Rattle.realm_timeline.specs.Plan.{IsPlan, IsValid, IsGreedy, plan_length, total_cost}
use Rattle.realm_timeline.specs.Columns.{AreApart, IsGreedyByColumns}
use Rattle.realm_timeline.specs.Chains.{IsCritical, chain_cost}
use Rattle.realm_timeline.specs.Laws.{AcquiresNone}
use Rattle.realm_timeline.specs.Text.{timeline_text}
use Rattle.column_pieces.specs.Pieces.{Unions, ArePieces, graph_of_pieces}
use Rattle.column_pieces.specs.declared.pieces.Piece.{Piece}
use Rattle.piece_graphs.specs.Uncut.{IsUncut}
use Rattle.command_line.specs.declared.request.Request.{Request}
use Rattle.graph_answers.specs.declared.status.Status.{Status}
use Rattle.graph_answers.specs.declared.status.Status.TheVariants.{Done, NoMemory}
use Rattle.graph_answers.specs.Delivered.{Delivers}
use Rattle.graph_answers.specs.Answer.{IsTimelineText, IsColumnsText, IsPieceText, PlanTextBy, IsPlanText, processors_for}

-- what was written, of a graph that is the same
pub wrote_timeline : (s t : SinkState) (g h : GraphValue) (x : TimelineValue) → g ≡ h → Wrote s t (timeline_text g x) → Wrote s t (timeline_text h x)
wrote_timeline s t g h x e w = subst (λ y. Wrote s t (timeline_text y x)) e w

pub stopped_timeline : (s t : SinkState) (g h : GraphValue) (x : TimelineValue) → g ≡ h → Stopped s t (timeline_text g x) → Stopped s t (timeline_text h x)
stopped_timeline s t g h x e w = subst (λ y. Stopped s t (timeline_text y x)) e w

pub timeline_certified : (g : GraphValue) (processors : ℕ) (t : TimelineValue) → IsPlan g processors t.plan → IsValid g t.plan → IsGreedy g processors t.plan →
    t.span ≡ plan_length t.plan → t.total ≡ total_cost g t.plan → IsCritical g t.critical → t.critical_cost ≡ chain_cost g t.critical →
    ((n : ℕ) (other : List (Option Slot)) → IsPlan g n other → IsValid g other → t.critical_cost ≤ plan_length other) →
    (AcquiresNone g → processors * t.span ≤ t.total + (processors - 1) * t.critical_cost) → IsTimelineText processors g (timeline_text g t)
timeline_certified g processors t plan valid greedy size total critical cost least most = record {
  timeline = t;
  is_plan = plan;
  «valid» = valid;
  «greedy» = greedy;
  length_is = size;
  «critical» = critical;
  cost_is = cost;
  at_least = least;
  at_most = λ none. subst (λ n. processors * t.span ≤ n + (processors - 1) * t.critical_cost) total (most none);
  says = refl;
}

pub columns_certified : (g : GraphValue) (processors : ℕ) (t : TimelineValue) → IsPlan g processors t.plan → IsValid g t.plan → AreApart g t.plan → IsGreedyByColumns g processors t.plan →
    t.span ≡ plan_length t.plan → IsCritical g t.critical → t.critical_cost ≡ chain_cost g t.critical → IsColumnsText processors g (timeline_text g t)
columns_certified g processors t plan valid apart greedy size critical cost = record {
  timeline = t;
  is_plan = plan;
  «valid» = valid;
  «apart» = apart;
  «greedy» = greedy;
  length_is = size;
  «critical» = critical;
  cost_is = cost;
  says = refl;
}

-- an answer that is of a graph's pieces, or of the graph itself
abbrev pub Answer : (List ℕ → Type 0) → SinkState → SinkState → Status → Type 0
Answer Says s t result = (result ≡ NoMemory) ⊎ ((out : List ℕ) × Says out × Delivers s t Done result out)

answer_weaker : (Says Other : List ℕ → Type 0) (s t : SinkState) (result : Status) → ((out : List ℕ) → Says out → Other out) → Answer Says s t result → Answer Other s t result
answer_weaker Says Other s t result f (inl e) = inl e
answer_weaker Says Other s t result f (inr a) = inr (a.0, f a.0 a.1, a.2)

pub answer_in_pieces : (g h : GraphValue) (unions : Unions) (pieces : List Piece) (processors : ℕ) (s t : SinkState) (result : Status) → ArePieces g unions pieces → h ≡ graph_of_pieces g unions pieces →
    Answer (IsColumnsText processors h) s t result → Answer (IsPieceText processors g) s t result
answer_in_pieces g h unions pieces processors s t result are is = answer_weaker (IsColumnsText processors h) (IsPieceText processors g) s t result (λ out says. (h, inl (unions, pieces, are, is), says))

pub answer_whole : (g : GraphValue) (processors : ℕ) (s t : SinkState) (result : Status) → IsUncut g → Answer (IsColumnsText processors g) s t result → Answer (IsPieceText processors g) s t result
answer_whole g processors s t result uncut = answer_weaker (IsColumnsText processors g) (IsPieceText processors g) s t result (λ out says. (g, inr (uncut, refl), says))

-- the timeline that is asked for
pub answer_asked : (request : Request) (g : GraphValue) (b : Bool) (processors : ℕ) (s t : SinkState) (result : Status) → request.columns ≡ b → processors ≡ processors_for request →
    Answer (PlanTextBy b processors g) s t result → Answer (IsPlanText request g) s t result
answer_asked request g b processors s t result asked number = answer_weaker (PlanTextBy b processors g) (IsPlanText request g) s t result
    (λ out says. subst (λ c. PlanTextBy c (processors_for request) g out) (sym asked) (subst (λ n. PlanTextBy b n g out) number says))
