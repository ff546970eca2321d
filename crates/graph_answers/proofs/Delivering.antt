-- What follows for the answers of the top call.
use Rattle.std.proofs.Common.{◌≡◌, ◌≢◌, ℕ, ◌≤◌, List, length, refl, sym, ◌∙◌, ap, subst, inr, ◌<◌, arith}
use Rattle.std.specs.Prelude.{Bool, true, false, Option, Some, None, IfSome}
use Rattle.realm_io.specs.SinkState.{SinkState}
use Rattle.command_line.specs.declared.request.Request.{Request}
use Rattle.graph_answers.specs.declared.status.Status.{Status}
use Rattle.graph_answers.specs.declared.status.Status.TheVariants.{Done, Unread, Unfit, Slots, TooLong}
use Rattle.realm_io.specs.Written.{Wrote, Stopped}
use Rattle.graph_words.specs.Limits.{text_limit}
use Rattle.graph_words.specs.Text.{GraphText}
use Rattle.graph_reader.specs.Laws.{OneReading}
use Rattle.race_check.specs.Refusal.{IsRefusal}
use Rattle.race_check.specs.declared.checked.CheckRefusal.{CheckRefusal}
use Rattle.race_check.specs.declared.checked.CheckRefusal.TheVariants as refusal
use Rattle.graph_answers.specs.Refused.{IsRefused, IsUnfit, Refuses, Rejects}
use Rattle.program_io.specs.Delivered.{Delivered}
use Rattle.program_io.proofs.Public.{answered_as}
use Rattle.graph_answers.specs.Delivered.{Delivers, IsAnswered}
use Rattle.graph_answers.specs.Answer.{report_with, is_short, EndsByPaths, Served, Judged, TextAnswers, InputAnswers, EnoughSlots, TooFewSlots, TextAsks, InputAsks}
use Rattle.graph_answers.specs.Status.{is_refusal}
use Rattle.graph_answers.specs.Texts.{unfit_text}
use Rattle.graph_terms.specs.Graph.{GraphValue}
use Rattle.graph_meaning.specs.Rules.{Accepted}
use Rattle.graph_meaning.specs.Need.{IsNeed}
use Rattle.graph_meaning.specs.Laws.{OneNeed, WaitsWhereReached, CancelledWhereUnbroken}
use Rattle.std.proofs.lemmas.Bool.{true≢false}
use Rattle.std.proofs.lemmas.Option.{none-some}

-- bytes are not both a text and refused
pub text_or_refused : (bytes out : List ℕ) → OneReading bytes → (g : GraphValue) → GraphText bytes g → IsRefused bytes out → ⊥
text_or_refused bytes out one g t r = one.not_both (g, t) (r.number, r.why, r.fault)

-- a rule fails at some lines, and so not for all
broken_by : (g : GraphValue) (why : CheckRefusal) (out : List ℕ) → IsRefusal g why → unfit_text g why ≡ Some out → Accepted g → ⊥
broken_by g (refusal.Cycle i) out r e a = r.here (a.acyclic i)
broken_by g (refusal.Unreleased i) out r e a = (r.1).here (a.released i)
broken_by g (refusal.Section i j) out r e a = (r.2).here (a.sections i j)
broken_by g (refusal.Descends i j) out r e a = (r.3).here (a.descends i j)
broken_by g (refusal.ReleaseFault i) out r e a = (r.4).here (a.release_faults i)
broken_by g (refusal.Race i j) out r e a = (r.5).here (a.races i j)
broken_by g refusal.NoMemory out r e a = absurd (none-some out e)

-- a rule that fails has a text
pub broken_text : (g : GraphValue) (why : CheckRefusal) → why ≢ refusal.NoMemory → (out : List ℕ) × (unfit_text g why ≡ Some out)
broken_text g (refusal.Cycle i) n = (_, refl)
broken_text g (refusal.Unreleased i) n = (_, refl)
broken_text g (refusal.Section i j) n = (_, refl)
broken_text g (refusal.Descends i j) n = (_, refl)
broken_text g (refusal.ReleaseFault i) n = (_, refl)
broken_text g (refusal.Race i j) n = (_, refl)
broken_text g refusal.NoMemory n = absurd (n refl)

-- a graph is not both accepted and unfit
pub accepted_or_unfit : (g : GraphValue) (out : List ℕ) → Accepted g → IsUnfit g out → ⊥
accepted_or_unfit g out a u = broken_by g u.why out u.refused u.says a

-- two graphs of one text are one: it is not both accepted and not
both_judged : (bytes : List ℕ) → OneReading bytes → (g h : GraphValue) → GraphText bytes g → GraphText bytes h → Accepted g → (Accepted h → ⊥) → ⊥
both_judged bytes one g h t u a b = b (subst Accepted (one.one_graph g h t u) a)

pub too_short : (bytes : List ℕ) → length bytes ≤ text_limit bytes → text_limit bytes < length bytes → ⊥
too_short bytes x y = omega arith

-- a graph is not given both slots enough and too few, nor are two graphs of one text
pub enough_by_need : (request : Request) → OneNeed → (g : GraphValue) (need : ℕ) → IsNeed g need → is_short request need ≡ false → EnoughSlots request g
enough_by_need request needs g need i e m j = subst (λ k. is_short request k ≡ false) (needs g need m i j) e

pub few_or_enough : (request : Request) (g : GraphValue) → TooFewSlots request g → EnoughSlots request g → ⊥
few_or_enough request g (n, i, e) enough = true≢false (sym e ∙ enough n i)

short_or_not : (request : Request) (bytes : List ℕ) → OneReading bytes → (g h : GraphValue) → GraphText bytes g → GraphText bytes h → TooFewSlots request g → EnoughSlots request h → ⊥
short_or_not request bytes one g h t u few = few_or_enough request h (subst (TooFewSlots request) (one.one_graph g h t u) few)

-- the answer to bytes is the one that they ask for
one_text : (request : Request) → OneNeed → (bytes : List ℕ) → OneReading bytes → (s t : Status) (o : List ℕ) → TextAnswers request bytes s o → TextAsks request bytes t → s ≡ t
one_text request needs bytes one Done Done o a b = refl
one_text request needs bytes one Done Unread o a b = absurd (b a.0 a.1)
one_text request needs bytes one Done Unfit o a b = absurd (both_judged bytes one a.0 b.0 a.1 b.1 (a.2).0 b.2)
one_text request needs bytes one Done Slots o a b = let w = (a.2).1 in absurd (short_or_not request bytes one b.0 a.0 b.1 a.1 b.3 (enough_by_need request needs a.0 w.0 w.1 w.2))
one_text request needs bytes one Done _ o a b = absurd b
one_text request needs bytes one Unread Done o a b = absurd (text_or_refused bytes o one b.0 b.1 a)
one_text request needs bytes one Unread Unread o a b = refl
one_text request needs bytes one Unread Unfit o a b = absurd (text_or_refused bytes o one b.0 b.1 a)
one_text request needs bytes one Unread Slots o a b = absurd (text_or_refused bytes o one b.0 b.1 a)
one_text request needs bytes one Unread _ o a b = absurd b
one_text request needs bytes one Unfit Done o a b = absurd (both_judged bytes one b.0 a.0 b.1 a.1 b.2 (λ x. accepted_or_unfit a.0 o x a.2))
one_text request needs bytes one Unfit Unread o a b = absurd (b a.0 a.1)
one_text request needs bytes one Unfit Unfit o a b = refl
one_text request needs bytes one Unfit Slots o a b = absurd (both_judged bytes one b.0 a.0 b.1 a.1 b.2 (λ x. accepted_or_unfit a.0 o x a.2))
one_text request needs bytes one Unfit _ o a b = absurd b
one_text request needs bytes one Slots Done o a b = let w = (a.2).1 in absurd (short_or_not request bytes one a.0 b.0 a.1 b.1 (w.0, w.1, w.2) b.3)
one_text request needs bytes one Slots Unread o a b = absurd (b a.0 a.1)
one_text request needs bytes one Slots Unfit o a b = absurd (both_judged bytes one a.0 b.0 a.1 b.1 (a.2).0 b.2)
one_text request needs bytes one Slots Slots o a b = refl
one_text request needs bytes one Slots _ o a b = absurd b
one_text request needs bytes one _ t o a b = absurd (a.2).1

-- and that to an input the one that it asks for
pub one_answer : (request : Request) → OneNeed → (bytes : List ℕ) → OneReading bytes → (s t : Status) (o : List ℕ) → InputAnswers request bytes s o → InputAsks request bytes t → s ≡ t
one_answer request needs bytes one TooLong TooLong o a b = refl
one_answer request needs bytes one TooLong t o a b = absurd (too_short bytes b.0 a.0)
one_answer request needs bytes one s TooLong o a b = absurd (too_short bytes a.0 b)
one_answer request needs bytes one s t o a b = one_text request needs bytes one s t o a.1 b.1

pub if_some : (o : Option (List ℕ)) (P : List ℕ → Type 0) → ((xs : List ℕ) → o ≡ Some xs → P xs) → IfSome o P
if_some None P h = tt
if_some (Some xs) P h = h xs refl

-- a refusal goes with its text
pub refused_as : (A : Status → List ℕ → Type 0) (s t : SinkState) (result : Status) → IsAnswered A s t result → is_refusal result ≡ true → (out : List ℕ) × A result out × Delivered s t out
refused_as A s t result h r = answered_as A s t result result h refl (λ e. true≢false (sym r ∙ ap is_refusal e)) (λ e. true≢false (sym r ∙ ap is_refusal e))

-- what becomes of a graph that was read is the answer to its text, and so is what is refused
pub judged_input : (request : Request) (bytes : List ℕ) → length bytes ≤ text_limit bytes → (g : GraphValue) → GraphText bytes g → (status : Status) (out : List ℕ) → Judged request g status out → InputAnswers request bytes status out
judged_input request bytes short g h Done out j = (short, (g, h, j))
judged_input request bytes short g h Unfit out j = (short, (g, h, j))
judged_input request bytes short g h Slots out j = (short, (g, h, j))
judged_input request bytes short g h _ out j = absurd j.1

pub refused_input : (request : Request) (bytes : List ℕ) → length bytes ≤ text_limit bytes → (status : Status) (out : List ℕ) → Refuses bytes status out → InputAnswers request bytes status out
refused_input request bytes short Unread out r = (short, r)
refused_input request bytes short _ out r = absurd r

-- what becomes of a graph that is accepted, and of one that is not
pub served_judged : (request : Request) (g h : GraphValue) → g ≡ h → Accepted h → (status : Status) (out : List ℕ) → Served request g status out → Judged request h status out
served_judged request g h e a Done out w = (a, subst (λ x. Served request x Done out) e w)
served_judged request g h e a Slots out w = (a, subst (λ x. Served request x Slots out) e w)
served_judged request g h e a _ out w = absurd w

pub rejected_judged : (request : Request) (g h : GraphValue) → g ≡ h → (status : Status) (out : List ℕ) → Rejects g status out → Judged request h status out
rejected_judged request g h e Unfit out r = subst (λ x. IsUnfit x out) e r
rejected_judged request g h e _ out r = absurd r

-- what becomes of a graph that is accepted, where it was judged
pub judged_served : (request : Request) (g : GraphValue) → Accepted g → (status : Status) (out : List ℕ) → Judged request g status out → Served request g status out
judged_served request g a Done out j = j.1
judged_served request g a Slots out j = j.1
judged_served request g a Unfit out j = absurd (accepted_or_unfit g out a j)
judged_served request g a _ out j = absurd j.1

-- how lines end by paths, of the graph that was answered
pub ends_by_paths : WaitsWhereReached → CancelledWhereUnbroken → (bytes : List ℕ) → OneReading bytes → (g : GraphValue) → GraphText bytes g → Accepted g → (h : GraphValue) → GraphText bytes h → EndsByPaths h
ends_by_paths waits cancelled bytes one g t a h u = record {
  waiting = λ i b. waits h i u.is_graph ((subst Accepted (one.one_graph g h t u) a).acyclic) b;
  cancelled = λ i. cancelled h i;
}

-- a graph that breaks a rule was answered
pub unfit_rejected : (g : GraphValue) (s t : SinkState) (result : Status) (why : CheckRefusal) (out : List ℕ) → IsRefusal g why → unfit_text g why ≡ Some out → Delivers s t Unfit result out → IsAnswered (Rejects g) s t result
unfit_rejected g s t result why out r e d = inr (Unfit, out, record { «why» = why; refused = r; says = e }, d)

-- the same of a graph or a request that is the same
pub wrote_of : (s t : SinkState) (traced : Bool) (g h : GraphValue) (trace other : List ℕ) → g ≡ h → trace ≡ other → Wrote s t (report_with traced g trace) → Wrote s t (report_with traced h other)
wrote_of s t traced g h trace other e f w = subst (λ x. Wrote s t (report_with traced h x)) f (subst (λ x. Wrote s t (report_with traced x trace)) e w)

pub stopped_of : (s t : SinkState) (traced : Bool) (g h : GraphValue) (trace other : List ℕ) → g ≡ h → trace ≡ other → Stopped s t (report_with traced g trace) → Stopped s t (report_with traced h other)
stopped_of s t traced g h trace other e f w = subst (λ x. Stopped s t (report_with traced h x)) f (subst (λ x. Stopped s t (report_with traced x trace)) e w)
