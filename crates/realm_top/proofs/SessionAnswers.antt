-- What follows for the answers of `session`.
use Rattle.std.proofs.Common.{◌≡◌, ◌≢◌, ℕ, ◌<◌, ◌≤◌, List, [], ◌∷◌, ◌++◌, length, refl, sym, ◌∙◌, subst, inl, inr, arith}
use Rattle.std.specs.Prelude.{Some, map}
use Rattle.std.proofs.lemmas.List.Elements.{Contains-append_right}
use Rattle.graph_terms.specs.declared.limits.TheConstants.{MAX_TEXT}
use Rattle.graph_meaning.specs.Rules.{Accepted}
use Rattle.race_check.specs.declared.checked.CheckRefusal.{CheckRefusal}
use Rattle.race_check.specs.declared.checked.CheckRefusal.TheVariants as refusal
use Rattle.realm_io.specs.SinkState.{SinkState}
use Rattle.session_text.specs.declared.entry.Entry.{Entry}
use Rattle.session_text.specs.Fits.{SessionText}
use Rattle.session_text.specs.Laws.{OneSession}
use Rattle.session_run.specs.declared.running.RanGraph.{RanGraph}
use Rattle.session_run.specs.declared.session.UnfitGraph.{UnfitGraph}
use Rattle.session_run.specs.declared.session.RunFault.TheVariants as fault
use Rattle.session_run.specs.Linked.{LinkedGraph, linked}
use Rattle.session_run.specs.Laws.{OneEnd}
use Rattle.session_run.specs.Running.{linked_of, slots_needed}
use Rattle.session_run.specs.Session.{CanRun, Stops}
use Rattle.session_run.specs.Report.{session_report}
use Rattle.graph_answers.specs.declared.status.Status.{Status}
use Rattle.graph_answers.specs.declared.status.Status.TheVariants.{Done, Unread, Unfit, WriteFault, NoMemory, Slots, TooLong}
use Rattle.graph_answers.specs.Delivered.{Delivers, IsAnswered}
use Rattle.realm_top.specs.SessionTexts.{unfit_in_by, unfit_in_text}
use Rattle.graph_answers.specs.Texts.{slots_text}
use Rattle.realm_top.specs.SessionAnswer.{IsNoSession, RefusesSession, GraphsAnswer, SessionAnswers, RunsUpTo, GraphsAsk, SessionAsks}
use Rattle.realm_top.proofs.Answered.{accepted_or_unfit, broken_text}

-- a graph of a session that breaks a rule has a text
pub unfit_in_has_text : (u : UnfitGraph) → u.why ≢ refusal.NoMemory → (out : List ℕ) × (unfit_in_text u ≡ Some out)
unfit_in_has_text u n = by_why u.why n
  where
    by_why : (why : CheckRefusal) → why ≢ refusal.NoMemory → (out : List ℕ) × (unfit_in_by u.graph u.name why ≡ Some out)
    by_why (refusal.Cycle i) m = (_, refl)
    by_why (refusal.Unreleased i) m = (_, refl)
    by_why (refusal.Section i j) m = (_, refl)
    by_why (refusal.Descends i j) m = (_, refl)
    by_why (refusal.ReleaseFault i) m = (_, refl)
    by_why (refusal.Race i j) m = (_, refl)
    by_why refusal.NoMemory m = absurd (m refl)

unfit_is : (u : UnfitGraph) → fault.Unfit u ≢ fault.NoMemory
unfit_is u e = cc

short_is : (n : ℕ) → fault.Slots n ≢ fault.NoMemory
short_is n e = cc

-- THE ANSWER IS THE ONE THAT IS ASKED FOR: the graphs run, or one is the first that cannot
module _ (slots : ℕ) (gs : List LinkedGraph) (one : OneEnd slots gs) where
  -- a graph behind others runs where all do
  there : (at : RunsUpTo slots gs) → CanRun slots gs → CanRun slots (at.before ++ at.graph ∷ [])
  there at c = one.each_runs at.before at.behind at.graph at.split c

  accepted_at : (before : List LinkedGraph) (x : LinkedGraph) → CanRun slots (before ++ x ∷ []) → Accepted x.graph
  accepted_at before x c = c.accepted x (Contains-append_right before (x ∷ []) x (0, omega arith, refl))

  never_short : (before : List LinkedGraph) (x : LinkedGraph) → CanRun slots (before ++ x ∷ []) → slots < slots_needed (before ++ x ∷ []) → ⊥
  never_short before x c s = omega (arith, s, c.enough)

  never_both : (u : UnfitGraph) → Stops slots gs (fault.Unfit u) → (at : RunsUpTo slots gs) → Accepted at.graph.graph → slots < slots_needed (at.before ++ at.graph ∷ []) → ⊥
  never_both u s at a few =
      let same = one.first_is (fault.Unfit u) (unfit_is u) s at.before at.behind at.graph at.split at.ran (λ c. never_short at.before at.graph c few) in
      let text = broken_text s.graph.graph u.why s.refused.2 in
      accepted_or_unfit s.graph.graph text.0 (subst (λ (x : LinkedGraph). Accepted x.graph) (sym same.1) a) (record { why = u.why; refused = s.refused.3; says = text.1 })

  both_never : (n : ℕ) → Stops slots gs (fault.Slots n) → (at : RunsUpTo slots gs) → (Accepted at.graph.graph → ⊥) → ⊥
  both_never n s at not =
      let same = one.first_is (fault.Slots n) (short_is n) s at.before at.behind at.graph at.split at.ran (λ c. not (accepted_at at.before at.graph c)) in
      not (subst (λ (x : LinkedGraph). Accepted x.graph) same.1 s.refused.0)

  pub one_graphs : (s t : Status) (out : List ℕ) → GraphsAnswer slots gs s out → GraphsAsk slots gs t → s ≡ t
  one_graphs Done Done out a b = refl
  one_graphs Done Unfit out a b = absurd (b.1 (accepted_at b.0.before b.0.graph (there b.0 a.0)))
  one_graphs Done Slots out a b = absurd (never_short b.0.before b.0.graph (there b.0 a.0) b.2)
  one_graphs Done _ out a b = absurd b
  one_graphs Unfit Done out a b = absurd (one.not_both (fault.Unfit a.unfit) (unfit_is a.unfit) b a.first)
  one_graphs Unfit Unfit out a b = refl
  one_graphs Unfit Slots out a b = absurd (never_both a.unfit a.first b.0 b.1 b.2)
  one_graphs Unfit _ out a b = absurd b
  one_graphs Slots Done out a b = absurd (one.not_both (fault.Slots a.need) (short_is a.need) b a.first)
  one_graphs Slots Unfit out a b = absurd (both_never a.need a.first b.0 b.1)
  one_graphs Slots Slots out a b = refl
  one_graphs Slots _ out a b = absurd b
  one_graphs _ t out a b = absurd a

past_most : (bytes : List ℕ) → length bytes ≤ 1048576 → 1048576 < length bytes → ⊥
past_most bytes x y = omega arith

-- and bytes are the text of one session or of none
module _ (slots : ℕ) (bytes : List ℕ) (one : length bytes ≤ MAX_TEXT → OneSession bytes) (ends : (gs : List LinkedGraph) → OneEnd slots gs) where
  by_entries : (s t : Status) (out : List ℕ) (es fs : List Entry) → SessionText bytes es → SessionText bytes fs → GraphsAnswer slots (linked es) s out → GraphsAsk slots (linked fs) t → s ≡ t
  by_entries s t out es fs u v a b = one_graphs slots (linked es) (ends (linked es)) s t out a (subst (λ x. GraphsAsk slots (linked x) t) ((one u.short).one_session fs es v u) b)

  refused_or_text : (out : List ℕ) (es : List Entry) → IsNoSession bytes out → SessionText bytes es → ⊥
  refused_or_text out es r t = (one t.short).not_both es r.number r.why t r.fault

  pub one_session : (s t : Status) (out : List ℕ) → SessionAnswers slots bytes s out → SessionAsks slots bytes t → s ≡ t
  one_session Unread Unread out a b = refl
  one_session Unread TooLong out a b = absurd (past_most bytes a.0 b)
  one_session Unread t out a b = absurd (refused_or_text out b.0 a.1 b.1)
  one_session TooLong Unread out a b = absurd (past_most bytes b.0 a.0)
  one_session TooLong TooLong out a b = refl
  one_session TooLong t out a b = absurd (past_most bytes b.1.short a.0)
  one_session s Unread out a b = absurd (b.1 a.0 a.1)
  one_session s TooLong out a b = absurd (past_most bytes a.1.short b)
  one_session s t out a b = by_entries s t out a.0 b.0 a.1 b.1 a.2 b.2

-- what becomes of the graphs of a session is the answer to its text, and so is what is refused
pub entries_answered : (slots : ℕ) (bytes : List ℕ) (es : List Entry) → SessionText bytes es → (status : Status) (out : List ℕ) → GraphsAnswer slots (linked es) status out → SessionAnswers slots bytes status out
entries_answered slots bytes es t Done out a = (es, t, a)
entries_answered slots bytes es t Unfit out a = (es, t, a)
entries_answered slots bytes es t Slots out a = (es, t, a)
entries_answered slots bytes es t _ out a = absurd a

pub refused_session : (slots : ℕ) (bytes : List ℕ) → length bytes ≤ 1048576 → (status : Status) (out : List ℕ) → RefusesSession bytes status out → SessionAnswers slots bytes status out
refused_session slots bytes short Unread out r = (short, r)
refused_session slots bytes short _ out r = absurd r

-- the report of the graphs that ran, or why one did not
pub ran_answered : (slots given : ℕ) (gs : List LinkedGraph) (ran : List RanGraph) (s t : SinkState) (result : Status) → slots ≡ given → map linked_of ran ≡ gs → CanRun slots gs → Delivers s t Done result (session_report (map linked_of ran)) → IsAnswered (GraphsAnswer given gs) s t result
ran_answered slots given gs ran s t result e m c d = inr (Done, session_report gs, (subst (λ n. CanRun n gs) e c, refl), subst (λ xs. Delivers s t Done result (session_report xs)) m d)

pub unfit_answered : (slots given : ℕ) (gs : List LinkedGraph) (u : UnfitGraph) (s t : SinkState) (result : Status) → slots ≡ given → Stops slots gs (fault.Unfit u) → ((out : List ℕ) → unfit_in_text u ≡ Some out → Delivers s t Unfit result out) → IsAnswered (GraphsAnswer given gs) s t result
unfit_answered slots given gs u s t result e stops d =
    let text = unfit_in_has_text u stops.refused.2 in
    inr (Unfit, text.0, record { unfit = u; first = subst (λ n. Stops n gs (fault.Unfit u)) e stops; says = text.1 }, d text.0 text.1)

pub short_answered : (slots given : ℕ) (gs : List LinkedGraph) (need : ℕ) (s t : SinkState) (result : Status) → slots ≡ given → Stops slots gs (fault.Slots need) → Delivers s t Slots result (slots_text need) → IsAnswered (GraphsAnswer given gs) s t result
short_answered slots given gs n s t result e stops d = inr (Slots, slots_text n, record { need = n; first = subst (λ m. Stops m gs (fault.Slots n)) e stops; says = refl }, d)

-- what is written of a graph that breaks a rule ends with no want of memory
pub no_want_in : (u : UnfitGraph) (s t : SinkState) (result : Status) → u.why ≢ refusal.NoMemory → ((out : List ℕ) → unfit_in_text u ≡ Some out → Delivers s t Unfit result out) → result ≢ NoMemory
no_want_in u s t result ne d e =
    let text = unfit_in_has_text u ne in
    elim (d text.0 text.1) [
      | inl x ↦ absurd (let y : NoMemory ≡ Unfit = sym e ∙ x.0 in cc)
      | inr x ↦ absurd (let y : NoMemory ≡ WriteFault = sym e ∙ x.0 in cc)
    ]
