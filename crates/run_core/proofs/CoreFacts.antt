-- Each step leads from a core to a core.
use Rattle.std.proofs.Common.{◌≡◌, ℕ, ◌<◌, ◌≤◌, true, false, inl, inr, List, [], length, length-set, refl, sym, ◌∙◌, ap, subst, arith}
use Rattle.std.specs.Prelude.{◌≢◌, ◌==◌, ◌&&◌, ◌↔◌, cond, Bool, Option, Some, Contains, slice_get, slice_set}
use Rattle.std.proofs.lemmas.Bool.{true≢false, false≢true, cases_lt, cases_eq, eqb-true, eq-eqb}
use Rattle.std.proofs.lemmas.List.{get_or_past, get_or-set_same, get_or-set_other, set-set, set_past}
use Rattle.std.proofs.lemmas.Option.{slice_get-get_or}
use Rattle.std.specs.Option.{option_map_or}
use Rattle.basics.proofs.ListFacts.{same_at}
use Rattle.index_spaces.specs.Column.{ColumnValue}
use Rattle.graph_terms.specs.declared.outcome.End.{End}
use Rattle.graph_terms.specs.declared.outcome.End.TheVariants.{Done, Faulted, Cancelled, Waiting}
use Rattle.graph_terms.specs.declared.verb.Edge.{Edge}
use Rattle.graph_terms.specs.Graph.{GraphValue, is_call, line_passes}
use Rattle.graph_terms.specs.Edges.{edges}
use Rattle.graph_meaning.specs.Effect.{Effects, zero_cells, effect}
use Rattle.graph_meaning.specs.Evaluation.{end_with}
use Rattle.run_state.specs.Quiet.{kept_cancels}
use Rattle.run_state.specs.Verdicts.{effect_by}
use Rattle.run_state.proofs.Public.{faults_keep_to_columns, cancelled_by_kept}
use Rattle.graph_meaning.specs.Need.{IsNeed}
use Rattle.graph_meaning.specs.Rules.{Accepted}
use Rattle.graph_terms.specs.Fits.{IsGraph}
use Rattle.event_table.specs.declared.handle.Handle.{Handle}
use Rattle.event_table.specs.declared.handle.Answer.TheVariants.{Pending}
use Rattle.event_table.specs.EventMap.{EventMap, SlotLife, answer, answer_of, fresh, created_at, placed_on, next_handle, no_event, MayServe, IsEventMap, Gives}
use Rattle.run_state.specs.Run.{LineStage, Unissued, Issued, Out, Ending, Ended, stage_at, stage_issued, stage_out, stage_ended, issued, out, ended, end_so_far}
use Rattle.run_state.specs.Moves.{claim}
use Rattle.run_state.specs.Sharing.{take_sharing, MayTakeSharingWith}
use Rattle.run_state.specs.Premises.{MayIssue, MayClaim}
use Rattle.run_state.specs.AtRest.{MayPutBackWith}
use Rattle.run_state.specs.Laws.{StartIsSound, SharingStartsAtRest, IssueKeepsSharing, ClaimOfCancelledKeepsSharing, TakeKeepsSharing, PutBackKeepsSharing}
use Rattle.run_parts.specs.LineEvents.{answer_for, WaitsFor, AreEvents, last_gen_for}
use Rattle.run_core.specs.Core.{CoreValue, unissued_by, Tells, TellsOf, MayFault, IsCoreWith, IsCore, has_faulted, kept_faults}
use Rattle.run_core.specs.Works.{FinishedValue, IsFinishedWith, IsFinished, cells_in}
use Rattle.lent_columns.specs.Lendings.{Lending}
use Rattle.run_core.specs.Readers.{AreLent, SharesTaken}
use Rattle.run_lists.specs.Holders.{HasLock}
use Rattle.run_core.specs.Steps.{with_issue, IsLeft, IsDue, HasColumns, with_run, with_lendings, with_end, handle_at, fate_for}
use Rattle.run_core.proofs.EventFacts.{TellsNew, GoesOnIssued, events_started, events_issued, events_gone, events_ended, events_placed, events_woken}
use Rattle.run_core.proofs.ReaderFacts.{change_accesses, kept_runs, out_begun, lent_same, lent_claimed, lent_taken, lent_ended, lent_first}

-- WHICH CALLS MAY FAULT: those that were said to, at least
tells_itself : (x : End) → Tells x (has_faulted x)
tells_itself Done = refl
tells_itself Faulted = refl
tells_itself Cancelled = tt
tells_itself Waiting = tt

tells_waiting : (x : End) (b : Bool) → x ≡ Waiting → Tells x b
tells_waiting x b e = subst (λ y. Tells y b) (sym e) tt

tells_hosted : (hosted b : Bool) (x : End) → hosted ≡ true → Tells x b → Tells x (hosted && b)
tells_hosted true b x e t = t
tells_hosted false b x e t = absurd (false≢true e)

not_hosted : (hosted b : Bool) → hosted ≡ false → (hosted && b) ≡ false
not_hosted true b e = absurd (false≢true (sym e))
not_hosted false b e = refl

pub kept_may : (c : CoreValue) → MayFault c (kept_faults c)
kept_may c = record {
  none = λ e i. not_hosted c.hosted (has_faulted (end_so_far (stage_at c.run.stages i))) e;
  told = λ i h l. tells_hosted c.hosted (has_faulted (end_so_far (stage_at c.run.stages i))) (end_so_far (stage_at c.run.stages i)) h (tells_itself (end_so_far (stage_at c.run.stages i)));
}

-- what holds of a core whichever these are
pub core_with : (c : CoreValue) → IsCore c → (faults : ℕ → Bool) → MayFault c faults → IsCoreWith (effect_by faults c.graph) c
core_with c core faults may = let both = core.whichever faults may in record { sound = both.0; at_rest = both.1; lent = core.lent; events = core.events; slots = core.slots }

pub all_core : (c : CoreValue) → ((faults : ℕ → Bool) → MayFault c faults → IsCoreWith (effect_by faults c.graph) c) → IsCore c
all_core c each =
    let own = each (kept_faults c) (kept_may c) in
    record { sound = own.sound; at_rest = own.at_rest; lent = own.lent; events = own.events; slots = own.slots; whichever = λ faults may. (let one = each faults may in (one.sound, one.at_rest)) }

pub kept_core : (c : CoreValue) → IsCore c → IsCoreWith (effect_by (kept_faults c) c.graph) c
kept_core c core = core_with c core (kept_faults c) (kept_may c)

-- and those that an end tells besides
abbrev ended_faults : CoreValue → FinishedValue → ℕ → Bool
ended_faults c f i = c.hosted && cond (i == f.line) (has_faulted f.ends) (has_faulted (end_so_far (stage_at c.run.stages i)))

ended_tells : (c : CoreValue) (f : FinishedValue) → stage_at c.run.stages f.line ≡ Out → (i : ℕ) (b : Bool) → (i == f.line) ≡ b →
    Tells (end_so_far (stage_at c.run.stages i)) (cond b (has_faulted f.ends) (has_faulted (end_so_far (stage_at c.run.stages i))))
ended_tells c f is i true e = tells_waiting (end_so_far (stage_at c.run.stages i)) (has_faulted f.ends) (ap (λ k. end_so_far (stage_at c.run.stages k)) (eqb-true i f.line e) ∙ ap end_so_far is)
ended_tells c f is i false e = tells_itself (end_so_far (stage_at c.run.stages i))

pub kept_finished : (c : CoreValue) (f : FinishedValue) → IsFinished c f → (faults : ℕ → Bool) × MayFault c faults × IsFinishedWith (effect_by faults c.graph) c f
kept_finished c f is = (
  ended_faults c f,
  may,
  is.evaluated (ended_faults c f) may (λ h l. tells_hosted c.hosted (cond (f.line == f.line) (has_faulted f.ends) (has_faulted (end_so_far (stage_at c.run.stages f.line)))) f.ends h
      (subst (λ b. Tells f.ends (cond b (has_faulted f.ends) (has_faulted (end_so_far (stage_at c.run.stages f.line))))) (sym (eq-eqb f.line f.line refl)) (tells_itself f.ends))),
)
  where
    may : MayFault c (ended_faults c f)
    may = record {
      none = λ e i. not_hosted c.hosted (cond (i == f.line) (has_faulted f.ends) (has_faulted (end_so_far (stage_at c.run.stages i)))) e;
      told = λ i h l. tells_hosted c.hosted (cond (i == f.line) (has_faulted f.ends) (has_faulted (end_so_far (stage_at c.run.stages i)))) (end_so_far (stage_at c.run.stages i)) h
          (ended_tells c f is.is_out i (i == f.line) refl);
    }

-- the calls that may fault after a line has gone on, which had not ended, are among those that might before
pub may_before : (c d : CoreValue) (i : ℕ) (s : LineStage) → d.hosted ≡ c.hosted → d.graph ≡ c.graph → d.run.stages ≡ slice_set c.run.stages i s → end_so_far (stage_at c.run.stages i) ≡ Waiting →
    (faults : ℕ → Bool) → MayFault d faults → MayFault c faults
may_before c d i s hosted graph stages waits faults may = record {
  none = λ e. may.none (hosted ∙ e);
  told = λ k h l. elim (cases_eq k i) [
    | inl same ↦ tells_waiting (end_so_far (stage_at c.run.stages k)) (faults k) (ap (λ j. end_so_far (stage_at c.run.stages j)) same ∙ waits)
    | inr other ↦ subst (λ x. Tells x (faults k)) (ap (λ ss. end_so_far (stage_at ss k)) stages ∙ ap end_so_far (get_or-set_other c.run.stages i k s Unissued other))
        (may.told k (hosted ∙ h) (subst (λ g. line_passes is_call g k ≡ true) (sym graph) l))
  ];
}

-- where no call can fault, a core is one for the effects of the graph's verbs
pub unhosted_core : (c : CoreValue) → c.hosted ≡ false → IsCoreWith (effect c.graph) c → IsCore c
unhosted_core c e core = all_core c (λ faults may. subst (λ (fs : ℕ → Bool). IsCoreWith (effect_by fs c.graph) c) (λ t i. sym (may.none e i) t) core)

-- BEFORE ANY LINE IS ISSUED
pub core_unissued : StartIsSound → SharingStartsAtRest → (hosted : Bool) (g : GraphValue) (slots : ℕ) → IsGraph g → Accepted g → ((n : ℕ) → IsNeed g n → n ≤ slots) → length (fresh slots (length g.lines) (last_gen_for (length g.lines))).slots ≡ slots → IsCore (unissued_by hosted g slots)
core_unissued sound rest hosted g slots f a enough long = all_core (unissued_by hosted g slots) (λ faults may. record {
  «sound» = sound (effect_by faults g) g f a (faults_keep_to_columns faults g);
  at_rest = rest (effect_by faults g) g f a;
  lent = lent_first g (unissued_by hosted g slots).run.stages (λ k. ap stage_out (same_at Unissued (length g.lines) k));
  events = events_started g slots;
  «slots» = λ n is. subst (λ k. n ≤ k) (sym long) (enough n is);
})

-- A LINE AT ANOTHER STAGE
module _ (stages : List LineStage) (i : ℕ) (s : LineStage) where
  pub out_apart : (k : ℕ) → k ≢ i → out (slice_set stages i s) k ≡ out stages k
  out_apart k other = ap stage_out (get_or-set_other stages i k s Unissued other)

  pub out_here : i < length stages → out (slice_set stages i s) i ≡ stage_out s
  out_here near = ap stage_out (get_or-set_same stages i s Unissued near)

  -- before and after which it is not out
  out_else : out stages i ≡ false → stage_out s ≡ false → (k : ℕ) → out (slice_set stages i s) k ≡ out stages k
  out_else before after k = elim (cases_eq k i) [
    | inl here ↦ elim (cases_lt i (length stages)) [
      | inl near ↦ ap (out (slice_set stages i s)) here ∙ (out_here near ∙ (after ∙ (sym before ∙ ap (out stages) (sym here))))
      | inr far ↦ ap (λ ss. out ss k) (set_past stages i s far)
    ]
    | inr other ↦ out_apart k other
  ]

-- A LINE IS ISSUED
unissued_is : (s : LineStage) → stage_issued s ≡ false → s ≡ Unissued
unissued_is Unissued h = refl
unissued_is Issued h = absurd (true≢false h)
unissued_is Out h = absurd (true≢false h)
unissued_is (Ending x) h = absurd (true≢false h)
unissued_is (Ended x) h = absurd (true≢false h)

false_unless : (b : Bool) → (b ≡ true → ⊥) → b ≡ false
false_unless true n = absurd (n refl)
false_unless false n = refl

pub may_issue : (c : CoreValue) → IsCore c → IsLeft c → MayIssue c.graph c.run (length c.handles)
may_issue c core left = record {
  is_line = left;
  unissued = unissued_is (stage_at c.run.stages (length c.handles)) (false_unless (issued c.run.stages (length c.handles)) (λ h. (let b : length c.handles < length c.handles = ((kept_core c core).events.each_issued (length c.handles)).0 h in omega (arith, b))));
  before = λ j l. ((kept_core c core).events.each_issued j).1 l;
}

pub core_issued : IssueKeepsSharing → (c : CoreValue) → IsCore c → IsEventMap c.table → IsLeft c → (h : Handle) → MayServe c.table h.slot → h ≡ next_handle c.table h.slot → TellsNew c.table (created_at c.table h.slot) h → IsCore (with_issue c h)
core_issued law c core is_map left h may next tells = all_core (with_issue c h) (λ faults fits. let k = core_with c core faults (may_before c (with_issue c h) (length c.handles) Issued refl refl refl (ap end_so_far (may_issue c core left).unissued) faults fits) in
    let kept = law (effect_by faults c.graph) c.graph c.run (length c.handles) k.sound k.at_rest (may_issue c core left) in
    record {
      sound = kept.0;
      at_rest = kept.1;
      lent = lent_same k.sound kept.0 (out_else c.run.stages (length c.handles) Issued (ap stage_out (may_issue c core left).unissued) refl) c.lendings k.lent;
      events = events_issued c.graph c.run.stages c.handles c.table (created_at c.table h.slot) k.events is_map h refl next may tells k.sound.on_lines.each_line left;
      slots = λ n is. subst (λ k. n ≤ k) (sym (length-set c.table.slots h.slot _)) (k.slots n is);
    })

-- A LINE IS TAKEN
pub line_near : (c : CoreValue) → IsCore c → (i : ℕ) → stage_issued (stage_at c.run.stages i) ≡ true → i < length c.run.stages
line_near c core i h = elim (cases_lt i (length c.run.stages)) [
  | inl b ↦ b
  | inr far ↦ absurd (false≢true (sym (ap stage_issued (get_or_past c.run.stages i Unissued far)) ∙ h))
]

pub sources_of : (c : CoreValue) (i : ℕ) → IsDue c.graph c.run i → (e : Edge) → Contains (edges c.graph) e → e.to ≡ i → ended c.run.stages e.from ≡ true
sources_of c i due e in_graph to = due.sources e.from (e, in_graph, refl, to)

pub may_claim : (c : CoreValue) (i : ℕ) → IsDue c.graph c.run i → MayClaim c.graph c.run i
may_claim c i due = record { is_issued = due.is_issued; comes = due.comes; sources = sources_of c i due }

-- whether a line that is due is cancelled, by the ends that are kept
pub due_cancelled : (c : CoreValue) → IsCore c → (i : ℕ) → IsDue c.graph c.run i → (faults : ℕ → Bool) → MayFault c faults →
    (kept_cancels c.graph c.run.stages i ≡ true) ↔ (end_with (effect_by faults c.graph) zero_cells c.graph i ≡ Cancelled)
due_cancelled c core i due faults may =
    let s = (core_with c core faults may).sound in
    cancelled_by_kept (effect_by faults c.graph) c.graph c.run i s (subst (λ n. i < n) s.on_lines.each_line (line_near c core i (ap stage_issued due.is_issued))) due.comes (sources_of c i due)

-- a line that may be taken whichever calls may fault
abbrev pub MayTakeAny : CoreValue → ℕ → Type 0
MayTakeAny c i = (faults : ℕ → Bool) → MayFault c faults → MayTakeSharingWith (effect_by faults c.graph) c.graph c.run i

pub may_take : (c : CoreValue) → IsCore c → (i : ℕ) → IsDue c.graph c.run i → kept_cancels c.graph c.run.stages i ≡ false → HasLock c.graph c.run.holders i → HasColumns c.graph c.run i → MayTakeAny c i
may_take c core i due runs lock columns faults may = record {
  whole = record {
    is_issued = due.is_issued;
    comes = due.comes;
    sources = sources_of c i due;
    not_cancelled = λ e. true≢false (sym ((due_cancelled c core i due faults may).1 e) ∙ runs);
    lock_free = lock;
    at_home = λ k a. (columns k a).0;
  };
  unread = λ k j changes is_out going reads. (columns k (change_accesses c.graph i k changes)).1 changes j
      (record { «is_out» = is_out; «reads» = reads; runs = kept_runs (core_with c core faults may).sound j (out_begun c.run.stages j is_out) going });
}

pub taken_issued : (c : CoreValue) (i : ℕ) → MayTakeAny c i → stage_at c.run.stages i ≡ Issued
taken_issued c i may = (may (kept_faults c) (kept_may c)).whole.is_issued

goes_out : (s : LineStage) → s ≡ Issued → GoesOnIssued s Out
goes_out s e = subst (λ x. GoesOnIssued x Out) (sym e) (record { was_issued = refl; is_issued = refl; was_left = refl; is_left = refl; same = refl })

events_out : (c : CoreValue) → IsCore c → (i : ℕ) → stage_at c.run.stages i ≡ Issued → AreEvents c.graph (slice_set c.run.stages i Out) c.handles c.table
events_out c core i is = events_gone c.graph c.run.stages c.handles c.table i Out (line_near c core i (ap stage_issued is)) (goes_out (stage_at c.run.stages i) is) (kept_core c core).events

pub core_claimed : ClaimOfCancelledKeepsSharing → (c : CoreValue) → IsCore c → (i : ℕ) → IsDue c.graph c.run i → kept_cancels c.graph c.run.stages i ≡ true → IsCore (with_run c (claim c.run i))
core_claimed law c core i due cancelled = all_core (with_run c (claim c.run i)) (λ faults fits. let may = may_before c (with_run c (claim c.run i)) i Out refl refl refl (ap end_so_far due.is_issued) faults fits in
    let k = core_with c core faults may in
    let kept = law (effect_by faults c.graph) c.graph c.run i k.sound k.at_rest (may_claim c i due) ((due_cancelled c core i due faults may).0 cancelled) in
    record {
      sound = kept.0;
      at_rest = kept.1;
      lent = lent_claimed k.sound kept.0 i (ap stage_out due.is_issued) (out_here c.run.stages i Out (line_near c core i (ap stage_issued due.is_issued))) ((due_cancelled c core i due faults may).0 cancelled) (out_apart c.run.stages i Out) c.lendings k.lent;
      events = events_out c core i due.is_issued;
      slots = k.slots;
    })

pub core_taken : TakeKeepsSharing → (c : CoreValue) → IsCore c → (i : ℕ) → MayTakeAny c i → (lendings : List (Option Lending)) → SharesTaken c.graph i c.lendings lendings → IsCore (with_lendings (with_run c (take_sharing c.graph c.run i)) lendings)
core_taken law c core i takes lendings shares = all_core (with_lendings (with_run c (take_sharing c.graph c.run i)) lendings) (λ faults fits. let is = taken_issued c i takes in
    let may = may_before c (with_lendings (with_run c (take_sharing c.graph c.run i)) lendings) i Out refl refl refl (ap end_so_far is) faults fits in
    let k = core_with c core faults may in
    let kept = law (effect_by faults c.graph) c.graph c.run i k.sound k.at_rest (takes faults may) in
    let near = line_near c core i (ap stage_issued is) in
    record {
      sound = kept.0;
      at_rest = kept.1;
      lent = lent_taken k.sound kept.0 i (subst (λ n. i < n) k.sound.on_lines.each_line near) (ap stage_out is) (out_here c.run.stages i Out near) (takes faults may).whole.not_cancelled (out_apart c.run.stages i Out) c.lendings lendings k.lent shares;
      events = events_out c core i is;
      slots = k.slots;
    })

-- A LINE IS PUT BACK
pub may_put : {does : Effects} (c : CoreValue) (f : FinishedValue) → IsFinishedWith does c f → MayPutBackWith does c.graph c.run f.line f.ends (cells_in f.held)
may_put c f is = record {
  is_out = is.is_out;
  is_end = is.is_end;
  leaves = λ k a runs. ap (λ (o : Option ColumnValue). option_map_or (λ (x : ColumnValue). x.cells) o []) ((is.holds (λ e. runs (is.is_end ∙ e))).has k a);
}

out_line : (c : CoreValue) → IsCore c → (i : ℕ) → stage_at c.run.stages i ≡ Out → i < length c.handles
out_line c core i is = ((kept_core c core).events.each_issued i).0 (ap stage_issued is)

pub handle_is : (c : CoreValue) (i : ℕ) → i < length c.handles → slice_get c.handles i ≡ Some (handle_at c i)
handle_is c i l = slice_get-get_or c.handles i no_event l

pub handle_pending : (c : CoreValue) → IsCore c → (i : ℕ) → stage_at c.run.stages i ≡ Out → answer c.table (handle_at c i) ≡ Some Pending
handle_pending c core i is = (kept_core c core).events.answers i (handle_at c i) (handle_is c i (out_line c core i is)) ∙ ap (λ s. Some (answer_for (end_so_far s))) is

fate_is : (x : End) → (x ≡ Waiting → ⊥) → answer_of (fate_for x) ≡ answer_for x
fate_is Done n = refl
fate_is Faulted n = refl
fate_is Cancelled n = refl
fate_is Waiting n = absurd (n refl)

-- what the calls that may fault after it tell of its end
pub ended_told : (c : CoreValue) → IsCore c → (f : FinishedValue) → stage_at c.run.stages f.line ≡ Out → (faults : ℕ → Bool) → MayFault (with_end c f) faults → TellsOf c f.line f.ends faults
ended_told c core f is_out faults fits h l = subst (λ x. Tells x (faults f.line))
    (ap (λ ss. end_so_far (stage_at ss f.line)) (set-set c.run.stages f.line (Ending f.ends) (Ended f.ends)) ∙ ap end_so_far (get_or-set_same c.run.stages f.line (Ended f.ends) Unissued (line_near c core f.line (ap stage_issued is_out))))
    (fits.told f.line h l)

pub core_ended : PutBackKeepsSharing → (c : CoreValue) → IsCore c → (f : FinishedValue) → IsFinished c f → (f.ends ≡ Waiting → ⊥) →
    answer (with_end c f).table (handle_at c f.line) ≡ Some (answer_of (fate_for f.ends)) → ((k : Handle) → k ≢ handle_at c f.line → answer (with_end c f).table k ≡ answer c.table k) → IsCore (with_end c f)
core_ended law c core f is waits here others = all_core (with_end c f) (λ faults fits. let twice = set-set c.run.stages f.line (Ending f.ends) (Ended f.ends) in
    let may = may_before c (with_end c f) f.line (Ended f.ends) refl refl twice (ap end_so_far is.is_out) faults fits in
    let told = ended_told c core f is.is_out faults fits in
    let k = core_with c core faults may in
    let kept = law (effect_by faults c.graph) c.graph c.run f.line f.ends (cells_in f.held) k.sound k.at_rest (may_put c f (is.evaluated faults may told)) in
    record {
      sound = kept.0;
      at_rest = kept.1;
      lent = lent_ended k.sound kept.0 f.line (subst (λ n. f.line < n) k.sound.on_lines.each_line (line_near c core f.line (ap stage_issued is.is_out))) (ap stage_out is.is_out)
          (ap (λ ss. out ss f.line) twice ∙ out_here c.run.stages f.line (Ended f.ends) (line_near c core f.line (ap stage_issued is.is_out)))
          f.ends (is.evaluated faults may told).is_end (λ j other. ap (λ ss. out ss j) twice ∙ out_apart c.run.stages f.line (Ended f.ends) j other) c.lendings k.lent;
      events = subst (λ ss. AreEvents c.graph ss c.handles (with_end c f).table) (sym (set-set c.run.stages f.line (Ending f.ends) (Ended f.ends)))
          (events_ended c.graph c.run.stages c.handles c.table (with_end c f).table k.events f.line (handle_at c f.line) f.ends (fate_for f.ends) (handle_is c f.line (out_line c core f.line is.is_out)) refl
          (line_near c core f.line (ap stage_issued is.is_out)) (ap stage_ended is.is_out) (handle_pending c core f.line is.is_out) (fate_is f.ends waits) others here);
      slots = λ n need. subst (λ k. n ≤ k) (sym (length-set c.table.slots (handle_at c f.line).slot _)) (k.slots n need);
    })

-- A LINE STANDS BY, AND IS WOKEN
abbrev with_table : CoreValue → EventMap → CoreValue
with_table c table = record { graph = c.graph; run = c.run; handles = c.handles; «table» = table; hosted = c.hosted; lendings = c.lendings }

with_may : (c : CoreValue) (table : EventMap) (faults : ℕ → Bool) → MayFault (with_table c table) faults → MayFault c faults
with_may c table faults may = record { none = may.none; told = may.told }

pub core_placed : (c : CoreValue) → IsCore c → (i j : ℕ) (h : Handle) → slice_get c.handles j ≡ Some h → answer c.table h ≡ Some Pending → ((k : Handle) → answer (placed_on c.table h i) k ≡ answer c.table k) → WaitsFor c.graph i j → IsCore (with_table c (placed_on c.table h i))
core_placed c core i j h at pending same waits = all_core (with_table c (placed_on c.table h i)) (λ faults fits. let k = core_with c core faults (with_may c (placed_on c.table h i) faults fits) in record {
  sound = k.sound;
  at_rest = k.at_rest;
  lent = k.lent;
  events = events_placed c.graph c.run.stages c.handles c.table (placed_on c.table h i) k.events i j h at refl pending same waits;
  slots = λ n need. subst (λ k. n ≤ k) (sym (length-set c.table.slots h.slot _)) (k.slots n need);
})

pub core_woken : (c : CoreValue) → IsCore c → (k : ℕ) (table : EventMap) → Gives c.table k table → IsCore (with_table c table)
core_woken c core k table gives = all_core (with_table c table) (λ faults fits. let now = core_with c core faults (with_may c table faults fits) in record {
  sound = now.sound;
  at_rest = now.at_rest;
  lent = now.lent;
  events = events_woken c.graph c.run.stages c.handles c.table table k gives now.events;
  slots = λ n need. subst (λ (ls : List SlotLife). n ≤ length ls) (sym gives.4) (now.slots n need);
})
