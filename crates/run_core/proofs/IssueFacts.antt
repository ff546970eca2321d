-- A line is issued, stands by, and is woken, as the code does it.
use Rattle.std.proofs.Common.{◌≡◌, ℕ, ◌<◌, true, false, ◌⊎◌, inl, inr, List, [], ◌∷◌, ◌++◌, length, map, refl, sym, ◌∙◌, ap, subst, arith, Bool}
use Rattle.std.specs.Prelude.{◌≢◌, Option, Some, None, IfSome, IfNone, slice_get, slice_set}
use Rattle.std.proofs.lemmas.Bool.{true≢false, false≢true, cases_lt, false_from_ne_true}
use Rattle.std.proofs.lemmas.List.{get_or_past, get_or-set_other, length-map}
use Rattle.graph_terms.specs.declared.outcome.End.TheVariants.{Waiting}
use Rattle.graph_terms.specs.Graph.{GraphValue}
use Rattle.event_table.specs.declared.handle.Handle.{Handle}
use Rattle.event_table.specs.declared.handle.Answer.TheVariants.{Pending}
use Rattle.event_table.specs.EventMap.{answer, created_at, placed_on, next_handle, MayServe, IsFull, IsEventMap, Gives}
use Rattle.event_table.proofs.MapAnswers.{create_tells}
use Rattle.run_state.specs.Run.{LineStage, Unissued, Issued, Out, Ending, Ended, Run, stage_at, stage_issued, stage_over, stage_out, end_so_far, out, over, ended}
use Rattle.run_state.specs.Moves.{staged, issue}
use Rattle.run_state.specs.Laws.{IssueKeepsSharing}
use Rattle.run_parts.specs.LineEvents.{answer_for}
use Rattle.run_core.specs.Core.{CoreValue, IsCore}
use Rattle.lent_columns.specs.Lendings.{Lending}
use Rattle.run_lists.specs.Events.{EventsValue}
use Rattle.run_lists.specs.Stages.{shown_stage}
use Rattle.run_parts.specs.declared.progress.Progress.{Progress}
use Rattle.run_core.specs.Works.{KeepsWork}
use Rattle.run_lists.specs.Sources.{IsLeastLeft}
use Rattle.run_core.specs.Steps.{with_issue, IsLeft}
use Rattle.run_core.proofs.CoreFacts.{may_issue, core_issued, core_placed, core_woken, kept_core, may_before}
use Rattle.run_core.proofs.WorkFacts.{same_columns, keeps_work, keeps_run}
use Rattle.run_core.proofs.ReaderFacts.{numbers_same}

-- a core by its graph, its run and its events
abbrev pub core_at : Bool → List (Option Lending) → GraphValue → Run → EventsValue → CoreValue
core_at hosted lendings g run events = record { graph = g; «run» = run; handles = events.handles; table = events.table; «hosted» = hosted; «lendings» = lendings }

-- what the line's work is where the run stays
pub events_keep : (hosted : Bool) (lendings : List (Option Lending)) (g : GraphValue) (run : Run) (old after : EventsValue) (now : CoreValue) → core_at hosted lendings g run old ≡ now → (k : ℕ) → KeepsWork now (core_at hosted lendings g run after) k
events_keep hosted lendings g run old after now same k = subst (λ (v : CoreValue). KeepsWork v (core_at hosted lendings g run after) k) same (keeps_run (core_at hosted lendings g run old) after.handles after.table k)

-- ISSUING. A line is left where the handles are fewer than the lines
pub left_to_issue : (c : CoreValue) → IsCore c → length c.handles ≢ length c.run.stages → IsLeft c
left_to_issue c core differ =
    let each : length c.run.stages ≡ length c.graph.lines = (kept_core c core).sound.on_lines.each_line in
    elim (cases_lt (length c.handles) (length c.graph.lines)) [
      | inl left ↦ left
      | inr full ↦ (elim (cases_lt (length c.graph.lines) (length c.handles)) [
        | inl more ↦ absurd (false≢true (sym (ap stage_issued (get_or_past c.run.stages (length c.graph.lines) Unissued (omega (arith, each)))) ∙ ((kept_core c core).events.each_issued (length c.graph.lines)).1 more))
        | inr less ↦ absurd (differ (let same : length c.handles ≡ length c.run.stages = omega (arith, full, less, each) in same))
      ])
    ]

-- the next line has not ended
pub issue_waits : (c : CoreValue) → IsCore c → (i : ℕ) → i ≡ length c.handles → length c.handles ≢ length c.run.stages → end_so_far (stage_at c.run.stages i) ≡ Waiting
issue_waits c core i next differ = ap (λ k. end_so_far (stage_at c.run.stages k)) next ∙ ap end_so_far (may_issue c core (left_to_issue c core differ)).unissued

-- the stages as they are shown are as many as those that the code keeps
pub stages_differ : (stages : List Progress) (n i len : ℕ) → i ≡ n → len ≡ length stages → (i ≡ len → ⊥) → n ≢ length (map shown_stage stages)
stages_differ stages n i len next all differ same = differ (next ∙ (same ∙ (length-map stages shown_stage ∙ sym all)))

-- the events once a line has a new handle
abbrev pub with_handle : EventsValue → Handle → EventsValue
with_handle old h = record { handles = old.handles ++ h ∷ []; table = created_at old.table h.slot }

abbrev pub Created : EventsValue → EventsValue → Type 0
Created old after = (h : Handle) × MayServe old.table h.slot × (h ≡ next_handle old.table h.slot) × (after ≡ with_handle old h)

issue_shown : (shown : CoreValue) (hosted : Bool) (lendings : List (Option Lending)) (g : GraphValue) (run : Run) (old after : EventsValue) (i : ℕ) (h : Handle) → shown ≡ core_at hosted lendings g (staged run i Issued) after → i ≡ length old.handles → after ≡ with_handle old h → shown ≡ with_issue (core_at hosted lendings g run old) h
issue_shown shown hosted lendings g run old after i h is next made = is ∙ (ap (λ k. core_at hosted lendings g (staged run k Issued) after) next ∙ ap (core_at hosted lendings g (issue run (length old.handles))) made)

pub issued_core : IssueKeepsSharing → (shown : CoreValue) (hosted : Bool) (lendings : List (Option Lending)) (g : GraphValue) (run : Run) (old after : EventsValue) (i : ℕ) → shown ≡ core_at hosted lendings g (staged run i Issued) after → i ≡ length old.handles → IsCore (core_at hosted lendings g run old) → IsEventMap old.table → length old.handles ≢ length run.stages →
    Created old after → IsCore shown
issued_core law shown hosted lendings g run old after i is next core is_map differ made =
    let h = made.0 in
    let tells = create_tells old.table (created_at old.table h.slot) h.slot h refl made.2 made.1 in
    subst IsCore (sym (issue_shown shown hosted lendings g run old after i h is next made.3))
    (core_issued law (core_at hosted lendings g run old) core is_map (left_to_issue (core_at hosted lendings g run old) core differ) h made.1 made.2 (record { pending = tells.pending; unknown = tells.before; others = tells.others }))

pub issued_answer : (shown : CoreValue) (hosted : Bool) (lendings : List (Option Lending)) (g : GraphValue) (run : Run) (old after : EventsValue) (now : CoreValue) (i : ℕ) → core_at hosted lendings g run old ≡ now → shown ≡ core_at hosted lendings g (staged run i Issued) after → i ≡ length old.handles → IsCore (core_at hosted lendings g run old) → length old.handles ≢ length run.stages →
    Created old after → IsLeft now × (i ≡ length now.handles) × (h : Handle) × MayServe now.table h.slot × (h ≡ next_handle now.table h.slot) × (shown ≡ with_issue now h)
issued_answer shown hosted lendings g run old after now i same is next core differ made =
    subst (λ (v : CoreValue). IsLeft v × (i ≡ length v.handles) × (h : Handle) × MayServe v.table h.slot × (h ≡ next_handle v.table h.slot) × (shown ≡ with_issue v h)) same
    (left_to_issue (core_at hosted lendings g run old) core differ, next, made.0, made.1, made.2, issue_shown shown hosted lendings g run old after i made.0 is next made.3)

-- a line that is out stays so
out_still : (c : CoreValue) → IsCore c → IsLeft c → (i k : ℕ) → i ≡ length c.handles → stage_at c.run.stages k ≡ Out → stage_at (slice_set c.run.stages i Issued) k ≡ Out
out_still c core left i k next is = get_or-set_other c.run.stages i k Issued Unissued (λ e. apart (sym (ap (stage_at c.run.stages) (e ∙ next) ∙ (may_issue c core left).unissued) ∙ is)) ∙ is
  where
    apart : Unissued ≡ Out → ⊥
    apart e = cc

pub issued_works : IssueKeepsSharing → (shown : CoreValue) (hosted : Bool) (lendings : List (Option Lending)) (g : GraphValue) (run : Run) (old after : EventsValue) (now : CoreValue) (i : ℕ) → core_at hosted lendings g run old ≡ now → shown ≡ core_at hosted lendings g (staged run i Issued) after → i ≡ length old.handles → IsCore (core_at hosted lendings g run old) →
    IsEventMap old.table → length old.handles ≢ length run.stages → Created old after → (k : ℕ) → KeepsWork now shown k
issued_works law shown hosted lendings g run old after now i same is next core is_map differ made k =
    let before = core_at hosted lendings g run old in
    let new = core_at hosted lendings g (staged run i Issued) after in
    subst (λ (v : CoreValue). KeepsWork v shown k) same (subst (λ (v : CoreValue). KeepsWork before v k) (sym is)
    (keeps_work before core (staged run i Issued) lendings after.handles after.table (issued_core law new hosted lendings g run old after i refl next core is_map differ made)
    (may_before before new i Issued refl refl refl (issue_waits before core i next differ)) (numbers_same lendings) k (out_still before core (left_to_issue before core differ) i k next)
    (λ faults may is_out runs. same_columns g run (staged run i Issued) k refl)))

-- no slot is free
pub full_answer : (hosted : Bool) (lendings : List (Option Lending)) (g : GraphValue) (run : Run) (old after : EventsValue) (now : CoreValue) → core_at hosted lendings g run old ≡ now → IsCore (core_at hosted lendings g run old) → length old.handles ≢ length run.stages → IsFull old.table → after ≡ old → IsLeft now × IsFull now.table × (core_at hosted lendings g run after ≡ now)
full_answer hosted lendings g run old after now same core differ full kept =
    (subst IsLeft same (left_to_issue (core_at hosted lendings g run old) core differ), subst (λ (v : CoreValue). IsFull v.table) same full, ap (core_at hosted lendings g run) kept ∙ same)

-- STANDING BY. A line that is left is pending
not_over : (s : LineStage) → stage_over s ≡ false → end_so_far s ≡ Waiting
not_over Unissued e = refl
not_over Issued e = refl
not_over Out e = refl
not_over (Ending x) e = absurd (true≢false e)
not_over (Ended x) e = absurd (true≢false e)

left_pending : (c : CoreValue) → IsCore c → (j : ℕ) → ended c.run.stages j ≡ false → (h : Handle) → slice_get c.handles j ≡ Some h → answer c.table h ≡ Some Pending
left_pending c core j left h at =
    let open_yet = false_from_ne_true (over c.run.stages j) (λ o. true≢false (sym ((kept_core c core).at_rest.lines.none_ending j o) ∙ left)) in
    (kept_core c core).events.answers j h at ∙ ap (λ x. Some (answer_for x)) (not_over (stage_at c.run.stages j) open_yet)

pub source_pending : (before now : CoreValue) → before ≡ now → IsCore before → (i j : ℕ) → IsLeastLeft now.graph now.run.stages i j → (h : Handle) → slice_get before.handles j ≡ Some h → answer before.table h ≡ Some Pending
source_pending before now same core i j waits = left_pending before core j (subst (λ (v : CoreValue). ended v.run.stages j ≡ false) (sym same) waits.left)

-- the line was placed, or nothing changed
abbrev pub Stood : EventsValue → EventsValue → ℕ → ℕ → Type 0
Stood old after i j = (after ≡ old) ⊎ ((h : Handle) × (slice_get old.handles j ≡ Some h) × (after ≡ record { handles = old.handles; table = placed_on old.table h i }))

pub stood_core : (hosted : Bool) (lendings : List (Option Lending)) (g : GraphValue) (run : Run) (old after : EventsValue) (now : CoreValue) (i j : ℕ) → core_at hosted lendings g run old ≡ now → IsCore (core_at hosted lendings g run old) → IsLeastLeft now.graph now.run.stages i j →
    ((k : Handle) → answer after.table k ≡ answer old.table k) → Stood old after i j → IsCore (core_at hosted lendings g run after)
stood_core hosted lendings g run old after now i j same core waits answers stood = elim stood [
  | inl kept ↦ subst (λ (e : EventsValue). IsCore (core_at hosted lendings g run e)) (sym kept) core
  | inr placed ↦ (
      let pending = source_pending (core_at hosted lendings g run old) now same core i j waits placed.0 placed.1 in
      let placing : EventsValue = record { handles = old.handles; table = placed_on old.table placed.0 i } in
      subst (λ (e : EventsValue). IsCore (core_at hosted lendings g run e)) (sym placed.2)
      (core_placed (core_at hosted lendings g run old) core i j placed.0 placed.1 pending (λ k. sym (ap (λ (e : EventsValue). answer e.table k) placed.2) ∙ answers k)
      (subst (λ (v : CoreValue). IsLeastLeft v.graph v.run.stages i j) (sym same) waits).waits))
]

-- WAKING
pub woken_core : (hosted : Bool) (lendings : List (Option Lending)) (g : GraphValue) (run : Run) (old after : EventsValue) (o : Option ℕ) → IsCore (core_at hosted lendings g run old) → after.handles ≡ old.handles → IfSome o (λ k. Gives old.table k after.table × (k < old.table.waiters)) → IfNone o ((after ≡ old) × (old.table.caught ≡ [])) → IsCore (core_at hosted lendings g run after)
woken_core hosted lendings g run old after None core handles some none = subst (λ (e : EventsValue). IsCore (core_at hosted lendings g run e)) (sym none.0) core
woken_core hosted lendings g run old after (Some k) core handles some none =
    subst (λ (hs : List Handle). IsCore (core_at hosted lendings g run (record { handles = hs; table = after.table }))) (sym handles) (core_woken (core_at hosted lendings g run old) core k after.table some.0)
