-- A line that is taken, as the code takes it.
use Rattle.std.proofs.Common.{Bool, ◌≡◌, ℕ, ◌<◌, true, false, inl, inr, List, [], map, length, refl, sym, ◌∙◌, ap, subst}
use Rattle.std.specs.Prelude.{◌≢◌, Option, Some, None, IsSome, slice_index, slice_index_or, slice_set}
use Rattle.std.proofs.lemmas.Bool.{true≢false, false≢true, false_from_ne_true, cases_eq, cases_lt}
use Rattle.std.proofs.lemmas.List.{map-set, get_or-set_same, get_or-set_other, set_past}
use Rattle.index_spaces.specs.Column.{ColumnValue}
use Rattle.graph_terms.specs.declared.outcome.End.TheVariants.{Waiting}
use Rattle.graph_terms.specs.Graph.{GraphValue, columns}
use Rattle.graph_terms.specs.Fits.{IsGraph}
use Rattle.graph_meaning.specs.Effect.{Effects}
use Rattle.run_state.specs.Quiet.{kept_cancels}
use Rattle.run_state.specs.Verdicts.{effect_by}
use Rattle.index_spaces.specs.Held.{HeldList, held_at, lending_at}
use Rattle.run_state.specs.Run.{Run, Unissued, Issued, Out, Home, end_so_far, stage_at, place_at, stage_issued, stage_out, out, is_listed, list_at, stage_started}
use Rattle.run_state.specs.Sound.{AccessesColumn}
use Rattle.run_state.specs.WholeLine.{lock_of, all_had, holders_with}
use Rattle.run_state.specs.Sharing.{ChangesColumn, changed_list, take_sharing, MayTakeSharingWith}
use Rattle.lent_columns.specs.Lendings.{Lending, SharedValue, column_in, lending_in, number_of}
use Rattle.lent_columns.specs.Moved.{AreTaken}
use Rattle.run_state.proofs.Public.{column_there}
use Rattle.run_state.specs.Moves.{staged, claim}
use Rattle.run_state.specs.Laws.{ClaimOfCancelledKeepsSharing, TakeKeepsSharing}
use Rattle.run_core.specs.Core.{CoreValue, MayFault, IsCore, kept_faults}
use Rattle.run_lists.specs.Events.{EventsValue}
use Rattle.run_core.specs.Readers.{SharesTaken}
use Rattle.run_core.specs.Works.{WorkValue, column_now, IsWork, KeepsWork}
use Rattle.run_lists.specs.Holders.{HasLock, holders_by}
use Rattle.run_core.specs.Steps.{IsDue, IsAtHome, HasColumns, with_run, with_lendings, Takes}
use Rattle.run_lists.specs.Stages.{ends_so_far, shown_stage}
use Rattle.run_lists.specs.Columns.{takers_with}
use Rattle.run_core.specs.Kept.{place_of, places_of, past_of, run_by, shown_core, AreKept}
use Rattle.run_parts.specs.declared.progress.Progress.{Progress}
use Rattle.run_parts.specs.declared.progress.Progress.TheVariants as progress
use Rattle.run_core.proofs.CoreFacts.{core_claimed, core_taken, may_take, line_near, MayTakeAny, taken_issued, due_cancelled, kept_core, kept_may, may_before, core_with}
use Rattle.run_core.proofs.WorkFacts.{core_of, same_columns, keeps_work}
use Rattle.run_core.proofs.PlaceFacts.{place_is, is_there}
use Rattle.run_core.proofs.ColumnFacts.{taken_places, taken_kept, taken_has, taken_only, taken_own, taken_shares, taken_lendings, length-takers}
use Rattle.run_core.proofs.ReaderFacts.{numbers_same, numbers_taken}

-- the ends that are kept stay where a line that has not ended goes on to a stage before its end
abbrev pub not_ended : Progress → Bool
not_ended progress.Unissued = true
not_ended progress.Issued = true
not_ended progress.Out = true
not_ended (progress.Ended x) = false

waits_before_end : (p : Progress) → not_ended p ≡ true → end_so_far (shown_stage p) ≡ Waiting
waits_before_end progress.Unissued e = refl
waits_before_end progress.Issued e = refl
waits_before_end progress.Out e = refl
waits_before_end (progress.Ended x) e = absurd (false≢true e)

pub ends_stay : (stages : List Progress) (i : ℕ) (p : Progress) → not_ended p ≡ true → end_so_far (stage_at (map shown_stage stages) i) ≡ Waiting → ends_so_far (map shown_stage (slice_set stages i p)) ≡ ends_so_far (map shown_stage stages)
ends_stay stages i p goes waits = λ t k. same k t
  where
    set : (k : ℕ) → ends_so_far (map shown_stage (slice_set stages i p)) k ≡ ends_so_far (slice_set (map shown_stage stages) i (shown_stage p)) k
    set k = ap (λ ss. ends_so_far ss k) (map-set shown_stage stages i p)

    same : (k : ℕ) → ends_so_far (map shown_stage (slice_set stages i p)) k ≡ ends_so_far (map shown_stage stages) k
    same k = set k ∙ elim (cases_eq k i) [
      | inl here ↦ elim (cases_lt i (length (map shown_stage stages))) [
        | inl near ↦ ap (ends_so_far (slice_set (map shown_stage stages) i (shown_stage p))) here
            ∙ (ap end_so_far (get_or-set_same (map shown_stage stages) i (shown_stage p) Unissued near) ∙ (waits_before_end p goes ∙ (sym waits ∙ ap (ends_so_far (map shown_stage stages)) (sym here))))
        | inr far ↦ ap (λ ss. ends_so_far ss k) (set_past (map shown_stage stages) i (shown_stage p) far)
      ]
      | inr other ↦ ap end_so_far (get_or-set_other (map shown_stage stages) i k (shown_stage p) Unissued other)
    ]

-- another stage of a line, as it is shown
pub staged_shown : (hosted : Bool) (g : GraphValue) (stages : List Progress) (events : EventsValue) (homes : SharedValue) (takers values : List ℕ) (marks : List Bool) (trace : List ℕ) (i : ℕ) (p : Progress) →
    not_ended p ≡ true → end_so_far (stage_at (map shown_stage stages) i) ≡ Waiting → shown_core hosted g (slice_set stages i p) events homes takers values marks trace
    ≡ with_run (shown_core hosted g stages events homes takers values marks trace) (staged (shown_core hosted g stages events homes takers values marks trace).run i (shown_stage p))
staged_shown hosted g stages events homes takers values marks trace i p goes waits =
    ap (λ ends. core_of hosted homes.lendings g (run_by (past_of g ends trace) (map shown_stage (slice_set stages i p)) (places_of homes.columns takers) values (holders_by g marks)) events.handles events.table) (ends_stay stages i p goes waits)
    ∙ ap (λ ss. with_run (shown_core hosted g stages events homes takers values marks trace) (record (shown_core hosted g stages events homes takers values marks trace).run { stages = ss })) (map-set shown_stage stages i p)

-- the claim of a line that is cancelled
pub claimed_core : ClaimOfCancelledKeepsSharing → (before after now : CoreValue) (i : ℕ) → before ≡ now → after ≡ with_run before (claim before.run i) → IsCore before → IsDue now.graph now.run i → kept_cancels now.graph now.run.stages i ≡ true → IsCore after
claimed_core law before after now i same is core due cancelled =
    subst IsCore (sym is) (core_claimed law before core i (subst (λ (c : CoreValue). IsDue c.graph c.run i) (sym same) due) (subst (λ (c : CoreValue). kept_cancels c.graph c.run.stages i ≡ true) (sym same) cancelled))

-- a line that is issued waits, as it is shown
pub due_waits : (before now : CoreValue) (i : ℕ) → before ≡ now → IsDue now.graph now.run i → end_so_far (stage_at before.run.stages i) ≡ Waiting
due_waits before now i same due = subst (λ (c : CoreValue). end_so_far (stage_at c.run.stages i) ≡ Waiting) (sym same) (ap end_so_far due.is_issued)

-- the calls that may fault once a line is out might before
out_before : (c : CoreValue) (run : Run) (lendings : List (Option Lending)) (i : ℕ) → stage_at c.run.stages i ≡ Issued → run.stages ≡ slice_set c.run.stages i Out → (faults : ℕ → Bool) → MayFault (with_lendings (with_run c run) lendings) faults → MayFault c faults
out_before c run lendings i is stages = may_before c (with_lendings (with_run c run) lendings) i Out refl refl stages (ap end_so_far is)

-- a line that was out is out still, where another one goes out
out_still : (c : CoreValue) (i k : ℕ) → stage_at c.run.stages i ≡ Issued → stage_at c.run.stages k ≡ Out → stage_at (slice_set c.run.stages i Out) k ≡ Out
out_still c i k issued is = get_or-set_other c.run.stages i k Out Unissued (λ e. apart (sym issued ∙ (ap (stage_at c.run.stages) (sym e) ∙ is))) ∙ is
  where
    apart : Issued ≡ Out → ⊥
    apart e = cc

claim_works : (c : CoreValue) → IsCore c → (i : ℕ) → IsDue c.graph c.run i → kept_cancels c.graph c.run.stages i ≡ true → IsWork (with_run c (claim c.run i)) (record { line = i; is_cancelled = true; held = [] })
claim_works c core i due cancelled faults fits = record {
  is_out = get_or-set_same c.run.stages i Out Unissued (line_near c core i (ap stage_issued due.is_issued));
  cancelled = (λ _. (due_cancelled c core i due faults (out_before c (claim c.run i) c.lendings i due.is_issued refl faults fits)).0 cancelled, λ _. refl);
  nothing = λ _ k. refl;
  holds = λ e. absurd (true≢false e);
}

claim_takes : (c : CoreValue) → IsCore c → (i : ℕ) → IsDue c.graph c.run i → kept_cancels c.graph c.run.stages i ≡ true → Takes c (with_run c (claim c.run i)) (record { line = i; is_cancelled = true; held = [] })
claim_takes c core i due cancelled = record {
  «due» = due;
  claimed = λ _. refl;
  taken = λ runs. absurd (true≢false (sym cancelled ∙ runs));
  work = claim_works c core i due cancelled;
}

pub claimed_takes : (before after now : CoreValue) (i : ℕ) (w : WorkValue) → before ≡ now → after ≡ with_run before (claim before.run i) → IsCore before → IsDue now.graph now.run i → kept_cancels now.graph now.run.stages i ≡ true → w ≡ record { line = i; is_cancelled = true; held = [] } → Takes now after w
claimed_takes before after now i w same is core due cancelled work =
    subst (λ (v : CoreValue). Takes v after w) same (subst (λ (v : CoreValue). Takes before v w) (sym is) (subst (Takes before (with_run before (claim before.run i))) (sym work)
    (claim_takes before core i (subst (λ (c : CoreValue). IsDue c.graph c.run i) (sym same) due) (subst (λ (c : CoreValue). kept_cancels c.graph c.run.stages i ≡ true) (sym same) cancelled))))

pub claimed_works : ClaimOfCancelledKeepsSharing → (before after now : CoreValue) (i : ℕ) → before ≡ now → after ≡ with_run before (claim before.run i) → IsCore before → IsDue now.graph now.run i → kept_cancels now.graph now.run.stages i ≡ true → (k : ℕ) → KeepsWork now after k
claimed_works law before after now i same is core due cancelled k =
    let is_issued : stage_at before.run.stages i ≡ Issued = subst (λ (c : CoreValue). stage_at c.run.stages i ≡ Issued) (sym same) due.is_issued in
    let next = claimed_core law before (with_run before (claim before.run i)) now i same refl core due cancelled in
    subst (λ (v : CoreValue). KeepsWork v after k) same (subst (λ (v : CoreValue). KeepsWork before v k) (sym is)
    (keeps_work before core (claim before.run i) before.lendings before.handles before.table next (out_before before (claim before.run i) before.lendings i is_issued refl) (numbers_same before.lendings) k
    (out_still before i k is_issued) (λ faults may is_out runs. same_columns before.graph before.run (claim before.run i) k refl)))

-- A LINE WITH ITS COLUMNS, as it is shown
pub taken_shown : (hosted : Bool) (g : GraphValue) (stages : List Progress) (events : EventsValue) (homes homes' : SharedValue) (takers takers' values : List ℕ) (marks marks' : List Bool) (trace : List ℕ) (i : ℕ) →
    end_so_far (stage_at (map shown_stage stages) i) ≡ Waiting → places_of homes'.columns takers' ≡ all_had (places_of homes.columns takers) i (changed_list g i) → holders_by g marks' ≡ holders_with (holders_by g marks) i (lock_of g i) →
    shown_core hosted g (slice_set stages i progress.Out) events homes' takers' values marks' trace
    ≡ with_lendings (with_run (shown_core hosted g stages events homes takers values marks trace) (take_sharing g (shown_core hosted g stages events homes takers values marks trace).run i)) homes'.lendings
taken_shown hosted g stages events homes homes' takers takers' values marks marks' trace i waits places held =
    ap (λ ends. core_of hosted homes'.lendings g (run_by (past_of g ends trace) (map shown_stage (slice_set stages i progress.Out)) (places_of homes'.columns takers') values (holders_by g marks')) events.handles events.table) (ends_stay stages i progress.Out refl waits)
    ∙ (ap (λ ss. core_of hosted homes'.lendings g (run_by (past_of g (ends_so_far (map shown_stage stages)) trace) ss (places_of homes'.columns takers') values (holders_by g marks')) events.handles events.table) (map-set shown_stage stages i progress.Out)
    ∙ (ap (λ ps. core_of hosted homes'.lendings g (run_by (past_of g (ends_so_far (map shown_stage stages)) trace) (slice_set (map shown_stage stages) i Out) ps values (holders_by g marks')) events.handles events.table) places
    ∙ ap (λ hs. core_of hosted homes'.lendings g (run_by (past_of g (ends_so_far (map shown_stage stages)) trace) (slice_set (map shown_stage stages) i Out) (all_had (places_of homes.columns takers) i (changed_list g i)) values hs) events.handles events.table) held))

-- what is asked of the run before is asked of the value
pub may_take_now : (before now : CoreValue) (i : ℕ) → before ≡ now → IsCore before → IsDue now.graph now.run i → kept_cancels now.graph now.run.stages i ≡ false → HasLock now.graph now.run.holders i → HasColumns now.graph now.run i → MayTakeAny before i
may_take_now before now i same core due runs lock columns = subst (λ (c : CoreValue). MayTakeAny c i) (sym same) (may_take now (subst IsCore same core) i due runs lock columns)

-- what it needs whichever calls may fault
pub takes_now : (c : CoreValue) (i : ℕ) → MayTakeAny c i → MayTakeSharingWith (effect_by (kept_faults c) c.graph) c.graph c.run i
takes_now c i may = may (kept_faults c) (kept_may c)

pub not_holding : (c : CoreValue) → IsCore c → (i : ℕ) → MayTakeAny c i → (l : ℕ) → is_listed (list_at c.run.holders l) i ≡ false
not_holding c core i may l = false_from_ne_true (is_listed (list_at c.run.holders l) i) (λ h. true≢false (sym ((kept_core c core).sound.on_locks.holder_started l i h) ∙ ap stage_started (taken_issued c i may)))

pub taken_core : TakeKeepsSharing → (before after : CoreValue) (i : ℕ) (lendings : List (Option Lending)) → SharesTaken before.graph i before.lendings lendings → after ≡ with_lendings (with_run before (take_sharing before.graph before.run i)) lendings → IsCore before → MayTakeAny before i → IsCore after
taken_core law before after i lendings shares is core may = subst IsCore (sym is) (core_taken law before core i may lendings shares)

pub column_eq : (x y : ColumnValue) → x.space ≡ y.space → x.cells ≡ y.cells → x ≡ y
column_eq x y a b = λ t. record { space = a t; cells = b t }

-- what a line holds of the columns that it took
module _ (c : CoreValue) (core : IsCore c) (i : ℕ) (takes : MayTakeAny c i) (homes : SharedValue) (takers : List ℕ) (shows : c.run.places ≡ places_of homes.columns takers) (kept : AreKept c.graph homes takers)
    (faults : ℕ → Bool) (may : MayFault c faults)
  where
    abbrev does : Effects
    does = effect_by faults c.graph

    near : (k : ℕ) → AccessesColumn c.graph i k → k < length homes.columns
    near k a = subst (λ n. k < n) (sym kept.each_home) (column_there (core_with c core faults may).sound.graph i k a)

    same_length : length homes.columns ≡ length takers
    same_length = kept.each_home ∙ sym kept.each_taker

    by_place : (k : ℕ) (o : Option ColumnValue) → column_in homes k ≡ o → IsSome o → AccessesColumn c.graph i k → o ≡ Some (column_now does c k)
    by_place k None e s a = absurd (true≢false (sym s))
    by_place k (Some x) e s a =
        let at : place_at c.run.places k ≡ Home x.cells = ap (λ ps. place_at ps k) shows ∙ (place_is homes.columns takers k same_length (near k a) ∙ ap (λ o. place_of o (slice_index takers k)) e) in
        ap Some (column_eq x (column_now does c k) (kept.spaces k x e) ((core_with c core faults may).sound.on_columns.cells k x.cells at))

    column_is : (k : ℕ) → AccessesColumn c.graph i k → column_in homes k ≡ Some (column_now does c k)
    column_is k a = by_place k (column_in homes k) refl (is_there homes.columns takers k same_length (near k a) (subst (λ ps. IsAtHome ps k) shows ((takes faults may).whole.at_home k a))) a

pub taken_works : (c : CoreValue) → IsCore c → (i : ℕ) → MayTakeAny c i → (homes homes' : SharedValue) (takers : List ℕ) → c.run.places ≡ places_of homes.columns takers → AreKept c.graph homes takers → (held : HeldList) →
    AreTaken c.graph i homes homes' held → IsWork (with_lendings (with_run c (take_sharing c.graph c.run i)) homes'.lendings) (record { line = i; is_cancelled = false; «held» = held })
taken_works c core i takes homes homes' takers shows kept held taken faults fits =
    let is = taken_issued c i takes in
    let may = out_before c (take_sharing c.graph c.run i) homes'.lendings i is refl faults fits in
    let f = (core_with c core faults may).sound.graph in
    record {
      is_out = get_or-set_same c.run.stages i Out Unissued (line_near c core i (ap stage_issued is));
      cancelled = (λ e. absurd (false≢true e), λ e. absurd ((takes faults may).whole.not_cancelled e));
      nothing = λ e. absurd (false≢true e);
      holds = λ _. record {
        has = λ k a. taken_has c.graph f i homes homes' held taken k a ∙ column_is c core i takes homes takers shows kept faults may k a;
        only = taken_only c.graph f i homes homes' held taken;
        own = taken_own c.graph f i homes homes' held taken;
        shares = taken_shares c.graph f i homes homes' held taken;
      };
    }

pub taken_takes : (before after now : CoreValue) (i : ℕ) (lendings : List (Option Lending)) (w : WorkValue) → before ≡ now → SharesTaken before.graph i before.lendings lendings → after ≡ with_lendings (with_run before (take_sharing before.graph before.run i)) lendings → IsDue now.graph now.run i → kept_cancels now.graph now.run.stages i ≡ false →
    HasLock now.graph now.run.holders i → HasColumns now.graph now.run i → w.line ≡ i → IsWork (with_lendings (with_run before (take_sharing before.graph before.run i)) lendings) w → Takes now after w
taken_takes before after now i lendings w same shares is due runs lock columns line works =
    subst (λ (v : CoreValue). Takes v after w) same (subst (λ (v : CoreValue). Takes before v w) (sym is) (record {
      due = subst (IsDue before.graph before.run) (sym line) (subst (λ (c : CoreValue). IsDue c.graph c.run i) (sym same) due);
      claimed = λ e. absurd (true≢false (sym (subst (λ (c : CoreValue). kept_cancels c.graph c.run.stages i ≡ true) same (ap (kept_cancels before.graph before.run.stages) (sym line) ∙ e)) ∙ runs));
      taken = λ _. (
        subst (HasLock before.graph before.run.holders) (sym line) (subst (λ (c : CoreValue). HasLock c.graph c.run.holders i) (sym same) lock),
        subst (HasColumns before.graph before.run) (sym line) (subst (λ (c : CoreValue). HasColumns c.graph c.run i) (sym same) columns),
        lendings,
        subst (λ j. SharesTaken before.graph j before.lendings lendings) (sym line) shares,
        ap (λ j. with_lendings (with_run before (take_sharing before.graph before.run j)) lendings) (sym line),
      );
      work = works;
    }))

pub taken_keeps : TakeKeepsSharing → (before after now : CoreValue) (i : ℕ) (lendings : List (Option Lending)) → SharesTaken before.graph i before.lendings lendings → before ≡ now → after ≡ with_lendings (with_run before (take_sharing before.graph before.run i)) lendings → IsCore before → MayTakeAny before i → (k : ℕ) → KeepsWork now after k
taken_keeps law before after now i lendings shares same is core may k =
    let issued = taken_issued before i may in
    subst (λ (v : CoreValue). KeepsWork v after k) same (subst (λ (v : CoreValue). KeepsWork before v k) (sym is)
    (keeps_work before core (take_sharing before.graph before.run i) lendings before.handles before.table (core_taken law before core i may lendings shares) (out_before before (take_sharing before.graph before.run i) lendings i issued refl)
    (numbers_taken before.graph core.sound.graph i before.lendings lendings shares) k (out_still before i k issued) (λ faults fits is_out runs. same_columns before.graph before.run (take_sharing before.graph before.run i) k refl)))

-- what is kept of the columns where some are taken
pub kept_taken : (h g : GraphValue) → h ≡ g → IsGraph g → (i : ℕ) (homes homes' : SharedValue) (takers takers' : List ℕ) (held : HeldList) → AreKept g homes takers → AreTaken g i homes homes' held → takers' ≡ takers_with takers i (changed_list h i) → AreKept g homes' takers'
kept_taken h g e f i homes homes' takers takers' held kept taken next = record {
  each_home = taken.each_column ∙ kept.each_home;
  each_taker = ap length next ∙ (length-takers takers i (changed_list h i) ∙ kept.each_taker);
  spaces = λ k x at. kept.spaces k x (taken_kept g f i homes homes' held taken k x at);
}
