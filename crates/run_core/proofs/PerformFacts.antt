-- What a line leaves that is performed on the columns that it holds.
use Rattle.std.proofs.Common.{◌≡◌, ℕ, true, false, List, refl, sym, ◌∙◌, ap, subst, [], ◌<◌, length}
use Rattle.std.specs.Prelude.{◌≢◌, ◌&&◌, cond, Bool, Option, Some, None, IsSome, is_some, slice_get}
use Rattle.std.proofs.lemmas.Bool.{true≢false, false≢true}
use Rattle.std.proofs.lemmas.Option.{same_Some}
use Rattle.index_spaces.specs.Column.{ColumnValue}
use Rattle.index_spaces.specs.Held.{HeldList, held_at, lending_at}
use Rattle.graph_terms.specs.declared.outcome.End.TheVariants.{Done, Faulted, Cancelled}
use Rattle.graph_terms.specs.declared.outcome.Verdict.{Verdict}
use Rattle.graph_terms.specs.declared.outcome.Verdict.TheVariants.{Fine, Fault}
use Rattle.graph_terms.specs.declared.verb.Access.{Access}
use Rattle.graph_terms.specs.Access.{accesses}
use Rattle.graph_meaning.specs.Effect.{Cells, CellChange, Effect, Effects, zero_cells, effect, cells_after, verb_verdict, verb_changes}
use Rattle.graph_meaning.specs.Evaluation.{end_with, end_by, made_by, column_of}
use Rattle.basics.proofs.ListFacts.{map_contains, got_contains}
use Rattle.line_effects.specs.Moved.{moves, HeldShow, OwnsChanged}
use Rattle.line_effects.proofs.Public.{all_made}
use Rattle.run_state.specs.Run.{stage_out, stage_started}
use Rattle.run_state.specs.Sound.{AccessesColumn}
use Rattle.run_state.specs.Work.{SeesAllWith, cells_now_with}
use Rattle.run_state.specs.Laws.{SightIsAsEvaluated, SightGivesCells}
use Rattle.run_core.specs.Core.{CoreValue, IsCoreWith, IsCore, Tells, kept_faults}
use Rattle.run_core.specs.Works.{WorkValue, column_now, column_left, IsWorkWith, IsWork, IsFinishedWith, IsFinished, verdict_by}
use Rattle.std.specs.Option.{option_map_or}
use Rattle.graph_terms.specs.declared.verb.Verb.{Verb}
use Rattle.graph_terms.specs.declared.verb.Verb.TheVariants.{Call}
use Rattle.graph_terms.specs.Graph.{GraphValue, is_call, line_passes, space_at, verb_at}
use Rattle.run_state.specs.Verdicts.{faulted, effect_by}
use Rattle.run_core.proofs.CoreFacts.{kept_may, core_with}
use Rattle.run_core.proofs.WorkFacts.{sees_now}
use Rattle.run_state.proofs.Public.{started_below_with}

-- the columns that are held are those of the core
pub work_shows : {does : Effects} (c : CoreValue) (w : WorkValue) → IsWorkWith does c w → w.is_cancelled ≡ false → HeldShow c.graph (cells_now_with does c.graph c.run) w.held
work_shows {does} c w is runs k x at = let h = is.holds runs in same_Some x (column_now does c k) (sym at ∙ h.has k (h.only k x at))

pub work_moves : {does : Effects} (c : CoreValue) (w : WorkValue) → IsWorkWith does c w → w.is_cancelled ≡ false → (k col : ℕ) → slice_get (moves c.graph w.line) k ≡ Some col → IsSome (held_at w.held col)
work_moves {does} c w is runs k col at =
    let m = map_contains (λ (a : Access). a.column) (accesses c.graph w.line) col (got_contains (moves c.graph w.line) k col at) in
    subst IsSome (sym ((is.holds runs).has col m)) refl

pub work_owns : {does : Effects} (c : CoreValue) (w : WorkValue) → IsWorkWith does c w → w.is_cancelled ≡ false → OwnsChanged c.graph w.line w.held
work_owns {does} c w is runs a listed changes = (is.holds runs).own a.column (a, listed, refl, changes)

-- a line that is cancelled ends so
pub cancelled_finished : (c : CoreValue) (w : WorkValue) → IsWork c w → w.is_cancelled ≡ true → IsFinished c (record { line = w.line; ends = Cancelled; held = w.held })
cancelled_finished c w is e = record {
  is_out = (is (kept_faults c) (kept_may c)).is_out;
  evaluated = λ faults may told. (let own = is faults may in record {
    is_out = own.is_out;
    is_end = own.cancelled.0 e;
    nothing = λ _. own.nothing e;
    holds = λ n. absurd (n refl);
  });
}

end_not_cancelled : (v : Verdict) → end_by v ≢ Cancelled
end_not_cancelled Fine e = (let d : Done ≡ Cancelled = e in cc)
end_not_cancelled Fault e = (let d : Faulted ≡ Cancelled = e in cc)

some_where : (o p : Option ColumnValue) → is_some p ≡ is_some o → IsSome o → (x : ColumnValue) × (p ≡ Some x)
some_where o (Some x) e s = (x, refl)
some_where o None e s = absurd (false≢true (e ∙ s))

column_same : (x y : ColumnValue) → x.space ≡ y.space → x.cells ≡ y.cells → x ≡ y
column_same x y a b = λ t. record { space = a t; cells = b t }

-- a line that runs leaves its columns as in the evaluation
module _ {does : Effects} (evaluated : SightIsAsEvaluated) (gives : SightGivesCells) (c : CoreValue) (core : IsCoreWith does c) (w : WorkValue) (is : IsWorkWith does c w) (runs : w.is_cancelled ≡ false) (verdict : Verdict) (held' : HeldList)
    (same : (k : ℕ) → is_some (held_at held' k) ≡ is_some (held_at w.held k)) (lendings : (k : ℕ) → lending_at held' k ≡ lending_at w.held k)
    (made : (verdict ≡ (does w.line (cells_now_with does c.graph c.run)).verdict) × HeldShow c.graph (cells_after (cells_now_with does c.graph c.run) (does w.line (cells_now_with does c.graph c.run)).changes) held')
    (changes_same : made_by (does w.line (cells_now_with does c.graph c.run)).verdict (does w.line (cells_now_with does c.graph c.run)).changes ≡ (does w.line (cells_now_with does c.graph c.run)).changes)
  where
    abbrev cells : Cells
    cells = cells_now_with does c.graph c.run

    not_cancelled : end_with does zero_cells c.graph w.line ≢ Cancelled
    not_cancelled e = true≢false (sym (is.cancelled.1 e) ∙ runs)

    sees_all : SeesAllWith does c.graph c.run w.line cells
    sees_all = sees_now c.graph c.run core.sound core.at_rest.lines w.line is.is_out not_cancelled

    ends_so : end_with does zero_cells c.graph w.line ≡ end_by verdict
    ends_so = sym (evaluated does c.graph c.run w.line cells core.sound sees_all).end_is ∙ ap end_by (sym made.0)

    left_so : (k : ℕ) (x : ColumnValue) → held_at held' k ≡ Some x → AccessesColumn c.graph w.line k → x ≡ column_left does c w.line k
    left_so k x at a = made.1 k x at ∙ column_same _ (column_left does c w.line k) refl
        (ap (λ (xs : List CellChange). (column_of c.graph (cells_after cells xs) k).cells) (sym changes_same) ∙ (gives does c.graph c.run w.line k cells core.sound sees_all a).0)

    accessed : (k : ℕ) (x : ColumnValue) → held_at held' k ≡ Some x → AccessesColumn c.graph w.line k
    accessed k x at = let o = some_where (held_at held' k) (held_at w.held k) (sym (same k)) (subst IsSome (sym at) refl) in (is.holds runs).only k o.0 o.1

    pub run_finished : IsFinishedWith does c (record { line = w.line; ends = end_by verdict; held = held' })
    run_finished = record {
      is_out = is.is_out;
      is_end = ends_so;
      nothing = λ e. absurd (end_not_cancelled verdict e);
      holds = λ n. record {
        has = λ k a. (let o = some_where (held_at w.held k) (held_at held' k) (same k) (subst IsSome (sym ((is.holds runs).has k a)) refl) in o.1 ∙ ap Some (left_so k o.0 o.1 a));
        only = accessed;
        own = λ k a. lendings k ∙ (is.holds runs).own k a;
        shares = λ k only. lendings k ∙ (is.holds runs).shares k only;
      };
    }

-- WHAT A HOST SAYS OF A CALL. A call of which nothing is said is fine and changes no cells
call_verdict : (space : ℕ → List (ℕ × ℕ)) (cells : Cells) (o : Option Verb) → option_map_or is_call o false ≡ true → option_map_or (verb_verdict space cells) o Fine ≡ Fine
call_verdict space cells None h = refl
call_verdict space cells (Some (Call k)) h = refl
call_verdict space cells (Some v) h = call_by v h
  where
    call_by : (v : Verb) → is_call v ≡ true → verb_verdict space cells v ≡ Fine
    call_by (Call k) h = refl
    call_by v h = absurd (false≢true h)

call_changes : (space : ℕ → List (ℕ × ℕ)) (cells : Cells) (o : Option Verb) → option_map_or is_call o false ≡ true → option_map_or (verb_changes space cells) o [] ≡ []
call_changes space cells None h = refl
call_changes space cells (Some v) h = call_by v h
  where
    call_by : (v : Verb) → is_call v ≡ true → verb_changes space cells v ≡ []
    call_by (Call k) h = refl
    call_by v h = absurd (false≢true h)

-- so a line does what it does where these calls fault
record DoesSaid (g : GraphValue) (faults : ℕ → Bool) (i : ℕ) (cells : Cells) (verdict : Verdict) : Type 0 where
  verdict_is : verdict ≡ (effect_by faults g i cells).verdict
  changes_are : (effect g i cells).changes ≡ (effect_by faults g i cells).changes
  all_made : made_by (effect_by faults g i cells).verdict (effect_by faults g i cells).changes ≡ (effect_by faults g i cells).changes

said_by : (g : GraphValue) (faults : ℕ → Bool) (i : ℕ) (cells : Cells) (said own : Verdict) → own ≡ (effect g i cells).verdict → (calls : Bool) → line_passes is_call g i ≡ calls → (calls ≡ true → Tells (end_by said) (faults i)) →
    DoesSaid g faults i cells (verdict_by calls said own)
said_by g faults i cells said own is false call tells =
    let plain : effect_by faults g i cells ≡ effect g i cells = ap (λ b. cond (faults i && b) faulted (effect g i cells)) call ∙ by_none (faults i) in
    record {
      verdict_is = is ∙ ap (λ (e : Effect). e.verdict) (sym plain);
      changes_are = ap (λ (e : Effect). e.changes) (sym plain);
      all_made = subst (λ (e : Effect). made_by e.verdict e.changes ≡ e.changes) (sym plain) (all_made g i cells (effect g i cells).verdict refl);
    }
  where
    by_none : (b : Bool) → cond (b && false) faulted (effect g i cells) ≡ effect g i cells
    by_none true = refl
    by_none false = refl
said_by g faults i cells Fine own is true call tells =
    let plain : effect_by faults g i cells ≡ effect g i cells = ap (λ b. cond (b && line_passes is_call g i) faulted (effect g i cells)) (tells refl) in
    record {
      verdict_is = sym (call_verdict (space_at g) cells (verb_at g i) call) ∙ ap (λ (e : Effect). e.verdict) (sym plain);
      changes_are = ap (λ (e : Effect). e.changes) (sym plain);
      all_made = subst (λ (e : Effect). made_by e.verdict e.changes ≡ e.changes) (sym plain) (all_made g i cells (effect g i cells).verdict refl);
    }
said_by g faults i cells Fault own is true call tells =
    let faults_so : effect_by faults g i cells ≡ faulted = (λ t. cond (tells refl t && call t) faulted (effect g i cells)) in
    record {
      verdict_is = ap (λ (e : Effect). e.verdict) (sym faults_so);
      changes_are = call_changes (space_at g) cells (verb_at g i) call ∙ ap (λ (e : Effect). e.changes) (sym faults_so);
      all_made = subst (λ (e : Effect). made_by e.verdict e.changes ≡ e.changes) (sym faults_so) refl;
    }

-- a line that runs ends as the host says, where it is a call; without a host nothing is said
tells_by : (hosted : Bool) (said : Verdict) (b : Bool) → (hosted ≡ true → Tells (end_by said) b) → (hosted ≡ false → (said ≡ Fine) × (b ≡ false)) → Tells (end_by said) b
tells_by true said b h n = h refl
tells_by false said b h n = let w = n refl in subst (λ v. Tells (end_by v) b) (sym w.0) w.1

pub said_finished : SightIsAsEvaluated → SightGivesCells → (c : CoreValue) → IsCore c → (w : WorkValue) → IsWork c w → w.is_cancelled ≡ false → (said own : Verdict) → (c.hosted ≡ false → said ≡ Fine) → (held' : HeldList) →
    ((k : ℕ) → is_some (held_at held' k) ≡ is_some (held_at w.held k)) → ((k : ℕ) → lending_at held' k ≡ lending_at w.held k) →
    ((cells : Cells) → HeldShow c.graph cells w.held → (own ≡ (effect c.graph w.line cells).verdict) × HeldShow c.graph (cells_after cells (effect c.graph w.line cells).changes) held') →
    IsFinished c (record { line = w.line; ends = end_by (verdict_by (line_passes is_call c.graph w.line) said own); held = held' })
said_finished evaluated gives c core w is runs said own unhosted held' same lendings made = record {
  is_out = (is (kept_faults c) (kept_may c)).is_out;
  evaluated = λ faults may told. (
      let work = is faults may in
      let cells = cells_now_with (effect_by faults c.graph) c.graph c.run in
      let did = made cells (work_shows c w work runs) in
      let does = said_by c.graph faults w.line cells said own did.0 (line_passes is_call c.graph w.line) refl
      (λ call. tells_by c.hosted said (faults w.line) (λ h. subst (λ b. Tells (end_by (verdict_by b said own)) (faults w.line)) call (told h call)) (λ n. (unhosted n, may.none n w.line))) in
      run_finished evaluated gives c (core_with c core faults may) w work runs (verdict_by (line_passes is_call c.graph w.line) said own) held' same lendings
      (does.verdict_is, subst (λ (xs : List CellChange). HeldShow c.graph (cells_after cells xs) held') does.changes_are did.1) does.all_made);
}

-- the line of work is one of the graph
pub work_near : (c : CoreValue) → IsCore c → (w : WorkValue) → IsWork c w → w.line < length c.graph.lines
work_near c core w is = started_below_with core.sound.on_lines w.line (ap stage_started (is (kept_faults c) (kept_may c)).is_out)
