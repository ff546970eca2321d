-- What a line holds is kept by the steps of others.
use Rattle.std.proofs.Common.{◌≡◌, ℕ, ◌<◌, true, false, List, length, refl, sym, ◌∙◌, ap, subst}
use Rattle.std.specs.Prelude.{◌≢◌, Bool, Contains, Option, Some, IsTrue}
use Rattle.std.proofs.lemmas.Bool.{true≢false, false_from_ne_true}
use Rattle.index_spaces.specs.Space.{points, has_point}
use Rattle.index_spaces.specs.Column.{ColumnValue}
use Rattle.index_spaces.specs.Held.{HeldList, lending_at}
use Rattle.graph_terms.specs.declared.outcome.End.TheVariants.{Cancelled}
use Rattle.graph_terms.specs.Graph.{GraphValue, column_space}
use Rattle.graph_meaning.specs.Effect.{Cells, Effects, zero_cells}
use Rattle.graph_meaning.specs.Evaluation.{column_of, end_with}
use Rattle.graph_meaning.proofs.Public.{listed_point}
use Rattle.basics.proofs.ListFacts.{map_agree}
use Rattle.event_table.specs.declared.handle.Handle.{Handle}
use Rattle.event_table.specs.EventMap.{EventMap}
use Rattle.lent_columns.specs.Lendings.{Lending, lending_in, number_of}
use Rattle.run_state.specs.Run.{Run, Out, is_listed, stage_at, list_at, stage_out, out}
use Rattle.run_state.specs.Sound.{AccessesColumn, OnlyReads, SoundWith}
use Rattle.run_state.specs.Work.{cells_now_with, put_cells_with, SeesAllWith}
use Rattle.run_state.specs.AtRest.{LinesAtRestWith}
use Rattle.run_state.specs.Verdicts.{effect_by}
use Rattle.run_state.proofs.Public.{out_not_ended, started_below_with}
use Rattle.run_core.specs.Core.{CoreValue, IsCore, MayFault, IsCoreWith}
use Rattle.run_core.specs.Works.{WorkValue, FinishedValue, HoldsColumns, column_now, column_left, IsWork, IsFinished, KeepsWork, IsWorkWith, IsFinishedWith}
use Rattle.run_core.specs.Readers.{IsReading}
use Rattle.run_core.proofs.CoreFacts.{core_with}
use Rattle.run_core.proofs.ReaderFacts.{kept_runs, out_begun, SameNumbers, number_stays}

-- a core with another run, lendings, handles and table
abbrev pub core_of : Bool → List (Option Lending) → GraphValue → Run → List Handle → EventMap → CoreValue
core_of hosted lendings g run handles table = record { graph = g; «run» = run; «handles» = handles; «table» = table; «hosted» = hosted; «lendings» = lendings }

-- WHAT A LINE SEES that is out and runs: its columns as they are now
pub sees_now : {does : Effects} (g : GraphValue) (run : Run) → SoundWith does g run → LinesAtRestWith does g run → (i : ℕ) → stage_at run.stages i ≡ Out → end_with does zero_cells g i ≢ Cancelled → SeesAllWith does g run i (cells_now_with does g run)
sees_now {does} g run s rest i is runs = record {
  is_out = ap stage_out is;
  not_cancelled = runs;
  not_back = λ c. false_from_ne_true (is_listed (list_at run.back c) i) (λ h. true≢false (sym (rest.back_ended c i h) ∙ out_not_ended (stage_at run.stages i) (ap stage_out is)));
  sees = λ c a p h. refl;
}

-- a column is as its cells are at its points
pub column_agrees : (g : GraphValue) (cells other : Cells) (c : ℕ) → ((p : ℕ) → IsTrue (has_point (column_space g c) p) → cells c p ≡ other c p) → column_of g cells c ≡ column_of g other c
column_agrees g cells other c same =
    ap (λ xs. record { space = column_space g c; cells = xs }) (map_agree (cells c) (other c) (points (column_space g c)) (λ p m. same p (listed_point (column_space g c) p m)))

-- another run leaves the columns of a line as they are, and as it leaves them itself
pub record SameColumns (does : Effects) (g : GraphValue) (run after : Run) (i : ℕ) : Type 0 where
  pub now : (k : ℕ) → AccessesColumn g i k → column_of g (cells_now_with does g run) k ≡ column_of g (cells_now_with does g after) k
  pub left : (k : ℕ) → AccessesColumn g i k → put_cells_with does g i (list_at run.back k) k ≡ put_cells_with does g i (list_at after.back k) k

-- where the same lines were put back
pub same_columns : {does : Effects} (g : GraphValue) (run after : Run) (i : ℕ) → after.back ≡ run.back → SameColumns does g run after i
same_columns {does} g run after i back = record {
  now = λ k a. ap (λ bs. column_of g (cells_now_with does g (record run { back = bs })) k) (sym back);
  left = λ k a. ap (λ bs. put_cells_with does g i (list_at bs k) k) (sym back);
}

module _ (old : CoreValue) (core : IsCore old) (after : Run) (lendings : List (Option Lending)) (handles : List Handle) (table : EventMap) where
  abbrev pub new_core : CoreValue
  new_core = core_of old.hosted lendings old.graph after handles table

  module _ (next : IsCore new_core) (fits : (faults : ℕ → Bool) → MayFault new_core faults → MayFault old faults) (numbers : SameNumbers old.lendings lendings) (i : ℕ)
      (stays : stage_at old.run.stages i ≡ Out → stage_at after.stages i ≡ Out)
      (same : (faults : ℕ → Bool) → MayFault new_core faults → stage_at old.run.stages i ≡ Out → end_with (effect_by faults old.graph) zero_cells old.graph i ≢ Cancelled → SameColumns (effect_by faults old.graph) old.graph old.run after i)
    where
      is_out_at : (j : ℕ) → j ≡ i → stage_at old.run.stages j ≡ Out → stage_at old.run.stages i ≡ Out
      is_out_at j line is = ap (stage_at old.run.stages) (sym line) ∙ is

      module _ (faults : ℕ → Bool) (may : MayFault new_core faults) where
        abbrev does : Effects
        does = effect_by faults old.graph

        abbrev before : IsCoreWith does old
        before = core_with old core faults (fits faults may)

        -- the lendings of the columns that it only reads stay
        lent_on : stage_at old.run.stages i ≡ Out → end_with does zero_cells old.graph i ≢ Cancelled → (k : ℕ) → OnlyReads old.graph i k → number_of (lending_in lendings k) ≡ number_of (lending_in old.lendings k)
        lent_on is runs k only =
            let later = core_with new_core next faults may in
            let out_then = ap stage_out is in
            let out_now = ap stage_out (stays is) in
            number_stays old.graph old.run.stages after.stages old.lendings lendings core.lent next.lent numbers i k (started_below_with before.sound.on_lines i (out_begun old.run.stages i out_then))
            (record { is_out = out_then; reads = only; runs = kept_runs before.sound i (out_begun old.run.stages i out_then) runs })
            (record { is_out = out_now; reads = only; runs = kept_runs later.sound i (out_begun after.stages i out_now) runs })

        holds_stays : (j : ℕ) → j ≡ i → stage_at old.run.stages i ≡ Out → end_with does zero_cells old.graph i ≢ Cancelled → (held : HeldList) (column moved : ℕ → ColumnValue) → ((k : ℕ) → AccessesColumn old.graph i k → column k ≡ moved k) →
            HoldsColumns old j held column → HoldsColumns new_core j held moved
        holds_stays j line is runs held column moved agree h = record {
          has = λ k a. h.has k a ∙ ap (λ x. Some x) (agree k (subst (λ l. AccessesColumn old.graph l k) line a));
          only = h.only;
          own = h.own;
          shares = λ k only. h.shares k only ∙ sym (lent_on is runs k (subst (λ l. OnlyReads old.graph l k) line only));
        }

        work_still : (w : WorkValue) → w.line ≡ i → IsWorkWith does old w → IsWorkWith does new_core w
        work_still w line is =
            let is_out = is_out_at w.line line is.is_out in
            record {
              is_out = ap (stage_at after.stages) line ∙ stays is_out;
              cancelled = is.cancelled;
              nothing = is.nothing;
              holds = λ runs. (
                  let going : end_with does zero_cells old.graph i ≢ Cancelled = λ e. true≢false (sym (is.cancelled.1 (ap (end_with does zero_cells old.graph) line ∙ e)) ∙ runs) in
                  holds_stays w.line line is_out going w.held (column_now does old) (column_now does new_core) (λ k a. (same faults may is_out going).now k a) (is.holds runs));
            }

        finished_still : (f : FinishedValue) → f.line ≡ i → IsFinishedWith does old f → IsFinishedWith does new_core f
        finished_still f line is =
            let is_out = is_out_at f.line line is.is_out in
            record {
              is_out = ap (stage_at after.stages) line ∙ stays is_out;
              is_end = is.is_end;
              nothing = is.nothing;
              holds = λ runs. (
                  let going : end_with does zero_cells old.graph i ≢ Cancelled = λ e. runs (sym is.is_end ∙ (ap (end_with does zero_cells old.graph) line ∙ e)) in
                  holds_stays f.line line is_out going f.held (column_left does old f.line) (column_left does new_core f.line)
                  (λ k a. ap (λ xs. record { space = column_space old.graph k; cells = xs }) (subst (λ l. put_cells_with does old.graph l (list_at old.run.back k) k ≡ put_cells_with does old.graph l (list_at after.back k) k) (sym line)
                  ((same faults may is_out going).left k a))) (is.holds runs));
            }

      pub keeps_work : KeepsWork old new_core i
      keeps_work = record {
        work = λ w line is faults may. work_still faults may w line (is faults (fits faults may));
        finished = λ f line is. record {
          is_out = ap (stage_at after.stages) line ∙ stays (is_out_at f.line line is.is_out);
          evaluated = λ faults may told. finished_still faults may f line (is.evaluated faults (fits faults may) told);
        };
      }

-- where nothing changes
pub keeps_same : (old next : CoreValue) → next ≡ old → (i : ℕ) → KeepsWork old next i
keeps_same old next same i = subst (λ c. KeepsWork old c i) (sym same) (record { work = λ w line is. is; finished = λ f line is. is })

-- where the run and the lendings don't
module _ (old : CoreValue) (handles : List Handle) (table : EventMap) where
  abbrev beside : CoreValue
  beside = core_of old.hosted old.lendings old.graph old.run handles table

  may_beside : (faults : ℕ → Bool) → MayFault beside faults → MayFault old faults
  may_beside faults may = record { none = may.none; told = may.told }

  holds_beside : (i : ℕ) (held : HeldList) (column : ℕ → ColumnValue) → HoldsColumns old i held column → HoldsColumns beside i held column
  holds_beside i held column h = record { has = h.has; only = h.only; own = h.own; shares = h.shares }

  work_beside : (does : Effects) (w : WorkValue) → IsWorkWith does old w → IsWorkWith does beside w
  work_beside does w is = record { is_out = is.is_out; cancelled = is.cancelled; nothing = is.nothing; holds = λ r. holds_beside w.line w.held (column_now does old) (is.holds r) }

  finished_beside : (does : Effects) (f : FinishedValue) → IsFinishedWith does old f → IsFinishedWith does beside f
  finished_beside does f is = record { is_out = is.is_out; is_end = is.is_end; nothing = is.nothing; holds = λ r. holds_beside f.line f.held (column_left does old f.line) (is.holds r) }

  pub keeps_run : (i : ℕ) → KeepsWork old beside i
  keeps_run i = record {
    work = λ w line is faults may. work_beside (effect_by faults old.graph) w (is faults (may_beside faults may));
    finished = λ f line is. record {
      is_out = is.is_out;
      evaluated = λ faults may told. finished_beside (effect_by faults old.graph) f (is.evaluated faults (may_beside faults may) told);
    };
  }
