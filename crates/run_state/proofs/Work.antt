-- A line that was taken does what it does in the evaluation.
use Rattle.std.proofs.Common.{◌≡◌, ℕ, Bool, true, false, length, refl, sym, ◌∙◌, ap}
use Rattle.std.specs.Prelude.{◌≢◌}
use Rattle.std.proofs.lemmas.Bool.{true≢false, false_from_ne_true}
use Rattle.index_spaces.specs.Space.{points}
use Rattle.graph_terms.specs.declared.outcome.End.TheVariants.{Cancelled}
use Rattle.graph_terms.specs.Graph.{GraphValue, column_space}
use Rattle.graph_meaning.specs.Effect.{Cells, Effect, cells_after, Effects, zero_cells}
use Rattle.graph_meaning.specs.Evaluation.{has_ended, is_cancelled, end_by, made_by, step_by, evaluation_with, changes_with, cells_with, cells_of_lines_with, column_of}
use Rattle.graph_meaning.proofs.Public.{cells_after_at, listed_point, accesses_fit}
use Rattle.basics.proofs.ListFacts.{map_agree}
use Rattle.run_state.proofs.Verdicts.{keeps_to_accesses}
use Rattle.run_state.specs.Run.{Run, is_listed, stage_at, list_at, ended}
use Rattle.run_state.specs.Sound.{AccessesColumn, SoundWith}
use Rattle.run_state.specs.Work.{cells_now_with, HoldsAllWith, SeesAllWith, performed_with, put_cells_with, PerformsAsEvaluatedWith}
use Rattle.run_state.proofs.Lists.{out_started}
use Rattle.run_state.proofs.Started.{started_ends, ready_among}
use Rattle.run_state.proofs.Evaluated.{turns_with, same_effect_with}

pub step_parts : (i : ℕ) (b : Bool) (e : Effect) → (step_by i b e).ends ≢ Cancelled → ((step_by i b e).ends ≡ end_by e.verdict) × ((step_by i b e).changes ≡ made_by e.verdict e.changes)
step_parts i true e ne = absurd (ne refl)
step_parts i false e ne = (refl, refl)

pub not_back_at_all : {does : Effects} {g : GraphValue} {run : Run} → SoundWith does g run → (i : ℕ) (cells : Cells) → HoldsAllWith does g run i cells → (c : ℕ) → is_listed (list_at run.back c) i ≡ false
not_back_at_all {does} {g} {run} s i cells w c = false_from_ne_true (is_listed (list_at run.back c) i) (λ h.
    true≢false (sym h ∙ s.on_columns.had_not_back c i (w.has c (s.on_columns.back_accessed c i h))))

pub holders_see : {does : Effects} {g : GraphValue} {run : Run} → SoundWith does g run → (i : ℕ) (cells : Cells) →
    HoldsAllWith does g run i cells → SeesAllWith does g run i cells
holders_see {does} {g} {run} s i cells w =
    record { is_out = w.is_out; not_cancelled = w.not_cancelled; not_back = not_back_at_all s i cells w; sees = w.holds }

pub sight_does : {does : Effects} {g : GraphValue} {run : Run} → SoundWith does g run → (i : ℕ) (cells : Cells) →
    SeesAllWith does g run i cells → PerformsAsEvaluatedWith does g i cells
sight_does {does} {g} {run} s i cells w =
    let h : has_ended (evaluation_with does zero_cells g) i ≡ true =
    started_ends s.graph s.accepted s.on_lines i (out_started (stage_at run.stages i) w.is_out) in
    let t = turns_with does zero_cells g (length g.lines) i h in
    let own : does i cells ≡ does i (cells_now_with does g run) = s.keeps.agrees i cells (cells_now_with does g run)
    (λ a ha ne p hp. w.sees a.column (a, ha, refl) p ((accesses_fit g i a s.graph ha).within p hp)) in
    let same : does i (cells_now_with does g run) ≡ does i (cells_with zero_cells t.0) =
    same_effect_with does zero_cells g s.accepted (keeps_to_accesses s.keeps) i t.0 t.1 (ended run.stages) (λ c. is_listed (list_at run.back c))
    (ready_among s i w.is_out w.not_back) in
    let verdict : (does i cells).verdict ≡ (does i (cells_with zero_cells t.0)).verdict = ap (λ (e : Effect). e.verdict) (own ∙ same) in
    let changes : (does i cells).changes ≡ (does i (cells_with zero_cells t.0)).changes = ap (λ (e : Effect). e.changes) (own ∙ same) in
    let parts = step_parts i (is_cancelled g t.0 i) (does i (cells_with zero_cells t.0)) (λ e. w.not_cancelled (t.1.end_is ∙ e)) in
    record {
      end_is = ap end_by verdict ∙ sym (t.1.end_is ∙ parts.0);
      changes_are = ap (λ v. made_by v (does i cells).changes) verdict
          ∙ (ap (made_by (does i (cells_with zero_cells t.0)).verdict) changes ∙ sym (t.1.changes_are ∙ parts.1));
    }

-- the cells of each of its columns after it are those that may be put back
pub sight_cells : {does : Effects} {g : GraphValue} {run : Run} → SoundWith does g run → (i : ℕ) (cells : Cells) →
    SeesAllWith does g run i cells → (c : ℕ) → AccessesColumn g i c →
    (column_of g (performed_with does i cells) c).cells ≡ put_cells_with does g i (list_at run.back c) c
sight_cells {does} {g} {run} s i cells w c a =
    let d = sight_does s i cells w in
    let found : Cells = cells_of_lines_with does zero_cells g (is_listed (list_at run.back c)) in
    map_agree (λ p. performed_with does i cells c p) (λ p. cells_after found (changes_with does zero_cells g i) c p) (points (column_space g c))
    (λ p hp. ap (λ xs. cells_after cells xs c p) d.changes_are
    ∙ cells_after_at cells found (changes_with does zero_cells g i) c p (w.sees c a p (listed_point (column_space g c) p hp)))

-- so it is where the line has its columns
pub work_does : {does : Effects} {g : GraphValue} {run : Run} → SoundWith does g run → (i : ℕ) (cells : Cells) →
    HoldsAllWith does g run i cells → PerformsAsEvaluatedWith does g i cells
work_does s i cells w = sight_does s i cells (holders_see s i cells w)

pub work_cells : {does : Effects} {g : GraphValue} {run : Run} → SoundWith does g run → (i : ℕ) (cells : Cells) →
    HoldsAllWith does g run i cells → (c : ℕ) → AccessesColumn g i c →
    (column_of g (performed_with does i cells) c).cells ≡ put_cells_with does g i (list_at run.back c) c
work_cells s i cells w = sight_cells s i cells (holders_see s i cells w)
