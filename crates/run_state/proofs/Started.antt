-- What follows for a line that was taken: it ends in the evaluation, and it is ready among the lines put back.
use Rattle.std.proofs.Common.{◌≡◌, ℕ, ◌<◌, Bool, true, false, inl, inr, List, [], length, refl, sym, ◌∙◌, ap, subst}
use Rattle.std.specs.Prelude.{Contains, ◌==◌}
use Rattle.std.proofs.lemmas.Bool.{true≢false, true_from_ne_false, eqb-true, and_parts}
use Rattle.graph_terms.specs.declared.outcome.End.TheVariants.{Cancelled}
use Rattle.graph_terms.specs.declared.verb.Edge.{Edge}
use Rattle.graph_terms.specs.Graph.{GraphValue, never_comes, space_at}
use Rattle.graph_terms.specs.Edges.{edges, edges_into}
use Rattle.graph_meaning.specs.Effect.{CellChange, Effect, touches, Effects, zero_cells, effect}
use Rattle.graph_meaning.specs.Evaluation.{has_ended, cells_with, cancels, is_cancelled, step_by, made_by, evaluation_with, end_with, changes_with}
use Rattle.basics.proofs.ListFacts.{contains_none, filter_contains, list_any_agree}
use Rattle.graph_meaning.proofs.Public.{before_ended, end_in_ended}
use Rattle.graph_meaning.specs.Laws.{IsReadyAmongWith, IsWithinAccess}
use Rattle.graph_terms.specs.Access.{accesses}
use Rattle.graph_terms.specs.declared.outcome.Verdict.{Verdict}
use Rattle.graph_terms.specs.declared.outcome.Verdict.TheVariants.{Fine, Fault}
use Rattle.graph_terms.proofs.Public.{edges_in_range}
use Rattle.run_state.specs.Run.{LineStage, Run, is_listed, stage_at, list_at, end_so_far, out, started, over, ended}
use Rattle.run_state.specs.Sound.{SoundLinesWith, SoundWith}
use Rattle.run_state.specs.Quiet.{kept_cancels}
use Rattle.run_state.proofs.Lists.{ended_over, over_started, over_keeps, out_started, out_not_ended, started_issued, stage_there}
use Rattle.run_state.specs.Laws.{StartedLinesAreBelowEndWith, StartedLinesEndWith, KeptEndIsEvaluatedWith, EndedHasStarted, PathsFromEndedWith, CancelledBySourcesWith, CancelledBySources, StartedLinesHaveEnd}
use Rattle.run_state.proofs.Evaluated.{not_cancelled_of, ends_by_turn_with, left_is_reached_with, steps_end_with}

pub ended_started : EndedHasStarted
ended_started stages i h = over_started (stage_at stages i) (ended_over (stage_at stages i) h)

-- with a line that was taken all lines before it have ended
pub sources_closed : {does : Effects} {g : GraphValue} {stages : List LineStage} → SoundLinesWith does g stages → (e : Edge) → Contains (edges g) e → ended stages e.to ≡ true → ended stages e.from ≡ true
sources_closed {does} {g} {stages} s e c h = s.sources e c (ended_started stages e.to h)

pub path_ended : {does : Effects} {g : GraphValue} {stages : List LineStage} → PathsFromEndedWith does g stages
path_ended {does} {g} {stages} s i j p h = before_ended (edges g) (ended stages) (sources_closed s) i j (λ e c to. s.sources e c (ap (started stages) to ∙ h)) p

-- a line that was taken is one of the graph
pub started_below : {does : Effects} {g : GraphValue} {stages : List LineStage} → StartedLinesAreBelowEndWith does g stages
started_below {does} {g} {stages} s i h = subst (λ n. i < n) s.each_line (stage_there stages i (started_issued (stage_at stages i) h))

-- a line that was taken ends in the evaluation
pub started_ends : {does : Effects} {g : GraphValue} {stages : List LineStage} → StartedLinesEndWith does g stages
started_ends {does} {g} {stages} f accepted s i h = true_from_ne_false (has_ended (evaluation_with does zero_cells g) i) (λ left.
    elim (left_is_reached_with does zero_cells g (λ e c. (edges_in_range g f e c).0) accepted.acyclic i (started_below s i h) left) [
      | inl never ↦ true≢false (sym never ∙ s.comes i h)
      | inr r ↦ true≢false (sym r.1 ∙ s.comes r.0 (ended_started stages r.0 (path_ended s r.0 i r.2 h)))
    ])

pub ended_in_evaluation : {does : Effects} {g : GraphValue} {run : Run} → StartedLinesHaveEnd does g run
ended_in_evaluation {does} {g} {run} s i h = end_in_ended (evaluation_with does zero_cells g) i (steps_end_with does zero_cells g _) (started_ends s.graph s.accepted s.on_lines i h)

-- the end that is kept of a line that is over
pub kept_is : {does : Effects} {g : GraphValue} {stages : List LineStage} → KeptEndIsEvaluatedWith does g stages
kept_is {does} {g} {stages} s i h = sym (s.ends i (end_so_far (stage_at stages i)) (over_keeps (stage_at stages i) h))

-- a line is cancelled exactly where its sources' ends cancel it
pub cancelled_changes : (i : ℕ) (b : Bool) (e : Effect) → (step_by i b e).ends ≡ Cancelled → (step_by i b e).changes ≡ []
cancelled_changes i true e h = refl
cancelled_changes i false e h = absurd (not_cancelled_of e.verdict h)

pub cancelled_test : (i : ℕ) (b : Bool) (e : Effect) → (step_by i b e).ends ≡ Cancelled → b ≡ true
cancelled_test i true e h = refl
cancelled_test i false e h = absurd (not_cancelled_of e.verdict h)

-- a line that changed a cell is not cancelled
pub changed_not_cancelled : (does : Effects) (g : GraphValue) (i : ℕ) → has_ended (evaluation_with does zero_cells g) i ≡ true → (x : CellChange) → Contains (changes_with does zero_cells g i) x → end_with does zero_cells g i ≡ Cancelled → ⊥
changed_not_cancelled does g i h x c cancelled =
    let t = ends_by_turn_with does zero_cells g i h in
    contains_none x (subst (λ cs. Contains cs x) (t.changes_are ∙ cancelled_changes i (is_cancelled g (evaluation_with does zero_cells g) i) (does i (cells_with zero_cells t.before)) (sym t.end_is ∙ cancelled)) c)

-- a change of a line is of its effect
made_change : (v : Verdict) (cs : List CellChange) (x : CellChange) → Contains (made_by v cs) x → Contains cs x
made_change Fine cs x c = c
made_change Fault cs x c = absurd (contains_none x c)

step_change : (k : ℕ) (b : Bool) (e : Effect) (x : CellChange) → Contains (step_by k b e).changes x → Contains e.changes x
step_change k true e x c = absurd (contains_none x c)
step_change k false e x c = made_change e.verdict e.changes x c

-- so it lies within an access of the line
pub change_access : {does : Effects} {g : GraphValue} {run : Run} → SoundWith does g run → (k : ℕ) → has_ended (evaluation_with does zero_cells g) k ≡ true →
    (x : CellChange) → Contains (changes_with does zero_cells g k) x → IsWithinAccess (space_at g) (accesses g k) x
change_access {does} {g} {run} s k h x hx =
    let t = ends_by_turn_with does zero_cells g k h in
    s.keeps.within k (cells_with zero_cells t.before) x
    (step_change k (is_cancelled g (evaluation_with does zero_cells g) k) (does k (cells_with zero_cells t.before)) x (subst (λ cs. Contains cs x) t.changes_are hx))

-- each cell that an ended line changed is of a column on which it was put back
pub change_put_back : {does : Effects} {g : GraphValue} {run : Run} → SoundWith does g run → (k : ℕ) → over run.stages k ≡ true → (x : CellChange) → Contains (changes_with does zero_cells g k) x → is_listed (list_at run.back x.column) k ≡ true
change_put_back {does} {g} {run} s k h x hx =
    let w = change_access s k (started_ends s.graph s.accepted s.on_lines k (over_started (stage_at run.stages k) h)) x hx in
    s.on_columns.over_back x.column k h (w.access, w.listed, w.column)
    (changed_not_cancelled does g k (started_ends s.graph s.accepted s.on_lines k (over_started (stage_at run.stages k) h)) x hx)

pub changed_back : {does : Effects} {g : GraphValue} {run : Run} → SoundWith does g run → (c p k : ℕ) → over run.stages k ≡ true → (x : CellChange) → Contains (changes_with does zero_cells g k) x → touches c p x ≡ true → is_listed (list_at run.back c) k ≡ true
changed_back {does} {g} {run} s c p k h x hx t =
    subst (λ z. is_listed (list_at run.back z) k ≡ true) (sym (eqb-true c x.column (and_parts (c == x.column) (p == x.point) t).0)) (change_put_back s k h x hx)

-- a line that is out, and was not put back on a column, is ready among the lines put back
pub ready_among : {does : Effects} {g : GraphValue} {run : Run} → SoundWith does g run → (i : ℕ) → out run.stages i ≡ true → ((c : ℕ) → is_listed (list_at run.back c) i ≡ false) →
    IsReadyAmongWith does zero_cells g i (ended run.stages) (λ c. is_listed (list_at run.back c))
ready_among {does} {g} {run} s i h none = record {
  closed = sources_closed s.on_lines;
  ready = λ e c to. s.on_lines.sources e c (ap (started run.stages) to ∙ out_started (stage_at run.stages i) h);
  left = out_not_ended (stage_at run.stages i) h;
  out = none;
  put_ready = λ c k listed e ce to. s.on_lines.sources e ce (ap (started run.stages) to ∙ s.on_columns.back_started c k listed);
  kept = λ k x e hx. change_put_back s k (ended_over (stage_at run.stages k) e) x hx;
}

-- a line that comes, and whose sources are ended, ends in the evaluation
pub ready_ends : {does : Effects} {g : GraphValue} {run : Run} → SoundWith does g run → (i : ℕ) → i < length g.lines → never_comes g i ≡ false → ((e : Edge) → Contains (edges g) e → e.to ≡ i → ended run.stages e.from ≡ true) → has_ended (evaluation_with does zero_cells g) i ≡ true
ready_ends {does} {g} {run} s i below comes sources = true_from_ne_false (has_ended (evaluation_with does zero_cells g) i) (λ left.
    elim (left_is_reached_with does zero_cells g (λ e c. (edges_in_range g s.graph e c).0) s.accepted.acyclic i below left) [
      | inl never ↦ true≢false (sym never ∙ comes)
      | inr r ↦ true≢false (sym r.1 ∙ s.on_lines.comes r.0 (ended_started run.stages r.0 (before_ended (edges g) (ended run.stages) (sources_closed s.on_lines) r.0 i sources r.2)))
    ])

-- whether a line is cancelled, by the ends that the run keeps of its sources
pub kept_as_evaluated : {does : Effects} {g : GraphValue} {stages : List LineStage} → SoundLinesWith does g stages → (i : ℕ) → ((e : Edge) → Contains (edges g) e → e.to ≡ i → ended stages e.from ≡ true) → kept_cancels g stages i ≡ is_cancelled g (evaluation_with does zero_cells g) i
kept_as_evaluated {does} {g} {stages} s i h = list_any_agree (λ (e : Edge). cancels e.kind (end_so_far (stage_at stages e.from))) (λ (e : Edge). cancels e.kind (end_with does zero_cells g e.from)) (edges_into g i)
    (λ e c. let k = filter_contains (λ (e : Edge). e.to == i) (edges g) e c in
    ap (cancels e.kind) (kept_is s e.from (ended_over (stage_at stages e.from) (h e k.0 (eqb-true e.to i k.1)))))

pub cancelled_iff_with : CancelledBySourcesWith
cancelled_iff_with does g i h =
    let t = ends_by_turn_with does zero_cells g i h in (
      λ b. t.end_is ∙ ap (λ b. (step_by i b (does i (cells_with zero_cells t.before))).ends) b,
      λ e. cancelled_test i (is_cancelled g (evaluation_with does zero_cells g) i) (does i (cells_with zero_cells t.before)) (sym t.end_is ∙ e),
    )

pub cancelled_iff : CancelledBySources
cancelled_iff g i h = cancelled_iff_with (effect g) g i h

pub cancelled_by_kept : {does : Effects} {g : GraphValue} {run : Run} → SoundWith does g run → (i : ℕ) → i < length g.lines → never_comes g i ≡ false → ((e : Edge) → Contains (edges g) e → e.to ≡ i → ended run.stages e.from ≡ true) →
    (kept_cancels g run.stages i ≡ true → end_with does zero_cells g i ≡ Cancelled) × (end_with does zero_cells g i ≡ Cancelled → kept_cancels g run.stages i ≡ true)
cancelled_by_kept {does} {g} {run} s i below comes sources =
    let same = kept_as_evaluated s.on_lines i sources in
    let both = cancelled_iff_with does g i (ready_ends s i below comes sources) in
    (λ h. both.0 (sym same ∙ h), λ e. same ∙ both.1 e)
