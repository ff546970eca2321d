-- In a quiet state no reservation is held, each line that is left waits in the evaluation, and the ends are those of the evaluation.
use Rattle.std.proofs.Common.{◌≡◌, ℕ, zero, suc, ◌+◌, ◌<◌, ◌≤◌, Bool, true, false, inl, inr, List, length, refl, sym, ◌∙◌, ap, subst, arith}
use Rattle.std.specs.Prelude.{◌≢◌, Option, Some}
use Rattle.std.specs.Option.{option_map_or}
use Rattle.std.proofs.lemmas.Bool.{true≢false, cases_Bool, cases_lt, false_from_ne_true}
use Rattle.std.proofs.lemmas.List.{get_or_past}
use Rattle.graph_terms.specs.declared.outcome.Verdict.TheVariants.{Fine}
use Rattle.graph_terms.specs.declared.outcome.End.TheVariants.{Done, Cancelled, Waiting}
use Rattle.graph_terms.specs.declared.verb.Verb.{Verb}
use Rattle.graph_terms.specs.declared.verb.Verb.TheVariants.{Acquire, Release}
use Rattle.graph_terms.specs.Graph.{GraphValue, space_at, never_comes, never_comes_as, verb_at, locks, is_acquire_of, is_shared, is_release_of}
use Rattle.graph_terms.specs.Edges.{edges}
use Rattle.graph_terms.specs.Reservations.{Acquires, Releases}
use Rattle.graph_meaning.specs.Effect.{Cells, verb_verdict, Effects, zero_cells}
use Rattle.graph_meaning.specs.Evaluation.{has_ended, is_ended, is_cancelled, cells_with, end_by, evaluation, evaluation_with, end_with}
use Rattle.graph_meaning.proofs.Public.{ready_or_never, never_with_path, end_in_ended, end_in_left}
use Rattle.graph_meaning.specs.Turns.{IsReadyLine}
use Rattle.graph_terms.proofs.Public.{acquire_of_is, release_of_is, passes_verb, verb_passes, passes_below, acquired_lock_known, edges_in_range}
use Rattle.run_state.specs.Run.{LineStage, Unissued, Issued, Out, Ending, Ended, Run, is_listed, stage_at, list_at, stage_out, stage_over, stage_ended, end_so_far, started, ended}
use Rattle.run_state.specs.Sound.{SoundWith}
use Rattle.run_state.specs.Quiet.{QuietWith}
use Rattle.run_state.specs.Verdicts.{KeepsToColumns}
use Rattle.run_state.proofs.Lists.{ended_over}
use Rattle.run_state.proofs.Started.{ended_started, path_ended, started_ends, kept_is}
use Rattle.run_state.proofs.Work.{step_parts}
use Rattle.run_state.proofs.Stuck.{Blocked, stuck_ended, stuck_issued, blocked}
use Rattle.run_state.proofs.Evaluated.{turns_with, steps_end_with, ends_in_order_with, waits_if_reached_with}

-- the end of a line that is fine, and of an acquire, that is not cancelled
pub fine_done : (does : Effects) (g : GraphValue) (i : ℕ) → ((cells : Cells) → (does i cells).verdict ≡ Fine) → has_ended (evaluation_with does zero_cells g) i ≡ true → end_with does zero_cells g i ≢ Cancelled → end_with does zero_cells g i ≡ Done
fine_done does g i fine h ne =
    let t = turns_with does zero_cells g (length g.lines) i h in
    let parts = step_parts i (is_cancelled g t.0 i) (does i (cells_with zero_cells t.0)) (λ e. ne (t.1.end_is ∙ e)) in
    t.1.end_is ∙ (parts.0 ∙ ap end_by (fine (cells_with zero_cells t.0)))

pub acquire_done : {does : Effects} {g : GraphValue} → KeepsToColumns g does → (q l : ℕ) → Acquires g q l → has_ended (evaluation_with does zero_cells g) q ≡ true →
    end_with does zero_cells g q ≢ Cancelled → end_with does zero_cells g q ≡ Done
acquire_done {does} {g} keeps q l a h ne = fine_done does g q (λ cells. keeps.acquires q l cells a) h ne

-- a line that releases acquires nothing and comes
pub release_no_acquire : (g : GraphValue) (r q l : ℕ) → Releases g r q → Acquires g r l → ⊥
release_no_acquire g r q l rel acq =
    let v = passes_verb (is_release_of q) g r rel in
    let a : is_acquire_of l v.0 ≡ true = sym (verb_passes (is_acquire_of l) g r v.0 v.1) ∙ acq in
    let both : Acquire l (is_shared v.0) ≡ Release q = sym (acquire_of_is l v.0 a) ∙ release_of_is q v.0 v.2 in
    cc

pub release_comes : (g : GraphValue) (r q : ℕ) → Releases g r q → never_comes g r ≡ false
release_comes g r q rel =
    let v = passes_verb (is_release_of q) g r rel in
    verb_passes (never_comes_as g r) g r v.0 v.1 ∙ ap (never_comes_as g r) (release_of_is q v.0 v.2)

-- an acquire that holds has a release, which is left
pub release_left : {does : Effects} (g : GraphValue) (run : Run) → SoundWith does g run → (l h : ℕ) → is_listed (list_at run.holders l) h ≡ true → (r : ℕ) × Releases g r h × (ended run.stages r ≡ false)
release_left {does} g run s l h held =
    let acquires : Acquires g h l = s.on_locks.holder_acquires l h held in
    let begun : started run.stages h ≡ true = s.on_locks.holder_started l h held in
    let done : end_with does zero_cells g h ≡ Done = acquire_done s.keeps h l acquires (started_ends s.graph s.accepted s.on_lines h begun) (s.on_locks.holder_not_cancelled l h held) in
    let r = s.accepted.released h l acquires in
    (r.0, r.1, false_from_ne_true (ended run.stages r.0) (λ e. s.on_locks.freed_gone l h r.0 r.1 (s.on_locks.ended_freed r.0 h r.1 e done) held))

module _ {does : Effects} (g : GraphValue) (run : Run) (s : SoundWith does g run) (q : QuietWith does g run) where
  -- a line that was taken is ended
  pub quiet_ended : (i : ℕ) → started run.stages i ≡ true → ended run.stages i ≡ true
  quiet_ended = stuck_ended g run s (length g.lines) q

  -- a line that is ready acquires a reservation that is held
  ready_blocked : (k : ℕ) → IsReadyLine (edges g) (length g.lines) (never_comes g) (ended run.stages) k → Blocked g run k
  ready_blocked k r = blocked g run s (length g.lines) q k
      (λ f. q.none_taken k (record { is_issued = stuck_issued g run s (length g.lines) q k r.below r.left; comes = r.comes; sources = r.sources; is_free = f }))

  -- no reservation is held: each holder's release is before a line that waits for a later reservation
  nobody_holds_from : (m l h : ℕ) → length (locks g) ≤ l + m → is_listed (list_at run.holders l) h ≡ true → ⊥
  nobody_holds_from zero l h few held = (let b : l < length (locks g) = acquired_lock_known g s.graph h l (s.on_locks.holder_acquires l h held) in absurd (omega arith))
  nobody_holds_from (suc m) l h few held =
      let acquires : Acquires g h l = s.on_locks.holder_acquires l h held in
      let begun : started run.stages h ≡ true = s.on_locks.holder_started l h held in
      let r = release_left g run s l h held in
      elim (ready_or_never (edges g) (length g.lines) (never_comes g) (ended run.stages) (λ e c. (edges_in_range g s.graph e c).0) s.accepted.acyclic r.0 (passes_below (is_release_of h) g r.0 r.1) r.2) [
        | inl ready ↦ (
            let b = ready_blocked ready.0 ready.1 in
            elim ready.2 [
              | inl same ↦ release_no_acquire g r.0 h b.0 r.1 (subst (λ x. Acquires g x b.0) same b.1)
              | inr path ↦ elim (s.accepted.sections r.0 ready.0 h r.1 path) [
                | inl is ↦ true≢false (sym (quiet_ended h begun) ∙ (ap (ended run.stages) (sym is) ∙ ready.1.left))
                | inr (inl before) ↦ true≢false (sym (path_ended s.on_lines ready.0 h before begun) ∙ ready.1.left)
                | inr (inr within) ↦ (
                    let above : l < b.0 = s.accepted.descends h ready.0 l b.0 (record { acquires = acquires; entered = within.0; release = r.0; releases = r.1; left = path }) b.1 in
                    nobody_holds_from m b.0 b.2.0 (omega arith) b.2.1)
              ]
            ])
        | inr (inl never) ↦ true≢false (sym never ∙ release_comes g r.0 h r.1)
        | inr (inr some) ↦ elim (s.accepted.sections r.0 some.0 h r.1 some.2) [
          | inl is ↦ true≢false (sym some.1 ∙ (ap (never_comes g) is ∙ s.on_lines.comes h begun))
          | inr (inl before) ↦ true≢false (sym some.1 ∙ s.on_lines.comes some.0 (ended_started run.stages some.0 (path_ended s.on_lines some.0 h before begun)))
          | inr (inr within) ↦ within.1 (never_with_path g s.graph h some.0 within.0 some.1) some.1
        ]
      ]

  pub nobody_holds : (l h : ℕ) → is_listed (list_at run.holders l) h ≡ true → ⊥
  nobody_holds l h held = nobody_holds_from (length (locks g)) l h (omega arith) held

  -- a line that is left waits in the evaluation
  pub left_waits : (i : ℕ) → i < length g.lines → ended run.stages i ≡ false → end_with does zero_cells g i ≡ Waiting
  left_waits i h left = elim (ready_or_never (edges g) (length g.lines) (never_comes g) (ended run.stages) (λ e c. (edges_in_range g s.graph e c).0) s.accepted.acyclic i h left) [
    | inl ready ↦ (let b = ready_blocked ready.0 ready.1 in absurd (nobody_holds b.0 b.2.0 b.2.1))
    | inr reached ↦ waits_if_reached_with does zero_cells g i reached
  ]

  -- the end of each line is that of the evaluation
  pub quiet_end : (i : ℕ) → end_so_far (stage_at run.stages i) ≡ end_with does zero_cells g i
  quiet_end i = elim (cases_Bool (ended run.stages i)) [
    | inl e ↦ kept_is s.on_lines i (ended_over (stage_at run.stages i) e)
    | inr left ↦ elim (cases_lt i (length g.lines)) [
      | inl h ↦ ap end_so_far (stuck_issued g run s (length g.lines) q i h left) ∙ sym (left_waits i h left)
      | inr past ↦ (
          let none : stage_at run.stages i ≡ Unissued = get_or_past run.stages i Unissued (subst (λ n. n ≤ i) (sym s.on_lines.each_line) past) in
          ap end_so_far none ∙ sym (end_in_left (evaluation_with does zero_cells g) i (false_from_ne_true (has_ended (evaluation_with does zero_cells g) i) (λ e. let b : i < length g.lines = ((ends_in_order_with does zero_cells g).each i e).0 in absurd (omega arith)))))
    ]
  ]

  -- the ended lines are those of the evaluation
  pub ended_in_evaluation : (i : ℕ) → ended run.stages i ≡ true → is_ended (end_with does zero_cells g i) ≡ true
  ended_in_evaluation i e = end_in_ended (evaluation_with does zero_cells g) i (steps_end_with does zero_cells g (length g.lines)) (started_ends s.graph s.accepted s.on_lines i (ended_started run.stages i e))

  pub evaluation_ended : (i : ℕ) → is_ended (end_with does zero_cells g i) ≡ true → ended run.stages i ≡ true
  evaluation_ended i e = elim (cases_Bool (ended run.stages i)) [
    | inl h ↦ h
    | inr left ↦ absurd (true≢false (sym e ∙ (ap is_ended (sym (quiet_end i)) ∙ waits_so_far (stage_at run.stages i) (q.none_out i) (q.none_ending i) left)))
  ]
    where
      waits_so_far : (s : LineStage) → stage_out s ≡ false → (stage_over s ≡ true → stage_ended s ≡ true) → stage_ended s ≡ false → is_ended (end_so_far s) ≡ false
      waits_so_far Unissued o f l = refl
      waits_so_far Issued o f l = refl
      waits_so_far Out o f l = refl
      waits_so_far (Ending x) o f l = absurd (true≢false (sym (f refl)))
      waits_so_far (Ended x) o f l = absurd (true≢false l)
