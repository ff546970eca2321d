-- Laws of the evaluation: which lines end, and that a line waits exactly where one that never comes reaches it.
use Rattle.std.proofs.Common.{◌≡◌, ℕ, zero, suc, ◌+◌, ◌<◌, ◌≤◌, Bool, true, false, not, cond, ◌&&◌, ◌||◌, ◌⊎◌, inl, inr, List, [], ◌∷◌, ◌++◌, length, refl, sym, ◌∙◌, ap, subst, arith}
use Rattle.std.specs.Prelude.{Contains, Option, Some, None, ◌==◌}
use Rattle.std.specs.List.{list_all}
use Rattle.std.proofs.lemmas.Bool.{true≢false, eq-eqb, eqb-true, or_cases, or_left, or_right, and_parts, and_from, false_from_ne_true, true_from_ne_false, not-true, not_from_false, not_from_true}
use Rattle.std.proofs.lemmas.Option.{none-some}
use Rattle.std.proofs.lemmas.List.Elements.{Contains-push_cases}
use Rattle.std.proofs.lemmas.List.Folds.{list_any-append}
use Rattle.graph_terms.specs.declared.outcome.Verdict.{Verdict}
use Rattle.graph_terms.specs.declared.outcome.Verdict.TheVariants.{Fine, Fault}
use Rattle.graph_terms.specs.declared.outcome.End.TheVariants.{Waiting}
use Rattle.graph_terms.specs.declared.verb.Edge.{Edge}
use Rattle.graph_terms.specs.Graph.{GraphValue, never_comes}
use Rattle.graph_terms.specs.Edges.{edges, sources}
use Rattle.graph_meaning.specs.Path.{Reached}
use Rattle.graph_meaning.specs.Effect.{Cells, zero_cells, Effect, Effects, effect}
use Rattle.graph_meaning.specs.Rules.{NoCycleAt, Everywhere}
use Rattle.graph_meaning.specs.Evaluation.{Step, end_in, is_ended, has_ended, cells_with, is_ready, is_cancelled, step_by, step_with, lowest_ready, advance_by_with, steps_with, evaluation_with, end_with}
use Rattle.basics.specs.Lists.{numbers_below, count_below}
use Rattle.graph_meaning.proofs.PathLaws.{back_path}
use Rattle.basics.proofs.ListFacts.{contains_none, contains_here, contains_there, find_is, find_none, below_contains, contains_below, count_below-max, fewer_below, some_below}
use Rattle.graph_meaning.proofs.ReadyLine.{source_passes, source_fails, ready_or_never}
use Rattle.graph_meaning.specs.Turns.{EdgesInRange, Ready, EndsInOrder, StepsEnd}
use Rattle.graph_meaning.specs.Laws.{EndedByStep, StepsEndLines, StepOfLine, StepEndsLine, WaitsWhereLeft, EvaluationInOrder, ReachedWaits, LeftIsReached, LowestReadyIsReady, EndedStaysEnded, LastStepEnds, EndedBeforeOrByLast, ReadyLinesPass}

-- a step ends its own line
pub step_by-line : (i : ℕ) (b : Bool) (e : Effect) → (step_by i b e).line ≡ i
step_by-line i true e = refl
step_by-line i false e = refl

step_by-ended_of : (v : Verdict) (i : ℕ) (e : Effect) → e.verdict ≡ v → is_ended (step_by i false e).ends ≡ true
step_by-ended_of Fine i e h = rw h refl
step_by-ended_of Fault i e h = rw h refl

step_by-ended : (i : ℕ) (b : Bool) (e : Effect) → is_ended (step_by i b e).ends ≡ true
step_by-ended i true e = refl
step_by-ended i false e = step_by-ended_of e.verdict i e refl

pub step_with-line : (does : Effects) (first : Cells) (g : GraphValue) (ss : List Step) (i : ℕ) → (step_with does first g ss i).line ≡ i
step_with-line does first g ss i = step_by-line i (is_cancelled g ss i) (does i (cells_with first ss))

pub step_with-ended : (does : Effects) (first : Cells) (g : GraphValue) (ss : List Step) (i : ℕ) → is_ended (step_with does first g ss i).ends ≡ true
step_with-ended does first g ss i = step_by-ended i (is_cancelled g ss i) (does i (cells_with first ss))

-- which lines have ended after one more step
pub has_ended-push : (ss : List Step) (s : Step) (k : ℕ) → has_ended (ss ++ s ∷ []) k ≡ (has_ended ss k || (s.line == k || false))
has_ended-push ss s k = list_any-append (λ (s : Step). s.line == k) ss (s ∷ [])

pub stays_ended : EndedStaysEnded
stays_ended ss s k h = has_ended-push ss s k ∙ or_left (has_ended ss k) (s.line == k || false) h

pub has_ended_last : LastStepEnds
has_ended_last ss s = has_ended-push ss s s.line ∙ or_right (has_ended ss s.line) (s.line == s.line || false) (or_left (s.line == s.line) false (eq-eqb s.line s.line refl))

or_none : (b : Bool) → (b || false) ≡ true → b ≡ true
or_none true h = refl
or_none false h = h

pub ended_cases : EndedBeforeOrByLast
ended_cases ss s k h = elim (or_cases (has_ended ss k) (s.line == k || false) (sym (has_ended-push ss s k) ∙ h)) [
  | inl a ↦ inl a
  | inr b ↦ inr (eqb-true s.line k (or_none (s.line == k) b))
]

pub ready_is : (g : GraphValue) (ss : List Step) (i : ℕ) → i < length g.lines → is_ready g ss i ≡ true → Ready g ss i
ready_is g ss i below h =
    let first = and_parts (not (has_ended ss i)) (not (never_comes g i) && list_all (has_ended ss) (sources g i)) h in
    let second = and_parts (not (never_comes g i)) (list_all (has_ended ss) (sources g i)) first.1 in
    record { below = below; left = not-true (has_ended ss i) first.0; comes = not-true (never_comes g i) second.0; sources = source_passes (edges g) (has_ended ss) i second.1 }

pub lowest_ready_is : LowestReadyIsReady
lowest_ready_is g ss i h =
    let f = find_is (is_ready g ss) (numbers_below (length g.lines)) i h in
    ready_is g ss i (below_contains (length g.lines) i f.0) f.1

ends_in_order_push : (does : Effects) (first : Cells) (g : GraphValue) (ss : List Step) (i : ℕ) → Ready g ss i → EndsInOrder g ss → EndsInOrder g (ss ++ step_with does first g ss i ∷ [])
ends_in_order_push does first g ss i r o = record {
  each = λ k h. elim (ended_cases ss (step_with does first g ss i) k h) [
    | inl before ↦ (let b = o.each k before in (b.0, b.1, λ e c to. stays_ended ss (step_with does first g ss i) e.from (b.2 e c to)))
    | inr last ↦ (let same : i ≡ k = sym (step_with-line does first g ss i) ∙ last in
        (subst (λ x. x < length g.lines) same r.below, ap (never_comes g) (sym same) ∙ r.comes, λ e c to. stays_ended ss (step_with does first g ss i) e.from (r.sources e c (to ∙ sym same))))
  ];
}

ends_in_order_by : (does : Effects) (first : Cells) (g : GraphValue) (ss : List Step) (o : Option ℕ) → lowest_ready g ss ≡ o → EndsInOrder g ss → EndsInOrder g (advance_by_with does first g ss o)
ends_in_order_by does first g ss None e inv = inv
ends_in_order_by does first g ss (Some i) e inv = ends_in_order_push does first g ss i (lowest_ready_is g ss i e) inv

pub ends_in_order_after : (does : Effects) (first : Cells) (g : GraphValue) (n : ℕ) → EndsInOrder g (steps_with does first g n)
ends_in_order_after does first g zero = record { each = λ i h. absurd (true≢false (sym h)) }
ends_in_order_after does first g (suc n) = ends_in_order_by does first g (steps_with does first g n) (lowest_ready g (steps_with does first g n)) refl (ends_in_order_after does first g n)

pub ends_in_order_with : (does : Effects) (first : Cells) (g : GraphValue) → EndsInOrder g (evaluation_with does first g)
ends_in_order_with does first g = ends_in_order_after does first g (length g.lines)

-- after n turns no line is ready, or n lines have ended
abbrev lines_left : GraphValue → List Step → ℕ
lines_left g ss = count_below (λ k. not (has_ended ss k)) (length g.lines)

abbrev Progress : GraphValue → List Step → ℕ → Type 0
Progress g ss n = (lowest_ready g ss ≡ None) ⊎ (lines_left g ss + n ≤ length g.lines)

fresh_before : (a b : Bool) → not (a || b) ≡ true → not a ≡ true
fresh_before true b t = absurd (true≢false (sym t))
fresh_before false b t = refl

fewer_left : (does : Effects) (first : Cells) (g : GraphValue) (ss : List Step) (i : ℕ) → Ready g ss i → lines_left g (ss ++ step_with does first g ss i ∷ []) + 1 ≤ lines_left g ss
fewer_left does first g ss i r = fewer_below (λ k. not (has_ended (ss ++ step_with does first g ss i ∷ []) k)) (λ k. not (has_ended ss k))
    (λ k t. fresh_before (has_ended ss k) ((step_with does first g ss i).line == k || false) (ap not (sym (has_ended-push ss (step_with does first g ss i) k)) ∙ t))
    (length g.lines) i r.below
    (not_from_true (has_ended (ss ++ step_with does first g ss i ∷ []) i) (subst (λ x. has_ended (ss ++ step_with does first g ss i ∷ []) x ≡ true) (step_with-line does first g ss i) (has_ended_last ss (step_with does first g ss i))))
    (not_from_false (has_ended ss i) r.left)

progress_by : (does : Effects) (first : Cells) (g : GraphValue) (ss : List Step) (n : ℕ) (o : Option ℕ) → lowest_ready g ss ≡ o → Progress g ss n → Progress g (advance_by_with does first g ss o) (suc n)
progress_by does first g ss n None e p = inl e
progress_by does first g ss n (Some i) e (inl stuck) = absurd (none-some i (sym stuck ∙ e))
progress_by does first g ss n (Some i) e (inr few) = inr (let less : lines_left g (ss ++ step_with does first g ss i ∷ []) + 1 ≤ lines_left g ss = fewer_left does first g ss i (lowest_ready_is g ss i e) in omega arith)

progress : (does : Effects) (first : Cells) (g : GraphValue) (n : ℕ) → Progress g (steps_with does first g n) n
progress does first g zero = inr (let most : lines_left g [] ≤ length g.lines = count_below-max (λ k. not (has_ended [] k)) (length g.lines) in omega arith)
progress does first g (suc n) = progress_by does first g (steps_with does first g n) n (lowest_ready g (steps_with does first g n)) refl (progress does first g n)

stuck_by : (does : Effects) (first : Cells) (g : GraphValue) (o : Option ℕ) → lowest_ready g (evaluation_with does first g) ≡ o → Progress g (evaluation_with does first g) (length g.lines) → lowest_ready g (evaluation_with does first g) ≡ None
stuck_by does first g None e p = e
stuck_by does first g (Some i) e (inl s) = s
stuck_by does first g (Some i) e (inr few) =
    let r : Ready g (evaluation_with does first g) i = lowest_ready_is g (evaluation_with does first g) i e in
    let one : 1 ≤ lines_left g (evaluation_with does first g) = some_below (λ k. not (has_ended (evaluation_with does first g) k)) (length g.lines) i r.below (not_from_false (has_ended (evaluation_with does first g) i) r.left) in
    absurd (omega arith)

-- in the evaluation no line is ready in the end
pub evaluation_is_stuck : (does : Effects) (first : Cells) (g : GraphValue) → lowest_ready g (evaluation_with does first g) ≡ None
evaluation_is_stuck does first g = stuck_by does first g (lowest_ready g (evaluation_with does first g)) refl (progress does first g (length g.lines))

-- a line that has ended, or has not, by its end
pub end_in_left : WaitsWhereLeft
end_in_left [] i h = refl
end_in_left (s ∷ ss) i h = end_in_left_by s ss i (s.line == i) refl h (end_in_left ss i)
  where
    end_in_left_by : (s : Step) (ss : List Step) (i : ℕ) (b : Bool) → (s.line == i) ≡ b → (b || has_ended ss i) ≡ false → (has_ended ss i ≡ false → end_in ss i ≡ Waiting) → cond b s.ends (end_in ss i) ≡ Waiting
    end_in_left_by s ss i true e h again = absurd (true≢false h)
    end_in_left_by s ss i false e h again = again h

-- a line that never comes, or that one has a path to, has not ended
pub reached_is_left : (g : GraphValue) (ss : List Step) → EndsInOrder g ss → (i : ℕ) → Reached g i → has_ended ss i ≡ false
reached_is_left g ss o i (inl never) = false_from_ne_true (has_ended ss i) (λ h. true≢false (sym never ∙ (o.each i h).1))
reached_is_left g ss o i (inr r) = false_from_ne_true (has_ended ss i) (λ h.
    let j_ended : has_ended ss r.0 ≡ true = back_path (λ k. has_ended ss k ≡ true) (λ e c to_ended. (o.each e.to to_ended).2 e c refl) r.2 h in
    true≢false (sym r.1 ∙ (o.each r.0 j_ended).1))

-- sources that have ended, by the test
pub sources_pass : (g : GraphValue) (ended : ℕ → Bool) (k : ℕ) → ((e : Edge) → Contains (edges g) e → e.to ≡ k → ended e.from ≡ true) → list_all ended (sources g k) ≡ true
sources_pass g ended k h = true_from_ne_false (list_all ended (sources g k)) (λ f.
    let s = source_fails (edges g) ended k f in true≢false (sym (h s.0 s.1 s.2) ∙ s.3))

pub ready_passes : ReadyLinesPass
ready_passes g ss k r = and_from (not (has_ended ss k)) (not (never_comes g k) && list_all (has_ended ss) (sources g k)) (not_from_false (has_ended ss k) r.left)
    (and_from (not (never_comes g k)) (list_all (has_ended ss) (sources g k)) (not_from_false (never_comes g k) r.comes) (sources_pass g (has_ended ss) k r.sources))

-- a line of the evaluation that has not ended is reached
pub left_is_reached_with : (does : Effects) (first : Cells) (g : GraphValue) → EdgesInRange g → Everywhere (NoCycleAt g) → (i : ℕ) → i < length g.lines → has_ended (evaluation_with does first g) i ≡ false → Reached g i
left_is_reached_with does first g range acyclic i below left =
    elim (ready_or_never (edges g) (length g.lines) (never_comes g) (has_ended (evaluation_with does first g)) range acyclic i below left) [
      | inl r ↦ absurd (true≢false (sym (ready_passes g (evaluation_with does first g) r.0 r.1) ∙ find_none (is_ready g (evaluation_with does first g)) (numbers_below (length g.lines)) (evaluation_is_stuck does first g) r.0 (contains_below (length g.lines) r.0 r.1.below)))
      | inr n ↦ n
    ]

steps_end_push : (does : Effects) (first : Cells) (g : GraphValue) (ss : List Step) (i : ℕ) → StepsEnd ss → StepsEnd (ss ++ step_with does first g ss i ∷ [])
steps_end_push does first g ss i h s c = elim (Contains-push_cases ss (step_with does first g ss i) s c) [
  | inl before ↦ h s before
  | inr last ↦ ap (λ (x : Step). is_ended x.ends) (sym last) ∙ step_with-ended does first g ss i
]

steps_end_by : (does : Effects) (first : Cells) (g : GraphValue) (ss : List Step) (o : Option ℕ) → StepsEnd ss → StepsEnd (advance_by_with does first g ss o)
steps_end_by does first g ss None h = h
steps_end_by does first g ss (Some i) h = steps_end_push does first g ss i h

pub steps_end_with : (does : Effects) (first : Cells) (g : GraphValue) (n : ℕ) → StepsEnd (steps_with does first g n)
steps_end_with does first g zero = λ s c. absurd (contains_none s c)
steps_end_with does first g (suc n) = steps_end_by does first g (steps_with does first g n) (lowest_ready g (steps_with does first g n)) (steps_end_with does first g n)

end_in_ended_by : (s : Step) (ss : List Step) (i : ℕ) (b : Bool) → is_ended s.ends ≡ true → (b || has_ended ss i) ≡ true → (has_ended ss i ≡ true → is_ended (end_in ss i) ≡ true) → is_ended (cond b s.ends (end_in ss i)) ≡ true
end_in_ended_by s ss i true e h again = e
end_in_ended_by s ss i false e h again = again h

pub end_in_ended : EndedByStep
end_in_ended [] i each h = absurd (true≢false (sym h))
end_in_ended (s ∷ ss) i each h = end_in_ended_by s ss i (s.line == i) (each s (contains_here s ss)) h (end_in_ended ss i (λ t c. each t (contains_there s ss t c)))

-- a line waits in the evaluation exactly where it is reached
pub waits_if_reached_with : (does : Effects) (first : Cells) (g : GraphValue) (i : ℕ) → Reached g i → end_with does first g i ≡ Waiting
waits_if_reached_with does first g i r = end_in_left (evaluation_with does first g) i (reached_is_left g (evaluation_with does first g) (ends_in_order_with does first g) i r)

pub reached_if_waits_with : (does : Effects) (first : Cells) (g : GraphValue) → EdgesInRange g → Everywhere (NoCycleAt g) → (i : ℕ) → i < length g.lines → end_with does first g i ≡ Waiting → Reached g i
reached_if_waits_with does first g range acyclic i below w = left_is_reached_with does first g range acyclic i below (false_from_ne_true (has_ended (evaluation_with does first g) i)
    (λ h. true≢false (sym (end_in_ended (evaluation_with does first g) i (steps_end_with does first g (length g.lines)) h) ∙ ap is_ended w)))

-- the same with the effects of the graph's verbs, and cells of 0
pub step_of-line : StepOfLine
step_of-line g ss i = step_with-line (effect g) zero_cells g ss i

pub step_of-ended : StepEndsLine
step_of-ended g ss i = step_with-ended (effect g) zero_cells g ss i

pub ends_in_order : EvaluationInOrder
ends_in_order g = ends_in_order_with (effect g) zero_cells g

pub steps_end : StepsEndLines
steps_end g n = steps_end_with (effect g) zero_cells g n

pub left_is_reached : LeftIsReached
left_is_reached g range acyclic i below left = left_is_reached_with (effect g) zero_cells g range acyclic i below left

pub waits_if_reached : ReachedWaits
waits_if_reached g i r = waits_if_reached_with (effect g) zero_cells g i r
