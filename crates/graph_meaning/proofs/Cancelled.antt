-- A line of the evaluation is cancelled exactly where an unbroken path from a fault reaches it.
use Rattle.std.proofs.Common.{◌≡◌, ℕ, zero, suc, Bool, true, false, ◌⊎◌, inl, inr, List, length, refl, sym, ◌∙◌, ap}
use Rattle.std.specs.Prelude.{Contains, Option, Some, None, ◌==◌, ◌≢◌}
use Rattle.std.proofs.lemmas.Bool.{true≢false, eq-eqb, eqb-true, true_from_ne_false}
use Rattle.graph_terms.specs.declared.outcome.Verdict.{Verdict}
use Rattle.graph_terms.specs.declared.outcome.Verdict.TheVariants.{Fine, Fault}
use Rattle.graph_terms.specs.declared.outcome.End.{End}
use Rattle.graph_terms.specs.declared.outcome.End.TheVariants.{Faulted, Cancelled}
use Rattle.graph_terms.specs.declared.verb.Edge.{Edge}
use Rattle.graph_terms.specs.declared.verb.EdgeKind.{EdgeKind}
use Rattle.graph_terms.specs.declared.verb.EdgeKind.TheVariants.{Passes, Ignores, Faults}
use Rattle.graph_terms.specs.Graph.{GraphValue}
use Rattle.graph_terms.specs.Edges.{edges, edges_into}
use Rattle.graph_meaning.specs.Effect.{Cells, zero_cells, Effect, Effects, effect}
use Rattle.graph_meaning.specs.Evaluation.{Step, end_by, is_ended, has_ended, cells_with, cancels, is_cancelled, step_by, step_with, lowest_ready, advance_by_with, steps_with, evaluation_with, end_with, eval_end, UnbrokenBy, Unbroken, faults, faulted, on}
use Rattle.basics.proofs.ListFacts.{some_passes, passes_some, filter_contains, contains_filter}
use Rattle.graph_meaning.proofs.Waiting.{end_in_left, end_in_ended, steps_end_with, ends_in_order_with, ended_cases, step_with-line, lowest_ready_is}
use Rattle.graph_meaning.proofs.Turns.{ends_by_turn_with}
use Rattle.graph_meaning.specs.Laws.{EndedLinesStand}

-- a line with an end has ended
pub has_ended_of : (does : Effects) (first : Cells) (g : GraphValue) (i : ℕ) → is_ended (end_with does first g i) ≡ true → has_ended (evaluation_with does first g) i ≡ true
has_ended_of does first g i h = true_from_ne_false (has_ended (evaluation_with does first g) i) (λ f. true≢false (sym h ∙ ap is_ended (end_in_left (evaluation_with does first g) i f)))

pub ended_lines_stand : EndedLinesStand
ended_lines_stand does first g k h = ((ends_in_order_with does first g).each k (has_ended_of does first g k h)).0

is_ended_of : (does : Effects) (first : Cells) (g : GraphValue) (i : ℕ) → has_ended (evaluation_with does first g) i ≡ true → is_ended (end_with does first g i) ≡ true
is_ended_of does first g i h = end_in_ended (evaluation_with does first g) i (steps_end_with does first g (length g.lines)) h

-- an edge that cancels its target
cancelled_by : (does : Effects) (first : Cells) (g : GraphValue) (j : ℕ) (e : Edge) → Contains (edges g) e → e.to ≡ j → cancels e.kind (end_with does first g e.from) ≡ true → is_ended (end_with does first g j) ≡ true → end_with does first g j ≡ Cancelled
cancelled_by does first g j e c to h ended =
    let t = ends_by_turn_with does first g j (has_ended_of does first g j ended) in
    let yes : is_cancelled g (evaluation_with does first g) j ≡ true = passes_some (λ (x : Edge). cancels x.kind (end_with does first g x.from)) (edges_into g j) e (contains_filter (λ (x : Edge). x.to == j) (edges g) e c (eq-eqb e.to j to)) h in
    t.end_is ∙ ap (λ b. (step_by j b (does j (cells_with first t.before))).ends) yes

cancels_faults : (k : EdgeKind) (x : End) → k ≡ Faults → cancels k x ≡ true
cancels_faults k x e = ap (λ k. cancels k x) e

cancels_kind : (k : EdgeKind) (x : End) → (x ≡ Faulted) ⊎ (x ≡ Cancelled) → k ≢ Ignores → cancels k x ≡ true
cancels_kind Passes x (inl e) h = ap (cancels Passes) e
cancels_kind Passes x (inr e) h = ap (cancels Passes) e
cancels_kind Faults x e h = refl
cancels_kind Ignores x e h = absurd (h refl)

pub cancelled_if_unbroken_with : (does : Effects) (first : Cells) {g : GraphValue} {j : ℕ} → UnbrokenBy g (end_with does first g) j → end_with does first g j ≡ Cancelled
cancelled_if_unbroken_with does first {g} {j} (faults e c k to source target) = cancelled_by does first g j e c to (cancels_faults e.kind (end_with does first g e.from) k) target
cancelled_if_unbroken_with does first {g} {j} (faulted e c k to source target) = cancelled_by does first g j e c to (cancels_kind e.kind (end_with does first g e.from) (inl source) k) target
cancelled_if_unbroken_with does first {g} {j} (on e c k to source target) = cancelled_by does first g j e c to (cancels_kind e.kind (end_with does first g e.from) (inr (cancelled_if_unbroken_with does first source)) k) target

-- by what an edge cancels its target
cancels_cases : (k : EdgeKind) (x : End) → cancels k x ≡ true → (k ≡ Faults) ⊎ ((k ≢ Ignores) × (x ≡ Faulted) ⊎ (k ≢ Ignores) × (x ≡ Cancelled))
cancels_cases Faults x h = inl refl
cancels_cases Passes Faulted h = inr (inl (λ e. cc, refl))
cancels_cases Passes Cancelled h = inr (inr (λ e. cc, refl))
cancels_cases k x h = absurd (true≢false (sym h))

pub not_cancelled_of : (v : Verdict) → end_by v ≡ Cancelled → ⊥
not_cancelled_of Fine h = cc
not_cancelled_of Fault h = cc

cancelled_only : (i : ℕ) (b : Bool) (e : Effect) → (step_by i b e).ends ≡ Cancelled → b ≡ true
cancelled_only i true e h = refl
cancelled_only i false e h = absurd (not_cancelled_of e.verdict h)

-- the first way to a cancelled line is unbroken, where those to its sources are
unbroken_at : (does : Effects) (first : Cells) (g : GraphValue) (i : ℕ) → has_ended (evaluation_with does first g) i ≡ true → end_with does first g i ≡ Cancelled →
    ((e : Edge) → Contains (edges g) e → e.to ≡ i → end_with does first g e.from ≡ Cancelled → UnbrokenBy g (end_with does first g) e.from) → UnbrokenBy g (end_with does first g) i
unbroken_at does first g i h cancelled again =
    let t = ends_by_turn_with does first g i h in
    let yes : is_cancelled g (evaluation_with does first g) i ≡ true = cancelled_only i (is_cancelled g (evaluation_with does first g) i) (does i (cells_with first t.before)) (sym t.end_is ∙ cancelled) in
    let s = some_passes (λ (x : Edge). cancels x.kind (end_with does first g x.from)) (edges_into g i) yes in
    let k = filter_contains (λ (x : Edge). x.to == i) (edges g) s.0 s.1 in
    let to : s.0.to ≡ i = eqb-true s.0.to i k.1 in
    let source_ended : is_ended (end_with does first g s.0.from) ≡ true = is_ended_of does first g s.0.from (((ends_in_order_with does first g).each i h).2 s.0 k.0 to) in
    elim (cancels_cases s.0.kind (end_with does first g s.0.from) s.2) [
      | inl f ↦ faults s.0 k.0 f to source_ended (is_ended_of does first g i h)
      | inr (inl p) ↦ faulted s.0 k.0 p.0 to p.1 (is_ended_of does first g i h)
      | inr (inr p) ↦ on s.0 k.0 p.0 to (again s.0 k.0 to p.1) (is_ended_of does first g i h)
    ]

-- lines that ended within n turns
abbrev UnbrokenWithin : Effects → Cells → GraphValue → List Step → Type 0
UnbrokenWithin does first g ss = (i : ℕ) → has_ended ss i ≡ true → has_ended (evaluation_with does first g) i ≡ true → end_with does first g i ≡ Cancelled → UnbrokenBy g (end_with does first g) i

unbroken_by : (does : Effects) (first : Cells) (g : GraphValue) (ss : List Step) (o : Option ℕ) → lowest_ready g ss ≡ o → UnbrokenWithin does first g ss → UnbrokenWithin does first g (advance_by_with does first g ss o)
unbroken_by does first g ss None e all = all
unbroken_by does first g ss (Some k) e all = λ i h ended cancelled. elim (ended_cases ss (step_with does first g ss k) i h) [
  | inl before ↦ all i before ended cancelled
  | inr last ↦ (let same : i ≡ k = sym last ∙ step_with-line does first g ss k in
      unbroken_at does first g i ended cancelled (λ x c to sc. all x.from ((lowest_ready_is g ss k e).sources x c (to ∙ same)) (((ends_in_order_with does first g).each i ended).2 x c to) sc))
]

unbroken_after : (does : Effects) (first : Cells) (g : GraphValue) (n : ℕ) → UnbrokenWithin does first g (steps_with does first g n)
unbroken_after does first g zero = λ i h ended cancelled. absurd (true≢false (sym h))
unbroken_after does first g (suc n) = unbroken_by does first g (steps_with does first g n) (lowest_ready g (steps_with does first g n)) refl (unbroken_after does first g n)

pub unbroken_if_cancelled_with : (does : Effects) (first : Cells) (g : GraphValue) (i : ℕ) → end_with does first g i ≡ Cancelled → UnbrokenBy g (end_with does first g) i
unbroken_if_cancelled_with does first g i h =
    let ended : has_ended (evaluation_with does first g) i ≡ true = has_ended_of does first g i (ap is_ended h) in
    unbroken_after does first g (length g.lines) i ended ended h

-- the same with the effects of the graph's verbs, and cells of 0
pub cancelled_if_unbroken : {g : GraphValue} {j : ℕ} → Unbroken g j → eval_end g j ≡ Cancelled
cancelled_if_unbroken {g} {j} u = cancelled_if_unbroken_with (effect g) zero_cells u

pub unbroken_if_cancelled : (g : GraphValue) (i : ℕ) → eval_end g i ≡ Cancelled → Unbroken g i
unbroken_if_cancelled g i h = unbroken_if_cancelled_with (effect g) zero_cells g i h
