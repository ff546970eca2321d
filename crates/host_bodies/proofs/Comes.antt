-- A line that comes, and whose sources end in the evaluation, ends there too.
use Rattle.std.proofs.Common.{◌≡◌, ℕ, true, false, ◌⊎◌, inl, inr, length, refl, sym, ◌∙◌, ap, subst}
use Rattle.std.specs.Prelude.{Contains, ◌<◌}
use Rattle.std.proofs.lemmas.Bool.{true≢false, true_from_ne_false}
use Rattle.graph_terms.specs.declared.outcome.End.{End}
use Rattle.graph_terms.specs.declared.outcome.End.TheVariants.{Done, Faulted, Cancelled, Waiting}
use Rattle.graph_terms.specs.declared.verb.Edge.{Edge}
use Rattle.graph_terms.specs.Graph.{GraphValue, never_comes}
use Rattle.graph_terms.specs.Edges.{edges}
use Rattle.graph_terms.specs.Fits.{IsGraph}
use Rattle.graph_terms.proofs.Public.{edges_in_range}
use Rattle.graph_meaning.specs.Path.{HasPath, Reached, last, first}
use Rattle.graph_meaning.specs.Rules.{Accepted}
use Rattle.graph_meaning.specs.Effect.{Cells, Effects}
use Rattle.graph_meaning.specs.Evaluation.{is_ended, end_with}
use Rattle.graph_meaning.specs.Laws.{WaitsWhereReachedWith}

-- the last edge of a path
last_edge : (g : GraphValue) (j i : ℕ) → HasPath g j i → (e : Edge) × Contains (edges g) e × (e.to ≡ i) × ((e.from ≡ j) ⊎ HasPath g j e.from)
last_edge g j i (last e c p q) = (e, c, q, inl p)
last_edge g j i (first e c p r) =
    let s = last_edge g e.to i r in (
      s.0,
      s.1,
      s.2,
      inr (elim s.3 [
        | inl same ↦ last e c p (sym same)
        | inr path ↦ first e c p path
      ]),
    )

waits_if_not_ended : (x : End) → is_ended x ≡ false → x ≡ Waiting
waits_if_not_ended Done e = absurd (true≢false e)
waits_if_not_ended Faulted e = absurd (true≢false e)
waits_if_not_ended Cancelled e = absurd (true≢false e)
waits_if_not_ended Waiting e = refl

-- a line that is reached and comes has a source that is reached
source_reached : (g : GraphValue) (i : ℕ) → never_comes g i ≡ false → Reached g i → (e : Edge) × Contains (edges g) e × (e.to ≡ i) × Reached g e.from
source_reached g i comes (inl never) = absurd (true≢false (sym never ∙ comes))
source_reached g i comes (inr (j, never, path)) =
    let l = last_edge g j i path in (
      l.0,
      l.1,
      l.2,
      elim l.3 [
        | inl same ↦ inl (subst (λ k. never_comes g k ≡ true) (sym same) never)
        | inr rest ↦ inr (j, never, rest)
      ],
    )

pub ends_there : WaitsWhereReachedWith → (does : Effects) (first_cells : Cells) (g : GraphValue) → IsGraph g → Accepted g → (i : ℕ) → i < length g.lines → never_comes g i ≡ false →
    ((e : Edge) → Contains (edges g) e → e.to ≡ i → is_ended (end_with does first_cells g e.from) ≡ true) → is_ended (end_with does first_cells g i) ≡ true
ends_there waits does first_cells g fits accepted i below comes ready = true_from_ne_false (is_ended (end_with does first_cells g i)) (λ f.
    let reached : Reached g i = (waits does first_cells g i fits accepted.acyclic below).0 (waits_if_not_ended (end_with does first_cells g i) f) in
    let s = source_reached g i comes reached in
    let still = (waits does first_cells g s.0.from fits accepted.acyclic (edges_in_range g fits s.0 s.1).0).1 s.3 in
    true≢false (sym (ready s.0 s.1 s.2) ∙ ap is_ended still))
