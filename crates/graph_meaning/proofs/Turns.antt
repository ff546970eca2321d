-- How a line ended in the evaluation: at its turn, by the ends of its sources and by its effect on the cells then.
use Rattle.std.proofs.Common.{◌≡◌, ℕ, zero, suc, Bool, true, false, cond, ◌||◌, inl, inr, List, [], ◌∷◌, ◌++◌, length, refl, sym, ◌∙◌, ap, subst, append_assoc}
use Rattle.std.specs.Prelude.{Contains, Option, Some, None, ◌==◌}
use Rattle.std.proofs.lemmas.Bool.{true≢false, eq-eqb, eqb-true}
use Rattle.graph_terms.specs.declared.verb.Edge.{Edge}
use Rattle.graph_terms.specs.Graph.{GraphValue}
use Rattle.graph_terms.specs.Edges.{edges, edges_into}
use Rattle.graph_meaning.specs.Effect.{Cells, zero_cells, Effects, effect}
use Rattle.graph_meaning.specs.Evaluation.{Step, end_in, has_ended, changes_in, cells_with, cancels, is_cancelled, step_by, step_with, lowest_ready, advance_by_with, steps_with, evaluation_with}
use Rattle.basics.proofs.ListFacts.{filter_contains, list_any_agree}
use Rattle.graph_meaning.proofs.Waiting.{step_with-line, ended_cases, stays_ended, lowest_ready_is, ends_in_order_after}
use Rattle.graph_meaning.specs.Turns.{IsTurn, HaveTurns, EndsByTurn, Ready, EndsInOrder}
use Rattle.graph_meaning.specs.Laws.{StepsHaveTurns, EndsByItsTurn, LaterStepKeepsEnd, LastStepGivesEnd}

-- what is found at a step, or else further on: the same further on, and so the same here
found_same : {X : Type 0} (x new old : X) (b more : Bool) → (b || more) ≡ true → (more ≡ true → new ≡ old) → cond b x new ≡ cond b x old
found_same x new old true more h again = refl
found_same x new old false more h again = again h

found_further : {X : Type 0} (x new last : X) (b more : Bool) → (b || more) ≡ false → (more ≡ false → new ≡ last) → cond b x new ≡ last
found_further x new last true more h again = absurd (true≢false h)
found_further x new last false more h again = again h

-- a later step changes no end and no changes that stand
pub end_in-push : LaterStepKeepsEnd
end_in-push [] s i h = absurd (true≢false (sym h))
end_in-push (t ∷ ss) s i h = found_same t.ends (end_in (ss ++ s ∷ []) i) (end_in ss i) (t.line == i) (has_ended ss i) h (end_in-push ss s i)

pub changes_in-push : (ss : List Step) (s : Step) (i : ℕ) → has_ended ss i ≡ true → changes_in (ss ++ s ∷ []) i ≡ changes_in ss i
changes_in-push [] s i h = absurd (true≢false (sym h))
changes_in-push (t ∷ ss) s i h = found_same t.changes (changes_in (ss ++ s ∷ []) i) (changes_in ss i) (t.line == i) (has_ended ss i) h (changes_in-push ss s i)

-- the last step is that of its line, where the line had not ended before
pub end_in_last : LastStepGivesEnd
end_in_last [] s i e h = rw (eq-eqb s.line i e) refl
end_in_last (t ∷ ss) s i e h = found_further t.ends (end_in (ss ++ s ∷ []) i) s.ends (t.line == i) (has_ended ss i) h (end_in_last ss s i e)

pub changes_in_last : (ss : List Step) (s : Step) (i : ℕ) → s.line ≡ i → has_ended ss i ≡ false → changes_in (ss ++ s ∷ []) i ≡ s.changes
changes_in_last [] s i e h = rw (eq-eqb s.line i e) refl
changes_in_last (t ∷ ss) s i e h = found_further t.changes (changes_in (ss ++ s ∷ []) i) s.changes (t.line == i) (has_ended ss i) h (changes_in_last ss s i e)

-- whether a line is cancelled rests on the ends of its sources alone
pub is_cancelled_agree : (g : GraphValue) (ss ts : List Step) (i : ℕ) → ((e : Edge) → Contains (edges g) e → e.to ≡ i → end_in ss e.from ≡ end_in ts e.from) → is_cancelled g ss i ≡ is_cancelled g ts i
is_cancelled_agree g ss ts i h = list_any_agree (λ (e : Edge). cancels e.kind (end_in ss e.from)) (λ (e : Edge). cancels e.kind (end_in ts e.from)) (edges_into g i)
    (λ e c. let k = filter_contains (λ (e : Edge). e.to == i) (edges g) e c in ap (cancels e.kind) (h e k.0 (eqb-true e.to i k.1)))

turn_kept : (does : Effects) (first : Cells) (g : GraphValue) (ss : List Step) (i : ℕ) (s : Step) → has_ended ss i ≡ true → (before : List Step) → IsTurn does first g ss i before →
    ((e : Edge) → Contains (edges g) e → e.to ≡ i → has_ended ss e.from ≡ true) → IsTurn does first g (ss ++ s ∷ []) i before
turn_kept does first g ss i s h before t sources = record {
  ready = t.ready;
  ordered = t.ordered;
  after = t.after ++ s ∷ [];
  parts = ap (λ x. x ++ s ∷ []) t.parts ∙ append_assoc before (step_with does first g before i ∷ t.after) (s ∷ []);
  end_is = end_in-push ss s i h ∙ t.end_is;
  changes_are = changes_in-push ss s i h ∙ t.changes_are;
  sources_same = λ e c to. end_in-push ss s e.from (sources e c to) ∙ t.sources_same e c to;
}

turn_made : (does : Effects) (first : Cells) (g : GraphValue) (ss : List Step) (i : ℕ) → Ready g ss i → EndsInOrder g ss → IsTurn does first g (ss ++ step_with does first g ss i ∷ []) i ss
turn_made does first g ss i r o = record {
  ready = r;
  ordered = o;
  after = [];
  parts = refl;
  end_is = end_in_last ss (step_with does first g ss i) i (step_with-line does first g ss i) r.left;
  changes_are = changes_in_last ss (step_with does first g ss i) i (step_with-line does first g ss i) r.left;
  sources_same = λ e c to. end_in-push ss (step_with does first g ss i) e.from (r.sources e c to);
}

turns_push : (does : Effects) (first : Cells) (g : GraphValue) (ss : List Step) (k : ℕ) → Ready g ss k → EndsInOrder g ss → HaveTurns does first g ss → HaveTurns does first g (ss ++ step_with does first g ss k ∷ [])
turns_push does first g ss k r o all i h = elim (ended_cases ss (step_with does first g ss k) i h) [
  | inl before ↦ (let t = all i before in (t.0, turn_kept does first g ss i (step_with does first g ss k) before t.0 t.1 t.2, λ e c to. stays_ended ss (step_with does first g ss k) e.from (t.2 e c to)))
  | inr last ↦ (let same : k ≡ i = sym (step_with-line does first g ss k) ∙ last in
      subst (λ x. (before : List Step) × IsTurn does first g (ss ++ step_with does first g ss k ∷ []) x before × ((e : Edge) → Contains (edges g) e → e.to ≡ x → has_ended (ss ++ step_with does first g ss k ∷ []) e.from ≡ true)) same
      (ss, turn_made does first g ss k r o, λ e c to. stays_ended ss (step_with does first g ss k) e.from (r.sources e c to)))
]

turns_by : (does : Effects) (first : Cells) (g : GraphValue) (ss : List Step) (o : Option ℕ) → lowest_ready g ss ≡ o → EndsInOrder g ss → HaveTurns does first g ss → HaveTurns does first g (advance_by_with does first g ss o)
turns_by does first g ss None e ordered all = all
turns_by does first g ss (Some k) e ordered all = turns_push does first g ss k (lowest_ready_is g ss k e) ordered all

pub turns_with : (does : Effects) (first : Cells) (g : GraphValue) (n : ℕ) → HaveTurns does first g (steps_with does first g n)
turns_with does first g zero = λ i h. absurd (true≢false (sym h))
turns_with does first g (suc n) = turns_by does first g (steps_with does first g n) (lowest_ready g (steps_with does first g n)) refl (ends_in_order_after does first g n) (turns_with does first g n)

pub ends_by_turn_with : (does : Effects) (first : Cells) (g : GraphValue) (i : ℕ) → has_ended (evaluation_with does first g) i ≡ true → EndsByTurn does first g i
ends_by_turn_with does first g i h =
    let t = turns_with does first g (length g.lines) i h in
    let same : is_cancelled g t.0 i ≡ is_cancelled g (evaluation_with does first g) i = is_cancelled_agree g t.0 (evaluation_with does first g) i (λ e c to. sym (t.1.sources_same e c to)) in
    let step_same : step_with does first g t.0 i ≡ step_by i (is_cancelled g (evaluation_with does first g) i) (does i (cells_with first t.0)) = ap (λ b. step_by i b (does i (cells_with first t.0))) same in
    record {
      before = t.0;
      after = t.1.after;
      parts = t.1.parts ∙ ap (λ (s : Step). t.0 ++ s ∷ t.1.after) step_same;
      end_is = t.1.end_is ∙ ap (λ (s : Step). s.ends) step_same;
      changes_are = t.1.changes_are ∙ ap (λ (s : Step). s.changes) step_same;
    }

-- the same with the effects of the graph's verbs, and cells of 0
pub turns_after : StepsHaveTurns
turns_after g n = turns_with (effect g) zero_cells g n

pub ends_by_turn : EndsByItsTurn
ends_by_turn g i h = ends_by_turn_with (effect g) zero_cells g i h
