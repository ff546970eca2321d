use Rattle.std.proofs.Common.{ℕ, List, [], ◌∷◌, ◌≡◌, refl, ap, sym, subst, ◌∙◌}
use Rattle.std.specs.Prelude.{Contains}
use Rattle.std.proofs.lemmas.List.{append-nil}
use Rattle.std.proofs.lemmas.List.Elements.{Contains-append_left}
use Rattle.basics.proofs.ListFacts.{contains_here}
use Rattle.graph_terms.specs.declared.outcome.End.{End}
use Rattle.graph_terms.specs.Graph.{GraphValue, never_comes}
use Rattle.word_steps.specs.Plays.{Sat}
use Rattle.shared_events.specs.Views.{lists}
use Rattle.run_words.proofs.AnswerFacts.{answered}
use Rattle.run_words.proofs.Growing.{grows_same}
use Rattle.run_words.proofs.words.Words.attempt.Goals as goal

pub returns-then-word-ne2-clause-kept_issued : goal.returns-then-word-ne2-clause-kept_issued
returns-then-word-ne2-clause-kept_issued c = λ j k. record { known = subst (λ l. Contains l j) (sym (ap (λ (m : Sat). m.0.issued) c.look-word.ensures.looked.0)) (Contains-append_left c.args.seat.now.inner.me.0.issued _ j k.known) }

pub returns-then-word-ne2-clause-kept_ended : goal.returns-then-word-ne2-clause-kept_ended
returns-then-word-ne2-clause-kept_ended c = λ j x k. record { known = subst (λ (l : List (ℕ × End)). Contains l (j, x)) (sym (ap (λ (m : Sat). m.0.ended) c.look-word.ensures.looked.0)) (Contains-append_left c.args.seat.now.inner.me.0.ended _ (j, x) k.known) }

pub returns-then-never_comes-clause-kept_issued : goal.returns-then-never_comes-clause-kept_issued
returns-then-never_comes-clause-kept_issued c = λ j k. record { known = subst (λ l. Contains l j) (sym (ap (λ (m : Sat). m.0.issued) c.look-word.ensures.looked.0)) (Contains-append_left c.args.seat.now.inner.me.0.issued _ j k.known) }

pub returns-then-never_comes-clause-kept_ended : goal.returns-then-never_comes-clause-kept_ended
returns-then-never_comes-clause-kept_ended c = λ j x k. record { known = subst (λ (l : List (ℕ × End)). Contains l (j, x)) (sym (ap (λ (m : Sat). m.0.ended) c.look-word.ensures.looked.0)) (Contains-append_left c.args.seat.now.inner.me.0.ended _ (j, x) k.known) }

pub returns-clause-kept_issued : goal.returns-clause-kept_issued
returns-clause-kept_issued c = λ j k. c.attempt_due.ensures.kept_issued j (record { known = subst (λ l. Contains l j) (sym (ap (λ (m : Sat). m.0.issued) c.look-word.ensures.looked.0)) (Contains-append_left c.args.seat.now.inner.me.0.issued _ j k.known) })

pub returns-clause-kept_ended : goal.returns-clause-kept_ended
returns-clause-kept_ended c = λ j x k. c.attempt_due.ensures.kept_ended j x (record { known = subst (λ (l : List (ℕ × End)). Contains l (j, x)) (sym (ap (λ (m : Sat). m.0.ended) c.look-word.ensures.looked.0)) (Contains-append_left c.args.seat.now.inner.me.0.ended _ (j, x) k.known) })

pub returns-then-word-ne2-clause-answer : goal.returns-then-word-ne2-clause-answer
returns-then-word-ne2-clause-answer c =
    let n = c.look-word.ensures.looked.0 in
    let v = c.args.seat.now.inner.me.0 in (
      c.look-word.result,
      ((c.args.i, c.look-word.result) ∷ [], ap (λ (m : Sat). m.0.saw) n, contains_here {X = ℕ × ℕ} (c.args.i, c.look-word.result) []),
      c.stage_shown.ensures,
      c.if-word-ne2.true,
      ([], ap (λ (m : Sat). m.0.mine) n ∙ sym (append-nil v.mine), ap (λ (m : Sat). m.0.splits) n ∙ sym (append-nil v.splits)),
      (ap (λ (m : Sat). m.0.gave_up) n, ap (λ (m : Sat). m.0.closed) n),
      record {
        issue_turn = (ap (λ (m : Sat). m.0.issue_states) n, ap (λ (m : Sat). m.0.laid) n);
        handles = λ hs. (λ k. record { known = subst (λ l. Contains l hs) (sym (ap (λ (m : Sat). m.0.named) n)) k.known }, λ k. record { known = subst (λ l. Contains l hs) (ap (λ (m : Sat). m.0.named) n) k.known });
        events = refl;
      },
    )

pub returns-then-never_comes-clause-answer : goal.returns-then-never_comes-clause-answer
returns-then-never_comes-clause-answer c =
    let n = c.look-word.ensures.looked.0 in
    let v = c.args.seat.now.inner.me.0 in (
      (
        subst (λ (g : GraphValue). never_comes g c.args.i ≡ Rattle.std.specs.Prelude.true) c.graph-graph.ensures.graph (sym c.never_comes.ensures ∙ c.if-never_comes.true),
        (
          (c.args.i, c.look-word.result) ∷ [],
          ap (λ (m : Sat). m.0.saw) n,
          subst (λ (r : ℕ). Contains {X = ℕ × ℕ} ((c.args.i, r) ∷ []) (c.args.i, 2)) (sym c.if-word-ne2.false) (contains_here {X = ℕ × ℕ} (c.args.i, 2) []),
        ),
      ),
      ([], ap (λ (m : Sat). m.0.mine) n ∙ sym (append-nil v.mine), ap (λ (m : Sat). m.0.splits) n ∙ sym (append-nil v.splits)),
      (ap (λ (m : Sat). m.0.gave_up) n, ap (λ (m : Sat). m.0.closed) n),
      record {
        issue_turn = (ap (λ (m : Sat). m.0.issue_states) n, ap (λ (m : Sat). m.0.laid) n);
        handles = λ hs. (λ k. record { known = subst (λ l. Contains l hs) (sym (ap (λ (m : Sat). m.0.named) n)) k.known }, λ k. record { known = subst (λ l. Contains l hs) (ap (λ (m : Sat). m.0.named) n) k.known });
        events = refl;
      },
    )

pub returns-clause-answer : goal.returns-clause-answer
returns-clause-answer c =
    let n = c.look-word.ensures.looked.0 in
    answered c.args.seat.now _ ((c.args.i, c.look-word.result) ∷ [])
    (record {
      saw = ap (λ (m : Sat). m.0.saw) n;
      numbers = ap (λ (m : Sat). m.0.mine) n;
      splits = ap (λ (m : Sat). m.0.splits) n;
      issue_states = ap (λ (m : Sat). m.0.issue_states) n;
      laid = ap (λ (m : Sat). m.0.laid) n;
      named = ap (λ (m : Sat). m.0.named) n;
      gave_up = ap (λ (m : Sat). m.0.gave_up) n;
      closed = ap (λ (m : Sat). m.0.closed) n;
      let_go = ap (λ (m : Sat). m.0.let_go) n;
      events = refl;
    })
    c.attempt_due.new.seat c.args.self.now c.args.i c.attempt_due.result
    (subst (λ (r : ℕ). Contains {X = ℕ × ℕ} ((c.args.i, r) ∷ []) (c.args.i, 2)) (sym c.if-word-ne2.false) (contains_here {X = ℕ × ℕ} (c.args.i, 2) []))
    (subst (λ (g : GraphValue). never_comes g c.args.i ≡ Rattle.std.specs.Prelude.false) c.graph-graph.ensures.graph (sym c.never_comes.ensures ∙ c.if-never_comes.false))
    c.attempt_due.ensures.answer

pub returns-then-word-ne2-clause-grows : goal.returns-then-word-ne2-clause-grows
returns-then-word-ne2-clause-grows c = grows_same (lists c.args.seat.now.events)

pub returns-then-never_comes-clause-grows : goal.returns-then-never_comes-clause-grows
returns-then-never_comes-clause-grows c = grows_same (lists c.args.seat.now.events)
