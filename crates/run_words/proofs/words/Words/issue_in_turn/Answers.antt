use Rattle.std.proofs.Common.{arith, ◌≡◌, ℕ, ◌<◌, [], ◌∷◌, length, ap, sym, subst}
use Rattle.std.specs.Prelude.{Contains}
use Rattle.std.proofs.lemmas.List.Elements.{Contains-append_right}
use Rattle.basics.proofs.ListFacts.{contains_here}
use Rattle.word_steps.specs.declared.view.View.{View}
use Rattle.run_words.specs.Words.{graph_of}
use Rattle.word_steps.specs.Plays.{Sat, sat}
use Rattle.shared_events.specs.Views.{lists}
use Rattle.run_words.proofs.TakingTurn.{unchanged}
use Rattle.run_words.proofs.Growing.{grows_same}
use Rattle.run_words.proofs.words.Words.issue_in_turn.Goals as goal
use Rattle.run_parts.specs.declared.answers.Issue.{Issue}
use Rattle.run_parts.specs.declared.answers.Issue.TheVariants as answers

abbrev number_in : Issue → ℕ
number_in (answers.Issued i) = i
number_in answers.NoSlot = 0
number_in answers.All = 0
number_in answers.Other = 0

pub returns-then-line-lines-clause-now : goal.returns-then-line-lines-clause-now
returns-then-line-lines-clause-now c = ([], ap (λ (x : View). sat x c.args.seat.now.me.1) (unchanged c.args.seat.now.me.0 c.args.issue_turn.now.handles.items c.requires.quiet c.requires.turn))

pub returns-then-issue_next-clause-issued : goal.returns-then-issue_next-clause-issued
returns-then-issue_next-clause-issued c = λ i q.
    let n = c.issue_next.ensures.issued c.if-issue_next.true in
    let k : c.len-line.result ≡ i = ap number_in q in
    let has : Contains c.issue_next.new.seat.me.0.issued c.len-line.result = subst (λ l. Contains l c.len-line.result) (sym (ap (λ (m : Sat). m.0.issued) n.2)) (Contains-append_right c.args.seat.now.me.0.issued (c.len-line.result ∷ []) c.len-line.result (contains_here c.len-line.result [])) in
    (subst (Contains c.issue_next.new.seat.me.0.issued) k has, subst (λ j. j < length (graph_of c.args.self.now).lines) k (omega (arith, c.if-line-lines.false, c.lines-lines.ensures.number, ap (λ (g : Rattle.graph_terms.specs.Graph.GraphValue). length g.lines) c.graph.ensures.graph)))

pub returns-then-issue_next-clause-grown : goal.returns-then-issue_next-clause-grown
returns-then-issue_next-clause-grown c = λ i q.
    let n = c.issue_next.ensures.issued c.if-issue_next.true in
    let k : c.len-line.result ≡ i = ap number_in q in
    (let e = c.len-line.ensures in omega (arith, k, e), n.0, n.1)

pub returns-then-line-lines-clause-grows : goal.returns-then-line-lines-clause-grows
returns-then-line-lines-clause-grows c = grows_same (lists c.args.events.now)
