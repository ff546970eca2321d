use Rattle.std.proofs.Common.{◌-◌, ◌+◌, ◌/◌, arith, [], length, ◌∙◌, ap, subst}
use Rattle.std.proofs.lemmas.Nat.{mul-le}
use Rattle.graph_terms.specs.Graph.{GraphValue}
use Rattle.graph_meaning.specs.Effect.{zero_cells}
use Rattle.line_effects.specs.Homes.{all_home}
use Rattle.word_steps.specs.Rule.{IsIssueState}
use Rattle.share_words.specs.Shares.{AreShares}
use Rattle.word_parts.proofs.opening.begin.Goals as goal

pub overflow_mul-lines : goal.overflow_mul-lines
overflow_mul-lines c = (let most = mul-le c.lines-lines.result (c.args.slots / 64 + 4) 65536 132 (omega (arith, c.lines-lines.ensures.few)) (omega (arith, c.requires.most)) in omega (arith, most))

pub first_table-requires-clause-zero : goal.first_table-requires-clause-zero
first_table-requires-clause-zero c = c.in_ok-homes.ensures ∙ ap (λ (x : GraphValue). all_home x zero_cells) c.graph-graph.ensures.graph

pub first_table-requires-clause-issue_state : goal.first_table-requires-clause-issue_state
first_table-requires-clause-issue_state c = subst (λ n. IsIssueState c.in_ok-events.events n [] c.in_ok-events.issue_turn) (c.lines-lines.ensures.number ∙ ap (λ (x : GraphValue). length x.lines) c.graph-graph.ensures.graph) c.in_ok-events.ensures.issue_state

pub first_table-requires-clause-shares : goal.first_table-requires-clause-shares
first_table-requires-clause-shares c = subst (λ (x : GraphValue). AreShares x c.in_ok-shares.shares) c.graph-graph.ensures.graph c.in_ok-shares.ensures

pub new-words-requires-clause-counted : goal.new-words-requires-clause-counted
new-words-requires-clause-counted c = subst (λ (x : GraphValue). AreShares x c.in_ok-shares.shares) c.graph-graph.ensures.graph c.in_ok-shares.ensures
