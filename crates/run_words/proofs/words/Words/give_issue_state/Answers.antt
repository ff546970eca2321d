use Rattle.std.proofs.Common.{ℕ, ◌∷◌, ap, sym, ◌∙◌}
use Rattle.atomic_table.specs.Table.{rest}
use Rattle.word_steps.specs.Plays.{Sat, without_issue_turn, issue_states_in, sat}
use Rattle.run_words.proofs.TakingTurn.{pair}
use Rattle.word_steps.specs.declared.content.Content.TheVariants.{Nothing, Issuer}
use Rattle.run_words.proofs.words.Words.give_issue_state.Goals as goal

pub give_issue_turn-requires-clause-may : goal.give_issue_turn-requires-clause-may
give_issue_turn-requires-clause-may c =
    let q = c.issue_turn_slot-slot.ensures in
    let top = c.put_in.ensures.hand c.requires.hand.0 (c.requires.hand.1 ∙ ap (λ (k : ℕ). (k, Nothing) ∷ c.requires.hand.0) (sym q)) in
    (c.args.issue_turn.handles.items, ap (λ v. v.issue_turn) c.put_in.ensures.view ∙ c.requires.turn, (c.args.issue_turn, (c.requires.hand.0, top ∙ ap (λ (k : ℕ). (k, Issuer c.args.issue_turn) ∷ c.requires.hand.0) q), c.requires.issue_state))

pub returns-clause-given : goal.returns-clause-given
returns-clause-given c = λ left is.
    let top = c.put_in.ensures.hand left (is ∙ ap (λ (k : ℕ). (k, Nothing) ∷ left) (sym c.issue_turn_slot-slot.ensures)) in
    c.give_issue_turn.ensures.gives ∙ ap (λ (y : Sat). sat (without_issue_turn y.0 (issue_states_in y.1)) (rest y.1)) (pair c.put_in.ensures.view top)
