use Rattle.std.proofs.Common.{ℕ, ◌∷◌, ap, sym, ◌∙◌}
use Rattle.word_steps.specs.declared.content.Content.TheVariants.{Nothing, Issuer}
use Rattle.run_words.specs.Words.{graph_of, events_of}
use Rattle.run_words.proofs.TakingTurn.{keys, on_top, issue_state, few, with, pair}
use Rattle.run_words.proofs.words.Words.take_issue_state.Goals as goal

pub take_out-requires-clause-at : goal.take_out-requires-clause-at
take_out-requires-clause-at c = let h = c.take_issue_turn.ensures.takes.0 c.if-take_issue_turn-ne0.false in
    (c.take_issue_turn.ensures.table ∙ c.requires.at.0, keys (graph_of c.args.self.now) (events_of c.args.self.now) c.args.seat.now.me c.take_issue_turn.new.seat.me c.requires.at.1 h)

pub take_out-requires-clause-top : goal.take_out-requires-clause-top
take_out-requires-clause-top c = let h = c.take_issue_turn.ensures.takes.0 c.if-take_issue_turn-ne0.false in
    (Issuer h.issue_state, c.args.seat.now.me.1, on_top (graph_of c.args.self.now) (events_of c.args.self.now) c.args.seat.now.me c.take_issue_turn.new.seat.me c.requires.at.1 h c.issue_turn_slot-slot.result c.issue_turn_slot-slot.ensures)

pub issue_state_of-requires : goal.issue_state_of-requires
issue_state_of-requires c = let h = c.take_issue_turn.ensures.takes.0 c.if-take_issue_turn-ne0.false in
    (h.issue_state, (c.take_out.ensures.hand (Issuer h.issue_state) c.args.seat.now.me.1 (on_top (graph_of c.args.self.now) (events_of c.args.self.now) c.args.seat.now.me c.take_issue_turn.new.seat.me c.requires.at.1 h c.issue_turn_slot-slot.result c.issue_turn_slot-slot.ensures)).0)

pub returns-clause-issue_state : goal.returns-clause-issue_state
returns-clause-issue_state c = let h = c.take_issue_turn.ensures.takes.0 c.if-take_issue_turn-ne0.false in
    let g = graph_of c.args.self.now in
    let e = events_of c.args.self.now in
    let o = c.take_out.ensures.hand (Issuer h.issue_state) c.args.seat.now.me.1 (on_top g e c.args.seat.now.me c.take_issue_turn.new.seat.me c.requires.at.1 h c.issue_turn_slot-slot.result c.issue_turn_slot-slot.ensures) in
    let out = sym o.0 ∙ c.issue_state_of.ensures in
    (issue_state g e c.args.seat.now.me c.take_issue_turn.new.seat.me c.requires.at.1 h c.issue_state_of.result out, few g e c.args.seat.now.me c.take_issue_turn.new.seat.me c.requires.at.1 h c.issue_state_of.result out)

pub returns-clause-taken : goal.returns-clause-taken
returns-clause-taken c = let h = c.take_issue_turn.ensures.takes.0 c.if-take_issue_turn-ne0.false in
    let g = graph_of c.args.self.now in
    let e = events_of c.args.self.now in
    let o = c.take_out.ensures.hand (Issuer h.issue_state) c.args.seat.now.me.1 (on_top g e c.args.seat.now.me c.take_issue_turn.new.seat.me c.requires.at.1 h c.issue_turn_slot-slot.result c.issue_turn_slot-slot.ensures) in
    let out = sym o.0 ∙ c.issue_state_of.ensures in
    pair (c.take_out.ensures.view ∙ with g e c.args.seat.now.me c.take_issue_turn.new.seat.me c.requires.at.1 h c.issue_state_of.result out)
    (o.1 ∙ ap (λ (k : ℕ). (k, Nothing) ∷ c.args.seat.now.me.1) c.issue_turn_slot-slot.ensures)
