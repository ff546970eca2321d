use Rattle.std.proofs.Common.{◌≡◌, ◌<◌, length, sym, ◌∙◌, subst}
use Rattle.std.specs.Prelude.{Some, slice_get, slice_set}
use Rattle.basics.proofs.ListFacts.{set_get, set_get_other}
use Rattle.run_words.specs.Words.{graph_of}
use Rattle.run_words.proofs.words.Words.lay.Goals as goal

pub returns-clause-laid : goal.returns-clause-laid
returns-clause-laid c =
    let waiters = c.args.issue_turn.now.waiters.items in
    let near : c.number-line.result < length waiters = subst (λ n. c.number-line.result < n) (sym c.requires.issue_state.places) (subst (λ k. k < length (graph_of c.args.self.now).lines) (sym c.number-line.ensures) c.requires.near) in
    (c.args.waiter, subst (λ k. slice_get (slice_set waiters c.number-line.result (Some c.args.waiter)) k ≡ Some (Some c.args.waiter)) c.number-line.ensures (set_get waiters c.number-line.result (Some c.args.waiter) near))

pub returns-clause-others : goal.returns-clause-others
returns-clause-others c = λ k ne. set_get_other c.args.issue_turn.now.waiters.items c.number-line.result k (Some c.args.waiter) (λ q. ne (q ∙ c.number-line.ensures))
