use Rattle.std.proofs.Common.{◌<◌, inr, length, refl, sym, ◌∙◌, ap, subst, arith}
use Rattle.std.specs.Prelude.{Some}
use Rattle.std.proofs.lemmas.Option.{slice_get_read}
use Rattle.shared_events.specs.Views.{lists}
use Rattle.run_words.specs.Standing.{Watches, IsPlacedAs}
use Rattle.run_words.proofs.words.Words.place_waiter.Goals as goal

pub returns-clause-told : goal.returns-clause-told
returns-clause-told c =
    let handles = c.args.issue_turn.now.handles.items in
    let waiters = c.args.issue_turn.now.waiters.items in
    let near : c.args.source < length handles = omega (arith, c.if-source-len.false, c.len.ensures) in
    let below : c.args.line < length waiters = subst (λ n. c.args.line < n) (sym c.requires.issue_state.places) c.requires.line in
    let at = slice_get_read waiters (length waiters) c.args.line c.index_mut.result.now refl below c.index_mut.ensures.value ∙ ap Some (sym c.take.ensures.value ∙ c.in-Some.is) in
    inr (
      c.index-handle.result.now,
      slice_get_read handles (length handles) c.args.source c.index-handle.result.now refl near c.index-handle.ensures,
      subst (λ n. Watches n c.index-handle.result.now c.watch_for.new.issue_turn (lists c.args.events.now) (lists c.watch_for.new.events)) (c.requires.issue_state.waiters c.args.line c.in-Some.waiter at).0 c.watch_for.ensures.told,
    )

pub returns-clause-placed : goal.returns-clause-placed
returns-clause-placed c =
    let waiters = c.args.issue_turn.now.waiters.items in
    let below : c.args.line < length waiters = subst (λ n. c.args.line < n) (sym c.requires.issue_state.places) c.requires.line in
    let at = slice_get_read waiters (length waiters) c.args.line c.index_mut.result.now refl below c.index_mut.ensures.value ∙ ap Some (sym c.take.ensures.value ∙ c.in-Some.is) in
    subst (λ n. IsPlacedAs c.watch_for.result n (lists c.args.events.now) (lists c.watch_for.new.events)) (c.requires.issue_state.waiters c.args.line c.in-Some.waiter at).0 c.watch_for.ensures.placed
