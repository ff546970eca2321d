use Rattle.std.proofs.Common.{ℕ, List, [], ◌∷◌, ◌++◌, inl, inr, refl, ap, subst, ◌∙◌}
use Rattle.shared_events.specs.Views.{lists, number_of}
use Rattle.event_table.specs.declared.handle.Handle.{Handle}
use Rattle.run_words.specs.Standing.{HasWaiter}
use Rattle.run_words.proofs.Growing.{joined_bare, grows_then}
use Rattle.run_words.proofs.IssueStates.{issue_state_same}
use Rattle.run_words.proofs.words.Words.watch_for.Goals as goal

pub watch-requires-clause-seen : goal.watch-requires-clause-seen
watch-requires-clause-seen c = c.join.ensures.kept.1.0 c.args.handle (c.split-more.ensures.kept.1.0 c.args.handle (c.requires.issue_state.seen c.args.handle c.requires.handle))

pub lay-requires-clause-issue_state : goal.lay-requires-clause-issue_state
lay-requires-clause-issue_state c = issue_state_same _ _ c.args.issue_turn.now.handles.items c.args.issue_turn.now _ c.requires.issue_state c.requires.issue_state.maker refl refl c.split-more.ensures.at.0 c.split-more.ensures.kept.0 refl

pub lay-requires-in-Moved-clause-issue_state : goal.lay-requires-in-Moved-clause-issue_state
lay-requires-in-Moved-clause-issue_state c = issue_state_same _ _ c.args.issue_turn.now.handles.items c.args.issue_turn.now _ c.requires.issue_state c.requires.issue_state.maker refl refl c.split-more.ensures.at.0 c.split-more.ensures.kept.0 refl

pub returns-in-Placed-clause-issue_state : goal.returns-in-Placed-clause-issue_state
returns-in-Placed-clause-issue_state c = issue_state_same _ _ c.args.issue_turn.now.handles.items c.args.issue_turn.now _ c.requires.issue_state c.requires.issue_state.maker refl refl c.split-more.ensures.at.0 c.split-more.ensures.kept.0 refl

pub returns-in-Placed-clause-told : goal.returns-in-Placed-clause-told
returns-in-Placed-clause-told c =
    inl (c.in-Placed.ensures.told.1 ∙ ap (λ (l : List (ℕ × Handle)). l ++ (number_of c.args.waiter, c.args.handle) ∷ []) (joined_bare (lists c.args.events.now).placed (lists c.split-more.result).placed (lists c.join.new.seat).placed c.join.ensures.placed c.split-more.ensures.bare.0))

pub returns-in-Placed-clause-others : goal.returns-in-Placed-clause-others
returns-in-Placed-clause-others c = λ k ne. refl

pub returns-in-Over-clause-others : goal.returns-in-Over-clause-others
returns-in-Over-clause-others c = λ k ne. c.lay.ensures.others k (λ q. ne (q ∙ c.in-Over.ensures.told.2.0))

pub returns-in-Over-clause-told : goal.returns-in-Over-clause-told
returns-in-Over-clause-told c = inr (
  c.in-Over.ensures.told.1 ∙ joined_bare (lists c.args.events.now).placed (lists c.split-more.result).placed (lists c.join.new.seat).placed c.join.ensures.placed c.split-more.ensures.bare.0,
  subst (λ n. HasWaiter n c.lay.new.issue_turn) c.in-Over.ensures.told.2.0 c.lay.ensures.laid,
  inl (
    c.in-Over.field-0,
    elim c.in-Over.ensures.told.0 [
      | inl none ↦ absurd (c.requires.issue_state.created c.args.handle c.requires.handle none.0)
      | inr knows ↦ knows
    ],
  ),
)

pub returns-in-Moved-clause-others : goal.returns-in-Moved-clause-others
returns-in-Moved-clause-others c = λ k ne. c.lay-in-Moved.ensures.others k (λ q. ne (q ∙ c.in-Moved.ensures.told.2.0))

pub returns-in-Moved-clause-told : goal.returns-in-Moved-clause-told
returns-in-Moved-clause-told c = inr (
  c.in-Moved.ensures.told.1 ∙ joined_bare (lists c.args.events.now).placed (lists c.split-more.result).placed (lists c.join.new.seat).placed c.join.ensures.placed c.split-more.ensures.bare.0,
  subst (λ n. HasWaiter n c.lay-in-Moved.new.issue_turn) c.in-Moved.ensures.told.2.0 c.lay-in-Moved.ensures.laid,
  inr (lists c.join.new.seat, (c.join.ensures.kept.0, (_, c.join.ensures.seen), (_, c.join.ensures.placed)), c.in-Moved.ensures.told.0),
)

pub returns-in-Placed-clause-kept : goal.returns-in-Placed-clause-kept
returns-in-Placed-clause-kept c = (λ h s. c.in-Placed.ensures.kept.0 h (c.join.ensures.kept.0.0 h s), λ h f k. c.in-Placed.ensures.kept.1 h f (c.join.ensures.kept.0.1 h f k))

pub returns-in-Over-clause-kept : goal.returns-in-Over-clause-kept
returns-in-Over-clause-kept c = (λ h s. c.in-Over.ensures.kept.0 h (c.join.ensures.kept.0.0 h s), λ h f k. c.in-Over.ensures.kept.1 h f (c.join.ensures.kept.0.1 h f k))

pub returns-in-Moved-clause-kept : goal.returns-in-Moved-clause-kept
returns-in-Moved-clause-kept c = (λ h s. c.in-Moved.ensures.kept.0 h (c.join.ensures.kept.0.0 h s), λ h f k. c.in-Moved.ensures.kept.1 h f (c.join.ensures.kept.0.1 h f k))

pub returns-in-Placed-clause-grows : goal.returns-in-Placed-clause-grows
returns-in-Placed-clause-grows c = let j = c.join.ensures in grows_then (lists c.args.events.now) (lists c.join.new.seat) (lists c.watch.new.seat) ((_, j.seen), (_, j.known), (_, j.placed), (_, j.given), (_, j.emptied), (_, j.left), (_, j.saw), (_, j.past)) c.in-Placed.ensures.grows

pub returns-in-Over-clause-grows : goal.returns-in-Over-clause-grows
returns-in-Over-clause-grows c = let j = c.join.ensures in grows_then (lists c.args.events.now) (lists c.join.new.seat) (lists c.watch.new.seat) ((_, j.seen), (_, j.known), (_, j.placed), (_, j.given), (_, j.emptied), (_, j.left), (_, j.saw), (_, j.past)) c.in-Over.ensures.grows

pub returns-in-Moved-clause-grows : goal.returns-in-Moved-clause-grows
returns-in-Moved-clause-grows c = let j = c.join.ensures in grows_then (lists c.args.events.now) (lists c.join.new.seat) (lists c.watch.new.seat) ((_, j.seen), (_, j.known), (_, j.placed), (_, j.given), (_, j.emptied), (_, j.left), (_, j.saw), (_, j.past)) c.in-Moved.ensures.grows

pub returns-in-Placed-clause-placed : goal.returns-in-Placed-clause-placed
returns-in-Placed-clause-placed c = (c.args.handle, c.in-Placed.ensures.told.1 ∙ ap (λ (l : List (ℕ × Handle)). l ++ (number_of c.args.waiter, c.args.handle) ∷ []) (joined_bare (lists c.args.events.now).placed (lists c.split-more.result).placed (lists c.join.new.seat).placed c.join.ensures.placed c.split-more.ensures.bare.0))

pub returns-in-Over-clause-placed : goal.returns-in-Over-clause-placed
returns-in-Over-clause-placed c = c.in-Over.ensures.told.1 ∙ joined_bare (lists c.args.events.now).placed (lists c.split-more.result).placed (lists c.join.new.seat).placed c.join.ensures.placed c.split-more.ensures.bare.0

pub returns-in-Moved-clause-placed : goal.returns-in-Moved-clause-placed
returns-in-Moved-clause-placed c = c.in-Moved.ensures.told.1 ∙ joined_bare (lists c.args.events.now).placed (lists c.split-more.result).placed (lists c.join.new.seat).placed c.join.ensures.placed c.split-more.ensures.bare.0
