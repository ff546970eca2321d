use Rattle.std.proofs.Common.{arith, refl, sym, ap, subst, ◌∙◌, Some, [], ◌∷◌}
use Rattle.atomic_table.specs.Table.{Allows}
use Rattle.lock_engine.specs.Rule.{Guards}
use Rattle.lock_engine.specs.Plays.{Sat, HasGiven}
use Rattle.lock_engine.proofs.RuleFacts.{gives_allow, put_in, given_line}
use Rattle.lock_engine.proofs.lock.give_turn.Goals as goal

pub store-requires : goal.store-requires
store-requires c =
    let s = c.requires.serving in
    let e = c.exchange.ensures in
    let old = c.args.seat.now in
    let seat = c.exchange.new.seat in
    let g = c.args.lock.now.key in
    let slots = c.args.lock.now.table_id.slots in (
      e.0 ∙ s.at.table,
      omega (arith, s.at.words),
      subst (λ (m : Sat). Allows (Guards g) slots seat.id m 0 (λ _. 0) (λ _. HasGiven m)) (sym (put_in old.me seat.me (Some c.args.core) s.hand e.3))
          (gives_allow g slots seat.id old.me.0 ((0, Some c.args.core) ∷ []) c.args.core c.requires.turn.0 refl c.requires.turn.1 s.turn s.at.parts),
    )

pub returns-clause-view : goal.returns-clause-view
returns-clause-view c call made =
    let old = c.args.seat.now in
    let seat = c.exchange.new.seat in
    ap (λ (m : Sat). m.0) (given_line old.me.0 c.args.core seat.me c.store.new.seat.me call (put_in old.me seat.me (Some c.args.core) c.requires.serving.hand c.exchange.ensures.3) c.store.ensures.2 made)
