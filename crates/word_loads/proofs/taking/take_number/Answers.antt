use Rattle.std.proofs.Common.{ap, sym, ◌∙◌}
use Rattle.std.proofs.lemmas.Option.{same_Some}
use Rattle.word_steps.specs.declared.content.Content.TheVariants.{Share}
use Rattle.word_steps.specs.Table.{graph_of, events_of}
use Rattle.word_loads.proofs.GatherFacts.{value, keys, on_top, gets, finds}
use Rattle.word_loads.proofs.taking.take_number.Goals as goal

pub take_out-requires-clause-at : goal.take_out-requires-clause-at
take_out-requires-clause-at c = let h = c.take_share.ensures.takes.0 c.if-take_share-ne0.false in
    (c.take_share.ensures.table ∙ c.requires.at.0, keys (graph_of c.args.table.now) (events_of c.args.table.now) c.args.c c.args.j c.args.seat.now.me c.take_share.new.seat.me c.requires.at.1 c.requires.known.0 c.requires.known.1 h)

pub take_out-requires-clause-top : goal.take_out-requires-clause-top
take_out-requires-clause-top c = let h = c.take_share.ensures.takes.0 c.if-take_share-ne0.false in
    let g = graph_of c.args.table.now in (
      Share (value g (events_of c.args.table.now) c.args.c c.args.j c.args.seat.now.me c.take_share.new.seat.me c.requires.at.1 c.requires.known.0 c.requires.known.1 h),
      c.args.seat.now.me.1,
      on_top g (events_of c.args.table.now) c.args.c c.args.j c.args.seat.now.me c.take_share.new.seat.me c.requires.at.1 c.requires.known.0 c.requires.known.1 h c.share_slot-slot.result c.share_slot-slot.ensures,
    )

pub share_in-requires : goal.share_in-requires
share_in-requires c = let h = c.take_share.ensures.takes.0 c.if-take_share-ne0.false in
    let g = graph_of c.args.table.now in
    let x = value g (events_of c.args.table.now) c.args.c c.args.j c.args.seat.now.me c.take_share.new.seat.me c.requires.at.1 c.requires.known.0 c.requires.known.1 h in
    (x, (c.take_out.ensures.hand (Share x) c.args.seat.now.me.1 (on_top g (events_of c.args.table.now) c.args.c c.args.j c.args.seat.now.me c.take_share.new.seat.me c.requires.at.1 c.requires.known.0 c.requires.known.1 h c.share_slot-slot.result c.share_slot-slot.ensures)).0)

pub returns-clause-taken : goal.returns-clause-taken
returns-clause-taken c = λ x is.
    let h = c.take_share.ensures.takes.0 c.if-take_share-ne0.false in
    let g = graph_of c.args.table.now in
    let v = value g (events_of c.args.table.now) c.args.c c.args.j c.args.seat.now.me c.take_share.new.seat.me c.requires.at.1 c.requires.known.0 c.requires.known.1 h in
    let o = c.take_out.ensures.hand (Share v) c.args.seat.now.me.1 (on_top g (events_of c.args.table.now) c.args.c c.args.j c.args.seat.now.me c.take_share.new.seat.me c.requires.at.1 c.requires.known.0 c.requires.known.1 h c.share_slot-slot.result c.share_slot-slot.ensures) in
    gets g (events_of c.args.table.now) c.args.c c.args.j c.args.seat.now.me c.take_share.new.seat.me c.requires.at.1 c.requires.known.0 c.requires.known.1 h c.take_out.new.seat.me x c.share_slot-slot.result c.share_slot-slot.ensures
    (sym o.0 ∙ (c.share_in.ensures ∙ ap (λ y. Share y) (same_Some c.share_in.result x is))) c.take_out.ensures.view o.1

pub returns-then-take_share-ne0-clause-busy : goal.returns-then-take_share-ne0-clause-busy
returns-then-take_share-ne0-clause-busy c = λ _.
    let m = c.requires.may in
    finds (graph_of c.args.table.now) (events_of c.args.table.now) c.args.line c.args.c c.args.j c.args.seat.now.me c.take_share.new.seat.me c.take_share.result c.requires.at.1 c.requires.known.0 c.requires.known.1 (m.0, m.1, m.2.0) c.requires.fresh c.if-take_share-ne0.true (c.take_share.ensures.takes.1 c.if-take_share-ne0.true)
