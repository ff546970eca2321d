use Rattle.std.proofs.Common.{sym, subst, refl}
use Rattle.std.specs.Prelude.{IsSome}
use Rattle.word_steps.specs.Table.{graph_of}
use Rattle.word_loads.proofs.GivingFacts.{gives_seen, less_one}
use Rattle.word_loads.proofs.taking.return_seen.Goals as goal

pub take_share-share-requires : goal.take_share-share-requires
take_share-share-requires c = subst IsSome (sym c.requires.top.lending) refl

pub give_one-requires-clause-may : goal.give_one-requires-clause-may
give_one-requires-clause-may c = gives_seen (graph_of c.args.table.now) c.args.c c.args.j c.args.seat.now.me c.args.load.now.held c.requires.top c.take_share-share.result c.take_share-share.ensures.column c.take_share-share.ensures.lending c.take_share-share.ensures.one c.requires.reads

pub returns-clause-held : goal.returns-clause-held
returns-clause-held c = record { otherwise = c.take_share-share.ensures.held; short = c.take_share-share.ensures.number; numbers = refl }

pub returns-clause-now : goal.returns-clause-now
returns-clause-now c = λ t. less_one (graph_of c.args.table.now) c.args.c c.args.j c.args.seat.now.me c.args.load.now.held t c.take_share-share.result c.take_share-share.ensures.column c.take_share-share.ensures.lending c.take_share-share.ensures.one c.requires.reads c.give_one.new.seat.me c.give_one.ensures.given
