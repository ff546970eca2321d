use Rattle.std.proofs.Common.{ap}
use Rattle.word_steps.specs.Plays.{Sat}
use Rattle.word_steps.specs.Table.{graph_of, events_of}
use Rattle.word_steps.proofs.ClashFacts.{looked_clash, no_path_beside}
use Rattle.word_steps.proofs.table.WordTable.look_beside.Goals as goal

pub refute-requires : goal.refute-requires
refute-requires c = record {
  at = (c.look-word.ensures.at, c.requires.at.1);
  clash = looked_clash c.args.one.now.me.0 c.look-word.new.seat.me.0 c.args.other.now.me.0 c.args.beside c.look-word.result (ap (λ (m : Sat). m.0) c.look-word.ensures.looked.0) c.if-word-ge8.true c.args.line c.requires.line c.requires.beside;
}

pub returns-clause-no_path : goal.returns-clause-no_path
returns-clause-no_path c = no_path_beside (graph_of c.args.self.now) (events_of c.args.self.now) c.args.one.now.me.0 c.args.beside c.look-word.result c.args.line c.requires.at.0.1 c.look-word.ensures.looked.1 c.if-word-ge8.false c.requires.line
