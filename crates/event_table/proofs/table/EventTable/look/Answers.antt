use Rattle.std.proofs.Common.{ap, arith}
use Rattle.event_table.specs.Words.{turns_of}
use Rattle.event_table.proofs.ChainSteps.{at_default}
use Rattle.event_table.proofs.TableLook.{looks}
use Rattle.event_table.proofs.table.EventTable.look.Goals as goal

pub returns-then-turns-handle-clause-answer : goal.returns-then-turns-handle-clause-answer
returns-then-turns-handle-clause-answer c = λ n. let s = c.self.inside in let k = c.self.invariant in
    let l = looks s.shape s.words.items s.caught.items c.args.self.now c.args.handle k.sized.2 k.kept.shown c.self.view_is c.requires.created n in
    let at = at_default s.words.items c.args.handle.slot c.index-word.result.now (omega (arith, l.near, k.kept.shown.wide)) c.index-word.ensures in
    l.pending (omega (arith, c.turns.ensures, ap turns_of at, c.if-turns-handle.true))
