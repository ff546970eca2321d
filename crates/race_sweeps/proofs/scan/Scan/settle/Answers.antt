use Rattle.race_sweeps.proofs.Walking.{settled_by}
use Rattle.sweep_base.proofs.Public.{none_left}
use Rattle.race_sweeps.proofs.scan.Scan.settle.Goals as goal

pub returns-then-left-eq0-clause-settled : goal.returns-then-left-eq0-clause-settled
returns-then-left-eq0-clause-settled c =
    let words = c.args.self.now.reach.words.items in
    settled_by c.args.graph.now c.args.table.now.lines.items words c.args.racing.now.items c.args.first c.args.place c.args.word c.behind.result c.word.result c.requires.reach
    c.word.ensures c.word.type_inv c.behind.ensures (λ b low there set. absurd (none_left _ b c.if-left-eq0.true set))

pub returns-clause-settled : goal.returns-clause-settled
returns-clause-settled c =
    let words = c.args.self.now.reach.words.items in
    settled_by c.args.graph.now c.args.table.now.lines.items words c.note_all.new.racing.items c.args.first c.args.place c.args.word c.behind.result c.word.result c.requires.reach
    c.word.ensures c.word.type_inv c.behind.ensures c.note_all.ensures.settled
