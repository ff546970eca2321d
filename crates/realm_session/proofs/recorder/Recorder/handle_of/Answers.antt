use Rattle.std.proofs.Common.{refl}
use Rattle.realm_session.proofs.Lists.{line_here, line_has}
use Rattle.realm_session.proofs.recorder.Recorder.handle_of.Goals as goal

pub returns-clause-line : goal.returns-clause-line
returns-clause-line c = let gs = c.args.self.now.graphs.items in
    let is = line_here gs c.args.graph c.args.line c.index.result.now c.at.result c.requires.recorded c.index.ensures c.at.ensures in
    (c.at.result, is, line_has gs c.args.graph c.args.line c.at.result is, refl)

pub returns-clause-within : goal.returns-clause-within
returns-clause-within c = let gs = c.args.self.now.graphs.items in
    let is = line_here gs c.args.graph c.args.line c.index.result.now c.at.result c.requires.recorded c.index.ensures c.at.ensures in
    c.args.self.now.sound.within c.at.result (line_has gs c.args.graph c.args.line c.at.result is)

pub returns-clause-apart : goal.returns-clause-apart
returns-clause-apart c = λ g l x a same. let gs = c.args.self.now.graphs.items in
    let is = line_here gs c.args.graph c.args.line c.index.result.now c.at.result c.requires.recorded c.index.ensures c.at.ensures in
    c.args.self.now.sound.apart g l c.args.graph c.args.line x c.at.result a is same
