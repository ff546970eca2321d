use Rattle.realm_audit.proofs.FaultFacts.{rival_beside, least_rival}
use Rattle.realm_audit.proofs.sections.Sections.rival.Goals as goal

pub returns-in_default : goal.returns-in_default
returns-in_default c = λ q r. c.in_default.ensures r.0 r.1

pub returns-then-admits : goal.returns-then-admits
returns-then-admits c = λ q r. c.admits.ensures c.if-admits.true q ((rival_beside c.args.graph.now c.args.self.now.opened.items c.args.line c.in-Some.lock c.in-Some.shared c.in-Some.ensures.0 c.in-Some.ensures.2 q).1 r)

pub returns : goal.returns
returns c = least_rival c.args.graph.now c.args.self.now.opened.items c.args.line c.in-Some.lock c.in-Some.shared c.in-Some.ensures.0 c.in-Some.ensures.2 c.first_beside.result c.first_beside.ensures
