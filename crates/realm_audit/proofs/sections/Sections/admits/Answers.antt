use Rattle.std.proofs.Common.{subst, arith}
use Rattle.std.proofs.lemmas.Bool.{eqb-true}
use Rattle.std.proofs.lemmas.List.{get_or_read}
use Rattle.realm_audit.specs.Prefix.{IsOpenBeside}
use Rattle.realm_audit.proofs.SectionCounts.{beside_counted, beside_shared_counted}
use Rattle.realm_audit.proofs.sections.Sections.admits.Goals as goal

pub returns-then-shared : goal.returns-then-shared
returns-then-shared c = λ none q b. (
    let g = c.args.graph.now in
    let counts = c.args.self.now.exclusive.items in
    let read = get_or_read counts c.args.lock c.index.result.now (omega (arith, c.requires.lock, c.requires.counted.exclusive_size)) c.index.ensures 0 in
    let some = beside_shared_counted g c.args.self.now.opened.items c.args.lock q (subst (λ s. IsOpenBeside g c.args.self.now.opened.items c.args.lock s q) c.if-shared.true b) in
    absurd (omega (arith, read, some, eqb-true c.index.result.now 0 none, c.requires.counted.exclusive c.args.lock)))

pub returns-else-shared : goal.returns-else-shared
returns-else-shared c = λ none q b. (
    let g = c.args.graph.now in
    let counts = c.args.self.now.all.items in
    let read = get_or_read counts c.args.lock c.index-else-shared.result.now (omega (arith, c.requires.lock, c.requires.counted.all_size)) c.index-else-shared.ensures 0 in
    let some = beside_counted g c.args.self.now.opened.items c.args.lock q c.args.shared b in
    absurd (omega (arith, read, some, eqb-true c.index-else-shared.result.now 0 none, c.requires.counted.all c.args.lock)))
