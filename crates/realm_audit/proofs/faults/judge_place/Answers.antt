use Rattle.std.proofs.Common.{sym, ◌∙◌, arith}
use Rattle.graph_terms.specs.declared.outcome.End.TheVariants.{Waiting}
use Rattle.realm_audit.specs.Lawful.{IsSourceFaultAt, IsOverlapAt}
use Rattle.realm_audit.specs.Prefix.{IsLate, IsRival}
use Rattle.realm_audit.proofs.EndFacts.{ends_size, end_at, not_wait_at}
use Rattle.realm_audit.proofs.FaultFacts.{least_same, no_repeat, late_is, rival_is}
use Rattle.realm_audit.proofs.faults.judge_place.Goals as goal

pub waits-requires : goal.waits-requires
waits-requires c =
    let known = c.requires.lines c.args.place c.at-line.result c.at-line.ensures in
    let size = ends_size c.args.graph.now c.args.ends.now c.requires.ends in
    omega (arith, known, size)

pub returns-then-waits-clause-refused : goal.returns-then-waits-clause-refused
returns-then-waits-clause-refused c =
    let line = c.at-line.result in (
      c.requires.sound,
      no_repeat c.args.graph.now c.args.trace.now c.args.place line c.at-line.ensures c.args.prefix.now.stands.items c.requires.prefix.earlier (sym c.has.ensures ∙ c.if-has.false),
      (line, c.at-line.ensures, end_at c.args.graph.now c.args.ends.now c.requires.ends line Waiting (c.waits.ensures.0 c.if-waits.true)),
    )

pub returns-in-Some-clause-refused : goal.returns-in-Some-clause-refused
returns-in-Some-clause-refused c =
    let g = c.args.graph.now in
    let trace = c.args.trace.now in
    let place = c.args.place in
    let line = c.at-line.result in
    let at = c.at-line.ensures in
    let known = c.requires.lines place line at in
    let stands = c.args.prefix.now.stands.items in (
      c.requires.sound,
      no_repeat g trace place line at stands c.requires.prefix.earlier (sym c.has.ensures ∙ c.if-has.false),
      not_wait_at g c.args.ends.now c.requires.ends trace place line at known c.waits.result c.waits.ensures c.if-waits.false,
      least_same (IsLate g stands line) (IsSourceFaultAt g trace place) (late_is g trace place line at stands c.requires.prefix.earlier) c.in-Some.source c.in-Some.ensures,
    )

pub returns-in-Some-rival-clause-refused : goal.returns-in-Some-rival-clause-refused
returns-in-Some-rival-clause-refused c =
    let g = c.args.graph.now in
    let trace = c.args.trace.now in
    let place = c.args.place in
    let line = c.at-line.result in
    let at = c.at-line.ensures in
    let known = c.requires.lines place line at in
    let stands = c.args.prefix.now.stands.items in
    let opened = c.args.prefix.now.sections.opened.items in
    let once = no_repeat g trace place line at stands c.requires.prefix.earlier (sym c.has.ensures ∙ c.if-has.false) in (
      c.requires.sound,
      once,
      not_wait_at g c.args.ends.now c.requires.ends trace place line at known c.waits.result c.waits.ensures c.if-waits.false,
      (λ j f. c.in_default.ensures j ((late_is g trace place line at stands c.requires.prefix.earlier j).1 f)),
      least_same (IsRival g opened line) (IsOverlapAt g trace place) (rival_is g trace place line at opened c.requires.prefix.sections.are once) c.in-Some-rival.acquire c.in-Some-rival.ensures,
    )

pub returns-clause-sound : goal.returns-clause-sound
returns-clause-sound c =
    let g = c.args.graph.now in
    let trace = c.args.trace.now in
    let place = c.args.place in
    let line = c.at-line.result in
    let at = c.at-line.ensures in
    let known = c.requires.lines place line at in
    let stands = c.args.prefix.now.stands.items in
    let opened = c.args.prefix.now.sections.opened.items in
    let once = no_repeat g trace place line at stands c.requires.prefix.earlier (sym c.has.ensures ∙ c.if-has.false) in
    record {
      once = once;
      ends = not_wait_at g c.args.ends.now c.requires.ends trace place line at known c.waits.result c.waits.ensures c.if-waits.false;
      sources = λ j f. c.in_default.ensures j ((late_is g trace place line at stands c.requires.prefix.earlier j).1 f);
      sections = λ q f. c.in_default-rival.ensures q ((rival_is g trace place line at opened c.requires.prefix.sections.are once q).1 f);
    }
