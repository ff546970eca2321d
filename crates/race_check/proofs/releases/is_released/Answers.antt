use Rattle.std.proofs.Common.{sym, subst, ap, ◌∙◌, arith}
use Rattle.std.specs.Prelude.{None}
use Rattle.std.proofs.lemmas.List.{get_or_read}
use Rattle.graph_meaning.specs.Path.{HasPath}
use Rattle.sweep_base.specs.Bits.{bit_in}
use Rattle.race_check.proofs.RuleSteps.{released_none, released_by, released_missing, release_known}
use Rattle.race_check.proofs.releases.is_released.Goals as goal

pub returns-in_default : goal.returns-in_default
returns-in_default c = released_none c.args.graph.now c.args.line c.in_default.ensures

pub passed-requires : goal.passed-requires
passed-requires c =
    let rs = c.args.table.now.releases.items in
    let are = c.requires.table.releases_are in
    let read = get_or_read rs c.args.line c.index.result.now (omega (arith, c.requires.known, are.size)) c.index.ensures None in
    let known = release_known c.args.graph.now rs are c.args.line c.in-Some-index.release (sym read ∙ c.in-Some-index.is) in
    omega (arith, known, c.requires.behind.2.size)

pub returns-in-Some-index : goal.returns-in-Some-index
returns-in-Some-index c =
    let g = c.args.graph.now in
    let rs = c.args.table.now.releases.items in
    let are = c.requires.table.releases_are in
    let read = get_or_read rs c.args.line c.index.result.now (omega (arith, c.requires.known, are.size)) c.index.ensures None in
    let r = c.in-Some-index.release in
    let b = c.requires.behind in
    let word = ap (λ z. bit_in z c.args.bit) c.passed.ensures in
    released_by g rs are c.args.line c.in-Some._lock r c.has_bit.result c.in-Some.ensures.0 (
      (λ h. (let p = b.2.is r c.args.bit (sym word ∙ (sym c.has_bit.ensures ∙ h)) in subst (λ z. HasPath g z r) (sym p.1 ∙ b.1) p.2)),
      (λ p. c.has_bit.ensures ∙ (word ∙ b.2.all r c.args.bit c.args.line c.requires.bit (omega (arith, b.1, c.requires.known)) b.1 p)),
    ) (sym read ∙ c.in-Some-index.is)

pub returns-in-None : goal.returns-in-None
returns-in-None c =
    let rs = c.args.table.now.releases.items in
    let are = c.requires.table.releases_are in
    let read = get_or_read rs c.args.line c.index.result.now (omega (arith, c.requires.known, are.size)) c.index.ensures None in
    released_missing c.args.graph.now rs are c.args.line c.in-Some._lock c.in-Some.ensures.0 (sym read ∙ c.in-None.is)
