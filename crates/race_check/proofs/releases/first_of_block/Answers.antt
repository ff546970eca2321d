use Rattle.std.proofs.Common.{◌≡◌, length, sym, subst, arith}
use Rattle.section_sweeps.specs.PassedBlocks.{AreListed}
use Rattle.section_sweeps.proofs.Public.{passed_on, few_listed, lines_known}
use Rattle.race_check.proofs.Doubting.{released_sure}
use Rattle.race_check.proofs.releases.first_of_block.Goals as goal

pub returns-then-not-is_any_noted : goal.returns-then-not-is_any_noted
returns-then-not-is_any_noted c = released_sure c.args.graph.now c.args.doubted.now c.requires.doubted c.args.first c.args.end (c.is_any_noted.ensures c.if-not-is_any_noted.true)

pub passed_forward-requires-clause-few : goal.passed_forward-requires-clause-few
passed_forward-requires-clause-few c = few_listed (λ q i. q ≡ i) c.args.first c.args.end c.as_slice-of.result.now (omega (arith, c.requires.few)) (subst (AreListed (λ q i. q ≡ i) c.args.first c.args.end) (sym c.as_slice-of.ensures.value) c.in_ok-of.ensures)

pub passed_forward-requires-clause-known : goal.passed_forward-requires-clause-known
passed_forward-requires-clause-known c = lines_known (length c.args.graph.now.lines) c.args.first c.args.end c.as_slice-of.result.now c.requires.ends (subst (AreListed (λ q i. q ≡ i) c.args.first c.args.end) (sym c.as_slice-of.ensures.value) c.in_ok-of.ensures)

pub first_unreleased_of-requires-clause-behind : goal.first_unreleased_of-requires-clause-behind
first_unreleased_of-requires-clause-behind c =
    let g = c.args.graph.now in
    let first = c.args.first in
    let end = c.args.end in
    let lines = subst (AreListed (λ q i. q ≡ i) first end) (sym c.as_slice-of.ensures.value) c.in_ok-of.ensures in
    let e = c.in_ok-behind.ensures in
    passed_on g c.args.table.now c.requires.table (λ q i. q ≡ i) first end c.as_slice-of.result.now lines c.requires.whole c.in_ok-behind.behind e.size e.own c.lines-lines.result (omega (arith, c.lines-lines.ensures.number)) e.is e.all
