use Rattle.std.proofs.Common.{◌≡◌, ◌+◌, ℕ, length, arith, sym, subst}
use Rattle.graph_meaning.specs.Rules.{SectionAt}
use Rattle.race_check.proofs.BeyondLines.{section_beyond}
use Rattle.race_check.proofs.Doubting.{sections_sure}
use Rattle.sweep_base.proofs.Public.{least_none, least_keep, least_take, least_fails, least_holds}
use Rattle.sweep_base.specs.BlockRules.{IsLeast}
use Rattle.race_check.proofs.Insides.{lowest_fails, lowest_holds}
use Rattle.race_check.proofs.sections.first_outside_of.Goals as goal
use Rattle.race_check.proofs.sections.first_outside_of.Goals.{in-Some, in_default}

pub returns-then-not-releases_any : goal.returns-then-not-releases_any
returns-then-not-releases_any c = sections_sure c.args.graph.now c.args.doubted.now c.requires.doubted c.args.first c.min-end.result c.lines-lines.ensures.is_graph (λ b few low. omega (arith, c.min-end.ensures, few, low, c.lines-lines.ensures.number)) (c.releases_any.ensures c.if-not-releases_any.true)

pub loop-line-init : goal.loop-line-init
loop-line-init c = record { least = least_none (SectionAt c.args.graph.now) c.args.first 0 0 (λ b m h. absurd (omega arith)) }

pub loop-line-preserved : goal.loop-line-preserved
loop-line-preserved c =
    let R : ℕ → ℕ → Type 0 = SectionAt c.args.graph.now in
    let first = c.args.first in
    let n = c.loop-line.line in
    let inv = c.loop-line.invariant.least in
    elim c.match-lowest.branch [
      | in-Some w ↦ record {
        least = subst (λ z. IsLeast R first z c.match-lowest.found (n + 1)) (sym w.limit-is) (subst (λ z. IsLeast R first w.in-Some.bit z (n + 1)) (sym w.found-is)
            (least_take R first c.loop-line.limit c.loop-line.found n w.in-Some.bit inv (lowest_fails c.args.graph.now first c.loop-line.limit n w.in-Some.bit c.outside.result c.loop-line.invariant.least.few (c.outside.ensures first c.in_ok-sides.ensures) w.in-Some.ensures)));
      }
      | in_default w ↦ record {
        least = subst (λ z. IsLeast R first z c.match-lowest.found (n + 1)) (sym w.limit-is) (subst (λ z. IsLeast R first c.loop-line.limit z (n + 1)) (sym w.found-is)
            (least_keep R first c.loop-line.limit c.loop-line.found n inv (lowest_holds c.args.graph.now first c.loop-line.limit n c.outside.result c.loop-line.invariant.least.few (c.outside.ensures first c.in_ok-sides.ensures) w.in_default.ensures)));
      }
    ]

pub returns-then-limit-lt64 : goal.returns-then-limit-lt64
returns-then-limit-lt64 c = least_fails (SectionAt c.args.graph.now) c.args.first c.loop-line.limit c.loop-line.found (length c.args.graph.now.lines) (λ i j h. section_beyond c.args.graph.now (λ e k. c.edges_between_lines.ensures c.args.graph.now e c.lines-lines.ensures.is_graph k) i j h) c.if-limit-lt64.true (subst (λ z. IsLeast (SectionAt c.args.graph.now) c.args.first c.loop-line.limit c.loop-line.found z) (let e : c.loop-line.line ≡ length c.args.graph.now.lines = omega (arith, c.loop-line-test.false, c.loop-line.auto.line-end, c.lines-lines.ensures.number) in e) c.loop-line.invariant.least)

pub returns : goal.returns
returns c = least_holds (SectionAt c.args.graph.now) c.args.first c.loop-line.limit c.loop-line.found (length c.args.graph.now.lines) c.if-limit-lt64.false (subst (λ z. IsLeast (SectionAt c.args.graph.now) c.args.first c.loop-line.limit c.loop-line.found z) (let e : c.loop-line.line ≡ length c.args.graph.now.lines = omega (arith, c.loop-line-test.false, c.loop-line.auto.line-end, c.lines-lines.ensures.number) in e) c.loop-line.invariant.least)
