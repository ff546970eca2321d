use Rattle.std.proofs.Common.{◌≡◌, ◌+◌, ℕ, length, arith, sym, subst}
use Rattle.graph_meaning.specs.Rules.{DescendsAt}
use Rattle.race_check.proofs.BeyondLines.{descends_beyond}
use Rattle.race_check.proofs.Doubting.{descends_sure}
use Rattle.sweep_base.proofs.Public.{least_none, least_keep, least_take, least_fails, least_holds}
use Rattle.sweep_base.specs.BlockRules.{IsLeast}
use Rattle.race_check.proofs.descends.first_climbing_in.Goals as goal
use Rattle.race_check.proofs.descends.first_climbing_in.Goals.{in-Some, in_default}

pub returns-then-not-is_any_noted : goal.returns-then-not-is_any_noted
returns-then-not-is_any_noted c = descends_sure c.args.graph.now c.args.doubted.now c.requires.doubted c.args.first c.min-end.result (λ b few low. omega (arith, c.min-end.ensures, few, low, c.lines-lines.ensures.number)) (c.is_any_noted.ensures c.if-not-is_any_noted.true)

pub climbed_by-requires-clause-inside : goal.climbed_by-requires-clause-inside
climbed_by-requires-clause-inside c = c.of.ensures c.args.first c.in_ok-inside.ensures

pub loop-line-init : goal.loop-line-init
loop-line-init c = record { least = least_none (DescendsAt c.args.graph.now) c.args.first 0 0 (λ b m h. absurd (omega arith)) }

pub loop-line-preserved : goal.loop-line-preserved
loop-line-preserved c =
    let R : ℕ → ℕ → Type 0 = DescendsAt c.args.graph.now in
    let first = c.args.first in
    let n = c.loop-line.line in
    let inv = c.loop-line.invariant.least in
    elim c.match-climbed_by.branch [
      | in-Some w ↦ record {
        least = subst (λ z. IsLeast R first z c.match-climbed_by.found (n + 1)) (sym w.limit-is) (subst (λ z. IsLeast R first w.in-Some.bit z (n + 1)) (sym w.found-is)
            (least_take R first c.loop-line.limit c.loop-line.found n w.in-Some.bit inv (w.in-Some.ensures)));
      }
      | in_default w ↦ record {
        least = subst (λ z. IsLeast R first z c.match-climbed_by.found (n + 1)) (sym w.limit-is) (subst (λ z. IsLeast R first c.loop-line.limit z (n + 1)) (sym w.found-is)
            (least_keep R first c.loop-line.limit c.loop-line.found n inv (w.in_default.ensures)));
      }
    ]

pub returns-then-limit-lt64 : goal.returns-then-limit-lt64
returns-then-limit-lt64 c = least_fails (DescendsAt c.args.graph.now) c.args.first c.loop-line.limit c.loop-line.found (length c.args.graph.now.lines) (λ i j h. descends_beyond c.args.graph.now (λ e k. c.edges_between_lines.ensures c.args.graph.now e c.lines-lines.ensures.is_graph k) i j h) c.if-limit-lt64.true (subst (λ z. IsLeast (DescendsAt c.args.graph.now) c.args.first c.loop-line.limit c.loop-line.found z) (let e : c.loop-line.line ≡ length c.args.graph.now.lines = omega (arith, c.loop-line-test.false, c.loop-line.auto.line-end, c.lines-lines.ensures.number) in e) c.loop-line.invariant.least)

pub returns : goal.returns
returns c = least_holds (DescendsAt c.args.graph.now) c.args.first c.loop-line.limit c.loop-line.found (length c.args.graph.now.lines) c.if-limit-lt64.false (subst (λ z. IsLeast (DescendsAt c.args.graph.now) c.args.first c.loop-line.limit c.loop-line.found z) (let e : c.loop-line.line ≡ length c.args.graph.now.lines = omega (arith, c.loop-line-test.false, c.loop-line.auto.line-end, c.lines-lines.ensures.number) in e) c.loop-line.invariant.least)
