use Rattle.std.proofs.Common.{◌≡◌, ◌+◌, ℕ, length, arith, sym, subst}
use Rattle.graph_meaning.specs.Rules.{RaceAt}
use Rattle.race_pairs.proofs.BeyondLines.{race_beyond}
use Rattle.sweep_base.proofs.Public.{least_none, least_keep, least_take, least_fails, least_holds}
use Rattle.sweep_base.specs.BlockRules.{IsLeast, IsLowest, NoneLow}
use Rattle.race_pairs.proofs.races.first_of_block.Goals as goal
use Rattle.race_pairs.proofs.races.first_of_block.Goals.{in-Some, in_default}

pub loop-line-init : goal.loop-line-init
loop-line-init c = record { least = least_none (RaceAt c.args.graph.now) c.args.first 0 c.args.first (λ b m h. (λ below k. absurd (omega (arith, below, h)))) }

pub loop-line-preserved : goal.loop-line-preserved
loop-line-preserved c =
    let R : ℕ → ℕ → Type 0 = RaceAt c.args.graph.now in
    let first = c.args.first in
    let n = c.loop-line.line in
    let inv = c.loop-line.invariant.least in
    elim c.match-first_of.branch [
      | in-Some w ↦ record {
        least = subst (λ z. IsLeast R first z c.match-first_of.found (n + 1)) (sym w.limit-is) (subst (λ z. IsLeast R first w.in-Some.bit z (n + 1)) (sym w.found-is)
            (least_take R first c.loop-line.limit c.loop-line.found n w.in-Some.bit inv (subst (λ z. IsLowest R z c.loop-line.limit n w.in-Some.bit) c.in_ok-rivals.ensures.first w.in-Some.ensures)));
      }
      | in_default w ↦ record {
        least = subst (λ z. IsLeast R first z c.match-first_of.found (n + 1)) (sym w.limit-is) (subst (λ z. IsLeast R first c.loop-line.limit z (n + 1)) (sym w.found-is)
            (least_keep R first c.loop-line.limit c.loop-line.found n inv (subst (λ z. NoneLow R z c.loop-line.limit n) c.in_ok-rivals.ensures.first w.in_default.ensures)));
      }
    ]

pub returns-then-limit-lt64 : goal.returns-then-limit-lt64
returns-then-limit-lt64 c = least_fails (RaceAt c.args.graph.now) c.args.first c.loop-line.limit c.loop-line.found (length c.args.graph.now.lines) (λ i j h. race_beyond c.args.graph.now i j h) c.if-limit-lt64.true (subst (λ z. IsLeast (RaceAt c.args.graph.now) c.args.first c.loop-line.limit c.loop-line.found z) (let e : c.loop-line.line ≡ length c.args.graph.now.lines = omega (arith, c.loop-line-test.false, c.loop-line.auto.line-end (omega (arith, c.requires.first, c.lines-lines.ensures.number)), c.lines-lines.ensures.number) in e) c.loop-line.invariant.least)

pub returns : goal.returns
returns c = least_holds (RaceAt c.args.graph.now) c.args.first c.loop-line.limit c.loop-line.found (length c.args.graph.now.lines) c.if-limit-lt64.false (subst (λ z. IsLeast (RaceAt c.args.graph.now) c.args.first c.loop-line.limit c.loop-line.found z) (let e : c.loop-line.line ≡ length c.args.graph.now.lines = omega (arith, c.loop-line-test.false, c.loop-line.auto.line-end (omega (arith, c.requires.first, c.lines-lines.ensures.number)), c.lines-lines.ensures.number) in e) c.loop-line.invariant.least)
