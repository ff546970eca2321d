use Rattle.std.proofs.Common.{◌-◌, ◌<◌, arith}
use Rattle.graph_meaning.specs.Path.{HasPath}
use Rattle.race_pairs.proofs.Freeing.{later_above}
use Rattle.race_pairs.proofs.Chains.{chain_more, none_more}
use Rattle.race_pairs.proofs.chained.chained_lines.Goals as goal
use Rattle.race_pairs.proofs.chained.chained_lines.Goals.{else-line-first-via-then-line-first+else-not-waits_for, else-line-first-via-else-line-first}

pub loop-line-init : goal.loop-line-init
loop-line-init c = record {
  begins = omega arith;
  free = later_above c.args.graph.now c.args.first c.requires.above;
  chain = λ i begins low. absurd (omega (arith, begins, low));
}

pub loop-line-preserved : goal.loop-line-preserved
loop-line-preserved c =
    let g = c.args.graph.now in
    let first = c.args.first in
    let n = c.loop-line.line in
    let inv = c.loop-line.invariant in
    let edge : first < n → HasPath g (n - 1) n = elim c.else-line-first.branch [
      | else-line-first-via-then-line-first+else-not-waits_for w ↦ (λ h. w.waits_for.ensures w.if-not-waits_for.false)
      | else-line-first-via-else-line-first w ↦ (λ h. absurd (omega (arith, h, w.if-line-first.false)))
    ] in
    record {
      begins = (let b = inv.begins in omega (arith, b));
      free = none_more g first n inv.chain edge c.requires.above inv.free;
      chain = chain_more g first n inv.chain edge;
    }
